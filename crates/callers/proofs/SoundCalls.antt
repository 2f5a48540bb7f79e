-- Calls that keep a trace's rules are sound.
use Rattle.std.proofs.Common.{◌≡◌, ℕ, zero, suc, ◌+◌, ◌-◌, if◌then◌else◌, List, [], ◌∷◌, ◌++◌, length, slice_get, Option, Some, None, refl, ap, sym, subst, ◌∙◌, arith, length-append}
use Rattle.std.proofs.lemmas.Option.{slice_get_within}
use Rattle.vm_model.specs.declared.calls.Call.{Call}
use Rattle.vm_model.specs.declared.calls.Call.TheVariants.{MapRam, FreePercpu, Add, Sum}
use Rattle.vm_model.specs.Setup.{Setup}
use Rattle.vm_model.specs.Rules.{IsSetup, IsAllocCall, IsRuled, AreRuled, named_call}
use Rattle.callers.specs.CallerParts.{IsSoundCall, AreSound}

-- a call for an object is there
alloc_there : (P : ℕ → Type 0) (o : Option Call) → IsAllocCall P o → (call : Call) × (o ≡ Some call)
alloc_there P None is = absurd is
alloc_there P (Some call) is = (call, refl)

module _ (c : Setup) (setup : IsSetup c) (opening : List Call) where
  ruled_call : (before : List Call) (call : Call) → IsRuled c opening before call → IsSoundCall (length before) call
  ruled_call before (MapRam cpu pages) is = let few = setup.units.few in omega arith
  ruled_call before (FreePercpu t) is =
      let (call, at) = alloc_there _ (named_call opening before t) is.2 in
      let low = is.0 in
      let inside = slice_get_within before (t.call - 1) call (ap (λ b. slice_get (if b then opening else before) (t.call - 1)) (sym is.1) ∙ at) in
      (low, omega arith)
  ruled_call before (Add t cpu index amount) is = let few = setup.units.few in let there = is.1 in (is.0, omega arith)
  ruled_call before (Sum t index) is = is.0
  ruled_call before _ is = tt

  ruled_from : (before calls : List Call) → AreRuled c opening before calls → (i : ℕ) (call : Call) → slice_get calls i ≡ Some call → IsSoundCall (length before + i) call
  ruled_from before [] are i call at = cc
  ruled_from before (own ∷ calls) are zero call at =
      let same : own ≡ call = cc in
      let here : length before ≡ length before + 0 = omega arith in
      subst (λ n. IsSoundCall n call) here (subst (IsSoundCall (length before)) same (ruled_call before own are.0))
  ruled_from before (own ∷ calls) are (suc i) call at =
      let next : length (before ++ own ∷ []) + i ≡ length before + suc i = omega (arith, length-append before (own ∷ [])) in
      subst (λ n. IsSoundCall n call) next (ruled_from (before ++ own ∷ []) calls are.1 i call at)

  pub ruled_sound : (calls : List Call) → AreRuled c opening [] calls → AreSound calls
  ruled_sound calls are i call at = let here : 0 + i ≡ i = omega arith in subst (λ n. IsSoundCall n call) here (ruled_from [] calls are i call at)
