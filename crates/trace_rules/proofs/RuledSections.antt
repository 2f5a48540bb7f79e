-- The calls of a section keep their rules as the section, and the opening that they may name, grow.
use Rattle.std.proofs.Common.{◌≡◌, ℕ, zero, suc, ◌-◌, ◌<◌, Bool, true, false, if◌then◌else◌, List, [], ◌∷◌, ◌++◌, slice_get, Option, Some, None, refl, sym, subst, append-nil, append_assoc}
use Rattle.vm_model.specs.declared.calls.Call.{Call}
use Rattle.vm_model.specs.declared.calls.Call.TheVariants as call
use Rattle.vm_model.specs.declared.calls.Target.{Target}
use Rattle.vm_model.specs.Calls.{words_for}
use Rattle.vm_model.specs.Setup.{Setup}
use Rattle.vm_model.specs.Rules.{named_call, IsVmallocCall, IsMapRamCall, IsAllocCall, IsRuled, AreRuled}

-- one call more in a section
pub ruled-append : (c : Setup) (opening before calls : List Call) (x : Call) → AreRuled c opening before calls → IsRuled c opening (before ++ calls) x → AreRuled c opening before (calls ++ x ∷ [])
ruled-append c opening before [] x h is = (subst (λ b. IsRuled c opening b x) (append-nil before) is, tt)
ruled-append c opening before (y ∷ calls) x h is =
    (h.0, ruled-append c opening (before ++ y ∷ []) calls x h.1 (subst (λ b. IsRuled c opening b x) (sym (append_assoc before (y ∷ []) calls)) is))

get_front : {X : Type 0} (xs ys : List X) (i : ℕ) (x : X) → slice_get xs i ≡ Some x → slice_get (xs ++ ys) i ≡ Some x
get_front [] ys i x h = cc
get_front (y ∷ xs) ys zero x h = h
get_front (y ∷ xs) ys (suc i) x h = get_front xs ys i x h

-- and one more in the opening, as the others see it
front : (P : Option Call → Type 0) → (P None → ⊥) → (xs ys : List Call) (i : ℕ) (o : Option Call) → slice_get xs i ≡ o → P o → P (slice_get (xs ++ ys) i)
front P none xs ys i None e h = absurd (none h)
front P none xs ys i (Some x) e h = subst P (sym (get_front xs ys i x e)) h

still_named : (P : Option Call → Type 0) → (P None → ⊥) → (opening more before : List Call) (t : Target) → P (named_call opening before t) → P (named_call (opening ++ more) before t)
still_named P none opening more before t h = by_section t.opening h
  where
    by_section : (b : Bool) → P (slice_get (if b then opening else before) (t.call - 1)) → P (slice_get (if b then opening ++ more else before) (t.call - 1))
    by_section true h = front P none opening more (t.call - 1) (slice_get opening (t.call - 1)) refl h
    by_section false h = h

pub still_ruled : (c : Setup) (opening more before : List Call) (x : Call) → IsRuled c opening before x → IsRuled c (opening ++ more) before x
still_ruled c opening more before (call.Vmalloc bytes align) h = tt
still_ruled c opening more before (call.Vfree t) h = (h.0, still_named IsVmallocCall (λ h. h) opening more before t h.1)
still_ruled c opening more before (call.MapRam cpu pages) h = h
still_ruled c opening more before (call.UnmapRam t) h = (h.0, still_named IsMapRamCall (λ h. h) opening more before t h.1)
still_ruled c opening more before call.UnmapAliases h = tt
still_ruled c opening more before (call.AllocPercpu bytes align) h = tt
still_ruled c opening more before (call.AllocAtomic bytes align) h = tt
still_ruled c opening more before (call.FreePercpu t) h = (h.0, h.1, still_named (IsAllocCall (λ bytes. Unit {0})) (λ h. h) opening more before t h.2)
still_ruled c opening more before (call.Add t cpu index amount) h = (h.0, h.1, still_named (IsAllocCall (λ bytes. index < words_for bytes)) (λ h. h) opening more before t h.2)
still_ruled c opening more before (call.Sum t index) h = (h.0, still_named (IsAllocCall (λ bytes. index < words_for bytes)) (λ h. h) opening more before t h.1)
still_ruled c opening more before call.Balance h = tt

pub ruled_later : (c : Setup) (opening more before calls : List Call) → AreRuled c opening before calls → AreRuled c (opening ++ more) before calls
ruled_later c opening more before [] h = tt
ruled_later c opening more before (x ∷ calls) h = (still_ruled c opening more before x h.0, ruled_later c opening more (before ++ x ∷ []) calls h.1)
