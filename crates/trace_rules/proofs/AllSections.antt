-- The calls of every section keep their rules after one more line of a call.
use Rattle.std.proofs.Common.{◌≡◌, ℕ, zero, suc, inl, inr, true, ◌==◌, nat_lt, List, [], ◌∷◌, ◌++◌, refl, sym, subst, arith}
use Rattle.std.proofs.lemmas.Bool.{cases_Bool}
use Rattle.std.proofs.lemmas.Bool.Decides.{nat_tests}
use Rattle.vm_model.specs.declared.calls.Call.{Call}
use Rattle.vm_model.specs.Setup.{Setup, cpus}
use Rattle.vm_model.specs.Rules.{IsRuled, AreRuled}
use Rattle.trace_text.specs.Reading.{Reading, Made, calls_of, cpus_of, with_call}
use Rattle.trace_text.proofs.SectionCalls.{calls_of-append, own-append, others-append}
use Rattle.trace_rules.proofs.RuledSections.{ruled-append, still_ruled, ruled_later}

-- the opening's calls, as the calls of this section may name them
abbrev pub opening_before : ℕ → List Made → List Call
opening_before zero calls = []
opening_before (suc caller) calls = calls_of 0 calls

pub opening_from : (caller : ℕ) (calls : List Made) → nat_lt 0 caller ≡ true → opening_before caller calls ≡ calls_of 0 calls
opening_from zero calls e = cc
opening_from (suc caller) calls e = refl

opening-append : (caller : ℕ) (calls : List Made) (m : Made) → opening_before caller (calls ++ m ∷ []) ≡ opening_before caller calls ++ opening_before caller (m ∷ [])
opening-append zero calls m = refl
opening-append (suc caller) calls m = calls_of-append 0 calls m

-- each call of each section may stand on a machine with the processors of the header
abbrev pub AreAllRuled : Reading → Type 0
AreAllRuled r = (c : Setup) → cpus c ≡ cpus_of r.header → (caller : ℕ) → AreRuled c (opening_before caller r.calls) [] (calls_of caller r.calls)

-- a call that may stand next in the open section
abbrev pub MayBeNext : Reading → Call → Type 0
MayBeNext r x = (c : Setup) → cpus c ≡ cpus_of r.header → IsRuled c (opening_before r.caller r.calls) (calls_of r.caller r.calls) x

pub none_ruled : (c : Setup) (caller : ℕ) → AreRuled c (opening_before caller []) [] (calls_of caller [])
none_ruled c zero = tt
none_ruled c (suc caller) = tt

-- the line of a call in the open section
abbrev made : Reading → Call → Made
made r x = record { caller = r.caller; call = x }

module _ (r : Reading) (x : Call) (all : AreAllRuled r) (next : MayBeNext r x) (c : Setup) (many : cpus c ≡ cpus_of r.header) where
  -- the calls that were there, after an opening with one more
  were_there : (caller : ℕ) → AreRuled c (opening_before caller (r.calls ++ made r x ∷ [])) [] (calls_of caller r.calls)
  were_there caller =
      subst (λ opening. AreRuled c opening [] (calls_of caller r.calls)) (sym (opening-append caller r.calls (made r x)))
      (ruled_later c (opening_before caller r.calls) (opening_before caller (made r x ∷ [])) [] (calls_of caller r.calls) (all c many caller))

  -- and the new one behind them
  new_there : IsRuled c (opening_before r.caller (r.calls ++ made r x ∷ [])) (calls_of r.caller r.calls) x
  new_there =
      subst (λ opening. IsRuled c opening (calls_of r.caller r.calls) x) (sym (opening-append r.caller r.calls (made r x)))
      (still_ruled c (opening_before r.caller r.calls) (opening_before r.caller (made r x ∷ [])) (calls_of r.caller r.calls) x (next c many))

  own_ruled : AreRuled c (opening_before r.caller (r.calls ++ made r x ∷ [])) [] (calls_of r.caller (r.calls ++ made r x ∷ []))
  own_ruled =
      subst (AreRuled c (opening_before r.caller (r.calls ++ made r x ∷ [])) []) (sym (own-append r.calls r.caller x))
      (ruled-append c (opening_before r.caller (r.calls ++ made r x ∷ [])) [] (calls_of r.caller r.calls) x (were_there r.caller) new_there)

  one_more_in : (caller : ℕ) → AreRuled c (opening_before caller (r.calls ++ made r x ∷ [])) [] (calls_of caller (r.calls ++ made r x ∷ []))
  one_more_in caller = elim (cases_Bool (r.caller == caller)) [
    | inl e ↦
        let same : r.caller ≡ caller = grind (arith, nat_tests) in
        subst (λ k. AreRuled c (opening_before k (r.calls ++ made r x ∷ [])) [] (calls_of k (r.calls ++ made r x ∷ []))) same own_ruled
    | inr e ↦
        subst (AreRuled c (opening_before caller (r.calls ++ made r x ∷ [])) []) (sym (others-append r.calls r.caller caller x (λ same. grind (arith, nat_tests)))) (were_there caller)
  ]

-- one more line of a call
pub one_more : (r : Reading) (x : Call) → AreAllRuled r → MayBeNext r x → AreAllRuled (with_call r x)
one_more r x all next c many caller = one_more_in r x all next c many caller
