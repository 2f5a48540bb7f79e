-- Where the amounts of all lines are small, those of each section are.
use Rattle.std.proofs.Common.{◌≡◌, ℕ, zero, suc, Bool, true, false, ◌==◌, cond, List, [], ◌∷◌, ◌++◌, map, filter, slice_get, Some, subst}
use Rattle.vm_model.specs.declared.calls.Call.{Call}
use Rattle.trace_text.specs.Reading.{Made, calls_of}
use Rattle.section_laws.specs.Lawful.{IsSmall, AreSmall}

abbrev pub AreSmallLines : List Made → Type 0
AreSmallLines [] = Unit {0}
AreSmallLines (m ∷ calls) = IsSmall m.call × AreSmallLines calls

pub lines-append : (calls : List Made) (m : Made) → AreSmallLines calls → IsSmall m.call → AreSmallLines (calls ++ m ∷ [])
lines-append [] m h v = (v, tt)
lines-append (n ∷ calls) m h v = (h.0, lines-append calls m h.1 v)

kept_by : (caller : ℕ) (m : Made) (calls : List Made) (b : Bool) → IsSmall m.call → AreSmall (calls_of caller calls)
    → AreSmall (map (λ (m : Made). m.call) (cond b (m ∷ filter (λ (m : Made). m.caller == caller) calls) (filter (λ (m : Made). m.caller == caller) calls)))
kept_by caller m calls false is all = all
kept_by caller m calls true is all = first_or
  where
    first_or : (k : ℕ) (c : Call) → slice_get (m.call ∷ calls_of caller calls) k ≡ Some c → IsSmall c
    first_or zero c at = let same : m.call ≡ c = cc in subst IsSmall same is
    first_or (suc k) c at = all k c at

pub all_small : (caller : ℕ) (calls : List Made) → AreSmallLines calls → AreSmall (calls_of caller calls)
all_small caller [] h = λ k c at. cc
all_small caller (m ∷ calls) h = kept_by caller m calls (m.caller == caller) h.0 (all_small caller calls h.1)
