-- The sections of a trace have no more calls than its lines.
use Rattle.std.proofs.Common.{◌≡◌, ℕ, zero, suc, ◌+◌, ◌≤◌, Bool, true, false, ◌==◌, cond, nat_le, List, [], ◌∷◌, length, map, filter, slice_get, Some, sum_by, count_by, refl, arith}
use Rattle.std.specs.List.{range_with_len}
use Rattle.std.proofs.lemmas.Bool.Decides.{nat_tests}
use Rattle.std.proofs.lemmas.List.Sums.{sum_by-cons, count_by-le-length}
use Rattle.vm_model.specs.declared.calls.Call.{Call}
use Rattle.trace_text.specs.Reading.{Made, calls_of}

-- how many lines stand in the sections of callers from one on
abbrev pub lines_from : ℕ → List Made → ℕ
lines_from caller calls = count_by (λ (m : Made). nat_le caller m.caller) calls

-- a line stands in its own section or behind it
one_line : (caller own : ℕ) → cond (own == caller) 1 0 + cond (nat_le (caller + 1) own) 1 0 ≤ cond (nat_le caller own) 1 0
one_line caller own = by_tests (own == caller) (nat_le (caller + 1) own) (nat_le caller own) refl refl refl
  where
    by_tests : (a b c : Bool) → (own == caller) ≡ a → nat_le (caller + 1) own ≡ b → nat_le caller own ≡ c → cond a 1 0 + cond b 1 0 ≤ cond c 1 0
    by_tests a b true same behind from = both a b same behind
      where
        both : (a b : Bool) → (own == caller) ≡ a → nat_le (caller + 1) own ≡ b → cond a 1 0 + cond b 1 0 ≤ 1
        both true true same behind = absurd (grind (arith, nat_tests))
        both true false same behind = omega arith
        both false true same behind = omega arith
        both false false same behind = omega arith
    by_tests true b false same behind from = absurd (grind (arith, nat_tests))
    by_tests false true false same behind from = absurd (grind (arith, nat_tests))
    by_tests false false false same behind from = omega arith

kept_length : (b : Bool) (m : Made) (calls : List Made) → length (map (λ (m : Made). m.call) (cond b (m ∷ calls) calls)) ≡ cond b 1 0 + length (map (λ (m : Made). m.call) calls)
kept_length true m calls = omega arith
kept_length false m calls = omega arith

one_section : (caller : ℕ) (calls : List Made) → length (calls_of caller calls) + lines_from (caller + 1) calls ≤ lines_from caller calls
one_section caller [] = omega arith
one_section caller (m ∷ calls) = omega (
  arith,
  one_section caller calls,
  one_line caller m.caller,
  kept_length (m.caller == caller) m (filter (λ (m : Made). m.caller == caller) calls),
  sum_by-cons (λ (m : Made). cond (nat_le caller m.caller) 1 0) m calls,
  sum_by-cons (λ (m : Made). cond (nat_le (caller + 1) m.caller) 1 0) m calls,
)

sections_from : (first n : ℕ) (calls : List Made) → sum_by length (map (λ k. calls_of k calls) (range_with_len first n)) ≤ lines_from first calls
sections_from first zero calls = omega arith
sections_from first (suc n) calls = omega (
  arith,
  one_section first calls,
  sections_from (first + 1) n calls,
  sum_by-cons {X = List Call} length (calls_of first calls) (map (λ k. calls_of k calls) (range_with_len (first + 1) n)),
)

pub sections_length : (n : ℕ) (calls : List Made) → sum_by length (map (λ k. calls_of k calls) (range_with_len 0 n)) ≤ length calls
sections_length n calls = omega (arith, sections_from 0 n calls, count_by-le-length (λ (m : Made). nat_le 0 m.caller) calls)

-- each section of a row of sections is a caller's
pub section_at : {X : Type 0} (f : ℕ → X) (first n k : ℕ) (own : X) → slice_get (map f (range_with_len first n)) k ≡ Some own → (caller : ℕ) × (f caller ≡ own)
section_at f first zero k own h = cc
section_at f first (suc n) zero own h = (first, (let e : f first ≡ own = cc in e))
section_at f first (suc n) (suc k) own h = section_at f (first + 1) n k own h
