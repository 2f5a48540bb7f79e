-- The longest run is the leftmost of the longest free spans.
use Rattle.std.proofs.Common.{◌≡◌, ℕ, zero, suc, ◌+◌, ◌-◌, ◌<◌, ◌≤◌, ◌⊎◌, inl, inr, Bool, true, false, ◌||◌, nat_le, if◌then◌else◌, List, [], ◌∷◌, length, refl, ap, sym, ◌∙◌, arith}
use Rattle.std.proofs.lemmas.Bool.{cases_lt}
use Rattle.std.proofs.lemmas.Bool.Decides.{nat_tests}
use Rattle.vm_model.specs.declared.areas.Span.{Span}
use Rattle.vm_model.specs.Space.{end_of, holds, covers, runs, AreSeparateFrom, is_free_at, longer, longest_of, longest}
use Rattle.vm_model.specs.Hints.{IsFreeSpan, IsLongestIn, TheLongestRunIsTheOnlyOne, TheLongestRunIsLongest}
use Rattle.vm_model.proofs.Runs.{holds-above, covers-below, covers-head, covers-runs, normal-runs_from}

or_is_false : (a b : Bool) → a ≡ false → b ≡ false → (a || b) ≡ false
or_is_false a b p q = grind arith

or_is_true : (a b : Bool) → a ≡ true → (a || b) ≡ true
or_is_true a b p = grind arith

or_later : (a b : Bool) → b ≡ true → (a || b) ≡ true
or_later true b p = refl
or_later false b p = p

behind_head : (a b : Bool) → a ≡ false → (a || b) ≡ true → b ≡ true
behind_head true b p q = cc
behind_head false b p q = q

-- the longer of two spans
pub longer_first : (s best : Span) → best.pages ≤ s.pages → longer s best ≡ s
longer_first s best h = let e : nat_le best.pages s.pages ≡ true = grind (arith, nat_tests) in ap (λ b. if b then s else best) e

pub longer_second : (s best : Span) → s.pages < best.pages → longer s best ≡ best
longer_second s best h = let e : nat_le best.pages s.pages ≡ false = grind (arith, nat_tests) in ap (λ b. if b then s else best) e

-- all places of a span are covered
abbrev AreCovered : List Span → (start pages : ℕ) → Type 0
AreCovered spans start pages = (place : ℕ) → start ≤ place → place < start + pages → covers spans place ≡ true

-- as long as each covered span, and not behind one that is as long
abbrev IsBest : List Span → Span → Type 0
IsBest spans s = (start pages : ℕ) → 0 < pages → AreCovered spans start pages → (pages ≤ s.pages) × (pages ≡ s.pages → s.start ≤ start)

in_head : (low : ℕ) (s : Span) (spans : List Span) (start pages : ℕ) → AreSeparateFrom low (s ∷ spans) → 0 < pages → AreCovered (s ∷ spans) start pages → start ≤ end_of s → (s.start ≤ start) × (start + pages ≤ end_of s)
in_head low s spans start pages n some are under =
    let from : s.start ≤ start = not_before (cases_lt start s.start) in
    (from, not_past (cases_lt (end_of s) (start + pages)))
  where
    not_before : (start < s.start) ⊎ (s.start ≤ start) → s.start ≤ start
    not_before (inl h) = let none = covers-below s.start (s ∷ spans) start (omega arith, n.1, n.2) h in let yes = are start (omega arith) (omega arith) in cc
    not_before (inr h) = h

    not_past : (end_of s < start + pages) ⊎ (start + pages ≤ end_of s) → start + pages ≤ end_of s
    not_past (inl h) =
        let none = or_is_false (holds s (end_of s)) (covers spans (end_of s)) (holds-above s (end_of s) (omega arith)) (covers-below (suc (end_of s)) spans (end_of s) n.2 (omega arith)) in
        let yes = are (end_of s) under h in cc
    not_past (inr h) = h

best_of : (s best : Span) (start pages : ℕ) → (best.pages ≤ s.pages) ⊎ (s.pages < best.pages) → (pages ≤ s.pages) × (pages ≡ s.pages → s.start ≤ start) → (pages ≤ (longer s best).pages) × (pages ≡ (longer s best).pages → (longer s best).start ≤ start)
best_of s best start pages (inl h) are = let e = longer_first s best h in
    (omega (arith, ap (λ (t : Span). t.pages) e, are.0), λ same. omega (arith, ap (λ (t : Span). t.start) e, are.1 (omega (arith, ap (λ (t : Span). t.pages) e))))
best_of s best start pages (inr h) are = let e = longer_second s best h in
    (omega (arith, ap (λ (t : Span). t.pages) e, are.0), λ same. absurd (omega (arith, ap (λ (t : Span). t.pages) e, are.0)))

best_behind : (s best : Span) (start pages : ℕ) → (best.pages ≤ s.pages) ⊎ (s.pages < best.pages) → s.start ≤ start → (pages ≤ best.pages) × (pages ≡ best.pages → best.start ≤ start)
    → (pages ≤ (longer s best).pages) × (pages ≡ (longer s best).pages → (longer s best).start ≤ start)
best_behind s best start pages (inl h) low are = let e = longer_first s best h in
    (omega (arith, ap (λ (t : Span). t.pages) e, are.0), λ same. omega (arith, ap (λ (t : Span). t.start) e))
best_behind s best start pages (inr h) low are = let e = longer_second s best h in
    (omega (arith, ap (λ (t : Span). t.pages) e, are.0), λ same. omega (arith, ap (λ (t : Span). t.start) e, are.1 (omega (arith, ap (λ (t : Span). t.pages) e))))

cases_le : (a b : ℕ) → (a ≤ b) ⊎ (b < a)
cases_le a b = by_cases (cases_lt b a)
  where
    by_cases : (b < a) ⊎ (a ≤ b) → (a ≤ b) ⊎ (b < a)
    by_cases (inl h) = inr h
    by_cases (inr h) = inl h

is_best : (low : ℕ) (spans : List Span) → AreSeparateFrom low spans → IsBest spans (longest_of spans)
is_best low [] n start pages some are = let yes = are start (omega arith) (omega arith) in cc
is_best low (s ∷ spans) n start pages some are = by_cases (is_best (suc (end_of s)) spans n.2 start pages some) (cases_lt (end_of s) start)
  where
    by_cases : (AreCovered spans start pages → (pages ≤ (longest_of spans).pages) × (pages ≡ (longest_of spans).pages → (longest_of spans).start ≤ start)) → (end_of s < start) ⊎ (start ≤ end_of s)
        → (pages ≤ (longest_of (s ∷ spans)).pages) × (pages ≡ (longest_of (s ∷ spans)).pages → (longest_of (s ∷ spans)).start ≤ start)
    by_cases rest (inl h) =
        best_behind s (longest_of spans) start pages (cases_le (longest_of spans).pages s.pages) (omega arith)
        (rest (λ place a b. behind_head (holds s place) (covers spans place) (holds-above s place (omega arith)) (are place a b)))
    by_cases rest (inr h) =
        let inside = in_head low s spans start pages n some are h in
        best_of s (longest_of spans) start pages (cases_le (longest_of spans).pages s.pages) (omega (arith, inside.0, inside.1), λ same. inside.0)

-- it is one of the spans, or there is none
longest_covered : (low : ℕ) (spans : List Span) → AreSeparateFrom low spans → AreCovered spans (longest_of spans).start (longest_of spans).pages
longest_covered low [] n place a b = absurd (omega arith)
longest_covered low (s ∷ spans) n place a b = by_cases (longest_covered (suc (end_of s)) spans n.2 place) (cases_le (longest_of spans).pages s.pages)
  where
    by_cases : ((longest_of spans).start ≤ place → place < (longest_of spans).start + (longest_of spans).pages → covers spans place ≡ true) → ((longest_of spans).pages ≤ s.pages) ⊎ (s.pages < (longest_of spans).pages) → covers (s ∷ spans) place ≡ true
    by_cases rest (inl h) = let e = longer_first s (longest_of spans) h in
        covers-head s spans place (omega (arith, ap (λ (t : Span). t.start) e)) (omega (arith, ap (λ (t : Span). t.start) e, ap (λ (t : Span). t.pages) e))
    by_cases rest (inr h) = let e = longer_second s (longest_of spans) h in
        or_later (holds s place) (covers spans place)
        (rest (omega (arith, ap (λ (t : Span). t.start) e)) (omega (arith, ap (λ (t : Span). t.start) e, ap (λ (t : Span). t.pages) e)))

no_pages : (low : ℕ) (spans : List Span) → AreSeparateFrom low spans → (longest_of spans).pages ≡ 0 → (longest_of spans).start ≡ 0
no_pages low [] n h = refl
no_pages low (s ∷ spans) n h = by_cases (cases_le (longest_of spans).pages s.pages)
  where
    by_cases : ((longest_of spans).pages ≤ s.pages) ⊎ (s.pages < (longest_of spans).pages) → (longest_of (s ∷ spans)).start ≡ 0
    by_cases (inl l) = let some = n.1 in absurd (omega (arith, ap (λ (t : Span). t.pages) (longer_first s (longest_of spans) l)))
    by_cases (inr l) = absurd (omega (arith, ap (λ (t : Span). t.pages) (longer_second s (longest_of spans) l)))

pub is_free_within : (bits : List Bool) (place : ℕ) → is_free_at bits place ≡ true → place < length bits
is_free_within [] place h = cc
is_free_within (b ∷ bits) zero h = omega arith
is_free_within (b ∷ bits) (suc place) h = omega (arith, is_free_within bits place h)

ends_within : (bits : List Bool) (s : Span) → IsFreeSpan bits s → (s.pages ≡ 0 → s.start ≡ 0) → (s.pages ≡ 0) ⊎ (0 < s.pages) → end_of s ≤ length bits
ends_within bits s free none (inl e) = let f = none e in omega arith
ends_within bits s free none (inr some) = omega (arith, is_free_within bits (end_of s - 1) (free (end_of s - 1) (omega arith) (omega arith)))

cases_zero : (n : ℕ) → (n ≡ 0) ⊎ (0 < n)
cases_zero zero = inl refl
cases_zero (suc n) = inr (omega arith)

pub the_longest_run_is_longest : TheLongestRunIsLongest
the_longest_run_is_longest bits =
    let separate = normal-runs_from 0 bits in
    let free : IsFreeSpan bits (longest bits) = λ place a b. sym (covers-runs bits place) ∙ longest_covered 0 (runs bits) separate place a b in
    let none : (longest bits).pages ≡ 0 → (longest bits).start ≡ 0 = no_pages 0 (runs bits) separate in
    record {
      free = free;
      after = omega arith;
      within = ends_within bits (longest bits) free none (cases_zero (longest bits).pages);
      longest = λ start pages low high some are. is_best 0 (runs bits) separate start pages some (λ place a b. covers-runs bits place ∙ are place a b);
      none = none;
    }

pub same_span_of : (s t : Span) → s.start ≡ t.start → s.pages ≡ t.pages → s ≡ t
same_span_of s t a b = λ i. record { start = a i; pages = b i }

-- two longest spans are one
same_longest : (bits : List Bool) (low high : ℕ) (s t : Span) → IsLongestIn bits low high s → IsLongestIn bits low high t → (s.pages ≡ 0) ⊎ (0 < s.pages) → (t.pages ≡ 0) ⊎ (0 < t.pages) → s ≡ t
same_longest bits low high s t a b (inl e) (inl f) = let p = a.none e in let q = b.none f in same_span_of s t (omega arith) (omega arith)
same_longest bits low high s t a b (inl e) (inr g) = let p = b.after in let q = b.within in absurd (omega (arith, (a.longest t.start t.pages p q g b.free).0))
same_longest bits low high s t a b (inr g) (inl f) = let p = a.after in let q = a.within in absurd (omega (arith, (b.longest s.start s.pages p q g a.free).0))
same_longest bits low high s t a b (inr g) (inr h) =
    let x = b.longest s.start s.pages a.after a.within g a.free in
    let y = a.longest t.start t.pages b.after b.within h b.free in
    let pages : s.pages ≡ t.pages = omega (arith, x.0, y.0) in
    same_span_of s t (omega (arith, x.1 pages, y.1 (sym pages))) pages

pub only_longest : (bits : List Bool) (low high : ℕ) (s t : Span) → IsLongestIn bits low high s → IsLongestIn bits low high t → s ≡ t
only_longest bits low high s t a b = same_longest bits low high s t a b (cases_zero s.pages) (cases_zero t.pages)

pub the_longest_run_is_the_only_one : TheLongestRunIsTheOnlyOne
the_longest_run_is_the_only_one bits s is = only_longest bits 0 (length bits) s (longest bits) is (the_longest_run_is_longest bits)
