-- The pages that a search finds are free, and each of them is found once.
use Rattle.std.proofs.Common.{◌≡◌, ℕ, zero, suc, ◌+◌, ◌-◌, ◌%◌, ◌<◌, ◌≤◌, Bool, true, false, not, ◌||◌, ◌==◌, nat_le, List, [], ◌∷◌, map, filter, length, slice_get, slice_index, Some, refl, ap, sym, ◌∙◌, subst, arith}
use Rattle.std.specs.List.{list_all}
use Rattle.std.proofs.lemmas.Bool.Decides.{nat_tests}
use Rattle.std.proofs.lemmas.Option.{slice_get-map}
use Rattle.std.proofs.lemmas.List.Sums.{sum_by-cons}
use Rattle.vm_model.specs.declared.areas.Span.{Span}
use Rattle.vm_model.specs.Space.{span, holds, covers, times, one_if, paint, count_from, free_from, one_longer, lowest}
use Rattle.vm_model.specs.Setup.{Setup, groups_at, groups_fit, last_of, highest}
use Rattle.vm_model.specs.PlainMap.{PlainMap, Mark, taken, is_free}
use Rattle.vm_model.specs.Laws.{as_free}
use Rattle.vm_model.specs.Rules.{AreApart, AreDisjoint, IsSetup}
use Rattle.vm_model.proofs.PaintRuns.{lowest_is_free}
use Rattle.map_parts.proofs.Filters.{filter_passes, map_was}
use Rattle.map_parts.proofs.PoolMoves.{free-painted, free-painted_here}
use Rattle.map_parts.proofs.Tests.{both_true, le_test, one_at_most}

pub holds_bounds : (s : Span) (page : ℕ) → holds s page ≡ true → (s.start ≤ page) × (page < s.start + s.pages)
holds_bounds s page h = (grind (arith, nat_tests), grind (arith, nat_tests))

pub holds_within : (s : Span) (page : ℕ) → s.start ≤ page → page < s.start + s.pages → holds s page ≡ true
holds_within s page a b = grind (arith, nat_tests)

not_taken : (marks : List Mark) (page : ℕ) → slice_get (map (λ mark. not (is_free mark)) marks) page ≡ Some false → as_free (slice_get marks page) ≡ 1
not_taken marks page h = grind (arith, slice_get-map, nat_tests)

-- the pages of the lowest fit
pub found_free : (m : PlainMap) (pages align start page : ℕ) → lowest (taken m) pages align ≡ Some start → holds (span start pages) page ≡ true → as_free (slice_get m.marks page) ≡ 1
found_free m pages align start page h on =
    let places = lowest_is_free (taken m) pages align start h in
    let bounds = holds_bounds (span start pages) page on in
    not_taken m.marks page (places.free page bounds.0 bounds.1)

-- from a place on so many are free
moved_on : (b : Bool) (taken : List Bool) (start k : ℕ) → slice_get (b ∷ taken) (suc start + k) ≡ slice_get taken (start + k)
moved_on b taken start k = let e : suc start + k ≡ suc (start + k) = omega arith in ap (slice_get (b ∷ taken)) e

none_below : {A : Type 0} (k n : ℕ) → k < n → n ≡ 0 → A
none_below k n a b = absurd (omega arith)

-- one more free place before the others
free_longer : (taken : List Bool) (counts : List ℕ) (start k : ℕ) → k < slice_index (one_longer counts) start
    → ((start k : ℕ) → k < slice_index counts start → slice_get taken (start + k) ≡ Some false) → slice_get (false ∷ taken) (start + k) ≡ Some false
free_longer taken [] zero k h more = let z : 0 + k ≡ 0 = omega arith in ap (slice_get (false ∷ taken)) z
free_longer taken [] (suc start) k h more = none_below k 0 h refl
free_longer taken (n ∷ counts) zero zero h more = let z : 0 + 0 ≡ 0 = omega arith in ap (slice_get (false ∷ taken)) z
free_longer taken (n ∷ counts) zero (suc k) h more = let z : 0 + suc k ≡ suc (0 + k) = omega arith in ap (slice_get (false ∷ taken)) z ∙ more 0 k (omega arith)
free_longer taken (n ∷ counts) (suc start) k h more = moved_on false taken start k ∙ more start k h

free_run : (taken : List Bool) (start k : ℕ) → k < slice_index (free_from taken) start → slice_get taken (start + k) ≡ Some false
free_run (true ∷ taken) (suc start) k h = moved_on true taken start k ∙ free_run taken start k h
free_run (false ∷ taken) start k h = free_longer taken (free_from taken) start k h (free_run taken)
free_run _ _ k h = none_below k 0 h refl

-- The groups of a chunk.

last_passes : {X : Type 0} (P : X → Type 0) (xs : List X) (x : X) → ((i : ℕ) (y : X) → slice_get xs i ≡ Some y → P y) → last_of xs ≡ Some x → P x
last_passes P [] x h e = absurd cc
last_passes P (y ∷ []) x h e = let same : y ≡ x = cc in subst P same (h 0 y refl)
last_passes P (y ∷ z ∷ xs) x h e = last_passes P (z ∷ xs) x (λ i w at. h (suc i) w at) e

all_pass : {X : Type 0} (test : X → Bool) (xs : List X) → list_all test xs ≡ true → (i : ℕ) (x : X) → slice_get xs i ≡ Some x → test x ≡ true
all_pass test [] h i x at = absurd cc
all_pass test (y ∷ xs) h zero x at = let same : y ≡ x = cc in ap test (sym same) ∙ (both_true _ _ h).0
all_pass test (y ∷ xs) h (suc i) x at = all_pass test xs (both_true (test y) _ h).1 i x at

or_cases : {A : Type 0} (a b : Bool) → (a || b) ≡ true → (a ≡ true → A) → (b ≡ true → A) → A
or_cases true b h f g = f refl
or_cases false b h f g = g h

-- a page that is covered is in one of the spans
pub covered_by : {A : Type 0} (spans : List Span) (page : ℕ) → covers spans page ≡ true → ((i : ℕ) (s : Span) → slice_get spans i ≡ Some s → holds s page ≡ true → A) → A
covered_by [] page h f = absurd cc
covered_by (s ∷ spans) page h f = or_cases (holds s page) (covers spans page) h (λ e. f 0 s refl e) (λ e. covered_by spans page e (λ i t at on. f (suc i) t at on))

pub groups_free : (c : Setup) (m : PlainMap) (base page : ℕ) → highest c (taken m) ≡ Some base → covers (groups_at c base) page ≡ true → as_free (slice_get m.marks page) ≡ 1
groups_free c m base page h on =
    let fit : groups_fit c (free_from (taken m)) base ≡ true =
    last_passes (λ base. groups_fit c (free_from (taken m)) base ≡ true) (filter (groups_fit c (free_from (taken m))) (count_from (length (taken m)) 0)) base
    (filter_passes (groups_fit c (free_from (taken m))) (count_from (length (taken m)) 0)) h in
    covered_by (groups_at c base) page on (λ i s at inside.
    let room = le_test s.pages (slice_index (free_from (taken m)) s.start) (all_pass (λ (s : Span). nat_le s.pages (slice_index (free_from (taken m)) s.start)) (groups_at c base) (both_true (base % c.atom == 0) _ fit).1 i s at) in
    let bounds = holds_bounds s page inside in
    let there : s.start + (page - s.start) ≡ page = omega arith in
    not_taken m.marks page (ap (slice_get (taken m)) (sym there) ∙ free_run (taken m) s.start (page - s.start) (omega arith)))

-- a page is in one of disjoint spans at most
none_of_rest : (page : ℕ) (spans : List Span) → ((i : ℕ) (s : Span) → slice_get spans i ≡ Some s → holds s page ≡ true → ⊥) → times page spans ≡ 0
none_of_rest page [] h = refl
none_of_rest page (s ∷ spans) h =
    omega (arith, sum_by-cons (λ (s : Span). one_if (holds s page)) s spans, not_one (holds s page) (h 0 s refl), none_of_rest page spans (λ i t at on. h (suc i) t at on))
  where
    not_one : (b : Bool) → (b ≡ true → ⊥) → one_if b ≡ 0
    not_one true n = absurd (n refl)
    not_one false n = refl

once_by : (s : Span) (spans : List Span) (page : ℕ) (b : Bool) → holds s page ≡ b → (b ≡ true → times page spans ≡ 0) → times page spans ≤ 1 → times page (s ∷ spans) ≤ 1
once_by s spans page true e none rest = omega (arith, sum_by-cons (λ (s : Span). one_if (holds s page)) s spans, ap one_if e, none refl)
once_by s spans page false e none rest = omega (arith, sum_by-cons (λ (s : Span). one_if (holds s page)) s spans, ap one_if e)

disjoint_once : (spans : List Span) → AreDisjoint spans → (page : ℕ) → times page spans ≤ 1
disjoint_once [] d page = omega arith
disjoint_once (s ∷ spans) d page =
    once_by s spans page (holds s page) refl (λ e. none_of_rest page spans (λ i t at on. d 0 (suc i) s t (omega arith) refl at page e on))
    (disjoint_once spans (λ i j t u l a b. d (suc i) (suc j) t u (omega arith) a b) page)

shifted_apart : (base page : ℕ) (s t : Span) → AreApart s t → holds (span (base + s.start) s.pages) page ≡ true → holds (span (base + t.start) t.pages) page ≡ true → ⊥
shifted_apart base page s t apart a b =
    let x = holds_bounds (span (base + s.start) s.pages) page a in
    let y = holds_bounds (span (base + t.start) t.pages) page b in
    apart (page - base) (holds_within s (page - base) (omega arith) (omega arith)) (holds_within t (page - base) (omega arith) (omega arith))

groups_disjoint : (c : Setup) (base : ℕ) → AreDisjoint c.groups → AreDisjoint (groups_at c base)
groups_disjoint c base d i j s t l a b page on on' =
    let x = map_was (λ (g : Span). span (base + g.start) g.pages) c.groups i s a in
    let y = map_was (λ (g : Span). span (base + g.start) g.pages) c.groups j t b in
    shifted_apart base page x.0 y.0 (d i j x.0 y.0 l x.1 y.1) (ap (λ s. holds s page) x.2 ∙ on) (ap (λ t. holds t page) y.2 ∙ on')

pub groups_once : (c : Setup) (base page : ℕ) → IsSetup c → times page (groups_at c base) ≤ 1
groups_once c base page is = disjoint_once (groups_at c base) (groups_disjoint c base is.groups.apart) page

-- What is carved passes from the free pages to the caller.

times_none : (spans : List Span) (page : ℕ) → covers spans page ≡ false → times page spans ≡ 0
times_none [] page h = refl
times_none (s ∷ spans) page h = grind (arith, times_none spans page, sum_by-cons, nat_tests)

carved_by : (test : ℕ → Bool) (mark : Mark) (marks : List Mark) (spans : List Span) (page : ℕ) (b : Bool) → is_free mark ≡ false → test page ≡ b → covers spans page ≡ b → times page spans ≤ 1
    → (b ≡ true → as_free (slice_get marks page) ≡ 1) → as_free (slice_get (paint test mark marks) page) + times page spans ≤ as_free (slice_get marks page)
carved_by test mark marks spans page true f e g once free = omega (arith, free-painted_here test mark marks page f e, free refl)
carved_by test mark marks spans page false f e g once free = omega (arith, free-painted test mark marks page f, times_none spans page g)

pub carved_balance : (test : ℕ → Bool) (mark : Mark) (marks : List Mark) (spans : List Span) (page : ℕ) → is_free mark ≡ false → test page ≡ covers spans page → times page spans ≤ 1
    → (covers spans page ≡ true → as_free (slice_get marks page) ≡ 1) → as_free (slice_get (paint test mark marks) page) + times page spans ≤ as_free (slice_get marks page)
carved_balance test mark marks spans page f same once free = carved_by test mark marks spans page (covers spans page) f same refl once free

pub one_span_once : (s : Span) (page : ℕ) → times page (s ∷ []) ≤ 1
one_span_once s page = omega (arith, one_at_most (holds s page))
