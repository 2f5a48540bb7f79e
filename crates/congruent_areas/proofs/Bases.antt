-- The greatest base is the one at which a search from the top down stops.
use Rattle.std.proofs.Common.{◌≡◌, ℕ, zero, suc, ◌+◌, ◌-◌, ◌%◌, ◌<◌, ◌≤◌, inl, inr, Bool, true, false, cond, ◌&&◌, ◌==◌, nat_le, List, [], ◌∷◌, length, map, filter, slice_index, Some, None, All, refl, ap, sym, ◌∙◌, subst, arith}
use Rattle.std.specs.List.{list_all}
use Rattle.std.proofs.lemmas.Bool.{cases_lt, and_parts, false_from_ne_true}
use Rattle.std.proofs.lemmas.Bool.Decides.{nat_tests}
use Rattle.std.proofs.lemmas.List.Elements.{All-nil, All-cons, All-head, All-tail}
use Rattle.vm_model.specs.declared.areas.Span.{Span}
use Rattle.vm_model.specs.Space.{span, end_of, covers, count_from, free_from, runs, is_free_at}
use Rattle.vm_model.specs.Setup.{Setup, groups_at, groups_fit, last_of, highest}
use Rattle.vm_model.proofs.Runs.{holds-in, covers-runs}
use Rattle.augmented_tree.proofs.FirstStart.{first_of, one_longer-first}
use Rattle.augmented_tree.proofs.FoundBlocks.{last_of-kept}
use Rattle.unit_layout.specs.declared.layout.Group.{Group}
use Rattle.augmented_tree.specs.FreeBlocks.{IsFree}
use Rattle.congruent_areas.specs.GroupsAtBase.{IsBase, HasGroups, spans_of, span_at}
use Rattle.congruent_areas.proofs.Lowering.{first_free, holds-from, holds-to}

-- How many places are free from one on.

count-tail : (b : Bool) (taken : List Bool) (k : ℕ) → slice_index (free_from (b ∷ taken)) (suc k) ≡ slice_index (free_from taken) k
count-tail true taken k = refl
count-tail false taken k = ap (λ counts. slice_index counts (suc k)) (one_longer-first (free_from taken))

first_of-is : (counts : List ℕ) → first_of counts ≡ slice_index counts 0
first_of-is [] = refl
first_of-is (n ∷ counts) = refl

count-free : (taken : List Bool) → slice_index (free_from (false ∷ taken)) 0 ≡ suc (slice_index (free_from taken) 0)
count-free taken = ap (λ counts. slice_index counts 0) (one_longer-first (free_from taken)) ∙ ap suc (first_of-is (free_from taken))

-- the places that are counted are free, and free places are counted
places_free : (taken : List Bool) (a n k : ℕ) → n ≤ slice_index (free_from taken) a → k < n → is_free_at taken (a + k) ≡ true
places_free [] zero n k h l = absurd (omega arith)
places_free [] (suc a) n k h l = absurd (omega arith)
places_free (true ∷ taken) zero n k h l = absurd (omega arith)
places_free (false ∷ taken) zero n zero h l = refl
places_free (false ∷ taken) zero n (suc k) h l =
    ap (is_free_at (false ∷ taken)) (let e : 0 + suc k ≡ suc (0 + k) = omega arith in e)
    ∙ places_free taken zero (n - 1) k (omega (arith, count-free taken)) (omega arith)
places_free (b ∷ taken) (suc a) n k h l =
    ap (is_free_at (b ∷ taken)) (let e : suc a + k ≡ suc (a + k) = omega arith in e)
    ∙ places_free taken a n k (omega (arith, count-tail b taken a)) l

count_reaches : (taken : List Bool) (a n : ℕ) → ((k : ℕ) → k < n → is_free_at taken (a + k) ≡ true) → n ≤ slice_index (free_from taken) a
count_reaches taken a zero free = omega arith
count_reaches [] a (suc n) free = let no : false ≡ true = free 0 (omega arith) in cc
count_reaches (true ∷ taken) zero (suc n) free = let no : false ≡ true = free 0 (omega arith) in cc
count_reaches (false ∷ taken) zero (suc n) free =
    let rest : n ≤ slice_index (free_from taken) 0 =
    count_reaches taken zero n (λ k h. sym (ap (is_free_at (false ∷ taken)) (let e : 0 + suc k ≡ suc (0 + k) = omega arith in e)) ∙ free (suc k) (omega arith)) in
    omega (arith, count-free taken)
count_reaches (b ∷ taken) (suc a) (suc n) free =
    let rest : suc n ≤ slice_index (free_from taken) a =
    count_reaches taken a (suc n) (λ k h. sym (ap (is_free_at (b ∷ taken)) (let e : suc a + k ≡ suc (a + k) = omega arith in e)) ∙ free k h) in
    omega (arith, count-tail b taken a)

-- A span has room where its pages are free.

le_test : (m n : ℕ) → m ≤ n → nat_le m n ≡ true
le_test m n h = grind (arith, nat_tests)

test_le : (m n : ℕ) → nat_le m n ≡ true → m ≤ n
test_le m n h = grind (arith, nat_tests)

room_of_free : (taken : List Bool) (s : Span) → IsFree (runs taken) s → nat_le s.pages (slice_index (free_from taken) s.start) ≡ true
room_of_free taken s free =
    le_test _ _ (count_reaches taken s.start s.pages (λ k h. sym (covers-runs taken (s.start + k)) ∙ free (s.start + k) (holds-in s (s.start + k) (omega arith) (omega arith))))

free_of_room : (taken : List Bool) (s : Span) → nat_le s.pages (slice_index (free_from taken) s.start) ≡ true → IsFree (runs taken) s
free_of_room taken s room page h =
    let low : s.start ≤ page = holds-from s page h in
    let high : page < end_of s = holds-to s page h in
    let is : page ≡ s.start + (page - s.start) = omega arith in
    covers-runs taken page ∙ ap (is_free_at taken) is ∙ places_free taken s.start s.pages (page - s.start) (test_le _ _ room) (omega arith)

abbrev has_room : List Bool → Span → Bool
has_room taken s = nat_le s.pages (slice_index (free_from taken) s.start)

-- the groups' spans at a base, all together
all_room : (taken : List Bool) (base : ℕ) (laid : List Group) → All (λ (g : Group). IsFree (runs taken) (span_at base g)) laid
    → list_all (has_room taken) (map (λ (g : Span). span (base + g.start) g.pages) (spans_of laid)) ≡ true
all_room taken base [] free = refl
all_room taken base (g ∷ laid) free =
    both (room_of_free taken (span_at base g) (All-head (λ (g : Group). IsFree (runs taken) (span_at base g)) g laid free))
    (all_room taken base laid (All-tail (λ (g : Group). IsFree (runs taken) (span_at base g)) g laid free))
  where
    both : {a b : Bool} → a ≡ true → b ≡ true → (a && b) ≡ true
    both p q = cc

all_free : (taken : List Bool) (base : ℕ) (laid : List Group) → list_all (has_room taken) (map (λ (g : Span). span (base + g.start) g.pages) (spans_of laid)) ≡ true
    → All (λ (g : Group). IsFree (runs taken) (span_at base g)) laid
all_free taken base [] room = All-nil (λ (g : Group). IsFree (runs taken) (span_at base g))
all_free taken base (g ∷ laid) room =
    let parts = and_parts (has_room taken (span_at base g)) (list_all (has_room taken) (map (λ (g : Span). span (base + g.start) g.pages) (spans_of laid))) room in
    All-cons (λ (g : Group). IsFree (runs taken) (span_at base g)) g laid (free_of_room taken (span_at base g) parts.0) (all_free taken base laid parts.1)

-- The last number that passes a test.

none_in_count : (f : ℕ → Bool) (n first : ℕ) → ((q : ℕ) → first ≤ q → q < first + n → f q ≡ false) → filter f (count_from n first) ≡ []
none_in_count f zero first none = refl
none_in_count f (suc n) first none =
    ap (λ b. cond b (first ∷ filter f (count_from n (suc first))) (filter f (count_from n (suc first)))) (none first (omega arith) (omega arith))
    ∙ none_in_count f n (suc first) (λ q low high. none q (omega arith) (omega arith))

last_in_count : (f : ℕ → Bool) (n first b : ℕ) → first ≤ b → b < first + n → f b ≡ true → ((q : ℕ) → b < q → q < first + n → f q ≡ false)
    → last_of (filter f (count_from n first)) ≡ Some b
last_in_count f zero first b low high e none = absurd (omega arith)
last_in_count f (suc n) first b low high e none =
    elim (cases_lt first b) [
      | inl later ↦ last_of-kept (f first) first b (filter f (count_from n (suc first))) (last_in_count f n (suc first) b (omega arith) (omega arith) e (λ q l h. none q l (omega arith)))
      | inr here ↦
          let is : first ≡ b = omega arith in
          ap (λ t. last_of (cond t (first ∷ filter f (count_from n (suc first))) (filter f (count_from n (suc first))))) (ap f is ∙ e)
          ∙ ap (λ kept. last_of (first ∷ kept)) (none_in_count f n (suc first) (λ q l h. none q (omega arith) (omega arith))) ∙ ap Some is
    ]

-- a free place is one of the list
free_within : (taken : List Bool) (k : ℕ) → is_free_at taken k ≡ true → k < length taken
free_within [] k e = cc
free_within (b ∷ taken) zero e = omega arith
free_within (b ∷ taken) (suc k) e = let rest : k < length taken = free_within taken k e in omega arith

-- The base of a machine's groups.

module _ (c : Setup) (laid : List Group) (align : ℕ) (blocks : List Span) (taken : List Bool) (has : HasGroups c laid align) (same : blocks ≡ runs taken) where
  fit : (base : ℕ) → IsBase blocks laid align base → groups_fit c (free_from taken) base ≡ true
  fit base free =
      let aligned : (base % c.atom == 0) ≡ true = subst (λ k. (base % k == 0) ≡ true) (sym has.atom) (zero_test (base % align) free.aligned) in
      let room : list_all (has_room taken) (groups_at c base) ≡ true =
      ap (λ spans. list_all (has_room taken) (map (λ (g : Span). span (base + g.start) g.pages) spans)) has.groups
      ∙ all_room taken base laid (subst (λ spans. All (λ (g : Group). IsFree spans (span_at base g)) laid) same free.free) in
      cc
    where
      zero_test : (n : ℕ) → n ≡ 0 → (n == 0) ≡ true
      zero_test n e = grind (arith, nat_tests)

  free_where_fit : (base : ℕ) → groups_fit c (free_from taken) base ≡ true → IsBase blocks laid align base
  free_where_fit base e =
      let parts = and_parts (base % c.atom == 0) (list_all (has_room taken) (groups_at c base)) e in
      record {
        aligned = subst (λ k. base % k ≡ 0) has.atom (test_zero (base % c.atom) parts.0);
        free = subst (λ spans. All (λ (g : Group). IsFree spans (span_at base g)) laid) (sym same)
            (all_free taken base laid (sym (ap (λ spans. list_all (has_room taken) (map (λ (g : Span). span (base + g.start) g.pages) spans)) has.groups) ∙ parts.1));
      }
    where
      test_zero : (n : ℕ) → (n == 0) ≡ true → n ≡ 0
      test_zero n e = grind (arith, nat_tests)

  -- what is found where no base will do, and where one will do and none above it
  pub no_base : ((b : ℕ) → IsBase blocks laid align b → ⊥) → None ≡ highest c taken
  no_base none = sym (ap last_of (none_in_count (groups_fit c (free_from taken)) (length taken) 0 (λ q low high. false_from_ne_true _ (λ e. none q (free_where_fit q e)))))

  pub the_base : (base : ℕ) → 1 ≤ length laid → All (λ (g : Group). 1 ≤ g.pages) laid → IsBase blocks laid align base → ((b : ℕ) → IsBase blocks laid align b → b ≤ base) → Some base ≡ highest c taken
  the_base base some pages free greatest =
      sym (last_in_count (groups_fit c (free_from taken)) (length taken) 0 base (omega arith) (omega (arith, within laid some pages free.free)) (fit base free)
      (λ q low high. false_from_ne_true _ (λ e. let le : q ≤ base = greatest q (free_where_fit q e) in absurd (omega arith))))
    where
      within : (groups : List Group) → 1 ≤ length groups → All (λ (g : Group). 1 ≤ g.pages) groups → All (λ (g : Group). IsFree blocks (span_at base g)) groups → base < length taken
      within [] some pages free = absurd (omega arith)
      within (g ∷ groups) some pages free =
          let at : covers blocks (base + g.offset) ≡ true = first_free blocks g base (All-head (λ (g : Group). 1 ≤ g.pages) g groups pages) (All-head (λ (g : Group). IsFree blocks (span_at base g)) g groups free) in
          let place : base + g.offset < length taken = free_within taken (base + g.offset) (sym (covers-runs taken (base + g.offset)) ∙ ap (λ spans. covers spans (base + g.offset)) (sym same) ∙ at) in
          omega arith
