-- The objects of two maps from a place on, and the first of them.
use Rattle.std.proofs.Common.{◌≡◌, ℕ, zero, suc, ◌+◌, ◌-◌, ◌<◌, ◌≤◌, inl, inr, Bool, true, false, ◌&&◌, cond, nat_le, List, [], ◌∷◌, length, map, filter, refl, ap, sym, ◌∙◌, arith}
use Rattle.std.proofs.lemmas.Bool.{cases_Bool, cases_lt}
use Rattle.std.proofs.lemmas.Bool.Decides.{nat_tests}
use Rattle.vm_model.specs.declared.areas.Span.{Span}
use Rattle.vm_model.specs.Space.{count_from}
use Rattle.vm_model.specs.Bits.{value_at}
use Rattle.vm_model.proofs.Tabulated.{value_at-get}
use Rattle.chunk_bitmaps.specs.Bitmap.{IsNextBit}
use Rattle.chunk_bitmaps.specs.ChunkMap.{ChunkMap, AreMaps, begins, object_from, up_to_next, chunk_map, objects_from}
use Rattle.chunk_bitmaps.proofs.ObjectLists.{map-filter}
use Rattle.chunk_bitmaps.proofs.Objects.{object_at}

module _ (test : ℕ → Bool) where
  drop_head : (p : ℕ → Bool) (x : ℕ) (xs : List ℕ) → p x ≡ false → filter p (x ∷ xs) ≡ filter p xs
  drop_head p x xs e = ap (λ b. cond b (x ∷ filter p xs) (filter p xs)) e

  keep_head : (p : ℕ → Bool) (x : ℕ) (xs : List ℕ) → p x ≡ true → filter p (x ∷ xs) ≡ x ∷ filter p xs
  keep_head p x xs e = ap (λ b. cond b (x ∷ filter p xs) (filter p xs)) e

  not_before : ℕ → ℕ → Bool
  not_before from place = nat_le from place

  all_after : (from n first : ℕ) → from ≤ first → filter (λ place. nat_le from place) (filter test (count_from n first)) ≡ filter test (count_from n first)
  all_after from zero first low = refl
  all_after from (suc n) first low =
      let passes : nat_le from first ≡ true = grind (arith, nat_tests) in
      let rest = all_after from n (suc first) (omega arith) in
      elim (cases_Bool (test first)) [
        | inl here ↦
            ap (filter (λ place. nat_le from place)) (keep_head test first (count_from n (suc first)) here)
            ∙ keep_head (λ place. nat_le from place) first (filter test (count_from n (suc first))) passes
            ∙ ap (λ ps. first ∷ ps) rest ∙ sym (keep_head test first (count_from n (suc first)) here)
        | inr not_here ↦
            ap (filter (λ place. nat_le from place)) (drop_head test first (count_from n (suc first)) not_here) ∙ rest ∙ sym (drop_head test first (count_from n (suc first)) not_here)
      ]

  pub after_place : (from n first : ℕ) → first ≤ from → from ≤ first + n → filter (λ place. nat_le from place) (filter test (count_from n first)) ≡ filter test (count_from (first + n - from) from)
  after_place from zero first low high = let none : first + 0 - from ≡ 0 = omega arith in ap (λ m. filter test (count_from m from)) (sym none)
  after_place from (suc n) first low high = elim (cases_lt first from) [
    | inl before ↦
        let fails : nat_le from first ≡ false = grind (arith, nat_tests) in
        let same : suc first + n - from ≡ first + suc n - from = omega arith in
        let rest = after_place from n (suc first) (omega arith) (omega arith) in
        elim (cases_Bool (test first)) [
          | inl here ↦
              ap (filter (λ place. nat_le from place)) (keep_head test first (count_from n (suc first)) here)
              ∙ drop_head (λ place. nat_le from place) first (filter test (count_from n (suc first))) fails
              ∙ rest ∙ ap (λ m. filter test (count_from m from)) same
          | inr not_here ↦ ap (filter (λ place. nat_le from place)) (drop_head test first (count_from n (suc first)) not_here) ∙ rest ∙ ap (λ m. filter test (count_from m from)) same
        ]
    | inr at ↦
        let same : first ≡ from = omega arith in
        let long : suc n ≡ first + suc n - from = omega arith in
        all_after from (suc n) first (omega arith) ∙ ap (λ p. filter test (count_from (suc n) p)) same ∙ ap (λ m. filter test (count_from m from)) long
  ]

  -- the places from one on, up to an end
  abbrev pub kept_from : (end from : ℕ) → List ℕ
  kept_from end from = filter test (count_from (end - from) from)

  one_past : (end from : ℕ) → from < end → test from ≡ false → kept_from end from ≡ kept_from end (suc from)
  one_past end from low fails =
      let more : end - from ≡ suc (end - suc from) = omega arith in
      ap (λ n. filter test (count_from n from)) more ∙ drop_head test from (count_from (end - suc from) (suc from)) fails

  skip_by : (end from k : ℕ) → from + k ≤ end → ((place : ℕ) → from ≤ place → place < from + k → test place ≡ false) → kept_from end from ≡ kept_from end (from + k)
  skip_by end from zero within fails = let same : from ≡ from + 0 = omega arith in ap (kept_from end) same
  skip_by end from (suc k) within fails =
      let same : suc from + k ≡ from + suc k = omega arith in
      one_past end from (omega arith) (fails from (omega arith) (omega arith))
      ∙ skip_by end (suc from) k (omega arith) (λ place low high. fails place (omega arith) (omega arith)) ∙ ap (kept_from end) same

  pub skip : (end from next : ℕ) → from ≤ next → next ≤ end → ((place : ℕ) → from ≤ place → place < next → test place ≡ false) → kept_from end from ≡ kept_from end next
  skip end from next low within fails =
      let same : from + (next - from) ≡ next = omega arith in
      skip_by end from (next - from) (omega arith) (λ place low' high'. fails place low' (omega arith)) ∙ ap (kept_from end) same

  pub stop : (end from : ℕ) → from < end → test from ≡ true → kept_from end from ≡ from ∷ kept_from end (suc from)
  stop end from low passes =
      let more : end - from ≡ suc (end - suc from) = omega arith in
      ap (λ n. filter test (count_from n from)) more ∙ keep_head test from (count_from (end - suc from) (suc from)) passes

abbrev pub begun : (taken bounds : List Bool) → ℕ → List Span
begun taken bounds from = map (object_from bounds) (kept_from (begins taken bounds) (length taken) from)

pub begun_is : (taken bounds : List Bool) (from : ℕ) (now : ChunkMap) → from ≤ length taken → chunk_map taken bounds ≡ now → begun taken bounds from ≡ objects_from from now
begun_is taken bounds from now within is =
    let same : 0 + length taken - from ≡ length taken - from = omega arith in
    ap (map (object_from bounds)) (ap (λ n. filter (begins taken bounds) (count_from n from)) (sym same) ∙ sym (after_place (begins taken bounds) from (length taken) 0 (omega arith) (omega arith)))
    ∙ map-filter (object_from bounds) (λ (s : Span). nat_le from s.start) (filter (begins taken bounds) (count_from (length taken) 0))
    ∙ ap (objects_from from) is

not_begun : (taken bounds : List Bool) (place : ℕ) → value_at taken place ≡ false → begins taken bounds place ≡ false
not_begun taken bounds place e = ap (λ b. b && value_at bounds place) e

-- the free bits before the next taken one
pub begun_next : (taken bounds : List Bool) (from next : ℕ) → IsNextBit taken true from (length taken) next → begun taken bounds from ≡ begun taken bounds next
begun_next taken bounds from next is =
    ap (map (object_from bounds)) (skip (begins taken bounds) (length taken) from next is.after is.within (λ place low high. not_begun taken bounds place (value_at-get taken place false (is.others place low high))))

-- a taken bit where no object begins
pub begun_past : (taken bounds : List Bool) (place next : ℕ) → place < length taken → begins taken bounds place ≡ false → IsNextBit taken true (place + 1) (length taken) next → begun taken bounds place ≡ begun taken bounds next
begun_past taken bounds place next low fails is =
    let one : suc place ≡ place + 1 = omega arith in
    ap (map (object_from bounds)) (one_past (begins taken bounds) (length taken) place low fails) ∙ ap (begun taken bounds) one ∙ begun_next taken bounds (place + 1) next is

pub begun_none : (taken bounds : List Bool) (place : ℕ) → length taken ≤ place → begun taken bounds place ≡ []
begun_none taken bounds place past = let none : length taken - place ≡ 0 = omega arith in ap (λ n. map (object_from bounds) (filter (begins taken bounds) (count_from n place))) none

and_false : (a b : Bool) → b ≡ false → (a && b) ≡ false
and_false true b e = e
and_false false b e = refl

-- an object, and those behind it
pub begun_here : (taken bounds : List Bool) (place : ℕ) → AreMaps taken bounds → place < length taken → begins taken bounds place ≡ true
    → begun taken bounds place ≡ object_from bounds place ∷ begun taken bounds (place + up_to_next bounds place)
begun_here taken bounds place maps low here =
    let o = object_at taken bounds place maps here in
    let some = o.next.some in
    ap (map (object_from bounds)) (stop (begins taken bounds) (length taken) place low here
    ∙ ap (λ ps. place ∷ ps) (skip (begins taken bounds) (length taken) (suc place) (place + up_to_next bounds place) (omega arith) o.within
    (λ other above below. and_false (value_at taken other) (value_at bounds other) (o.next.between other (omega arith) below))))
