-- What searches among separate blocks find: the block at a page, the one around a span, and the last that passes a test.
use Rattle.std.proofs.Common.{◌≡◌, ℕ, zero, suc, ◌+◌, ◌-◌, ◌<◌, ◌≤◌, inl, inr, Bool, true, false, cond, find, filter, List, [], ◌∷◌, ◌++◌, length, take, drop, get_or, slice_get, Some, None, All, IfSome, refl, ap, sym, ◌∙◌, subst, arith}
use Rattle.std.proofs.lemmas.Bool.{cases_lt, or_parts, or_from, both_ways}
use Rattle.std.proofs.lemmas.Bool.Decides.{nat_tests}
use Rattle.std.proofs.lemmas.List.{drop_all, drop_more}
use Rattle.std.proofs.lemmas.List.Elements.{All-head, All-tail}
use Rattle.std.proofs.lemmas.Option.{slice_get-get_or, none-some}
use Rattle.vm_model.specs.declared.areas.Span.{Span}
use Rattle.vm_model.specs.Space.{span, end_of, holds, covers, AreSeparateFrom}
use Rattle.vm_model.specs.Setup.{last_of}
use Rattle.vm_model.proofs.Runs.{covers-below, holds-above, holds-in}
use Rattle.augmented_tree.specs.BlockLists.{IsInside}
use Rattle.augmented_tree.proofs.Splices.{split_at}
use Rattle.augmented_tree.proofs.SeparateBlocks.{covers-append, separate-tail, covers-before}

-- The block at a page.

pub find_past : (page : ℕ) (xs ys : List Span) → covers xs page ≡ false → find (λ (b : Span). holds b page) (xs ++ ys) ≡ find (λ (b : Span). holds b page) ys
find_past page [] ys none = refl
find_past page (x ∷ xs) ys none =
    let both = or_parts (holds x page) (covers xs page) none in
    ap (λ b. cond b (Some x) (find (λ (b : Span). holds b page) (xs ++ ys))) both.0 ∙ find_past page xs ys both.1

pub find_none : (page : ℕ) (xs : List Span) → covers xs page ≡ false → find (λ (b : Span). holds b page) xs ≡ None
find_none page [] none = refl
find_none page (x ∷ xs) none =
    let both = or_parts (holds x page) (covers xs page) none in
    ap (λ b. cond b (Some x) (find (λ (b : Span). holds b page) xs)) both.0 ∙ find_none page xs both.1

-- what begins behind a page doesn't cover it
pub separate_from_next : (page : ℕ) (xs : List Span) (i : ℕ) → AreSeparateFrom 0 xs → IfSome (slice_get xs i) (λ (b : Span). page < b.start) → AreSeparateFrom (suc page) (drop i xs)
separate_from_next page xs i n later =
    elim (cases_lt i (length xs)) [
      | inl h ↦
          let b : Span = get_or xs i (span 0 0) in
          let at : slice_get xs i ≡ Some b = slice_get-get_or xs i (span 0 0) h in
          let tail : AreSeparateFrom b.start (b ∷ drop (i + 1) xs) = separate-tail 0 (take i xs) b (drop (i + 1) xs) (subst (AreSeparateFrom 0) (split_at xs i b at) n) in
          let behind : page < b.start = subst (λ o. IfSome o (λ (b : Span). page < b.start)) at later in
          let here : AreSeparateFrom (suc page) (b ∷ drop (i + 1) xs) = (behind, tail.1, tail.2) in
          subst (AreSeparateFrom (suc page)) (sym (drop_more xs i (span 0 0) h)) here
      | inr h ↦ subst (AreSeparateFrom (suc page)) (sym (drop_all i xs h)) tt
    ]

past_block : (page : ℕ) (xs : List Span) (i : ℕ) (b : Span) → slice_get xs i ≡ Some b → AreSeparateFrom 0 xs → end_of b ≤ page → AreSeparateFrom (suc page) (drop (i + 1) xs)
    → covers xs page ≡ false
past_block page xs i b at n past behind =
    let split : xs ≡ take i xs ++ (b ∷ drop (i + 1) xs) = split_at xs i b at in
    ap (λ spans. covers spans page) split ∙ covers-append (take i xs) (b ∷ drop (i + 1) xs) page
    ∙ or_from _ _ (covers-before 0 (take i xs) b (drop (i + 1) xs) page (subst (AreSeparateFrom 0) split n) (omega arith))
    (or_from _ _ (holds-above b page past) (covers-below (suc page) (drop (i + 1) xs) page behind (omega arith)))

-- The block around a span whose pages are free.

pub holds-first : (s : Span) → 1 ≤ s.pages → holds s s.start ≡ true
holds-first s some = grind (arith, nat_tests)

pub some_begins : (s : Span) (xs : List Span) (i : ℕ) → AreSeparateFrom 0 xs → 1 ≤ s.pages → ((page : ℕ) → holds s page ≡ true → covers xs page ≡ true)
    → IfSome (slice_get xs i) (λ (b : Span). s.start < b.start) → 1 ≤ i
some_begins s xs zero n some free later =
    absurd (both_ways (covers xs s.start) (covers-below (suc s.start) xs s.start (separate_from_next s.start xs 0 n later) (omega arith)) (free s.start (holds-first s some)))
some_begins s xs (suc i) n some free later = omega arith

module _ (s : Span) (xs : List Span) (i : ℕ) (b : Span) (at : slice_get xs i ≡ Some b) (n : AreSeparateFrom 0 xs) (some : 1 ≤ s.pages) (free : (page : ℕ) → holds s page ≡ true → covers xs page ≡ true)
    (from : b.start ≤ s.start) (later : IfSome (slice_get xs (i + 1)) (λ (b : Span). s.start < b.start)) where
  gap : (page : ℕ) → s.start ≤ page → page < end_of s → end_of b ≤ page → AreSeparateFrom (suc page) (drop (i + 1) xs) → ⊥
  gap page low high past behind = both_ways (covers xs page) (past_block page xs i b at n past behind) (free page (holds-in s page low high))

  reaches : end_of s ≤ end_of b
  reaches =
      elim (cases_lt (end_of b) (end_of s)) [
        | inl short ↦ elim (cases_lt s.start (end_of b)) [
          | inl under ↦
              let tail = separate-tail 0 (take i xs) b (drop (i + 1) xs) (subst (AreSeparateFrom 0) (split_at xs i b at) n) in
              absurd (gap (end_of b) (omega arith) short (omega arith) tail.2)
          | inr over ↦ absurd (gap s.start (omega arith) (omega arith) over (separate_from_next s.start xs (i + 1) n later))
        ]
        | inr le ↦ le
      ]

  pub is_inside : IsInside s b
  is_inside = record { from = from; to = reaches }

-- The last that passes a test.

last_of-cons : {X : Type 0} (x y : X) (xs : List X) → last_of xs ≡ Some y → last_of (x ∷ xs) ≡ Some y
last_of-cons x y [] e = cc
last_of-cons x y (z ∷ xs) e = e

pub filter_none : {X : Type 0} (p : X → Bool) (xs : List X) → All (λ x. p x ≡ false) xs → filter p xs ≡ []
filter_none p [] a = refl
filter_none p (x ∷ xs) a = ap (λ b. cond b (x ∷ filter p xs) (filter p xs)) (All-head (λ x. p x ≡ false) x xs a) ∙ filter_none p xs (All-tail (λ x. p x ≡ false) x xs a)

pub last_of-kept : {X : Type 0} (b : Bool) (x y : X) (xs : List X) → last_of xs ≡ Some y → last_of (cond b (x ∷ xs) xs) ≡ Some y
last_of-kept true x y xs e = last_of-cons x y xs e
last_of-kept false x y xs e = e

-- The last of those in front.

last_of-take : {X : Type 0} (xs : List X) (i : ℕ) → i < length xs → last_of (take (suc i) xs) ≡ slice_get xs i
last_of-take [] i h = absurd (omega arith)
last_of-take (x ∷ xs) zero h = refl
last_of-take (x ∷ []) (suc i) h = absurd (omega arith)
last_of-take (x ∷ y ∷ xs) (suc i) h = last_of-take (y ∷ xs) i (omega arith)

pub last_in_front : (xs : List Span) (i : ℕ) (x : Span) → i ≤ length xs → last_of (take i xs) ≡ Some x → (1 ≤ i) × (slice_get xs (i - 1) ≡ Some x)
last_in_front xs zero x h e = absurd (none-some x e)
last_in_front xs (suc i) x h e = let next : suc i - 1 ≡ i = omega arith in (omega arith, ap (slice_get xs) next ∙ sym (last_of-take xs i h) ∙ e)

pub none_in_front : (xs : List Span) (i : ℕ) → i ≤ length xs → last_of (take i xs) ≡ None → i ≡ 0
none_in_front xs zero h e = refl
none_in_front xs (suc i) h e = absurd (none-some (get_or xs i (span 0 0)) (sym e ∙ last_of-take xs i h ∙ slice_get-get_or xs i (span 0 0) h))

-- What holds of all holds of the last and of the one at an index.

pub last-All : (P : Span → Type 0) (xs : List Span) → All P xs → IfSome (last_of xs) P
last-All P [] a = tt
last-All P (x ∷ []) a = All-head P x [] a
last-All P (x ∷ y ∷ xs) a = last-All P (y ∷ xs) (All-tail P x (y ∷ xs) a)

pub read-All : (P : Span → Type 0) (xs : List Span) (i : ℕ) → All P xs → IfSome (slice_get xs i) P
read-All P [] i a = tt
read-All P (x ∷ xs) zero a = All-head P x xs a
read-All P (x ∷ xs) (suc i) a = read-All P xs i (All-tail P x xs a)
