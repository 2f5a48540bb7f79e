-- A span put among separate blocks, joined with those that it touches.
use Rattle.std.proofs.Common.{◌≡◌, ℕ, suc, ◌+◌, ◌-◌, ◌<◌, ◌≤◌, inl, inr, Bool, true, false, ◌||◌, List, [], ◌∷◌, ◌++◌, length, take, drop, get_or, slice_get, slice_range, Option, Some, None, All, IfSome, refl, ap, sym, ◌∙◌, subst, arith, take-append-drop}
use Rattle.std.proofs.lemmas.Bool.{cases_lt, or_parts, or_right, both_ways}
use Rattle.std.proofs.lemmas.Bool.Decides.{nat_tests}
use Rattle.std.proofs.lemmas.List.{append_cancel_left}
use Rattle.std.proofs.lemmas.List.Edits.{between_none, between_more, split_between}
use Rattle.std.proofs.lemmas.List.Elements.{All-nil, All-cons, All-head, All-tail}
use Rattle.std.proofs.lemmas.Option.{slice_get_within, get_or_from_slice_get}
use Rattle.vm_model.specs.declared.areas.Span.{Span}
use Rattle.vm_model.specs.Space.{span, end_of, holds, covers, AreSeparateFrom}
use Rattle.vm_model.specs.Setup.{last_of}
use Rattle.vm_model.proofs.Runs.{covers-head}
use Rattle.augmented_tree.specs.BlockLists.{spliced, TakesIn, JoinsBefore, JoinsAfter}
use Rattle.augmented_tree.proofs.Splices.{split_at}
use Rattle.augmented_tree.proofs.FoundBlocks.{separate_from_next, holds-first, last_in_front}
use Rattle.augmented_tree.proofs.SeparateBlocks.{covers-append, separate-tail, ends_before, separate-take}

-- Separate blocks in parts.

-- a block between those that end before it and those that begin behind it
separate-around : (low : ℕ) (xs : List Span) (t : Span) (ys : List Span) → AreSeparateFrom low xs → All (λ (x : Span). end_of x < t.start) xs
    → low ≤ t.start → 0 < t.pages → AreSeparateFrom (suc (end_of t)) ys → AreSeparateFrom low (xs ++ t ∷ ys)
separate-around low [] t ys n a l some m = (l, some, m)
separate-around low (x ∷ xs) t ys n a l some m =
    let head : end_of x < t.start = All-head (λ (x : Span). end_of x < t.start) x xs a in
    (n.0, n.1, separate-around (suc (end_of x)) xs t ys n.2 (All-tail (λ (x : Span). end_of x < t.start) x xs a) head some m)

drop_range : {X : Type 0} (xs : List X) (i j : ℕ) → i ≤ j → drop i xs ≡ slice_range xs i j ++ drop j xs
drop_range xs i j h = append_cancel_left (take i xs) (drop i xs) (slice_range xs i j ++ drop j xs) (take-append-drop i xs ∙ split_between xs i j h)

range_of_one : {X : Type 0} (xs : List X) (i : ℕ) (x : X) → slice_get xs i ≡ Some x → slice_range xs i (i + 1) ≡ x ∷ []
range_of_one xs i x at =
    between_more xs i i x (omega arith) (slice_get_within xs i x at) ∙ ap (λ ys. ys ++ get_or xs i x ∷ []) (between_none xs i) ∙ ap (λ y. y ∷ []) (get_or_from_slice_get xs i x x at)

holds-nothing : (start page : ℕ) → false ≡ holds (span start (start - start)) page
holds-nothing start page = grind (arith, nat_tests)

-- The block that ends where a span begins.

holds-up_to : (b : Span) (start page : ℕ) → end_of b ≡ start → (holds b page || false) ≡ holds (span b.start (start - b.start)) page
holds-up_to b start page e = grind (arith, nat_tests)

joins_with : (blocks : List Span) (i : ℕ) (b : Span) (start : ℕ) → AreSeparateFrom 0 blocks → slice_get blocks i ≡ Some b → end_of b ≡ start → JoinsBefore blocks i (i + 1) b.start start
joins_with blocks i b start n at e = record {
  order = omega arith;
  near = omega arith;
  below = omega arith;
  apart = ends_before 0 (take i blocks) b (drop (i + 1) blocks) (subst (AreSeparateFrom 0) (split_at blocks i b at) n);
  cover = λ page. ap (λ spans. covers spans page) (range_of_one blocks i b at) ∙ holds-up_to b start page e;
}

pub joins_before : (blocks : List Span) (i : ℕ) (b : Span) (start : ℕ) → AreSeparateFrom 0 blocks → i ≤ length blocks → last_of (take i blocks) ≡ Some b → end_of b ≡ start
    → JoinsBefore blocks (i - 1) i b.start start
joins_before blocks i b start n h last e =
    let front = last_in_front blocks i b h last in
    let next : i - 1 + 1 ≡ i = omega (arith, front.0) in
    subst (λ to. JoinsBefore blocks (i - 1) to b.start start) next (joins_with blocks (i - 1) b start n front.1 e)

-- where the last of them ends before a page, all do
all_before : (low page : ℕ) (xs : List Span) → AreSeparateFrom low xs → IfSome (last_of xs) (λ (b : Span). end_of b < page) → All (λ (b : Span). end_of b < page) xs
all_before low page [] n last = All-nil (λ (b : Span). end_of b < page)
all_before low page (x ∷ []) n last = All-cons (λ (b : Span). end_of b < page) x [] last (All-nil (λ (b : Span). end_of b < page))
all_before low page (x ∷ y ∷ xs) n last =
    let rest = all_before (suc (end_of x)) page (y ∷ xs) n.2 last in
    let next : suc (end_of x) ≤ y.start = n.2.0 in
    All-cons (λ (b : Span). end_of b < page) x (y ∷ xs) (omega (arith, All-head (λ (b : Span). end_of b < page) y xs rest)) rest

-- no block ends there
pub stays_before : (blocks : List Span) (i start : ℕ) → AreSeparateFrom 0 blocks → IfSome (last_of (take i blocks)) (λ (b : Span). end_of b < start) → JoinsBefore blocks i i start start
stays_before blocks i start n last = record {
  order = omega arith;
  near = omega arith;
  below = omega arith;
  apart = all_before 0 start (take i blocks) (separate-take 0 (take i blocks) (drop i blocks) (subst (AreSeparateFrom 0) (sym (take-append-drop i blocks)) n)) last;
  cover = λ page. ap (λ spans. covers spans page) (between_none blocks i) ∙ holds-nothing start page;
}

-- The block that begins where a span ends.

holds-from : (b : Span) (end page : ℕ) → b.start ≡ end → (holds b page || false) ≡ holds (span end (end_of b - end)) page
holds-from b end page e = grind (arith, nat_tests)

pub joins_after : (blocks : List Span) (i : ℕ) (b : Span) (end : ℕ) → AreSeparateFrom 0 blocks → slice_get blocks i ≡ Some b → b.start ≡ end → JoinsAfter blocks i (i + 1) end (end_of b)
joins_after blocks i b end n at e = record {
  order = omega arith;
  near = omega arith;
  within = omega (arith, slice_get_within blocks i b at);
  above = omega arith;
  apart = (separate-tail 0 (take i blocks) b (drop (i + 1) blocks) (subst (AreSeparateFrom 0) (split_at blocks i b at) n)).2;
  cover = λ page. ap (λ spans. covers spans page) (range_of_one blocks i b at) ∙ holds-from b end page e;
}

-- no block begins there
pub stays_after : (blocks : List Span) (i end : ℕ) → AreSeparateFrom 0 blocks → i ≤ length blocks → IfSome (slice_get blocks i) (λ (b : Span). end < b.start) → JoinsAfter blocks i i end end
stays_after blocks i end n h later = record {
  order = omega arith;
  near = omega arith;
  within = h;
  above = omega arith;
  apart = separate_from_next end blocks i n later;
  cover = λ page. ap (λ spans. covers spans page) (between_none blocks i) ∙ holds-nothing end page;
}

-- Where a span goes that is in no block.

end_from_start : (b s : Span) → holds b s.start ≡ false → b.start ≤ s.start → end_of b ≤ s.start
end_from_start b s e h = grind (arith, nat_tests)

pub ends_up_to : (s : Span) (xs : List Span) → 1 ≤ s.pages → ((page : ℕ) → holds s page ≡ true → covers xs page ≡ false) → All (λ (b : Span). b.start ≤ s.start) xs
    → All (λ (b : Span). end_of b ≤ s.start) xs
ends_up_to s [] some free a = All-nil (λ (b : Span). end_of b ≤ s.start)
ends_up_to s (x ∷ xs) some free a =
    All-cons (λ (b : Span). end_of b ≤ s.start) x xs
    (end_from_start x s (or_parts _ _ (free s.start (holds-first s some))).0 (All-head (λ (b : Span). b.start ≤ s.start) x xs a))
    (ends_up_to s xs some (λ page h. (or_parts _ _ (free page h)).1) (All-tail (λ (b : Span). b.start ≤ s.start) x xs a))

pub free_of_front : (s : Span) (xs : List Span) (i : ℕ) → ((page : ℕ) → holds s page ≡ true → covers xs page ≡ false) → (page : ℕ) → holds s page ≡ true → covers (take i xs) page ≡ false
free_of_front s xs i free page h =
    (or_parts _ _ (sym (covers-append (take i xs) (drop i xs) page) ∙ ap (λ spans. covers spans page) (take-append-drop i xs) ∙ free page h)).0

covers-in : (xs : List Span) (b : Span) (ys : List Span) (page : ℕ) → b.start ≤ page → page < end_of b → covers (xs ++ b ∷ ys) page ≡ true
covers-in xs b ys page low high = covers-append xs (b ∷ ys) page ∙ or_right _ _ (covers-head b ys page low high)

holds-later : (s : Span) (page : ℕ) → s.start < page → page < end_of s → holds s page ≡ true
holds-later s page low high = grind (arith, nat_tests)

begins_behind : (s : Span) (xs : List Span) (b : Span) (ys : List Span) → AreSeparateFrom 0 (xs ++ b ∷ ys)
    → ((page : ℕ) → holds s page ≡ true → covers (xs ++ b ∷ ys) page ≡ false) → s.start < b.start → end_of s ≤ b.start
begins_behind s xs b ys n free later =
    let tail : AreSeparateFrom b.start (b ∷ ys) = separate-tail 0 xs b ys n in
    elim (cases_lt b.start (end_of s)) [
      | inl within ↦ absurd (both_ways (covers (xs ++ b ∷ ys) b.start) (free b.start (holds-later s b.start later within)) (covers-in xs b ys b.start (omega arith) (omega arith)))
      | inr behind ↦ behind
    ]

if_some : (o : Option Span) (P : Span → Type 0) → ((b : Span) → o ≡ Some b → P b) → IfSome o P
if_some None P f = tt
if_some (Some b) P f = f b refl

pub next_behind : (s : Span) (xs : List Span) (i : ℕ) → AreSeparateFrom 0 xs → ((page : ℕ) → holds s page ≡ true → covers xs page ≡ false)
    → IfSome (slice_get xs i) (λ (b : Span). s.start < b.start) → IfSome (slice_get xs i) (λ (b : Span). end_of s ≤ b.start)
next_behind s xs i n free later =
    if_some (slice_get xs i) (λ (b : Span). end_of s ≤ b.start) (λ b at.
    let split : xs ≡ take i xs ++ (b ∷ drop (i + 1) xs) = split_at xs i b at in
    begins_behind s (take i xs) b (drop (i + 1) xs) (subst (AreSeparateFrom 0) split n) (subst (λ spans. (page : ℕ) → holds s page ≡ true → covers spans page ≡ false) split free)
    (subst (λ o. IfSome o (λ (b : Span). s.start < b.start)) at later))

-- The span joined on both sides.

holds-joined : (p e page : ℕ) (s : Span) → p ≤ s.start → end_of s ≤ e
    → holds (span p (e - p)) page ≡ ((holds (span p (s.start - p)) page || holds s page) || holds (span (end_of s) (e - end_of s)) page)
holds-joined p e page s low high = grind (arith, nat_tests)

regroup : (front left here right back : Bool) → (front || (((left || here) || right) || back)) ≡ ((front || (left || (right || back))) || (here || false))
regroup front left here right back = grind arith

module _ (blocks : List Span) (j i k p e : ℕ) (s : Span) (before : JoinsBefore blocks j i p s.start) (after : JoinsAfter blocks i k (end_of s) e) where
  covers-parts : (page : ℕ) → covers blocks page ≡ (covers (take j blocks) page || (covers (slice_range blocks j i) page || (covers (slice_range blocks i k) page || covers (drop k blocks) page)))
  covers-parts page =
      ap (λ spans. covers spans page) (sym (take-append-drop j blocks) ∙ ap (λ ys. take j blocks ++ ys) (drop_range blocks j i before.order ∙ ap (λ ys. slice_range blocks j i ++ ys) (drop_range blocks i k after.order)))
      ∙ covers-append (take j blocks) _ page
      ∙ ap (λ b. covers (take j blocks) page || b) (covers-append (slice_range blocks j i) _ page ∙ ap (λ b. covers (slice_range blocks j i) page || b) (covers-append (slice_range blocks i k) (drop k blocks) page))

  covers-joined : (page : ℕ) → covers (spliced blocks j k (span p (e - p) ∷ [])) page ≡ (covers blocks page || covers (s ∷ []) page)
  covers-joined page =
      covers-append (take j blocks) (span p (e - p) ∷ drop k blocks) page
      ∙ ap (λ b. covers (take j blocks) page || (b || covers (drop k blocks) page)) (holds-joined p e page s before.below after.above)
      ∙ regroup (covers (take j blocks) page) (holds (span p (s.start - p)) page) (holds s page) (holds (span (end_of s) (e - end_of s)) page) (covers (drop k blocks) page)
      ∙ ap (λ b. (covers (take j blocks) page || (b || (holds (span (end_of s) (e - end_of s)) page || covers (drop k blocks) page))) || covers (s ∷ []) page) (sym (before.cover page))
      ∙ ap (λ b. (covers (take j blocks) page || (covers (slice_range blocks j i) page || (b || covers (drop k blocks) page))) || covers (s ∷ []) page) (sym (after.cover page))
      ∙ ap (λ b. b || covers (s ∷ []) page) (sym (covers-parts page))

  pub takes_in : AreSeparateFrom 0 blocks → 1 ≤ s.pages → TakesIn blocks (spliced blocks j k (span p (e - p) ∷ [])) (s ∷ [])
  takes_in n some =
      let low : p ≤ s.start = before.below in
      let high : end_of s ≤ e = after.above in
      let end : suc e ≡ suc (end_of (span p (e - p))) = omega arith in
      record {
        separate = separate-around 0 (take j blocks) (span p (e - p)) (drop k blocks)
            (separate-take 0 (take j blocks) (drop j blocks) (subst (AreSeparateFrom 0) (sym (take-append-drop j blocks)) n)) before.apart (omega arith) (omega arith)
            (subst (λ low. AreSeparateFrom low (drop k blocks)) end after.apart);
        cover = covers-joined;
      }
