-- What a search among separate blocks finds, where one block parts them in two sides.
use Rattle.std.proofs.Common.{◌≡◌, ℕ, zero, suc, ◌+◌, ◌<◌, ◌≤◌, inl, inr, Bool, true, false, cond, if◌then◌else◌, nat_le, find, filter, List, [], ◌∷◌, ◌++◌, length, take, get_or, slice_get, get_or-take, length-take, Option, Some, None, All, IfSome, refl, ap, sym, ◌∙◌, subst, arith}
use Rattle.std.specs.Int.{next_multiple_of}
use Rattle.std.specs.Option.{option_or}
use Rattle.std.specs.List.{prefix_len}
use Rattle.std.proofs.lemmas.Bool.{cases_lt, leb-true, leb-false}
use Rattle.std.proofs.lemmas.Option.{slice_get-get_or, slice_get_past}
use Rattle.std.proofs.lemmas.List.Sums.{prefix_len-le-length, prefix_len_passes, prefix_len_stops}
use Rattle.std.proofs.lemmas.Bool.Decides.{nat_tests}
use Rattle.std.proofs.lemmas.List.Elements.{All-nil, All-cons, All-head, All-tail, All-weaker, filter-append}
use Rattle.std.proofs.lemmas.List.Folds.{find-append}
use Rattle.vm_model.specs.declared.areas.Span.{Span}
use Rattle.vm_model.specs.Space.{span, end_of, holds, longest_of, AreSeparateFrom}
use Rattle.vm_model.specs.Setup.{last_of}
use Rattle.vm_model.proofs.Runs.{AreSeparateFrom-weaken, covers-below, holds-in, holds-above}
use Rattle.augmented_tree.specs.BlockLists.{has_room, first_start}
use Rattle.augmented_tree.proofs.SeparateBlocks.{separate-tail, separate-take, covers-before, ends_before}
use Rattle.augmented_tree.proofs.FoundBlocks.{find_past, find_none, filter_none}
use Rattle.augmented_tree.proofs.NodeNumbers.{largest-cons}

ends_behind : (page low : ℕ) (xs : List Span) → AreSeparateFrom low xs → page < low → All (λ (x : Span). nat_le (end_of x) page ≡ false) xs
ends_behind page low [] n h = All-nil (λ (x : Span). nat_le (end_of x) page ≡ false)
ends_behind page low (x ∷ xs) n h =
    All-cons (λ (x : Span). nat_le (end_of x) page ≡ false) x xs (grind (arith, nat_tests)) (ends_behind page (suc (end_of x)) xs n.2 (omega arith))

last_of-some : {X : Type 0} (x y : X) (xs : List X) → option_or (last_of (x ∷ xs)) (Some y) ≡ last_of (x ∷ xs)
last_of-some x y [] = refl
last_of-some x y (z ∷ xs) = last_of-some z y xs

last_of-append : {X : Type 0} (xs : List X) (y : X) (ys : List X) → last_of (xs ++ y ∷ ys) ≡ option_or (last_of ys) (Some y)
last_of-append [] y [] = refl
last_of-append [] y (z ∷ ys) = sym (last_of-some z y ys)
last_of-append (x ∷ []) y ys = last_of-append [] y ys
last_of-append (x ∷ w ∷ xs) y ys = last_of-append (w ∷ xs) y ys

-- the last of some of the first elements, and the one behind them
module _ {X : Type 0} where
  take_past : (l : List X) (b : X) (r : List X) (i j : ℕ) → j ≡ length l + 1 + i → take j (l ++ b ∷ r) ≡ l ++ b ∷ take i r
  take_past [] b r i j e = let next : j ≡ suc i = omega arith in ap (λ k. take k (b ∷ r)) next
  take_past (x ∷ l) b r i zero e = absurd (omega arith)
  take_past (x ∷ l) b r i (suc j) e = ap (λ xs. x ∷ xs) (take_past l b r i j (omega arith))

  pub before_right : (l : List X) (b : X) (r : List X) (i j : ℕ) → j ≡ length l + 1 + i → option_or (last_of (take i r)) (Some b) ≡ last_of (take j (l ++ b ∷ r))
  before_right l b r i j e = sym (ap last_of (take_past l b r i j e) ∙ last_of-append l b (take i r))

  pub behind_left : (l : List X) (b : X) (r : List X) (i : ℕ) → i ≤ length l → option_or (slice_get l i) (Some b) ≡ slice_get (l ++ b ∷ r) i
  behind_left [] b r zero h = refl
  behind_left [] b r (suc i) h = absurd (omega arith)
  behind_left (x ∷ l) b r zero h = refl
  behind_left (x ∷ l) b r (suc i) h = behind_left l b r i (omega arith)

module _ (l : List Span) (b : Span) (r : List Span) (n : AreSeparateFrom 0 (l ++ b ∷ r)) where
  pub separate_left : AreSeparateFrom 0 l
  separate_left = separate-take 0 l (b ∷ r) n

  pub separate_right : AreSeparateFrom 0 r
  separate_right = AreSeparateFrom-weaken 0 (suc (end_of b)) r (omega arith) (separate-tail 0 l b r n).2

  module _ (page : ℕ) where
    pub find_left : page < b.start → find (λ (s : Span). holds s page) l ≡ find (λ (s : Span). holds s page) (l ++ b ∷ r)
    find_left h =
        let none : find (λ (s : Span). holds s page) (b ∷ r) ≡ None = find_none page (b ∷ r) (covers-below b.start (b ∷ r) page (separate-tail 0 l b r n) h) in
        sym (find-append (λ (s : Span). holds s page) l (b ∷ r) ∙ ap (option_or (find (λ (s : Span). holds s page) l)) none ∙ or_none (find (λ (s : Span). holds s page) l))
      where
        or_none : (o : Option Span) → option_or o None ≡ o
        or_none None = refl
        or_none (Some s) = refl

    pub find_here : b.start ≤ page → page < end_of b → Some b ≡ find (λ (s : Span). holds s page) (l ++ b ∷ r)
    find_here from to = sym (find_past page l (b ∷ r) (covers-before 0 l b r page n from) ∙ ap (λ t. cond t (Some b) (find (λ (s : Span). holds s page) r)) (holds-in b page from to))

    pub find_right : end_of b ≤ page → find (λ (s : Span). holds s page) r ≡ find (λ (s : Span). holds s page) (l ++ b ∷ r)
    find_right from =
        sym (find_past page l (b ∷ r) (covers-before 0 l b r page n (omega arith)) ∙ ap (λ t. cond t (Some b) (find (λ (s : Span). holds s page) r)) (holds-above b page from))

    pub last_left : page < end_of b → last_of (filter (λ (s : Span). nat_le (end_of s) page) l) ≡ last_of (filter (λ (s : Span). nat_le (end_of s) page) (l ++ b ∷ r))
    last_left h =
        let p : Span → Bool = λ s. nat_le (end_of s) page in
        let none : filter p (b ∷ r) ≡ [] = filter_none p (b ∷ r) (All-cons (λ (s : Span). p s ≡ false) b r (grind (arith, nat_tests)) (ends_behind page (suc (end_of b)) r (separate-tail 0 l b r n).2 (omega arith))) in
        sym (ap last_of (filter-append p l (b ∷ r) ∙ ap (λ ys. filter p l ++ ys) none ∙ append_nil (filter p l)))
      where
        append_nil : (xs : List Span) → xs ++ [] ≡ xs
        append_nil [] = refl
        append_nil (x ∷ xs) = ap (λ ys. x ∷ ys) (append_nil xs)

    pub last_right : end_of b ≤ page → option_or (last_of (filter (λ (s : Span). nat_le (end_of s) page) r)) (Some b) ≡ last_of (filter (λ (s : Span). nat_le (end_of s) page) (l ++ b ∷ r))
    last_right h =
        let p : Span → Bool = λ s. nat_le (end_of s) page in
        let here : nat_le (end_of b) page ≡ true = grind (arith, nat_tests) in
        sym (ap last_of (filter-append p l (b ∷ r) ∙ ap (λ t. filter p l ++ cond t (b ∷ filter p r) (filter p r)) here) ∙ last_of-append (filter p l) b (filter p r))

    pub prefix_left : page < b.start → prefix_len (λ (s : Span). nat_le s.start page) l ≡ prefix_len (λ (s : Span). nat_le s.start page) (l ++ b ∷ r)
    prefix_left h = let here : nat_le b.start page ≡ false = grind (arith, nat_tests) in
        prefix_stops (λ (s : Span). nat_le s.start page) l b r here
      where
        prefix_stops : (p : Span → Bool) (l : List Span) (b : Span) (r : List Span) → p b ≡ false → prefix_len p l ≡ prefix_len p (l ++ b ∷ r)
        prefix_stops p [] b r e = sym (ap (λ t. cond t (1 + prefix_len p r) 0) e)
        prefix_stops p (x ∷ l) b r e = ap (λ k. cond (p x) (1 + k) 0) (prefix_stops p l b r e)

    pub prefix_right : b.start ≤ page → length l + 1 + prefix_len (λ (s : Span). nat_le s.start page) r ≡ prefix_len (λ (s : Span). nat_le s.start page) (l ++ b ∷ r)
    prefix_right h =
        let here : nat_le b.start page ≡ true = grind (arith, nat_tests) in
        let all = All-weaker (λ (x : Span). end_of x < b.start) (λ (x : Span). nat_le x.start page ≡ true) (λ x e. grind (arith, nat_tests)) l (ends_before 0 l b r n) in
        prefix_goes_on (λ (s : Span). nat_le s.start page) l b r all here
      where
        prefix_goes_on : (p : Span → Bool) (l : List Span) (b : Span) (r : List Span) → All (λ x. p x ≡ true) l → p b ≡ true → length l + 1 + prefix_len p r ≡ prefix_len p (l ++ b ∷ r)
        prefix_goes_on p [] b r a e = (let one : 0 + 1 + prefix_len p r ≡ 1 + prefix_len p r = omega arith in one) ∙ sym (ap (λ t. cond t (1 + prefix_len p r) 0) e)
        prefix_goes_on p (x ∷ l) b r a e =
            let rest = prefix_goes_on p l b r (All-tail (λ x. p x ≡ true) x l a) e in
            (let one : suc (length l) + 1 + prefix_len p r ≡ 1 + prefix_len p (l ++ b ∷ r) = omega arith in one) ∙ sym (ap (λ t. cond t (1 + prefix_len p (l ++ b ∷ r)) 0) (All-head (λ x. p x ≡ true) x l a))

-- The first block with room.

module _ (n k : ℕ) where
  keeps_first : (t : Bool) (here start : ℕ) (o p : Option ℕ) → (Some start ≡ o → Some start ≡ p) → Some start ≡ cond t (Some here) o → Some start ≡ cond t (Some here) p
  keeps_first true here start o p f e = e
  keeps_first false here start o p f e = f e

  pub first_left : (l ys : List Span) (start : ℕ) → Some start ≡ first_start n k l → Some start ≡ first_start n k (l ++ ys)
  first_left [] ys start e = cc
  first_left (x ∷ l) ys start e = keeps_first (has_room n k x) _ start _ _ (first_left l ys start) e

  passes_over : (t : Bool) (here : ℕ) (o p q : Option ℕ) → (None ≡ o → q ≡ p) → None ≡ cond t (Some here) o → q ≡ cond t (Some here) p
  passes_over true here o p q f e = cc
  passes_over false here o p q f e = f e

  pub first_behind : (l ys : List Span) → None ≡ first_start n k l → first_start n k ys ≡ first_start n k (l ++ ys)
  first_behind [] ys e = refl
  first_behind (x ∷ l) ys e = passes_over (has_room n k x) _ _ _ _ (first_behind l ys) e

  first_of_all : (t : Bool) (start : ℕ) (o rest : Option ℕ) → o ≡ cond t (Some start) None → option_or o rest ≡ cond t (Some start) rest
  first_of_all true start o rest e = ap (λ p. option_or p rest) e
  first_of_all false start o rest e = ap (λ p. option_or p rest) e

  -- what the block itself gives, and then the right side
  pub first_here : (l : List Span) (b : Span) (r : List Span) (o : Option ℕ) → None ≡ first_start n k l → o ≡ (if has_room n k b then Some (next_multiple_of b.start k) else None)
      → option_or o (first_start n k r) ≡ first_start n k (l ++ b ∷ r)
  first_here l b r o none e = first_of_all (has_room n k b) (next_multiple_of b.start k) o (first_start n k r) e ∙ first_behind l (b ∷ r) none

no_room : (n k : ℕ) (x : Span) → x.pages < n → has_room n k x ≡ false
no_room n k x h = grind (arith, nat_tests)

pub first_start-small : (n k : ℕ) (xs : List Span) → (longest_of xs).pages < n → None ≡ first_start n k xs
first_start-small n k [] h = refl
first_start-small n k (x ∷ xs) h =
    let most = largest-cons x xs in
    let rest : (longest_of xs).pages < n = omega arith in
    first_start-small n k xs rest ∙ sym (ap (λ t. cond t (Some (next_multiple_of x.start k)) (first_start n k xs)) (no_room n k x (omega arith)))

-- What holds of all blocks holds on both sides.
pub record AtSides (P : Span → Type 0) (l : List Span) (b : Span) (r : List Span) : Type 0 where
  pub left : All P l
  pub here : P b
  pub right : All P r

pub All-sides : (P : Span → Type 0) (l : List Span) (b : Span) (r : List Span) → All P (l ++ b ∷ r) → AtSides P l b r
All-sides P [] b r a = record { left = All-nil P; here = All-head P b r a; right = All-tail P b r a }
All-sides P (x ∷ l) b r a =
    let rest = All-sides P l b r (All-tail P x (l ++ b ∷ r) a) in
    record { left = All-cons P x l (All-head P x (l ++ b ∷ r) a) rest.left; here = rest.here; right = rest.right }

-- The blocks that begin at a page or before it come first.

module _ (page : ℕ) (xs : List Span) (i : ℕ) (is : i ≡ prefix_len (λ (b : Span). nat_le b.start page) xs) where
  pub up_to_bound : i ≤ length xs
  up_to_bound = omega (arith, prefix_len-le-length (λ (b : Span). nat_le b.start page) xs)

  pub up_to_before : All (λ (b : Span). b.start ≤ page) (take i xs)
  up_to_before = λ k d h.
      let low : k < i = omega (arith, length-take i xs) in
      let passes = prefix_len_passes (λ (b : Span). nat_le b.start page) xs k d (omega arith) in
      subst (λ (b : Span). b.start ≤ page) (sym (get_or-take i xs k d low)) (leb-true _ _ passes)

  pub up_to_after : IfSome (slice_get xs i) (λ (b : Span). page < b.start)
  up_to_after =
      elim (cases_lt i (length xs)) [
        | inl h ↦
            let stops = prefix_len_stops (λ (b : Span). nat_le b.start page) xs (span 0 0) (omega arith) in
            let later : page < (get_or xs i (span 0 0)).start = subst (λ j. page < (get_or xs j (span 0 0)).start) (sym is) (leb-false _ _ stops) in
            subst (λ o. IfSome o (λ (b : Span). page < b.start)) (sym (slice_get-get_or xs i (span 0 0) h)) later
        | inr h ↦ subst (λ o. IfSome o (λ (b : Span). page < b.start)) (sym (slice_get_past xs i h)) tt
      ]
