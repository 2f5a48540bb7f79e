-- The block that holds a page or is the highest below it: nothing is free from its end up to that page.
use Rattle.std.proofs.Common.{◌≡◌, ℕ, suc, ◌<◌, ◌≤◌, Bool, true, false, cond, ◌||◌, nat_le, find, filter, List, [], ◌∷◌, ◌++◌, Option, Some, None, All, IfSome, IfNone, refl, ap, sym, ◌∙◌, subst, arith}
use Rattle.std.proofs.lemmas.Bool.{or_parts, or_from, or_right}
use Rattle.std.proofs.lemmas.Bool.Decides.{nat_tests}
use Rattle.std.proofs.lemmas.List.Elements.{All-nil, All-cons, All-head, All-tail, All-same}
use Rattle.vm_model.specs.declared.areas.Span.{Span}
use Rattle.vm_model.specs.Space.{end_of, holds, covers, AreSeparateFrom}
use Rattle.vm_model.specs.Setup.{last_of}
use Rattle.vm_model.proofs.Runs.{covers-below, holds-above}
use Rattle.augmented_tree.specs.BlockLists.{AreBlocks}
use Rattle.augmented_tree.proofs.SeparateBlocks.{covers-append, covers-before, separate-tail, cover_from_ends}
use Rattle.augmented_tree.specs.FreeBlocks.{IsFree}
use Rattle.congruent_areas.specs.GroupsAtBase.{IsLastUpTo}

-- Where an element stands in a list.

record Standing {X : Type 0} (xs : List X) (x : X) : Type 0 where
  before : List X
  after : List X
  is : xs ≡ before ++ x ∷ after

abbrev behind : {X : Type 0} (y : X) (xs : List X) (x : X) → Standing xs x → Standing (y ∷ xs) x
behind y xs x at = record { before = y ∷ at.before; after = at.after; is = ap (λ zs. y ∷ zs) at.is }

some_same : {X : Type 0} (x y : X) → Some y ≡ Some x → y ≡ x
some_same x y e = cc

-- the first that passes a test
module _ {X : Type 0} (p : X → Bool) where
  first_by : (y : X) (xs : List X) (x : X) (b : Bool) → p y ≡ b → cond b (Some y) (find p xs) ≡ Some x → (find p xs ≡ Some x → Standing xs x × (p x ≡ true))
      → Standing (y ∷ xs) x × (p x ≡ true)
  first_by y xs x true t e later = let same = some_same x y e in (record { before = []; after = xs; is = ap (λ z. z ∷ xs) same }, subst (λ z. p z ≡ true) same t)
  first_by y xs x false t e later = let at = later e in (behind y xs x at.0, at.1)

  first_at : (xs : List X) (x : X) → find p xs ≡ Some x → Standing xs x × (p x ≡ true)
  first_at [] x e = cc
  first_at (y ∷ xs) x e = first_by y xs x (p y) refl e (λ e. first_at xs x e)

  -- the last that passes a test, behind which none does
  record Last (xs : List X) (x : X) : Type 0 where
    at : Standing xs x
    passes : p x ≡ true
    fail : All (λ y. p y ≡ false) at.after

  last_behind : (y : X) (xs : List X) (x : X) → Last xs x → Last (y ∷ xs) x
  last_behind y xs x last = record { at = behind y xs x last.at; passes = last.passes; fail = last.fail }

  empty_by : (y : X) (xs : List X) (b : Bool) → p y ≡ b → cond b (y ∷ filter p xs) (filter p xs) ≡ [] → (filter p xs ≡ [] → All (λ y. p y ≡ false) xs) → All (λ y. p y ≡ false) (y ∷ xs)
  empty_by y xs true t e later = cc
  empty_by y xs false t e later = All-cons (λ y. p y ≡ false) y xs t (later e)

  none_kept : (xs : List X) → filter p xs ≡ [] → All (λ y. p y ≡ false) xs
  none_kept [] e = All-nil (λ y. p y ≡ false)
  none_kept (y ∷ xs) e = empty_by y xs (p y) refl e (λ e. none_kept xs e)

  last_kept : (y : X) (xs : List X) (x : X) (kept : List X) → filter p xs ≡ kept → p y ≡ true → last_of (y ∷ kept) ≡ Some x → (last_of kept ≡ Some x → Last xs x) → Last (y ∷ xs) x
  last_kept y xs x [] k t e later =
      let same = some_same x y e in
      record { at = record { before = []; after = xs; is = ap (λ z. z ∷ xs) same }; passes = subst (λ z. p z ≡ true) same t; fail = none_kept xs k }
  last_kept y xs x (z ∷ kept) k t e later = last_behind y xs x (later e)

  last_by : (y : X) (xs : List X) (x : X) (b : Bool) → p y ≡ b → last_of (cond b (y ∷ filter p xs) (filter p xs)) ≡ Some x → (last_of (filter p xs) ≡ Some x → Last xs x) → Last (y ∷ xs) x
  last_by y xs x true t e later = last_kept y xs x (filter p xs) refl t e later
  last_by y xs x false t e later = last_behind y xs x (later e)

  last_at : (xs : List X) (x : X) → last_of (filter p xs) ≡ Some x → Last xs x
  last_at [] x e = cc
  last_at (y ∷ xs) x e = last_by y xs x (p y) refl e (λ e. last_at xs x e)

  last_of-none : (xs : List X) → last_of xs ≡ None → xs ≡ []
  last_of-none [] e = refl
  last_of-none (x ∷ []) e = cc
  last_of-none (x ∷ y ∷ xs) e = let later : y ∷ xs ≡ [] = last_of-none (y ∷ xs) e in cc

-- What the blocks cover.

none_by : (page : ℕ) (x : Span) (xs : List Span) (b : Bool) → holds x page ≡ b → cond b (Some x) (find (λ (b : Span). holds b page) xs) ≡ None → (find (λ (b : Span). holds b page) xs ≡ None → covers xs page ≡ false)
    → (b || covers xs page) ≡ false
none_by page x xs true t e later = cc
none_by page x xs false t e later = later e

none_found : (page : ℕ) (xs : List Span) → find (λ (b : Span). holds b page) xs ≡ None → covers xs page ≡ false
none_found page [] e = refl
none_found page (x ∷ xs) e = none_by page x xs (holds x page) refl e (λ e. none_found page xs e)

standing_free : (xs : List Span) (b : Span) → Standing xs b → IsFree xs b
standing_free xs b at page h =
    ap (λ spans. covers spans page) at.is ∙ covers-append at.before (b ∷ at.after) page
    ∙ or_right _ _ (ap (λ t. t || covers at.after page) h)

standing_end : (xs : List Span) (b : Span) → AreBlocks xs → Standing xs b → end_of b ≤ 1048576
standing_end xs b blocks at =
    All-head (λ (b : Span). end_of b ≤ 1048576) b at.after (All-behind at.before (b ∷ at.after) (All-same (λ (b : Span). end_of b ≤ 1048576) _ _ (sym at.is) blocks.ends))
  where
    All-behind : (us vs : List Span) → All (λ (b : Span). end_of b ≤ 1048576) (us ++ vs) → All (λ (b : Span). end_of b ≤ 1048576) vs
    All-behind [] vs a = a
    All-behind (u ∷ us) vs a = All-behind us vs (All-tail (λ (b : Span). end_of b ≤ 1048576) u (us ++ vs) a)

-- from a block's end on, where nothing behind it covers the page
behind_block : (xs : List Span) (b : Span) (at : Standing xs b) (page : ℕ) → AreSeparateFrom 0 xs → end_of b ≤ page → covers at.after page ≡ false → covers xs page ≡ false
behind_block xs b at page n past none =
    ap (λ spans. covers spans page) at.is ∙ covers-append at.before (b ∷ at.after) page
    ∙ or_from _ _ (covers-before 0 at.before b at.after page (subst (AreSeparateFrom 0) at.is n) (omega arith)) (or_from _ _ (holds-above b page past) none)

-- blocks that end behind a page, and don't cover it, begin behind it
nothing_up_to : (low page p : ℕ) (xs : List Span) → AreSeparateFrom low xs → All (λ (b : Span). nat_le (end_of b) page ≡ false) xs → covers xs page ≡ false → p ≤ page → covers xs p ≡ false
nothing_up_to low page p [] n a none h = refl
nothing_up_to low page p (x ∷ xs) n a none h =
    let past : nat_le (end_of x) page ≡ false = All-head (λ (b : Span). nat_le (end_of b) page ≡ false) x xs a in
    let out : holds x page ≡ false = (or_parts _ _ none).0 in
    let start : page < x.start = grind (arith, nat_tests) in
    covers-below x.start (x ∷ xs) p (omega arith, n.1, n.2) (omega arith)

tail_separate : (xs : List Span) (b : Span) (at : Standing xs b) → AreSeparateFrom 0 xs → AreSeparateFrom (suc (end_of b)) at.after
tail_separate xs b at n = (separate-tail 0 at.before b at.after (subst (AreSeparateFrom 0) at.is n)).2

module _ (xs : List Span) (page : ℕ) (blocks : AreBlocks xs) where
  pub holding_block : (b : Span) → Some b ≡ find (λ (b : Span). holds b page) xs → IsLastUpTo xs page b
  holding_block b e =
      let at = (first_at (λ (b : Span). holds b page) xs b (sym e)).0 in
      let here : holds b page ≡ true = (first_at (λ (b : Span). holds b page) xs b (sym e)).1 in
      let first : b.start ≤ page = grind (arith, nat_tests) in
      let last : page < end_of b = grind (arith, nat_tests) in
      record {
        free = standing_free xs b at;
        from = first;
        end = standing_end xs b blocks at;
        behind = λ p low high. behind_block xs b at p blocks.separate low (covers-below (suc (end_of b)) at.after p (tail_separate xs b at blocks.separate) (omega arith));
      }

  pub block_below : (b : Span) → None ≡ find (λ (b : Span). holds b page) xs → Some b ≡ last_of (filter (λ (b : Span). nat_le (end_of b) page) xs) → IsLastUpTo xs page b
  block_below b none e =
      let last = last_at (λ (b : Span). nat_le (end_of b) page) xs b (sym e) in
      let passes : nat_le (end_of b) page ≡ true = last.passes in
      let end : end_of b ≤ page = grind (arith, nat_tests) in
      let out : covers xs page ≡ false = none_found page xs (sym none) in
      let after : covers last.at.after page ≡ false = (or_parts (holds b page) _ (or_parts (covers last.at.before page) _ (sym (covers-append last.at.before (b ∷ last.at.after) page) ∙ ap (λ spans. covers spans page) (sym last.at.is) ∙ out)).1).1 in
      record {
        free = standing_free xs b last.at;
        from = omega arith;
        end = standing_end xs b blocks last.at;
        behind = λ p low high. behind_block xs b last.at p blocks.separate low
            (nothing_up_to (suc (end_of b)) page p last.at.after (tail_separate xs b last.at blocks.separate) last.fail after (omega arith));
      }

  pub nothing_below : (p : ℕ) → None ≡ find (λ (b : Span). holds b page) xs → None ≡ last_of (filter (λ (b : Span). nat_le (end_of b) page) xs) → p ≤ page → covers xs p ≡ false
  nothing_below p none e h =
      nothing_up_to 0 page p xs blocks.separate (none_kept (λ (b : Span). nat_le (end_of b) page) xs (last_of-none (λ (b : Span). nat_le (end_of b) page) _ (sym e))) (none_found page xs (sym none)) h

  pub in_space : (p : ℕ) → covers xs p ≡ true → p < 1048576
  in_space p c = cover_from_ends 1048576 xs p blocks.ends c

  pub block_below_if_some : (found : Option Span) → None ≡ find (λ (b : Span). holds b page) xs → found ≡ last_of (filter (λ (b : Span). nat_le (end_of b) page) xs) → IfSome found (IsLastUpTo xs page)
  block_below_if_some None none e = tt
  block_below_if_some (Some b) none e = block_below b none e

  pub nothing_below_if_none : (found : Option Span) → None ≡ find (λ (b : Span). holds b page) xs → found ≡ last_of (filter (λ (b : Span). nat_le (end_of b) page) xs)
      → IfNone found ((p : ℕ) → p ≤ page → covers xs p ≡ false)
  nothing_below_if_none None none e = λ p h. nothing_below p none e h
  nothing_below_if_none (Some b) none e = tt
