-- A side without its fragmented blocks.
use Rattle.std.proofs.Common.{◌≡◌, ◌≢◌, ℕ, zero, suc, ◌+◌, ◌<◌, Bool, true, false, not, ◌&&◌, ◌||◌, ◌==◌, nat_lt, cond, List, [], ◌∷◌, ◌++◌, length, map, filter, take, drop, get_or, Some, Result, Ok, Err, OnErr, refl, sym, ap, subst, ◌∙◌, arith}
use Rattle.std.proofs.lemmas.Bool.Decides.{nat_tests}
use Rattle.std.proofs.lemmas.List.{take_more, append-nil, drop_more}
use Rattle.std.proofs.lemmas.List.Elements.{filter-append}
use Rattle.std.specs.Map.{values_of, remove_entry}
use Rattle.vm_model.specs.Space.{is_among}
use Rattle.vm_model.specs.PlainMap.{Block}
use Rattle.vm_model.specs.Blocks as model
use Rattle.vm_model.specs.Blocks.{parts_size, free_of, dirty_of, is_fragmented}
use Rattle.map_blocks.specs.BlockRows.{sized}
use Rattle.map_blocks.specs.KeptBlocks.{KeptRow}
use Rattle.map_blocks.specs.KeptBlockSides.{IsOwn, AreApartFrom, AreKept, block_at, by_number, blocks_in, is_broken, is_fragment, without_all}
use Rattle.map_blocks.proofs.PartsInRow.{same_test}
use Rattle.map_blocks.proofs.SortedByNumber.{Holds, holds_of, holds_filter, sort_holds, sort_filter}
use Rattle.map_blocks.proofs.BlocksByStart.{at_key, starts_at, all_at, IsAt}
use Rattle.map_blocks.proofs.FirstPassing.{filter_of_map}
use Rattle.map_blocks.proofs.BlocksInOrder.{number_of, block_of, only, pick_sorted, sorted_own}
use Rattle.map_blocks.proofs.Retired.{leaves, apart_removed, values_removed}
use Rattle.map_blocks.proofs.Taken.{start_of, roomy, filter_all}

-- One more of those that pass.
module _ (p : ℕ → Bool) (xs : List ℕ) (i : ℕ) (inside : i < length xs) where
  taken : filter p (take (i + 1) xs) ≡ filter p (take i xs) ++ filter p (get_or xs i 0 ∷ [])
  taken = ap (filter p) (take_more xs i 0 inside) ∙ filter-append p (take i xs) (get_or xs i 0 ∷ [])

  pub taken_yes : p (get_or xs i 0) ≡ true → filter p (take (i + 1) xs) ≡ filter p (take i xs) ++ get_or xs i 0 ∷ []
  taken_yes e = taken ∙ ap (λ t. filter p (take i xs) ++ cond t (get_or xs i 0 ∷ []) []) e

  pub taken_no : p (get_or xs i 0) ≡ false → filter p (take (i + 1) xs) ≡ filter p (take i xs)
  taken_no e = taken ∙ ap (λ t. filter p (take i xs) ++ cond t (get_or xs i 0 ∷ []) []) e ∙ append-nil (filter p (take i xs))

-- where one passes, some do
some_by : (p : ℕ → Bool) (x : ℕ) (xs : List ℕ) (t : Bool) → filter p xs ≢ [] → cond t (x ∷ filter p xs) (filter p xs) ≢ []
some_by p x xs true more = λ e. cc
some_by p x xs false more = more

pub some_taken : (p : ℕ → Bool) (xs : List ℕ) (i : ℕ) → i < length xs → p (get_or xs i 0) ≡ true → filter p xs ≢ []
some_taken p [] i inside e = absurd (omega arith)
some_taken p (x ∷ xs) zero inside e = λ none. (let first : cond true (x ∷ filter p xs) (filter p xs) ≡ [] = ap (λ t. cond t (x ∷ filter p xs) (filter p xs)) (sym e) ∙ none in cc)
some_taken p (x ∷ xs) (suc i) inside e = some_by p x xs (p x) (some_taken p xs i (omega arith) e)

-- what is said of errors
pub on_err : {A E : Type 0} (P : Type 0) (r : Result A E) → P → OnErr r P
on_err P (Ok x) holds = tt
on_err P (Err e) holds = holds

pub err_says : {A E : Type 0} (P : Type 0) (r : Result A E) (e : E) → r ≡ Err e → OnErr r P → P
err_says {A = A} {E = E} P r e is says = subst (λ (q : Result A E). OnErr q P) is says

-- one more is taken away
pub without_more : (starts : List ℕ) (i : ℕ) (es : List (ℕ × KeptRow)) → i < length starts → without_all (drop (i + 1) starts) (remove_entry (at_key (get_or starts i 0)) es) ≡ without_all (drop i starts) es
without_more starts i es inside = sym (ap (λ ks. without_all ks es) (drop_more starts i 0 inside))

abbrev pub broken : ℕ → KeptRow → Bool
broken pages r = is_fragmented (sized pages) r.block

filter_same : (p q : KeptRow → Bool) (xs : List KeptRow) → Holds (λ x. p x ≡ q x) xs → filter p xs ≡ filter q xs
filter_same p q [] all = refl
filter_same p q (x ∷ xs) all = ap (λ b. cond b (x ∷ filter p xs) (filter p xs)) all.0 ∙ ap (λ ys. cond (q x) (x ∷ ys) ys) (filter_same p q xs all.1)

-- a filter of a filter
twice_by : (p q : KeptRow → Bool) (x : KeptRow) (xs : List KeptRow) (t u : Bool) → p x ≡ t → filter p (filter q xs) ≡ filter (λ y. q y && p y) xs → filter p (cond u (x ∷ filter q xs) (filter q xs)) ≡ cond (u && t) (x ∷ filter (λ y. q y && p y) xs) (filter (λ y. q y && p y) xs)
twice_by p q x xs t true e more = ap (λ b. cond b (x ∷ filter p (filter q xs)) (filter p (filter q xs))) e ∙ ap (λ ys. cond t (x ∷ ys) ys) more
twice_by p q x xs t false e more = more

pub filter_twice : (p q : KeptRow → Bool) (xs : List KeptRow) → filter p (filter q xs) ≡ filter (λ y. q y && p y) xs
filter_twice p q [] = refl
filter_twice p q (x ∷ xs) = twice_by p q x xs (p x) (q x) refl (filter_twice p q xs)

leaves_more : (k n : ℕ) (ks : List ℕ) → (not (n == k) && not (is_among ks n)) ≡ not (is_among (k ∷ ks) n)
leaves_more k n ks = by_test (n == k) (k == n) (is_among ks n) same
  where
    same : (n == k) ≡ (k == n)
    same = grind (arith, nat_tests)

    by_test : (a b c : Bool) → a ≡ b → (not a && not c) ≡ not (b || c)
    by_test true true c e = refl
    by_test false false c e = refl
    by_test true false c e = cc
    by_test false true c e = cc

module _ (cpu pages added : ℕ) where
  pub without_apart : (ks : List ℕ) (es : List (ℕ × KeptRow)) → AreApartFrom cpu pages added 0 es → AreApartFrom cpu pages added 0 (without_all ks es)
  without_apart [] es apart = apart
  without_apart (k ∷ ks) es apart = without_apart ks (remove_entry (at_key k) es) (apart_removed cpu pages added 0 k es apart)

  pub without_values : (ks : List ℕ) (es : List (ℕ × KeptRow)) → 0 < pages → AreApartFrom cpu pages added 0 es → values_of (without_all ks es) ≡ filter (λ r. not (is_among ks r.block.start)) (values_of es)
  without_values [] es some apart = sym (all_true (values_of es))
    where
      all_true : (xs : List KeptRow) → filter (λ r. true) xs ≡ xs
      all_true [] = refl
      all_true (x ∷ xs) = ap (λ ys. x ∷ ys) (all_true xs)
  without_values (k ∷ ks) es some apart =
      without_values ks (remove_entry (at_key k) es) some (apart_removed cpu pages added 0 k es apart)
      ∙ ap (filter (λ r. not (is_among ks r.block.start))) (values_removed cpu pages added 0 k es some apart)
      ∙ filter_twice (λ r. not (is_among ks r.block.start)) (leaves k) (values_of es)
      ∙ filter_same (λ r. leaves k r && not (is_among ks r.block.start)) (λ r. not (is_among (k ∷ ks) r.block.start)) (values_of es) (each (values_of es))
    where
      each : (xs : List KeptRow) → Holds (λ r. (leaves k r && not (is_among ks r.block.start)) ≡ not (is_among (k ∷ ks) r.block.start)) xs
      each [] = tt
      each (x ∷ xs) = (leaves_more k x.block.start ks, each xs)

  -- A start is among the fragmented ones where its block is fragmented.

  not_by : (k : ℕ) (r x : KeptRow) (xs : List KeptRow) (t u : Bool) → (x.block.start == k) ≡ t → broken pages x ≡ u → (t ≡ true → x ≡ r) → broken pages r ≡ false → is_among (map start_of (filter (broken pages) xs)) k ≡ false
      → is_among (map start_of (cond u (x ∷ filter (broken pages) xs) (filter (broken pages) xs))) k ≡ false
  not_by k r x xs true true e f same whole more = (let is : x ≡ r = same refl in let bad : true ≡ false = sym f ∙ ap (broken pages) is ∙ whole in cc)
  not_by k r x xs false true e f same whole more = ap (λ b. b || is_among (map start_of (filter (broken pages) xs)) k) e ∙ more
  not_by k r x xs t false e f same whole more = more

  not_among : (k : ℕ) (r : KeptRow) (xs : List KeptRow) → Holds (λ x. starts_at k x ≡ true → x ≡ r) xs → broken pages r ≡ false → is_among (map start_of (filter (broken pages) xs)) k ≡ false
  not_among k r [] all whole = refl
  not_among k r (x ∷ xs) all whole = not_by k r x xs (x.block.start == k) (broken pages x) refl refl all.0 whole (not_among k r xs all.1 whole)

  or_right : (a b : Bool) → b ≡ true → (a || b) ≡ true
  or_right true b e = refl
  or_right false b e = e

  is_by : (k : ℕ) (r x : KeptRow) (xs : List KeptRow) (t u : Bool) → (x.block.start == k) ≡ t → broken pages x ≡ u → cond t (x ∷ filter (starts_at k) xs) (filter (starts_at k) xs) ≡ r ∷ [] → broken pages r ≡ true
      → (filter (starts_at k) xs ≡ r ∷ [] → is_among (map start_of (filter (broken pages) xs)) k ≡ true) → is_among (map start_of (cond u (x ∷ filter (broken pages) xs) (filter (broken pages) xs))) k ≡ true
  is_by k r x xs true true e f h whole more = ap (λ b. b || is_among (map start_of (filter (broken pages) xs)) k) e
  is_by k r x xs true false e f h whole more = (let is : x ≡ r = cc in let bad : true ≡ false = sym whole ∙ ap (broken pages) (sym is) ∙ f in cc)
  is_by k r x xs false true e f h whole more = or_right (x.block.start == k) (is_among (map start_of (filter (broken pages) xs)) k) (more h)
  is_by k r x xs false false e f h whole more = more h

  is_in : (k : ℕ) (r : KeptRow) (xs : List KeptRow) → filter (starts_at k) xs ≡ r ∷ [] → broken pages r ≡ true → is_among (map start_of (filter (broken pages) xs)) k ≡ true
  is_in k r [] h whole = cc
  is_in k r (x ∷ xs) h whole = is_by k r x xs (x.block.start == k) (broken pages x) refl refl h whole (λ g. is_in k r xs g whole)

  among_is : (es : List (ℕ × KeptRow)) (r : KeptRow) → 0 < pages → AreApartFrom cpu pages added 0 es → block_at es r.block.start ≡ Some r → is_among (map start_of (filter (broken pages) (by_number (values_of es)))) r.block.start ≡ broken pages r
  among_is es r some apart at = by_test (broken pages r) refl
    where
      by_test : (b : Bool) → broken pages r ≡ b → is_among (map start_of (filter (broken pages) (by_number (values_of es)))) r.block.start ≡ b
      by_test true e = is_in r.block.start r (by_number (values_of es)) (pick_sorted cpu pages added 0 r.block.start es r some apart at) e
      by_test false e = not_among r.block.start r (by_number (values_of es)) (only cpu pages added 0 r.block.start es r some apart at) e

  -- What is fragmented has room.

  has_room_by : (r : KeptRow) (t u : Bool) → broken pages r ≡ t → roomy pages r ≡ u → (u && t) ≡ t
  has_room_by r true true e f = refl
  has_room_by r true false e f = absurd (let none : free_of (sized pages) r.block ≡ 0 = grind (arith, nat_tests) in let low : dirty_of r.block < pages = grind (arith, nat_tests) in let all : free_of (sized pages) r.block + dirty_of r.block ≡ pages = grind (arith, nat_tests) in omega arith)
  has_room_by r false true e f = refl
  has_room_by r false false e f = refl

  queued_broken : (xs : List KeptRow) → filter (broken pages) (filter (roomy pages) xs) ≡ filter (broken pages) xs
  queued_broken xs = filter_twice (broken pages) (roomy pages) xs ∙ filter_same (λ r. roomy pages r && broken pages r) (broken pages) xs (each xs)
    where
      each : (xs : List KeptRow) → Holds (λ r. (roomy pages r && broken pages r) ≡ broken pages r) xs
      each [] = tt
      each (x ∷ xs) = (has_room_by x (broken pages x) (roomy pages x) refl refl, each xs)

  module _ (es news : List (ℕ × KeptRow)) (queue gone whole : List ℕ) (kept : AreKept cpu pages es queue added) (gone_is : gone ≡ filter (is_broken es) queue) (whole_is : whole ≡ filter (λ start. not (is_broken es start)) queue) (new : news ≡ without_all gone es) where
    at_own : (xs : List KeptRow) → Holds (IsAt cpu pages added es 0) xs → Holds (IsOwn cpu pages added) xs → Holds (λ x. is_broken es (start_of x) ≡ broken pages x) xs
    at_own [] at own = tt
    at_own (x ∷ xs) at own = (ap is_fragment at.0.found ∙ ap (λ n. is_fragmented (sized n) x.block) own.0.size, at_own xs at.1 own.1)

    sorted_at : Holds (IsAt cpu pages added es 0) (by_number (values_of es))
    sorted_at = sort_holds number_of (IsAt cpu pages added es 0) (values_of es) (all_at cpu pages added 0 es (omega (arith, kept.least)) kept.apart)

    same_broken : Holds (λ x. is_broken es (start_of x) ≡ broken pages x) (filter (roomy pages) (by_number (values_of es)))
    same_broken = holds_filter (λ x. is_broken es (start_of x) ≡ broken pages x) (roomy pages) (by_number (values_of es)) (at_own (by_number (values_of es)) sorted_at (sorted_own cpu pages added 0 es kept.apart))

    gone_rows : gone ≡ map start_of (filter (broken pages) (by_number (values_of es)))
    gone_rows = gone_is ∙ ap (filter (is_broken es)) kept.queue_is ∙ filter_of_map start_of (is_broken es) (filter (roomy pages) (by_number (values_of es)))
        ∙ ap (map start_of) (filter_same (λ x. is_broken es (start_of x)) (broken pages) (filter (roomy pages) (by_number (values_of es))) same_broken ∙ queued_broken (by_number (values_of es)))

    -- they are those of the model
    pub gone_model : gone ≡ model.fragmented (sized pages) cpu (blocks_in (values_of es))
    gone_model = gone_rows ∙ sym (
        ap (λ bs. map (λ (b : Block). b.start) (filter (is_fragmented (sized pages)) (filter (λ (b : Block). nat_lt 0 (free_of (sized pages) b)) bs)))
        (filter_all (λ (b : Block). b.cpu == cpu) (by_number (values_of es)) (holds_of (IsOwn cpu pages added) (λ x. (x.block.cpu == cpu) ≡ true) (by_number (values_of es)) (λ x own. ap (λ n. n == cpu) own.own ∙ same_test cpu) (sorted_own cpu pages added 0 es kept.apart)))
        ∙ ap (λ bs. map (λ (b : Block). b.start) (filter (is_fragmented (sized pages)) bs)) (filter_of_map block_of (λ (b : Block). nat_lt 0 (free_of (sized pages) b)) (by_number (values_of es)))
        ∙ ap (map (λ (b : Block). b.start)) (filter_of_map block_of (is_fragmented (sized pages)) (filter (roomy pages) (by_number (values_of es))))
        ∙ starts_of (filter (broken pages) (filter (roomy pages) (by_number (values_of es))))
        ∙ ap (map start_of) (queued_broken (by_number (values_of es)))
        )
      where
        starts_of : (xs : List KeptRow) → map (λ (b : Block). b.start) (map block_of xs) ≡ map start_of xs
        starts_of [] = refl
        starts_of (x ∷ xs) = ap (λ ns. x.block.start ∷ ns) (starts_of xs)

    -- a block stays where it isn't fragmented
    stays : Holds (λ x. not (is_among gone (start_of x)) ≡ not (broken pages x)) (by_number (values_of es))
    stays = holds_of (IsAt cpu pages added es 0) (λ x. not (is_among gone (start_of x)) ≡ not (broken pages x)) (by_number (values_of es))
        (λ x at. ap (λ ks. not (is_among ks x.block.start)) gone_rows ∙ ap not (among_is es x (omega (arith, kept.least)) kept.apart at.found)) sorted_at

    new_rows : by_number (values_of news) ≡ filter (λ r. not (is_among gone (start_of r))) (by_number (values_of es))
    new_rows = ap (λ xs. by_number (values_of xs)) new ∙ ap by_number (without_values gone es (omega (arith, kept.least)) kept.apart) ∙ sym (sort_filter number_of (λ r. not (is_among gone r.block.start)) (values_of es))

    pub gone_blocks : blocks_in (values_of news) ≡ filter (λ (b : Block). not ((b.cpu == cpu) && is_among gone b.start)) (blocks_in (values_of es))
    gone_blocks = ap (map block_of) new_rows
        ∙ sym (filter_of_map block_of (λ (b : Block). not ((b.cpu == cpu) && is_among gone b.start)) (by_number (values_of es))
        ∙ ap (map block_of) (filter_same (λ r. not ((r.block.cpu == cpu) && is_among gone r.block.start)) (λ r. not (is_among gone (start_of r))) (by_number (values_of es))
        (holds_of (IsOwn cpu pages added) (λ r. not ((r.block.cpu == cpu) && is_among gone r.block.start) ≡ not (is_among gone (start_of r))) (by_number (values_of es))
        (λ r own. ap (λ t. not (t && is_among gone r.block.start)) (ap (λ n. n == cpu) own.own ∙ same_test cpu)) (sorted_own cpu pages added 0 es kept.apart))))

    swap_tests : (xs : List KeptRow) → filter (roomy pages) (filter (λ r. not (broken pages r)) xs) ≡ filter (λ r. not (broken pages r)) (filter (roomy pages) xs)
    swap_tests xs = filter_twice (roomy pages) (λ r. not (broken pages r)) xs ∙ filter_same (λ r. not (broken pages r) && roomy pages r) (λ r. roomy pages r && not (broken pages r)) xs (each xs) ∙ sym (filter_twice (λ r. not (broken pages r)) (roomy pages) xs)
      where
        commute : (a b : Bool) → (a && b) ≡ (b && a)
        commute true true = refl
        commute true false = refl
        commute false true = refl
        commute false false = refl

        each : (xs : List KeptRow) → Holds (λ r. (not (broken pages r) && roomy pages r) ≡ (roomy pages r && not (broken pages r))) xs
        each [] = tt
        each (x ∷ xs) = (commute (not (broken pages x)) (roomy pages x), each xs)

    pub gone_kept : AreKept cpu pages news whole added
    gone_kept = record {
      apart = subst (AreApartFrom cpu pages added 0) (sym new) (without_apart gone es kept.apart);
      queue_is = whole_is ∙ ap (filter (λ start. not (is_broken es start))) kept.queue_is ∙ filter_of_map start_of (λ start. not (is_broken es start)) (filter (roomy pages) (by_number (values_of es)))
          ∙ ap (map start_of) (filter_same (λ x. not (is_broken es (start_of x))) (λ x. not (broken pages x)) (filter (roomy pages) (by_number (values_of es)))
          (holds_of (λ x. is_broken es (start_of x) ≡ broken pages x) (λ x. not (is_broken es (start_of x)) ≡ not (broken pages x)) (filter (roomy pages) (by_number (values_of es))) (λ x e. ap not e) same_broken))
          ∙ sym (ap (λ xs. map start_of (filter (roomy pages) xs)) (new_rows ∙ filter_same (λ r. not (is_among gone (start_of r))) (λ r. not (broken pages r)) (by_number (values_of es)) stays)
          ∙ ap (map start_of) (swap_tests (by_number (values_of es))));
      power = kept.power;
      least = kept.least;
      most = kept.most;
    }
