-- A part is cut from the first block that has room.
use Rattle.std.proofs.Common.{◌≡◌, ℕ, zero, suc, ◌-◌, ◌<◌, ◌≤◌, Bool, true, false, not, ◌==◌, nat_lt, nat_le, cond, if◌then◌else◌, List, [], ◌∷◌, map, filter, find, Option, Some, None, option_map, IsSome, refl, sym, ap, subst, ◌∙◌, arith}
use Rattle.std.proofs.lemmas.Bool.Decides.{nat_tests}
use Rattle.std.specs.Map.{values_of, set_value}
use Rattle.vm_model.specs.PlainMap.{Block, InHand}
use Rattle.vm_model.specs.Blocks as model
use Rattle.vm_model.specs.Blocks.{PartAt, rounded, size_of, parts_size, free_of, dirty_of, is_spent, cut_from, with_part}
use Rattle.map_blocks.specs.BlockRows.{sized}
use Rattle.map_blocks.specs.KeptBlocks.{KeptRow}
use Rattle.map_blocks.specs.KeptBlockSides.{IsOwn, AreApartFrom, AreKept, AreKnown, block_at, has_room, gives_room, by_number, blocks_in, queued}
use Rattle.vm_model.proofs.RoundedPages.{rounded_low, rounded_some}
use Rattle.map_blocks.proofs.PartsInRow.{packed_more, size_more, ended_more, same_test}
use Rattle.map_blocks.proofs.SortedByNumber.{Holds, holds_of, holds_filter, sort_holds}
use Rattle.map_blocks.proofs.BlocksByStart.{at_key, starts_at, all_at, IsAt, found, apart_set}
use Rattle.map_blocks.proofs.FirstPassing.{find_map, filter_of_map}
use Rattle.map_blocks.proofs.BlocksInOrder.{number_of, block_of, changed_at, sort_changed, only, sorted_own}
use Rattle.map_blocks.proofs.WrittenBlocks.{written}

abbrev pub start_of : KeptRow → ℕ
start_of r = r.block.start

abbrev pub roomy : ℕ → KeptRow → Bool
roomy pages r = nat_lt 0 (free_of (sized pages) r.block)

-- What is found holds what each holds, and passes.

holds_by : (P : KeptRow → Type 0) (p : KeptRow → Bool) (y x : KeptRow) (xs : List KeptRow) (t : Bool) → p y ≡ t → P y → cond t (Some y) (find p xs) ≡ Some x → (find p xs ≡ Some x → P x × (p x ≡ true)) → P x × (p x ≡ true)
holds_by P p y x xs true e a h more = let same : y ≡ x = cc in (subst P same a, ap p (sym same) ∙ e)
holds_by P p y x xs false e a h more = more h

found_holds : (P : KeptRow → Type 0) (p : KeptRow → Bool) (xs : List KeptRow) (x : KeptRow) → Holds P xs → find p xs ≡ Some x → P x × (p x ≡ true)
found_holds P p [] x all h = cc
found_holds P p (y ∷ xs) x all h = holds_by P p y x xs (p y) refl all.0 h (found_holds P p xs x all.1)

find_same : (p q : KeptRow → Bool) (xs : List KeptRow) → Holds (λ x. p x ≡ q x) xs → find p xs ≡ find q xs
find_same p q [] all = refl
find_same p q (x ∷ xs) all = ap (λ b. cond b (Some x) (find p xs)) all.0 ∙ ap (λ o. cond (q x) (Some x) o) (find_same p q xs all.1)

pub filter_all : (p : Block → Bool) (xs : List KeptRow) → Holds (λ x. p x.block ≡ true) xs → filter p (map block_of xs) ≡ map block_of xs
filter_all p [] all = refl
filter_all p (x ∷ xs) all = ap (λ b. cond b (x.block ∷ filter p (map block_of xs)) (filter p (map block_of xs))) all.0 ∙ ap (λ bs. x.block ∷ bs) (filter_all p xs all.1)

module _ (cpu pages added : ℕ) (es : List (ℕ × KeptRow)) (queue : List ℕ) (kept : AreKept cpu pages es queue added) where
  abbrev waiting : List KeptRow
  waiting = filter (roomy pages) (by_number (values_of es))

  queued_at : Holds (IsAt cpu pages added es 0) waiting
  queued_at = holds_filter (IsAt cpu pages added es 0) (roomy pages) (by_number (values_of es)) (sort_holds number_of (IsAt cpu pages added es 0) (values_of es) (all_at cpu pages added 0 es (omega (arith, kept.least)) kept.apart))

  known_from : (xs : List KeptRow) → Holds (IsAt cpu pages added es 0) xs → AreKnown es (map start_of xs)
  known_from [] all k d l = absurd (omega arith)
  known_from (x ∷ xs) all zero d l = subst (λ (o : Option KeptRow). IsSome o) (sym all.0.found) refl
  known_from (x ∷ xs) all (suc k) d l = known_from xs all.1 k d (omega arith)

  -- the queue names blocks
  pub known : AreKnown es queue
  known = subst (AreKnown es) (sym kept.queue_is) (known_from waiting queued_at)

  module _ (asked : ℕ) where
    same_room : (x : KeptRow) → IsAt cpu pages added es 0 x → IsOwn cpu pages added x → has_room (rounded asked) es (start_of x) ≡ nat_le (rounded asked) (free_of (sized pages) x.block)
    same_room x at own = ap (gives_room (rounded asked)) at.found ∙ ap (λ n. nat_le (rounded asked) (free_of (sized n) x.block)) own.size

    both_hold : (xs : List KeptRow) → Holds (IsAt cpu pages added es 0) xs → Holds (IsOwn cpu pages added) xs → Holds (λ x. has_room (rounded asked) es (start_of x) ≡ nat_le (rounded asked) (free_of (sized pages) x.block)) xs
    both_hold [] at own = tt
    both_hold (x ∷ xs) at own = (same_room x at.0 own.0, both_hold xs at.1 own.1)

    -- the first of the queue is the first of the model's
    queue_finds : find (has_room (rounded asked) es) queue ≡ option_map start_of (find (λ r. nat_le (rounded asked) (free_of (sized pages) r.block)) waiting)
    queue_finds = ap (find (has_room (rounded asked) es)) kept.queue_is ∙ find_map start_of (has_room (rounded asked) es) waiting
        ∙ ap (option_map start_of) (find_same (λ x. has_room (rounded asked) es (start_of x)) (λ r. nat_le (rounded asked) (free_of (sized pages) r.block)) waiting
        (both_hold waiting queued_at (holds_filter (IsOwn cpu pages added) (roomy pages) (by_number (values_of es)) (sorted_own cpu pages added 0 es kept.apart))))

    model_finds : model.first_with_room (sized pages) cpu asked (blocks_in (values_of es)) ≡ option_map block_of (find (λ r. nat_le (rounded asked) (free_of (sized pages) r.block)) waiting)
    model_finds =
        ap (λ bs. find (λ (b : Block). nat_le (rounded asked) (free_of (sized pages) b)) (filter (λ (b : Block). nat_lt 0 (free_of (sized pages) b)) bs))
        (filter_all (λ (b : Block). b.cpu == cpu) (by_number (values_of es)) (holds_of (IsOwn cpu pages added) (λ x. (x.block.cpu == cpu) ≡ true) (by_number (values_of es)) (λ x own. ap (λ n. n == cpu) own.own ∙ same_test cpu) (sorted_own cpu pages added 0 es kept.apart)))
        ∙ ap (find (λ (b : Block). nat_le (rounded asked) (free_of (sized pages) b))) (filter_of_map block_of (λ (b : Block). nat_lt 0 (free_of (sized pages) b)) (by_number (values_of es)))
        ∙ find_map block_of (λ (b : Block). nat_le (rounded asked) (free_of (sized pages) b)) waiting

    pub record IsFirst (start : ℕ) : Type 0 where
      pub row : KeptRow
      pub at : block_at es start ≡ Some row
      pub begins : row.block.start ≡ start
      pub own : IsOwn cpu pages added row
      pub fits : rounded asked ≤ free_of (sized pages) row.block
      pub place : model.part_to_cut (sized pages) cpu asked (blocks_in (values_of es)) ≡ Some (record { cpu = cpu; block = start; offset = pages - free_of (sized pages) row.block; pages = asked })

    pub first_is : (start : ℕ) → find (has_room (rounded asked) es) queue ≡ Some start → IsFirst start
    first_is start h = by_found (find (λ r. nat_le (rounded asked) (free_of (sized pages) r.block)) waiting) refl (sym queue_finds ∙ h)
      where
        by_found : (o : Option KeptRow) → find (λ r. nat_le (rounded asked) (free_of (sized pages) r.block)) waiting ≡ o → option_map start_of (find (λ r. nat_le (rounded asked) (free_of (sized pages) r.block)) waiting) ≡ Some start → IsFirst start
        by_found None e g = (let never : None ≡ Some start = sym (ap (option_map start_of) e) ∙ g in cc)
        by_found (Some r) e g =
            let one : Some r.block.start ≡ Some start = sym (ap (option_map start_of) e) ∙ g in
            let begins : r.block.start ≡ start = cc in
            let at = found_holds (IsAt cpu pages added es 0) (λ r. nat_le (rounded asked) (free_of (sized pages) r.block)) waiting r queued_at e in
            let own = found_holds (IsOwn cpu pages added) (λ r. nat_le (rounded asked) (free_of (sized pages) r.block)) waiting r (holds_filter (IsOwn cpu pages added) (roomy pages) (by_number (values_of es)) (sorted_own cpu pages added 0 es kept.apart)) e in
            let test = at.1 in
            record {
              row = r;
              at = ap (block_at es) (sym begins) ∙ at.0.found;
              begins = begins;
              own = own.0;
              fits = grind (arith, nat_tests);
              place = ap (option_map (cut_from (sized pages) asked)) (model_finds ∙ ap (option_map block_of) e)
                  ∙ ap (λ n. Some (record { cpu = n; block = r.block.start; offset = pages - free_of (sized pages) r.block; pages = asked })) own.0.own ∙ ap (λ n. Some (record { cpu = cpu; block = n; offset = pages - free_of (sized pages) r.block; pages = asked })) begins;
            }

    pub first_none : find (has_room (rounded asked) es) queue ≡ None → model.part_to_cut (sized pages) cpu asked (blocks_in (values_of es)) ≡ None
    first_none h = by_found (find (λ r. nat_le (rounded asked) (free_of (sized pages) r.block)) waiting) refl (sym queue_finds ∙ h)
      where
        by_found : (o : Option KeptRow) → find (λ r. nat_le (rounded asked) (free_of (sized pages) r.block)) waiting ≡ o → option_map start_of (find (λ r. nat_le (rounded asked) (free_of (sized pages) r.block)) waiting) ≡ None → model.part_to_cut (sized pages) cpu asked (blocks_in (values_of es)) ≡ None
        by_found None e g = ap (option_map (cut_from (sized pages) asked)) (model_finds ∙ ap (option_map block_of) e)
        by_found (Some r) e g = (let never : Some r.block.start ≡ None = sym (ap (option_map start_of) e) ∙ g in cc)

-- The side after the cut.

-- the block with a part of so many pages behind the others
abbrev pub with_cut : (pages asked caller : ℕ) → KeptRow → KeptRow
with_cut pages asked caller r = record r { block = with_part caller (cut_from (sized pages) asked r.block) r.block }

pub own_cut : (cpu pages added asked caller : ℕ) (r : KeptRow) → IsOwn cpu pages added r → 1 ≤ asked → asked ≤ 1024 → rounded asked ≤ free_of (sized pages) r.block → IsOwn cpu pages added (with_cut pages asked caller r)
own_cut cpu pages added asked caller r own some few fits =
    let within = own.within in
    record {
      size = own.size;
      own = own.own;
      early = own.early;
      packed = packed_more 0 r.block.parts (record { offset = pages - free_of (sized pages) r.block; pages = asked; caller = caller; life = InHand caller }) own.packed (omega arith) some (rounded_low asked (omega arith));
      within = (let e = size_more r.block.parts (record { offset = pages - free_of (sized pages) r.block; pages = asked; caller = caller; life = InHand caller }) in let n = rounded_some asked in omega arith);
      unspent = ap (λ ps. parts_size ps == pages) (ended_more r.block.parts (record { offset = pages - free_of (sized pages) r.block; pages = asked; caller = caller; life = InHand caller }) refl) ∙ own.unspent;
    }

module _ (pages k : ℕ) (h : Block → Block) (start : (b : Block) → (h b).start ≡ b.start) where
  stays_by : (x : KeptRow) (xs : List KeptRow) (t u : Bool) → roomy pages x ≡ u → (t ≡ true → nat_lt 0 (free_of (sized pages) (h x.block)) ≡ roomy pages x)
      → map start_of (filter (roomy pages) (map (changed_at k h) xs)) ≡ map start_of (filter (roomy pages) xs)
      → map start_of (filter (roomy pages) ((if t then record x { block = h x.block } else x) ∷ map (changed_at k h) xs)) ≡ map start_of (cond u (x ∷ filter (roomy pages) xs) (filter (roomy pages) xs))
  stays_by x xs true true e same more =
      ap (λ c. map start_of (cond c (record x { block = h x.block } ∷ filter (roomy pages) (map (changed_at k h) xs)) (filter (roomy pages) (map (changed_at k h) xs)))) (same refl ∙ e)
      ∙ ap (λ n. n ∷ map start_of (filter (roomy pages) (map (changed_at k h) xs))) (start x.block) ∙ ap (λ ns. x.block.start ∷ ns) more
  stays_by x xs true false e same more = ap (λ c. map start_of (cond c (record x { block = h x.block } ∷ filter (roomy pages) (map (changed_at k h) xs)) (filter (roomy pages) (map (changed_at k h) xs)))) (same refl ∙ e) ∙ more
  stays_by x xs false true e same more = ap (λ c. map start_of (cond c (x ∷ filter (roomy pages) (map (changed_at k h) xs)) (filter (roomy pages) (map (changed_at k h) xs)))) e ∙ ap (λ ns. x.block.start ∷ ns) more
  stays_by x xs false false e same more = ap (λ c. map start_of (cond c (x ∷ filter (roomy pages) (map (changed_at k h) xs)) (filter (roomy pages) (map (changed_at k h) xs)))) e ∙ more

  queue_stays : (xs : List KeptRow) → Holds (λ x. starts_at k x ≡ true → nat_lt 0 (free_of (sized pages) (h x.block)) ≡ roomy pages x) xs → map start_of (filter (roomy pages) (map (changed_at k h) xs)) ≡ map start_of (filter (roomy pages) xs)
  queue_stays [] all = refl
  queue_stays (x ∷ xs) all = stays_by x xs (x.block.start == k) (roomy pages x) refl all.0 (queue_stays xs all.1)

  falls_by : (x : KeptRow) (xs : List KeptRow) (t u : Bool) → (x.block.start == k) ≡ t → roomy pages x ≡ u → (t ≡ true → nat_lt 0 (free_of (sized pages) (h x.block)) ≡ false)
      → map start_of (filter (roomy pages) (map (changed_at k h) xs)) ≡ filter (λ n. not (n == k)) (map start_of (filter (roomy pages) xs))
      → map start_of (filter (roomy pages) ((if t then record x { block = h x.block } else x) ∷ map (changed_at k h) xs)) ≡ filter (λ n. not (n == k)) (map start_of (cond u (x ∷ filter (roomy pages) xs) (filter (roomy pages) xs)))
  falls_by x xs true true at e full more =
      ap (λ c. map start_of (cond c (record x { block = h x.block } ∷ filter (roomy pages) (map (changed_at k h) xs)) (filter (roomy pages) (map (changed_at k h) xs)))) (full refl) ∙ more
      ∙ sym (ap (λ c. cond (not c) (x.block.start ∷ filter (λ n. not (n == k)) (map start_of (filter (roomy pages) xs))) (filter (λ n. not (n == k)) (map start_of (filter (roomy pages) xs)))) at)
  falls_by x xs true false at e full more = ap (λ c. map start_of (cond c (record x { block = h x.block } ∷ filter (roomy pages) (map (changed_at k h) xs)) (filter (roomy pages) (map (changed_at k h) xs)))) (full refl) ∙ more
  falls_by x xs false true at e full more =
      ap (λ c. map start_of (cond c (x ∷ filter (roomy pages) (map (changed_at k h) xs)) (filter (roomy pages) (map (changed_at k h) xs)))) e ∙ ap (λ ns. x.block.start ∷ ns) more
      ∙ sym (ap (λ c. cond (not c) (x.block.start ∷ filter (λ n. not (n == k)) (map start_of (filter (roomy pages) xs))) (filter (λ n. not (n == k)) (map start_of (filter (roomy pages) xs)))) at)
  falls_by x xs false false at e full more = ap (λ c. map start_of (cond c (x ∷ filter (roomy pages) (map (changed_at k h) xs)) (filter (roomy pages) (map (changed_at k h) xs)))) e ∙ more

  queue_falls : (xs : List KeptRow) → Holds (λ x. starts_at k x ≡ true → nat_lt 0 (free_of (sized pages) (h x.block)) ≡ false) xs → map start_of (filter (roomy pages) (map (changed_at k h) xs)) ≡ filter (λ n. not (n == k)) (map start_of (filter (roomy pages) xs))
  queue_falls [] all = refl
  queue_falls (x ∷ xs) all = falls_by x xs (x.block.start == k) (roomy pages x) refl refl all.0 (queue_falls xs all.1)

module _ (cpu pages added k asked caller : ℕ) (es news : List (ℕ × KeptRow)) (r w : KeptRow) (queue : List ℕ) (kept : AreKept cpu pages es queue added) (at : block_at es k ≡ Some r)
    (some : 1 ≤ asked) (few : asked ≤ 1024) (fits : rounded asked ≤ free_of (sized pages) r.block) (is : w ≡ with_cut pages asked caller r) (new : news ≡ set_value (at_key k) es w) where
  cut_apart : AreApartFrom cpu pages added 0 news
  cut_apart =
      let there = found cpu pages added 0 k es r kept.apart at in
      subst (AreApartFrom cpu pages added 0) (sym (new ∙ ap (set_value (at_key k) es) is)) (apart_set cpu pages added 0 k es (with_cut pages asked caller r) there.start (own_cut cpu pages added asked caller r there.own some few fits) kept.apart)

  cut_queue : queued pages (values_of news) ≡ map start_of (filter (roomy pages) (map (changed_at k (with_part caller (cut_from (sized pages) asked r.block))) (by_number (values_of es))))
  cut_queue = ap (queued pages) (written cpu pages added k (with_part caller (cut_from (sized pages) asked r.block)) es news r w (omega (arith, kept.least)) kept.apart at is new)
      ∙ ap (λ xs. map start_of (filter (roomy pages) xs)) (sort_changed k (with_part caller (cut_from (sized pages) asked r.block)) (values_of es))

  -- a block with room left stays in the queue
  pub cut_stays : 0 < free_of (sized pages) (with_cut pages asked caller r).block → AreKept cpu pages news queue added
  cut_stays left =
      let had : 0 < free_of (sized pages) r.block = (let n = rounded_some asked in omega arith) in
      record {
        apart = cut_apart;
        queue_is = kept.queue_is ∙ sym (cut_queue ∙ queue_stays pages k (with_part caller (cut_from (sized pages) asked r.block)) (λ b. refl) (by_number (values_of es))
            (holds_of (λ x. starts_at k x ≡ true → x ≡ r) (λ x. starts_at k x ≡ true → nat_lt 0 (free_of (sized pages) (with_part caller (cut_from (sized pages) asked r.block) x.block)) ≡ roomy pages x) (by_number (values_of es))
            (λ x one here. ap (λ (y : KeptRow). nat_lt 0 (free_of (sized pages) (with_part caller (cut_from (sized pages) asked r.block) y.block))) (one here) ∙ (let t : nat_lt 0 (free_of (sized pages) (with_cut pages asked caller r).block) ≡ true = grind (arith, nat_tests) in t)
            ∙ sym (ap (roomy pages) (one here) ∙ (let t : roomy pages r ≡ true = grind (arith, nat_tests) in t)))
            (only cpu pages added 0 k es r (omega (arith, kept.least)) kept.apart at)));
        power = kept.power;
        least = kept.least;
        most = kept.most;
      }

  -- and one without falls out of it
  pub cut_falls : free_of (sized pages) (with_cut pages asked caller r).block ≡ 0 → AreKept cpu pages news (filter (λ n. not (n == k)) queue) added
  cut_falls none = record {
    apart = cut_apart;
    queue_is = ap (filter (λ n. not (n == k))) kept.queue_is ∙ sym (cut_queue ∙ queue_falls pages k (with_part caller (cut_from (sized pages) asked r.block)) (λ b. refl) (by_number (values_of es))
        (holds_of (λ x. starts_at k x ≡ true → x ≡ r) (λ x. starts_at k x ≡ true → nat_lt 0 (free_of (sized pages) (with_part caller (cut_from (sized pages) asked r.block) x.block)) ≡ false) (by_number (values_of es))
        (λ x one here. ap (λ (y : KeptRow). nat_lt 0 (free_of (sized pages) (with_part caller (cut_from (sized pages) asked r.block) y.block))) (one here) ∙ ap (nat_lt 0) none)
        (only cpu pages added 0 k es r (omega (arith, kept.least)) kept.apart at)));
    power = kept.power;
    least = kept.least;
    most = kept.most;
  }

-- What the code looks for.
pub found_in : (es : List (ℕ × KeptRow)) (queue read : List ℕ) (room asked : ℕ) (result o : Option ℕ) → room ≡ rounded asked → read ≡ queue → result ≡ find (has_room room es) read → result ≡ o → find (has_room (rounded asked) es) queue ≡ o
found_in es queue read room asked result o rooms reads looks is = ap (λ n. find (has_room n es) queue) (sym rooms) ∙ ap (find (has_room room es)) (sym reads) ∙ sym looks ∙ is

module _ (pages asked caller : ℕ) (r w : KeptRow) (size : r.pages ≡ pages) (part : w ≡ record r { block = with_part caller (cut_from (sized r.pages) asked r.block) r.block }) where
  pub cut_is : w ≡ with_cut pages asked caller r
  cut_is = part ∙ ap (λ n. record r { block = with_part caller (cut_from (sized n) asked r.block) r.block }) size

  pub cut_free : free_of (sized w.pages) w.block ≡ free_of (sized pages) (with_cut pages asked caller r).block
  cut_free = ap (λ (x : KeptRow). free_of (sized x.pages) x.block) cut_is ∙ ap (λ n. free_of (sized n) (with_cut pages asked caller r).block) size
