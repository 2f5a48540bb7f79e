-- A side without the block at a start.
use Rattle.std.proofs.Common.{◌≡◌, ℕ, ◌+◌, ◌<◌, ◌≤◌, Bool, true, false, not, ◌&&◌, ◌==◌, nat_lt, cond, if◌then◌else◌, List, [], ◌∷◌, map, filter, find, Some, None, option_map, is_some, refl, sym, ap, ◌∙◌, arith}
use Rattle.std.specs.Map.{values_of, set_value, remove_entry}
use Rattle.vm_model.specs.PlainMap.{Block, Life}
use Rattle.vm_model.specs.Blocks as model
use Rattle.vm_model.specs.Blocks.{PartAt, size_of, parts_size, free_of, dirty_of, is_spent}
use Rattle.map_blocks.specs.BlockRows.{sized}
use Rattle.map_blocks.specs.KeptBlocks.{KeptRow, with_life_at}
use Rattle.map_blocks.specs.KeptBlockSides.{IsOwn, AreApartFrom, AreKept, block_at, by_number, blocks_in, queued}
use Rattle.map_blocks.proofs.PartsInRow.{lived, ended_in, to_same, same_test, other_test}
use Rattle.map_blocks.proofs.EndedHull.{ended_within}
use Rattle.map_blocks.proofs.SortedByNumber.{Holds, holds_of, sort_filter}
use Rattle.map_blocks.proofs.BlocksByStart.{at_key, at_tests, starts_at}
use Rattle.map_blocks.proofs.BlocksInOrder.{number_of, block_of, changed_at, map_changed, pick_sorted, only, sorted_own}
use Rattle.map_blocks.proofs.WrittenBlocks.{lived_size}

abbrev pub leaves : ℕ → KeptRow → Bool
leaves k r = not (r.block.start == k)

-- What is found at a start.

find_by : (k : ℕ) (q : Block → Bool) (x : KeptRow) (xs : List KeptRow) (t u : Bool) → q x.block ≡ u → find (λ (b : Block). (b.start == k) && q b) (map block_of xs) ≡ option_map block_of (find (λ (r : KeptRow). q r.block) (filter (starts_at k) xs))
    → cond (t && u) (Some x.block) (find (λ (b : Block). (b.start == k) && q b) (map block_of xs)) ≡ option_map block_of (find (λ (r : KeptRow). q r.block) (cond t (x ∷ filter (starts_at k) xs) (filter (starts_at k) xs)))
find_by k q x xs true true e more = sym (ap (λ u. option_map block_of (cond u (Some x) (find (λ (r : KeptRow). q r.block) (filter (starts_at k) xs)))) e)
find_by k q x xs true false e more = more ∙ sym (ap (λ u. option_map block_of (cond u (Some x) (find (λ (r : KeptRow). q r.block) (filter (starts_at k) xs)))) e)
find_by k q x xs false u e more = more

pub find_start : (k : ℕ) (q : Block → Bool) (xs : List KeptRow) → find (λ (b : Block). (b.start == k) && q b) (map block_of xs) ≡ option_map block_of (find (λ (r : KeptRow). q r.block) (filter (starts_at k) xs))
find_start k q [] = refl
find_start k q (x ∷ xs) = find_by k q x xs (x.block.start == k) (q x.block) refl (find_start k q xs)

starts_by : (k : ℕ) (h : Block → Block) (x : KeptRow) (xs : List KeptRow) (t : Bool) → (x.block.start == k) ≡ t → (h x.block).start ≡ x.block.start → filter (starts_at k) (map (changed_at k h) xs) ≡ map (λ (r : KeptRow). record r { block = h r.block }) (filter (starts_at k) xs)
    → filter (starts_at k) ((if t then record x { block = h x.block } else x) ∷ map (changed_at k h) xs) ≡ map (λ (r : KeptRow). record r { block = h r.block }) (cond t (x ∷ filter (starts_at k) xs) (filter (starts_at k) xs))
starts_by k h x xs true at start more =
    ap (λ c. cond c (record x { block = h x.block } ∷ filter (starts_at k) (map (changed_at k h) xs)) (filter (starts_at k) (map (changed_at k h) xs))) (ap (λ n. n == k) start ∙ at) ∙ ap (λ rs. record x { block = h x.block } ∷ rs) more
starts_by k h x xs false at start more = ap (λ c. cond c (x ∷ filter (starts_at k) (map (changed_at k h) xs)) (filter (starts_at k) (map (changed_at k h) xs))) at ∙ more

pub starts_changed : (k : ℕ) (h : Block → Block) → ((b : Block) → (h b).start ≡ b.start) → (xs : List KeptRow) → filter (starts_at k) (map (changed_at k h) xs) ≡ map (λ (r : KeptRow). record r { block = h r.block }) (filter (starts_at k) xs)
starts_changed k h start [] = refl
starts_changed k h start (x ∷ xs) = starts_by k h x xs (x.block.start == k) refl (start x.block) (starts_changed k h start xs)

some_block : (b : Bool) (x : KeptRow) → is_some (option_map block_of (cond b (Some x) None)) ≡ b
some_block true x = refl
some_block false x = refl

-- whether the changed block passes is whether a block is found
pub passes_changed : (cpu pages added k : ℕ) (h : Block → Block) (q : Block → Bool) (es : List (ℕ × KeptRow)) (r : KeptRow) → 0 < pages → AreApartFrom cpu pages added 0 es → block_at es k ≡ Some r → ((b : Block) → (h b).start ≡ b.start)
    → is_some (find (λ (b : Block). (b.start == k) && q b) (model.change_block k h (blocks_in (values_of es)))) ≡ q (h r.block)
passes_changed cpu pages added k h q es r some apart at start =
    ap (λ bs. is_some (find (λ (b : Block). (b.start == k) && q b) bs)) (sym (map_changed k h (by_number (values_of es))))
    ∙ ap is_some (find_start k q (map (changed_at k h) (by_number (values_of es))))
    ∙ ap (λ rs. is_some (option_map block_of (find (λ (r : KeptRow). q r.block) rs))) (starts_changed k h start (by_number (values_of es)) ∙ ap (map (λ (r : KeptRow). record r { block = h r.block })) (pick_sorted cpu pages added 0 k es r some apart at))
    ∙ some_block (q (h r.block)) (record r { block = h r.block })

-- Entries without one.

remove_by : (k : ℕ) (e : ℕ × KeptRow) (es : List (ℕ × KeptRow)) (w : KeptRow) (t : Bool) → at_key k e.0 ≡ t → remove_entry (at_key k) (set_value (at_key k) es w) ≡ remove_entry (at_key k) es
    → remove_entry (at_key k) (cond t ((e.0, w) ∷ es) (e ∷ set_value (at_key k) es w)) ≡ cond t es (e ∷ remove_entry (at_key k) es)
remove_by k e es w true at more = ap (λ c. cond c es ((e.0, w) ∷ remove_entry (at_key k) es)) at
remove_by k e es w false at more = ap (λ c. cond c (set_value (at_key k) es w) (e ∷ remove_entry (at_key k) (set_value (at_key k) es w))) at ∙ ap (λ xs. e ∷ xs) more

pub remove_set : (k : ℕ) (es : List (ℕ × KeptRow)) (w : KeptRow) → remove_entry (at_key k) (set_value (at_key k) es w) ≡ remove_entry (at_key k) es
remove_set k [] w = refl
remove_set k (e ∷ es) w = remove_by k e es w (at_key k e.0) refl (remove_set k es w)

module _ (cpu pages added : ℕ) where
  lower : (low high : ℕ) (es : List (ℕ × KeptRow)) → low ≤ high → AreApartFrom cpu pages added high es → AreApartFrom cpu pages added low es
  lower low high [] l apart = tt
  lower low high (e ∷ es) l apart = (apart.0, omega (arith, apart.1), apart.2, apart.3, apart.4)

  apart_by : (low k : ℕ) (e : ℕ × KeptRow) (es : List (ℕ × KeptRow)) (t : Bool) → AreApartFrom cpu pages added low (e ∷ es) → AreApartFrom cpu pages added (e.0 + pages) (remove_entry (at_key k) es)
      → AreApartFrom cpu pages added low (cond t es (e ∷ remove_entry (at_key k) es))
  apart_by low k e es true apart more = lower low (e.0 + pages) es (omega (arith, apart.1)) apart.4
  apart_by low k e es false apart more = (apart.0, apart.1, apart.2, apart.3, more)

  pub apart_removed : (low k : ℕ) (es : List (ℕ × KeptRow)) → AreApartFrom cpu pages added low es → AreApartFrom cpu pages added low (remove_entry (at_key k) es)
  apart_removed low k [] apart = tt
  apart_removed low k (e ∷ es) apart = apart_by low k e es (at_key k e.0) apart (apart_removed (e.0 + pages) k es apart.4)

  all_stay : (low k : ℕ) (es : List (ℕ × KeptRow)) → AreApartFrom cpu pages added low es → k < low → filter (leaves k) (values_of es) ≡ values_of es
  all_stay low k [] apart l = refl
  all_stay low k (e ∷ es) apart l =
      let a = apart.0 in
      let b = apart.1 in
      let other : (e.1.block.start == k) ≡ false = other_test e.1.block.start k (λ h. omega arith) in
      ap (λ t. cond (not t) (e.1 ∷ filter (leaves k) (values_of es)) (filter (leaves k) (values_of es))) other ∙ ap (λ xs. e.1 ∷ xs) (all_stay (e.0 + pages) k es apart.4 (omega arith))

  values_by : (low k : ℕ) (e : ℕ × KeptRow) (es : List (ℕ × KeptRow)) (t : Bool) → 0 < pages → at_key k e.0 ≡ t → AreApartFrom cpu pages added low (e ∷ es) → values_of (remove_entry (at_key k) es) ≡ filter (leaves k) (values_of es)
      → values_of (cond t es (e ∷ remove_entry (at_key k) es)) ≡ filter (leaves k) (e.1 ∷ values_of es)
  values_by low k e es true some at apart more =
      let key : e.0 ≡ k = to_same e.0 k (at_tests k e.0 true at) in
      let here : (e.1.block.start == k) ≡ true = ap (λ n. n == k) (sym apart.0 ∙ key) ∙ same_test k in
      sym (ap (λ t. cond (not t) (e.1 ∷ filter (leaves k) (values_of es)) (filter (leaves k) (values_of es))) here ∙ all_stay (e.0 + pages) k es apart.4 (omega arith))
  values_by low k e es false some at apart more =
      let other : (e.1.block.start == k) ≡ false = ap (λ n. n == k) (sym apart.0) ∙ at_tests k e.0 false at in
      ap (λ xs. e.1 ∷ xs) more ∙ sym (ap (λ t. cond (not t) (e.1 ∷ filter (leaves k) (values_of es)) (filter (leaves k) (values_of es))) other)

  pub values_removed : (low k : ℕ) (es : List (ℕ × KeptRow)) → 0 < pages → AreApartFrom cpu pages added low es → values_of (remove_entry (at_key k) es) ≡ filter (leaves k) (values_of es)
  values_removed low k [] some apart = refl
  values_removed low k (e ∷ es) some apart = values_by low k e es (at_key k e.0) some refl apart (values_removed (e.0 + pages) k es some apart.4)

  -- a filter of a filter that leaves out what doesn't pass
  filter_by : (k : ℕ) (p : KeptRow → Bool) (x : KeptRow) (xs : List KeptRow) (t u : Bool) → p x ≡ u → (t ≡ true → u ≡ false) → filter p (filter (leaves k) xs) ≡ filter p xs
      → filter p (cond (not t) (x ∷ filter (leaves k) xs) (filter (leaves k) xs)) ≡ cond u (x ∷ filter p xs) (filter p xs)
  filter_by k p x xs true true e never more = (let bad : true ≡ false = never refl in cc)
  filter_by k p x xs true false e never more = more
  filter_by k p x xs false u e never more = ap (λ c. cond c (x ∷ filter p (filter (leaves k) xs)) (filter p (filter (leaves k) xs))) e ∙ ap (λ xs. cond u (x ∷ xs) xs) more

  filter_stays : (k : ℕ) (p : KeptRow → Bool) (xs : List KeptRow) → Holds (λ x. starts_at k x ≡ true → p x ≡ false) xs → filter p (filter (leaves k) xs) ≡ filter p xs
  filter_stays k p [] h = refl
  filter_stays k p (x ∷ xs) h = filter_by k p x xs (x.block.start == k) (p x) refl h.0 (filter_stays k p xs h.1)

  -- what is kept where a block without room is taken out
  pub removed_kept : (k : ℕ) (es : List (ℕ × KeptRow)) (r : KeptRow) (queue : List ℕ) → AreKept cpu pages es queue added → block_at es k ≡ Some r → free_of (sized pages) r.block ≡ 0 → AreKept cpu pages (remove_entry (at_key k) es) queue added
  removed_kept k es r queue kept at none =
      let some : 0 < pages = omega (arith, kept.least) in
      record {
        apart = apart_removed 0 k es kept.apart;
        queue_is = kept.queue_is ∙ sym (ap (queued pages) (values_removed 0 k es some kept.apart)
            ∙ ap (λ xs. map (λ (r : KeptRow). r.block.start) (filter (λ (r : KeptRow). nat_lt 0 (free_of (sized pages) r.block)) xs)) (sym (sort_filter number_of (leaves k) (values_of es)))
            ∙ ap (map (λ (r : KeptRow). r.block.start)) (filter_stays k (λ (r : KeptRow). nat_lt 0 (free_of (sized pages) r.block)) (by_number (values_of es))
            (holds_of (λ x. starts_at k x ≡ true → x ≡ r) (λ x. starts_at k x ≡ true → nat_lt 0 (free_of (sized pages) x.block) ≡ false) (by_number (values_of es))
            (λ x is here. ap (λ (y : KeptRow). nat_lt 0 (free_of (sized pages) y.block)) (is here) ∙ ap (nat_lt 0) none) (only cpu pages added 0 k es r some kept.apart at))));
        power = kept.power;
        least = kept.least;
        most = kept.most;
      }

  -- Which blocks are not spent.

  without_by : (k : ℕ) (h : Block → Block) (x : KeptRow) (xs : List KeptRow) (t : Bool) → (t ≡ true → is_spent (sized pages) (h x.block) ≡ true) → is_spent (sized pages) x.block ≡ false
      → filter (λ (b : Block). not (is_spent (sized pages) b)) (map block_of (map (changed_at k h) xs)) ≡ map block_of (filter (leaves k) xs)
      → filter (λ (b : Block). not (is_spent (sized pages) b)) (block_of (if t then record x { block = h x.block } else x) ∷ map block_of (map (changed_at k h) xs)) ≡ map block_of (cond (not t) (x ∷ filter (leaves k) xs) (filter (leaves k) xs))
  without_by k h x xs true spent own more =
      ap (λ c. cond (not c) (h x.block ∷ filter (λ (b : Block). not (is_spent (sized pages) b)) (map block_of (map (changed_at k h) xs))) (filter (λ (b : Block). not (is_spent (sized pages) b)) (map block_of (map (changed_at k h) xs)))) (spent refl) ∙ more
  without_by k h x xs false spent own more =
      ap (λ c. cond (not c) (x.block ∷ filter (λ (b : Block). not (is_spent (sized pages) b)) (map block_of (map (changed_at k h) xs))) (filter (λ (b : Block). not (is_spent (sized pages) b)) (map block_of (map (changed_at k h) xs)))) own ∙ ap (λ bs. x.block ∷ bs) more

  without_list : (k : ℕ) (h : Block → Block) (xs : List KeptRow) → Holds (λ x. (starts_at k x ≡ true → is_spent (sized pages) (h x.block) ≡ true) × (is_spent (sized pages) x.block ≡ false)) xs
      → filter (λ (b : Block). not (is_spent (sized pages) b)) (map block_of (map (changed_at k h) xs)) ≡ map block_of (filter (leaves k) xs)
  without_list k h [] all = refl
  without_list k h (x ∷ xs) all = without_by k h x xs (x.block.start == k) all.0.0 all.0.1 (without_list k h xs all.1)

  both : (P Q : KeptRow → Type 0) (xs : List KeptRow) → Holds P xs → Holds Q xs → Holds (λ x. P x × Q x) xs
  both P Q [] p q = tt
  both P Q (x ∷ xs) p q = ((p.0, q.0), both P Q xs p.1 q.1)

  -- where the changed block is spent, the others stay
  pub without_one : (k : ℕ) (h : Block → Block) (es : List (ℕ × KeptRow)) (r : KeptRow) → 0 < pages → AreApartFrom cpu pages added 0 es → block_at es k ≡ Some r → is_spent (sized pages) (h r.block) ≡ true
      → blocks_in (values_of (remove_entry (at_key k) es)) ≡ model.without_spent (sized pages) (model.change_block k h (blocks_in (values_of es)))
  without_one k h es r some apart at spent =
      ap blocks_in (values_removed 0 k es some apart) ∙ ap (map block_of) (sym (sort_filter number_of (leaves k) (values_of es)))
      ∙ sym (without_list k h (by_number (values_of es)) (both (λ x. starts_at k x ≡ true → is_spent (sized pages) (h x.block) ≡ true) (λ x. is_spent (sized pages) x.block ≡ false) (by_number (values_of es))
      (holds_of (λ x. starts_at k x ≡ true → x ≡ r) (λ x. starts_at k x ≡ true → is_spent (sized pages) (h x.block) ≡ true) (by_number (values_of es)) (λ x is here. ap (λ (y : KeptRow). is_spent (sized pages) (h y.block)) (is here) ∙ spent) (only cpu pages added 0 k es r some apart at))
      (holds_of (IsOwn cpu pages added) (λ x. is_spent (sized pages) x.block ≡ false) (by_number (values_of es)) (λ x own. own.unspent) (sorted_own cpu pages added 0 es apart))))
      ∙ ap (model.without_spent (sized pages)) (map_changed k h (by_number (values_of es)))

  none_spent : (xs : List KeptRow) → Holds (IsOwn cpu pages added) xs → filter (λ (b : Block). not (is_spent (sized pages) b)) (map block_of xs) ≡ map block_of xs
  none_spent [] all = refl
  none_spent (x ∷ xs) all = ap (λ c. cond (not c) (x.block ∷ filter (λ (b : Block). not (is_spent (sized pages) b)) (map block_of xs)) (filter (λ (b : Block). not (is_spent (sized pages) b)) (map block_of xs))) all.0.unspent ∙ ap (λ bs. x.block ∷ bs) (none_spent xs all.1)

  -- and no kept block is spent
  pub without_none : (es : List (ℕ × KeptRow)) → AreApartFrom cpu pages added 0 es → model.without_spent (sized pages) (blocks_in (values_of es)) ≡ blocks_in (values_of es)
  without_none es apart = none_spent (by_number (values_of es)) (sorted_own cpu pages added 0 es apart)

-- a block whose parts have all ended has no room
pub spent_full : (pages offset : ℕ) (life : Life) (b : Block) → is_spent (sized pages) (with_life_at offset life (record { number = 0; pages = pages; block = b })).block ≡ true → free_of (sized pages) b ≡ 0
spent_full pages offset life b spent =
    let full : parts_size (ended_in (lived offset life b.parts)) ≡ pages = to_same (parts_size (ended_in (lived offset life b.parts))) pages spent in
    omega (arith, ended_within (lived offset life b.parts), lived_size offset life b.parts)
