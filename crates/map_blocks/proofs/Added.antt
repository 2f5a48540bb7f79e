-- A side with one more block.
use Rattle.std.proofs.Common.{◌≡◌, ℕ, ◌+◌, ◌-◌, ◌<◌, ◌≤◌, ◌⊎◌, inl, inr, Bool, true, false, ◌==◌, ◌||◌, cond, if◌then◌else◌, List, [], ◌∷◌, ◌++◌, map, filter, refl, sym, ap, subst, ◌∙◌, arith}
use Rattle.std.proofs.lemmas.Bool.{cases_lt}
use Rattle.std.proofs.lemmas.Bool.Decides.{nat_tests}
use Rattle.std.proofs.lemmas.List.{map-append, append-nil}
use Rattle.std.proofs.lemmas.List.Elements.{filter-append}
use Rattle.std.specs.declared.cmp.Ordering.TheVariants.{Less, Greater}
use Rattle.std.specs.Ordering.{nat_cmp}
use Rattle.std.specs.Map.{values_of}
use Rattle.std.specs.BTreeMap.{insert_entry}
use Rattle.vm_model.specs.declared.areas.Span.{Span}
use Rattle.vm_model.specs.Space.{span, end_of, holds, covers, put_by}
use Rattle.vm_model.specs.Rules.{IsPower}
use Rattle.vm_model.specs.PlainMap.{Block}
use Rattle.vm_model.specs.Blocks.{rounded, free_of, cut_from, with_part}
use Rattle.map_blocks.specs.BlockRows.{sized}
use Rattle.map_blocks.specs.KeptBlocks.{KeptRow}
use Rattle.map_blocks.specs.KeptBlockSides.{IsOwn, AreApartFrom, AreKept, by_number, blocks_in}
use Rattle.vm_model.proofs.RoundedPages.{rounded_high}
use Rattle.map_blocks.proofs.SortedByNumber.{Holds, holds_of, put_last, put_end, sort_holds}
use Rattle.map_blocks.proofs.BlocksByStart.{all_own}
use Rattle.map_blocks.proofs.BlocksInOrder.{number_of, block_of}
use Rattle.map_blocks.proofs.Taken.{start_of, roomy, with_cut, own_cut}

-- a block without parts
abbrev pub bare : (number pages cpu start : ℕ) → KeptRow
bare number pages cpu start = record { number = number; pages = pages; block = record { start = start; cpu = cpu; parts = [] } }

pub bare_room : (number pages cpu start asked : ℕ) (r : KeptRow) → r ≡ bare number pages cpu start → IsPower pages → 1 ≤ asked → asked ≤ pages → rounded asked ≤ free_of (sized r.pages) r.block
bare_room number pages cpu start asked r is power some most = subst (λ (x : KeptRow). rounded asked ≤ free_of (sized x.pages) x.block) (sym is) (let h = rounded_high asked pages power most in omega arith)

-- the block ends before the pages, or begins behind them
abbrev pub IsBeside : (pages start : ℕ) → KeptRow → Type 0
IsBeside pages start r = (r.block.start + pages ≤ start) ⊎ (start + pages ≤ r.block.start)

neither : (b c : Bool) → (b || c) ≡ false → (b ≡ false) × (c ≡ false)
neither true c h = cc
neither false c h = (refl, h)

inside_of : (s : Span) (page : ℕ) → s.start ≤ page → page < end_of s → holds s page ≡ true
inside_of s page from below = grind (arith, nat_tests)

beside_one : (pages start other : ℕ) → 0 < pages → ((page : ℕ) → holds (span start pages) page ≡ true → holds (span other pages) page ≡ false) → (other + pages ≤ start) ⊎ (start + pages ≤ other)
beside_one pages start other some apart = elim (cases_lt start (other + pages)) [
  | inl low ↦ elim (cases_lt other (start + pages)) [
    | inl high ↦ elim (cases_lt start other) [
      | inl before ↦ absurd (let both = sym (apart other (inside_of (span start pages) other (omega arith) high)) ∙ inside_of (span other pages) other (omega arith) (omega arith) in cc)
      | inr behind ↦ absurd (let both = sym (apart start (inside_of (span start pages) start (omega arith) (omega arith))) ∙ inside_of (span other pages) start behind low in cc)
    ]
    | inr past ↦ inr past
  ]
  | inr past ↦ inl past
]

beside_list : (pages start : ℕ) (xs : List KeptRow) → 0 < pages → ((page : ℕ) → holds (span start pages) page ≡ true → covers (map (λ (b : Block). span b.start pages) (map block_of xs)) page ≡ false) → Holds (IsBeside pages start) xs
beside_list pages start [] some apart = tt
beside_list pages start (x ∷ xs) some apart = (
  beside_one pages start x.block.start some (λ page h. (neither (holds (span x.block.start pages) page) (covers (map (λ (b : Block). span b.start pages) (map block_of xs)) page) (apart page h)).0),
  beside_list pages start xs some (λ page h. (neither (holds (span x.block.start pages) page) (covers (map (λ (b : Block). span b.start pages) (map block_of xs)) page) (apart page h)).1),
)

-- what each in the order holds each holds
unput_by : (P : KeptRow → Type 0) (x y : KeptRow) (ys : List KeptRow) (b : Bool) → Holds P (if b then x ∷ y ∷ ys else y ∷ put_by number_of x ys) → (Holds P (put_by number_of x ys) → P x × Holds P ys) → P x × Holds P (y ∷ ys)
unput_by P x y ys true h more = (h.0, h.1)
unput_by P x y ys false h more = let rest = more h.1 in (rest.0, (h.0, rest.1))

unput : (P : KeptRow → Type 0) (x : KeptRow) (ys : List KeptRow) → Holds P (put_by number_of x ys) → P x × Holds P ys
unput P x [] h = h
unput P x (y ∷ ys) h = unput_by P x y ys _ h (unput P x ys)

pub unsort : (P : KeptRow → Type 0) (xs : List KeptRow) → Holds P (by_number xs) → Holds P xs
unsort P [] h = tt
unsort P (x ∷ xs) h = let rest = unput P x (by_number xs) h in (rest.0, unsort P xs rest.1)

less_is : (x y : ℕ) → x < y → nat_cmp x y ≡ Less
less_is x y h = grind (arith, nat_tests)

greater_is : (x y : ℕ) → y < x → nat_cmp x y ≡ Greater
greater_is x y h = grind (arith, nat_tests)

module _ (cpu pages added start : ℕ) (w : KeptRow) (begins : w.block.start ≡ start) (some : 0 < pages) (early : w.number ≡ added) (own : IsOwn cpu pages (added + 1) w) (end : start + pages ≤ 1048576) where
  later : (low : ℕ) (es : List (ℕ × KeptRow)) → AreApartFrom cpu pages added low es → AreApartFrom cpu pages (added + 1) low es
  later low [] apart = tt
  later low (e ∷ es) apart = (
    apart.0,
    apart.1,
    apart.2,
    record { size = apart.3.size; own = apart.3.own; early = (let l = apart.3.early in omega arith); packed = apart.3.packed; within = apart.3.within; unspent = apart.3.unspent },
    later (e.0 + pages) es apart.4,
  )

  -- the entries and their rows with the new one
  pub record ArePut (low : ℕ) (es news : List (ℕ × KeptRow)) : Type 0 where
    pub apart : AreApartFrom cpu pages (added + 1) low news
    pub rows : by_number (values_of news) ≡ by_number (values_of es) ++ w ∷ []

  put_first : (low : ℕ) (e : ℕ × KeptRow) (es : List (ℕ × KeptRow)) → AreApartFrom cpu pages added low (e ∷ es) → low ≤ start → start + pages ≤ e.0 → ArePut low (e ∷ es) (insert_entry nat_cmp (e ∷ es) start w)
  put_first low e es apart from before =
      rw (less_is start e.0 (omega arith))
      (record {
        apart = (sym begins, from, end, own, (apart.0, before, apart.2, (later low (e ∷ es) apart).3, later (e.0 + pages) es apart.4));
        rows = put_end number_of w (by_number (values_of (e ∷ es))) (sort_early (e ∷ es) apart);
      })
    where
      sort_early : (es : List (ℕ × KeptRow)) → AreApartFrom cpu pages added low es → Holds (λ (z : KeptRow). z.number < w.number) (by_number (values_of es))
      sort_early es apart = sort_holds number_of (λ (z : KeptRow). z.number < w.number) (values_of es) (holds_of (IsOwn cpu pages added) (λ (z : KeptRow). z.number < w.number) (values_of es) (λ z own. (let l = own.early in omega arith)) (all_own cpu pages added low es apart))

  put_later : (low : ℕ) (e : ℕ × KeptRow) (es : List (ℕ × KeptRow)) → AreApartFrom cpu pages added low (e ∷ es) → e.0 < start → ArePut (e.0 + pages) es (insert_entry nat_cmp es start w) → ArePut low (e ∷ es) (insert_entry nat_cmp (e ∷ es) start w)
  put_later low e es apart behind rest =
      let first : e.1.number < w.number = (let l = apart.3.early in omega arith) in
      rw (greater_is start e.0 behind)
      (record {
        apart = (apart.0, apart.1, apart.2, (later low (e ∷ es) apart).3, rest.apart);
        rows = ap (put_by number_of e.1) rest.rows ∙ put_last number_of e.1 w (by_number (values_of es)) first;
      })

  pub put_all : (low : ℕ) (es : List (ℕ × KeptRow)) → AreApartFrom cpu pages added low es → low ≤ start → Holds (IsBeside pages start) (values_of es) → ArePut low es (insert_entry nat_cmp es start w)
  put_all low [] apart from beside = record { apart = (sym begins, from, end, own, tt); rows = refl }
  put_all low (e ∷ es) apart from beside =
      let at = apart.0 in
      elim beside.0 [
        | inl before ↦ put_later low e es apart (omega arith) (put_all (e.0 + pages) es apart.4 (omega arith) beside.1)
        | inr behind ↦ put_first low e es apart from (omega arith)
      ]

module _ (cpu pages added start asked caller : ℕ) (es news : List (ℕ × KeptRow)) (queue : List ℕ) (b w : KeptRow) (kept : AreKept cpu pages es queue added) (some : 1 ≤ asked) (most : asked ≤ pages) (end : start + pages ≤ 1048576)
    (unused : (page : ℕ) → holds (span start pages) page ≡ true → covers (map (λ (b : Block). span b.start pages) (blocks_in (values_of es))) page ≡ false)
    (empty : b ≡ bare added pages cpu start) (cut : w ≡ record b { block = with_part caller (cut_from (sized b.pages) asked b.block) b.block }) (new : news ≡ insert_entry nat_cmp es start w) where
  abbrev added_row : KeptRow
  added_row = with_cut pages asked caller (bare added pages cpu start)

  pub added_is : w ≡ with_cut pages asked caller (bare added pages cpu start)
  added_is = cut ∙ ap (λ (x : KeptRow). record x { block = with_part caller (cut_from (sized x.pages) asked x.block) x.block }) empty

  added_own : IsOwn cpu pages (added + 1) (with_cut pages asked caller (bare added pages cpu start))
  added_own = own_cut cpu pages (added + 1) asked caller (bare added pages cpu start)
      (record { size = refl; own = refl; early = omega arith; packed = tt; within = omega arith; unspent = (let l = kept.least in let t : (0 == pages) ≡ false = grind (arith, nat_tests) in t) }) some (omega (arith, kept.most))
      (let h = rounded_high asked pages kept.power most in omega arith)

  added_put : ArePut cpu pages added start w (ap start_of added_is) (omega (arith, kept.least)) (ap number_of added_is) (subst (IsOwn cpu pages (added + 1)) (sym added_is) added_own) end 0 es (insert_entry nat_cmp es start w)
  added_put = put_all cpu pages added start w (ap start_of added_is) (omega (arith, kept.least)) (ap number_of added_is) (subst (IsOwn cpu pages (added + 1)) (sym added_is) added_own) end 0 es kept.apart (omega arith)
      (unsort (IsBeside pages start) (values_of es) (beside_list pages start (by_number (values_of es)) (omega (arith, kept.least)) unused))

  added_rows : by_number (values_of news) ≡ by_number (values_of es) ++ w ∷ []
  added_rows = ap (λ xs. by_number (values_of xs)) new ∙ added_put.rows

  -- the blocks with the new one behind
  pub added_blocks : blocks_in (values_of news) ≡ blocks_in (values_of es) ++ with_part caller (record { cpu = cpu; block = start; offset = 0; pages = asked }) (record { start = start; cpu = cpu; parts = [] }) ∷ []
  added_blocks = ap (map block_of) added_rows ∙ map-append block_of (by_number (values_of es)) (w ∷ []) ∙ ap (λ (x : KeptRow). blocks_in (values_of es) ++ x.block ∷ []) added_is
      ∙ ap (λ n. blocks_in (values_of es) ++ with_part caller (record { cpu = cpu; block = start; offset = n; pages = asked }) (record { start = start; cpu = cpu; parts = [] }) ∷ []) (let e : pages - (pages - 0) ≡ 0 = omega arith in e)

  kept_with : (new_queue : List ℕ) → new_queue ≡ queue ++ map start_of (filter (roomy pages) (w ∷ [])) → AreKept cpu pages news new_queue (added + 1)
  kept_with new_queue is = record {
    apart = subst (AreApartFrom cpu pages (added + 1) 0) (sym new) added_put.apart;
    queue_is = is ∙ ap (λ q. q ++ map start_of (filter (roomy pages) (w ∷ []))) kept.queue_is
        ∙ sym (ap (λ xs. map start_of (filter (roomy pages) xs)) added_rows ∙ ap (map start_of) (filter-append (roomy pages) (by_number (values_of es)) (w ∷ [])) ∙ map-append start_of (filter (roomy pages) (by_number (values_of es))) (filter (roomy pages) (w ∷ [])));
    power = kept.power;
    least = kept.least;
    most = kept.most;
  }

  w_pages : w.pages ≡ pages
  w_pages = ap (λ (x : KeptRow). x.pages) added_is

  -- it is queued where it has room
  pub added_queued : 0 < free_of (sized w.pages) w.block → (new_queue : List ℕ) → new_queue ≡ queue ++ start ∷ [] → AreKept cpu pages news new_queue (added + 1)
  added_queued left new_queue is =
      let room : 0 < free_of (sized pages) w.block = subst (λ n. 0 < free_of (sized n) w.block) w_pages left in
      kept_with new_queue (is ∙ ap (λ n. queue ++ n ∷ []) (sym (ap start_of added_is)) ∙ sym (ap (λ t. queue ++ map start_of (cond t (w ∷ []) [])) (let t : roomy pages w ≡ true = grind (arith, nat_tests) in t)))

  pub added_full : free_of (sized w.pages) w.block ≤ 0 → (new_queue : List ℕ) → new_queue ≡ queue → AreKept cpu pages news new_queue (added + 1)
  added_full none new_queue is =
      let full : free_of (sized pages) w.block ≤ 0 = subst (λ n. free_of (sized n) w.block ≤ 0) w_pages none in
      kept_with new_queue (is ∙ sym (append-nil queue) ∙ sym (ap (λ t. queue ++ map start_of (cond t (w ∷ []) [])) (let t : roomy pages w ≡ false = grind (arith, nat_tests) in t)))

pub bare_offset : (number pages cpu start : ℕ) (r : KeptRow) → r ≡ bare number pages cpu start → r.pages - free_of (sized r.pages) r.block ≡ 0
bare_offset number pages cpu start r is = ap (λ (x : KeptRow). x.pages - free_of (sized x.pages) x.block) is ∙ (let e : pages - (pages - 0) ≡ 0 = omega arith in e)
