-- Live parts by their first pages.
use Rattle.std.proofs.Common.{◌≡◌, ◌≢◌, ℕ, ◌+◌, ◌-◌, ◌<◌, ◌≤◌, ◌⊎◌, inl, inr, Bool, true, false, ◌&&◌, ◌==◌, cond, List, [], ◌∷◌, ◌++◌, length, length-append, map, filter, flat_map, Some, refl, sym, ap, subst, ◌∙◌, arith}
use Rattle.std.proofs.lemmas.Bool.{cases_lt}
use Rattle.std.proofs.lemmas.Bool.Decides.{nat_tests}
use Rattle.std.proofs.lemmas.List.{append-nil}
use Rattle.std.specs.declared.ops.Bound.TheVariants.{Included, Unbounded}
use Rattle.std.specs.Ordering.{nat_cmp}
use Rattle.std.specs.Map.{values_of}
use Rattle.std.specs.BTreeMap.Range.{range_contains, entries_between}
use Rattle.vm_model.specs.PlainMap.{Block, Part, lives_as}
use Rattle.vm_model.specs.Blocks as model
use Rattle.vm_model.specs.Blocks.{PartAt, size_of, parts_size, is_named, named_in}
use Rattle.map_blocks.specs.KeptBlocks.{KeptRow, ArePacked}
use Rattle.map_blocks.specs.KeptBlockSides.{IsOwn, AreApartFrom, block_at, by_number, blocks_in}
use Rattle.map_blocks.proofs.PartsInRow.{same_test, other_test, size_cons}
use Rattle.map_blocks.proofs.SortedByNumber.{Holds, holds_of, sort_holds}
use Rattle.map_blocks.proofs.BlocksByStart.{at_same, at_other, starts_at, all_own}
use Rattle.map_blocks.proofs.BlocksInOrder.{number_of, block_of, pick_sorted, sorted_own}
use Rattle.map_blocks.proofs.Taken.{filter_all}

-- the entries whose keys are at most a page
abbrev pub up_to : ℕ → List (ℕ × KeptRow) → List (ℕ × KeptRow)
up_to page entries = entries_between nat_cmp Unbounded (Included page) entries

passes : (key page : ℕ) → key ≤ page → range_contains nat_cmp Unbounded (Included page) key ≡ true
passes key page h = grind (arith, nat_tests)

fails : (key page : ℕ) → page < key → range_contains nat_cmp Unbounded (Included page) key ≡ false
fails key page h = grind (arith, nat_tests)

-- the page isn't in the block
abbrev pub IsElsewhere : (pages page : ℕ) → KeptRow → Type 0
IsElsewhere pages page r = (page < r.block.start) ⊎ (r.block.start + pages ≤ page)

nothing_ends : (front : List (ℕ × KeptRow)) (e : ℕ × KeptRow) → [] ≡ front ++ e ∷ [] → ⊥
nothing_ends front e h = omega (arith, length-append front (e ∷ []), ap length h)

module _ (cpu pages added : ℕ) where
  -- where all blocks start behind a page, none is up to it
  pub record AreBehind (page : ℕ) (es : List (ℕ × KeptRow)) : Type 0 where
    pub none : up_to page es ≡ []
    pub elsewhere : Holds (IsElsewhere pages page) (values_of es)

  behind : (low page : ℕ) (es : List (ℕ × KeptRow)) → AreApartFrom cpu pages added low es → page < low → AreBehind page es
  behind low page [] apart past = record { none = refl; elsewhere = tt }
  behind low page (e ∷ es) apart past =
      let at = apart.0 in
      let from = apart.1 in
      let rest = behind (e.0 + pages) page es apart.4 (omega arith) in
      record { none = rw (fails e.0 page (omega arith)) rest.none; elsewhere = (inl (omega arith), rest.elsewhere) }

  own_from : (low : ℕ) (e : ℕ × KeptRow) (es : List (ℕ × KeptRow)) → AreApartFrom cpu pages added low (e ∷ es) → AreApartFrom cpu pages added e.0 (e ∷ es)
  own_from low e es apart = (apart.0, omega arith, apart.2, apart.3, apart.4)

  up_to_passes : (page : ℕ) (e : ℕ × KeptRow) (es : List (ℕ × KeptRow)) → e.0 ≤ page → up_to page (e ∷ es) ≡ e ∷ up_to page es
  up_to_passes page e es h = ap (λ (b : Bool). cond b (e ∷ up_to page es) (up_to page es)) (passes e.0 page h)

  -- where no block is up to a page, the page is in none
  pub none_up_to : (low page : ℕ) (es : List (ℕ × KeptRow)) → AreApartFrom cpu pages added low es → up_to page es ≡ [] → Holds (IsElsewhere pages page) (values_of es)
  none_up_to low page [] apart none = tt
  none_up_to low page (e ∷ es) apart none = elim (cases_lt page e.0) [
    | inl past ↦ (behind e.0 page (e ∷ es) (own_from low e es apart) past).elsewhere
    | inr reached ↦ absurd (let is = sym (up_to_passes page e es reached) ∙ none in cc)
  ]

  -- the last block that starts up to a page, and the others, which don't have the page
  pub record IsLastUpTo (low page : ℕ) (es : List (ℕ × KeptRow)) (e : ℕ × KeptRow) : Type 0 where
    pub from : low ≤ e.0
    pub reached : e.0 ≤ page
    pub found : block_at es e.0 ≡ Some e.1
    pub others : Holds (λ (r : KeptRow). (r.block.start ≡ e.0) ⊎ IsElsewhere pages page r) (values_of es)

  last_here : (low page : ℕ) (e : ℕ × KeptRow) (es : List (ℕ × KeptRow)) → AreApartFrom cpu pages added low (e ∷ es) → e.0 ≤ page → up_to page es ≡ [] → IsLastUpTo low page (e ∷ es) e
  last_here low page e es apart reached none =
      let at = apart.0 in
      record {
        from = apart.1;
        reached = reached;
        found = ap (λ t. cond t (Some e.1) (block_at es e.0)) (at_same e.0 e.0 refl);
        others = (inl (sym apart.0), holds_of (IsElsewhere pages page) (λ (r : KeptRow). (r.block.start ≡ e.0) ⊎ IsElsewhere pages page r) (values_of es) (λ r h. inr h) (none_up_to (e.0 + pages) page es apart.4 none));
      }

  last_further : (low page : ℕ) (d e : ℕ × KeptRow) (es : List (ℕ × KeptRow)) → 0 < pages → AreApartFrom cpu pages added low (d ∷ es) → IsLastUpTo (d.0 + pages) page es e → IsLastUpTo low page (d ∷ es) e
  last_further low page d e es some apart last =
      let at = apart.0 in
      let from = last.from in
      let reached = last.reached in
      record {
        from = omega (arith, apart.1);
        reached = reached;
        found = ap (λ t. cond t (Some d.1) (block_at es e.0)) (at_other e.0 d.0 (λ h. omega arith)) ∙ last.found;
        others = (inr (inr (omega arith)), last.others);
      }

  pub last_up_to : (low page : ℕ) (e : ℕ × KeptRow) (es front : List (ℕ × KeptRow)) → 0 < pages → AreApartFrom cpu pages added low es → up_to page es ≡ front ++ e ∷ [] → IsLastUpTo low page es e
  last_up_to low page e [] front some apart is = absurd (nothing_ends front e is)
  last_up_to low page e (d ∷ es) [] some apart is = elim (cases_lt page d.0) [
    | inl past ↦ absurd (nothing_ends [] e (sym (behind d.0 page (d ∷ es) (own_from low d es apart) past).none ∙ is))
    | inr reached ↦
        let both = sym (up_to_passes page d es reached) ∙ is in
        let own : d ≡ e = cc in
        let none : up_to page es ≡ [] = cc in
        subst (λ (x : ℕ × KeptRow). IsLastUpTo low page (d ∷ es) x) own (last_here low page d es apart reached none)
  ]
  last_up_to low page e (d ∷ es) (f ∷ front) some apart is = elim (cases_lt page d.0) [
    | inl past ↦ absurd (nothing_ends (f ∷ front) e (sym (behind d.0 page (d ∷ es) (own_from low d es apart) past).none ∙ is))
    | inr reached ↦
        let both = sym (up_to_passes page d es reached) ∙ is in
        let rest : up_to page es ≡ front ++ e ∷ [] = cc in
        last_further low page d e es some apart (last_up_to (d.0 + pages) page e es front some apart.4 rest)
  ]

  -- a block without the page has no part that begins there
  none_by : (start page serial : ℕ) (p : Part) (ps : List Part) (named : List Part) → (start + p.offset) ≢ page → named ≡ [] → cond ((start + p.offset == page) && lives_as serial p.life) (p ∷ named) named ≡ []
  none_by start page serial p ps named other none = ap (λ t. cond (t && lives_as serial p.life) (p ∷ named) named) (other_test (start + p.offset) page other) ∙ none

  named_nothing : (start page serial off : ℕ) (ps : List Part) → ArePacked off ps → off + parts_size ps ≤ pages → (page < start) ⊎ (start + pages ≤ page) → filter (λ (p : Part). (start + p.offset == page) && lives_as serial p.life) ps ≡ []
  named_nothing start page serial off [] packed within away = refl
  named_nothing start page serial off (p ∷ ps) packed within away =
      none_by start page serial p ps (filter (λ (p : Part). (start + p.offset == page) && lives_as serial p.life) ps) (λ e. elim away [ inl low ↦ omega arith | inr high ↦ (let b = packed.1 in let s = packed.2 in let n = size_cons p ps in omega (arith, packed.0)) ])
      (named_nothing start page serial (off + size_of p) ps packed.3 (omega (arith, size_cons p ps)) away)

  pub elsewhere_named : (page serial : ℕ) (r : KeptRow) → IsOwn cpu pages added r → IsElsewhere pages page r → named_in page serial r.block ≡ []
  elsewhere_named page serial r own away = ap (map (λ (p : Part). record { cpu = r.block.cpu; block = r.block.start; offset = p.offset; pages = p.pages })) (named_nothing r.block.start page serial 0 r.block.parts own.packed (let w = own.within in omega arith) away)

  -- all that are named
  flat_none : (page serial : ℕ) (xs : List KeptRow) → Holds (λ r. named_in page serial r.block ≡ []) xs → flat_map (named_in page serial) (map block_of xs) ≡ []
  flat_none page serial [] all = refl
  flat_none page serial (x ∷ xs) all = ap (λ ps. ps ++ flat_map (named_in page serial) (map block_of xs)) all.0 ∙ flat_none page serial xs all.1

  one_by : (page serial k : ℕ) (x : KeptRow) (xs : List KeptRow) (t : Bool) → (t ≡ false → named_in page serial x.block ≡ []) → flat_map (named_in page serial) (map block_of xs) ≡ flat_map (λ r. named_in page serial (block_of r)) (filter (starts_at k) xs)
      → named_in page serial x.block ++ flat_map (named_in page serial) (map block_of xs) ≡ flat_map (λ r. named_in page serial (block_of r)) (cond t (x ∷ filter (starts_at k) xs) (filter (starts_at k) xs))
  one_by page serial k x xs true none more = ap (λ ps. named_in page serial x.block ++ ps) more
  one_by page serial k x xs false none more = ap (λ ps. ps ++ flat_map (named_in page serial) (map block_of xs)) (none refl) ∙ more

  flat_one : (page serial k : ℕ) (xs : List KeptRow) → Holds (λ x. starts_at k x ≡ false → named_in page serial x.block ≡ []) xs → flat_map (named_in page serial) (map block_of xs) ≡ flat_map (λ r. named_in page serial (block_of r)) (filter (starts_at k) xs)
  flat_one page serial k [] all = refl
  flat_one page serial k (x ∷ xs) all = one_by page serial k x xs (starts_at k x) all.0 (flat_one page serial k xs all.1)

  pub own_blocks : (low : ℕ) (es : List (ℕ × KeptRow)) → AreApartFrom cpu pages added low es → filter (λ (b : Block). b.cpu == cpu) (blocks_in (values_of es)) ≡ blocks_in (values_of es)
  own_blocks low es apart = filter_all (λ (b : Block). b.cpu == cpu) (by_number (values_of es)) (holds_of (IsOwn cpu pages added) (λ x. (x.block.cpu == cpu) ≡ true) (by_number (values_of es)) (λ x own. ap (λ n. n == cpu) own.own ∙ same_test cpu) (sorted_own cpu pages added low es apart))

  both : (P Q : KeptRow → Type 0) (xs : List KeptRow) → Holds P xs → Holds Q xs → Holds (λ x. P x × Q x) xs
  both P Q [] p q = tt
  both P Q (x ∷ xs) p q = ((p.0, q.0), both P Q xs p.1 q.1)

  pub nothing_named : (page serial : ℕ) (es : List (ℕ × KeptRow)) → AreApartFrom cpu pages added 0 es → up_to page es ≡ [] → model.named_parts cpu page serial (blocks_in (values_of es)) ≡ []
  nothing_named page serial es apart none =
      ap (flat_map (named_in page serial)) (own_blocks 0 es apart)
      ∙ flat_none page serial (by_number (values_of es)) (sort_holds number_of (λ r. named_in page serial r.block ≡ []) (values_of es)
      (holds_of (λ r. IsOwn cpu pages added r × IsElsewhere pages page r) (λ r. named_in page serial r.block ≡ []) (values_of es) (λ r h. elsewhere_named page serial r h.0 h.1)
      (both (IsOwn cpu pages added) (IsElsewhere pages page) (values_of es) (all_own cpu pages added 0 es apart) (none_up_to 0 page es apart none))))

  away_of : (page serial k : ℕ) (r : KeptRow) → IsOwn cpu pages added r → (r.block.start ≡ k) ⊎ IsElsewhere pages page r → starts_at k r ≡ false → named_in page serial r.block ≡ []
  away_of page serial k r own (inl at) other = (let here : starts_at k r ≡ true = ap (λ n. n == k) at ∙ same_test k in let bad : true ≡ false = sym here ∙ other in cc)
  away_of page serial k r own (inr away) other = elsewhere_named page serial r own away

  -- those of the last block that starts up to the page
  pub block_named : (page serial : ℕ) (es : List (ℕ × KeptRow)) (e : ℕ × KeptRow) → 0 < pages → AreApartFrom cpu pages added 0 es → IsLastUpTo 0 page es e → model.named_parts cpu page serial (blocks_in (values_of es)) ≡ named_in page serial e.1.block
  block_named page serial es e some apart last =
      ap (flat_map (named_in page serial)) (own_blocks 0 es apart)
      ∙ flat_one page serial e.0 (by_number (values_of es)) (sort_holds number_of (λ x. starts_at e.0 x ≡ false → named_in page serial x.block ≡ []) (values_of es)
      (holds_of (λ r. IsOwn cpu pages added r × ((r.block.start ≡ e.0) ⊎ IsElsewhere pages page r)) (λ x. starts_at e.0 x ≡ false → named_in page serial x.block ≡ []) (values_of es) (λ r h. away_of page serial e.0 r h.0 h.1)
      (both (IsOwn cpu pages added) (λ (r : KeptRow). (r.block.start ≡ e.0) ⊎ IsElsewhere pages page r) (values_of es) (all_own cpu pages added 0 es apart) last.others)))
      ∙ ap (flat_map (λ r. named_in page serial (block_of r))) (pick_sorted cpu pages added 0 e.0 es e.1 some apart last.found) ∙ append-nil (named_in page serial e.1.block)

-- a page of a block by its offset
pub named_at : (k page serial : ℕ) (r : KeptRow) → r.block.start ≡ k → k ≤ page → named_in (r.block.start + (page - k)) serial r.block ≡ named_in page serial r.block
named_at k page serial r at low = ap (λ n. named_in n serial r.block) (omega arith)
