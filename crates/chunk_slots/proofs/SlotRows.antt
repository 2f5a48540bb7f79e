-- The chunk at a place of the slots, among the chunks by number.
use Rattle.std.proofs.Common.{◌≡◌, ℕ, zero, suc, ◌<◌, ◌==◌, List, [], ◌∷◌, length, map, find, get_or, slice_get, Option, None, Some, refl, ap, sym, ◌∙◌, subst, arith}
use Rattle.std.proofs.lemmas.List.{length-map}
use Rattle.std.proofs.lemmas.Option.{slice_get-get_or}
use Rattle.vm_model.specs.Space.{sort_by}
use Rattle.chunk_slots.specs.declared.slots.InSlot.{InSlot}
use Rattle.chunk_slots.specs.Rising.{index_by}
use Rattle.chunk_slots.specs.KeptChunks.{KeptRow, fresh_row}
use Rattle.chunk_slots.specs.ChunksBySlot.{in_slot_of, slots_of}
use Rattle.chunk_slots.specs.SlotOrder.{key_of_row, AreNumbered}
use Rattle.chunk_slots.proofs.RisingLists.{index_of_found, at_index, IsAt}
use Rattle.chunk_slots.proofs.Choosing.{slots_in_order}
use Rattle.chunk_slots.proofs.InOrder.{same_some, sorted_found}

abbrev number : KeptRow → ℕ
number row = row.number

get-mapped : (xs : List KeptRow) (i : ℕ) (d : KeptRow) (s : InSlot) → i < length xs → get_or (map in_slot_of xs) i s ≡ in_slot_of (get_or xs i d)
get-mapped [] i d s low = absurd (omega arith)
get-mapped (x ∷ xs) zero d s low = refl
get-mapped (x ∷ xs) (suc i) d s low = get-mapped xs i d s (omega arith)

-- the chunk at a place of the slots
pub record IsAtPlace (rows : List KeptRow) (place : ℕ) (s : InSlot) : Type 0 where
  pub row : KeptRow
  pub index : ℕ
  pub here : slice_get (sort_by key_of_row rows) place ≡ Some row
  pub slot : s ≡ in_slot_of row
  pub found : index_by (λ (r : KeptRow). r.number) s.chunk rows ≡ Some index
  pub within : index < length rows
  pub there : slice_get rows index ≡ Some row

pub at_place : (rows : List KeptRow) (place : ℕ) (s d' : InSlot) (d : KeptRow) → AreNumbered rows → place < length (slots_of rows) → s ≡ get_or (slots_of rows) place d' → IsAtPlace rows place s
at_place rows place s d' d numbered low e =
    let sorted : List KeptRow = sort_by key_of_row rows in
    let row : KeptRow = get_or sorted place d in
    let long : length (slots_of rows) ≡ length sorted = sym (ap length (slots_in_order rows)) ∙ length-map sorted in_slot_of in
    let low' : place < length sorted = omega (arith, long) in
    let slot : s ≡ in_slot_of row = e ∙ ap (λ (ss : List InSlot). get_or ss place d') (sym (slots_in_order rows)) ∙ get-mapped sorted place d d' low' in
    let here : slice_get sorted place ≡ Some row = slice_get-get_or sorted place d low' in
    let is_found : find (λ (other : KeptRow). other.number == row.number) rows ≡ Some row = sorted_found number key_of_row rows place row numbered.0 here in
    let at = index_of_found number row.number 0 rows row numbered.0 is_found in
    let is : IsAt number row.number rows at.0 = at_index number row.number 0 rows at.0 numbered.0 at.1 in
    record {
      row = row;
      index = at.0;
      here = here;
      slot = slot;
      found = ap (λ n. index_by number n rows) (ap (λ (t : InSlot). t.chunk) slot) ∙ at.1;
      within = is.within;
      there = slice_get-get_or rows at.0 d is.within ∙ sym (is.found d) ∙ is_found;
    }

-- the default of a read of the slots
abbrev pub no_slot : InSlot
no_slot = record { slot = 0; chunk = 0 }

pub row_at : (rows : List KeptRow) (place : ℕ) (slots : List InSlot) → AreNumbered rows → slots ≡ slots_of rows → place < length slots → IsAtPlace rows place (get_or slots place no_slot)
row_at rows place slots numbered e low =
    at_place rows place (get_or slots place no_slot) no_slot (fresh_row 0 0 0) numbered (subst (λ (ss : List InSlot). place < length ss) e low) (ap (λ (ss : List InSlot). get_or ss place no_slot) e)

found_index : (o : Option ℕ) (i j : ℕ) → o ≡ Some i → o ≡ Some j → i ≡ j
found_index None i j a b = cc
found_index (Some k) i j a b = cc

-- the chunk of a slot is there
pub never_missing : (rows chunks : List KeptRow) (place n : ℕ) (slots : List InSlot) (o : Option ℕ) → AreNumbered rows → slots ≡ slots_of rows → place < length slots → chunks ≡ rows
    → n ≡ (get_or slots place no_slot).chunk → o ≡ index_by number n chunks → o ≡ None → ⊥
never_missing rows chunks place n slots o numbered e low same from is none =
    let at = row_at rows place slots numbered e low in
    let some : o ≡ Some at.index = is ∙ ap (λ m. index_by number m chunks) from ∙ ap (index_by number (get_or slots place no_slot).chunk) same ∙ at.found in
    let clash : None ≡ Some at.index = sym none ∙ some in cc

pub index_is : (rows chunks : List KeptRow) (place n i : ℕ) (slots : List InSlot) (o : Option ℕ) (numbered : AreNumbered rows) (e : slots ≡ slots_of rows) (low : place < length slots) → chunks ≡ rows
    → n ≡ (get_or slots place no_slot).chunk → o ≡ index_by number n chunks → o ≡ Some i → i ≡ (row_at rows place slots numbered e low).index
index_is rows chunks place n i slots o numbered e low same from is some =
    let at = row_at rows place slots numbered e low in
    found_index o i at.index some (is ∙ ap (λ m. index_by number m chunks) from ∙ ap (index_by number (get_or slots place no_slot).chunk) same ∙ at.found)

pub index_within : (rows chunks : List KeptRow) (place n i : ℕ) (slots : List InSlot) (o : Option ℕ) → AreNumbered rows → slots ≡ slots_of rows → place < length slots → chunks ≡ rows
    → n ≡ (get_or slots place no_slot).chunk → o ≡ index_by number n chunks → o ≡ Some i → i < length chunks
index_within rows chunks place n i slots o numbered e low same from is some =
    let at = row_at rows place slots numbered e low in
    let index : i ≡ at.index = index_is rows chunks place n i slots o numbered e low same from is some in
    subst (λ (cs : List KeptRow). i < length cs) (sym same) (subst (λ m. m < length rows) (sym index) at.within)

-- the element that was read is the chunk of the slot
pub read_is : (rows chunks : List KeptRow) (place n i : ℕ) (slots : List InSlot) (o : Option ℕ) (numbered : AreNumbered rows) (e : slots ≡ slots_of rows) (low : place < length slots) (read : KeptRow) → chunks ≡ rows
    → n ≡ (get_or slots place no_slot).chunk → o ≡ index_by number n chunks → o ≡ Some i → read ≡ get_or chunks i read → read ≡ (row_at rows place slots numbered e low).row
read_is rows chunks place n i slots o numbered e low read same from is some here =
    let at = row_at rows place slots numbered e low in
    let index : i ≡ at.index = index_is rows chunks place n i slots o numbered e low same from is some in
    let within : i < length chunks = index_within rows chunks place n i slots o numbered e low same from is some in
    same_some read at.row (ap Some here ∙ sym (slice_get-get_or chunks i read within) ∙ ap (λ (cs : List KeptRow). slice_get cs i) same ∙ ap (slice_get rows) index ∙ at.there)
