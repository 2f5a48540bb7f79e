-- Words of frames, and what zeroing and adding leave of them.
use Rattle.std.proofs.Common.{◌≡◌, ◌≢◌, ℕ, ◌+◌, ◌*◌, ◌/◌, ◌%◌, ◌<◌, List, length, slice_get, slice_set, Option, Some, unwrap_or, ap, sym, ◌∙◌, arith, ℤ, pos, ◌+ℤ◌, zero, suc, ◌≤◌, Bool, true, false, [], ◌∷◌, None, refl, subst, inl, inr, map, not, length-set, ◌++◌}
use Rattle.std.proofs.lemmas.Option.{unwrap_or-slice_get, same_Some}
use Rattle.vm_model.specs.Frames.{joined_option, cell_in, cell_of, read_cell, write_cell, word_at, add_word, frame_of, pages_of_bytes, words_in_page, zero_frame, zero_pages, zero_words, is_used, free_frames, give_frames, sum_words}
use Rattle.map_laws.proofs.KeptThroughSteps.{set_same, set_other, there, set_cases}
use Rattle.vm_model.specs.declared.areas.Span.{Span}
use Rattle.vm_model.specs.Space.{span, holds, is_among, count_from, pages_of}
use Rattle.vm_model.proofs.Paint.{slice_get-paint, length-paint_from}
use Rattle.map_laws.proofs.TestsAndFilters.{holds_to, holds_from, filter_has, count_from-below}
use Rattle.map_laws.proofs.areas.AreaFacts.{unpainted}
use Rattle.std.proofs.lemmas.List.{length-replicate}
use Rattle.vm_model.specs.declared.calls.Call.{Call}
use Rattle.vm_model.specs.Setup.{Setup, pages_in_units}
use Rattle.vm_model.specs.PlainMap.{PlainMap}
use Rattle.vm_model.specs.Events.{Section, MapPages, Populate, Fill, Unmap, Depopulate, Zero, AddWord, Event}
use Rattle.vm_model.specs.Effects.{effect_as}
use Rattle.vm_model.specs.History.{opening_world}
use Rattle.map_laws.proofs.areas.AreaWorlds.{still_mapped, replicate-at}
use Rattle.std.proofs.Math.IntN.{+ℤ_assoc, +ℤ_comm, +ℤ_idl, +ℤ_idr}
use Rattle.vm_model.specs.Laws.{amount_of, added}

-- Words of memory: whose cell is whose, and what an add and a zero leave.

-- a whole word begins at the byte
pub record IsWord (byte : ℕ) : Type 0 where
  pub word : ℕ
  pub at : byte ≡ 4 * word

-- frames of a machine with so many, no two pages having one
pub record AreCells (count : ℕ) (frames : List (Option ℕ)) (cells : List ℤ) : Type 0 where
  pub own : (page other frame : ℕ) → slice_get frames page ≡ Some (Some frame) → slice_get frames other ≡ Some (Some frame) → page ≡ other
  pub few : (page frame : ℕ) → slice_get frames page ≡ Some (Some frame) → frame < count
  pub long : length cells ≡ 1024 * count

abbrev pub HasFrame : List (Option ℕ) → ℕ → ℕ → Type 0
HasFrame frames byte frame = slice_get frames (byte / 4096) ≡ Some (Some frame)

pub cell_at : (frames : List (Option ℕ)) (byte frame : ℕ) → HasFrame frames byte frame → cell_of frames byte ≡ Some (1024 * frame + (byte % 4096) / 4)
cell_at frames byte frame h = ap (λ o. cell_in (joined_option o) byte) h

-- a cell is that of one word
same_cell : (frames : List (Option ℕ)) (byte other frame own : ℕ) → ((page other frame : ℕ) → slice_get frames page ≡ Some (Some frame) → slice_get frames other ≡ Some (Some frame) → page ≡ other) → HasFrame frames byte frame → HasFrame frames other own → IsWord byte
    → IsWord other → 1024 * frame + (byte % 4096) / 4 ≡ 1024 * own + (other % 4096) / 4 → byte ≡ other
same_cell frames byte other frame own apart h g is is' e = grind arith

-- What is read.

pub read_at : (cells : List ℤ) (cell : ℕ) → read_cell cells (Some cell) ≡ unwrap_or (slice_get cells cell) (pos 0)
read_at cells cell = sym (unwrap_or-slice_get cells cell (pos 0))

pub word_is : (frames : List (Option ℕ)) (cells : List ℤ) (byte frame : ℕ) → HasFrame frames byte frame → word_at frames cells byte ≡ unwrap_or (slice_get cells (1024 * frame + (byte % 4096) / 4)) (pos 0)
word_is frames cells byte frame h = ap (read_cell cells) (cell_at frames byte frame h) ∙ read_at cells (1024 * frame + (byte % 4096) / 4)

-- An add.

module _ (count : ℕ) (frames : List (Option ℕ)) (cells : List ℤ) (are : AreCells count frames cells) (byte frame : ℕ) (amount : ℤ) (h : HasFrame frames byte frame) where
  abbrev cell : ℕ
  cell = 1024 * frame + (byte % 4096) / 4

  added_cells : add_word frames byte amount cells ≡ slice_set cells cell (word_at frames cells byte +ℤ amount)
  added_cells = ap (λ o. write_cell cells o (word_at frames cells byte +ℤ amount)) (cell_at frames byte frame h)

  cell_low : cell < length cells
  cell_low = let few = are.few (byte / 4096) frame h in let long = are.long in let low : (byte % 4096) / 4 < 1024 = omega arith in omega arith

  -- the word grows
  pub added_own : word_at frames (add_word frames byte amount cells) byte ≡ (word_at frames cells byte +ℤ amount)
  added_own =
      let was = there cells cell cell_low in
      word_is frames (add_word frames byte amount cells) byte frame h ∙ ap (λ l. unwrap_or (slice_get l cell) (pos 0)) added_cells
      ∙ ap (λ o. unwrap_or o (pos 0)) (set_same cells cell was.0 (word_at frames cells byte +ℤ amount) was.1)

  -- and each other one stays
  pub added_other : (other own : ℕ) → HasFrame frames other own → IsWord byte → IsWord other → other ≢ byte → word_at frames (add_word frames byte amount cells) other ≡ word_at frames cells other
  added_other other own g is is' apart =
      word_is frames (add_word frames byte amount cells) other own g ∙ ap (λ l. unwrap_or (slice_get l (1024 * own + (other % 4096) / 4)) (pos 0)) added_cells
      ∙ ap (λ o. unwrap_or o (pos 0)) (set_other cells cell (1024 * own + (other % 4096) / 4) (word_at frames cells byte +ℤ amount) (λ e. apart (same_cell frames other byte own frame are.own g h is' is e)))
      ∙ sym (word_is frames cells other own g)

-- What it leaves of words to zero an object: its own are 0, and others stay.

-- Which words of a page are zeroed.

module _ (off bytes page : ℕ) (start : IsWord off) (long : IsWord bytes) where
  -- a word that is zeroed lies in the object
  pub zeroed_within : (inner : ℕ) → holds (words_in_page off bytes page) inner ≡ true → (off ≤ 4096 * page + 4 * inner) × (4096 * page + 4 * inner < off + bytes) × (inner < 1024)
  zeroed_within inner h = grind (arith, holds_to)

  -- and a word of the object is zeroed
  pub within_zeroed : (inner : ℕ) → off ≤ 4096 * page + 4 * inner → 4096 * page + 4 * inner < off + bytes → inner < 1024 → holds (words_in_page off bytes page) inner ≡ true
  within_zeroed inner low high few = grind (arith, holds_from)

-- One frame, a page, and all units.

abbrev pub IsZero : List ℤ → ℕ → Type 0
IsZero cells cell = unwrap_or (slice_get cells cell) (pos 0) ≡ pos 0

-- the span of cells that is zeroed in a frame
abbrev zeroed_cells : ℕ → Span → Span
zeroed_cells frame words = span (1024 * frame + words.start) words.pages

zero_frame-stays : (o : Option ℕ) (words : Span) (cells : List ℤ) (cell : ℕ) → IsZero cells cell → IsZero (zero_frame o words cells) cell
zero_frame-stays None words cells cell h = h
zero_frame-stays (Some frame) words cells cell h = grind (arith, slice_get-paint)

module _ (frames : List (Option ℕ)) (off bytes : ℕ) where
  zero_pages-stays : (unit : ℕ) (pages : List ℕ) (cells : List ℤ) (cell : ℕ) → IsZero cells cell → IsZero (zero_pages frames unit off bytes pages cells) cell
  zero_pages-stays unit [] cells cell h = h
  zero_pages-stays unit (page ∷ pages) cells cell h =
      zero_pages-stays unit pages (zero_frame (frame_of frames (unit + page)) (words_in_page off bytes page) cells) cell (zero_frame-stays (frame_of frames (unit + page)) (words_in_page off bytes page) cells cell h)

  zero_words-stays : (units : List ℕ) (cells : List ℤ) (cell : ℕ) → IsZero cells cell → IsZero (zero_words frames units off bytes cells) cell
  zero_words-stays [] cells cell h = h
  zero_words-stays (unit ∷ units) cells cell h = zero_words-stays units (zero_pages frames unit off bytes (pages_of_bytes off bytes) cells) cell (zero_pages-stays unit (pages_of_bytes off bytes) cells cell h)

  -- the words of one page of a unit
  zero_pages-own : (unit page frame inner : ℕ) (pages : List ℕ) (cells : List ℤ) (i : ℕ) → slice_get pages i ≡ Some page → frame_of frames (unit + page) ≡ Some frame → holds (words_in_page off bytes page) inner ≡ true
      → IsZero (zero_pages frames unit off bytes pages cells) (1024 * frame + inner)
  zero_pages-own unit page frame inner [] cells i at f h = cc
  zero_pages-own unit page frame inner (own ∷ pages) cells zero at f h = grind (arith, same_Some, zero_pages-stays, holds_to, slice_get-paint, holds_from)
  zero_pages-own unit page frame inner (own ∷ pages) cells (suc i) at f h =
      zero_pages-own unit page frame inner pages (zero_frame (frame_of frames (unit + own)) (words_in_page off bytes own) cells) i at f h

  pub zero_words-own : (unit page frame inner : ℕ) (units : List ℕ) (cells : List ℤ) (i j : ℕ) → slice_get units j ≡ Some unit → slice_get (pages_of_bytes off bytes) i ≡ Some page → frame_of frames (unit + page) ≡ Some frame
      → holds (words_in_page off bytes page) inner ≡ true → IsZero (zero_words frames units off bytes cells) (1024 * frame + inner)
  zero_words-own unit page frame inner [] cells i j at in_pages f h = cc
  zero_words-own unit page frame inner (own ∷ units) cells i zero at in_pages f h =
      let same : own ≡ unit = same_Some own unit at in
      zero_words-stays units (zero_pages frames own off bytes (pages_of_bytes off bytes) cells) (1024 * frame + inner)
      (subst (λ n. IsZero (zero_pages frames n off bytes (pages_of_bytes off bytes) cells) (1024 * frame + inner)) (sym same) (zero_pages-own unit page frame inner (pages_of_bytes off bytes) cells i in_pages f h))
  zero_words-own unit page frame inner (own ∷ units) cells i (suc j) at in_pages f h = zero_words-own unit page frame inner units (zero_pages frames own off bytes (pages_of_bytes off bytes) cells) i j at in_pages f h

  -- a cell that no page of the object has
  abbrev pub IsElsewhere : ℕ → ℕ → Type 0
  IsElsewhere unit cell = (page frame : ℕ) → frame_of frames (unit + page) ≡ Some frame → holds (zeroed_cells frame (words_in_page off bytes page)) cell ≡ true → ⊥

  zero_pages-other : (unit cell : ℕ) (pages : List ℕ) (cells : List ℤ) → IsElsewhere unit cell → slice_get (zero_pages frames unit off bytes pages cells) cell ≡ slice_get cells cell
  zero_pages-other unit cell [] cells never = refl
  zero_pages-other unit cell (page ∷ pages) cells never =
      grind (arith, zero_pages-other unit cell pages (zero_frame (frame_of frames (unit + page)) (words_in_page off bytes page) cells) never, unpainted)

  pub zero_words-other : (cell : ℕ) (units : List ℕ) (cells : List ℤ) → ((j unit : ℕ) → slice_get units j ≡ Some unit → IsElsewhere unit cell) → slice_get (zero_words frames units off bytes cells) cell ≡ slice_get cells cell
  zero_words-other cell [] cells never = refl
  zero_words-other cell (unit ∷ units) cells never =
      zero_words-other cell units (zero_pages frames unit off bytes (pages_of_bytes off bytes) cells) (λ j own at. never (suc j) own at)
      ∙ zero_pages-other unit cell (pages_of_bytes off bytes) cells (never 0 unit refl)

length-zero_pages : (frames : List (Option ℕ)) (unit off bytes : ℕ) (pages : List ℕ) (cells : List ℤ) → length (zero_pages frames unit off bytes pages cells) ≡ length cells
length-zero_pages frames unit off bytes [] cells = refl
length-zero_pages frames unit off bytes (page ∷ pages) cells =
    grind (arith, length-zero_pages frames unit off bytes pages (zero_frame (frame_of frames (unit + page)) (words_in_page off bytes page) cells), length-paint_from)

pub length-zero_words : (frames : List (Option ℕ)) (units : List ℕ) (off bytes : ℕ) (cells : List ℤ) → length (zero_words frames units off bytes cells) ≡ length cells
length-zero_words frames [] off bytes cells = refl
length-zero_words frames (unit ∷ units) off bytes cells =
    length-zero_words frames units off bytes (zero_pages frames unit off bytes (pages_of_bytes off bytes) cells) ∙ length-zero_pages frames unit off bytes (pages_of_bytes off bytes) cells

-- There is a cell for each word of each frame, and no frame beyond them is given.

abbrev pub AreFew : ℕ → List (Option ℕ) → Type 0
AreFew count frames = (page frame : ℕ) → slice_get frames page ≡ Some (Some frame) → frame < count

given_few : (count : ℕ) (pages free : List ℕ) (frames : List (Option ℕ)) → ((i frame : ℕ) → slice_get free i ≡ Some frame → frame < count) → AreFew count frames → AreFew count (give_frames pages free frames)
given_few count (p ∷ pages) (f ∷ free) frames low few = given_few count pages free (slice_set frames p (Some f)) (λ i frame h. low (suc i) frame h)
    (λ page frame h. elim (set_cases frames p page (Some f) (Some frame) h) [
      | inl e ↦ (let same : frame ≡ f = cc in subst (λ n. n < count) (sym same) (low 0 f refl))
      | inr e ↦ few page frame e.1
    ])
given_few count _ _ frames low few = few

free_low : (c : Setup) (frames : List (Option ℕ)) (i frame : ℕ) → slice_get (free_frames c frames) i ≡ Some frame → frame < c.frames
free_low c frames i frame h =
    let kept = filter_has (λ frame. not (is_used frame frames)) (count_from c.frames 0) i frame h in
    let low = count_from-below c.frames 0 kept.there.place frame kept.there.at in omega arith

few_section : (c : Setup) (m : PlainMap) (k : ℕ) (s : Section) → AreFew c.frames m.frames → AreFew c.frames (effect_as c m k s).frames
few_section c m k (MapPages s) few = given_few c.frames (pages_of s) (free_frames c m.frames) m.frames (free_low c m.frames) few
few_section c m k (Populate at missing) few = given_few c.frames (pages_in_units c at.base missing) (free_frames c m.frames) m.frames (free_low c m.frames) few
few_section c m k (Fill base page) few = given_few c.frames (pages_in_units c base (page ∷ [])) (free_frames c m.frames) m.frames (free_low c m.frames) few
few_section c m k (Unmap s) few = λ page frame h. few page frame (still_mapped (holds s) m.frames page frame h)
few_section c m k (Depopulate base pages) few = λ page frame h. few page frame (still_mapped (is_among (pages_in_units c base pages)) m.frames page frame h)
few_section c m k _ few = few

cells_section : (c : Setup) (m : PlainMap) (k : ℕ) (s : Section) → length (effect_as c m k s).cells ≡ length m.cells
cells_section c m k (Populate at missing) = length-zero_words (give_frames (pages_in_units c at.base missing) (free_frames c m.frames) m.frames) (map (λ unit. at.base + unit) c.units) at.off at.bytes m.cells
cells_section c m k (Zero at) = length-zero_words m.frames (map (λ unit. at.base + unit) c.units) at.off at.bytes m.cells
cells_section c m k (AddWord at serial cpu index amount) = grind (arith, length-set)
cells_section c m k _ = refl

-- frames that have cells
pub record HaveCells (c : Setup) (m : PlainMap) : Type 0 where
  pub few : AreFew c.frames m.frames
  pub long : length m.cells ≡ 1024 * c.frames

pub have_cells_section : (c : Setup) (m : PlainMap) (k : ℕ) (s : Section) → HaveCells c m → HaveCells c (effect_as c m k s)
have_cells_section c m k s is = record { few = few_section c m k s is.few; long = cells_section c m k s ∙ is.long }

pub have_cells_first : (c : Setup) (opening : List Call) (calls : List (List Call)) → HaveCells c (opening_world c opening calls).map
have_cells_first c opening calls = grind (arith, replicate-at, length-replicate)

-- Sums of words over all processors, and what adds come to.

module _ (frames frames' : List (Option ℕ)) (cells cells' : List ℤ) (byte_of : ℕ → ℕ) where
  abbrev before : List ℕ → ℤ
  before units = sum_words frames cells (map byte_of units)

  abbrev behind : List ℕ → ℤ
  behind units = sum_words frames' cells' (map byte_of units)

  -- words that stay
  pub sums_agree : (units : List ℕ) → ((i unit : ℕ) → slice_get units i ≡ Some unit → word_at frames' cells' (byte_of unit) ≡ word_at frames cells (byte_of unit)) → behind units ≡ before units
  sums_agree [] same = refl
  sums_agree (unit ∷ units) same = let first = same 0 unit refl in let rest = sums_agree units (λ i own at. same (suc i) own at) in cc

  -- one of which grows
  pub sums_grow : (units : List ℕ) (cpu own : ℕ) (amount : ℤ) → slice_get units cpu ≡ Some own → word_at frames' cells' (byte_of own) ≡ (word_at frames cells (byte_of own) +ℤ amount)
      → ((i unit : ℕ) → slice_get units i ≡ Some unit → i ≢ cpu → word_at frames' cells' (byte_of unit) ≡ word_at frames cells (byte_of unit)) → behind units ≡ (before units +ℤ amount)
  sums_grow [] cpu own amount at grows same = cc
  sums_grow (unit ∷ units) zero own amount at grows same =
      let one : unit ≡ own = same_Some unit own at in
      let first : word_at frames' cells' (byte_of unit) ≡ (word_at frames cells (byte_of unit) +ℤ amount) = ap (λ n. word_at frames' cells' (byte_of n)) one ∙ grows ∙ ap (λ n. word_at frames cells (byte_of n) +ℤ amount) (sym one) in
      let rest = sums_agree units (λ i own' at'. same (suc i) own' at' (λ e. cc)) in
      ap (λ v. v +ℤ behind units) first ∙ ap (λ v. (word_at frames cells (byte_of unit) +ℤ amount) +ℤ v) rest
      ∙ +ℤ_assoc (word_at frames cells (byte_of unit)) amount (before units) ∙ ap (λ v. word_at frames cells (byte_of unit) +ℤ v) (+ℤ_comm amount (before units)) ∙ sym (+ℤ_assoc (word_at frames cells (byte_of unit)) (before units) amount)
  sums_grow (unit ∷ units) (suc cpu) own amount at grows same =
      let first = same 0 unit refl (λ e. cc) in
      let rest = sums_grow units cpu own amount at grows (λ i own' at' apart. same (suc i) own' at' (λ e. apart (let f : i ≡ cpu = omega arith in f))) in
      ap (λ v. v +ℤ behind units) first ∙ ap (λ v. word_at frames cells (byte_of unit) +ℤ v) rest ∙ sym (+ℤ_assoc (word_at frames cells (byte_of unit)) (before units) amount)

-- words that are 0
pub sums_zero : (frames : List (Option ℕ)) (cells : List ℤ) (byte_of : ℕ → ℕ) (units : List ℕ) → ((i unit : ℕ) → slice_get units i ≡ Some unit → word_at frames cells (byte_of unit) ≡ pos 0) → sum_words frames cells (map byte_of units) ≡ pos 0
sums_zero frames cells byte_of [] none = refl
sums_zero frames cells byte_of (unit ∷ units) none = ap (λ v. v +ℤ sum_words frames cells (map byte_of units)) (none 0 unit refl) ∙ +ℤ_idl (sum_words frames cells (map byte_of units)) ∙ sums_zero frames cells byte_of units (λ i own at. none (suc i) own at)

-- what was added, with one more event
pub added_more : (serial index : ℕ) (events : List Event) (e : Event) → added serial index (events ++ e ∷ []) ≡ (added serial index events +ℤ amount_of serial index e.section)
added_more serial index [] e = +ℤ_idr (amount_of serial index e.section) ∙ sym (+ℤ_idl (amount_of serial index e.section))
added_more serial index (x ∷ events) e = ap (λ v. amount_of serial index x.section +ℤ v) (added_more serial index events e) ∙ sym (+ℤ_assoc (amount_of serial index x.section) (added serial index events) (amount_of serial index e.section))

-- only an add adds
abbrev pub is_add : Section → Bool
is_add (AddWord at serial cpu index amount) = true
is_add _ = false

pub adds_nothing : (serial index : ℕ) (s : Section) → is_add s ≡ false → amount_of serial index s ≡ pos 0
adds_nothing serial index s h = grind arith

pub added_same : (serial index : ℕ) (events : List Event) (e : Event) → amount_of serial index e.section ≡ pos 0 → added serial index (events ++ e ∷ []) ≡ added serial index events
added_same serial index events e none = added_more serial index events e ∙ ap (λ v. added serial index events +ℤ v) none ∙ +ℤ_idr (added serial index events)
