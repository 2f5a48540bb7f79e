-- What a call of the side finds, and what it leaves.
use Rattle.std.proofs.Common.{◌≡◌, ◌≢◌, ℕ, zero, suc, ◌+◌, ◌*◌, ◌/◌, ◌<◌, ◌≤◌, ◌⊎◌, inl, inr, Bool, true, false, not, ◌&&◌, cond, if◌then◌else◌, ◌==◌, nat_le, nat_lt, List, [], ◌∷◌, ◌++◌, length, map, filter, find, flat_map, get_or, slice_get, Option, Some, None, option_map, rules, refl, ap, sym, ◌∙◌, subst, arith}
use Rattle.std.specs.Prelude.{IsSome}
use Rattle.std.proofs.lemmas.Bool.{cases_eq}
use Rattle.std.proofs.lemmas.Bool.Decides.{nat_tests}
use Rattle.std.proofs.lemmas.Option.{slice_get-get_or}
use Rattle.vm_model.specs.declared.areas.Span.{Span}
use Rattle.vm_model.specs.declared.areas.PageSet.{PageSet}
use Rattle.vm_model.specs.PageSets.{has_page}
use Rattle.chunk_slots.proofs.PagesInRow.{painted_alike}
use Rattle.vm_model.specs.Space.{paint, paint_from, is_among}
use Rattle.vm_model.specs.Frames.{pages_of_bytes}
use Rattle.vm_model.specs.PlainMap.{Chunk, Object, Life, Lives}
use Rattle.vm_model.specs.Chunks.{ObjectAt, find_object, chunks_numbered, with_object, without_object, with_live_object, with_page}
use Rattle.chunk_slots.specs.declared.holders.Holder.{Holder}
use Rattle.chunk_slots.specs.declared.slots.InSlot.{InSlot}
use Rattle.chunk_slots.specs.Rising.{IsRising, index_by}
use Rattle.chunk_slots.specs.KeptObjects.{object_key, object_by, objects_by}
use Rattle.chunk_slots.specs.KeptChunks.{KeptRow, slot_in, with_bits, without_bits, with_pages, fresh_row, bytes_at}
use Rattle.chunk_slots.specs.KeptChunkSides.{number_of, chunk_in, chunks_in, Each, IsKeptSpan, IsKeptRow}
use Rattle.chunk_slots.specs.ChunksBySlot.{key_of_slot, slot_key, in_slot_of, slots_of, moved, fit_in}
use Rattle.chunk_slots.specs.ChunkRegion.{ChunkRegion, IsHeld}
use Rattle.chunk_slots.proofs.RisingLists.{at_index, IsAt, put_back}
use Rattle.chunk_slots.proofs.SlotLists.{AreLow, some_same, slot_found, slot_other}
use Rattle.chunk_slots.proofs.ObjectViews.{IsUpdate, other_chunk, other_spans, objects_placed, spans_placed, objects_freed, spans_freed, objects_settled, spans_settled, fit_is_free}
use Rattle.chunk_slots.proofs.RowLists.{each_at, numbered_found, numbered_none}

-- A chunk by its number.

pub record IsFound (n : ℕ) (rows : List KeptRow) (i : ℕ) : Type 0 where
  pub within : i < length rows
  pub row : KeptRow
  pub there : slice_get rows i ≡ Some row
  pub number : row.number ≡ n
  pub read : (e : KeptRow) → e ≡ get_or rows i e → e ≡ row

no_row : KeptRow
no_row = fresh_row 0 0 0

pub found_by : (n i : ℕ) (rows : List KeptRow) → IsRising number_of rows → index_by number_of n rows ≡ Some i → IsFound n rows i
found_by n i rows rise e =
    let at : IsAt number_of n rows i = at_index number_of n 0 rows i rise e in
    record {
      within = at.within;
      row = get_or rows i no_row;
      there = slice_get-get_or rows i no_row at.within;
      number = at.has no_row;
      read = λ x is. is ∙ some_same (get_or rows i x) (get_or rows i no_row) (sym (slice_get-get_or rows i x at.within) ∙ slice_get-get_or rows i no_row at.within);
    }

pub index_of_call : (n m : ℕ) (o p : Option ℕ) (rows slice : List KeptRow) → slice ≡ rows → m ≡ n → o ≡ index_by number_of m slice → o ≡ p → index_by number_of n rows ≡ p
index_of_call n m o p rows slice same key is some = sym (ap (index_by number_of n) same) ∙ sym (ap (λ k. index_by number_of k slice) key) ∙ sym is ∙ some

pub found_row : (n m i : ℕ) (o : Option ℕ) (rows slice : List KeptRow) → IsRising number_of rows → slice ≡ rows → m ≡ n → o ≡ index_by number_of m slice → o ≡ Some i → IsFound n rows i
found_row n m i o rows slice rise same key is some = found_by n i rows rise (index_of_call n m o (Some i) rows slice same key is some)

pub missing_row : (n m : ℕ) (o : Option ℕ) (rows slice : List KeptRow) → slice ≡ rows → m ≡ n → o ≡ index_by number_of m slice → o ≡ None → index_by number_of n rows ≡ None
missing_row n m o rows slice same key is none = index_of_call n m o None rows slice same key is none

-- An object by its chunk and offset.

pub app_nil : {X : Type 0} (xs : List X) → xs ++ [] ≡ xs
app_nil [] = refl
app_nil (x ∷ xs) = ap (λ ys. x ∷ ys) (app_nil xs)

abbrev at_off : ℕ → Object → Bool
at_off off o = o.off == off

abbrev pub starts_at : ℕ → Span → Bool
starts_at off s = 4 * s.start == off

find_in_view : (h : ℕ → Option Holder) (n off : ℕ) (spans : List Span) → find (at_off off) (objects_by h n spans) ≡ option_map (object_by h n) (find (starts_at off) spans)
find_in_view h n off [] = refl
find_in_view h n off (s ∷ spans) = by (4 * s.start == off) (find_in_view h n off spans)
  where
    by : (b : Bool) → find (at_off off) (objects_by h n spans) ≡ option_map (object_by h n) (find (starts_at off) spans)
        → cond b (Some (object_by h n s)) (find (at_off off) (objects_by h n spans)) ≡ option_map (object_by h n) (cond b (Some s) (find (starts_at off) spans))
    by true rest = refl
    by false rest = rest

abbrev pub objects_of_chunk : Chunk → List Object
objects_of_chunk c = c.objects

pub object_in_chunk : (h : ℕ → Option Holder) (i : ℕ) (rows : List KeptRow) (row : KeptRow) (at : ObjectAt) → IsRising number_of rows → slice_get rows i ≡ Some row → row.number ≡ at.chunk
    → find_object at (chunks_in h rows) ≡ option_map (object_by h row.number) (find (starts_at at.off) row.bits.objects)
object_in_chunk h i rows row at rise there number =
    ap (λ n. find (at_off at.off) (flat_map objects_of_chunk (chunks_numbered n (chunks_in h rows)))) (sym number)
    ∙ ap (λ cs. find (at_off at.off) (flat_map objects_of_chunk cs)) (numbered_found h 0 i rows row rise there)
    ∙ ap (find (at_off at.off)) (app_nil (objects_by h row.number row.bits.objects))
    ∙ find_in_view h row.number at.off row.bits.objects

pub no_object : (h : ℕ → Option Holder) (rows : List KeptRow) (at : ObjectAt) → index_by number_of at.chunk rows ≡ None → find_object at (chunks_in h rows) ≡ None
no_object h rows at none = ap (λ cs. find (at_off at.off) (flat_map objects_of_chunk cs)) (numbered_none h at.chunk rows none)

pub found_span : (P : Span → Type 0) (off : ℕ) (spans : List Span) (s : Span) → Each P spans → find (starts_at off) spans ≡ Some s → P s × (4 * s.start ≡ off)
found_span P off [] s e found = cc
found_span P off (t ∷ ts) s e found = elim (cases_eq (4 * t.start) off) [
  | inl here ↦
      let test : starts_at off t ≡ true = grind (arith, nat_tests) in
      let same : t ≡ s = some_span t s (sym (ap (λ b. cond b (Some t) (find (starts_at off) ts)) test) ∙ found) in
      (subst P same e.0, ap (λ (u : Span). 4 * u.start) (sym same) ∙ here)
  | inr apart ↦
      let test : starts_at off t ≡ false = grind (arith, nat_tests) in
      found_span P off ts s e.1 (sym (ap (λ b. cond b (Some t) (find (starts_at off) ts)) test) ∙ found)
]
  where
    some_span : (a b : Span) → Some a ≡ Some b → a ≡ b
    some_span a b e' = cc

-- an object that is there, with its chunk and its bits
pub record IsThere (h : ℕ → Option Holder) (pages next : ℕ) (rows : List KeptRow) (at : ObjectAt) : Type 0 where
  pub index : ℕ
  pub index_is : index_by number_of at.chunk rows ≡ Some index
  pub place : IsFound at.chunk rows index
  pub row : KeptRow
  pub row_is : place.row ≡ row
  pub there : slice_get rows index ≡ Some row
  pub number : row.number ≡ at.chunk
  pub kept : IsKeptRow pages next h row
  pub span : Span
  pub found : find (starts_at at.off) row.bits.objects ≡ Some span
  pub start : 4 * span.start ≡ at.off
  pub spans : IsKeptSpan h row.number (1024 * pages) span
  pub object : find_object at (chunks_in h rows) ≡ Some (object_by h row.number span)

never : {A : Type 0} (o : Option A) → o ≡ None → IsSome o → ⊥
never None e some = cc
never (Some x) e some = cc

option_split : {A : Type 0} (o : Option A) → (o ≡ None) ⊎ ((x : A) × (o ≡ Some x))
option_split None = inl refl
option_split (Some x) = inr (x, refl)

pub object_there : (h : ℕ → Option Holder) (pages next : ℕ) (rows : List KeptRow) (at : ObjectAt) → IsRising number_of rows → Each (IsKeptRow pages next h) rows → IsSome (find_object at (chunks_in h rows)) → IsThere h pages next rows at
object_there h pages next rows at rise each some = elim (option_split (index_by number_of at.chunk rows)) [
  | inl none ↦ absurd (never (find_object at (chunks_in h rows)) (no_object h rows at none) some)
  | inr found ↦ in_row found.0 found.1 (found_by at.chunk found.0 rows rise found.1)
]
  where
    in_span : (i : ℕ) → index_by number_of at.chunk rows ≡ Some i → (f : IsFound at.chunk rows i) → IsKeptRow pages next h f.row → find_object at (chunks_in h rows) ≡ option_map (object_by h f.row.number) (find (starts_at at.off) f.row.bits.objects)
        → (find (starts_at at.off) f.row.bits.objects ≡ None) ⊎ ((s : Span) × (find (starts_at at.off) f.row.bits.objects ≡ Some s)) → IsThere h pages next rows at
    in_span i is f kept object (inl none) = absurd (never (find_object at (chunks_in h rows)) (object ∙ ap (option_map (object_by h f.row.number)) none) some)
    in_span i is f kept object (inr s) =
        let it = found_span (IsKeptSpan h f.row.number (1024 * pages)) at.off f.row.bits.objects s.0 kept.spans_are s.1 in
        record {
          index = i;
          index_is = is;
          place = f;
          row = f.row;
          row_is = refl;
          there = f.there;
          number = f.number;
          kept = kept;
          span = s.0;
          found = s.1;
          start = it.1;
          spans = it.0;
          object = object ∙ ap (option_map (object_by h f.row.number)) s.1;
        }

    in_row : (i : ℕ) → index_by number_of at.chunk rows ≡ Some i → IsFound at.chunk rows i → IsThere h pages next rows at
    in_row i is f = in_span i is f (each_at (IsKeptRow pages next h) i rows f.row each f.there) (object_in_chunk h i rows f.row at rise f.there f.number) (option_split (find (starts_at at.off) f.row.bits.objects))

pub some_is : {A : Type 0} (o : Option A) (x : A) → o ≡ Some x → IsSome o
some_is o x e = subst IsSome (sym e) it
  where
    it : IsSome (Some x)
    it = search rules

same_index : (i j : ℕ) → Some i ≡ Some j → i ≡ j
same_index i j e = cc

-- the chunk that a call finds is the object's
pub same_place : (n m i : ℕ) (o : Option ℕ) (rows slice : List KeptRow) (j : ℕ) → slice ≡ rows → m ≡ n → o ≡ index_by number_of m slice → o ≡ Some i → index_by number_of n rows ≡ Some j → i ≡ j
same_place n m i o rows slice j same key is some at = same_index i j (sym (index_of_call n m o (Some i) rows slice same key is some) ∙ at)

pub read_there : {h : ℕ → Option Holder} {pages next : ℕ} {rows : List KeptRow} {at : ObjectAt} (it : IsThere h pages next rows at) (i : ℕ) (e : KeptRow) → i ≡ it.index → e ≡ get_or rows i e → e ≡ it.row
read_there {rows = rows} it i e same is = it.place.read e (is ∙ ap (λ j. get_or rows j e) same) ∙ it.row_is

pub numbered_row : (h : ℕ → Option Holder) (n i : ℕ) (rows : List KeptRow) → IsRising number_of rows → (f : IsFound n rows i) → chunks_numbered n (chunks_in h rows) ≡ chunk_in h f.row ∷ []
numbered_row h n i rows rise f = ap (λ k. chunks_numbered k (chunks_in h rows)) (sym f.number) ∙ numbered_found h 0 i rows f.row rise f.there

pub slot_there : (i : ℕ) (rows : List KeptRow) (row : KeptRow) (slots : List InSlot) (from n : ℕ) → IsRising number_of rows → AreLow rows → slots ≡ slots_of rows → slice_get rows i ≡ Some row → from ≡ slot_in row → n ≡ row.number
    → find (λ (s : InSlot). key_of_slot s == slot_key from n) slots ≡ Some (record { slot = from; chunk = n })
slot_there i rows row slots from n rise lows are there slot number =
    ap (find (λ (s : InSlot). key_of_slot s == slot_key from n)) are
    ∙ ap (λ f. find (λ (s : InSlot). key_of_slot s == slot_key f n) (slots_of rows)) slot
    ∙ ap (λ m. find (λ (s : InSlot). key_of_slot s == slot_key (slot_in row) m) (slots_of rows)) number
    ∙ slot_found 0 i rows row rise lows there
    ∙ ap (λ f. Some (in_slot f row.number)) (sym slot) ∙ ap (λ m. Some (in_slot from m)) (sym number)
  where
    in_slot : ℕ → ℕ → InSlot
    in_slot f m = record { slot = f; chunk = m }

pub slot_not_there : (i : ℕ) (rows : List KeptRow) (row : KeptRow) (slots : List InSlot) (from to n : ℕ) → IsRising number_of rows → AreLow rows → slots ≡ slots_of rows → slice_get rows i ≡ Some row → from ≡ slot_in row → n ≡ row.number
    → from ≢ to → index_by key_of_slot (slot_key to n) slots ≡ None
slot_not_there i rows row slots from to n rise lows are there slot number apart =
    ap (index_by key_of_slot (slot_key to n)) are ∙ ap (λ m. index_by key_of_slot (slot_key to m) (slots_of rows)) number
    ∙ slot_other to 0 i rows row (λ same. apart (slot ∙ same)) rise lows there

pub update_moved : (g h : ℕ → Option Holder) (n m off at : ℕ) (w : Option Holder) → IsUpdate g h (object_key n off) w → m ≡ n → 4 * at ≡ off → IsUpdate g h (object_key m (4 * at)) w
update_moved g h n m off at w new number place = subst (λ k. IsUpdate g h k w) (sym (ap (λ k. object_key k (4 * at)) number ∙ ap (object_key n) place)) new

pub moved_by : (n from to m from' to' : ℕ) (slots' slots : List InSlot) → slots' ≡ moved n from to slots → n ≡ m → from ≡ from' → to ≡ to' → slots' ≡ moved m from' to' slots
moved_by n from to m from' to' slots' slots e number was is = e ∙ ap (λ k. moved k from to slots) number ∙ ap (λ k. moved m k to slots) was ∙ ap (λ k. moved m from' k slots) is

abbrev pub region_by : (unit_pages next_object next_chunk room : ℕ) → List Chunk → ChunkRegion
region_by unit_pages next_object next_chunk room chunks = record { unit_pages = unit_pages; chunks = chunks; next_object = next_object; next_chunk = next_chunk; room = room }

-- What stays elsewhere.

abbrev row_of_value : (number base : ℕ) → List Bool → List Object → Chunk
row_of_value number base populated objects = record { number = number; base = base; populated = populated; objects = objects }

pub other_row : (g h : ℕ → Option Holder) (pages next m at : ℕ) (w : Option Holder) → IsUpdate g h (object_key m (4 * at)) w → at < 65536 → pages ≤ 64 → (other : KeptRow) → other.number ≢ m → IsKeptRow pages next h other → IsKeptRow pages next g other
other_row g h pages next m at w new low most other apart kept = record {
  given = kept.given;
  pages_are = kept.pages_are;
  bits_are = kept.bits_are;
  spans_are = other_spans g h other.number m at (1024 * pages) w other.bits.objects new (omega arith) low apart kept.spans_are;
}

pub other_view : (g h : ℕ → Option Holder) (pages next m at : ℕ) (w : Option Holder) → IsUpdate g h (object_key m (4 * at)) w → at < 65536 → pages ≤ 64 → (other : KeptRow) → other.number ≢ m → IsKeptRow pages next h other → chunk_in g other ≡ chunk_in h other
other_view g h pages next m at w new low most other apart kept =
    ap (row_of_value other.number other.base other.populated) (other_chunk g h other.number m at (1024 * pages) w other.bits.objects new (omega arith) low apart kept.spans_are)

-- An object is placed.

pub row_placed : (g h : ℕ → Option Holder) (pages next at count align : ℕ) (atomic : Bool) (holder : Holder) (row : KeptRow) → IsUpdate g h (object_key row.number (4 * at)) (Some holder) → pages ≤ 64 → 1 ≤ count
    → fit_in atomic count align row ≡ Some at → IsKeptRow pages next h row → IsKeptRow pages next g (with_bits at count row)
row_placed g h pages next at count align atomic holder row new most some fit kept =
    let free = fit_is_free atomic count align at row some fit in let within = free.0 in let bits = kept.bits_are in
    record {
      given = kept.given;
      pages_are = kept.pages_are;
      bits_are = kept.bits_are;
      spans_are = spans_placed g h row.number at count (1024 * pages) holder row.bits.objects new (omega arith) (omega arith) some (omega arith) kept.spans_are free.1;
    }

pub place_low : (h : ℕ → Option Holder) (pages next at count align : ℕ) (atomic : Bool) (row : KeptRow) → pages ≤ 64 → 1 ≤ count → fit_in atomic count align row ≡ Some at → IsKeptRow pages next h row → (at < 65536) × (at + count ≤ 1024 * pages)
place_low h pages next at count align atomic row most some fit kept =
    let free = fit_is_free atomic count align at row some fit in let within = free.0 in let bits = kept.bits_are in (omega arith, omega arith)

pub view_placed : (g h : ℕ → Option Holder) (pages next at count align caller : ℕ) (atomic : Bool) (holder : Holder) (row : KeptRow) (place : ObjectAt) → IsUpdate g h (object_key row.number (4 * at)) (Some holder) → holder.caller ≡ caller → holder.serial ≡ 0
    → pages ≤ 64 → 1 ≤ count → fit_in atomic count align row ≡ Some at → IsKeptRow pages next h row → place.off ≡ 4 * at → place.bytes ≡ 4 * count
    → chunk_in g (with_bits at count row) ≡ with_object caller place (chunk_in h row)
view_placed g h pages next at count align caller atomic holder row place new who serial most some fit kept off bytes =
    let free = fit_is_free atomic count align at row some fit in let within = free.0 in let bits = kept.bits_are in
    ap (row_of_value row.number row.base row.populated) (objects_placed g h row.number at count (1024 * pages) caller holder row.bits.objects new who serial (omega arith) (omega arith) kept.spans_are free.1)
    ∙ ap (λ n. with_object caller (record { chunk = place.chunk; base = place.base; off = n; bytes = 4 * count }) (chunk_in h row)) (sym off)
    ∙ ap (λ n. with_object caller (record { chunk = place.chunk; base = place.base; off = place.off; bytes = n }) (chunk_in h row)) (sym bytes)

-- An object is gone.

pub place_of : (h : ℕ → Option Holder) (pages next : ℕ) (rows : List KeptRow) (at : ObjectAt) → pages ≤ 64 → IsThere h pages next rows at → (4 * (at.off / 4) ≡ at.off) × (at.off / 4 < 65536) × (at.off / 4 < 1024 * pages)
place_of h pages next rows at most it = let start = it.start in let some = it.spans.some in let within = it.spans.within in (omega arith, omega arith, omega arith)

abbrev update_at : (g h : ℕ → Option Holder) (n off : ℕ) → Option Holder → Type 0
update_at g h n off w = IsUpdate g h (object_key n off) w

pub row_freed : (g h : ℕ → Option Holder) (pages next at : ℕ) (row : KeptRow) → IsUpdate g h (object_key row.number (4 * at)) None → pages ≤ 64 → at < 65536 → IsKeptRow pages next h row → IsKeptRow pages next g (without_bits at row)
row_freed g h pages next at row new most low kept = record {
  given = kept.given;
  pages_are = kept.pages_are;
  bits_are = kept.bits_are;
  spans_are = spans_freed g h row.number at (1024 * pages) row.bits.objects new (omega arith) low kept.spans_are;
}

pub view_freed : (g h : ℕ → Option Holder) (pages next at : ℕ) (row : KeptRow) (place : ObjectAt) → IsUpdate g h (object_key row.number (4 * at)) None → pages ≤ 64 → at < 65536 → IsKeptRow pages next h row → 4 * at ≡ place.off
    → chunk_in g (without_bits at row) ≡ without_object place (chunk_in h row)
view_freed g h pages next at row place new most low kept off =
    ap (row_of_value row.number row.base row.populated) (objects_freed g h row.number at (1024 * pages) row.bits.objects new (omega arith) low kept.spans_are
    ∙ ap (λ n. filter (λ (o : Object). not (o.off == n)) (objects_by h row.number row.bits.objects)) off)

-- An object gets its serial, and its pages are populated.

length-paint_from : (test : ℕ → Bool) (first : ℕ) (xs : List Bool) → length (paint_from first test true xs) ≡ length xs
length-paint_from test first [] = refl
length-paint_from test first (x ∷ xs) = ap suc (length-paint_from test (suc first) xs)

pub row_populated : (h : ℕ → Option Holder) (pages next : ℕ) (test : ℕ → Bool) (row : KeptRow) → IsKeptRow pages next h row → IsKeptRow pages next h (with_pages test row)
row_populated h pages next test row kept = record {
  given = kept.given;
  pages_are = length-paint_from test 0 row.populated ∙ kept.pages_are;
  bits_are = kept.bits_are;
  spans_are = kept.spans_are;
}

pub row_settled : (g h : ℕ → Option Holder) (pages next at : ℕ) (new : Holder) (row : KeptRow) → IsUpdate g h (object_key row.number (4 * at)) (Some new) → IsKeptRow pages next h row → IsKeptRow pages next g row
row_settled g h pages next at new row changed kept = record {
  given = kept.given;
  pages_are = kept.pages_are;
  bits_are = kept.bits_are;
  spans_are = spans_settled g h row.number at (1024 * pages) new row.bits.objects changed kept.spans_are;
}

abbrev settled_with : (off : ℕ) → Life → Object → Object
settled_with off life o = if o.off == off then record o { life = life } else o

pub view_settled : (g h : ℕ → Option Holder) (pages next at serial : ℕ) (old new : Holder) (row : KeptRow) (place : ObjectAt) → IsUpdate g h (object_key row.number (4 * at)) (Some new) → h (object_key row.number (4 * at)) ≡ Some old → new.caller ≡ old.caller → new.serial ≡ serial → 1 ≤ serial
    → pages ≤ 64 → at < 65536 → IsKeptRow pages next h row → 4 * at ≡ place.off
    → chunk_in g (with_pages (is_among (pages_of_bytes place.off place.bytes)) row) ≡ with_live_object place (Lives serial) (chunk_in h row)
view_settled g h pages next at serial old new row place changed had who which some most low kept off =
    ap (row_of_value row.number row.base (paint (is_among (pages_of_bytes place.off place.bytes)) true row.populated))
    (objects_settled g h row.number at (1024 * pages) serial old new row.bits.objects changed had who which some (omega arith) low kept.spans_are
    ∙ ap (λ n. map (settled_with n (Lives serial)) (objects_by h row.number row.bits.objects)) off)

-- a chunk that stays in its slot
pub slot_stays : (i : ℕ) (rows : List KeptRow) (row new : KeptRow) (slots : List InSlot) → IsRising number_of rows → AreLow rows → slots ≡ slots_of rows → IsRising key_of_slot slots → slice_get rows i ≡ Some row → slot_in new ≡ slot_in row
    → slots ≡ moved row.number (slot_in row) (slot_in new) slots
slot_stays i rows row new slots rise lows are slots_rise there same =
    sym (put_back key_of_slot (in_slot_of row) 0 slots slots_rise (subst (λ ss. find (λ (s : InSlot). key_of_slot s == slot_key (slot_in row) row.number) ss ≡ Some (in_slot_of row)) (sym are) (slot_found 0 i rows row rise lows there)))
    ∙ ap (λ to. moved row.number (slot_in row) to slots) (sym same)

-- An object in hand.

pub record IsInHand (h : ℕ → Option Holder) (pages next : ℕ) (rows : List KeptRow) (at : ObjectAt) : Type 0 where
  pub it : IsThere h pages next rows at
  pub bytes : 4 * it.span.pages ≡ at.bytes
  pub off : 4 * (at.off / 4) ≡ at.off
  pub low : at.off / 4 < 65536
  pub some : 4 ≤ at.bytes
  pub within : at.off + at.bytes ≤ 4096 * pages
  pub holder : Holder
  pub had : h (object_key at.chunk at.off) ≡ Some holder

some_object : (a b : Object) → Some a ≡ Some b → a ≡ b
some_object a b e = cc

some_of : {A : Type 0} (o : Option A) → IsSome o → (x : A) × (o ≡ Some x)
some_of None some = absurd (let clash : false ≡ true = some in cc)
some_of (Some x) some = (x, refl)

pub in_hand : (h : ℕ → Option Holder) (pages next : ℕ) (rows : List KeptRow) (at : ObjectAt) → pages ≤ 64 → IsRising number_of rows → Each (IsKeptRow pages next h) rows → IsHeld at (chunks_in h rows) → IsInHand h pages next rows at
in_hand h pages next rows at most rise each held = by (object_there h pages next rows at rise each (some_is (find_object at (chunks_in h rows)) held.object held.found))
  where
    by : IsThere h pages next rows at → IsInHand h pages next rows at
    by it =
        let bytes : 4 * it.span.pages ≡ at.bytes = ap (λ (o : Object). o.bytes) (some_object (object_by h it.row.number it.span) held.object (sym it.object ∙ held.found)) ∙ held.bytes in
        let start = it.start in let own = it.spans.some in let inside = it.spans.within in
        let key : object_key it.row.number (4 * it.span.start) ≡ object_key at.chunk at.off = ap (λ n. object_key n (4 * it.span.start)) it.number ∙ ap (object_key at.chunk) start in
        let holder = some_of (h (object_key at.chunk at.off)) (subst (λ k. IsSome (h k)) key it.spans.held) in
        record {
          it = it;
          bytes = bytes;
          off = omega arith;
          low = omega arith;
          some = omega arith;
          within = omega arith;
          holder = holder.0;
          had = holder.1;
        }

-- painted by a set of one page
pub length-painted : (test : ℕ → Bool) (xs : List Bool) → length (paint test true xs) ≡ length xs
length-painted test xs = length-paint_from test 0 xs

-- A chunk that is there.

pub record IsChunk (h : ℕ → Option Holder) (pages next : ℕ) (rows : List KeptRow) (n : ℕ) (value : Chunk) : Type 0 where
  pub index : ℕ
  pub index_is : index_by number_of n rows ≡ Some index
  pub row : KeptRow
  pub there : slice_get rows index ≡ Some row
  pub number : row.number ≡ n
  pub kept : IsKeptRow pages next h row
  pub value_is : chunk_in h row ≡ value
  pub found : find (λ (r : KeptRow). r.number == n) rows ≡ Some row
  pub read : (i : ℕ) (e : KeptRow) → i ≡ index → e ≡ get_or rows i e → e ≡ row

some_chunk : (a b : Chunk) → Some a ≡ Some b → a ≡ b
some_chunk a b e = cc

pub chunk_there : (h : ℕ → Option Holder) (pages next : ℕ) (rows : List KeptRow) (n : ℕ) (value : Chunk) → IsRising number_of rows → Each (IsKeptRow pages next h) rows → slice_get (chunks_numbered n (chunks_in h rows)) 0 ≡ Some value → IsChunk h pages next rows n value
chunk_there h pages next rows n value rise each found = elim (option_split (index_by number_of n rows)) [
  | inl none ↦ absurd (let clash : None ≡ Some value = sym (ap (λ cs. slice_get cs 0) (numbered_none h n rows none)) ∙ found in cc)
  | inr at ↦ by at.0 at.1 (found_by n at.0 rows rise at.1) (at_index number_of n 0 rows at.0 rise at.1)
]
  where
    by : (i : ℕ) → index_by number_of n rows ≡ Some i → IsFound n rows i → IsAt number_of n rows i → IsChunk h pages next rows n value
    by i is f at = record {
      index = i;
      index_is = is;
      row = f.row;
      there = f.there;
      number = f.number;
      kept = each_at (IsKeptRow pages next h) i rows f.row each f.there;
      value_is = some_chunk (chunk_in h f.row) value (sym (ap (λ cs. slice_get cs 0) (numbered_row h n i rows rise f)) ∙ found);
      found = at.found f.row ∙ ap Some (f.read (get_or rows i f.row) (f_reads i f));
      read = λ j e same e_is. f.read e (e_is ∙ ap (λ k. get_or rows k e) same);
    }
      where
        f_reads : (k : ℕ) → (g : IsFound n rows k) → get_or rows k g.row ≡ get_or rows k (get_or rows k g.row)
        f_reads k g = some_same (get_or rows k g.row) (get_or rows k (get_or rows k g.row)) (sym (slice_get-get_or rows k g.row g.within) ∙ slice_get-get_or rows k (get_or rows k g.row) g.within)

pub get_within : {X : Type 0} (i : ℕ) (xs : List X) (x : X) → slice_get xs i ≡ Some x → i < length xs
get_within i [] x e = cc
get_within zero (y ∷ ys) x e = omega arith
get_within (suc i) (y ∷ ys) x e = omega (arith, get_within i ys x e)

pub one_page : (set : PageSet) (page : ℕ) (xs : List Bool) → length xs ≤ 64 → ((p : ℕ) → p < 64 → has_page set p ≡ (nat_le page p && nat_lt p (page + 1))) → paint (has_page set) true xs ≡ paint (λ other. other == page) true xs
one_page set page xs few is = painted_alike (has_page set) (λ other. other == page) true 0 xs (λ p low high. is p (omega arith) ∙ same p)
  where
    same : (p : ℕ) → (nat_le page p && nat_lt p (page + 1)) ≡ (p == page)
    same p = grind (arith, nat_tests)

pub view_populated : (h : ℕ → Option Holder) (pages next page : ℕ) (set : PageSet) (row : KeptRow) → IsKeptRow pages next h row → pages ≤ 64 → ((p : ℕ) → p < 64 → has_page set p ≡ (nat_le page p && nat_lt p (page + 1)))
    → chunk_in h (with_pages (has_page set) row) ≡ with_page page (chunk_in h row)
view_populated h pages next page set row kept most is = ap (λ ps. row_of_value row.number row.base ps (objects_by h row.number row.bits.objects)) (let long = kept.pages_are in one_page set page row.populated (omega arith) is)

pub without_number : (h : ℕ → Option Holder) (n : ℕ) (rows : List KeptRow) → chunks_in h (filter (λ (r : KeptRow). not (r.number == n)) rows) ≡ filter (λ (c : Chunk). not (c.number == n)) (chunks_in h rows)
without_number h n [] = refl
without_number h n (x ∷ xs) = by (not (x.number == n)) (without_number h n xs)
  where
    by : (b : Bool) → chunks_in h (filter (λ (r : KeptRow). not (r.number == n)) xs) ≡ filter (λ (c : Chunk). not (c.number == n)) (chunks_in h xs)
        → chunks_in h (cond b (x ∷ filter (λ (r : KeptRow). not (r.number == n)) xs) (filter (λ (r : KeptRow). not (r.number == n)) xs)) ≡ cond b (chunk_in h x ∷ filter (λ (c : Chunk). not (c.number == n)) (chunks_in h xs)) (filter (λ (c : Chunk). not (c.number == n)) (chunks_in h xs))
    by true rest = ap (λ cs. chunk_in h x ∷ cs) rest
    by false rest = rest

-- The object that begins at an offset of a chunk.

pub record IsFoundObject (h : ℕ → Option Holder) (row : KeptRow) (off bytes : ℕ) : Type 0 where
  pub span : Span
  pub found : find (starts_at off) row.bits.objects ≡ Some span
  pub size : 4 * span.pages ≡ bytes
  pub held : IsSome (h (object_key row.number off))

mapped_some : (f : Span → ℕ) (o : Option Span) (x : ℕ) → option_map f o ≡ Some x → (s : Span) × (o ≡ Some s) × (f s ≡ x)
mapped_some f None x e = cc
mapped_some f (Some s) x e = (s, refl, cc)

pub mapped_none : (f : Span → ℕ) (o : Option Span) → option_map f o ≡ None → o ≡ None
mapped_none f None e = refl
mapped_none f (Some s) e = cc

pub object_in_row : (h : ℕ → Option Holder) (pages next : ℕ) (row : KeptRow) (off bytes : ℕ) → IsKeptRow pages next h row → bytes_at off row ≡ Some bytes → IsFoundObject h row off bytes
object_in_row h pages next row off bytes kept there =
    let s = mapped_some (λ (t : Span). 4 * t.pages) (find (starts_at off) row.bits.objects) bytes there in
    let it = found_span (IsKeptSpan h row.number (1024 * pages)) off row.bits.objects s.0 kept.spans_are s.1 in
    record { span = s.0; found = s.1; size = s.2; held = subst (λ o. IsSome (h (object_key row.number o))) it.1 it.0.held }

pub held_never : (h : ℕ → Option Holder) (n m off : ℕ) (o : Option Holder) → IsSome (h (object_key n off)) → n ≡ m → o ≡ h (object_key m off) → o ≡ None → ⊥
held_never h n m off o held same is none = never (h (object_key n off)) (ap (λ k. h (object_key k off)) same ∙ sym is ∙ none) held
