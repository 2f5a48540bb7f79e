-- What a caller asks before it calls what has a condition.
use Rattle.std.proofs.Common.{◌≡◌, ℕ, ◌*◌, ◌<◌, inl, inr, Bool, true, false, not, if◌then◌else◌, ◌==◌, nat_lt, List, find, slice_get, Option, Some, None, option_map, refl, ap, sym, ◌∙◌, arith}
use Rattle.std.specs.List.{list_any}
use Rattle.std.proofs.lemmas.Bool.{cases_eq}
use Rattle.std.proofs.lemmas.Bool.Decides.{nat_tests}
use Rattle.vm_model.specs.declared.areas.PageSet.{PageSet}
use Rattle.vm_model.specs.declared.rows.Hint.{Hint}
use Rattle.vm_model.specs.Bits.{hint_of, block_bits}
use Rattle.vm_model.specs.PageSets.{has_page}
use Rattle.vm_model.specs.PlainMap.{Chunk, Object, InHand, Lives}
use Rattle.vm_model.specs.Chunks.{ObjectAt, find_object, touches}
use Rattle.vm_model.proofs.Tabulated.{length-tabulated, slice_get-tabulated}
use Rattle.chunk_bitmaps.specs.ChunkMap.{ChunkMap, taken_bits}
use Rattle.chunk_slots.specs.declared.holders.Holder.{Holder}
use Rattle.chunk_slots.specs.Rising.{IsRising, index_by}
use Rattle.chunk_slots.specs.KeptObjects.{object_key, object_by, objects_by, life_by}
use Rattle.chunk_slots.specs.KeptChunks.{KeptRow, pages_as, page_is_free, bytes_at}
use Rattle.chunk_slots.specs.KeptChunkSides.{number_of, chunk_in, chunks_in, IsKeptSpan, IsKeptRow}
use Rattle.chunk_slots.specs.ChunkRegion.{IsHeld, CanPopulate}
use Rattle.chunk_slots.proofs.FreeBits.{left_is_taken}
use Rattle.chunk_slots.proofs.RowLists.{numbered_none}
use Rattle.chunk_slots.proofs.ChunkViews.{free_page_in_view, long_spans}
use Rattle.chunk_slots.proofs.SideCalls.{IsFound, IsFoundObject, starts_at, object_in_chunk, no_object, found_span, mapped_none, get_within, numbered_row, region_by}

-- An object in hand.

never_found : (o : Option Object) (x : Object) → o ≡ None → o ≡ Some x → ⊥
never_found o x none some = let clash : None ≡ Some x = sym none ∙ some in cc

same_object : (a b : Object) → Some a ≡ Some b → a ≡ b
same_object a b e = cc

pub never_held : (h : ℕ → Option Holder) (rows : List KeptRow) (at : ObjectAt) → index_by number_of at.chunk rows ≡ None → IsHeld at (chunks_in h rows) → ⊥
never_held h rows at none held = never_found (find_object at (chunks_in h rows)) held.object (no_object h rows at none) held.found

pub never_held_in : (h : ℕ → Option Holder) (i : ℕ) (rows : List KeptRow) (at : ObjectAt) (f : IsFound at.chunk rows i) → IsRising number_of rows → bytes_at at.off f.row ≡ None → IsHeld at (chunks_in h rows) → ⊥
never_held_in h i rows at f rise none held =
    never_found (find_object at (chunks_in h rows)) held.object
    (object_in_chunk h i rows f.row at rise f.there f.number ∙ ap (option_map (object_by h f.row.number)) (mapped_none (λ s. 4 * s.pages) (find (starts_at at.off) f.row.bits.objects) none))
    held.found

-- an object of a chunk, with its bytes and its holder
pub record IsHeldBy (h : ℕ → Option Holder) (rows : List KeptRow) (at : ObjectAt) (bytes : ℕ) (holder : Holder) : Type 0 where
  pub object : Object
  pub found : find_object at (chunks_in h rows) ≡ Some object
  pub life : object.life ≡ life_by (Some holder)
  pub size : object.bytes ≡ bytes

pub held_by : (h : ℕ → Option Holder) (pages next i : ℕ) (rows : List KeptRow) (at : ObjectAt) (bytes : ℕ) (holder : Holder) (f : IsFound at.chunk rows i) → IsRising number_of rows → IsKeptRow pages next h f.row
    → IsFoundObject h f.row at.off bytes → h (object_key at.chunk at.off) ≡ Some holder → IsHeldBy h rows at bytes holder
held_by h pages next i rows at bytes holder f rise kept o had =
    let start = (found_span (IsKeptSpan h f.row.number (1024 * pages)) at.off f.row.bits.objects o.span kept.spans_are o.found).1 in
    record {
      object = object_by h f.row.number o.span;
      found = object_in_chunk h i rows f.row at rise f.there f.number ∙ ap (option_map (object_by h f.row.number)) o.found;
      life = ap life_by (ap (λ off. h (object_key f.row.number off)) start ∙ ap (λ n. h (object_key n at.off)) f.number ∙ had);
      size = o.size;
    }

in_hand_is : (holder : Holder) → holder.serial ≡ 0 → life_by (Some holder) ≡ InHand holder.caller
in_hand_is holder none = let test : (holder.serial == 0) ≡ true = grind (arith, nat_tests) in ap (λ b. if b then InHand holder.caller else Lives holder.serial) test

no_serial : (holder : Holder) (caller : ℕ) → life_by (Some holder) ≡ InHand caller → holder.serial ≡ 0
no_serial holder caller hand = elim (cases_eq holder.serial 0) [
  | inl none ↦ none
  | inr some ↦
      let test : (holder.serial == 0) ≡ false = grind (arith, nat_tests) in
      let clash : Lives holder.serial ≡ InHand caller = sym (ap (λ b. if b then InHand holder.caller else Lives holder.serial) test) ∙ hand in
      absurd (never clash)
]
  where
    never : Lives holder.serial ≡ InHand caller → ⊥
    never e = cc

pub held_of : {h : ℕ → Option Holder} {rows : List KeptRow} {at : ObjectAt} {bytes : ℕ} {holder : Holder} → IsHeldBy h rows at bytes holder → bytes ≡ at.bytes → holder.serial ≡ 0 → IsHeld at (chunks_in h rows)
held_of {holder = holder} o same none = record {
  object = o.object;
  found = o.found;
  caller = holder.caller;
  life = o.life ∙ in_hand_is holder none;
  bytes = o.size ∙ same;
}

pub held_known : {h : ℕ → Option Holder} {rows : List KeptRow} {at : ObjectAt} {bytes : ℕ} {holder : Holder} → IsHeldBy h rows at bytes holder → IsHeld at (chunks_in h rows) → (bytes ≡ at.bytes) × (holder.serial ≡ 0)
held_known {holder = holder} o held =
    let same = same_object o.object held.object (sym o.found ∙ held.found) in
    (sym o.size ∙ ap (λ (x : Object). x.bytes) same ∙ held.bytes, no_serial holder held.caller (sym o.life ∙ ap (λ (x : Object). x.life) same ∙ held.life))

-- A page that can become populated.

abbrev pub IsUnusedPage : KeptRow → ℕ → Type 0
IsUnusedPage row page = (slice_get row.populated page ≡ Some false) × (page_is_free row.bits page ≡ true)

same_chunk : (a b : Chunk) → Some a ≡ Some b → a ≡ b
same_chunk a b e = cc

pub never_both : false ≡ true → ⊥
never_both e = cc

pub not_true : (b : Bool) → not b ≡ true → b ≡ false
not_true true e = sym e
not_true false e = refl

pub never_can : (h : ℕ → Option Holder) (pages next_object next_chunk room n page : ℕ) (rows : List KeptRow) → index_by number_of n rows ≡ None → CanPopulate n page (region_by pages next_object next_chunk room (chunks_in h rows)) → ⊥
never_can h pages next_object next_chunk room n page rows none can =
    let clash : None ≡ Some can.row = sym (ap (λ cs. slice_get cs 0) (numbered_none h n rows none)) ∙ can.found in cc

free_page : (h : ℕ → Option Holder) (pages next page : ℕ) (row : KeptRow) → IsKeptRow pages next h row → slice_get row.populated page ≡ Some false → not (list_any (touches page) (objects_by h row.number row.bits.objects)) ≡ page_is_free row.bits page
free_page h pages next page row kept there =
    free_page_in_view h row.number page row.bits (long_spans h row.number (1024 * pages) row.bits.objects kept.spans_are)
    (omega (arith, get_within page row.populated false there, kept.pages_are, kept.bits_are))

pub can_of : (h : ℕ → Option Holder) (pages next next_object next_chunk room n page i : ℕ) (rows : List KeptRow) (f : IsFound n rows i) → IsRising number_of rows → IsKeptRow pages next h f.row → IsUnusedPage f.row page
    → CanPopulate n page (region_by pages next_object next_chunk room (chunks_in h rows))
can_of h pages next next_object next_chunk room n page i rows f rise kept unused = record {
  row = chunk_in h f.row;
  found = ap (λ cs. slice_get cs 0) (numbered_row h n i rows rise f);
  unpopulated = unused.0;
  unused = not_true (list_any (touches page) (objects_by h f.row.number f.row.bits.objects)) (free_page h pages next page f.row kept unused.0 ∙ unused.1);
}

pub can_known : (h : ℕ → Option Holder) (pages next next_object next_chunk room n page i : ℕ) (rows : List KeptRow) (f : IsFound n rows i) → IsRising number_of rows → IsKeptRow pages next h f.row
    → CanPopulate n page (region_by pages next_object next_chunk room (chunks_in h rows)) → IsUnusedPage f.row page
can_known h pages next next_object next_chunk room n page i rows f rise kept can =
    let same : can.row ≡ chunk_in h f.row = same_chunk can.row (chunk_in h f.row) (sym can.found ∙ ap (λ cs. slice_get cs 0) (numbered_row h n i rows rise f)) in
    let there : slice_get f.row.populated page ≡ Some false = ap (λ (c : Chunk). slice_get c.populated page) (sym same) ∙ can.unpopulated in
    (there, sym (free_page h pages next page f.row kept there) ∙ ap not (ap (λ (c : Chunk). list_any (touches page) c.objects) (sym same) ∙ can.unused))

-- whether the set of pages has the page, of so many
pub page_of : (pages : ℕ) (set : PageSet) (page : ℕ) → page < pages → slice_get (pages_as pages set) page ≡ Some (has_page set page)
page_of pages set page low = slice_get-tabulated (has_page set) pages page low

pub page_within : (pages : ℕ) (set : PageSet) (page : ℕ) (b : Bool) → slice_get (pages_as pages set) page ≡ Some b → page < pages
page_within pages set page b there = omega (arith, get_within page (pages_as pages set) b there, length-tabulated (has_page set) pages 0)

pub not_populated : (pages : ℕ) (set : PageSet) (page : ℕ) → slice_get (pages_as pages set) page ≡ Some false → has_page set page ≡ false
not_populated pages set page there = same (has_page set page) (sym (page_of pages set page (page_within pages set page false there)) ∙ there)
  where
    same : (b : Bool) → Some b ≡ Some false → b ≡ false
    same b e = cc

pub page_below : (page pages : ℕ) → nat_lt page pages ≡ true → page < pages
page_below page pages test = grind (arith, nat_tests)

pub whole_page : (m : ChunkMap) (page : ℕ) (hint : Hint) → hint ≡ hint_of (block_bits (taken_bits m) page) → page_is_free m page ≡ true → hint.left ≡ 1024
whole_page m page hint is free = elim (cases_eq hint.left 1024) [
  | inl whole ↦ whole
  | inr part ↦ absurd (let clash : false ≡ true = sym (left_is_taken m page hint is part) ∙ free in cc)
]
