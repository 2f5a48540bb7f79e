-- Chunks have as many pages as the units of a side, so its clauses hold of any machine whose units have as many.
use Rattle.std.proofs.Common.{◌≡◌, ℕ, suc, ◌≤◌, true, false, ◌==◌, List, [], ◌∷◌, length, map, flat_map, filter, slice_get, Option, Some, refl, sym, ◌∙◌, subst}
use Rattle.std.proofs.lemmas.List.Elements.{All-nil, All-cons, All-head}
use Rattle.vm_model.specs.Setup.{Setup}
use Rattle.vm_model.specs.PlainMap.{Chunk}
use Rattle.vm_model.specs.Chunks.{placement, plain_fit, atomic_fit, slot, empty_count}
use Rattle.vm_model.specs.Tables.{chunk_row, chunk_audit, hint_rows}
use Rattle.chunk_slots.specs.declared.holders.Holder.{Holder}
use Rattle.chunk_slots.specs.declared.slots.InSlot.{InSlot}
use Rattle.chunk_slots.specs.KeptChunks.{KeptRow}
use Rattle.chunk_slots.specs.KeptChunkSides.{chunk_in, chunks_in, Each, IsKeptRow, AreKept}
use Rattle.chunk_slots.specs.ChunkRegion.{ChunkRegion, unit_of, setup_of, AreOfUnits, place_for, chunk_table, audit_table, hint_table, numbers_in_slot}

abbrev has_pages : ℕ → Chunk → Type 0
has_pages pages h = length h.populated ≡ pages

-- what is kept of chunks tells how many pages they have
pub units_kept : (pages next : ℕ) (holders : ℕ → Option Holder) (rows : List KeptRow) → Each (IsKeptRow pages next holders) rows → AreOfUnits pages (chunks_in holders rows)
units_kept pages next holders [] each = All-nil (has_pages pages)
units_kept pages next holders (row ∷ rows) each = All-cons (has_pages pages) (chunk_in holders row) (chunks_in holders rows) each.0.pages_are (units_kept pages next holders rows each.1)

-- where all chunks have so many pages, so many may be kept for the units
pub kept_again : (pages pages' : ℕ) (rows : List KeptRow) (slots : List InSlot) (holders : ℕ → Option Holder) (empty next_object next_chunk spare capacity room : ℕ)
    → AreKept pages rows slots holders empty next_object next_chunk spare capacity room → 8 ≤ pages' → pages' ≤ 64 → AreOfUnits pages' (chunks_in holders rows) → AreKept pages' rows slots holders empty next_object next_chunk spare capacity room
kept_again pages pages' [] slots holders empty next_object next_chunk spare capacity room kept least most units = record {
  least = least;
  most = most;
  numbers = kept.numbers;
  rows_are = tt;
  slots_are = kept.slots_are;
  slots_rise = kept.slots_rise;
  slots_room = kept.slots_room;
  empty_is = kept.empty_is;
  few = kept.few;
  room = kept.room;
  serials = kept.serials;
  given = kept.given;
}
kept_again pages pages' (row ∷ rows) slots holders empty next_object next_chunk spare capacity room kept least most units =
    let same : pages ≡ pages' = sym kept.rows_are.0.pages_are ∙ All-head (has_pages pages') (chunk_in holders row) (chunks_in holders rows) units in
    subst (λ n. AreKept n (row ∷ rows) slots holders empty next_object next_chunk spare capacity room) same kept

-- a list each of whose chunks has so many pages
pub of_units : (pages : ℕ) (chunks : List Chunk) → ((i : ℕ) (h : Chunk) → slice_get chunks i ≡ Some h → length h.populated ≡ pages) → AreOfUnits pages chunks
of_units pages [] each = All-nil (has_pages pages)
of_units pages (h ∷ chunks) each = All-cons (has_pages pages) h chunks (each 0 h refl) (of_units pages chunks (λ i k there. each (suc i) k there))

-- A side and a machine whose units have as many pages as its chunks.
module _ (c : Setup) (r : ChunkRegion) (own : AreOfUnits r.unit_pages r.chunks) (units : AreOfUnits c.unit_pages r.chunks) where
  -- without a chunk the pages of a unit tell nothing, and with one they are the same
  pub by_pages : {X : Type 0} (told : ℕ → List Chunk → X) → ((p q : ℕ) → told p [] ≡ told q []) → told r.unit_pages r.chunks ≡ told c.unit_pages r.chunks
  by_pages told nothing = by r.chunks own units
    where
      by : (chunks : List Chunk) → AreOfUnits r.unit_pages chunks → AreOfUnits c.unit_pages chunks → told r.unit_pages chunks ≡ told c.unit_pages chunks
      by [] first second = nothing r.unit_pages c.unit_pages
      by (h ∷ chunks) first second =
          let same : r.unit_pages ≡ c.unit_pages = sym (All-head (has_pages r.unit_pages) h chunks first) ∙ All-head (has_pages c.unit_pages) h chunks second in
          subst (λ n. told r.unit_pages (h ∷ chunks) ≡ told n (h ∷ chunks)) same refl

  pub placed_plainly : (bytes align : ℕ) → place_for false bytes align r ≡ placement c (plain_fit c bytes align) bytes r.chunks
  placed_plainly bytes align = by_pages (λ p chunks. placement (unit_of p) (plain_fit (unit_of p) bytes align) bytes chunks) (λ p q. refl)

  pub placed_atomically : (bytes align : ℕ) → place_for true bytes align r ≡ placement c (atomic_fit c bytes align) bytes r.chunks
  placed_atomically bytes align = by_pages (λ p chunks. placement (unit_of p) (atomic_fit (unit_of p) bytes align) bytes chunks) (λ p q. refl)

  pub in_slot_of_machine : (n : ℕ) → numbers_in_slot n r ≡ map (λ (h : Chunk). h.number) (filter (λ h. slot c h == n) r.chunks)
  in_slot_of_machine n = by_pages (λ p chunks. map (λ (h : Chunk). h.number) (filter (λ h. slot (unit_of p) h == n) chunks)) (λ p q. refl)

  pub empty_of_machine : empty_count (setup_of r) r.chunks ≡ empty_count c r.chunks
  empty_of_machine = by_pages (λ p chunks. empty_count (unit_of p) chunks) (λ p q. refl)

  pub rows_of_machine : chunk_table r ≡ map (chunk_row c) r.chunks
  rows_of_machine = by_pages (λ p chunks. map (chunk_row (unit_of p)) chunks) (λ p q. refl)

  pub audits_of_machine : audit_table r ≡ map (chunk_audit c) r.chunks
  audits_of_machine = by_pages (λ p chunks. map (chunk_audit (unit_of p)) chunks) (λ p q. refl)

  pub hints_of_machine : hint_table r ≡ flat_map (hint_rows c) r.chunks
  hints_of_machine = by_pages (λ p chunks. flat_map (hint_rows (unit_of p)) chunks) (λ p q. refl)
