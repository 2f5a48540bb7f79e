-- The tables of chunks, from what is kept of each.
use Rattle.std.proofs.Common.{◌≡◌, ℕ, Bool, List, [], ◌∷◌, ◌++◌, length, map, flat_map, drop, ◌≤◌, Option, refl, ap, sym, ◌∙◌, append-nil}
use Rattle.std.proofs.lemmas.List.{drop_all}
use Rattle.vm_model.specs.declared.rows.ChunkAudit.{ChunkAudit}
use Rattle.vm_model.specs.Space.{count_from, longest}
use Rattle.vm_model.specs.Bits.{slot_of}
use Rattle.vm_model.specs.Chunks.{empty_pages}
use Rattle.vm_model.specs.Tables.{chunk_row, chunk_audit, hint_row, hint_rows}
use Rattle.chunk_bitmaps.specs.ChunkMap.{taken_bits}
use Rattle.chunk_slots.specs.declared.holders.Holder.{Holder}
use Rattle.chunk_slots.specs.KeptChunks.{KeptRow, row_of, audit_of, hints_of}
use Rattle.chunk_slots.specs.KeptChunkSides.{chunk_in, chunks_in, Each, IsKeptRow}
use Rattle.chunk_slots.specs.ChunkRegion.{unit_of}
use Rattle.chunk_slots.proofs.ChunkViews.{bits_in_view, empty_in_view, row_in_view}

-- a pass over all of a list is at its end
pub finished : {X Y : Type 0} (f : List X → List Y) (rows : List Y) (items : List X) (index : ℕ) → f [] ≡ [] → length items ≤ index → rows ++ f (drop index items) ≡ f items → rows ≡ f items
finished f rows items index nothing past before = sym (append-nil rows) ∙ ap (λ ys. rows ++ ys) (sym (ap f (drop_all index items past) ∙ nothing)) ∙ before

abbrev audit_by : ℕ → List Bool → ℕ → ChunkAudit
audit_by number bits empty = record { chunk = number; run_start = (longest bits).start; run = (longest bits).pages; slot = slot_of bits; empty = empty }

module _ (pages next : ℕ) (holders : ℕ → Option Holder) where
  audit_in_view : (row : KeptRow) → IsKeptRow pages next holders row → chunk_audit (unit_of pages) (chunk_in holders row) ≡ audit_of row
  audit_in_view row kept =
      ap (λ bits. audit_by row.number bits (length (empty_pages (unit_of pages) (chunk_in holders row)))) (bits_in_view pages holders row kept.bits_are)
      ∙ ap (λ ps. audit_by row.number (taken_bits row.bits) (length ps)) (empty_in_view pages next holders row kept)

  hints_in_view : (row : KeptRow) → IsKeptRow pages next holders row → hint_rows (unit_of pages) (chunk_in holders row) ≡ hints_of row
  hints_in_view row kept =
      ap (λ bits. map (hint_row row.number bits) (count_from pages 0)) (bits_in_view pages holders row kept.bits_are)
      ∙ ap (λ n. map (hint_row row.number (taken_bits row.bits)) (count_from n 0)) (sym kept.pages_are)

  pub rows_told : (rows : List KeptRow) → Each (IsKeptRow pages next holders) rows → map row_of rows ≡ map (chunk_row (unit_of pages)) (chunks_in holders rows)
  rows_told [] kept = refl
  rows_told (row ∷ rows) kept = ap (λ r. r ∷ map row_of rows) (sym (row_in_view pages next holders row kept.0)) ∙ ap (λ rs. chunk_row (unit_of pages) (chunk_in holders row) ∷ rs) (rows_told rows kept.1)

  pub audits_told : (rows : List KeptRow) → Each (IsKeptRow pages next holders) rows → map audit_of rows ≡ map (chunk_audit (unit_of pages)) (chunks_in holders rows)
  audits_told [] kept = refl
  audits_told (row ∷ rows) kept = ap (λ r. r ∷ map audit_of rows) (sym (audit_in_view row kept.0)) ∙ ap (λ rs. chunk_audit (unit_of pages) (chunk_in holders row) ∷ rs) (audits_told rows kept.1)

  pub hints_told : (rows : List KeptRow) → Each (IsKeptRow pages next holders) rows → flat_map hints_of rows ≡ flat_map (hint_rows (unit_of pages)) (chunks_in holders rows)
  hints_told [] kept = refl
  hints_told (row ∷ rows) kept = ap (λ r. r ++ flat_map hints_of rows) (sym (hints_in_view row kept.0)) ∙ ap (λ rs. hint_rows (unit_of pages) (chunk_in holders row) ++ rs) (hints_told rows kept.1)
