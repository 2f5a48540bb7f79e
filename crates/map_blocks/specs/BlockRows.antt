-- What the side of one processor's blocks keeps, and how it changes.
use Rattle.std.specs.Prelude.{ℕ, ◌+◌, ◌≡◌, Bool, true, false, not, ◌&&◌, ◌==◌, List, [], ◌∷◌, ◌++◌, map, filter, flat_map, Option, Some}
use Rattle.vm_model.specs.declared.rows.BlockRow.{BlockRow}
use Rattle.vm_model.specs.declared.rows.PartRow.{PartRow}
use Rattle.vm_model.specs.Space.{holds, covers, is_among, sort_by}
use Rattle.vm_model.specs.declared.areas.Span.{Span}
use Rattle.vm_model.specs.Setup.{Setup}
use Rattle.vm_model.specs.PlainMap.{Block, InHand, Lives, Ended}
use Rattle.vm_model.specs.Blocks as model
use Rattle.vm_model.specs.Blocks.{PartAt}
use Rattle.vm_model.specs.Tables.{block_row, part_rows}
use Rattle.map_blocks.specs.BlockSpans.{block_span}
use Rattle.map_blocks.specs.declared.part.Part.{Part}

-- one processor's blocks of so many pages each, in the order in which they were added, and the serial of its next part
pub record BlockRows : Type 0 where
  pub cpu : ℕ
  pub pages : ℕ
  pub blocks : List Block
  pub next : ℕ

-- a machine whose blocks have so many pages; blocks read nothing else of it
abbrev pub sized : ℕ → Setup
sized pages = record { space = 0; frames = 0; lazy = 0; block_pages = pages; part_limit = 0; unit_pages = 0; atom = 0; groups = []; units = [] }

-- where a part of a processor lies
abbrev pub at_of : (cpu : ℕ) → Part → PartAt
at_of cpu part = record { cpu = cpu; block = part.block; offset = part.offset; pages = part.pages }

-- where the next part of so many pages is cut
abbrev pub part_to_cut : (pages : ℕ) → BlockRows → Option PartAt
part_to_cut pages rows = model.part_to_cut (sized rows.pages) rows.cpu pages rows.blocks

-- the live parts with this first page and serial
abbrev pub named_parts : (page serial : ℕ) → BlockRows → List PartAt
named_parts page serial rows = model.named_parts rows.cpu page serial rows.blocks

-- the starts of the fragmented blocks
abbrev pub fragmented : BlockRows → List ℕ
fragmented rows = model.fragmented (sized rows.pages) rows.cpu rows.blocks

-- some caller has the part in hand
abbrev pub IsHeld : PartAt → List Block → Type 0
IsHeld at blocks = (caller : ℕ) × (model.life_of_part at blocks ≡ Some (InHand caller))

-- with a part cut from a block, in a caller's hand
abbrev pub with_cut : (caller : ℕ) → PartAt → BlockRows → BlockRows
with_cut caller at rows = record rows { blocks = model.change_block at.block (model.with_part caller at) rows.blocks }

-- with a new last block, of which a caller has the first part in hand
abbrev pub with_block : (caller : ℕ) → PartAt → BlockRows → BlockRows
with_block caller at rows = record rows { blocks = rows.blocks ++ model.with_part caller at (record { start = at.block; cpu = at.cpu; parts = [] }) ∷ [] }

-- with a part that lives under the next serial
abbrev pub with_settled : PartAt → BlockRows → BlockRows
with_settled at rows = record rows { blocks = model.set_life at (Lives rows.next) rows.blocks; next = rows.next + 1 }

-- with a part in a caller's hand
abbrev pub with_held : (caller : ℕ) → PartAt → BlockRows → BlockRows
with_held caller at rows = record rows { blocks = model.set_life at (InHand caller) rows.blocks }

-- with a part that has ended, without its block where that is spent then
abbrev pub with_ended : PartAt → BlockRows → BlockRows
with_ended at rows = record rows { blocks = model.without_spent (sized rows.pages) (model.set_life at Ended rows.blocks) }

-- whether the end of a part spends its block
abbrev pub spends : PartAt → BlockRows → Bool
spends at rows = model.spends (sized rows.pages) at (model.set_life at Ended rows.blocks)

-- without the blocks with these starts
abbrev pub without_blocks : List ℕ → BlockRows → BlockRows
without_blocks gone rows = record rows { blocks = filter (λ (b : Block). not ((b.cpu == rows.cpu) && is_among gone b.start)) rows.blocks }

-- the rows of the blocks, and of the live parts, by rising start
abbrev pub block_table : BlockRows → List BlockRow
block_table rows = sort_by (λ (b : BlockRow). b.start) (map (block_row (sized rows.pages)) rows.blocks)

abbrev pub part_table : BlockRows → List PartRow
part_table rows = sort_by (λ (p : PartRow). p.span.start) (flat_map part_rows rows.blocks)

-- no page of a block is in an ended part
abbrev pub IsClean : Block → Type 0
IsClean b = model.dirty_of b ≡ 0

-- no block has a page of the span
abbrev pub IsUnused : BlockRows → Span → Type 0
IsUnused rows s = (page : ℕ) → holds s page ≡ true → covers (map (block_span rows.pages) rows.blocks) page ≡ false
