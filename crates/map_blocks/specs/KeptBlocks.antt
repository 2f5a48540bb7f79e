-- A block as its side keeps it.
use Rattle.std.specs.Prelude.{ℕ, ◌≡◌, ◌+◌, ◌≤◌, ◌==◌, List, [], ◌∷◌, find, Option, Some, option_map}
use Rattle.vm_model.specs.declared.areas.Span.{Span}
use Rattle.vm_model.specs.PlainMap.{Block, Part, Life, InHand}
use Rattle.vm_model.specs.Blocks as model
use Rattle.vm_model.specs.Blocks.{PartAt, size_of, parts_size, dirty_of, range_of}

-- a block of so many pages, and its number among the blocks that were added
pub record KeptRow : Type 0 where
  pub number : ℕ
  pub pages : ℕ
  pub block : Block

-- each part has a page, and begins where the one before ends, the first at an offset
abbrev pub ArePacked : ℕ → List Part → Type 0
ArePacked offset [] = Unit {0}
ArePacked offset (p ∷ parts) = (p.offset ≡ offset) × (1 ≤ p.pages) × (p.pages ≤ size_of p) × ArePacked (offset + size_of p) parts

-- the numbers beside a block's parts are those of the parts, and there is room for a part on each page
pub record IsKept (block : Block) (pages free dirty : ℕ) (range : Option Span) (room : ℕ) : Type 0 where
  pub packed : ArePacked 0 block.parts
  pub given : free + parts_size block.parts ≡ pages
  pub ended : dirty ≡ dirty_of block
  pub hull : range ≡ range_of block
  pub reserved : pages ≤ room
  pub least : 1 ≤ pages
  pub most : pages ≤ 1024
  pub end : block.start + pages ≤ 1048576

-- the part at an offset
abbrev pub part_in : ℕ → Block → Option Part
part_in offset b = find (λ (p : Part). p.offset == offset) b.parts

-- a caller has the part at an offset in hand
abbrev pub IsInHand : ℕ → Block → Type 0
IsInHand offset b = (caller : ℕ) × (option_map (λ (p : Part). p.life) (part_in offset b) ≡ Some (InHand caller))

-- with the life of the part at an offset
abbrev pub with_life_at : ℕ → Life → KeptRow → KeptRow
with_life_at offset life row = record row { block = model.with_life (record { cpu = row.block.cpu; block = row.block.start; offset = offset; pages = 0 }) life row.block }

-- the parts at an offset that live under a serial
abbrev pub parts_named : (offset serial : ℕ) → Block → List PartAt
parts_named offset serial b = model.named_in (b.start + offset) serial b

-- a part of a block, by its offset and pages
abbrev pub part_of : (offset pages : ℕ) → Block → PartAt
part_of offset pages b = record { cpu = b.cpu; block = b.start; offset = offset; pages = pages }
