-- How a side keeps its blocks by their starts.
use Rattle.std.specs.Prelude.{ℕ, ◌≡◌, ◌+◌, ◌≤◌, ◌<◌, Bool, false, nat_lt, nat_le, List, [], ◌∷◌, map, filter, All, IsSome, Option, Some, None}
use Rattle.std.specs.Map.{values_of, lookup, remove_entry}
use Rattle.std.specs.Ordering.{nat_cmp}
use Rattle.std.specs.BTreeMap.{is_at}
use Rattle.vm_model.specs.Space.{sort_by}
use Rattle.vm_model.specs.Rules.{IsPower}
use Rattle.vm_model.specs.PlainMap.{Block}
use Rattle.vm_model.specs.Blocks.{parts_size, free_of, is_spent, is_fragmented}
use Rattle.map_blocks.specs.KeptBlocks.{KeptRow, ArePacked}
use Rattle.map_blocks.specs.BlockRows.{sized}

-- blocks in the order in which they were added
abbrev pub by_number : List KeptRow → List KeptRow
by_number rows = sort_by (λ (r : KeptRow). r.number) rows

abbrev pub blocks_in : List KeptRow → List Block
blocks_in rows = map (λ (r : KeptRow). r.block) (by_number rows)

-- a block of so many pages of a processor, one of the first that were added: its parts lie one behind the other, and it isn't spent
pub record IsOwn (cpu pages added : ℕ) (r : KeptRow) : Type 0 where
  pub size : r.pages ≡ pages
  pub own : r.block.cpu ≡ cpu
  pub early : r.number < added
  pub packed : ArePacked 0 r.block.parts
  pub within : parts_size r.block.parts ≤ pages
  pub unspent : is_spent (sized pages) r.block ≡ false

-- each entry's key is the start of its block, which begins from low on, and each begins at the end of the one before or behind it
abbrev pub AreApartFrom : (cpu pages added : ℕ) → (low : ℕ) → List (ℕ × KeptRow) → Type 0
AreApartFrom cpu pages added low [] = Unit {0}
AreApartFrom cpu pages added low (e ∷ entries) = (e.0 ≡ e.1.block.start) × (low ≤ e.0) × (e.0 + pages ≤ 1048576) × IsOwn cpu pages added e.1 × AreApartFrom cpu pages added (e.0 + pages) entries

-- the starts of the blocks that have room, in the order in which they were added
abbrev pub queued : (pages : ℕ) → List KeptRow → List ℕ
queued pages rows = map (λ (r : KeptRow). r.block.start) (filter (λ (r : KeptRow). nat_lt 0 (free_of (sized pages) r.block)) (by_number rows))

-- the block at a start
abbrev pub block_at : List (ℕ × KeptRow) → ℕ → Option KeptRow
block_at entries start = lookup (is_at (nat_cmp start)) entries

-- there is a block at each of the starts
abbrev pub AreKnown : List (ℕ × KeptRow) → List ℕ → Type 0
AreKnown entries starts = All (λ start. IsSome (block_at entries start)) starts

-- whether the block at a start has room for so many pages
abbrev pub gives_room : (room : ℕ) → Option KeptRow → Bool
gives_room room None = false
gives_room room (Some r) = nat_le room (free_of (sized r.pages) r.block)

abbrev pub has_room : (room : ℕ) → List (ℕ × KeptRow) → ℕ → Bool
has_room room entries start = gives_room room (block_at entries start)

-- whether the block at a start is fragmented
abbrev pub is_fragment : Option KeptRow → Bool
is_fragment None = false
is_fragment (Some r) = is_fragmented (sized r.pages) r.block

abbrev pub is_broken : List (ℕ × KeptRow) → ℕ → Bool
is_broken entries start = is_fragment (block_at entries start)

-- without the blocks at these starts
abbrev pub without_all : List ℕ → List (ℕ × KeptRow) → List (ℕ × KeptRow)
without_all [] entries = entries
without_all (k ∷ starts) entries = without_all starts (remove_entry (is_at (nat_cmp k)) entries)

pub record AreKept (cpu pages : ℕ) (entries : List (ℕ × KeptRow)) (queue : List ℕ) (added : ℕ) : Type 0 where
  pub apart : AreApartFrom cpu pages added 0 entries
  pub queue_is : queue ≡ queued pages (values_of entries)
  pub power : IsPower pages
  pub least : 8 ≤ pages
  pub most : pages ≤ 1024
