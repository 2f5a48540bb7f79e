-- Worked traces of blocks: parts, spent and fragmented blocks, dirty ranges.
use Rattle.std.specs.Prelude.{◌≡◌, [], ◌∷◌}
use Rattle.vm_model.specs.declared.areas.AreaKind.TheVariants as kind
use Rattle.vm_model.specs.declared.calls.Call.TheVariants.{Vmalloc, MapRam, UnmapRam, UnmapAliases}
use Rattle.vm_model.specs.declared.calls.Reply.TheVariants as reply
use Rattle.vm_model.specs.Space.{span}
use Rattle.worked_rows.specs.Worked.{header, own, tables, nothing, at, entry, area, block_row, part_row}

-- a block whose parts have all ended waits
abbrev pub ASpentBlockWaits : Type 0
ASpentBlockWaits = tables (record (header 64) { block_pages = 8; part_limit = 4 }) (MapRam 0 3 ∷ MapRam 0 3 ∷ MapRam 0 3 ∷ UnmapRam (own 1) ∷ UnmapRam (own 2) ∷ []) ([] ∷ []) ([])
    ≡ record nothing {
      entries = entry 0 1 (at 0) 6 ∷ entry 0 2 (at 4) 9 ∷ entry 0 3 (at 8) 15 ∷ entry 0 4 reply.Done 18 ∷ entry 0 5 reply.Done 23 ∷ [];
      events = 23;
      frames = 13;
      mapped = 3;
      stale = 6;
      free = span 16 48 ∷ [];
      areas = area 8 8 (kind.Block 0) 0 2 ∷ [];
      waiting = span 0 8 ∷ [];
      blocks = block_row 8 8 0 4 0 0 0 ∷ [];
      parts = part_row (span 8 3) 0 0 3 ∷ [];
      tree_blocks = 1;
      tree_largest = 48;
      plain_largest = 48;
    }

-- a purge retires a block whose given pages have all ended
abbrev pub AFragmentedBlockIsRetired : Type 0
AFragmentedBlockIsRetired = tables (record (header 64) { block_pages = 8; part_limit = 4 }) (MapRam 0 4 ∷ UnmapRam (own 1) ∷ UnmapAliases ∷ []) ([] ∷ []) ([])
    ≡ record nothing {
      entries = entry 0 1 (at 0) 6 ∷ entry 0 2 reply.Done 9 ∷ entry 0 3 reply.Done 18 ∷ [];
      events = 18;
      frames = 16;
      mapped = 0;
      stale = 0;
      free = span 0 64 ∷ [];
      tree_blocks = 1;
      tree_largest = 64;
      plain_largest = 64;
    }

-- more pages than the part limit are an area of their own
abbrev pub ALargeMapIsAnArea : Type 0
ALargeMapIsAnArea = tables (record (header 64) { block_pages = 8; part_limit = 4 }) (MapRam 0 5 ∷ UnmapRam (own 1) ∷ []) ([] ∷ []) ([])
    ≡ record nothing {
      entries = entry 0 1 (at 0) 3 ∷ entry 0 2 reply.Done 6 ∷ [];
      events = 6;
      frames = 16;
      mapped = 0;
      stale = 5;
      free = span 5 59 ∷ [];
      waiting = span 0 5 ∷ [];
      tree_blocks = 1;
      tree_largest = 59;
      plain_largest = 59;
    }

-- a part that finds no frames ends, its block is spent then and waits
abbrev pub NoFramesSpendsABlock : Type 0
NoFramesSpendsABlock = tables (record (header 64) { frames = 4; block_pages = 8; part_limit = 4 }) (MapRam 0 4 ∷ UnmapRam (own 1) ∷ Vmalloc 12288 1 ∷ MapRam 0 3 ∷ []) ([] ∷ []) ([])
    ≡ record nothing {
      entries = entry 0 1 (at 0) 6 ∷ entry 0 2 reply.Done 9 ∷ entry 0 3 (at 8) 12 ∷ entry 0 4 reply.NoFrames 17 ∷ [];
      events = 17;
      frames = 1;
      mapped = 3;
      stale = 4;
      free = span 12 52 ∷ [];
      areas = area 8 4 kind.Vmalloc 0 2 ∷ [];
      waiting = span 0 8 ∷ [];
      tree_blocks = 1;
      tree_largest = 52;
      plain_largest = 52;
    }

-- the dirty range of one processor of two is flushed, and its block stays
abbrev pub DirtyRangesAreFlushed : Type 0
DirtyRangesAreFlushed = tables (record (header 64) { block_pages = 8; part_limit = 4; groups = span 0 16 ∷ []; units = 0 ∷ 8 ∷ [] }) (MapRam 1 3 ∷ MapRam 1 1 ∷ UnmapRam (own 1) ∷ UnmapAliases ∷ []) ([] ∷ []) ([])
    ≡ record nothing {
      entries = entry 0 1 (at 0) 6 ∷ entry 0 2 (at 4) 9 ∷ entry 0 3 reply.Done 12 ∷ entry 0 4 reply.Done 20 ∷ [];
      events = 20;
      frames = 15;
      mapped = 1;
      stale = 0;
      free = span 8 56 ∷ [];
      areas = area 0 8 (kind.Block 1) 0 1 ∷ [];
      blocks = block_row 0 8 1 3 4 0 4 ∷ [];
      parts = part_row (span 4 1) 1 0 2 ∷ [];
      tree_blocks = 1;
      tree_largest = 56;
      plain_largest = 56;
    }
