-- Worked traces of objects: chunks, offsets, refusals, words.
use Rattle.std.specs.Prelude.{◌≡◌, pos, negsuc, [], ◌∷◌}
use Rattle.vm_model.specs.declared.areas.AreaKind.TheVariants as kind
use Rattle.vm_model.specs.declared.calls.Call.TheVariants.{Vmalloc, AllocPercpu, FreePercpu, Add, Sum, Balance}
use Rattle.vm_model.specs.declared.calls.Reply.TheVariants as reply
use Rattle.vm_model.specs.Space.{span}
use Rattle.worked_rows.specs.Worked.{header, own, tables, nothing, at, at_byte, entry, area, chunk_row, object_row}

-- the first chunk, with two groups
abbrev pub TwoGroups : Type 0
TwoGroups = tables (record (header 64) { groups = span 0 8 ∷ span 16 8 ∷ []; units = 0 ∷ 16 ∷ [] }) (AllocPercpu 8 8 ∷ []) ([] ∷ []) ([])
    ≡ record nothing {
      entries = entry 0 1 (at 40) 8 ∷ [];
      events = 8;
      frames = 14;
      mapped = 2;
      stale = 0;
      free = span 0 40 ∷ span 48 8 ∷ [];
      areas = area 40 8 (kind.Chunk 0 0) 0 1 ∷ area 56 8 (kind.Chunk 0 1) 0 2 ∷ [];
      chunks = chunk_row 0 40 12 32760 1 0 2 8190 ∷ [];
      objects = object_row 0 0 8 0 1 ∷ [];
      tree_blocks = 2;
      tree_largest = 40;
      plain_largest = 40;
    }

-- the lowest aligned offsets
abbrev pub OffsetsInAChunk : Type 0
OffsetsInAChunk = tables (header 64) (AllocPercpu 8 8 ∷ AllocPercpu 4 4 ∷ AllocPercpu 8 8 ∷ AllocPercpu 4 4 ∷ []) ([] ∷ []) ([])
    ≡ record nothing {
      entries = entry 0 1 (at 56) 8 ∷ entry 0 2 (at_byte 229384) 13 ∷ entry 0 3 (at_byte 229392) 18 ∷ entry 0 4 (at_byte 229388) 23 ∷ [];
      events = 23;
      frames = 15;
      mapped = 1;
      stale = 0;
      free = span 0 56 ∷ [];
      areas = area 56 8 (kind.Chunk 0 0) 0 1 ∷ [];
      chunks = chunk_row 0 56 12 32744 1 0 6 8186 ∷ [];
      objects = object_row 0 0 8 0 1 ∷ object_row 0 8 4 0 2 ∷ object_row 0 12 4 0 4 ∷ object_row 0 16 8 0 3 ∷ [];
      tree_blocks = 1;
      tree_largest = 56;
      plain_largest = 56;
    }

-- an object of a whole unit, refusals, and a second chunk
abbrev pub ObjectsOfAWholeUnit : Type 0
ObjectsOfAWholeUnit = tables (header 64) (AllocPercpu 32768 4 ∷ AllocPercpu 32769 4 ∷ AllocPercpu 8 8192 ∷ AllocPercpu 0 4 ∷ AllocPercpu 8 3 ∷ []) ([] ∷ []) ([])
    ≡ record nothing {
      entries = entry 0 1 (at 56) 8 ∷ entry 0 2 reply.BadSize 9 ∷ entry 0 3 reply.BadAlign 10 ∷ entry 0 4 reply.BadSize 11 ∷ entry 0 5 (at 48) 19 ∷ [];
      events = 19;
      frames = 7;
      mapped = 9;
      stale = 0;
      free = span 0 48 ∷ [];
      areas = area 48 8 (kind.Chunk 1 0) 0 2 ∷ area 56 8 (kind.Chunk 0 0) 0 1 ∷ [];
      chunks = chunk_row 0 56 0 0 8 0 0 0 ∷ chunk_row 1 48 12 32760 1 0 2 8190 ∷ [];
      objects = object_row 0 0 32768 0 1 ∷ object_row 1 0 8 0 2 ∷ [];
      tree_blocks = 1;
      tree_largest = 48;
      plain_largest = 48;
    }

-- a new chunk whose object finds too few frames
abbrev pub NoFramesForAChunk : Type 0
NoFramesForAChunk = tables (record (header 64) { frames = 3; groups = span 0 16 ∷ []; units = 0 ∷ 8 ∷ [] }) (AllocPercpu 8192 4 ∷ []) ([] ∷ []) ([])
    ≡ record nothing {
      entries = entry 0 1 reply.NoFrames 8 ∷ [];
      events = 8;
      frames = 3;
      mapped = 0;
      stale = 0;
      free = span 0 48 ∷ [];
      areas = area 48 16 (kind.Chunk 0 0) 0 1 ∷ [];
      chunks = chunk_row 0 48 15 32768 0 0 0 8192 ∷ [];
      tree_blocks = 1;
      tree_largest = 48;
      plain_largest = 48;
    }

-- a new chunk for which no base is free
abbrev pub NoSpaceForAChunk : Type 0
NoSpaceForAChunk = tables (header 16) (Vmalloc 28672 8192 ∷ Vmalloc 4096 1 ∷ AllocPercpu 8 8 ∷ Balance ∷ []) ([] ∷ []) ([])
    ≡ record nothing {
      entries = entry 0 1 (at 0) 3 ∷ entry 0 2 (at 8) 6 ∷ entry 0 3 reply.NoSpace 15 ∷ entry 0 4 (reply.Count 0) 19 ∷ [];
      events = 19;
      frames = 8;
      mapped = 8;
      stale = 0;
      free = span 10 6 ∷ [];
      areas = area 0 8 kind.Vmalloc 0 1 ∷ area 8 2 kind.Vmalloc 0 2 ∷ [];
      tree_blocks = 1;
      tree_largest = 6;
      plain_largest = 6;
    }

-- two units to an allocation of 32 pages, so 16 pages a unit
abbrev pub UnitsThatShareAnAllocation : Type 0
UnitsThatShareAnAllocation = tables (record (header 128) { unit_pages = 16; atom = 32; groups = span 0 96 ∷ []; units = 0 ∷ 16 ∷ 32 ∷ 48 ∷ 64 ∷ [] }) (AllocPercpu 4 4 ∷ Add (own 1) 4 0 (pos 7) ∷ Sum (own 1) 0 ∷ []) ([] ∷ []) ([])
    ≡ record nothing {
      entries = entry 0 1 (at 32) 8 ∷ entry 0 2 reply.Done 9 ∷ entry 0 3 (reply.Sum (pos 7)) 10 ∷ [];
      events = 10;
      frames = 11;
      mapped = 5;
      stale = 0;
      free = span 0 32 ∷ [];
      areas = area 32 96 (kind.Chunk 0 0) 0 1 ∷ [];
      chunks = chunk_row 0 32 13 65532 1 0 1 16383 ∷ [];
      objects = object_row 0 0 4 0 1 ∷ [];
      tree_blocks = 1;
      tree_largest = 32;
      plain_largest = 32;
    }

-- amounts whose sum is below the 32 bits of each
abbrev pub ASumBelowThirtyTwoBits : Type 0
ASumBelowThirtyTwoBits = tables (header 64) (AllocPercpu 4 4 ∷ Add (own 1) 0 0 (negsuc 2147483647) ∷ Add (own 1) 0 0 (negsuc 2147483647) ∷ Sum (own 1) 0 ∷ []) ([] ∷ []) ([])
    ≡ record nothing {
      entries = entry 0 1 (at 56) 8 ∷ entry 0 2 reply.Done 9 ∷ entry 0 3 reply.Done 10 ∷ entry 0 4 (reply.Sum (negsuc 4294967295)) 11 ∷ [];
      events = 11;
      frames = 15;
      mapped = 1;
      stale = 0;
      free = span 0 56 ∷ [];
      areas = area 56 8 (kind.Chunk 0 0) 0 1 ∷ [];
      chunks = chunk_row 0 56 12 32764 1 0 1 8191 ∷ [];
      objects = object_row 0 0 4 0 1 ∷ [];
      tree_blocks = 1;
      tree_largest = 56;
      plain_largest = 56;
    }

-- words that are added to and summed, and are 0 in a new object
abbrev pub WordsOfAnObject : Type 0
WordsOfAnObject = tables (record (header 64) { groups = span 0 16 ∷ []; units = 0 ∷ 8 ∷ [] }) (AllocPercpu 8 8 ∷ Add (own 1) 1 0 (pos 5) ∷ Add (own 1) 0 0 (negsuc 1) ∷ Sum (own 1) 0 ∷ Sum (own 1) 1 ∷ FreePercpu (own 1) ∷ Add (own 1) 0 0 (pos 1) ∷ FreePercpu (own 1) ∷ AllocPercpu 8 8 ∷ Sum (own 9) 0 ∷ []) ([] ∷ []) ([])
    ≡ record nothing {
      entries = entry 0 1 (at 48) 8 ∷ entry 0 2 reply.Done 9 ∷ entry 0 3 reply.Done 10 ∷ entry 0 4 (reply.Sum (pos 3)) 11 ∷ entry 0 5 (reply.Sum (pos 0)) 12 ∷ entry 0 6 reply.Done 13 ∷ entry 0 7 reply.NotLive 14 ∷ entry 0 8 reply.NotLive 15 ∷ entry 0 9 (at 48) 20 ∷ entry 0 10 (reply.Sum (pos 0)) 21 ∷ [];
      events = 21;
      frames = 14;
      mapped = 2;
      stale = 0;
      free = span 0 48 ∷ [];
      areas = area 48 16 (kind.Chunk 0 0) 0 1 ∷ [];
      chunks = chunk_row 0 48 12 32760 1 0 2 8190 ∷ [];
      objects = object_row 0 0 8 0 2 ∷ [];
      tree_blocks = 1;
      tree_largest = 48;
      plain_largest = 48;
    }
