-- Worked traces of chunks: hints, atomic calls, balance.
use Rattle.std.specs.Prelude.{◌≡◌, pos, [], ◌∷◌}
use Rattle.vm_model.specs.declared.areas.AreaKind.TheVariants as kind
use Rattle.vm_model.specs.declared.calls.Call.TheVariants.{AllocPercpu, AllocAtomic, FreePercpu, Sum, Balance}
use Rattle.vm_model.specs.declared.calls.Reply.TheVariants as reply
use Rattle.vm_model.specs.Space.{span}
use Rattle.worked_rows.specs.Worked.{header, own, tables, tables_with_audit, nothing, at, at_byte, entry, area, chunk_row, object_row, audit_row, hint, hint_row}

-- a hole between two objects, with the hints of each page of bits
abbrev pub HintsOverAHole : Type 0
HintsOverAHole = tables_with_audit (header 64) (AllocPercpu 2048 4 ∷ AllocPercpu 4096 4 ∷ AllocPercpu 26624 4 ∷ FreePercpu (own 2) ∷ []) ([] ∷ []) ([])
    ≡ record nothing {
      entries = entry 0 1 (at 56) 8 ∷ entry 0 2 (at_byte 231424) 13 ∷ entry 0 3 (at_byte 235520) 18 ∷ entry 0 4 reply.Done 19 ∷ [];
      events = 19;
      frames = 8;
      mapped = 8;
      stale = 0;
      free = span 0 56 ∷ [];
      areas = area 56 8 (kind.Chunk 0 0) 0 1 ∷ [];
      chunks = chunk_row 0 56 10 4096 8 0 512 1024 ∷ [];
      objects = object_row 0 0 2048 0 1 ∷ object_row 0 6144 26624 0 3 ∷ [];
      tree_blocks = 1;
      tree_largest = 56;
      plain_largest = 56;
      chunk_audit = audit_row 0 512 1024 10 0 ∷ [];
      hints = hint_row 0 0 (hint 512 512 0 512 512) (hint 512 512 0 512 512) ∷ hint_row 0 1 (hint 0 512 512 0 0) (hint 0 512 512 0 0) ∷ hint_row 0 2 (hint 0 0 0 0 1024) (hint 0 0 0 0 1024) ∷ hint_row 0 3 (hint 0 0 0 0 1024) (hint 0 0 0 0 1024) ∷ hint_row 0 4 (hint 0 0 0 0 1024) (hint 0 0 0 0 1024) ∷ hint_row 0 5 (hint 0 0 0 0 1024) (hint 0 0 0 0 1024) ∷ hint_row 0 6 (hint 0 0 0 0 1024) (hint 0 0 0 0 1024) ∷ hint_row 0 7 (hint 0 0 0 0 1024) (hint 0 0 0 0 1024) ∷ [];
    }

-- the hole is taken again
abbrev pub TheHoleIsTaken : Type 0
TheHoleIsTaken = tables (header 64) (AllocPercpu 2048 4 ∷ AllocPercpu 4096 4 ∷ AllocPercpu 26624 4 ∷ FreePercpu (own 2) ∷ AllocPercpu 4096 4 ∷ []) ([] ∷ []) ([])
    ≡ record nothing {
      entries = entry 0 1 (at 56) 8 ∷ entry 0 2 (at_byte 231424) 13 ∷ entry 0 3 (at_byte 235520) 18 ∷ entry 0 4 reply.Done 19 ∷ entry 0 5 (at_byte 231424) 24 ∷ [];
      events = 24;
      frames = 8;
      mapped = 8;
      stale = 0;
      free = span 0 56 ∷ [];
      areas = area 56 8 (kind.Chunk 0 0) 0 1 ∷ [];
      chunks = chunk_row 0 56 0 0 8 0 0 0 ∷ [];
      objects = object_row 0 0 2048 0 1 ∷ object_row 0 2048 4096 0 4 ∷ object_row 0 6144 26624 0 3 ∷ [];
      tree_blocks = 1;
      tree_largest = 56;
      plain_largest = 56;
    }

-- a run that is long enough but has no aligned place, and a chunk that is made for it
abbrev pub AlignedFits : Type 0
AlignedFits = tables (record (header 64) { frames = 24 }) (AllocPercpu 2048 4 ∷ AllocPercpu 10240 4 ∷ AllocPercpu 20480 4 ∷ FreePercpu (own 2) ∷ AllocPercpu 10240 4096 ∷ AllocPercpu 8192 4096 ∷ []) ([] ∷ []) ([])
    ≡ record nothing {
      entries = entry 0 1 (at 56) 8 ∷ entry 0 2 (at_byte 231424) 13 ∷ entry 0 3 (at 59) 18 ∷ entry 0 4 reply.Done 19 ∷ entry 0 5 (at 48) 27 ∷ entry 0 6 (at 57) 32 ∷ [];
      events = 32;
      frames = 13;
      mapped = 11;
      stale = 0;
      free = span 0 48 ∷ [];
      areas = area 48 8 (kind.Chunk 1 0) 0 2 ∷ area 56 8 (kind.Chunk 0 0) 0 1 ∷ [];
      chunks = chunk_row 0 56 9 2048 8 0 512 512 ∷ chunk_row 1 48 12 22528 3 0 2560 5632 ∷ [];
      objects = object_row 0 0 2048 0 1 ∷ object_row 0 4096 8192 0 5 ∷ object_row 0 12288 20480 0 3 ∷ object_row 1 0 10240 0 4 ∷ [];
      tree_blocks = 1;
      tree_largest = 48;
      plain_largest = 48;
    }

-- a balance that runs out of frames
abbrev pub ABalanceWithoutFrames : Type 0
ABalanceWithoutFrames = tables (record (header 64) { frames = 3 }) (AllocPercpu 4 4 ∷ Balance ∷ Sum (own 1) 0 ∷ []) ([] ∷ []) ([])
    ≡ record nothing {
      entries = entry 0 1 (at 56) 8 ∷ entry 0 2 reply.NoFrames 19 ∷ entry 0 3 (reply.Sum (pos 0)) 20 ∷ [];
      events = 20;
      frames = 0;
      mapped = 3;
      stale = 0;
      free = span 0 56 ∷ [];
      areas = area 56 8 (kind.Chunk 0 0) 0 1 ∷ [];
      chunks = chunk_row 0 56 12 32764 3 2 1 8191 ∷ [];
      objects = object_row 0 0 4 0 1 ∷ [];
      tree_blocks = 1;
      tree_largest = 56;
      plain_largest = 56;
    }

-- atomic calls find populated pages alone, and a balance fills some
abbrev pub AtomicAndBalance : Type 0
AtomicAndBalance = tables (header 64) (AllocAtomic 4 4 ∷ AllocPercpu 4096 4096 ∷ AllocAtomic 4 4 ∷ Balance ∷ AllocAtomic 4 4 ∷ []) ([] ∷ []) ([])
    ≡ record nothing {
      entries = entry 0 1 reply.NoAtomic 1 ∷ entry 0 2 (at 56) 9 ∷ entry 0 3 reply.NoAtomic 10 ∷ entry 0 4 (reply.Count 4) 26 ∷ entry 0 5 (at 57) 29 ∷ [];
      events = 29;
      frames = 11;
      mapped = 5;
      stale = 0;
      free = span 0 56 ∷ [];
      areas = area 56 8 (kind.Chunk 0 0) 0 1 ∷ [];
      chunks = chunk_row 0 56 12 28668 5 3 1025 7167 ∷ [];
      objects = object_row 0 0 4096 0 1 ∷ object_row 0 4096 4 0 2 ∷ [];
      tree_blocks = 1;
      tree_largest = 56;
      plain_largest = 56;
    }

-- a second chunk, for an object of a whole unit
abbrev pub ASecondChunk : Type 0
ASecondChunk = tables (record (header 64) { frames = 24; groups = span 0 8 ∷ span 16 8 ∷ []; units = 0 ∷ 16 ∷ [] }) (AllocPercpu 8 8 ∷ AllocPercpu 32768 4 ∷ []) ([] ∷ []) ([])
    ≡ record nothing {
      entries = entry 0 1 (at 40) 8 ∷ entry 0 2 (at 32) 16 ∷ [];
      events = 16;
      frames = 6;
      mapped = 18;
      stale = 0;
      free = span 0 32 ∷ [];
      areas = area 32 8 (kind.Chunk 1 0) 0 3 ∷ area 40 8 (kind.Chunk 0 0) 0 1 ∷ area 48 8 (kind.Chunk 1 1) 0 4 ∷ area 56 8 (kind.Chunk 0 1) 0 2 ∷ [];
      chunks = chunk_row 0 40 12 32760 1 0 2 8190 ∷ chunk_row 1 32 0 0 8 0 0 0 ∷ [];
      objects = object_row 0 0 8 0 1 ∷ object_row 1 0 32768 0 2 ∷ [];
      tree_blocks = 1;
      tree_largest = 32;
      plain_largest = 32;
    }

-- two spare chunks, whose waits are each above the lazy limit, so that the balance purges twice
abbrev pub SpareChunksArePurged : Type 0
SpareChunksArePurged = tables (record (header 64) { frames = 24; lazy = 4 }) (AllocPercpu 32768 4 ∷ AllocPercpu 32768 4 ∷ AllocPercpu 32768 4 ∷ FreePercpu (own 1) ∷ FreePercpu (own 2) ∷ FreePercpu (own 3) ∷ Balance ∷ []) ([] ∷ []) ([])
    ≡ record nothing {
      entries = entry 0 1 (at 56) 8 ∷ entry 0 2 (at 48) 16 ∷ entry 0 3 (at 40) 24 ∷ entry 0 4 reply.Done 25 ∷ entry 0 5 reply.Done 26 ∷ entry 0 6 reply.Done 27 ∷ entry 0 7 (reply.Count 0) 51 ∷ [];
      events = 51;
      frames = 16;
      mapped = 8;
      stale = 0;
      free = span 0 56 ∷ [];
      areas = area 56 8 (kind.Chunk 0 0) 0 1 ∷ [];
      chunks = chunk_row 0 56 15 32768 8 8 0 8192 ∷ [];
      tree_blocks = 1;
      tree_largest = 56;
      plain_largest = 56;
    }

-- a balance gives up all free chunks but one
abbrev pub SpareChunksGo : Type 0
SpareChunksGo = tables (record (header 64) { frames = 24; groups = span 0 8 ∷ span 16 8 ∷ []; units = 0 ∷ 16 ∷ [] }) (AllocPercpu 8 8 ∷ AllocPercpu 32768 4 ∷ FreePercpu (own 1) ∷ FreePercpu (own 2) ∷ Balance ∷ []) ([] ∷ []) ([])
    ≡ record nothing {
      entries = entry 0 1 (at 40) 8 ∷ entry 0 2 (at 32) 16 ∷ entry 0 3 reply.Done 17 ∷ entry 0 4 reply.Done 18 ∷ entry 0 5 (reply.Count 3) 35 ∷ [];
      events = 35;
      frames = 16;
      mapped = 8;
      stale = 16;
      free = span 0 32 ∷ [];
      areas = area 40 8 (kind.Chunk 0 0) 0 1 ∷ area 56 8 (kind.Chunk 0 1) 0 2 ∷ [];
      waiting = span 32 8 ∷ span 48 8 ∷ [];
      chunks = chunk_row 0 40 15 32768 4 4 0 8192 ∷ [];
      tree_blocks = 1;
      tree_largest = 32;
      plain_largest = 32;
    }
