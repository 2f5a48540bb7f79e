-- Worked traces of areas: guards, the lazy set, purges, callers and refusals.
use Rattle.std.specs.Prelude.{◌≡◌, [], ◌∷◌}
use Rattle.vm_model.specs.declared.areas.AreaKind.TheVariants as kind
use Rattle.vm_model.specs.declared.calls.Call.TheVariants.{Vmalloc, Vfree, UnmapAliases}
use Rattle.vm_model.specs.declared.calls.Reply.TheVariants as reply
use Rattle.vm_model.specs.Space.{span}
use Rattle.worked_rows.specs.Worked.{header, own, of_opening, tables, nothing, at, entry, area}

-- a trace without a call
abbrev pub EmptyTrace : Type 0
EmptyTrace = tables (header 16) ([]) ([] ∷ []) ([])
    ≡ record nothing {
      events = 0;
      frames = 16;
      mapped = 0;
      stale = 0;
      free = span 0 16 ∷ [];
      tree_blocks = 1;
      tree_largest = 16;
      plain_largest = 16;
    }

-- two areas, each with its guard page
abbrev pub TwoAreasWithGuards : Type 0
TwoAreasWithGuards = tables (header 16) (Vmalloc 1 1 ∷ Vmalloc 4097 1 ∷ []) ([] ∷ []) ([])
    ≡ record nothing {
      entries = entry 0 1 (at 0) 3 ∷ entry 0 2 (at 2) 6 ∷ [];
      events = 6;
      frames = 13;
      mapped = 3;
      stale = 0;
      free = span 5 11 ∷ [];
      areas = area 0 2 kind.Vmalloc 0 1 ∷ area 2 3 kind.Vmalloc 0 2 ∷ [];
      tree_blocks = 1;
      tree_largest = 11;
      plain_largest = 11;
    }

-- a search that finds nothing again after its own purge
abbrev pub NoSpaceAfterAPurge : Type 0
NoSpaceAfterAPurge = tables (header 4) (Vmalloc 12288 1 ∷ Vmalloc 1 1 ∷ []) ([] ∷ []) ([])
    ≡ record nothing {
      entries = entry 0 1 (at 0) 3 ∷ entry 0 2 reply.NoSpace 9 ∷ [];
      events = 9;
      frames = 13;
      mapped = 3;
      stale = 0;
      areas = area 0 4 kind.Vmalloc 0 1 ∷ [];
      tree_blocks = 0;
      tree_largest = 0;
      plain_largest = 0;
    }

-- freed pages wait, and are not taken
abbrev pub FreedPagesWait : Type 0
FreedPagesWait = tables (header 16) (Vmalloc 4096 1 ∷ Vfree (own 1) ∷ Vmalloc 4096 1 ∷ []) ([] ∷ []) ([])
    ≡ record nothing {
      entries = entry 0 1 (at 0) 3 ∷ entry 0 2 reply.Done 6 ∷ entry 0 3 (at 2) 9 ∷ [];
      events = 9;
      frames = 15;
      mapped = 1;
      stale = 1;
      free = span 4 12 ∷ [];
      areas = area 2 2 kind.Vmalloc 0 2 ∷ [];
      waiting = span 0 2 ∷ [];
      tree_blocks = 1;
      tree_largest = 12;
      plain_largest = 12;
    }

-- a search that a purge of what waits makes room for
abbrev pub APurgeMakesRoom : Type 0
APurgeMakesRoom = tables (header 4) (Vmalloc 12288 1 ∷ Vfree (own 1) ∷ Vmalloc 12288 1 ∷ []) ([] ∷ []) ([])
    ≡ record nothing {
      entries = entry 0 1 (at 0) 3 ∷ entry 0 2 reply.Done 6 ∷ entry 0 3 (at 0) 16 ∷ [];
      events = 16;
      frames = 13;
      mapped = 3;
      stale = 0;
      areas = area 0 4 kind.Vmalloc 0 2 ∷ [];
      tree_blocks = 0;
      tree_largest = 0;
      plain_largest = 0;
    }

-- an alignment of four pages
abbrev pub AlignedAboveAPage : Type 0
AlignedAboveAPage = tables (header 16) (Vmalloc 1 1 ∷ Vmalloc 4096 16384 ∷ []) ([] ∷ []) ([])
    ≡ record nothing {
      entries = entry 0 1 (at 0) 3 ∷ entry 0 2 (at 4) 6 ∷ [];
      events = 6;
      frames = 14;
      mapped = 2;
      stale = 0;
      free = span 2 2 ∷ span 6 10 ∷ [];
      areas = area 0 2 kind.Vmalloc 0 1 ∷ area 4 2 kind.Vmalloc 0 2 ∷ [];
      tree_blocks = 2;
      tree_largest = 10;
      plain_largest = 10;
    }

-- two callers free one area of the opening, the second caller first
abbrev pub TheFirstFreeWins : Type 0
TheFirstFreeWins = tables (header 16) (Vmalloc 4096 1 ∷ []) ((Vfree (of_opening 1) ∷ []) ∷ (Vfree (of_opening 1) ∷ []) ∷ []) (2 ∷ 1 ∷ [])
    ≡ record nothing {
      entries = entry 0 1 (at 0) 3 ∷ entry 1 1 reply.NotLive 5 ∷ entry 2 1 reply.Done 7 ∷ [];
      events = 7;
      frames = 16;
      mapped = 0;
      stale = 1;
      free = span 2 14 ∷ [];
      waiting = span 0 2 ∷ [];
      tree_blocks = 1;
      tree_largest = 14;
      plain_largest = 14;
    }

-- the same, the first caller first
abbrev pub TheOtherFreeWins : Type 0
TheOtherFreeWins = tables (header 16) (Vmalloc 4096 1 ∷ []) ((Vfree (of_opening 1) ∷ []) ∷ (Vfree (of_opening 1) ∷ []) ∷ []) (1 ∷ 2 ∷ [])
    ≡ record nothing {
      entries = entry 0 1 (at 0) 3 ∷ entry 1 1 reply.Done 7 ∷ entry 2 1 reply.NotLive 5 ∷ [];
      events = 7;
      frames = 16;
      mapped = 0;
      stale = 1;
      free = span 2 14 ∷ [];
      waiting = span 0 2 ∷ [];
      tree_blocks = 1;
      tree_largest = 14;
      plain_largest = 14;
    }

-- a pick of a caller that stays at the purge turn adds no event
abbrev pub StaysAtTheTurn : Type 0
StaysAtTheTurn = tables (header 16) ([]) ((UnmapAliases ∷ []) ∷ (UnmapAliases ∷ []) ∷ []) (2 ∷ 2 ∷ 1 ∷ 1 ∷ 1 ∷ [])
    ≡ record nothing {
      entries = entry 1 1 reply.Done 10 ∷ entry 2 1 reply.Done 6 ∷ [];
      events = 10;
      frames = 16;
      mapped = 0;
      stale = 0;
      free = span 0 16 ∷ [];
      tree_blocks = 1;
      tree_largest = 16;
      plain_largest = 16;
    }

-- a wait above the lazy limit purges at once
abbrev pub LazyLimitPurges : Type 0
LazyLimitPurges = tables (record (header 16) { lazy = 1 }) (Vmalloc 4096 1 ∷ Vfree (own 1) ∷ Vmalloc 4096 1 ∷ []) ([] ∷ []) ([])
    ≡ record nothing {
      entries = entry 0 1 (at 0) 3 ∷ entry 0 2 reply.Done 12 ∷ entry 0 3 (at 0) 15 ∷ [];
      events = 15;
      frames = 15;
      mapped = 1;
      stale = 0;
      free = span 2 14 ∷ [];
      areas = area 0 2 kind.Vmalloc 0 2 ∷ [];
      tree_blocks = 1;
      tree_largest = 14;
      plain_largest = 14;
    }

-- too few frames, a target without an address, a bad size and a bad alignment
abbrev pub RefusedCalls : Type 0
RefusedCalls = tables (record (header 16) { frames = 1 }) (Vmalloc 8192 1 ∷ Vfree (own 1) ∷ Vmalloc 0 1 ∷ Vmalloc 4096 3 ∷ []) ([] ∷ []) ([])
    ≡ record nothing {
      entries = entry 0 1 reply.NoFrames 3 ∷ entry 0 2 reply.Unbound 4 ∷ entry 0 3 reply.BadSize 5 ∷ entry 0 4 reply.BadAlign 6 ∷ [];
      events = 6;
      frames = 1;
      mapped = 0;
      stale = 0;
      free = span 0 16 ∷ [];
      tree_blocks = 1;
      tree_largest = 16;
      plain_largest = 16;
    }

-- two callers by turns
abbrev pub PicksInTurn : Type 0
PicksInTurn = tables (header 16) ([]) ((Vmalloc 4096 1 ∷ []) ∷ (Vmalloc 4096 1 ∷ []) ∷ []) (2 ∷ 1 ∷ 1 ∷ 2 ∷ 2 ∷ [])
    ≡ record nothing {
      entries = entry 1 1 (at 2) 6 ∷ entry 2 1 (at 0) 5 ∷ [];
      events = 6;
      frames = 14;
      mapped = 2;
      stale = 0;
      free = span 4 12 ∷ [];
      areas = area 0 2 kind.Vmalloc 2 1 ∷ area 2 2 kind.Vmalloc 1 2 ∷ [];
      tree_blocks = 1;
      tree_largest = 12;
      plain_largest = 12;
    }

-- the greatest alignment, one that is too great, and a size above the space
abbrev pub AlignedToTheWholeRange : Type 0
AlignedToTheWholeRange = tables (header 16) (Vmalloc 1 4294967296 ∷ Vmalloc 1 4294967296 ∷ Vmalloc 1 8589934592 ∷ Vmalloc 9999999999 1 ∷ []) ([] ∷ []) ([])
    ≡ record nothing {
      entries = entry 0 1 (at 0) 3 ∷ entry 0 2 reply.NoSpace 9 ∷ entry 0 3 reply.BadAlign 10 ∷ entry 0 4 reply.BadSize 11 ∷ [];
      events = 11;
      frames = 15;
      mapped = 1;
      stale = 0;
      free = span 2 14 ∷ [];
      areas = area 0 2 kind.Vmalloc 0 1 ∷ [];
      tree_blocks = 1;
      tree_largest = 14;
      plain_largest = 14;
    }

-- the free runs on both sides of an area, with their audit
abbrev pub TwoFreeRuns : Type 0
TwoFreeRuns = tables (header 16) (Vmalloc 1 1 ∷ Vmalloc 1 1 ∷ Vmalloc 1 1 ∷ Vfree (own 1) ∷ Vfree (own 3) ∷ UnmapAliases ∷ []) ([] ∷ []) ([])
    ≡ record nothing {
      entries = entry 0 1 (at 0) 3 ∷ entry 0 2 (at 2) 6 ∷ entry 0 3 (at 4) 9 ∷ entry 0 4 reply.Done 12 ∷ entry 0 5 reply.Done 15 ∷ entry 0 6 reply.Done 22 ∷ [];
      events = 22;
      frames = 15;
      mapped = 1;
      stale = 0;
      free = span 0 2 ∷ span 4 12 ∷ [];
      areas = area 2 2 kind.Vmalloc 0 2 ∷ [];
      tree_blocks = 2;
      tree_largest = 12;
      plain_largest = 12;
    }

-- two callers that find no space, each after its own purge
abbrev pub TwoWithoutSpace : Type 0
TwoWithoutSpace = tables (header 2) ([]) ((Vmalloc 8192 1 ∷ []) ∷ (Vmalloc 8192 1 ∷ []) ∷ []) (1 ∷ 2 ∷ 1 ∷ 2 ∷ [])
    ≡ record nothing {
      entries = entry 1 1 reply.NoSpace 7 ∷ entry 2 1 reply.NoSpace 12 ∷ [];
      events = 12;
      frames = 16;
      mapped = 0;
      stale = 0;
      free = span 0 2 ∷ [];
      tree_blocks = 1;
      tree_largest = 2;
      plain_largest = 2;
    }
