-- Traces that were worked by hand: areas, parts of blocks, objects and balances.
use Rattle.std.specs.Prelude.{List, [], ◌∷◌, pos, negsuc}
use Rattle.vm_model.specs.declared.calls.Call.TheVariants.{Vmalloc, Vfree, MapRam, UnmapRam, UnmapAliases, AllocPercpu, AllocAtomic, FreePercpu, Add, Sum, Balance}
use Rattle.vm_model.specs.Space.{span}
use Rattle.worked_rows.specs.Worked.{header, own, of_opening}
use Rattle.law_tests.specs.Machines.{Trial}

-- two areas, each with its guard page
abbrev pub two_areas : Trial
two_areas = record { setup = header 16; opening = Vmalloc 1 1 ∷ Vmalloc 4097 1 ∷ []; calls = [] ∷ []; picks = [] }

-- an alignment of four pages
abbrev pub aligned_area : Trial
aligned_area = record { setup = header 16; opening = Vmalloc 1 1 ∷ Vmalloc 4096 16384 ∷ []; calls = [] ∷ []; picks = [] }

-- freed pages wait, and are not taken
abbrev pub freed_pages_wait : Trial
freed_pages_wait = record { setup = header 16; opening = Vmalloc 4096 1 ∷ Vfree (own 1) ∷ Vmalloc 4096 1 ∷ []; calls = [] ∷ []; picks = [] }

-- a search that a purge makes room for, of two areas that wait apart from each other
abbrev pub a_purge_makes_room : Trial
a_purge_makes_room = record { setup = header 12; opening = Vmalloc 8192 1 ∷ Vmalloc 4096 1 ∷ Vmalloc 8192 1 ∷ Vfree (own 1) ∷ Vfree (own 3) ∷ Vmalloc 16384 1 ∷ Vmalloc 8192 1 ∷ []; calls = [] ∷ []; picks = [] }

-- waits above the lazy limit, each with a purge of its own
abbrev pub lazy_limit : Trial
lazy_limit = record { setup = record (header 16) { lazy = 1 }; opening = Vmalloc 4096 1 ∷ Vfree (own 1) ∷ Vmalloc 4096 1 ∷ Vfree (own 3) ∷ []; calls = [] ∷ []; picks = [] }

-- too few frames, a target without an address, a bad size and a bad alignment
abbrev pub refused_calls : Trial
refused_calls = record { setup = record (header 16) { frames = 1 }; opening = Vmalloc 8192 1 ∷ Vfree (own 1) ∷ Vmalloc 0 1 ∷ Vmalloc 4096 3 ∷ Vmalloc 4096 1 ∷ []; calls = [] ∷ []; picks = [] }

-- two callers free one area of the opening, and two purge by turns
abbrev pub two_frees : Trial
two_frees = record {
  setup = record (header 16) { lazy = 0 };
  opening = Vmalloc 4096 1 ∷ [];
  calls = (Vfree (of_opening 1) ∷ UnmapAliases ∷ []) ∷ (Vfree (of_opening 1) ∷ UnmapAliases ∷ []) ∷ [];
  picks = 2 ∷ 1 ∷ 2 ∷ 2 ∷ 1 ∷ 2 ∷ 1 ∷ 2 ∷ [];
}

-- two callers that find no space, each after its own purge
abbrev pub two_without_space : Trial
two_without_space = record { setup = header 2; opening = []; calls = (Vmalloc 8192 1 ∷ []) ∷ (Vmalloc 8192 1 ∷ []) ∷ []; picks = 1 ∷ 2 ∷ 1 ∷ 2 ∷ [] }

-- an opening that finds no space
abbrev pub no_room : Trial
no_room = record { setup = header 2; opening = Vmalloc 8192 1 ∷ []; calls = [] ∷ []; picks = [] }

-- a block whose parts have all ended waits
abbrev pub a_spent_block : Trial
a_spent_block = record {
  setup = record (header 24) { block_pages = 8; part_limit = 4 };
  opening = MapRam 0 3 ∷ MapRam 0 3 ∷ MapRam 0 3 ∷ UnmapRam (own 1) ∷ UnmapRam (own 2) ∷ [];
  calls = [] ∷ [];
  picks = [];
}

-- a purge retires a block whose given pages have all ended
abbrev pub a_fragmented_block : Trial
a_fragmented_block = record { setup = record (header 24) { block_pages = 8; part_limit = 4 }; opening = MapRam 0 4 ∷ UnmapRam (own 1) ∷ UnmapAliases ∷ []; calls = [] ∷ []; picks = [] }

-- a part that finds no frames ends
abbrev pub a_part_without_frames : Trial
a_part_without_frames = record {
  setup = record (header 24) { frames = 4; block_pages = 8; part_limit = 4 };
  opening = MapRam 0 4 ∷ UnmapRam (own 1) ∷ Vmalloc 12288 1 ∷ MapRam 0 3 ∷ [];
  calls = [] ∷ [];
  picks = [];
}

-- dirty ranges of one processor of two, while another caller maps
abbrev pub two_processors : Trial
two_processors = record {
  setup = record (header 24) { block_pages = 8; part_limit = 4; groups = span 0 16 ∷ []; units = 0 ∷ 8 ∷ [] };
  opening = MapRam 1 3 ∷ [];
  calls = (UnmapRam (of_opening 1) ∷ UnmapAliases ∷ []) ∷ (MapRam 0 2 ∷ MapRam 1 1 ∷ []) ∷ [];
  picks = 1 ∷ 2 ∷ 1 ∷ 2 ∷ 2 ∷ 1 ∷ [];
}

-- a chunk with two groups
abbrev pub two_groups : Trial
two_groups = record { setup = record (header 32) { groups = span 0 8 ∷ span 16 8 ∷ []; units = 0 ∷ 16 ∷ [] }; opening = AllocPercpu 8 8 ∷ Add (own 1) 1 0 (pos 5) ∷ Sum (own 1) 0 ∷ []; calls = [] ∷ []; picks = [] }

-- words that are added to and summed
abbrev pub words_of_an_object : Trial
words_of_an_object = record {
  setup = record (header 16) { groups = span 0 16 ∷ []; units = 0 ∷ 8 ∷ [] };
  opening = AllocPercpu 8 8 ∷ AllocPercpu 4 4 ∷ Add (own 1) 1 0 (pos 5) ∷ Add (own 1) 0 0 (negsuc 1) ∷ Sum (own 1) 0 ∷ Sum (own 1) 1 ∷ FreePercpu (own 1) ∷ AllocPercpu 8 8 ∷ Sum (own 8) 0 ∷ [];
  calls = [] ∷ [];
  picks = [];
}

-- a new chunk whose object finds too few frames
abbrev pub a_chunk_without_frames : Trial
a_chunk_without_frames = record { setup = record (header 16) { frames = 3; groups = span 0 16 ∷ []; units = 0 ∷ 8 ∷ [] }; opening = AllocPercpu 8192 4 ∷ []; calls = [] ∷ []; picks = [] }

-- atomic calls find populated pages alone, and a balance fills some
abbrev pub atomic_and_balance : Trial
atomic_and_balance = record { setup = header 16; opening = AllocAtomic 4 4 ∷ AllocPercpu 4096 4096 ∷ AllocAtomic 4 4 ∷ Balance ∷ AllocAtomic 4 4 ∷ []; calls = [] ∷ []; picks = [] }

-- a balance gives up all free chunks but one
abbrev pub spare_chunks : Trial
spare_chunks = record { setup = header 16; opening = AllocPercpu 8 8 ∷ AllocPercpu 32768 4 ∷ FreePercpu (own 1) ∷ FreePercpu (own 2) ∷ Balance ∷ []; calls = [] ∷ []; picks = [] }

abbrev pub worked_trials : List Trial
worked_trials =
    two_areas ∷ aligned_area ∷ freed_pages_wait ∷ a_purge_makes_room ∷ lazy_limit ∷ refused_calls ∷ two_frees ∷ two_without_space ∷ a_spent_block ∷ a_fragmented_block ∷ a_part_without_frames ∷ two_processors ∷ two_groups
    ∷ words_of_an_object ∷ a_chunk_without_frames ∷ atomic_and_balance ∷ spare_chunks ∷ []
