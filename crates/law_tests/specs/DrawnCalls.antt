-- Traces of all calls, drawn at random.
use Rattle.std.specs.Prelude.{List, [], ◌∷◌, pos, negsuc}
use Rattle.vm_model.specs.declared.calls.Call.TheVariants.{Vmalloc, Vfree, MapRam, UnmapRam, UnmapAliases, AllocPercpu, AllocAtomic, FreePercpu, Add, Sum, Balance}
use Rattle.vm_model.specs.Space.{span}
use Rattle.worked_rows.specs.Worked.{header, own, of_opening}
use Rattle.law_tests.specs.Machines.{Trial}

abbrev pub mixed_1 : Trial
mixed_1 = record { setup = (record (header 16) { frames = 8; lazy = 1; block_pages = 8; part_limit = 4 }); opening = []; calls = (Vmalloc 65536 1 ∷ AllocPercpu 8 4 ∷ FreePercpu (own 2) ∷ []) ∷ (AllocPercpu 4096 4096 ∷ Add (own 1) 0 0 (pos 5) ∷ Balance ∷ []) ∷ []; picks = 2 ∷ 1 ∷ 1 ∷ 2 ∷ 1 ∷ 1 ∷ 2 ∷ 2 ∷ 2 ∷ 1 ∷ 2 ∷ 1 ∷ 1 ∷ 1 ∷ 2 ∷ 2 ∷ 1 ∷ 1 ∷ 1 ∷ 1 ∷ [] }

abbrev pub mixed_2 : Trial
mixed_2 = record { setup = (record (header 24) { frames = 8; lazy = 4; block_pages = 8; part_limit = 4 }); opening = AllocPercpu 6000 8 ∷ FreePercpu (own 1) ∷ []; calls = [] ∷ (AllocAtomic 12 4 ∷ MapRam 0 0 ∷ []) ∷ []; picks = 2 ∷ 1 ∷ 1 ∷ 2 ∷ 1 ∷ 2 ∷ 2 ∷ 2 ∷ 1 ∷ 1 ∷ 1 ∷ 2 ∷ 1 ∷ 1 ∷ 1 ∷ 2 ∷ 2 ∷ 1 ∷ 2 ∷ 2 ∷ [] }

abbrev pub mixed_3 : Trial
mixed_3 = record { setup = (record (header 16) { frames = 8; block_pages = 8; part_limit = 4 }); opening = UnmapAliases ∷ Balance ∷ []; calls = (AllocPercpu 16384 8 ∷ Sum (own 1) 1 ∷ []) ∷ (AllocAtomic 100 1 ∷ []) ∷ []; picks = 1 ∷ 1 ∷ 1 ∷ 1 ∷ 1 ∷ 2 ∷ 2 ∷ 2 ∷ 1 ∷ 2 ∷ 2 ∷ 2 ∷ 2 ∷ 1 ∷ 1 ∷ 2 ∷ 1 ∷ 1 ∷ 2 ∷ 1 ∷ [] }

abbrev pub mixed_4 : Trial
mixed_4 = record { setup = (record (header 16) { frames = 3; lazy = 8; block_pages = 8; part_limit = 4; groups = span 0 8 ∷ span 8 8 ∷ []; units = 0 ∷ 8 ∷ [] }); opening = AllocPercpu 4096 4096 ∷ []; calls = (Add (of_opening 1) 0 1 (negsuc 6) ∷ AllocPercpu 12 4 ∷ Add (own 2) 1 1 (pos 1) ∷ AllocPercpu 0 64 ∷ []) ∷ []; picks = [] }

abbrev pub mixed_5 : Trial
mixed_5 = record { setup = (record (header 16) { frames = 6; lazy = 8; block_pages = 8; part_limit = 4; groups = span 0 8 ∷ span 8 8 ∷ []; units = 0 ∷ 8 ∷ [] }); opening = AllocPercpu 4 8 ∷ MapRam 1 0 ∷ AllocAtomic 4 64 ∷ []; calls = (Vmalloc 8192 4096 ∷ []) ∷ [] ∷ (AllocAtomic 100 4096 ∷ []) ∷ []; picks = 1 ∷ 2 ∷ 3 ∷ 1 ∷ 1 ∷ 1 ∷ 1 ∷ 2 ∷ 2 ∷ 2 ∷ 2 ∷ 2 ∷ 3 ∷ 1 ∷ 3 ∷ 1 ∷ 2 ∷ 1 ∷ 1 ∷ 3 ∷ [] }

abbrev pub mixed_6 : Trial
mixed_6 = record { setup = (record (header 12) { frames = 8; lazy = 0; block_pages = 8; part_limit = 4 }); opening = AllocPercpu 32768 4 ∷ []; calls = [] ∷ (Balance ∷ Add (of_opening 1) 0 1 (pos 1) ∷ []) ∷ []; picks = 1 ∷ 2 ∷ 1 ∷ 1 ∷ 2 ∷ 2 ∷ 2 ∷ 1 ∷ 1 ∷ 2 ∷ 1 ∷ 2 ∷ 1 ∷ 1 ∷ 2 ∷ 2 ∷ 1 ∷ 1 ∷ 1 ∷ 1 ∷ [] }

abbrev pub mixed_7 : Trial
mixed_7 = record { setup = (record (header 16) { frames = 3; block_pages = 8; part_limit = 4 }); opening = []; calls = (AllocPercpu 8 8 ∷ Add (own 1) 0 1 (pos 1) ∷ []) ∷ [] ∷ (AllocPercpu 16384 1 ∷ FreePercpu (own 1) ∷ Sum (own 1) 1 ∷ []) ∷ []; picks = 2 ∷ 3 ∷ 3 ∷ 2 ∷ 3 ∷ 3 ∷ 1 ∷ 3 ∷ 1 ∷ 1 ∷ 3 ∷ 1 ∷ 3 ∷ 3 ∷ 1 ∷ 3 ∷ 3 ∷ 3 ∷ 3 ∷ 1 ∷ [] }

abbrev pub mixed_8 : Trial
mixed_8 = record { setup = (record (header 16) { frames = 8; block_pages = 8; part_limit = 4; groups = span 0 16 ∷ []; units = 0 ∷ 8 ∷ [] }); opening = []; calls = (Vmalloc 20000 8192 ∷ Vfree (own 1) ∷ Vfree (own 1) ∷ []) ∷ (Vmalloc 0 1 ∷ Balance ∷ []) ∷ []; picks = 1 ∷ 2 ∷ 1 ∷ 1 ∷ 2 ∷ 1 ∷ 1 ∷ 2 ∷ 1 ∷ 1 ∷ 1 ∷ 2 ∷ 2 ∷ 2 ∷ 2 ∷ 1 ∷ 1 ∷ 2 ∷ 2 ∷ 1 ∷ [] }

abbrev pub mixed_9 : Trial
mixed_9 = record { setup = (record (header 24) { frames = 3; lazy = 8; block_pages = 8; part_limit = 4 }); opening = AllocPercpu 4096 4 ∷ FreePercpu (own 1) ∷ FreePercpu (own 1) ∷ MapRam 0 4 ∷ []; calls = (MapRam 0 0 ∷ UnmapRam (own 1) ∷ []) ∷ []; picks = [] }

abbrev pub mixed_10 : Trial
mixed_10 = record { setup = (record (header 16) { frames = 8; lazy = 8; block_pages = 8; part_limit = 4 }); opening = Balance ∷ []; calls = (AllocAtomic 12 1 ∷ []) ∷ (AllocPercpu 12 4 ∷ []) ∷ []; picks = 2 ∷ 1 ∷ 2 ∷ 2 ∷ 2 ∷ 2 ∷ 2 ∷ 2 ∷ 1 ∷ 2 ∷ 2 ∷ 2 ∷ 2 ∷ 2 ∷ 1 ∷ 2 ∷ 2 ∷ 1 ∷ 2 ∷ 2 ∷ [] }

abbrev pub mixed_11 : Trial
mixed_11 = record { setup = (record (header 12) { frames = 3; lazy = 1; block_pages = 8; part_limit = 4 }); opening = []; calls = (UnmapAliases ∷ AllocAtomic 8 8 ∷ []) ∷ [] ∷ (AllocPercpu 8 4 ∷ []) ∷ []; picks = 2 ∷ 3 ∷ 2 ∷ 1 ∷ 2 ∷ 3 ∷ 3 ∷ 2 ∷ 3 ∷ 1 ∷ 3 ∷ 1 ∷ 3 ∷ 1 ∷ 3 ∷ 2 ∷ 1 ∷ 1 ∷ 2 ∷ 2 ∷ [] }

abbrev pub mixed_12 : Trial
mixed_12 = record { setup = (record (header 12) { frames = 3; block_pages = 8; part_limit = 4 }); opening = []; calls = (Vmalloc 4096 8192 ∷ []) ∷ (AllocPercpu 12 1 ∷ Sum (own 1) 2 ∷ FreePercpu (own 1) ∷ []) ∷ []; picks = 1 ∷ 2 ∷ 1 ∷ 1 ∷ 1 ∷ 1 ∷ 1 ∷ 1 ∷ 1 ∷ 2 ∷ 2 ∷ 1 ∷ 1 ∷ 1 ∷ 2 ∷ 1 ∷ 1 ∷ 2 ∷ 1 ∷ 1 ∷ [] }

abbrev pub first_calls : List Trial
first_calls = mixed_1 ∷ mixed_2 ∷ mixed_3 ∷ mixed_4 ∷ mixed_5 ∷ mixed_6 ∷ []

abbrev pub second_calls : List Trial
second_calls = mixed_7 ∷ mixed_8 ∷ mixed_9 ∷ mixed_10 ∷ mixed_11 ∷ mixed_12 ∷ []
