-- Traces of areas and parts of blocks, drawn at random.
use Rattle.std.specs.Prelude.{List, [], ◌∷◌}
use Rattle.vm_model.specs.declared.calls.Call.TheVariants.{Vmalloc, Vfree, MapRam, UnmapRam, UnmapAliases}
use Rattle.vm_model.specs.Space.{span}
use Rattle.worked_rows.specs.Worked.{header, own, of_opening}
use Rattle.law_tests.specs.Machines.{Trial}

abbrev pub area_1 : Trial
area_1 = record { setup = (record (header 24) { frames = 3; block_pages = 8; part_limit = 4 }); opening = MapRam 0 2 ∷ UnmapRam (own 1) ∷ Vmalloc 1 1 ∷ Vfree (own 3) ∷ []; calls = (MapRam 0 0 ∷ MapRam 0 6 ∷ UnmapAliases ∷ []) ∷ (MapRam 0 5 ∷ []) ∷ []; picks = 1 ∷ 2 ∷ 2 ∷ 1 ∷ 2 ∷ 1 ∷ 2 ∷ 2 ∷ 2 ∷ 2 ∷ 2 ∷ 2 ∷ 2 ∷ 2 ∷ 2 ∷ 2 ∷ 2 ∷ 2 ∷ 1 ∷ 1 ∷ [] }

abbrev pub area_2 : Trial
area_2 = record { setup = (record (header 24) { frames = 8; block_pages = 8; part_limit = 4 }); opening = Vmalloc 8192 1 ∷ []; calls = (Vfree (of_opening 1) ∷ UnmapAliases ∷ MapRam 0 3 ∷ MapRam 0 1 ∷ []) ∷ (Vmalloc 98304 8192 ∷ []) ∷ (Vfree (of_opening 1) ∷ []) ∷ []; picks = 1 ∷ 3 ∷ 1 ∷ 1 ∷ 2 ∷ 2 ∷ 2 ∷ 1 ∷ 1 ∷ 1 ∷ 1 ∷ 2 ∷ 2 ∷ 3 ∷ 3 ∷ 1 ∷ 1 ∷ 2 ∷ 1 ∷ 2 ∷ [] }

abbrev pub area_3 : Trial
area_3 = record { setup = (record (header 12) { frames = 6; lazy = 0; block_pages = 8; part_limit = 4 }); opening = MapRam 0 1 ∷ Vmalloc 8192 1 ∷ UnmapRam (own 1) ∷ []; calls = (Vfree (of_opening 2) ∷ Vfree (of_opening 2) ∷ UnmapRam (of_opening 1) ∷ []) ∷ (Vfree (of_opening 2) ∷ MapRam 0 0 ∷ []) ∷ (UnmapAliases ∷ []) ∷ []; picks = 1 ∷ 3 ∷ 3 ∷ 2 ∷ 2 ∷ 1 ∷ 2 ∷ 3 ∷ 2 ∷ 1 ∷ 3 ∷ 2 ∷ 2 ∷ 3 ∷ 2 ∷ 3 ∷ 2 ∷ 2 ∷ 1 ∷ 1 ∷ [] }

abbrev pub area_4 : Trial
area_4 = record { setup = (record (header 16) { frames = 6; lazy = 1; block_pages = 8; part_limit = 4 }); opening = MapRam 0 6 ∷ MapRam 0 2 ∷ MapRam 0 0 ∷ []; calls = (MapRam 0 3 ∷ UnmapRam (of_opening 3) ∷ []) ∷ (UnmapAliases ∷ []) ∷ (MapRam 0 6 ∷ Vmalloc 20000 8192 ∷ []) ∷ []; picks = 1 ∷ 3 ∷ 1 ∷ 3 ∷ 2 ∷ 1 ∷ 3 ∷ 1 ∷ 3 ∷ 2 ∷ 3 ∷ 3 ∷ 1 ∷ 2 ∷ 1 ∷ 3 ∷ 1 ∷ 1 ∷ 3 ∷ 2 ∷ [] }

abbrev pub area_5 : Trial
area_5 = record { setup = (record (header 24) { frames = 3; block_pages = 8; part_limit = 4 }); opening = UnmapAliases ∷ MapRam 0 3 ∷ []; calls = (MapRam 0 6 ∷ Vmalloc 8192 1 ∷ MapRam 0 1 ∷ Vmalloc 8192 4096 ∷ []) ∷ (MapRam 0 0 ∷ UnmapRam (of_opening 2) ∷ []) ∷ (UnmapRam (of_opening 2) ∷ Vmalloc 8192 3 ∷ Vfree (own 2) ∷ Vfree (own 2) ∷ []) ∷ []; picks = 2 ∷ 3 ∷ 2 ∷ 1 ∷ 1 ∷ 2 ∷ 2 ∷ 2 ∷ 3 ∷ 1 ∷ 1 ∷ 1 ∷ 1 ∷ 3 ∷ 3 ∷ 2 ∷ 3 ∷ 1 ∷ 3 ∷ 2 ∷ [] }

abbrev pub area_6 : Trial
area_6 = record { setup = (record (header 12) { frames = 8; lazy = 4; block_pages = 8; part_limit = 4 }); opening = UnmapAliases ∷ MapRam 0 1 ∷ Vmalloc 49152 3 ∷ []; calls = (Vmalloc 1 3 ∷ UnmapRam (of_opening 2) ∷ Vfree (of_opening 3) ∷ []) ∷ (UnmapRam (of_opening 2) ∷ Vmalloc 49152 1 ∷ Vfree (own 2) ∷ []) ∷ []; picks = 1 ∷ 1 ∷ 1 ∷ 2 ∷ 1 ∷ 2 ∷ 1 ∷ 1 ∷ 1 ∷ 1 ∷ 2 ∷ 1 ∷ 1 ∷ 1 ∷ 1 ∷ 2 ∷ 1 ∷ 2 ∷ 2 ∷ 1 ∷ [] }

abbrev pub area_7 : Trial
area_7 = record { setup = (record (header 12) { frames = 3; lazy = 1; block_pages = 8; part_limit = 4 }); opening = Vmalloc 1 16384 ∷ []; calls = (UnmapAliases ∷ Vfree (of_opening 1) ∷ MapRam 0 2 ∷ []) ∷ (Vmalloc 1 3 ∷ MapRam 0 6 ∷ Vfree (of_opening 1) ∷ []) ∷ (Vfree (of_opening 1) ∷ Vmalloc 8192 3 ∷ MapRam 0 2 ∷ []) ∷ []; picks = 3 ∷ 3 ∷ 2 ∷ 3 ∷ 2 ∷ 2 ∷ 1 ∷ 3 ∷ 3 ∷ 2 ∷ 3 ∷ 3 ∷ 1 ∷ 3 ∷ 3 ∷ 2 ∷ 2 ∷ 3 ∷ 2 ∷ 2 ∷ [] }

abbrev pub area_8 : Trial
area_8 = record { setup = (record (header 16) { frames = 8; lazy = 8; block_pages = 8; part_limit = 4 }); opening = UnmapAliases ∷ Vmalloc 8192 1 ∷ []; calls = (Vfree (of_opening 2) ∷ Vmalloc 65536 4096 ∷ Vmalloc 65536 3 ∷ Vfree (own 3) ∷ []) ∷ (MapRam 0 2 ∷ Vfree (of_opening 2) ∷ UnmapRam (own 1) ∷ []) ∷ []; picks = 2 ∷ 2 ∷ 2 ∷ 1 ∷ 1 ∷ 1 ∷ 2 ∷ 2 ∷ 1 ∷ 2 ∷ 2 ∷ 1 ∷ 1 ∷ 2 ∷ 1 ∷ 2 ∷ 2 ∷ 1 ∷ 2 ∷ 1 ∷ [] }

abbrev pub area_9 : Trial
area_9 = record { setup = (record (header 24) { frames = 3; lazy = 0; block_pages = 8; part_limit = 4 }); opening = MapRam 0 2 ∷ MapRam 0 5 ∷ []; calls = (UnmapRam (of_opening 1) ∷ UnmapAliases ∷ []) ∷ []; picks = [] }

abbrev pub area_10 : Trial
area_10 = record { setup = (record (header 16) { frames = 3; block_pages = 8; part_limit = 4 }); opening = MapRam 0 6 ∷ UnmapAliases ∷ Vmalloc 12288 1 ∷ Vfree (own 3) ∷ MapRam 0 1 ∷ []; calls = (Vmalloc 0 4096 ∷ []) ∷ (Vfree (of_opening 3) ∷ MapRam 0 2 ∷ []) ∷ []; picks = 2 ∷ 2 ∷ 2 ∷ 1 ∷ 2 ∷ 1 ∷ 2 ∷ 2 ∷ 2 ∷ 1 ∷ 2 ∷ 1 ∷ 2 ∷ 1 ∷ 1 ∷ 2 ∷ 2 ∷ 2 ∷ 2 ∷ 2 ∷ [] }

abbrev pub area_11 : Trial
area_11 = record { setup = (record (header 24) { frames = 6; block_pages = 8; part_limit = 4; groups = span 0 8 ∷ span 8 8 ∷ []; units = 0 ∷ 8 ∷ [] }); opening = MapRam 1 2 ∷ UnmapRam (own 1) ∷ Vmalloc 98304 8192 ∷ UnmapRam (own 1) ∷ []; calls = (UnmapRam (of_opening 1) ∷ Vfree (of_opening 3) ∷ UnmapRam (of_opening 1) ∷ []) ∷ (UnmapRam (of_opening 1) ∷ Vmalloc 4096 16384 ∷ Vmalloc 0 1 ∷ Vfree (own 3) ∷ []) ∷ []; picks = 1 ∷ 2 ∷ 2 ∷ 1 ∷ 2 ∷ 1 ∷ 2 ∷ 1 ∷ 2 ∷ 2 ∷ 2 ∷ 1 ∷ 2 ∷ 2 ∷ 1 ∷ 2 ∷ 1 ∷ 2 ∷ 1 ∷ 2 ∷ [] }

abbrev pub area_12 : Trial
area_12 = record { setup = (record (header 24) { frames = 8; block_pages = 8; part_limit = 4; groups = span 0 16 ∷ []; units = 0 ∷ 8 ∷ [] }); opening = MapRam 0 2 ∷ []; calls = (UnmapAliases ∷ UnmapRam (of_opening 1) ∷ []) ∷ (UnmapRam (of_opening 1) ∷ []) ∷ []; picks = 2 ∷ 1 ∷ 2 ∷ 1 ∷ 2 ∷ 1 ∷ 2 ∷ 1 ∷ 1 ∷ 1 ∷ 2 ∷ 2 ∷ 2 ∷ 1 ∷ 2 ∷ 2 ∷ 1 ∷ 2 ∷ 1 ∷ 2 ∷ [] }

abbrev pub area_13 : Trial
area_13 = record { setup = (record (header 24) { frames = 6; lazy = 8; block_pages = 8; part_limit = 4 }); opening = Vmalloc 4096 16384 ∷ Vfree (own 1) ∷ MapRam 0 2 ∷ []; calls = (MapRam 0 3 ∷ Vfree (of_opening 1) ∷ UnmapAliases ∷ UnmapRam (of_opening 3) ∷ []) ∷ []; picks = [] }

abbrev pub area_14 : Trial
area_14 = record { setup = (record (header 16) { frames = 3; lazy = 8; block_pages = 8; part_limit = 4; groups = span 0 8 ∷ span 8 8 ∷ []; units = 0 ∷ 8 ∷ [] }); opening = Vmalloc 4096 1 ∷ MapRam 0 5 ∷ Vfree (own 1) ∷ []; calls = (Vmalloc 12288 3 ∷ Vfree (of_opening 1) ∷ []) ∷ []; picks = [] }

abbrev pub area_15 : Trial
area_15 = record { setup = (record (header 16) { frames = 3; block_pages = 8; part_limit = 4 }); opening = MapRam 0 1 ∷ Vmalloc 20000 4096 ∷ Vmalloc 4096 8192 ∷ Vfree (own 2) ∷ []; calls = (Vmalloc 0 1 ∷ MapRam 0 0 ∷ []) ∷ (Vfree (of_opening 3) ∷ Vmalloc 65536 16384 ∷ []) ∷ []; picks = 1 ∷ 2 ∷ 2 ∷ 2 ∷ 2 ∷ 1 ∷ 2 ∷ 1 ∷ 2 ∷ 1 ∷ 2 ∷ 2 ∷ 2 ∷ 2 ∷ 1 ∷ 2 ∷ 1 ∷ 1 ∷ 2 ∷ 1 ∷ [] }

abbrev pub area_16 : Trial
area_16 = record { setup = (record (header 16) { frames = 8; block_pages = 8; part_limit = 4; groups = span 0 8 ∷ span 8 8 ∷ []; units = 0 ∷ 8 ∷ [] }); opening = []; calls = [] ∷ (MapRam 1 3 ∷ UnmapRam (own 1) ∷ UnmapRam (own 1) ∷ []) ∷ []; picks = 2 ∷ 2 ∷ 1 ∷ 1 ∷ 2 ∷ 1 ∷ 1 ∷ 1 ∷ 1 ∷ 2 ∷ 1 ∷ 2 ∷ 1 ∷ 1 ∷ 1 ∷ 2 ∷ 2 ∷ 1 ∷ 1 ∷ 2 ∷ [] }

abbrev pub first_areas : List Trial
first_areas = area_1 ∷ area_2 ∷ area_3 ∷ area_4 ∷ area_5 ∷ area_6 ∷ area_7 ∷ area_8 ∷ []

abbrev pub second_areas : List Trial
second_areas = area_9 ∷ area_10 ∷ area_11 ∷ area_12 ∷ area_13 ∷ area_14 ∷ area_15 ∷ area_16 ∷ []
