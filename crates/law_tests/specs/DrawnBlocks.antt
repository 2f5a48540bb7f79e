-- Traces mostly of parts of blocks, drawn at random.
use Rattle.std.specs.Prelude.{List, [], ◌∷◌}
use Rattle.vm_model.specs.declared.calls.Call.TheVariants.{Vmalloc, Vfree, MapRam, UnmapRam, UnmapAliases}
use Rattle.vm_model.specs.Space.{span}
use Rattle.worked_rows.specs.Worked.{header, own, of_opening}
use Rattle.law_tests.specs.Machines.{Trial}

abbrev pub block_1 : Trial
block_1 = record { setup = (record (header 24) { frames = 3; lazy = 8; block_pages = 8; part_limit = 4 }); opening = MapRam 0 1 ∷ Vmalloc 4096 1 ∷ MapRam 0 2 ∷ UnmapRam (own 1) ∷ UnmapRam (own 3) ∷ []; calls = (UnmapRam (of_opening 3) ∷ Vfree (of_opening 2) ∷ Vfree (of_opening 2) ∷ Vfree (of_opening 2) ∷ []) ∷ (UnmapRam (of_opening 1) ∷ Vmalloc 8192 3 ∷ UnmapAliases ∷ []) ∷ []; picks = 1 ∷ 1 ∷ 1 ∷ 1 ∷ 2 ∷ 2 ∷ 1 ∷ 1 ∷ 1 ∷ 2 ∷ 1 ∷ 1 ∷ 2 ∷ 2 ∷ 2 ∷ 1 ∷ 1 ∷ 2 ∷ 1 ∷ 1 ∷ [] }

abbrev pub block_2 : Trial
block_2 = record { setup = (record (header 24) { frames = 3; lazy = 8; block_pages = 8; part_limit = 4 }); opening = MapRam 0 3 ∷ []; calls = (Vmalloc 98304 1 ∷ []) ∷ (MapRam 0 2 ∷ UnmapRam (own 1) ∷ []) ∷ (Vmalloc 8192 16384 ∷ Vfree (own 1) ∷ []) ∷ []; picks = 1 ∷ 2 ∷ 3 ∷ 2 ∷ 3 ∷ 3 ∷ 2 ∷ 2 ∷ 3 ∷ 1 ∷ 2 ∷ 1 ∷ 3 ∷ 1 ∷ 3 ∷ 1 ∷ 3 ∷ 1 ∷ 1 ∷ 1 ∷ [] }

abbrev pub block_3 : Trial
block_3 = record { setup = (record (header 12) { frames = 8; block_pages = 8; part_limit = 4; groups = span 0 8 ∷ span 8 8 ∷ []; units = 0 ∷ 8 ∷ [] }); opening = Vmalloc 49152 4096 ∷ []; calls = (Vfree (of_opening 1) ∷ []) ∷ (MapRam 0 1 ∷ UnmapRam (own 1) ∷ UnmapRam (own 1) ∷ []) ∷ []; picks = 1 ∷ 2 ∷ 1 ∷ 1 ∷ 2 ∷ 1 ∷ 2 ∷ 1 ∷ 2 ∷ 2 ∷ 1 ∷ 2 ∷ 1 ∷ 2 ∷ 2 ∷ 2 ∷ 2 ∷ 1 ∷ 1 ∷ 1 ∷ [] }

abbrev pub block_4 : Trial
block_4 = record { setup = (record (header 24) { frames = 3; lazy = 8; block_pages = 8; part_limit = 4 }); opening = []; calls = (MapRam 0 6 ∷ []) ∷ (MapRam 0 2 ∷ MapRam 0 2 ∷ []) ∷ []; picks = 2 ∷ 1 ∷ 2 ∷ 2 ∷ 2 ∷ 2 ∷ 1 ∷ 1 ∷ 1 ∷ 1 ∷ 1 ∷ 2 ∷ 1 ∷ 1 ∷ 2 ∷ 1 ∷ 2 ∷ 2 ∷ 1 ∷ 1 ∷ [] }

abbrev pub block_5 : Trial
block_5 = record { setup = (record (header 16) { frames = 6; block_pages = 8; part_limit = 4 }); opening = []; calls = [] ∷ (MapRam 0 2 ∷ UnmapRam (own 1) ∷ UnmapRam (own 1) ∷ MapRam 0 0 ∷ []) ∷ [] ∷ []; picks = 2 ∷ 1 ∷ 2 ∷ 2 ∷ 3 ∷ 3 ∷ 3 ∷ 3 ∷ 3 ∷ 1 ∷ 2 ∷ 3 ∷ 1 ∷ 3 ∷ 2 ∷ 3 ∷ 3 ∷ 2 ∷ 2 ∷ 2 ∷ [] }

abbrev pub block_6 : Trial
block_6 = record { setup = (record (header 12) { frames = 8; block_pages = 8; part_limit = 4 }); opening = []; calls = (Vmalloc 20000 1 ∷ MapRam 0 5 ∷ Vfree (own 1) ∷ Vfree (own 1) ∷ MapRam 0 5 ∷ []) ∷ []; picks = [] }

abbrev pub block_7 : Trial
block_7 = record { setup = (record (header 12) { frames = 3; block_pages = 8; part_limit = 4 }); opening = Vmalloc 8192 1 ∷ []; calls = (MapRam 0 1 ∷ Vfree (of_opening 1) ∷ []) ∷ [] ∷ []; picks = 2 ∷ 2 ∷ 1 ∷ 2 ∷ 2 ∷ 1 ∷ 1 ∷ 2 ∷ 2 ∷ 1 ∷ 1 ∷ 1 ∷ 1 ∷ 1 ∷ 2 ∷ 1 ∷ 1 ∷ 1 ∷ 1 ∷ 2 ∷ [] }

abbrev pub block_8 : Trial
block_8 = record { setup = (record (header 12) { frames = 8; block_pages = 8; part_limit = 4 }); opening = MapRam 0 4 ∷ []; calls = (UnmapRam (of_opening 1) ∷ UnmapRam (of_opening 1) ∷ []) ∷ []; picks = [] }

abbrev pub block_9 : Trial
block_9 = record { setup = (record (header 16) { frames = 3; block_pages = 8; part_limit = 4 }); opening = []; calls = (UnmapAliases ∷ []) ∷ (Vmalloc 8192 1 ∷ Vmalloc 12288 16384 ∷ []) ∷ []; picks = 1 ∷ 1 ∷ 1 ∷ 2 ∷ 1 ∷ 1 ∷ 2 ∷ 2 ∷ 2 ∷ 1 ∷ 2 ∷ 1 ∷ 1 ∷ 2 ∷ 1 ∷ 1 ∷ 1 ∷ 2 ∷ 1 ∷ 2 ∷ [] }

abbrev pub block_10 : Trial
block_10 = record { setup = (record (header 16) { frames = 8; block_pages = 8; part_limit = 4 }); opening = []; calls = (MapRam 0 2 ∷ UnmapRam (own 1) ∷ Vmalloc 8192 3 ∷ UnmapRam (own 1) ∷ []) ∷ []; picks = [] }

abbrev pub block_11 : Trial
block_11 = record { setup = (record (header 12) { frames = 3; block_pages = 8; part_limit = 4 }); opening = UnmapAliases ∷ []; calls = (MapRam 0 2 ∷ MapRam 0 3 ∷ []) ∷ (MapRam 0 0 ∷ []) ∷ []; picks = 2 ∷ 2 ∷ 2 ∷ 2 ∷ 2 ∷ 1 ∷ 2 ∷ 1 ∷ 2 ∷ 2 ∷ 1 ∷ 2 ∷ 1 ∷ 2 ∷ 2 ∷ 1 ∷ 1 ∷ 2 ∷ 1 ∷ 1 ∷ [] }

abbrev pub block_12 : Trial
block_12 = record { setup = (record (header 16) { frames = 6; block_pages = 8; part_limit = 4; groups = span 0 8 ∷ span 8 8 ∷ []; units = 0 ∷ 8 ∷ [] }); opening = UnmapAliases ∷ MapRam 1 6 ∷ UnmapRam (own 2) ∷ []; calls = (UnmapRam (of_opening 2) ∷ []) ∷ []; picks = [] }

abbrev pub block_13 : Trial
block_13 = record { setup = (record (header 16) { frames = 6; lazy = 4; block_pages = 8; part_limit = 4 }); opening = Vmalloc 0 1 ∷ []; calls = (MapRam 0 2 ∷ []) ∷ (MapRam 0 3 ∷ []) ∷ []; picks = 1 ∷ 1 ∷ 1 ∷ 1 ∷ 1 ∷ 2 ∷ 1 ∷ 1 ∷ 2 ∷ 2 ∷ 2 ∷ 1 ∷ 1 ∷ 1 ∷ 2 ∷ 2 ∷ 1 ∷ 1 ∷ 1 ∷ 1 ∷ [] }

abbrev pub block_14 : Trial
block_14 = record { setup = (record (header 16) { frames = 8; lazy = 4; block_pages = 8; part_limit = 4 }); opening = []; calls = (MapRam 0 4 ∷ UnmapRam (own 1) ∷ MapRam 0 0 ∷ []) ∷ []; picks = [] }

abbrev pub drawn_blocks : List Trial
drawn_blocks = block_1 ∷ block_2 ∷ block_3 ∷ block_4 ∷ block_5 ∷ block_6 ∷ block_7 ∷ block_8 ∷ block_9 ∷ block_10 ∷ block_11 ∷ block_12 ∷ block_13 ∷ block_14 ∷ []
