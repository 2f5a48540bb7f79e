-- Traces of per-CPU objects, drawn at random.
use Rattle.std.specs.Prelude.{List, [], ◌∷◌, pos, negsuc}
use Rattle.vm_model.specs.declared.calls.Call.TheVariants.{AllocPercpu, AllocAtomic, FreePercpu, Add, Sum, Balance}
use Rattle.vm_model.specs.Space.{span}
use Rattle.worked_rows.specs.Worked.{header, own, of_opening}
use Rattle.law_tests.specs.Machines.{Trial}

abbrev pub object_1 : Trial
object_1 = record { setup = (record (header 24) { frames = 2; lazy = 4; block_pages = 8; part_limit = 4 }); opening = AllocPercpu 8 4 ∷ Sum (own 1) 1 ∷ FreePercpu (own 1) ∷ []; calls = (Add (of_opening 1) 0 1 (negsuc 6) ∷ AllocAtomic 12 64 ∷ AllocPercpu 16384 4096 ∷ AllocPercpu 12 8192 ∷ []) ∷ (Balance ∷ []) ∷ []; picks = 1 ∷ 2 ∷ 1 ∷ 1 ∷ 1 ∷ 2 ∷ 1 ∷ 1 ∷ 2 ∷ 2 ∷ 2 ∷ 1 ∷ 2 ∷ 1 ∷ 2 ∷ 2 ∷ 2 ∷ 2 ∷ 2 ∷ 1 ∷ [] }

abbrev pub object_2 : Trial
object_2 = record { setup = (record (header 16) { frames = 8; block_pages = 8; part_limit = 4 }); opening = Balance ∷ AllocPercpu 4 4 ∷ Add (own 2) 0 0 (pos 100) ∷ AllocAtomic 4096 4 ∷ AllocPercpu 6000 4 ∷ []; calls = (Add (of_opening 5) 0 0 (pos 5) ∷ AllocPercpu 12 8192 ∷ AllocPercpu 8 4096 ∷ FreePercpu (own 3) ∷ Sum (of_opening 2) 0 ∷ FreePercpu (own 3) ∷ []) ∷ []; picks = [] }

abbrev pub object_3 : Trial
object_3 = record { setup = (record (header 16) { frames = 2; block_pages = 8; part_limit = 4; groups = span 0 8 ∷ span 8 8 ∷ []; units = 0 ∷ 8 ∷ [] }); opening = Balance ∷ AllocAtomic 0 4 ∷ Balance ∷ []; calls = (Balance ∷ AllocAtomic 8 4096 ∷ Add (own 2) 1 1 (pos 100) ∷ []) ∷ (AllocPercpu 6000 64 ∷ []) ∷ []; picks = 2 ∷ 1 ∷ 2 ∷ 1 ∷ 2 ∷ 2 ∷ 1 ∷ 1 ∷ 2 ∷ 1 ∷ 1 ∷ 2 ∷ 2 ∷ 2 ∷ 1 ∷ 2 ∷ 2 ∷ 1 ∷ 1 ∷ 2 ∷ [] }

abbrev pub object_4 : Trial
object_4 = record { setup = (record (header 24) { frames = 8; block_pages = 8; part_limit = 4 }); opening = []; calls = (AllocPercpu 4096 4096 ∷ FreePercpu (own 1) ∷ Balance ∷ FreePercpu (own 1) ∷ []) ∷ (AllocAtomic 100 4 ∷ AllocPercpu 32768 8192 ∷ []) ∷ []; picks = 2 ∷ 1 ∷ 1 ∷ 2 ∷ 2 ∷ 1 ∷ 2 ∷ 1 ∷ 1 ∷ 1 ∷ 1 ∷ 1 ∷ 2 ∷ 2 ∷ 2 ∷ 1 ∷ 1 ∷ 2 ∷ 1 ∷ 1 ∷ [] }

abbrev pub object_5 : Trial
object_5 = record { setup = (record (header 16) { frames = 2; block_pages = 8; part_limit = 4 }); opening = AllocPercpu 32768 4 ∷ AllocPercpu 4096 4 ∷ Sum (own 2) 2 ∷ AllocAtomic 4 4 ∷ Sum (own 4) 0 ∷ []; calls = (AllocPercpu 100 64 ∷ Add (of_opening 2) 0 0 (pos 5) ∷ FreePercpu (own 1) ∷ AllocAtomic 100 4 ∷ FreePercpu (own 4) ∷ []) ∷ []; picks = [] }

abbrev pub object_6 : Trial
object_6 = record { setup = (record (header 16) { frames = 2; lazy = 1; block_pages = 8; part_limit = 4 }); opening = []; calls = (Balance ∷ AllocAtomic 32768 8192 ∷ []) ∷ (Balance ∷ []) ∷ (AllocPercpu 4096 1 ∷ Add (own 1) 0 1 (pos 1) ∷ Sum (own 1) 0 ∷ AllocPercpu 16384 8 ∷ []) ∷ []; picks = 2 ∷ 2 ∷ 1 ∷ 3 ∷ 3 ∷ 1 ∷ 2 ∷ 3 ∷ 1 ∷ 3 ∷ 1 ∷ 1 ∷ 3 ∷ 1 ∷ 2 ∷ 3 ∷ 2 ∷ 1 ∷ 2 ∷ 2 ∷ [] }

abbrev pub object_7 : Trial
object_7 = record { setup = (record (header 24) { frames = 2; block_pages = 8; part_limit = 4 }); opening = AllocPercpu 6000 4 ∷ Balance ∷ AllocPercpu 4096 8 ∷ FreePercpu (own 1) ∷ FreePercpu (own 1) ∷ []; calls = (AllocAtomic 8 4 ∷ []) ∷ (Balance ∷ []) ∷ []; picks = 1 ∷ 1 ∷ 1 ∷ 2 ∷ 1 ∷ 2 ∷ 2 ∷ 2 ∷ 2 ∷ 2 ∷ 1 ∷ 2 ∷ 1 ∷ 2 ∷ 2 ∷ 1 ∷ 1 ∷ 1 ∷ 2 ∷ 1 ∷ [] }

abbrev pub object_8 : Trial
object_8 = record { setup = (record (header 16) { frames = 2; block_pages = 8; part_limit = 4 }); opening = AllocPercpu 12 4 ∷ Sum (own 1) 1 ∷ FreePercpu (own 1) ∷ AllocPercpu 4 1 ∷ []; calls = (AllocAtomic 0 1 ∷ []) ∷ (Add (of_opening 4) 0 0 (negsuc 6) ∷ Balance ∷ []) ∷ (AllocAtomic 6000 1 ∷ FreePercpu (own 1) ∷ []) ∷ []; picks = 3 ∷ 2 ∷ 1 ∷ 2 ∷ 2 ∷ 3 ∷ 3 ∷ 2 ∷ 1 ∷ 3 ∷ 1 ∷ 2 ∷ 3 ∷ 3 ∷ 2 ∷ 2 ∷ 2 ∷ 1 ∷ 3 ∷ 1 ∷ [] }

abbrev pub object_9 : Trial
object_9 = record { setup = (record (header 16) { frames = 6; lazy = 1; block_pages = 8; part_limit = 4 }); opening = []; calls = (AllocAtomic 6000 8 ∷ FreePercpu (own 1) ∷ Add (own 1) 0 2 (pos 1) ∷ []) ∷ (AllocPercpu 100 4 ∷ FreePercpu (own 1) ∷ FreePercpu (own 1) ∷ Balance ∷ []) ∷ []; picks = 2 ∷ 1 ∷ 1 ∷ 2 ∷ 1 ∷ 2 ∷ 1 ∷ 2 ∷ 1 ∷ 1 ∷ 2 ∷ 2 ∷ 1 ∷ 1 ∷ 2 ∷ 2 ∷ 2 ∷ 1 ∷ 2 ∷ 2 ∷ [] }

abbrev pub object_10 : Trial
object_10 = record { setup = (record (header 16) { frames = 6; lazy = 4; block_pages = 8; part_limit = 4; groups = span 0 8 ∷ span 8 8 ∷ []; units = 0 ∷ 8 ∷ [] }); opening = AllocPercpu 6000 4 ∷ []; calls = (Balance ∷ Sum (of_opening 1) 2 ∷ []) ∷ (AllocAtomic 4 4 ∷ Sum (of_opening 1) 1 ∷ Add (of_opening 1) 1 0 (pos 5) ∷ []) ∷ []; picks = 2 ∷ 1 ∷ 1 ∷ 1 ∷ 2 ∷ 1 ∷ 2 ∷ 1 ∷ 1 ∷ 2 ∷ 2 ∷ 2 ∷ 1 ∷ 1 ∷ 2 ∷ 1 ∷ 2 ∷ 1 ∷ 1 ∷ 2 ∷ [] }

abbrev pub object_11 : Trial
object_11 = record { setup = (record (header 16) { frames = 2; lazy = 0; block_pages = 8; part_limit = 4 }); opening = AllocAtomic 12 64 ∷ AllocPercpu 6000 4 ∷ AllocPercpu 6000 4096 ∷ AllocAtomic 100 4 ∷ []; calls = (Sum (of_opening 4) 1 ∷ []) ∷ (AllocAtomic 16384 64 ∷ []) ∷ []; picks = 1 ∷ 2 ∷ 2 ∷ 2 ∷ 1 ∷ 2 ∷ 2 ∷ 2 ∷ 2 ∷ 1 ∷ 1 ∷ 2 ∷ 1 ∷ 2 ∷ 2 ∷ 2 ∷ 1 ∷ 2 ∷ 2 ∷ 1 ∷ [] }

abbrev pub object_12 : Trial
object_12 = record { setup = (record (header 16) { frames = 8; lazy = 8; block_pages = 8; part_limit = 4; groups = span 0 8 ∷ span 8 8 ∷ []; units = 0 ∷ 8 ∷ [] }); opening = []; calls = [] ∷ (Balance ∷ AllocAtomic 4096 4 ∷ []) ∷ (AllocPercpu 6000 8 ∷ FreePercpu (own 1) ∷ FreePercpu (own 1) ∷ []) ∷ []; picks = 2 ∷ 3 ∷ 1 ∷ 3 ∷ 2 ∷ 3 ∷ 1 ∷ 3 ∷ 2 ∷ 3 ∷ 3 ∷ 2 ∷ 2 ∷ 3 ∷ 3 ∷ 3 ∷ 1 ∷ 3 ∷ 3 ∷ 3 ∷ [] }

abbrev pub first_objects : List Trial
first_objects = object_1 ∷ object_2 ∷ object_3 ∷ []

abbrev pub second_objects : List Trial
second_objects = object_4 ∷ object_5 ∷ object_6 ∷ []

abbrev pub third_objects : List Trial
third_objects = object_7 ∷ object_8 ∷ object_9 ∷ []

abbrev pub fourth_objects : List Trial
fourth_objects = object_10 ∷ object_11 ∷ object_12 ∷ []
