-- Whole reports, worked by hand.
use Rattle.std.specs.Prelude.{◌≡◌, true, false, [], ◌∷◌, pos, negsuc, codes}
use Rattle.vm_model.specs.declared.areas.AreaKind.TheVariants as kind
use Rattle.vm_model.specs.declared.calls.Reply.TheVariants as reply
use Rattle.vm_model.specs.declared.tables.Tables.{Tables}
use Rattle.report_text.specs.Report.{report}

abbrev pub nothing_asked : Tables
nothing_asked = record {
  entries = [];
  events = 0;
  frames = 1024;
  mapped = 0;
  stale = 0;
  free = record { start = 0; pages = 16 } ∷ [];
  areas = [];
  waiting = [];
  blocks = [];
  parts = [];
  chunks = [];
  objects = [];
  tree_blocks = 0;
  tree_largest = 0;
  plain_largest = 0;
  chunk_audit = [];
  hints = [];
}

abbrev pub NothingAsked : Type 0
NothingAsked = report nothing_asked ([]) false
    ≡ codes "vmreport 1\ntally calls 0 ok 0 no-space 0 no-frames 0 no-atomic 0 not-live 0 refused 0\nevents 0\nframes 1024 mapped 0 stale 0\nfree 0..16\nend\n"

abbrev pub two_areas_with_guards : Tables
two_areas_with_guards = record {
  entries = record { caller = 0; call = 1; reply = reply.Address 0xffffc90000000000; event = 3 } ∷ record { caller = 0; call = 2; reply = reply.Address 0xffffc90000002000; event = 6 } ∷ [];
  events = 6;
  frames = 1021;
  mapped = 3;
  stale = 0;
  free = record { start = 5; pages = 11 } ∷ [];
  areas = record { span = record { start = 0; pages = 2 }; kind = kind.Vmalloc; caller = 0; serial = 1 } ∷ record { span = record { start = 2; pages = 3 }; kind = kind.Vmalloc; caller = 0; serial = 2 } ∷ [];
  waiting = [];
  blocks = [];
  parts = [];
  chunks = [];
  objects = [];
  tree_blocks = 0;
  tree_largest = 0;
  plain_largest = 0;
  chunk_audit = [];
  hints = [];
}

abbrev pub TwoAreasWithGuards : Type 0
TwoAreasWithGuards = report two_areas_with_guards ([]) false
    ≡ codes "vmreport 1\n0.1 0xffffc90000000000 @3\n0.2 0xffffc90000002000 @6\ntally calls 2 ok 2 no-space 0 no-frames 0 no-atomic 0 not-live 0 refused 0\nevents 6\nframes 1021 mapped 3 stale 0\nfree 5..16\narea 0..2 vmalloc caller 0 serial 1\narea 2..5 vmalloc caller 0 serial 2\nend\n"

-- two freed areas that touch wait apart, and a third is live
abbrev pub two_spans_wait : Tables
two_spans_wait = record {
  entries = record { caller = 0; call = 1; reply = reply.Address 0xffffc90000000000; event = 3 } ∷ record { caller = 0; call = 2; reply = reply.Address 0xffffc90000002000; event = 6 } ∷ record { caller = 0; call = 3; reply = reply.Address 0xffffc90000005000; event = 9 } ∷ record { caller = 0; call = 4; reply = reply.Done; event = 12 } ∷ record { caller = 0; call = 5; reply = reply.Done; event = 15 } ∷ record { caller = 0; call = 6; reply = reply.NotLive; event = 16 } ∷ [];
  events = 16;
  frames = 1023;
  mapped = 1;
  stale = 3;
  free = record { start = 7; pages = 9 } ∷ [];
  areas = record { span = record { start = 5; pages = 2 }; kind = kind.Vmalloc; caller = 0; serial = 3 } ∷ [];
  waiting = record { start = 0; pages = 2 } ∷ record { start = 2; pages = 3 } ∷ [];
  blocks = [];
  parts = [];
  chunks = [];
  objects = [];
  tree_blocks = 0;
  tree_largest = 0;
  plain_largest = 0;
  chunk_audit = [];
  hints = [];
}

abbrev pub TwoSpansWait : Type 0
TwoSpansWait = report two_spans_wait ([]) false
    ≡ codes "vmreport 1\n0.1 0xffffc90000000000 @3\n0.2 0xffffc90000002000 @6\n0.3 0xffffc90000005000 @9\n0.4 done @12\n0.5 done @15\n0.6 not-live @16\ntally calls 6 ok 5 no-space 0 no-frames 0 no-atomic 0 not-live 1 refused 0\nevents 16\nframes 1023 mapped 1 stale 3\nfree 7..16\narea 5..7 vmalloc caller 0 serial 3\nwait 0..2\nwait 2..5\nend\n"

abbrev pub blocks_and_parts : Tables
blocks_and_parts = record {
  entries = record { caller = 0; call = 1; reply = reply.Address 0xffffc90000000000; event = 6 } ∷ record { caller = 0; call = 2; reply = reply.Address 0xffffc90000004000; event = 9 } ∷ record { caller = 0; call = 3; reply = reply.Address 0xffffc90000008000; event = 15 } ∷ record { caller = 0; call = 4; reply = reply.Done; event = 18 } ∷ record { caller = 0; call = 5; reply = reply.Done; event = 23 } ∷ [];
  events = 23;
  frames = 1021;
  mapped = 3;
  stale = 6;
  free = record { start = 16; pages = 48 } ∷ [];
  areas = record { span = record { start = 8; pages = 8 }; kind = kind.Block 0; caller = 0; serial = 2 } ∷ [];
  waiting = record { start = 0; pages = 8 } ∷ [];
  blocks = record { start = 8; pages = 8; cpu = 0; free = 4; dirty = 0; low = 0; high = 0 } ∷ [];
  parts = record { span = record { start = 8; pages = 3 }; cpu = 0; caller = 0; serial = 3 } ∷ [];
  chunks = [];
  objects = [];
  tree_blocks = 0;
  tree_largest = 0;
  plain_largest = 0;
  chunk_audit = [];
  hints = [];
}

abbrev pub BlocksAndParts : Type 0
BlocksAndParts = report blocks_and_parts ([]) false
    ≡ codes "vmreport 1\n0.1 0xffffc90000000000 @6\n0.2 0xffffc90000004000 @9\n0.3 0xffffc90000008000 @15\n0.4 done @18\n0.5 done @23\ntally calls 5 ok 5 no-space 0 no-frames 0 no-atomic 0 not-live 0 refused 0\nevents 23\nframes 1021 mapped 3 stale 6\nfree 16..64\narea 8..16 block cpu 0 caller 0 serial 2\nwait 0..8\nblock 8..16 cpu 0 free 4 dirty 0 range -\npart 8..11 cpu 0 caller 0 serial 3\nend\n"

abbrev pub two_groups : Tables
two_groups = record {
  entries = record { caller = 0; call = 1; reply = reply.Address 0xffffc90000028000; event = 8 } ∷ [];
  events = 8;
  frames = 1022;
  mapped = 2;
  stale = 0;
  free = record { start = 0; pages = 40 } ∷ record { start = 48; pages = 8 } ∷ [];
  areas = record { span = record { start = 40; pages = 8 }; kind = kind.Chunk 0 0; caller = 0; serial = 1 } ∷ record { span = record { start = 56; pages = 8 }; kind = kind.Chunk 0 1; caller = 0; serial = 2 } ∷ [];
  waiting = [];
  blocks = [];
  parts = [];
  chunks = record { chunk = 0; base = 40; slot = 12; free = 32760; populated = 1; empty = 0; run_start = 0; run = 0 } ∷ [];
  objects = record { chunk = 0; off = 0; bytes = 8; caller = 0; serial = 1 } ∷ [];
  tree_blocks = 0;
  tree_largest = 0;
  plain_largest = 0;
  chunk_audit = [];
  hints = [];
}

abbrev pub TwoGroups : Type 0
TwoGroups = report two_groups ([]) false
    ≡ codes "vmreport 1\n0.1 0xffffc90000028000 @8\ntally calls 1 ok 1 no-space 0 no-frames 0 no-atomic 0 not-live 0 refused 0\nevents 8\nframes 1022 mapped 2 stale 0\nfree 0..40\nfree 48..56\narea 40..48 chunk 0 group 0 caller 0 serial 1\narea 56..64 chunk 0 group 1 caller 0 serial 2\nchunk 0 base 40 slot 12 free 32760 populated 1 empty 0\nobject 0 off 0 size 8 caller 0 serial 1\nend\n"

abbrev pub hints_audited : Tables
hints_audited = record {
  entries = record { caller = 0; call = 1; reply = reply.Address 0xffffc90000038000; event = 8 } ∷ record { caller = 0; call = 2; reply = reply.Address 0xffffc90000038800; event = 13 } ∷ record { caller = 0; call = 3; reply = reply.Address 0xffffc90000039800; event = 18 } ∷ record { caller = 0; call = 4; reply = reply.Done; event = 19 } ∷ [];
  events = 19;
  frames = 1016;
  mapped = 8;
  stale = 0;
  free = record { start = 0; pages = 56 } ∷ [];
  areas = record { span = record { start = 56; pages = 8 }; kind = kind.Chunk 0 0; caller = 0; serial = 1 } ∷ [];
  waiting = [];
  blocks = [];
  parts = [];
  chunks = record { chunk = 0; base = 56; slot = 10; free = 4096; populated = 8; empty = 0; run_start = 512; run = 1024 } ∷ [];
  objects = record { chunk = 0; off = 0; bytes = 2048; caller = 0; serial = 1 } ∷ record { chunk = 0; off = 6144; bytes = 26624; caller = 0; serial = 3 } ∷ [];
  tree_blocks = 1;
  tree_largest = 56;
  plain_largest = 56;
  chunk_audit = record { chunk = 0; run_start = 512; run = 1024; slot = 10; empty = 0 } ∷ [];
  hints = record { chunk = 0; block = 0; kept = record { run_start = 512; run = 512; left = 0; right = 512; first = 512 }; plain = record { run_start = 512; run = 512; left = 0; right = 512; first = 512 } } ∷ record { chunk = 0; block = 1; kept = record { run_start = 0; run = 512; left = 512; right = 0; first = 0 }; plain = record { run_start = 0; run = 512; left = 512; right = 0; first = 0 } } ∷ record { chunk = 0; block = 2; kept = record { run_start = 0; run = 0; left = 0; right = 0; first = 1024 }; plain = record { run_start = 0; run = 0; left = 0; right = 0; first = 1024 } } ∷ record { chunk = 0; block = 3; kept = record { run_start = 0; run = 0; left = 0; right = 0; first = 1024 }; plain = record { run_start = 0; run = 0; left = 0; right = 0; first = 1024 } } ∷ record { chunk = 0; block = 4; kept = record { run_start = 0; run = 0; left = 0; right = 0; first = 1024 }; plain = record { run_start = 0; run = 0; left = 0; right = 0; first = 1024 } } ∷ record { chunk = 0; block = 5; kept = record { run_start = 0; run = 0; left = 0; right = 0; first = 1024 }; plain = record { run_start = 0; run = 0; left = 0; right = 0; first = 1024 } } ∷ record { chunk = 0; block = 6; kept = record { run_start = 0; run = 0; left = 0; right = 0; first = 1024 }; plain = record { run_start = 0; run = 0; left = 0; right = 0; first = 1024 } } ∷ record { chunk = 0; block = 7; kept = record { run_start = 0; run = 0; left = 0; right = 0; first = 1024 }; plain = record { run_start = 0; run = 0; left = 0; right = 0; first = 1024 } } ∷ [];
}

abbrev pub HintsAudited : Type 0
HintsAudited = report hints_audited ([]) true
    ≡ codes "vmreport 1\n0.1 0xffffc90000038000 @8\n0.2 0xffffc90000038800 @13\n0.3 0xffffc90000039800 @18\n0.4 done @19\ntally calls 4 ok 4 no-space 0 no-frames 0 no-atomic 0 not-live 0 refused 0\nevents 19\nframes 1016 mapped 8 stale 0\nfree 0..56\narea 56..64 chunk 0 group 0 caller 0 serial 1\nchunk 0 base 56 slot 10 free 4096 populated 8 empty 0\nobject 0 off 0 size 2048 caller 0 serial 1\nobject 0 off 6144 size 26624 caller 0 serial 3\naudit tree blocks 1 largest 56 plain 56\naudit chunk 0 run 512+1024 plain 512+1024 slot 10 plain 10 empty 0 plain 0\naudit hint 0 0 run 512+512 left 0 right 512 first 512 plain 512+512 left 0 right 512 first 512\naudit hint 0 1 run 0+512 left 512 right 0 first 0 plain 0+512 left 512 right 0 first 0\naudit hint 0 2 run 0+0 left 0 right 0 first 1024 plain 0+0 left 0 right 0 first 1024\naudit hint 0 3 run 0+0 left 0 right 0 first 1024 plain 0+0 left 0 right 0 first 1024\naudit hint 0 4 run 0+0 left 0 right 0 first 1024 plain 0+0 left 0 right 0 first 1024\naudit hint 0 5 run 0+0 left 0 right 0 first 1024 plain 0+0 left 0 right 0 first 1024\naudit hint 0 6 run 0+0 left 0 right 0 first 1024 plain 0+0 left 0 right 0 first 1024\naudit hint 0 7 run 0+0 left 0 right 0 first 1024 plain 0+0 left 0 right 0 first 1024\nend\n"

abbrev pub counters_audited : Tables
counters_audited = record {
  entries = [];
  events = 0;
  frames = 1024;
  mapped = 0;
  stale = 0;
  free = record { start = 0; pages = 16 } ∷ [];
  areas = [];
  waiting = [];
  blocks = [];
  parts = [];
  chunks = [];
  objects = [];
  tree_blocks = 1;
  tree_largest = 16;
  plain_largest = 16;
  chunk_audit = [];
  hints = [];
}

abbrev pub CountersAudited : Type 0
CountersAudited = report counters_audited (record { total = negsuc 7; count = negsuc 7; cells = pos 0 ∷ [] } ∷ record { total = pos 31; count = pos 0; cells = pos 31 ∷ [] } ∷ []) true
    ≡ codes "vmreport 1\ntally calls 0 ok 0 no-space 0 no-frames 0 no-atomic 0 not-live 0 refused 0\nevents 0\nframes 1024 mapped 0 stale 0\nfree 0..16\ncounter 0 total -8\ncounter 1 total 31\naudit tree blocks 1 largest 16 plain 16\naudit counter 0 count -8 cells 0\naudit counter 1 count 0 cells 31\nend\n"

abbrev pub objects_refused : Tables
objects_refused = record {
  entries = record { caller = 0; call = 1; reply = reply.Address 0xffffc90000038000; event = 8 } ∷ record { caller = 0; call = 2; reply = reply.BadSize; event = 9 } ∷ record { caller = 0; call = 3; reply = reply.BadAlign; event = 10 } ∷ record { caller = 0; call = 4; reply = reply.BadSize; event = 11 } ∷ record { caller = 0; call = 5; reply = reply.Address 0xffffc90000030000; event = 19 } ∷ [];
  events = 19;
  frames = 1015;
  mapped = 9;
  stale = 0;
  free = record { start = 0; pages = 48 } ∷ [];
  areas = record { span = record { start = 48; pages = 8 }; kind = kind.Chunk 1 0; caller = 0; serial = 2 } ∷ record { span = record { start = 56; pages = 8 }; kind = kind.Chunk 0 0; caller = 0; serial = 1 } ∷ [];
  waiting = [];
  blocks = [];
  parts = [];
  chunks = record { chunk = 0; base = 56; slot = 0; free = 0; populated = 8; empty = 0; run_start = 0; run = 0 } ∷ record { chunk = 1; base = 48; slot = 12; free = 32760; populated = 1; empty = 0; run_start = 0; run = 0 } ∷ [];
  objects = record { chunk = 0; off = 0; bytes = 32768; caller = 0; serial = 1 } ∷ record { chunk = 1; off = 0; bytes = 8; caller = 0; serial = 2 } ∷ [];
  tree_blocks = 0;
  tree_largest = 0;
  plain_largest = 0;
  chunk_audit = [];
  hints = [];
}

abbrev pub ObjectsRefused : Type 0
ObjectsRefused = report objects_refused ([]) false
    ≡ codes "vmreport 1\n0.1 0xffffc90000038000 @8\n0.2 bad-size @9\n0.3 bad-align @10\n0.4 bad-size @11\n0.5 0xffffc90000030000 @19\ntally calls 5 ok 2 no-space 0 no-frames 0 no-atomic 0 not-live 0 refused 3\nevents 19\nframes 1015 mapped 9 stale 0\nfree 0..48\narea 48..56 chunk 1 group 0 caller 0 serial 2\narea 56..64 chunk 0 group 0 caller 0 serial 1\nchunk 0 base 56 slot 0 free 0 populated 8 empty 0\nchunk 1 base 48 slot 12 free 32760 populated 1 empty 0\nobject 0 off 0 size 32768 caller 0 serial 1\nobject 1 off 0 size 8 caller 0 serial 2\nend\n"

abbrev pub calls_refused : Tables
calls_refused = record {
  entries = record { caller = 0; call = 1; reply = reply.NoFrames; event = 3 } ∷ record { caller = 0; call = 2; reply = reply.Unbound; event = 4 } ∷ record { caller = 0; call = 3; reply = reply.BadSize; event = 5 } ∷ record { caller = 0; call = 4; reply = reply.BadAlign; event = 6 } ∷ [];
  events = 6;
  frames = 1;
  mapped = 0;
  stale = 0;
  free = record { start = 0; pages = 16 } ∷ [];
  areas = [];
  waiting = [];
  blocks = [];
  parts = [];
  chunks = [];
  objects = [];
  tree_blocks = 0;
  tree_largest = 0;
  plain_largest = 0;
  chunk_audit = [];
  hints = [];
}

abbrev pub CallsRefused : Type 0
CallsRefused = report calls_refused ([]) false
    ≡ codes "vmreport 1\n0.1 no-frames @3\n0.2 unbound @4\n0.3 bad-size @5\n0.4 bad-align @6\ntally calls 4 ok 0 no-space 0 no-frames 1 no-atomic 0 not-live 0 refused 3\nevents 6\nframes 1 mapped 0 stale 0\nfree 0..16\nend\n"

abbrev pub deep_sum : Tables
deep_sum = record {
  entries = record { caller = 0; call = 1; reply = reply.Address 0xffffc90000038000; event = 8 } ∷ record { caller = 0; call = 2; reply = reply.Done; event = 9 } ∷ record { caller = 0; call = 3; reply = reply.Done; event = 10 } ∷ record { caller = 0; call = 4; reply = reply.Sum (negsuc 4294967295); event = 11 } ∷ [];
  events = 11;
  frames = 1023;
  mapped = 1;
  stale = 0;
  free = record { start = 0; pages = 56 } ∷ [];
  areas = record { span = record { start = 56; pages = 8 }; kind = kind.Chunk 0 0; caller = 0; serial = 1 } ∷ [];
  waiting = [];
  blocks = [];
  parts = [];
  chunks = record { chunk = 0; base = 56; slot = 12; free = 32764; populated = 1; empty = 0; run_start = 0; run = 0 } ∷ [];
  objects = record { chunk = 0; off = 0; bytes = 4; caller = 0; serial = 1 } ∷ [];
  tree_blocks = 0;
  tree_largest = 0;
  plain_largest = 0;
  chunk_audit = [];
  hints = [];
}

abbrev pub DeepSum : Type 0
DeepSum = report deep_sum ([]) false
    ≡ codes "vmreport 1\n0.1 0xffffc90000038000 @8\n0.2 done @9\n0.3 done @10\n0.4 sum -4294967296 @11\ntally calls 4 ok 4 no-space 0 no-frames 0 no-atomic 0 not-live 0 refused 0\nevents 11\nframes 1023 mapped 1 stale 0\nfree 0..56\narea 56..64 chunk 0 group 0 caller 0 serial 1\nchunk 0 base 56 slot 12 free 32764 populated 1 empty 0\nobject 0 off 0 size 4 caller 0 serial 1\nend\n"

abbrev pub spare_chunk : Tables
spare_chunk = record {
  entries = record { caller = 0; call = 1; reply = reply.Address 0xffffc90000028000; event = 8 } ∷ record { caller = 0; call = 2; reply = reply.Address 0xffffc90000020000; event = 16 } ∷ record { caller = 0; call = 3; reply = reply.Done; event = 17 } ∷ record { caller = 0; call = 4; reply = reply.Done; event = 18 } ∷ record { caller = 0; call = 5; reply = reply.Count 3; event = 35 } ∷ [];
  events = 35;
  frames = 1016;
  mapped = 8;
  stale = 16;
  free = record { start = 0; pages = 32 } ∷ [];
  areas = record { span = record { start = 40; pages = 8 }; kind = kind.Chunk 0 0; caller = 0; serial = 1 } ∷ record { span = record { start = 56; pages = 8 }; kind = kind.Chunk 0 1; caller = 0; serial = 2 } ∷ [];
  waiting = record { start = 32; pages = 8 } ∷ record { start = 48; pages = 8 } ∷ [];
  blocks = [];
  parts = [];
  chunks = record { chunk = 0; base = 40; slot = 15; free = 32768; populated = 4; empty = 4; run_start = 0; run = 0 } ∷ [];
  objects = [];
  tree_blocks = 0;
  tree_largest = 0;
  plain_largest = 0;
  chunk_audit = [];
  hints = [];
}

abbrev pub SpareChunk : Type 0
SpareChunk = report spare_chunk ([]) false
    ≡ codes "vmreport 1\n0.1 0xffffc90000028000 @8\n0.2 0xffffc90000020000 @16\n0.3 done @17\n0.4 done @18\n0.5 count 3 @35\ntally calls 5 ok 5 no-space 0 no-frames 0 no-atomic 0 not-live 0 refused 0\nevents 35\nframes 1016 mapped 8 stale 16\nfree 0..32\narea 40..48 chunk 0 group 0 caller 0 serial 1\narea 56..64 chunk 0 group 1 caller 0 serial 2\nwait 32..40\nwait 48..56\nchunk 0 base 40 slot 15 free 32768 populated 4 empty 4\nend\n"

abbrev pub every_kind_of_line : Tables
every_kind_of_line = record {
  entries = record { caller = 0; call = 1; reply = reply.Address 0xffffc90000000000; event = 3 } ∷ record { caller = 0; call = 2; reply = reply.Address 0xffffc90000008000; event = 9 } ∷ record { caller = 0; call = 3; reply = reply.Address 0xffffc9000000c000; event = 12 } ∷ record { caller = 0; call = 4; reply = reply.Address 0xffffc90000002000; event = 15 } ∷ record { caller = 0; call = 5; reply = reply.Done; event = 18 } ∷ record { caller = 0; call = 6; reply = reply.Address 0xffffc90000048000; event = 26 } ∷ record { caller = 0; call = 7; reply = reply.Done; event = 27 } ∷ record { caller = 0; call = 8; reply = reply.Sum (pos 5); event = 28 } ∷ record { caller = 0; call = 9; reply = reply.Done; event = 31 } ∷ record { caller = 0; call = 10; reply = reply.Count 4; event = 47 } ∷ record { caller = 0; call = 11; reply = reply.BadSize; event = 48 } ∷ [];
  events = 48;
  frames = 1006;
  mapped = 18;
  stale = 4;
  free = record { start = 16; pages = 56 } ∷ record { start = 80; pages = 8 } ∷ [];
  areas = record { span = record { start = 2; pages = 6 }; kind = kind.MapRam; caller = 0; serial = 3 } ∷ record { span = record { start = 8; pages = 8 }; kind = kind.Block 0; caller = 0; serial = 2 } ∷ record { span = record { start = 72; pages = 8 }; kind = kind.Chunk 0 0; caller = 0; serial = 4 } ∷ record { span = record { start = 88; pages = 8 }; kind = kind.Chunk 0 1; caller = 0; serial = 5 } ∷ [];
  waiting = record { start = 0; pages = 2 } ∷ [];
  blocks = record { start = 8; pages = 8; cpu = 0; free = 2; dirty = 4; low = 0; high = 4 } ∷ [];
  parts = record { span = record { start = 12; pages = 2 }; cpu = 0; caller = 0; serial = 2 } ∷ [];
  chunks = record { chunk = 0; base = 72; slot = 12; free = 32760; populated = 5; empty = 4; run_start = 2; run = 8190 } ∷ [];
  objects = record { chunk = 0; off = 0; bytes = 8; caller = 0; serial = 1 } ∷ [];
  tree_blocks = 2;
  tree_largest = 56;
  plain_largest = 56;
  chunk_audit = record { chunk = 0; run_start = 2; run = 8190; slot = 12; empty = 4 } ∷ [];
  hints = record { chunk = 0; block = 0; kept = record { run_start = 2; run = 1022; left = 0; right = 1022; first = 2 }; plain = record { run_start = 2; run = 1022; left = 0; right = 1022; first = 2 } } ∷ record { chunk = 0; block = 1; kept = record { run_start = 0; run = 1024; left = 1024; right = 1024; first = 0 }; plain = record { run_start = 0; run = 1024; left = 1024; right = 1024; first = 0 } } ∷ record { chunk = 0; block = 2; kept = record { run_start = 0; run = 1024; left = 1024; right = 1024; first = 0 }; plain = record { run_start = 0; run = 1024; left = 1024; right = 1024; first = 0 } } ∷ record { chunk = 0; block = 3; kept = record { run_start = 0; run = 1024; left = 1024; right = 1024; first = 0 }; plain = record { run_start = 0; run = 1024; left = 1024; right = 1024; first = 0 } } ∷ record { chunk = 0; block = 4; kept = record { run_start = 0; run = 1024; left = 1024; right = 1024; first = 0 }; plain = record { run_start = 0; run = 1024; left = 1024; right = 1024; first = 0 } } ∷ record { chunk = 0; block = 5; kept = record { run_start = 0; run = 1024; left = 1024; right = 1024; first = 0 }; plain = record { run_start = 0; run = 1024; left = 1024; right = 1024; first = 0 } } ∷ record { chunk = 0; block = 6; kept = record { run_start = 0; run = 1024; left = 1024; right = 1024; first = 0 }; plain = record { run_start = 0; run = 1024; left = 1024; right = 1024; first = 0 } } ∷ record { chunk = 0; block = 7; kept = record { run_start = 0; run = 1024; left = 1024; right = 1024; first = 0 }; plain = record { run_start = 0; run = 1024; left = 1024; right = 1024; first = 0 } } ∷ [];
}

abbrev pub EveryKindOfLine : Type 0
EveryKindOfLine = report every_kind_of_line (record { total = pos 40; count = pos 40; cells = pos 0 ∷ pos 0 ∷ [] } ∷ record { total = negsuc 2; count = pos 0; cells = negsuc 2 ∷ pos 0 ∷ [] } ∷ []) true
    ≡ codes "vmreport 1\n0.1 0xffffc90000000000 @3\n0.2 0xffffc90000008000 @9\n0.3 0xffffc9000000c000 @12\n0.4 0xffffc90000002000 @15\n0.5 done @18\n0.6 0xffffc90000048000 @26\n0.7 done @27\n0.8 sum 5 @28\n0.9 done @31\n0.10 count 4 @47\n0.11 bad-size @48\ntally calls 11 ok 10 no-space 0 no-frames 0 no-atomic 0 not-live 0 refused 1\nevents 48\nframes 1006 mapped 18 stale 4\nfree 16..72\nfree 80..88\narea 2..8 ram caller 0 serial 3\narea 8..16 block cpu 0 caller 0 serial 2\narea 72..80 chunk 0 group 0 caller 0 serial 4\narea 88..96 chunk 0 group 1 caller 0 serial 5\nwait 0..2\nblock 8..16 cpu 0 free 2 dirty 4 range 0..4\npart 12..14 cpu 0 caller 0 serial 2\nchunk 0 base 72 slot 12 free 32760 populated 5 empty 4\nobject 0 off 0 size 8 caller 0 serial 1\ncounter 0 total 40\ncounter 1 total -3\naudit tree blocks 2 largest 56 plain 56\naudit chunk 0 run 2+8190 plain 2+8190 slot 12 plain 12 empty 4 plain 4\naudit hint 0 0 run 2+1022 left 0 right 1022 first 2 plain 2+1022 left 0 right 1022 first 2\naudit hint 0 1 run 0+1024 left 1024 right 1024 first 0 plain 0+1024 left 1024 right 1024 first 0\naudit hint 0 2 run 0+1024 left 1024 right 1024 first 0 plain 0+1024 left 1024 right 1024 first 0\naudit hint 0 3 run 0+1024 left 1024 right 1024 first 0 plain 0+1024 left 1024 right 1024 first 0\naudit hint 0 4 run 0+1024 left 1024 right 1024 first 0 plain 0+1024 left 1024 right 1024 first 0\naudit hint 0 5 run 0+1024 left 1024 right 1024 first 0 plain 0+1024 left 1024 right 1024 first 0\naudit hint 0 6 run 0+1024 left 1024 right 1024 first 0 plain 0+1024 left 1024 right 1024 first 0\naudit hint 0 7 run 0+1024 left 1024 right 1024 first 0 plain 0+1024 left 1024 right 1024 first 0\naudit counter 0 count 40 cells 0 0\naudit counter 1 count 0 cells -3 0\nend\n"
