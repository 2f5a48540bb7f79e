-- Worked traces from the bytes in to the bytes out.
use Rattle.std.specs.Prelude.{◌≡◌, ℕ, List, codes}
use Rattle.trace_text.specs.Reading.{Reading}
use Rattle.trace_text.specs.Grammar.{IsTraceOf}
use Rattle.trace_text.specs.ToldTraces.{LayoutStands}
use Rattle.trace_replay.specs.declared.words.Mode.{Mode}
use Rattle.trace_replay.specs.declared.words.Mode.TheVariants.{Replay, Audit}
use Rattle.trace_replay.specs.Headline.{report_of}

-- the bytes are a trace whose layout stands, and this is the report of each trace that they are
pub record IsReplayedAs (mode : Mode) (bytes text : List ℕ) : Type 0 where
  pub trace : (r : Reading) × IsTraceOf bytes r
  pub stands : LayoutStands bytes
  pub report : (r : Reading) → IsTraceOf bytes r → report_of mode r ≡ text

abbrev pub free_space : List ℕ
free_space = codes "vmtrace 1\nspace 16\nend\n"

abbrev pub free_space_report : List ℕ
free_space_report = codes "vmreport 1\ntally calls 0 ok 0 no-space 0 no-frames 0 no-atomic 0 not-live 0 refused 0\nevents 0\nframes 1024 mapped 0 stale 0\nfree 0..16\nend\n"

abbrev pub OneFreeSpace : Type 0
OneFreeSpace = IsReplayedAs Replay free_space free_space_report

-- with audit lines, of which one is there where no chunk and no counter is
abbrev pub free_space_audit : List ℕ
free_space_audit = codes "vmreport 1\ntally calls 0 ok 0 no-space 0 no-frames 0 no-atomic 0 not-live 0 refused 0\nevents 0\nframes 1024 mapped 0 stale 0\nfree 0..16\naudit tree blocks 1 largest 16 plain 16\nend\n"

abbrev pub OneFreeSpaceAudited : Type 0
OneFreeSpaceAudited = IsReplayedAs Audit free_space free_space_audit

abbrev pub two_areas : List ℕ
two_areas = codes "vmtrace 1\nspace 16\nvmalloc a 1 1\nvmalloc b 4097 1\nend\n"

abbrev pub two_areas_report : List ℕ
two_areas_report = codes "vmreport 1\n0.1 0xffffc90000000000 @3\n0.2 0xffffc90000002000 @6\ntally calls 2 ok 2 no-space 0 no-frames 0 no-atomic 0 not-live 0 refused 0\nevents 6\nframes 1021 mapped 3 stale 0\nfree 5..16\narea 0..2 vmalloc caller 0 serial 1\narea 2..5 vmalloc caller 0 serial 2\nend\n"

abbrev pub TwoAreasWithGuards : Type 0
TwoAreasWithGuards = IsReplayedAs Replay two_areas two_areas_report

-- caller 2 carves before caller 1 does, and settles first
abbrev pub two_callers : List ℕ
two_callers = codes "vmtrace 1\nspace 16\ncallers 2\ncaller 1\nvmalloc a 4096 1\ncaller 2\nvmalloc b 4096 1\norder 2 1 1 2 2\nend\n"

abbrev pub two_callers_report : List ℕ
two_callers_report = codes "vmreport 1\n1.1 0xffffc90000002000 @6\n2.1 0xffffc90000000000 @5\ntally calls 2 ok 2 no-space 0 no-frames 0 no-atomic 0 not-live 0 refused 0\nevents 6\nframes 1022 mapped 2 stale 0\nfree 4..16\narea 0..2 vmalloc caller 2 serial 1\narea 2..4 vmalloc caller 1 serial 2\nend\n"

abbrev pub PlacesAsPicked : Type 0
PlacesAsPicked = IsReplayedAs Replay two_callers two_callers_report

-- caller 1 has the purge turn at the fourth pick, which is caller 2's
abbrev pub two_purges : List ℕ
two_purges = codes "vmtrace 1\nspace 2\ncallers 2\ncaller 1\nvmalloc a 8192 1\ncaller 2\nvmalloc b 8192 1\norder 1 2 1 2\nend\n"

abbrev pub two_purges_report : List ℕ
two_purges_report = codes "vmreport 1\n1.1 no-space @7\n2.1 no-space @12\ntally calls 2 ok 0 no-space 2 no-frames 0 no-atomic 0 not-live 0 refused 0\nevents 12\nframes 1024 mapped 0 stale 0\nfree 0..2\nend\n"

abbrev pub APickStays : Type 0
APickStays = IsReplayedAs Replay two_purges two_purges_report
