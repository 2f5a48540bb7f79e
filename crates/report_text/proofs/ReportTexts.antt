-- The texts of the reports compute.
use Rattle.std.proofs.Common.{refl}
use Rattle.std.specs.Fmt.{digits}
use Rattle.report_text.specs.ReportRows.{NothingAsked, TwoAreasWithGuards, TwoSpansWait, BlocksAndParts, TwoGroups, HintsAudited, CountersAudited, ObjectsRefused, CallsRefused, DeepSum, SpareChunk, EveryKindOfLine}

pub nothing_asked : NothingAsked
unfolding digits
nothing_asked = refl

pub two_areas_with_guards : TwoAreasWithGuards
unfolding digits
two_areas_with_guards = refl

pub two_spans_wait : TwoSpansWait
unfolding digits
two_spans_wait = refl

pub blocks_and_parts : BlocksAndParts
unfolding digits
blocks_and_parts = refl

pub two_groups : TwoGroups
unfolding digits
two_groups = refl

pub hints_audited : HintsAudited
unfolding digits
hints_audited = refl

pub counters_audited : CountersAudited
unfolding digits
counters_audited = refl

pub objects_refused : ObjectsRefused
unfolding digits
objects_refused = refl

pub calls_refused : CallsRefused
unfolding digits
calls_refused = refl

pub deep_sum : DeepSum
unfolding digits
deep_sum = refl

pub spare_chunk : SpareChunk
unfolding digits
spare_chunk = refl

pub every_kind_of_line : EveryKindOfLine
unfolding digits
every_kind_of_line = refl
