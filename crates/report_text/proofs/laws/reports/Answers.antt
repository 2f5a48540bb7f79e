use Rattle.report_text.proofs.ReportTexts as text
use Rattle.report_text.proofs.laws.reports.Goals as goal

pub returns : goal.returns
returns c = record {
  nothing_asked = text.nothing_asked;
  two_areas_with_guards = text.two_areas_with_guards;
  two_spans_wait = text.two_spans_wait;
  blocks_and_parts = text.blocks_and_parts;
  two_groups = text.two_groups;
  hints_audited = text.hints_audited;
  counters_audited = text.counters_audited;
  objects_refused = text.objects_refused;
  calls_refused = text.calls_refused;
  deep_sum = text.deep_sum;
  spare_chunk = text.spare_chunk;
  every_kind_of_line = text.every_kind_of_line;
}
