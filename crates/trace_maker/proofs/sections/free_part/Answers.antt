use Rattle.std.proofs.Common.{refl}
use Rattle.std.proofs.lemmas.Result.{on_ok_weaker}
use Rattle.trace_maker.proofs.SectionLines.{part_freed}
use Rattle.trace_maker.proofs.sections.free_part.Goals as goal

pub returns : goal.returns
returns c = on_ok_weaker c.free_oldest.result (λ f s w. part_freed s c.args.section.now _ w f refl refl) c.free_oldest.ensures
