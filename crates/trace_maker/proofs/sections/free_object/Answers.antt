use Rattle.std.proofs.Common.{refl}
use Rattle.std.proofs.lemmas.Result.{on_ok_weaker}
use Rattle.trace_maker.proofs.SectionLines.{object_freed}
use Rattle.trace_maker.proofs.sections.free_object.Goals as goal

pub returns : goal.returns
returns c = on_ok_weaker c.free_oldest.result (λ f s w. object_freed s c.args.section.now _ w f refl refl) c.free_oldest.ensures
