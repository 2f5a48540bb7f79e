use Rattle.std.proofs.Common.{All, sym, ◌∙◌, subst}
use Rattle.lazy_purge.specs.WaitingSet.{HasPage}
use Rattle.section_core.proofs.purge.wait_for_blocks.Goals as goal

pub add-requires-clause-some : goal.add-requires-clause-some
add-requires-clause-some c = subst (All HasPage) (sym (c.deref.ensures.value ∙ c.in_ok-spans.ensures)) c.requires.stands.some
