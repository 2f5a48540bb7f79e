use Rattle.std.proofs.Common.{codes, decimal, refl}
use Rattle.text_lines.proofs.JoinedFields.{words_step}
use Rattle.report_text.proofs.writer.write_schedule.Goals as goal

pub loop-pick-preserved : goal.loop-pick-preserved
loop-pick-preserved c =
    words_step decimal c.args.picks.now c.loop-pick.pick-index _ _ (codes "schedule") c.loop-pick.text.items c.put_words.new.text.items c.loop-pick-test.true refl c.loop-pick.invariant c.in_ok-put_words.ensures
