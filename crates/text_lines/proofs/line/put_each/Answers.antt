use Rattle.std.proofs.Common.{refl}
use Rattle.text_lines.specs.Fields.{field_text}
use Rattle.text_lines.proofs.JoinedFields.{words_step}
use Rattle.text_lines.proofs.line.put_each.Goals as goal

pub loop-word-preserved : goal.loop-word-preserved
loop-word-preserved c =
    words_step field_text c.args.words.now c.loop-word.word-index _ _ c.args.text.now.items c.loop-word.text.items c.put_spaced.new.text.items c.loop-word-test.true refl c.loop-word.invariant c.in_ok-put_spaced.ensures
