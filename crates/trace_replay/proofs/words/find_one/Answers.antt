use Rattle.std.proofs.Common.{◌≡◌, ◌≢◌, codes, subst, MatchBool}
use Rattle.trace_replay.proofs.OneCommand.{no_word}
use Rattle.trace_replay.proofs.words.find_one.Goals as goal

pub returns-in-None-clause-none : goal.returns-in-None-clause-none
returns-in-None-clause-none c =
    no_word c.args.word.now (subst (λ b. MatchBool b (c.args.word.now ≡ codes "live") (c.args.word.now ≢ codes "live")) c.if-is_live.false c.is_live.ensures) c.in-None.ensures.none
