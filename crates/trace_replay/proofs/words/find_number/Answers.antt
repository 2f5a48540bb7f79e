use Rattle.std.proofs.Common.{◌≡◌, not, decimal, sym, ap, ◌∙◌, arith}
use Rattle.std.proofs.lemmas.Bool.{false≢true}
use Rattle.std.proofs.lemmas.Fmt.{parse-decimal}
use Rattle.std.proofs.lemmas.Slice.Eq.{bytes_eq-Decides}
use Rattle.trace_replay.proofs.words.find_number.Goals as goal
use Rattle.trace_replay.proofs.words.find_number.Goals.{then-most-n-via-then-most-n, then-most-n-via-else-most-n+then-ne}

pub returns-in_default-clause-none : goal.returns-in_default-clause-none
returns-in_default-clause-none c = λ n low e. let most = c.ranges.most in absurd (cc (parse-decimal 32 n c.args.word.now c.parse.result (omega arith) (omega arith) e c.parse.ensures.value.0))

pub returns-then-most-n-clause-none : goal.returns-then-most-n-clause-none
returns-then-most-n-clause-none c = λ n low e.
    let most = c.ranges.most in
    let same : c.in-Ok.n ≡ n = cc (parse-decimal 32 n c.args.word.now c.parse.result (omega arith) (omega arith) e c.parse.ensures.value.0) in
    elim c.then-most-n.branch [
      | then-most-n-via-then-most-n w ↦ let above = w.if-most-n.true in absurd (omega arith)
      | then-most-n-via-else-most-n+then-ne w ↦ (
          let spelled : w.format.result.now ≡ c.args.word.now = w.format.ensures.text ∙ ap decimal same ∙ sym e in
          let is = (bytes_eq-Decides w.format.result.now c.args.word.now).1 spelled in
          absurd (false≢true (sym (ap not is) ∙ sym w.ne.ensures ∙ w.if-ne.true))
          )
    ]
