use Rattle.std.proofs.Common.{sym, ◌∙◌, arith}
use Rattle.trace_text.specs.Reading.{unread}
use Rattle.trace_text.proofs.HeaderLines.{unit_refused, unit_stands, unit_sizes}
use Rattle.trace_text.proofs.header_lines.read_unit.Goals as goal

pub returns-then-progress-lt-SPACE : goal.returns-then-progress-lt-SPACE
returns-then-progress-lt-SPACE c = λ r held. unit_refused c.args.progress.now c.args.progress.now r c.args.text.now c.in-Some.pages c.in-Some.atom held c.in-Some.ensures.some.0 c.in-Some.ensures.some.1 c.in-Some.ensures.some.2 (λ after before sizes. grind arith)

pub returns-then-not-are_unit_sizes : goal.returns-then-not-are_unit_sizes
returns-then-not-are_unit_sizes c = λ r held. unit_refused c.args.progress.now c.args.progress.now r c.args.text.now c.in-Some.pages c.in-Some.atom held c.in-Some.ensures.some.0 c.in-Some.ensures.some.1 c.in-Some.ensures.some.2
    (λ after before sizes. let other = sym (c.are_unit_sizes.ensures r) ∙ c.if-not-are_unit_sizes.true in cc)

pub overflow_cast-progress : goal.overflow_cast-progress
overflow_cast-progress c = let few = unit_sizes unread c.in-Some.pages c.in-Some.atom (sym (c.are_unit_sizes.ensures unread) ∙ c.if-not-are_unit_sizes.false) in omega arith

pub overflow_cast-progress-2 : goal.overflow_cast-progress-2
overflow_cast-progress-2 c = let few = unit_sizes unread c.in-Some.pages c.in-Some.atom (sym (c.are_unit_sizes.ensures unread) ∙ c.if-not-are_unit_sizes.false) in omega arith

pub returns : goal.returns
returns c = λ r held. unit_stands c.args.progress.now r c.args.text.now c.in-Some.pages c.in-Some.atom held c.in-Some.ensures.some.0 c.in-Some.ensures.some.1 c.in-Some.ensures.some.2 (omega arith) (omega arith) (sym (c.are_unit_sizes.ensures r) ∙ c.if-not-are_unit_sizes.false)
