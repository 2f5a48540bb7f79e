use Rattle.std.proofs.Common.{sym, ◌∙◌, arith}
use Rattle.trace_text.specs.Reading.{unread}
use Rattle.trace_text.proofs.HeaderLines.{block_refused, block_stands, block_sizes}
use Rattle.trace_text.proofs.header_lines.read_block.Goals as goal

pub returns-then-progress-lt-SPACE : goal.returns-then-progress-lt-SPACE
returns-then-progress-lt-SPACE c = λ r held. block_refused c.args.progress.now c.args.progress.now r c.args.text.now c.in-Some.pages c.in-Some.part_limit held c.in-Some.ensures.some.0 c.in-Some.ensures.some.1 c.in-Some.ensures.some.2 (λ after before sizes. grind arith)

pub returns-then-not-are_block_sizes : goal.returns-then-not-are_block_sizes
returns-then-not-are_block_sizes c = λ r held. block_refused c.args.progress.now c.args.progress.now r c.args.text.now c.in-Some.pages c.in-Some.part_limit held c.in-Some.ensures.some.0 c.in-Some.ensures.some.1 c.in-Some.ensures.some.2
    (λ after before sizes. let other = sym (c.are_block_sizes.ensures r) ∙ c.if-not-are_block_sizes.true in cc)

pub overflow_cast-progress : goal.overflow_cast-progress
overflow_cast-progress c = let few = block_sizes unread c.in-Some.pages c.in-Some.part_limit (sym (c.are_block_sizes.ensures unread) ∙ c.if-not-are_block_sizes.false) in omega arith

pub overflow_cast-progress-2 : goal.overflow_cast-progress-2
overflow_cast-progress-2 c = let few = block_sizes unread c.in-Some.pages c.in-Some.part_limit (sym (c.are_block_sizes.ensures unread) ∙ c.if-not-are_block_sizes.false) in omega arith

pub returns : goal.returns
returns c = λ r held. block_stands c.args.progress.now r c.args.text.now c.in-Some.pages c.in-Some.part_limit held c.in-Some.ensures.some.0 c.in-Some.ensures.some.1 c.in-Some.ensures.some.2 (omega arith) (omega arith) (sym (c.are_block_sizes.ensures r) ∙ c.if-not-are_block_sizes.false)
