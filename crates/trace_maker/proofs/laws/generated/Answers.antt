use Rattle.trace_maker.proofs.MakingTexts.{makes_one_line, makes_forty_lines}
use Rattle.trace_maker.proofs.laws.generated.Goals as goal

pub returns : goal.returns
returns c = record { one_line = makes_one_line; forty_lines = makes_forty_lines }
