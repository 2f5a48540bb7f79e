use Rattle.std.proofs.Common.{◌≡◌, ◌++◌, ◌∷◌, [], take, map, decimal, codes}
use Rattle.vm_model.specs.Words.{fields}
use Rattle.report_text.proofs.writer.write_schedule.Given as goal

abbrev pub invariant-loop-pick : goal.invariant-loop-pick
invariant-loop-pick l = l.text.items ≡ codes "schedule" ++ fields ([] ∷ map decimal (take l.pick-index l.picks))
