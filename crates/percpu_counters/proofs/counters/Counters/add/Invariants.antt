use Rattle.percpu_counters.proofs.counters.Counters.add.Given as goal

abbrev pub ghosts-add_line : goal.ghosts-add_line
ghosts-add_line a = record { line = a.line }
