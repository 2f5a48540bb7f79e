use Rattle.percpu_counters.proofs.counters.Counters.split.Given as goal

abbrev pub ghosts-cut : goal.ghosts-cut
ghosts-cut a = record { room = a.room }
