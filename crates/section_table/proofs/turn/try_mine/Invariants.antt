use Rattle.section_table.proofs.turn.try_mine.Given as goal

abbrev pub ghosts-attempt : goal.ghosts-attempt
ghosts-attempt g a = record { caller = a.caller }
