use Rattle.section_table.proofs.sections.Sections.split.Given as goal

abbrev pub ghosts-cut : goal.ghosts-cut
ghosts-cut g a = record { caller = a._caller }
