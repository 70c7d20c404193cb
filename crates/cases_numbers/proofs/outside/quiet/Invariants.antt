use Rattle.cases_numbers.proofs.outside.quiet.Given as goal

abbrev pub ghosts-steps : goal.ghosts-steps
ghosts-steps a = record { name = a.blank.name; parts = a.blank.parts }
