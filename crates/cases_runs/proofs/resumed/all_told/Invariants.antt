use Rattle.cases_runs.proofs.resumed.all_told.Given as goal

abbrev pub ghosts-versions_told : goal.ghosts-versions_told
ghosts-versions_told a = record { name = a.blank.name; parts = a.blank.parts }
