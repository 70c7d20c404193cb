use Rattle.cases_boards.proofs.driven.Driven.finish.Given as goal

abbrev pub ghosts-worked : goal.ghosts-worked
ghosts-worked a = record { name = a.blank.name; parts = a.blank.parts }
