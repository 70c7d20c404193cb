use Rattle.cases_texts.proofs.alone.evaluated.Given as goal

abbrev pub ghosts-evaluate : goal.ghosts-evaluate
ghosts-evaluate a = record { name = a.blank.name; parts = a.blank.parts }
