use Rattle.actus.proofs.main.Given as goal

abbrev pub ghosts-run : goal.ghosts-run
ghosts-run a b = record { name = b.blank.name; parts = b.blank.parts }
