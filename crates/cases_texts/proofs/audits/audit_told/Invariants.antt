use Rattle.cases_texts.proofs.audits.audit_told.Given as goal

abbrev pub ghosts-judge : goal.ghosts-judge
ghosts-judge a = record { name = a.blank.name; parts = a.blank.parts }
