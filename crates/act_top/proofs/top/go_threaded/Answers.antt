use Rattle.act_top.proofs.top.go_threaded.Goals as goal

pub returns-in-Desk : goal.returns-in-Desk
returns-in-Desk g c = λ rows. rw c.in-Desk.is (c.run_desk.ensures rows)
