use Rattle.std.proofs.Common.{ℕ, ◌≤◌, subst, sym, arith}
use Rattle.std.proofs.lemmas.List.Elements.{All-set}
use Rattle.act_turn.specs.Standing.{IsFree}
use Rattle.cases_desks.specs.Caller.{Plays}
use Rattle.cases_desks.proofs.Playing.{first-pass, first-plays}
use Rattle.cases_desks.proofs.given_up.steps.Goals as goal

pub begin-requires : goal.begin-requires
begin-requires g c =
    let one : 1 ≤ 1 = omega arith in
    subst (λ (n : ℕ). Plays c.in-Ok.desk c.index_mut.result.now n c.args.caller.now.open_asks) (sym c.requires.number)
    (first-plays _ _ _ _ _ (first-pass c.in-Ok.desk _ _ _ _ 0 c.in-Ok.ensures.portfolio (omega (arith, c.in-Ok.ensures.seats)) c.in-Ok.ensures.passes c.index_mut.ensures.value) one c.requires.none)

pub close-board-requires-clause-free : goal.close-board-requires-clause-free
close-board-requires-clause-free g c =
    All-set (IsFree c.in-Ok.desk.id) _ 0 c.go_on.new.pass c.go_on.ensures
    (All-set (IsFree c.in-Ok.desk.id) _ 1 c.give_up_task.new.pass c.give_up_task.ensures
    (All-set (IsFree c.in-Ok.desk.id) c.in-Ok.passes.items 0 c.begin.new.pass c.begin.ensures.free c.in-Ok.ensures.free))
