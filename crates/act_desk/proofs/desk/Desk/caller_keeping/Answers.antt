use Rattle.act_desk.proofs.Making.{made, stopped}
use Rattle.act_desk.proofs.Watching.{given_up-seen, left-seen, prefix-trans, step-begins, watched-give_up, watched-present}
use Rattle.act_desk.proofs.Way.{making-none, making-present}
use Rattle.std.proofs.Common.{◌≡◌, ◌∙◌, true, inr}
use Rattle.act_history.specs.History.{is_given_up}
use Rattle.act_desk.specs.Making.{HasWatched}
use Rattle.act_desk.specs.Step.{HasSeen}
use Rattle.act_desk.proofs.desk.Desk.caller_keeping.Goals.{After-give_up}
use Rattle.act_desk.proofs.desk.Desk.caller_keeping.Goals as goal

watched : (g : _) (c : After-give_up g) → HasWatched c.make.new.pass c.give_up.new.pass
watched g c = let making = c.in-Err.ensures.some.1 in watched-give_up _ _ _ making.number making.now making.seen c.give_up.ensures

gave : (g : _) (c : After-give_up g) → HasSeen c.give_up.new.pass (λ history. is_given_up history ≡ true)
gave g c = let making = c.in-Err.ensures.some.1 in given_up-seen _ _ _ making.number making.now making.seen c.give_up.ensures

pub leave-requires-clause-done : goal.leave-requires-clause-done
leave-requires-clause-done g c = making-none c.in-Ok.ensures.made c.requires.lines c.in-Ok.ensures.all

pub leave-requires-in-Err-clause-present : goal.leave-requires-in-Err-clause-present
leave-requires-in-Err-clause-present g c = let making = c.in-Err.ensures.some.1 in watched-present (watched g (goal.at.leave-requires-in-Err-clause-present g c).After-give_up) making.number (making-present making)

pub leave-requires-in-Err-clause-done : goal.leave-requires-in-Err-clause-done
leave-requires-in-Err-clause-done g c = let seen = gave g (goal.at.leave-requires-in-Err-clause-done g c).After-give_up in record { history = seen.history; seen = seen.seen; holds = inr seen.holds }

pub returns-in-Ok-clause-begins : goal.returns-in-Ok-clause-begins
returns-in-Ok-clause-begins g c =
    prefix-trans c.args.pass.now.seen c.make.new.pass.seen c.leave.new.pass.seen c.in-Ok.ensures.made.begins (step-begins _ _ _ c.leave.ensures)

pub returns-in-Ok-clause-made : goal.returns-in-Ok-clause-made
returns-in-Ok-clause-made g c = made c.in-Ok.ensures.made c.in-Ok.ensures.all c.leave.ensures

pub returns-in-Err-clause-begins : goal.returns-in-Err-clause-begins
returns-in-Err-clause-begins g c =
    prefix-trans c.args.pass.now.seen c.make.new.pass.seen c.leave-in-Err.new.pass.seen c.in-Err.ensures.some.1.begins
    (prefix-trans c.make.new.pass.seen c.give_up.new.pass.seen c.leave-in-Err.new.pass.seen (watched g (goal.at.returns-in-Err-clause-begins g c).After-give_up).begins (step-begins _ _ _ c.leave-in-Err.ensures))

pub returns-in-Err-clause-given_up : goal.returns-in-Err-clause-given_up
returns-in-Err-clause-given_up g c =
    let seen = gave g (goal.at.returns-in-Err-clause-given_up g c).After-give_up in
    left-seen _ _ _ ((watched g (goal.at.returns-in-Err-clause-given_up g c).After-give_up).number ∙ c.in-Err.ensures.some.1.number) seen.history seen.seen seen.holds c.leave-in-Err.ensures

pub returns-in-Err-clause-stopped : goal.returns-in-Err-clause-stopped
returns-in-Err-clause-stopped g c = let made = c.in-Err.ensures.some in stopped made.0 made.1 (watched g (goal.at.returns-in-Err-clause-stopped g c).After-give_up) c.leave-in-Err.ensures
