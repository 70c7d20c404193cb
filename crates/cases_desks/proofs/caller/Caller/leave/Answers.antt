use Rattle.std.proofs.Common.{inr}
use Rattle.act_desk.proofs.Watching.{given_up-seen}
use Rattle.cases_desks.proofs.Playing.{plays-give_up}
use Rattle.cases_desks.proofs.caller.Caller.leave.Goals as goal

pub leave-requires-else-self-eq0-clause-present : goal.leave-requires-else-self-eq0-clause-present
leave-requires-else-self-eq0-clause-present g c =
    let is = plays-give_up _ _ _ _ _ c.requires c.give_up.ensures in
    record { history = is.seen.history; seen = is.seen.seen; holds = is.seen.holds.1 }

pub leave-requires-else-self-eq0-clause-done : goal.leave-requires-else-self-eq0-clause-done
leave-requires-else-self-eq0-clause-done g c =
    let gave = given_up-seen c.args.self.now.number c.args.pass.now c.give_up.new.pass c.requires.number_is c.requires.seen.history c.requires.seen.seen c.give_up.ensures in
    record { history = gave.history; seen = gave.seen; holds = inr gave.holds }
