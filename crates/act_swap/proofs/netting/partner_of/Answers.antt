use Rattle.std.proofs.Common.{◌≡◌, false, None, Some, arith}
use Rattle.std.proofs.lemmas.Grind.{common_steps}
use Rattle.std.proofs.lemmas.Option.{slice_get_within}
use Rattle.act_model.specs.declared.event.EventType.TheVariants.{IP}
use Rattle.act_profile.specs.Order.{is_type}
use Rattle.act_swap.proofs.Partners.{earlier_within, no_partner, partner_is}
use Rattle.act_swap.proofs.netting.partner_of.Goals as goal

pub count_like-earlier-requires-clause-up_to : goal.count_like-earlier-requires-clause-up_to
count_like-earlier-requires-clause-up_to c = rw c.requires.from (earlier_within c.args.row.now c.args.run.now.rows c.args.place c.requires.row)

pub count_like-earlier-requires-clause-within : goal.count_like-earlier-requires-clause-within
count_like-earlier-requires-clause-within c = omega (arith, slice_get_within c.args.run.now.rows c.args.place c.args.row.now c.requires.row)

pub returns-then-ne : goal.returns-then-ne
returns-then-ne c =
    let differs : is_type c.args.row.now.kind IP ≡ false = grind (arith, common_steps) in
    λ status taken. no_partner status c.args.run.now c.args.other.now c.args.place c.args.row.now differs

pub returns-in-Some : goal.returns-in-Some
returns-in-Some c = λ status taken.
    partner_is status c.args.run.now c.args.other.now c.args.place c.args.row.now c.count_like-earlier.result (Some c.in-Some.partner) taken c.count_like-earlier.ensures c.in-Some.ensures.place

pub returns-in-None : goal.returns-in-None
returns-in-None c = λ status taken.
    partner_is status c.args.run.now c.args.other.now c.args.place c.args.row.now c.count_like-earlier.result None taken c.count_like-earlier.ensures c.in-None.ensures.place
