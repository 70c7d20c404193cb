use Rattle.std.proofs.Common.{◌≡◌, true, sym, subst}
use Rattle.std.specs.List.{All}
use Rattle.act_portfolio.specs.Reading.{Accepted}
use Rattle.act_model.specs.declared.journal.Line.{Line}
use Rattle.act_desk.specs.Making.{asks_known}
use Rattle.act_desk.proofs.Lines.{makes-adds}
use Rattle.act_desk.proofs.Stays.{names-stay, present-stays}
use Rattle.act_desk.proofs.Taken.{IsTurn, goes-beside}
use Rattle.act_desk.proofs.Turns.{is-turn, may-give-all}
use Rattle.act_desk.proofs.desk.Desk.make_steps.Goals.{After-get_mut}
use Rattle.act_desk.proofs.desk.Desk.make_steps.Goals as goal

turn : (g : _) (c : After-get_mut g) → IsTurn c.args.pass.now c.take-held.new.pass c.take-held.result c.get_mut.result.now
turn g c = record { free = c.requires.free.1; begins = c.take-held.ensures.begins; own = c.take-held.ensures.own; pass = c.take-held.ensures.pass; value = c.get_mut.ensures.value }

pub make_each-made-requires-clause-present : goal.make_each-made-requires-clause-present
make_each-made-requires-clause-present g c = present-stays _ _ _ (goes-beside (turn g (goal.at.make_each-made-requires-clause-present g c).After-get_mut) c.requires.own c.requires.present) c.requires.present.holds

pub make_each-made-requires-clause-known : goal.make_each-made-requires-clause-known
make_each-made-requires-clause-known g c =
    subst (λ (of : Accepted). All (λ (line : Line). asks_known of.names line.step ≡ true) c.args.lines.now)
    (sym (names-stay _ _ _ (goes-beside (turn g (goal.at.make_each-made-requires-clause-known g c).After-get_mut) c.requires.own c.requires.known))) c.requires.known.holds

pub give-requires-clause-goes_on : goal.give-requires-clause-goes_on
give-requires-clause-goes_on g c = may-give-all (turn g (goal.at.give-requires-clause-goes_on g c).After-get_mut) (makes-adds c.requires.own _ _ _ _ c.make_each-made.ensures)

pub returns : goal.returns
returns g c = is-turn (turn g (goal.at.returns g c).After-get_mut) (makes-adds c.requires.own _ _ _ _ c.make_each-made.ensures) c.give.ensures c.make_each-made.ensures
