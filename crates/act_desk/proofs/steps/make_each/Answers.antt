use Rattle.std.proofs.Common.{◌≡◌, List, ap, sym, subst, ◌∙◌, take}
use Rattle.act_history.specs.History.{History, IsPresent, and_then}
use Rattle.act_model.specs.declared.journal.Line.{Line}
use Rattle.act_desk.specs.Turns.{InOrder, MakesLine, mark_of}
use Rattle.act_desk.proofs.Own.{present-next}
use Rattle.act_desk.proofs.Lines.{own-stays}
use Rattle.act_desk.proofs.Turns.{in-order-next}
use Rattle.act_desk.proofs.Way.{IsNext, next-take}
use Rattle.act_desk.proofs.steps.make_each.Goals as goal

pub loop-place-preserved : goal.loop-place-preserved
loop-place-preserved c =
    let had = c.loop-place.invariant in
    let line = c.index-lines-place.result in
    let next : IsNext c.args.lines.now c.loop-place.place line = record { within = c.loop-place-test.true; at = sym c.index-lines-place.is } in
    let made : c.make_step.new.board ≡ and_then c.loop-place.board (mark_of c.args.caller line.step) =
    c.in_default.ensures.made ∙ ap (λ (l : Line). and_then c.loop-place.board (mark_of c.args.caller l.step)) next.at in
    record {
      made =
          subst (λ (ls : List Line). InOrder (MakesLine c.args.caller) ls c.args.board.now c.make_step.new.board) (sym (next-take next))
          (in-order-next (MakesLine c.args.caller) (take c.loop-place.place c.args.lines.now) line c.args.board.now c.loop-place.board c.make_step.new.board had.made made);
      present = subst (λ (h : History). IsPresent h c.args.caller) (sym made) (present-next c.args.caller c.loop-place.board (mark_of c.args.caller line.step) (own-stays c.args.caller line.step) had.present);
      portfolio = ap (λ (h : History). h.portfolio) made ∙ had.portfolio;
    }
