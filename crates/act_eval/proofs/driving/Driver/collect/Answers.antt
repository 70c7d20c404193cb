use Rattle.std.proofs.Common.{subst, sym, ◌∙◌}
use Rattle.std.proofs.lemmas.Option.{same_Some}
use Rattle.act_board.specs.Calls.{Collects}
use Rattle.act_board.specs.declared.outcome.Collected.{Collected}
use Rattle.act_history.specs.Legal.{IsReady}
use Rattle.act_eval.proofs.driving.Driver.collect.Goals as goal

pub unreachable-requires : goal.unreachable-requires
unreachable-requires c =
    let board = c.args.self.now.board in
    let told = subst (λ (collected : Collected). Collects board 1 collected c.collect.new.self) c.in-NotYet.is c.in_ok-answer.ensures.collected in
    let same = same_Some told.1 c.requires.ready.0 (sym told.2 ∙ c.requires.ready.1) in
    told.3 (subst (IsReady board) (sym same) c.requires.ready.2)
