use Rattle.std.proofs.Common.{◌≡◌, ◌∷◌, [], count_by, length, ap, arith}
use Rattle.std.proofs.lemmas.List.Elements.{All-cons, All-nil}
use Rattle.std.proofs.lemmas.List.Sums.{sum_by-cons}
use Rattle.act_audit.proofs.journal.ask_past.Goals as goal
use Rattle.act_model.specs.Journal.{is_append}
use Rattle.act_model.specs.declared.journal.Line.{Line}
use Rattle.act_script.specs.Asks.{AsksBelow, line_lists}

pub first_overweight-requires-clause-contracts : goal.first_overweight-requires-clause-contracts
first_overweight-requires-clause-contracts c =
    let below = AsksBelow (length c.args.portfolio.now.names.contracts) in
    let scripts : line_lists c.from_ref.result.now ≡ c.args.script.now.items ∷ [] = ap line_lists c.from_ref.ensures.value in
    rw scripts (All-cons below c.args.script.now.items [] c.requires.contracts (All-nil below))

pub first_overweight-requires-clause-few : goal.first_overweight-requires-clause-few
first_overweight-requires-clause-few c =
    let scripts : line_lists c.from_ref.result.now ≡ c.args.script.now.items ∷ [] = ap line_lists c.from_ref.ensures.value in
    rw scripts (omega (arith, sum_by-cons (count_by (λ (line : Line). is_append line.step)) c.args.script.now.items [], c.requires.few))
