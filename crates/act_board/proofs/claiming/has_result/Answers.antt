use Rattle.std.proofs.Common.{ap, ◌∙◌}
use Rattle.std.proofs.lemmas.Option.{get_or_from_slice_get}
use Rattle.act_keeping.specs.Keeping.{is_done}
use Rattle.act_keeping.specs.declared.pair.Pair.{Pair}
use Rattle.act_keeping.proofs.Told.{no-result, result-is}
use Rattle.act_board.proofs.claiming.has_result.Goals as goal

pub returns-in-Some : goal.returns-in-Some
returns-in-Some c = λ history keeps.
    let found = c.in-Some.ensures in
    let same = get_or_from_slice_get c.args.pairs.now c.in-Some.place found.0 c.index-pairs-place.result found.1 in
    c.is_done.ensures ∙ (ap (λ (p : Pair). is_done p.progress) same
    ∙ result-is c.args.portfolio.now c.args.pairs.now history keeps c.in-Some.place c.rank.result c.args.contract c.args.version found.0 found.1 found.2 found.3 c.rank.ensures)

pub returns-in-None : goal.returns-in-None
returns-in-None c = λ history keeps.
    no-result c.args.portfolio.now c.args.pairs.now history keeps c.rank.result c.args.contract c.args.version c.in-None.ensures c.rank.ensures
