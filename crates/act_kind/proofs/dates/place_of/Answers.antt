use Rattle.std.proofs.Common.{◌∙◌, ◌≡◌, ap, ◌+◌, ◌-◌, length, take, drop, length-drop, arith}
use Rattle.std.proofs.lemmas.List.{take_all}
use Rattle.std.specs.Prelude.{int_lt}
use Rattle.act_kind.specs.Insertion.{earlier}
use Rattle.act_kind.proofs.Insertions.{counted_on}
use Rattle.act_kind.proofs.dates.place_of.Goals as goal

pub returns-clause-place : goal.returns-clause-place
returns-clause-place c =
    let dates = c.args.dates.now in
    let from = c.args.from in
    let rest : take (length dates - from) (drop from dates) ≡ drop from dates = take_all (length dates - from) (drop from dates) (omega (arith, length-drop from dates)) in
    ap (λ n. from + n) (c.count_earlier.ensures.count ∙ ap (earlier c.args.date) rest) ∙ counted_on (λ d. int_lt d c.args.date) dates from c.requires
