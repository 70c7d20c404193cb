use Rattle.std.proofs.Common.{◌≡◌, true, sym, ap, ◌∙◌}
use Rattle.std.proofs.lemmas.Option.{get_or_from_slice_get}
use Rattle.act_keeping.specs.Keeping.{is_under_way}
use Rattle.act_keeping.specs.declared.pair.Pair.{Pair}
use Rattle.act_keeping.proofs.Ordered.{same-pair}
use Rattle.act_keeping.proofs.pair.is_claimed.Goals as goal

pub returns-in-Some-clause-no : goal.returns-in-Some-clause-no
returns-in-Some-clause-no c = λ not claimed.
    let found = c.in-Some.ensures in
    let read = get_or_from_slice_get c.args.pairs.now c.in-Some.place found.0 c.index-pairs-place.result found.1 in
    let same : claimed.0 ≡ found.0 = same-pair c.args.pairs.now c.requires.sorted claimed.1.0 c.in-Some.place claimed.0 found.0 claimed.1.1 found.1 (claimed.2 ∙ sym found.2) (claimed.3 ∙ sym found.3) in
    let so : c.is_under_way.result ≡ true = c.is_under_way.ensures ∙ (ap (λ (p : Pair). is_under_way p.progress) (read ∙ sym same) ∙ claimed.4) in
    absurd (cc)
