use Rattle.std.proofs.Common.{◌≡◌, ◌-◌, ◌<◌, true, length, Some, sym, ◌∙◌, arith}
use Rattle.std.specs.List.{slice_get}
use Rattle.std.proofs.lemmas.Option.{slice_get_within}
use Rattle.act_keeping.specs.Keeping.{is_before}
use Rattle.act_keeping.proofs.Ordered.{lower}
use Rattle.act_keeping.proofs.pair.place_of.Goals as goal

pub returns-in-Some : goal.returns-in-Some
returns-in-Some c =
    let pairs = c.args.pairs.now in
    let last = c.in-Some.last.now in
    let here : slice_get pairs (length pairs - 1) ≡ Some last = sym c.in-Some.ensures.value in
    let there : length pairs - 1 < length pairs = slice_get_within pairs (length pairs - 1) last here in
    let is : is_before last c.args.version c.args.rank ≡ true = sym c.is_before.ensures ∙ c.if-is_before.true in
    record {
      within = omega arith;
      before = λ k pair less at. lower pairs c.requires.sorted c.args.version c.args.rank (length pairs - 1) last here is k pair (omega (arith, less, there)) at;
      behind = λ k pair past at before. absurd (omega (arith, past, slice_get_within pairs k pair at));
    }
