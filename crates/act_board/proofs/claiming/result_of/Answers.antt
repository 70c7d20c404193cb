use Rattle.std.proofs.Common.{◌≡◌, sym, ap, subst, ◌∙◌}
use Rattle.std.specs.Arc.{arc_value}
use Rattle.std.proofs.lemmas.Option.{get_or_from_slice_get}
use Rattle.act_model.specs.Run.{Stream}
use Rattle.act_profile.specs.DayOrder.{AreInDayOrder}
use Rattle.act_keeping.specs.Keeping.{is_kept}
use Rattle.act_keeping.specs.declared.pair.Pair.{Pair}
use Rattle.act_keeping.proofs.Told.{done-run, found-done, result-there}
use Rattle.act_board.proofs.claiming.result_of.Goals as goal

pub unreachable-requires : goal.unreachable-requires
unreachable-requires c =
    let found = c.in-Some.ensures in
    let same = c.index-pairs-place.is ∙ get_or_from_slice_get c.args.pairs.now c.in-Some.place found.0 c.index-pairs-place.result found.1 in
    let done = found-done c.args.portfolio.now c.args.pairs.now c.args.contract c.args.version c.rank.result c.in-Some.place found.0 c.requires.sorted c.requires.there c.rank.ensures found.1 found.2 found.3 in
    done-run c.index-pairs-place.result.progress (ap (λ (p : Pair). is_kept p.progress) same ∙ done) c.in_default.not-Done

pub returns : goal.returns
returns c =
    let found = c.in-Some.ensures in
    let same = c.index-pairs-place.is ∙ get_or_from_slice_get c.args.pairs.now c.in-Some.place found.0 c.index-pairs-place.result found.1 in
    record {
      run = λ history keeps.
          let is = result-there c.args.portfolio.now c.args.pairs.now history keeps c.in-Some.place c.rank.result c.args.contract c.args.version found.0 c.in-Done.run' found.1 found.2 found.3 c.rank.ensures
          (ap (λ (p : Pair). p.progress) (sym same) ∙ c.in-Done.is) in
          let value : arc_value c.in_ok-try_clone-in-Done.field-0 ≡ arc_value c.in-Done.run' = c.in_ok-try_clone-in-Done.ensures in
          (value ∙ is.0, subst (λ (s : Stream). AreInDayOrder s.rows) (sym value) is.1);
    }
