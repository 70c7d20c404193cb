use Rattle.std.proofs.Common.{arith}
use Rattle.std.proofs.lemmas.List.Sums.{fold_more}
use Rattle.act_kind.proofs.Insertions.{reaches}
use Rattle.act_kind.proofs.dates.united.Goals as goal

pub others-preserved : goal.others-preserved
others-preserved c = record {
  dates = grind (arith, fold_more);
  place = λ d later. rw (c.in_ok-place.ensures.place, c.in_ok-place.ensures.inserted) (reaches _ d c.others.dates.items later);
}
