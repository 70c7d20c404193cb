use Rattle.std.proofs.Common.{◌≡◌, take, Some}
use Rattle.act_model.specs.Latest.{later}
use Rattle.act_book.specs.Rates.{latest_rate}
use Rattle.act_book.proofs.rates.latest_from.Given as goal

abbrev pub invariant-loop-entry : goal.invariant-loop-entry
invariant-loop-entry l = Some (l.last, l.value_of_last) ≡ later (Some l.fn.first) (latest_rate (take l.entry-index l.entries) l.code l.until)
