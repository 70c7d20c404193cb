use Rattle.std.proofs.Common.{◌≡◌, take, None}
use Rattle.act_book.specs.Rates.{latest_rate}
use Rattle.act_book.proofs.rates.latest_among.Given as goal

abbrev pub invariant-loop-place : goal.invariant-loop-place
invariant-loop-place l = latest_rate (take l.place l.entries) l.code l.until ≡ None
