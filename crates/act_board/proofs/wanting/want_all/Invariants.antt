use Rattle.std.proofs.Common.{◌-◌, ◌+◌, ◌≤◌, length, vec_capacity}
use Rattle.act_keeping.specs.Wanting.{IsExtended, is_asked}
use Rattle.act_board.proofs.wanting.want_all.Given as goal

-- what is asked for of the ranks before this one is there
abbrev pub invariant-loop-rank : goal.invariant-loop-rank
invariant-loop-rank l = record {
  extended : IsExtended l.fn.pairs.items l.version (is_asked l.portfolio.order l.first l.end l.below) l.start l.rank l.pairs.items;
  room : length l.pairs.items + (length l.portfolio.order - l.rank) ≤ vec_capacity l.pairs;
}
