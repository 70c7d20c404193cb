use Rattle.std.proofs.Common.{◌≡◌, ◌≤◌, take}
use Rattle.std.specs.List.{count_by}
use Rattle.act_swap.specs.Netting.{is_like}
use Rattle.act_swap.proofs.netting.count_like.Given as goal

-- those counted so far
abbrev pub invariant-rows : goal.invariant-rows
invariant-rows l = (l.count ≡ count_by (is_like l.row) (take l.earlier l.run.rows)) × (l.count ≤ l.earlier)
