use Rattle.std.proofs.lemmas.List.Filters.{dedup_is}
use Rattle.act_cones.proofs.Ascending.{sorted_ascends}
use Rattle.act_cones.proofs.cones.ascending.Goals as goal

pub returns : goal.returns
returns c = sorted_ascends _ _ _ c.sort_unstable.ensures.permutation c.sort_unstable.ensures.sorted (dedup_is _ _ _ c.dedup.ensures.filtered)
