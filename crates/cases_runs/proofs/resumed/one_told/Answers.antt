use Rattle.std.proofs.Common.{List, map, sym, subst}
use Rattle.std.specs.Arc.{arc_value}
use Rattle.std.specs.declared.alloc.Global.{Global}
use Rattle.std.specs.declared.sync.Arc.{Arc}
use Rattle.act_model.specs.Run.{Stream}
use Rattle.act_profile.specs.DayOrder.{RunsAreInDayOrder}
use Rattle.cases_runs.proofs.resumed.one_told.Goals as goal

pub inputs_of-inputs-requires-clause-children : goal.inputs_of-inputs-requires-clause-children
inputs_of-inputs-requires-clause-children g c =
    subst (λ (runs : List (Arc Stream Global)). RunsAreInDayOrder (map arc_value runs)) (sym c.deref.ensures.value) c.in_ok-children.ensures
