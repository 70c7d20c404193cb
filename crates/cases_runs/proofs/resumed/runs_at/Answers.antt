use Rattle.std.proofs.Common.{◌≡◌, ◌∷◌, [], ◌++◌, List, map, sym, subst}
use Rattle.std.specs.Arc.{arc_value}
use Rattle.std.specs.declared.alloc.Global.{Global}
use Rattle.std.specs.declared.sync.Arc.{Arc}
use Rattle.std.proofs.lemmas.List.{map_push}
use Rattle.std.proofs.lemmas.List.Elements.{All-push}
use Rattle.act_model.specs.Run.{Stream}
use Rattle.act_profile.specs.DayOrder.{AreInDayOrder, RunsAreInDayOrder}
use Rattle.cases_runs.proofs.resumed.runs_at.Goals as goal

pub contracts-preserved : goal.contracts-preserved
contracts-preserved c =
    let runs = c.contracts.found.items in
    let run = c.in_ok-run.run' in
    let items : c.push.new.self.items ≡ runs ++ run ∷ [] = c.in_ok-push.ensures.items in
    subst (λ (rs : List (Arc Stream Global)). RunsAreInDayOrder (map arc_value rs)) (sym items)
    (subst RunsAreInDayOrder (sym (map_push arc_value runs run)) (All-push (λ (r : Stream). AreInDayOrder r.rows) (map arc_value runs) (arc_value run) c.contracts.invariant c.in_ok-run.ensures))
