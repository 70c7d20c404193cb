use Rattle.std.proofs.Common.{◌≡◌, ◌<◌, List, Some, map, refl, sym, ap, subst, ◌∙◌, length}
use Rattle.std.specs.Arc.{arc_value}
use Rattle.std.specs.List.{slice_get}
use Rattle.std.specs.declared.alloc.Global.{Global}
use Rattle.std.specs.declared.sync.Arc.{Arc}
use Rattle.std.proofs.lemmas.Option.{slice_get_read}
use Rattle.act_model.specs.Run.{Stream}
use Rattle.act_model.specs.declared.terms.Terms.{Terms}
use Rattle.act_portfolio.specs.Reading.{Accepted}
use Rattle.act_profile.specs.DayOrder.{RunsAreInDayOrder}
use Rattle.act_keeping.specs.Work.{Work, outcome}
use Rattle.act_board.proofs.Worked.{run-made}
use Rattle.act_board.proofs.work.Task.inputs.Goals.{After-deref}
use Rattle.act_board.proofs.work.Task.inputs.Goals as goal

same : (c : After-deref) → c.args.portfolio.now ≡ c.self.inside.of.value
same c = c.requires.portfolio ∙ sym (ap (λ (w : Work). w.portfolio) c.self.view_is)

-- the contract's terms are those of its number
here : (c : After-deref) → slice_get c.terms.result.now c.self.inside.contract ≡ Some c.index-terms-self.result
here c =
    let contract = c.self.inside.contract in
    let terms-are = c.terms.ensures.terms ∙ ap (λ (p : Accepted). p.contracts.terms) (same c) in
    let within : contract < length c.terms.result.now = rw terms-are c.self.invariant.contract in
    slice_get_read c.terms.result.now (length c.terms.result.now) contract c.index-terms-self.result refl within c.index-terms-self.is

pub invariant_of-result : goal.invariant_of-result
invariant_of-result c =
    let contract = c.self.inside.contract in
    record {
      built = c.terms.ensures.built contract c.index-terms-self.result (here c);
      planned = c.plan.ensures.of_terms c.index-terms-self.result (ap (λ (ts : List Terms). slice_get ts contract) (sym c.terms.ensures.terms) ∙ here c);
      in_day_order = subst (λ (runs : List (Arc Stream Global)). RunsAreInDayOrder (map arc_value runs)) (sym c.deref.ensures.value) c.self.invariant.children.1;
    }

pub returns : goal.returns
returns c =
    let inside = c.self.inside in
    let q = inside.of.value in
    let is = c.self.invariant in
    let terms-are = c.terms.ensures.terms ∙ ap (λ (p : Accepted). p.contracts.terms) (same c) in
    let of : slice_get q.contracts.terms inside.contract ≡ Some c.index-terms-self.result = ap (λ (ts : List Terms). slice_get ts inside.contract) (sym terms-are) ∙ here c in
    let planned : slice_get q.contracts.plans inside.contract ≡ Some c.plan.result.now = ap (λ (p : Accepted). slice_get p.contracts.plans inside.contract) (sym (same c)) ∙ c.plan.ensures.plan in
    run-made q inside.seen inside.contract c.index-terms-self.result c.plan.result.now (map arc_value c.deref.result.now) is.ordered is.count is.contract of planned (ap (map arc_value) c.deref.ensures.value ∙ is.children.0)
    ∙ ap outcome c.self.view_is
