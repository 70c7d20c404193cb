use Rattle.std.proofs.Common.{◌≡◌, Err, IfSome, List, ap, length, rules, subst, sym, zero, ◌∙◌}
use Rattle.std.proofs.lemmas.List.{length-map}
use Rattle.std.proofs.lemmas.Option.{IfSome_then}
use Rattle.std.proofs.lemmas.Result.{IfErr-weaker, IfOk-weaker}
use Rattle.act_model.specs.Names.{no_names}
use Rattle.act_refs.specs.Ordered.{order_of}
use Rattle.serde_json.specs.Data.{Data}
use Rattle.act_portfolio.specs.Known.{AreChecked, CheckedContracts}
use Rattle.act_portfolio.specs.Reading.{portfolio_listed}
use Rattle.act_refusal.specs.Refusal.{refusal_of}
use Rattle.act_portfolio.proofs.Accepting.{accepts, as_many_read, named_among, refused_graph, refused_plans, unused_are_many}
use Rattle.act_refusal.proofs.Numbered.{are_numbered}
use Rattle.act_portfolio.proofs.reading.portfolio_checked.Goals as goal

pub returns-in_err-graph-clause-refused : goal.returns-in_err-graph-clause-refused
returns-in_err-graph-clause-refused c =
    let whole : IfSome (refusal_of c.in_err-graph.field-0.0) (λ refusal. (objects : List Data) → AreChecked objects c.args.checked → portfolio_listed objects ≡ Err refusal) =
    IfSome_then (refusal_of c.in_err-graph.field-0.0) (rw c.deref.ensures.value at c.in_err-graph.ensures.refused) (λ refusal no_order objects given.
    let checked = subst (AreChecked objects) (sym c.checked.view_is) given in
    refused_graph objects _ _ checked.read refusal checked.passed no_order) in
    search rules

pub bound_portfolio-requires-clause-named : goal.bound_portfolio-requires-clause-named
bound_portfolio-requires-clause-named c =
    let known = subst (λ (contracts : CheckedContracts). (objects : List Data) × AreChecked objects contracts) (sym c.checked.view_is) c.requires in
    rw known.1.names (named_among known.1.before _ _ known.1.named)

pub bound_portfolio-requires-clause-numbered : goal.bound_portfolio-requires-clause-numbered
bound_portfolio-requires-clause-numbered c =
    let known = subst (λ (contracts : CheckedContracts). (objects : List Data) × AreChecked objects contracts) (sym c.checked.view_is) c.requires in
    are_numbered known.0 _ _ known.1.read

pub bound_portfolio-requires-clause-unused : goal.bound_portfolio-requires-clause-unused
bound_portfolio-requires-clause-unused c =
    let known = subst (λ (contracts : CheckedContracts). (objects : List Data) × AreChecked objects contracts) (sym c.checked.view_is) c.requires in
    let many = as_many_read known.0 zero no_names _ _ known.1.read in
    sym (length-map c.checked.inside.unused.items _) ∙ (ap length known.1.left ∙ unused_are_many c.checked.inside.named.items known.0 many)

pub returns-clause-accepted : goal.returns-clause-accepted
returns-clause-accepted c =
    let graph = rw c.deref.ensures.value at c.in_ok-graph.ensures.graph in
    IfOk-weaker c.bound_portfolio.result _ _ (λ portfolio made objects given.
    let checked = subst (AreChecked objects) (sym c.checked.view_is) given in
    accepts objects c.checked.inside.named.items _ checked.read _ _ _ portfolio checked.passed (ap order_of (sym graph.children) ∙ graph.ordered) checked.names checked.left made)
    c.bound_portfolio.ensures.accepted

pub returns-clause-refused : goal.returns-clause-refused
returns-clause-refused c =
    let graph = rw c.deref.ensures.value at c.in_ok-graph.ensures.graph in
    IfErr-weaker c.bound_portfolio.result _ _ (λ fault refused. IfSome_then (refusal_of fault) refused (λ refusal no_plan objects given.
    let checked = subst (AreChecked objects) (sym c.checked.view_is) given in
    refused_plans objects c.checked.inside.named.items _ checked.read _ refusal checked.passed (ap order_of (sym graph.children) ∙ graph.ordered) no_plan))
    c.bound_portfolio.ensures.refused
