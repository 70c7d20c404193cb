use Rattle.std.proofs.Common.{◌≡◌, ◌<◌, List, Some, length, refl, sym, ap, ◌∙◌}
use Rattle.std.specs.List.{slice_get}
use Rattle.std.proofs.lemmas.Option.{slice_get_read}
use Rattle.act_model.specs.declared.terms.Terms.{Terms}
use Rattle.cases_runs.proofs.resumed.inputs_of.Goals as goal

pub invariant_of-result : goal.invariant_of-result
invariant_of-result c =
    let terms = c.terms.result.now in
    let within : c.args.contract < length terms = rw c.terms.ensures.terms c.requires.contract in
    let here : slice_get terms c.args.contract ≡ Some c.index-terms-contract.result = slice_get_read terms (length terms) c.args.contract c.index-terms-contract.result refl within c.index-terms-contract.is in
    record {
      built = c.terms.ensures.built c.args.contract c.index-terms-contract.result here;
      planned = c.plan.ensures.of_terms c.index-terms-contract.result (ap (λ (ts : List Terms). slice_get ts c.args.contract) (sym c.terms.ensures.terms) ∙ here);
      in_day_order = c.requires.children;
    }
