use Rattle.std.proofs.Common.{◌≡◌, map, codes, Some, ap, sym, ◌∙◌}
use Rattle.serde_json.specs.Data.{array}
use Rattle.serde_json.specs.Find.{get}
use Rattle.serde_json.specs.View.{items_of}
use Rattle.act_json.specs.Tree.{data_in, object_of}
use Rattle.act_terms.specs.Credit.{credit_events_from, credit_events_in, credit_events_of}
use Rattle.act_terms.proofs.Elements.{array_is, listed_again}
use Rattle.act_terms.proofs.credit.read_credit_events.Goals as goal
use Rattle.act_terms.proofs.credit.read_credit_events.Goals.{After-credit_events}

-- the value is that list
listed_values : (c : After-credit_events) → credit_events_of (object_of c.args.contract.now) ≡ credit_events_from (map data_in c.as_slice.result.now)
unfolding credit_events_of
listed_values c =
    let slice : c.as_slice.result.now ≡ c.in-Some-Array.values.items = c.as_slice.ensures.value ∙ ap (λ v. v.items) c.in-Some-Array.values-is in
    let is : data_in c.in-Some-Array.field-0.now ≡ array (items_of (map data_in c.in-Some-Array.values.items)) = array_is _ c.in-Some-Array.values c.in-Some-Array.field-0-is in
    let there : get (codes "creditEventTypeCovered") (object_of c.args.contract.now) ≡ Some (array (items_of (map data_in c.in-Some-Array.values.items))) = sym c.in-Some-Array.ensures ∙ ap Some is in
    ap credit_events_in there ∙ ap credit_events_from (listed_again (map data_in c.in-Some-Array.values.items) ∙ ap (map data_in) (sym slice))

pub returns-in-Some-Array-clause-read : goal.returns-in-Some-Array-clause-read
returns-in-Some-Array-clause-read c = rw (listed_values c) c.credit_events.ensures.read

pub returns-in-Some-Array-clause-refused : goal.returns-in-Some-Array-clause-refused
returns-in-Some-Array-clause-refused c = rw (listed_values c) c.credit_events.ensures.refused
