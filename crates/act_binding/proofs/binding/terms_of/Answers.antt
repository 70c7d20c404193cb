use Rattle.std.proofs.Common.{◌++◌, ap, ◌∙◌}
use Rattle.std.proofs.lemmas.Result.{IfOk-weaker}
use Rattle.act_binding.specs.Links.{listing_of}
use Rattle.act_binding.proofs.Unchanged.{bound_as}
use Rattle.act_binding.proofs.binding.terms_of.Goals as goal

pub bindings-requires-clause-planned : goal.bindings-requires-clause-planned
bindings-requires-clause-planned c = rw (c.new-listing.ensures, c.deref.ensures.value) c.requires.planned

pub returns : goal.returns
returns c =
    let named = c.args.named.items in
    let bound = rw (c.new-listing.ensures, c.deref.ensures.value, c.deref-2.ensures.value) at c.in_ok-bindings.ensures.bound in
    IfOk-weaker c.bound_terms.result _ _ (λ terms is. is ∙ ap (λ ts. ts ++ c.args.shadows.items) (bound_as (listing_of named) c.args.plans.now named c.args.numbers.now c.in_ok-bindings.bindings.items bound)) c.bound_terms.ensures
