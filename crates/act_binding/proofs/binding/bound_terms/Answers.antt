use Rattle.std.proofs.Common.{◌≡◌, ◌++◌, map, length, sym, ap, ◌∙◌, arith}
use Rattle.std.proofs.lemmas.Iterator.{YieldsList-from_zip}
use Rattle.std.proofs.lemmas.Iterator.Adapters.{YieldsList-from_vec}
use Rattle.std.proofs.lemmas.Iterator.Consumers.{YieldsList-end}
use Rattle.std.proofs.lemmas.List.{map-id}
use Rattle.std.specs.Iterator.Adapters.{zip_first, zip_second}
use Rattle.std.specs.Vec.Iter.{into_iter_items, into_iter_len}
use Rattle.act_binding.specs.Binding.{bind}
use Rattle.act_binding.proofs.binding.bound_terms.Goals as goal

pub returns : goal.returns
returns c =
    let s = c.into_iter-contract-iterator.result in
    let is = c.into_iter-contract-iterator.ensures.into_iter_gives in
    let first = ap zip_first is ∙ c.zip-contract-items.ensures.first in
    let second = c.zip-contract-items.ensures.second in
    let a : into_iter_items (zip_first s) ≡ c.args.named.items = ap into_iter_items first ∙ c.into_iter.ensures.rest in
    let b : into_iter_len (zip_first s) ≡ length c.args.named.items = ap into_iter_len first ∙ c.into_iter.ensures.len ∙ omega (arith, c.args.named.ok.0) in
    let d : into_iter_items (zip_second s) ≡ c.args.bindings.items = ap (λ z. into_iter_items (zip_second z)) is ∙ second.0 in
    let e : into_iter_len (zip_second s) ≡ length c.args.bindings.items = ap (λ z. into_iter_len (zip_second z)) is ∙ second.1 ∙ omega (arith, c.args.bindings.ok.0) in
    let ends = YieldsList-end (YieldsList-from_zip (YieldsList-from_vec c.args.named.items a b) (YieldsList-from_vec c.args.bindings.items d e)) c.loop-contract.yielded c.loop-contract.contract-iterator c.loop-contract.yielded_by c.next.result c.next.new.self c.in-None.is c.next.ensures.steps in
    c.in_ok-append.ensures.items
    ∙ ap (λ ts. ts ++ c.args.shadows.items) (c.loop-contract.invariant ∙ ap (map (λ b. record { common = b.0.terms.common; kind = bind b.1 b.0.terms.kind })) (sym (map-id c.loop-contract.yielded) ∙ ends.0))
