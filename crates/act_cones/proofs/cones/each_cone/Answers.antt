use Rattle.std.proofs.Common.{◌≡◌, [], ◌∷◌, ◌<◌, length, get_or, map, ap, subst, ◌∙◌, arith}
use Rattle.std.proofs.lemmas.List.{length-map, map-set}
use Rattle.std.specs.List.{flat_map}
use Rattle.act_profile.specs.Reads.{ascending}
use Rattle.act_refs.specs.Path.{children_of}
use Rattle.act_cones.proofs.Coned.{coned-all, coned-next, coned-over, order-within}
use Rattle.act_cones.proofs.Weighed.{made_at}
use Rattle.act_cones.proofs.cones.each_cone.Goals as goal

pub bounds-contracts-inside-contract : goal.bounds-contracts-inside-contract
bounds-contracts-inside-contract c =
    omega (arith, order-within c.args.contracts.now c.args.order.now c.requires.ordered c.loop-contract.contract-index c.loop-contract-test.true, ap (λ k. length k.children) c.contracts.view_is, length-map c.contracts.inside.children.now (λ l. l.items))

pub cone_over-requires : goal.cone_over-requires
cone_over-requires c =
    let contracts = c.args.contracts.now in
    let contract = get_or c.args.order.now c.loop-contract.contract-index 0 in
    let within = order-within contracts c.args.order.now c.requires.ordered c.loop-contract.contract-index c.loop-contract-test.true in
    let inside : contract < length c.contracts.inside.children.now = omega (arith, within, ap (λ k. length k.children) c.contracts.view_is, length-map c.contracts.inside.children.now (λ l. l.items)) in
    let children : c.deref.result.now ≡ children_of contracts.children contract =
    c.deref.ensures.value ∙ made_at (λ l. l.items) c.contracts.inside.children.now contracts.children contract c.index-contracts-contract.result (ap (λ k. k.children) c.contracts.view_is) inside in
    record {
      children = λ k d lt.
          let child = c.requires.children contract [] within k d (subst (λ l. k < length l) children lt) in
          let same = ap (λ l. get_or l k d) children in
          omega (arith, child, same, c.loop-contract.invariant.count, length-map c.loop-contract.cones.items (λ v. v.items), ap length c.deref-in-loop-contract.ensures.value);
    }

pub index_mut-requires : goal.index_mut-requires
index_mut-requires c =
    omega (arith, order-within c.args.contracts.now c.args.order.now c.requires.ordered c.loop-contract.contract-index c.loop-contract-test.true, c.loop-contract.invariant.count, length-map c.loop-contract.cones.items (λ v. v.items))

pub loop-contract-preserved : goal.loop-contract-preserved
loop-contract-preserved c =
    let contracts = c.args.contracts.now in
    let i = c.loop-contract.contract-index in
    let contract = get_or c.args.order.now i 0 in
    let within = order-within contracts c.args.order.now c.requires.ordered i c.loop-contract-test.true in
    let inside : contract < length c.contracts.inside.children.now = omega (arith, within, ap (λ k. length k.children) c.contracts.view_is, length-map c.contracts.inside.children.now (λ l. l.items)) in
    let children : c.deref.result.now ≡ children_of contracts.children contract =
    c.deref.ensures.value ∙ made_at (λ l. l.items) c.contracts.inside.children.now contracts.children contract c.index-contracts-contract.result (ap (λ k. k.children) c.contracts.view_is) inside in
    let cones = map (λ v. v.items) c.loop-contract.cones.items in
    let is : c.in_ok-cone.cone.items ≡ ascending (contract ∷ flat_map (λ child. get_or cones child []) (children_of contracts.children contract)) =
    c.in_ok-cone.ensures
    ∙ (ap (λ vs. ascending (contract ∷ flat_map (λ child. get_or (map (λ v. v.items) vs) child []) c.deref.result.now)) c.deref-in-loop-contract.ensures.value
    ∙ ap (λ l. ascending (contract ∷ flat_map (λ child. get_or cones child []) l)) children) in
    rw map-set (coned-next contracts c.args.order.now c.requires.ordered cones i c.in_ok-cone.cone.items c.loop-contract.invariant c.loop-contract-test.true
    (coned-over contracts c.args.order.now c.requires.ordered c.requires.children cones i c.in_ok-cone.cone.items c.loop-contract.invariant c.loop-contract-test.true is))

pub returns : goal.returns
returns c = coned-all c.args.contracts.now c.args.order.now c.requires.ordered (map (λ v. v.items) c.loop-contract.cones.items) c.loop-contract.contract-index c.loop-contract.invariant c.loop-contract-test.false
