use Rattle.std.proofs.Common.{◌≡◌, ◌+◌, [], ◌∷◌, ◌++◌, length, map, take, ap, sym, refl, ◌∙◌, arith, length-append, length-take}
use Rattle.std.proofs.lemmas.List.{map-append, take_all}
use Rattle.std.specs.List.{zip}
use Rattle.act_binding.specs.Binding.{bind, bound}
use Rattle.act_cones.proofs.Lists.{all_pairs, mapped_with, one_more, pair_at, within_pairs, zip-push}
use Rattle.act_binding.proofs.binding.bindings.Goals as goal

pub loop-place-preserved : goal.loop-place-preserved
loop-place-preserved c =
    let i = c.loop-place.place in
    let named = c.args.named.now in
    let bindings = c.loop-place.bindings.items in
    let contract = c.index-named-place.result in
    let binding = c.in_ok-binding.binding in
    let count = c.loop-place.invariant.count in
    let within = within_pairs named c.args.numbers.now i c.loop-place-test.true c.requires.numbers in
    let here = pair_at named c.args.numbers.now i contract _ 0 c.loop-place-test.true c.requires.numbers c.index-named-place.is refl in
    let many : length (take i named) ≡ length bindings = omega (arith, length-take i named) in
    let pairs : zip (take (i + 1) named) (bindings ++ binding ∷ []) ≡ zip (take i named) bindings ++ (contract, binding) ∷ [] =
    ap (λ l. zip l (bindings ++ binding ∷ [])) (one_more named i contract c.loop-place-test.true c.index-named-place.is) ∙ zip-push (take i named) bindings contract binding many in
    rw c.in_ok-push.ensures.items (record {
      count = omega (arith, length-append bindings (binding ∷ []));
      bound = mapped_with (λ n. (bound c.args.listing.now c.args.plans.now n).kind) (zip named c.args.numbers.now) i _ (map (λ b. bind b.1 b.0.terms.kind) (zip (take i named) bindings)) _ _ within here c.loop-place.invariant.bound c.in_ok-binding.ensures
          (ap (map (λ b. bind b.1 b.0.terms.kind)) pairs ∙ map-append (λ b. bind b.1 b.0.terms.kind) (zip (take i named) bindings) ((contract, binding) ∷ []));
    })

pub returns-clause-bound : goal.returns-clause-bound
returns-clause-bound c =
    let named = c.args.named.now in
    ap (λ l. map (λ b. bind b.1 b.0.terms.kind) (zip l c.loop-place.bindings.items)) (sym (take_all c.loop-place.place named c.loop-place-test.false)) ∙ c.loop-place.invariant.bound
    ∙ ap (map (λ n. (bound c.args.listing.now c.args.plans.now n).kind)) (all_pairs named c.args.numbers.now c.loop-place.place c.loop-place-test.false)
