use Rattle.std.proofs.Common.{◌≡◌, ◌+◌, ◌<◌, ◌∷◌, ◌++◌, [], List, length, take, Some, sym, ap, subst, ◌∙◌, arith}
use Rattle.std.proofs.lemmas.List.{length-take-le, take_more}
use Rattle.std.proofs.lemmas.Option.{get_or_from_slice_get, slice_get_within}
use Rattle.std.specs.List.{slice_get}
use Rattle.act_model.specs.declared.observed.Obs.{Obs}
use Rattle.act_cut.specs.Lows.{AreChanges}
use Rattle.act_cut.proofs.Least.{get-take}
use Rattle.act_cut.proofs.indexed.go_over.Goals as goal

pub loop-place-preserved : goal.loop-place-preserved
loop-place-preserved c = λ book are from seen.
    let so_far = c.loop-place.invariant book are from seen in
    let place = c.loop-place.place in
    let entry = c.in-Some.entry in
    let at : slice_get book place ≡ Some entry = sym (get-take book c.args.to place c.loop-place-test.true) ∙ ap (λ (xs : List Obs). slice_get xs place) (sym seen) ∙ sym c.entry.ensures.place ∙ c.in-Some.is in
    let within : place < length book = slice_get_within book place entry at in
    let next : take (place + 1) book ≡ take place book ++ entry ∷ [] = take_more book place entry within ∙ ap (λ x. take place book ++ x ∷ []) (get_or_from_slice_get book place entry entry at) in
    (subst (λ (xs : List Obs). AreChanges xs c.add.new.self) (sym next) (c.in-Ok.ensures.added (take place book) so_far.0 (sym (length-take-le place book so_far.1))), omega (arith, within))

pub returns-in_default-add : goal.returns-in_default-add
returns-in_default-add c = record {
  gone = λ book are from seen.
      let so_far = c.loop-place.invariant book are from seen in
      (c.in_default-add.ensures.unchanged (take c.loop-place.place book) so_far.0, so_far.1);
}
