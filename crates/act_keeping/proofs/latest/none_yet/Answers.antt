use Rattle.std.proofs.Common.{◌≡◌, ◌∷◌, ◌++◌, [], List, Option, None, refl, inl, inr, length, sym, ap, ◌∙◌, arith}
use Rattle.std.specs.List.{slice_get}
use Rattle.std.proofs.lemmas.List.{length_push}
use Rattle.act_keeping.specs.declared.latest.LatestResult.{LatestResult}
use Rattle.act_history.proofs.Places.{get-push_cases}
use Rattle.act_keeping.proofs.latest.none_yet.Goals as goal

pub loop-latest-preserved : goal.loop-latest-preserved
loop-latest-preserved c =
    let none : Option LatestResult = None in
    let items : c.push.new.self.items ≡ c.loop-latest.latest.items ++ None ∷ [] = c.in_ok-push.ensures.items in (
      record {
        count = refl;
        each = λ k one at. elim (get-push_cases c.loop-latest.latest.items None one k (sym (ap (λ (xs : List (Option LatestResult)). slice_get xs k) items) ∙ at)) [
          | inl old ↦ c.loop-latest.invariant.0.each k one old.1
          | inr new ↦ sym new.1
        ];
      },
      omega (arith, ap length items, length_push c.loop-latest.latest.items none, c.loop-latest-test.true),
    )
