-- The chosen stop of children, one child after another.
use Rattle.std.proofs.Common.{◌≡◌, ℕ, ◌+◌, ◌<◌, ◌≤◌, List, [], ◌∷◌, ◌++◌, length, map, take, get_or, refl, sym, ap, ◌∙◌}
use Rattle.std.proofs.lemmas.List.{map_more, take_all}
use Rattle.std.proofs.lemmas.List.Sums.{fold-append}
use Rattle.std.specs.List.{fold}
use Rattle.act_model.specs.Run.{Stream}
use Rattle.act_model.specs.declared.run.Close.{Close}
use Rattle.act_model.specs.declared.run.Close.TheVariants.{End}
use Rattle.act_profile.specs.Stops.{chosen_close, earlier_close}

module _ {X : Type 0} (run_of : X → Stream) where
  -- the closes of these runs
  abbrev pub closes : List X → List Close
  closes xs = map (λ x. (run_of x).close) xs

  -- the stop that is chosen among the first k of them
  pub record IsChosen (xs : List X) (k : ℕ) (chosen : Close) : Type 0 where
    pub is : chosen ≡ fold earlier_close End (closes (take k xs))

  pub none_chosen : (xs : List X) → IsChosen xs 0 End
  none_chosen xs = record { is = refl }

  pub one_more : (xs : List X) (k : ℕ) (x : X) (chosen : Close) → IsChosen xs k chosen → k < length xs → x ≡ get_or xs k x → IsChosen xs (k + 1) (earlier_close chosen (run_of x).close)
  one_more xs k x chosen so_far lt here = record {
    is = ap (λ first. earlier_close first (run_of x).close) so_far.is ∙ sym (fold-append earlier_close End (closes (take k xs)) ((run_of x).close ∷ []))
        ∙ ap (fold earlier_close End) (ap (λ y. closes (take k xs) ++ (run_of y).close ∷ []) here ∙ sym (map_more (λ y. (run_of y).close) xs k x lt));
  }

  twice : (xs : List X) → closes xs ≡ map (λ run. run.close) (map run_of xs)
  twice [] = refl
  twice (x ∷ xs) = ap (λ rest. (run_of x).close ∷ rest) (twice xs)

  pub all_chosen : (xs : List X) (k : ℕ) (chosen : Close) → IsChosen xs k chosen → length xs ≤ k → chosen ≡ chosen_close (map run_of xs)
  all_chosen xs k chosen so_far le = so_far.is ∙ ap (λ ys. fold earlier_close End (closes ys)) (take_all k xs le) ∙ ap (fold earlier_close End) (twice xs)
