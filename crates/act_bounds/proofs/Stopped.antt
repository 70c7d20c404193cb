-- Runs that hold do so under the rule on children's stops.
use Rattle.std.proofs.Common.{ℕ, ℤ, int_le, int_lt, List, [], ◌∷◌, map, Option, Some, None, IfSome, inl, inr}
use Rattle.std.specs.List.{AllByRecursion, fold}
use Rattle.std.proofs.lemmas.Bool.{cases_Bool}
use Rattle.act_date.specs.Civil.{IsDay}
use Rattle.act_model.specs.Bounds.{EntryIsBounded}
use Rattle.act_model.specs.Run.{Stream}
use Rattle.act_model.specs.declared.observed.Obs.{Obs}
use Rattle.act_model.specs.declared.run.Close.{Close}
use Rattle.act_model.specs.declared.run.Close.TheVariants.{End, Missing, Overflow}
use Rattle.act_model.specs.declared.run.Row.{Row}
use Rattle.act_model.specs.declared.terms.Common.{Common}
use Rattle.act_model.specs.declared.terms.Kind.{Kind}
use Rattle.act_model.specs.declared.terms.Kind.TheVariants as kind
use Rattle.act_profile.specs.Credit.{credit_day}
use Rattle.act_profile.specs.Stops.{chosen_close, comes_before, earlier_close, is_until, last_reading_day, stop_at_credit, stop_day, stopped_at_credit, stopped_by, stopped_on, under_stop}
use Rattle.act_bounds.proofs.Children.{ChildrenHold}
use Rattle.act_bounds.proofs.Days.{credit_day-is}
use Rattle.act_bounds.specs.Bounds.{CloseHolds, RowHolds, RunHolds}
use Rattle.act_causality.proofs.EventFacts.{all-filter}

module _ (codes currencies : ℕ) where
  -- ---- the chosen stop of children

  earlier-holds : (a b : Close) → CloseHolds codes a → CloseHolds codes b → CloseHolds codes (earlier_close a b)
  earlier-holds a b first second =
      elim (cases_Bool (comes_before (stop_day b) (stop_day a))) [
        | inl earlier ↦ rw earlier second
        | inr later ↦ rw later first
      ]

  fold-holds : (a : Close) (children : List Stream) → CloseHolds codes a → ChildrenHold codes currencies children → CloseHolds codes (fold earlier_close a (map (λ run. run.close) children))
  fold-holds a [] first hold = first
  fold-holds a (run ∷ children) first hold = fold-holds (earlier_close a run.close) children (earlier-holds a run.close first hold.0.close) hold.1

  pub chosen-holds : (children : List Stream) → ChildrenHold codes currencies children → CloseHolds codes (chosen_close children)
  chosen-holds children hold = fold-holds End children tt hold

  -- ---- a run that is stopped

  on-holds : (t : ℤ) (stop : Close) (run : Stream) → CloseHolds codes stop → RunHolds codes currencies run → RunHolds codes currencies (stopped_on t stop run)
  on-holds t stop run stops holds =
      elim (cases_Bool (comes_before (stop_day run.close) (Some t))) [
        | inl own ↦ rw own holds
        | inr by_stop ↦ rw by_stop (record { rows = all-filter (RowHolds currencies) (λ (row : Row). int_lt row.day t) run.rows holds.rows; close = stops })
      ]

  by-holds : (last : Option ℤ) (stop : Close) (at : Option ℤ) (run : Stream) → CloseHolds codes stop → RunHolds codes currencies run → RunHolds codes currencies (stopped_by last stop at run)
  by-holds last stop None run stops holds = holds
  by-holds last stop (Some t) run stops holds =
      elim (cases_Bool (is_until last t)) [
        | inl until ↦ rw until (on-holds t stop run stops holds)
        | inr past ↦ rw past holds
      ]

  credit-stop : (credit : ℤ) (stop : Close) → IsDay credit → CloseHolds codes stop → CloseHolds codes (stop_at_credit credit stop)
  credit-stop credit End is stops = tt
  credit-stop credit (Missing code day) is stops = (stops.0, is)
  credit-stop credit (Overflow day what) is stops = is

  credit-holds : (credit : Option ℤ) (stop : Close) (at : Option ℤ) (run : Stream) → IfSome credit IsDay → CloseHolds codes stop → RunHolds codes currencies run → RunHolds codes currencies (stopped_at_credit credit stop at run)
  credit-holds None stop at run is stops holds = holds
  credit-holds (Some credit) stop None run is stops holds = holds
  credit-holds (Some credit) stop (Some t) run is stops holds =
      elim (cases_Bool (int_le t credit)) [
        | inl until ↦ rw until (on-holds credit (stop_at_credit credit stop) run (credit-stop credit stop is stops) holds)
        | inr past ↦ rw past holds
      ]

  -- ---- any kind

  -- a run that holds does so under a stop that does
  pub under_stop-holds : (common : Common) (contract : Kind) (entries : List Obs) (stop : Close) (run : Stream) → AllByRecursion EntryIsBounded entries → CloseHolds codes stop → RunHolds codes currencies run →
      RunHolds codes currencies (under_stop common contract entries stop run)
  under_stop-holds common (kind.SWAPS swaps) entries stop run entered stops holds = by-holds (last_reading_day common (kind.SWAPS swaps)) stop (stop_day stop) run stops holds
  under_stop-holds common (kind.CAPFL capfl) entries stop run entered stops holds = by-holds (last_reading_day common (kind.CAPFL capfl)) stop (stop_day stop) run stops holds
  under_stop-holds common (kind.CEG ceg) entries stop run entered stops holds =
      credit-holds (credit_day entries common ceg) stop (stop_day stop) run (credit_day-is entries entered common ceg) stops holds
  under_stop-holds common (kind.CEC cec) entries stop run entered stops holds =
      credit-holds (credit_day entries common cec.guarantee) stop (stop_day stop) run (credit_day-is entries entered common cec.guarantee) stops holds
  under_stop-holds common contract entries stop run entered stops holds = holds
