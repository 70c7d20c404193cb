-- The dates of a contract before they are shifted to business days. The names are those of ACTUS; the rules are this profile's.
use Rattle.std.specs.Prelude.{int_le, ℕ, ◌+◌, ◌-◌, ◌/◌, max, ◌&&◌, not, nat_lt, if◌then◌else◌, Bool, ℤ, unsigned_abs, int_lt, List, [], ◌∷◌, Option, Some, None, option_map, option_and_then, Result, Ok, Err}
use Rattle.std.specs.Int.{int_max, int_min}
use Rattle.std.specs.List.{filter, fold, reduce}
use Rattle.std.specs.Ordering.{int_eq}
use Rattle.act_date.specs.Cycle.{plus_cycles}
use Rattle.act_date.specs.declared.cycle.Cycle.{Cycle}
use Rattle.act_date.specs.declared.cycle.MonthRule.{MonthRule}
use Rattle.act_model.specs.declared.run.PlanFault.{PlanFault}
use Rattle.act_model.specs.declared.run.PlanFault.TheVariants.{TooManyDates, DateRange}
use Rattle.act_model.specs.declared.terms.Lam.{Lam}
use Rattle.act_profile.specs.Lists.{insert_once_by}
use Rattle.act_model.specs.Limits.{most_dates}
use Rattle.act_sched.specs.Schedule.{latest_in, schedule_dates}
pub use Rattle.act_sched.specs.Schedule.{dates_but_for as without, later_dates as after}

-- ---- dates that recur

-- the anchor of a cycle: the given one, or else one cycle after the initial exchange; none where neither is given. Undefined where
-- that day is past 2299
abbrev pub anchor_of : ℤ → Option ℤ → Option Cycle → Option (Option ℤ)
anchor_of exchange (Some anchor) cycle = Some (Some anchor)
anchor_of exchange None (Some cycle) = option_map Some (plus_cycles exchange cycle 1)
anchor_of exchange None None = Some None

-- the dates of an anchor and a cycle up to an end
abbrev pub recurring : MonthRule → ℤ → ℤ → Option ℤ → Option Cycle → Option (List ℤ)
recurring rule exchange end anchor cycle =
    option_map (λ first. schedule_dates first cycle end rule) (anchor_of exchange anchor cycle)

-- the dates of an anchor and a cycle up to an end, or the end alone where there is no anchor
abbrev pub dates_or_end : MonthRule → ℤ → Option Cycle → Option ℤ → List ℤ
dates_or_end rule end cycle None = end ∷ []
dates_or_end rule end cycle (Some anchor) = schedule_dates (Some anchor) cycle end rule

-- the same of a given anchor, or one that comes one cycle after the initial exchange
abbrev pub recurring_or_end : MonthRule → ℤ → ℤ → Option ℤ → Option Cycle → Option (List ℤ)
recurring_or_end rule exchange end anchor cycle = option_map (dates_or_end rule end cycle) (anchor_of exchange anchor cycle)

-- the dates of an anchor and a cycle before an end
abbrev pub recurring_before : MonthRule → ℤ → ℤ → Option ℤ → Option Cycle → Option (List ℤ)
recurring_before rule exchange end anchor cycle = option_map (without end) (recurring rule exchange end anchor cycle)

-- the dates of both lists, ascending, each day once
abbrev pub united : List ℤ → List ℤ → List ℤ
united dates others = fold (insert_once_by int_lt) dates others

-- the latest of a first day and of those dates that aren't after a day
abbrev pub latest_until : ℤ → ℤ → List ℤ → ℤ
latest_until day first dates = latest_in day None first dates

-- after the status date and not after the last day, where there is one
abbrev pub is_within : ℤ → Option ℤ → ℤ → Bool
is_within status None day = int_lt status day
is_within status (Some last) day = int_lt status day && int_le day last

-- the least of some days
abbrev pub least : List ℤ → Option ℤ
least days = reduce int_min days

-- ---- the maturity of a LAM

-- how often a payment redeems a notional: at least once
abbrev pub redemptions_needed : ℤ → ℤ → ℕ
redemptions_needed notional payment =
    max 1 ((unsigned_abs notional + unsigned_abs payment - 1) / unsigned_abs payment)

-- the day, where it is after the initial exchange
abbrev pub maturity_after : ℤ → Option ℤ → Result ℤ PlanFault
maturity_after exchange None = Err DateRange
maturity_after exchange (Some day) = if int_lt exchange day then Ok day else Err DateRange

-- the last of so many redemptions
abbrev pub last_redemption : Lam → ℕ → Option ℤ
last_redemption lam n =
    option_and_then (λ cycle. option_and_then (λ first. option_and_then (λ anchor. plus_cycles anchor cycle (n - 1)) first)
    (anchor_of lam.loan.initial_exchange_date lam.redemption.cycle_anchor_date_of_principal_redemption (Some cycle)))
    lam.redemption.cycle_of_principal_redemption

-- the maturity that the payment leads to: the day of the last redemption, where there are not too many
abbrev pub derived_maturity : Lam → ℤ → Result ℤ PlanFault
derived_maturity lam payment =
    let n = redemptions_needed lam.loan.notional_principal payment in
    if nat_lt most_dates n then Err TooManyDates else maturity_after lam.loan.initial_exchange_date (last_redemption lam n)

-- the same by the payment, which every LAM without a maturity has
abbrev pub maturity_by : Lam → Option ℤ → Result ℤ PlanFault
maturity_by lam None = Err DateRange
maturity_by lam (Some payment) = derived_maturity lam payment

-- the maturity of a LAM: the given one, or the one that its payment leads to
abbrev pub given_or_derived : Lam → Option ℤ → Result ℤ PlanFault
given_or_derived lam (Some maturity) = Ok maturity
given_or_derived lam None = maturity_by lam lam.next_principal_redemption_payment

abbrev pub maturity_of_lam : Lam → Result ℤ PlanFault
maturity_of_lam lam = given_or_derived lam lam.maturity_date
