-- What a proof unfolds to compute the definitions on literal terms.
use Rattle.std.specs.Prelude.{⊤}
use Rattle.act_num.specs.Number.{nearest_number}
use Rattle.act_date.specs.Civil.{civil_of, date_from_month, date_from_year, day_number, days_of_months, days_of_years}
use Rattle.act_date.specs.Cycle.{plus_cycles}
use Rattle.act_date.specs.DayCount.{count_days, year_fraction}
use Rattle.act_calendar.specs.Shift.{following_day, is_in_month, preceding_day, shift_of}
use Rattle.act_sched.specs.Schedule.{cycle_date, dates_before, days_from, schedule_dates}
use Rattle.act_annuity.specs.Payment.{annuity_payment, factors_of, products_of, sum_from}
use Rattle.act_model.specs.Observed.{observation}
use Rattle.act_profile.specs.Credit.{credit_day, guarantee_plan, reading_all}
use Rattle.act_profile.specs.Equity.{outright_plan}
use Rattle.act_profile.specs.Events.{events_observed, events_of}
use Rattle.act_profile.specs.Exercise.{settlement_day}
use Rattle.act_profile.specs.Kept.{kept_of}
use Rattle.act_profile.specs.Lists.{all_of, insert_by, insert_once_by}
use Rattle.act_profile.specs.Loan.{days_after}
use Rattle.act_profile.specs.LoanPlan.{loan_plan, parts_from, with_first_given}
use Rattle.act_profile.specs.Order.{in_order, up_to_end}
use Rattle.act_profile.specs.Planning.{events_by_type}
use Rattle.act_profile.specs.Reads.{cone_to, cut_by}
use Rattle.act_profile.specs.Run.{own_run, rows_from, run_over, run_to}
use Rattle.act_profile.specs.Steps.{start_of, step_of}
use Rattle.act_profile.specs.Swap.{plain_swap_plan}

unfoldable pub profile_on_literals : ⊤
unfolding nearest_number civil_of date_from_month date_from_year day_number days_of_months days_of_years plus_cycles count_days year_fraction following_day is_in_month preceding_day shift_of cycle_date dates_before days_from schedule_dates annuity_payment factors_of products_of sum_from observation credit_day guarantee_plan reading_all outright_plan events_observed events_of settlement_day kept_of all_of insert_by insert_once_by loan_plan parts_from with_first_given in_order up_to_end events_by_type cone_to cut_by own_run rows_from run_over run_to start_of step_of plain_swap_plan days_after
profile_on_literals = tt
