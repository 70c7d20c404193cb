-- The dates of a loan's redemption, with its maturity T.
use Rattle.std.specs.Prelude.{ℤ, List, [], Option, Some, None}
use Rattle.act_model.specs.declared.terms.Redemption.{Redemption}
use Rattle.act_profile.specs.LoanTerms.{LoanTerms, dates_to_maturity}

-- the dates of redemption with T among them, where the anchor isn't after it
abbrev pub all_redemption_dates_by : LoanTerms → Option Redemption → Option (List ℤ)
all_redemption_dates_by l None = Some []
all_redemption_dates_by l (Some terms) =
    dates_to_maturity l terms.cycle_anchor_date_of_principal_redemption terms.cycle_of_principal_redemption

abbrev pub all_redemption_dates : LoanTerms → Option (List ℤ)
all_redemption_dates l = all_redemption_dates_by l l.redemption
