-- The words of an audit. This profile's own.
use Rattle.std.specs.Prelude.{nat_le, if◌then◌else◌, List, [], ◌∷◌, codes, length, Option, Some, None, ℕ}
use Rattle.act_model.specs.Limits.{most_callers}

-- the files of an audit: the portfolio, the text, and the scripts of its callers in their order, of which there may be none
pub record AuditFiles : Type 0 where
  pub portfolio : List ℕ
  pub text : List ℕ
  pub scripts : List (List ℕ)

-- what is written where words are of no form
abbrev pub usage : List ℕ
usage = codes "usage: P TEXT [S..]\n"

-- the audit of words: `P TEXT`, with up to 16 scripts behind them; other words are of no form
abbrev pub audit_of : List (List ℕ) → Option AuditFiles
audit_of [] = None
audit_of (portfolio ∷ []) = None
audit_of (portfolio ∷ text ∷ scripts) =
    if nat_le (length scripts) most_callers then Some (record { portfolio = portfolio; text = text; scripts = scripts }) else None
