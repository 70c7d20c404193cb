-- The dates of jiff's calendar, which has the years from -9999 to 9999.
use Rattle.std.specs.Prelude.{◌≡◌, pos}
use Rattle.jiff_core.specs.declared.civil.date.Date.{Date}
use Rattle.act_date.specs.Civil.{Civil}

-- the two have the same year, month and day
pub record IsSameDate (date : Civil) (d : Date) : Type 0 where
  pub year : d.year ≡ pos date.year
  pub month : d.month ≡ date.month
  pub day : d.day ≡ date.day
