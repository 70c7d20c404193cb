-- Changes of a state, one variable at a time. ACTUS state variables.
use Rattle.std.specs.Prelude.{ℤ, pos, Option, Some, None}
use Rattle.std.specs.Int.{int_max}
use Rattle.std.specs.Option.{unwrap_or}
use Rattle.act_num.specs.Number.{one}
use Rattle.act_model.specs.declared.state.State.{State}

-- the state that every contract begins with: nothing is owed, and both multipliers are 1
abbrev pub first_state : ℤ → State
first_state status_date = record { sd = Some status_date; md = None; xd = None; nt = pos 0; ipnr = pos 0; ipac = pos 0; ipnr2 = pos 0; ipac2 = pos 0; feac = pos 0; nsc = pos one; isc = pos one; ipcb = pos 0; prnxt = pos 0; xa = pos 0 }

-- Sd, the day up to which the state has accrued
abbrev pub with_sd : ℤ → State → State
with_sd day s = record s { sd = Some day }

-- Md, the maturity
abbrev pub with_md : ℤ → State → State
with_md day s = record s { md = Some day }

-- Nt, the notional
abbrev pub with_nt : ℤ → State → State
with_nt nt s = record s { nt = nt }

-- Ipnr, the rate of interest
abbrev pub with_ipnr : ℤ → State → State
with_ipnr rate s = record s { ipnr = rate }

-- Ipac, the interest accrued
abbrev pub with_ipac : ℤ → State → State
with_ipac interest s = record s { ipac = interest }

-- Ipnr2, the rate of a swap that is reset
abbrev pub with_ipnr2 : ℤ → State → State
with_ipnr2 rate s = record s { ipnr2 = rate }

-- Ipac2, the interest accrued at that rate
abbrev pub with_ipac2 : ℤ → State → State
with_ipac2 interest s = record s { ipac2 = interest }

-- Feac, the fee accrued
abbrev pub with_feac : ℤ → State → State
with_feac fee s = record s { feac = fee }

-- Nsc, the multiplier of payments of principal
abbrev pub with_nsc : ℤ → State → State
with_nsc multiplier s = record s { nsc = multiplier }

-- Isc, the multiplier of interest payments
abbrev pub with_isc : ℤ → State → State
with_isc multiplier s = record s { isc = multiplier }

-- Ipcb, the base of interest
abbrev pub with_ipcb : ℤ → State → State
with_ipcb base s = record s { ipcb = base }

-- Prnxt, the next redemption payment
abbrev pub with_prnxt : ℤ → State → State
with_prnxt payment s = record s { prnxt = payment }

-- Xa, the amount of exercise, of a loan the last prepayment
abbrev pub with_xa : ℤ → State → State
with_xa amount s = record s { xa = amount }

-- Xd, the day of exercise
abbrev pub with_xd : ℤ → State → State
with_xd day s = record s { xd = Some day }

-- the later of Sd and a day
abbrev pub later_day : Option ℤ → ℤ → ℤ
later_day sd day = int_max (unwrap_or sd day) day
