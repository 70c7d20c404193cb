-- Cycles and periods as text: `P`, one to three digits, a unit's letter, and `L0`, `L1` or nothing. ACTUS cycles and periods; a
-- missing suffix and a period of count 0 are this profile's own.
use Rattle.std.specs.Prelude.{ℕ, ◌&&◌, ◌||◌, ◌==◌, nat_le, if◌then◌else◌, List, [], ◌∷◌, length, drop, codes, Option, Some, None, option_map, option_and_then, Result}
use Rattle.std.specs.Option.{ok_or, option_zip}
use Rattle.std.specs.Str.{byte, bytes_eq}
use Rattle.std.specs.Str.Parse.{digits_value}
use Rattle.act_num.specs.Decimal.{begins_with, first_digits, behind_digits}
use Rattle.act_date.specs.declared.cycle.Cycle.{Cycle}
use Rattle.act_date.specs.declared.cycle.CycleFault.{CycleFault}
use Rattle.act_date.specs.declared.cycle.CycleFault.TheVariants.{NotCycle}
use Rattle.act_date.specs.declared.cycle.Stub.{Stub}
use Rattle.act_date.specs.declared.cycle.Stub.TheVariants.{Long, Short}
use Rattle.act_date.specs.declared.cycle.Unit.{Unit}
use Rattle.act_date.specs.declared.cycle.Unit.TheVariants as unit

-- the unit that a letter names: D, W, M, Q, H or Y
abbrev pub unit_of : ℕ → Option Unit
unit_of letter =
    if letter == byte "D" then Some unit.D
    else (if letter == byte "W" then Some unit.W
    else (if letter == byte "M" then Some unit.M
    else (if letter == byte "Q" then Some unit.Q
    else (if letter == byte "H" then Some unit.H
    else (if letter == byte "Y" then Some unit.Y else None)))))

-- the stub that stands at the end: `L0` for a long one, `L1` or nothing for a short one
abbrev pub stub_of : List ℕ → Option Stub
stub_of text =
    if bytes_eq text (codes "L0") then Some Long
    else (if bytes_eq text (codes "L1") || bytes_eq text [] then Some Short else None)

-- a letter and what stands behind it
abbrev pub unit_and_stub : List ℕ → Option (Unit × Stub)
unit_and_stub [] = None
unit_and_stub (letter ∷ rest) = option_zip (unit_of letter) (stub_of rest)

-- the period that a text writes, or None of another text
unfoldable pub written_period : List ℕ → Option Cycle
written_period text =
    let digits = first_digits (drop 1 text) in
    if begins_with (byte "P") text && nat_le 1 (length digits) && nat_le (length digits) 3
    then option_map (λ u. record { count = digits_value 10 digits; unit = u.0; stub = u.1 }) (unit_and_stub (behind_digits (drop 1 text)))
    else None

-- the period, where its count is at least 1
abbrev pub nonempty_period : Cycle → Option Cycle
nonempty_period period = if nat_le 1 period.count then Some period else None

-- the period of a text
unfoldable pub period_of : List ℕ → Result Cycle CycleFault
period_of text = ok_or (written_period text) NotCycle

-- the cycle of a text, which is a period whose count is at least 1
unfoldable pub cycle_of : List ℕ → Result Cycle CycleFault
cycle_of text = ok_or (option_and_then nonempty_period (written_period text)) NotCycle
