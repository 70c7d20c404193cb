-- Formulas: the operations on amounts, each undefined where one of its amounts is. This profile's own.
use Rattle.std.specs.Prelude.{ℤ, pos, neg_ℤ, unsigned_abs, Bool, true, false, Option, Some, option_map, option_and_then}
use Rattle.std.specs.Int.{int_min}
use Rattle.act_num.specs.Number.{add_of, sub_of, mul_of, mul_frac_of}
use Rattle.act_date.specs.Fraction.{Fraction}
use Rattle.act_model.specs.declared.choice.ContractRole.{ContractRole}
use Rattle.act_model.specs.declared.choice.ContractRole.TheVariants as role

-- ---- amounts that may be undefined

-- an operation on two amounts
abbrev pub of_both : (ℤ → ℤ → Option ℤ) → Option ℤ → Option ℤ → Option ℤ
of_both f a b = option_and_then (λ x. option_and_then (λ y. f x y) b) a

-- a + b
abbrev pub plus : Option ℤ → Option ℤ → Option ℤ
plus a b = of_both add_of a b

-- a - b
abbrev pub minus : Option ℤ → Option ℤ → Option ℤ
minus a b = of_both sub_of a b

-- a * b
abbrev pub times : Option ℤ → Option ℤ → Option ℤ
times a b = of_both mul_of a b

-- a * rate * part of a year, rounded once
abbrev pub interest_on : ℤ → ℤ → Fraction → Option ℤ
interest_on a rate part = mul_frac_of a rate (pos part.num) part.den

-- the lesser
abbrev pub lesser : Option ℤ → Option ℤ → Option ℤ
lesser a b = of_both (λ x y. Some (int_min x y)) a b

-- the magnitude
abbrev pub magnitude : Option ℤ → Option ℤ
magnitude a = option_map (λ x. pos (unsigned_abs x)) a

-- ---- the sign of a role

-- the sign R of a role: true for +1, false for -1. The signs of OBL, COL and GUA are this profile's own
abbrev pub is_receiver : ContractRole → Bool
is_receiver role.RPA = true
is_receiver role.RFL = true
is_receiver role.RF = true
is_receiver role.BUY = true
is_receiver role.LG = true
is_receiver role.OBL = true
is_receiver role.COL = true
is_receiver role.RPL = false
is_receiver role.PFL = false
is_receiver role.PF = false
is_receiver role.SEL = false
is_receiver role.ST = false
is_receiver role.GUA = false

-- the amount, or its negative
abbrev pub with_sign : Bool → ℤ → ℤ
with_sign true x = x
with_sign false x = neg_ℤ x

-- R*x
abbrev pub signed : ContractRole → ℤ → ℤ
signed r x = with_sign (is_receiver r) x

-- -R*x
abbrev pub opposite : ContractRole → ℤ → ℤ
opposite r x = neg_ℤ (signed r x)
