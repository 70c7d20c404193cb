-- The script of a number n: 24 rates of M6, and an ask for all contracts behind every sixth. This profile's own.
use Rattle.std.specs.Prelude.{ℕ, ◌+◌, ◌-◌, ◌*◌, ◌%◌, ◌==◌, if◌then◌else◌, ℤ, pos, ◌+ℤ◌, List, [], ◌∷◌, ◌++◌, codes}
use Rattle.std.specs.List.{flat_map}
use Rattle.act_date.specs.Civil.{day_number}
use Rattle.act_date.specs.Text.{date_text}
use Rattle.act_gen.specs.Draws.{draw}
use Rattle.act_gen.specs.Json.{object, member, rate_text, text_member}
use Rattle.act_gen.specs.Portfolio.{numbers}

-- a rate of M6 on a day, in units of 10^-4
unfoldable pub rate_line : ℤ → ℕ → List ℕ
rate_line day rate =
    object (member (codes "rate") (object (
    text_member (codes "code") (codes "M6")
    ∷ text_member (codes "date") (date_text day)
    ∷ member (codes "value") (rate_text rate) ∷ [])) ∷ []) ++ codes "\n"

-- an ask for all contracts
abbrev pub ask_line : List ℕ
ask_line = object (text_member (codes "ask") (codes "*") ∷ []) ++ codes "\n"

-- behind every sixth rate stands an ask
abbrev pub ask_behind : ℕ → List ℕ
ask_behind j = if j % 6 == 0 then ask_line else []

-- the kth draw behind those of the portfolio, which are two for each of the n loans
abbrev pub later_draw : ℕ → ℕ → ℕ → ℕ
later_draw n k m = draw n (2 * n + k) m

-- the day of the first rate, 2020-01-01
abbrev pub start : ℤ
start = day_number (record { year = 2020; month = 1; day = 1 })

-- the day of the jth rate lies up to 3,649 days after the start, as is drawn; the draw for the first is made and not used
abbrev pub rate_day : ℕ → ℕ → ℤ
rate_day n j = if j == 1 then start else start +ℤ pos (later_draw n (2 * j - 1) 3650)

-- the jth rate is made of the later draws 2j-1 and 2j: its day, and a value from 0.01 to 0.0499
unfoldable pub drawn_lines : ℕ → ℕ → List ℕ
drawn_lines n j = rate_line (rate_day n j) (100 + later_draw n (2 * j) 400) ++ ask_behind j

-- the lines of the rates 1 to 24
unfoldable pub script_text : ℕ → List ℕ
script_text n = flat_map (drawn_lines n) (numbers 24)
