-- JSON text without spaces, as bytes. This profile's own.
use Rattle.std.specs.Prelude.{ℕ, List, [], ◌∷◌, ◌++◌, codes}
use Rattle.std.specs.List.{flat_map}
use Rattle.act_num.specs.Digits.{padded_digits}

-- a rate below 1, in units of 10^-4, with four decimals
abbrev pub rate_text : ℕ → List ℕ
rate_text units = codes "0." ++ padded_digits 4 units

-- a text in double quotes
abbrev pub quoted : List ℕ → List ℕ
quoted text = codes "\"" ++ text ++ codes "\""

-- a name and its value, which is a number, an array or an object
abbrev pub member : List ℕ → List ℕ → List ℕ
member name value = quoted name ++ codes ":" ++ value

-- a name and its value, which is a text
abbrev pub text_member : List ℕ → List ℕ → List ℕ
text_member name value = member name (quoted value)

-- texts behind others: a comma before each
abbrev pub after_commas : List (List ℕ) → List ℕ
after_commas texts = flat_map (λ text. codes "," ++ text) texts

-- texts with a comma between them
abbrev pub with_commas : List (List ℕ) → List ℕ
with_commas [] = []
with_commas (text ∷ texts) = text ++ after_commas texts

abbrev pub array : List (List ℕ) → List ℕ
array values = codes "[" ++ with_commas values ++ codes "]"

abbrev pub object : List (List ℕ) → List ℕ
object members = codes "{" ++ with_commas members ++ codes "}"
