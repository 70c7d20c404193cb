-- What names look like. This profile's own.
use Rattle.std.specs.Prelude.{ℕ, ◌&&◌, nat_le, Bool, List, length}
use Rattle.std.specs.List.{list_all}

-- a printable ASCII character other than a space
abbrev pub is_graphic : ℕ → Bool
is_graphic byte = nat_le 33 byte && nat_le byte 126

-- such characters, from one up to so many
unfoldable pub has_form : ℕ → List ℕ → Bool
has_form most text = nat_le 1 (length text) && nat_le (length text) most && list_all is_graphic text

-- the name of a contract or of a market object: 1 to 64 such characters
abbrev pub is_name : List ℕ → Bool
is_name text = has_form 64 text

-- the name of a currency: 1 to 16 such characters
abbrev pub is_currency : List ℕ → Bool
is_currency text = has_form 16 text
