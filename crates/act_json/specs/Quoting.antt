-- The quoting pass: bare numbers of a JSON text are put in quotes, so that they are read as texts. This profile's own.
use Rattle.std.specs.Prelude.{ℕ, zero, suc, ◌+◌, ◌||◌, ◌==◌, if◌then◌else◌, Bool, List, [], ◌∷◌, ◌++◌, length, take, drop}
use Rattle.std.specs.Char.{is_ascii_digit}
use Rattle.std.specs.List.{flat_map, prefix_len}
use Rattle.std.specs.Str.{byte}

-- the bytes `"` and `\`
abbrev pub quotation_mark : ℕ
quotation_mark = 34

abbrev pub backslash : ℕ
backslash = 92

-- a byte that numbers start with: a digit or a minus sign
unfoldable pub starts_number : ℕ → Bool
starts_number b = is_ascii_digit b || (b == byte "-")

-- a byte that numbers are written with: one of those, a plus sign, a point or an e
unfoldable pub is_number_byte : ℕ → Bool
is_number_byte b = starts_number b || (b == byte "+") || (b == byte ".") || (b == byte "e") || (b == byte "E")

abbrev mutual
  -- how long a string is behind its opening quotation mark: up to the next one, or to the end of a text without one. A backslash
  -- takes the byte behind it along
  pub string_len : List ℕ → ℕ
  string_len [] = 0
  string_len (b ∷ rest) = 1 + (if b == quotation_mark then 0 else (if b == backslash then escaped_len rest else string_len rest))

  -- the same behind a backslash
  pub escaped_len : List ℕ → ℕ
  escaped_len [] = 0
  escaped_len (b ∷ rest) = 1 + string_len rest

-- how long the piece is that a text begins with: a string, a run of the bytes of numbers as long as it can be, or one other byte
unfoldable pub piece_len : List ℕ → ℕ
piece_len [] = 0
piece_len (b ∷ rest) =
    if b == quotation_mark then 1 + string_len rest else (if is_number_byte b then prefix_len is_number_byte (b ∷ rest) else 1)

-- a text in its pieces, so many at most
unfoldable pub pieces : ℕ → List ℕ → List (List ℕ)
pieces zero text = []
pieces (suc most) [] = []
pieces (suc most) (b ∷ rest) =
    let text : List ℕ = b ∷ rest in
    take (piece_len text) text ∷ pieces most (drop (piece_len text) text)

-- a piece, between quotation marks where it starts as a number does
abbrev pub quoted_piece : List ℕ → List ℕ
quoted_piece [] = []
quoted_piece (b ∷ rest) = if starts_number b then quotation_mark ∷ (b ∷ rest) ++ quotation_mark ∷ [] else b ∷ rest

-- a text with each of its numbers between quotation marks; it has no more pieces than bytes
unfoldable pub quoted : List ℕ → List ℕ
quoted text = flat_map quoted_piece (pieces (length text) text)
