-- Of what bytes are a text, and which of their lines is the first that none has there. This profile's own.
use Rattle.std.specs.Prelude.{◌≡◌, ℕ, ◌+◌, ◌-◌, ◌≤◌, ◌==◌, ⊤, if◌then◌else◌, List, [], ◌∷◌, ◌++◌, length, take, Result, Ok, Err}
use Rattle.act_model.specs.Names.{NameLists}
use Rattle.act_print.specs.Conditions.{IsTranscript}
use Rattle.act_print.specs.Printed.{Transcript}
use Rattle.act_print.specs.Text.{text_of}
use Rattle.act_print.specs.declared.fault.TextFault.{TextFault}
use Rattle.act_print.specs.declared.fault.TextFault.TheVariants.{NotText, NoMemory}

-- a byte in front of the first line
abbrev pub with_byte : ℕ → List (List ℕ) → List (List ℕ)
with_byte byte [] = (byte ∷ []) ∷ []
with_byte byte (line ∷ lines) = (byte ∷ line) ∷ lines

-- the lines of bytes, without their line feeds; a last piece that lacks its line feed is a line too
abbrev pub lines_of : List ℕ → List (List ℕ)
lines_of [] = []
lines_of (byte ∷ bytes) = if byte == 10 then [] ∷ lines_of bytes else with_byte byte (lines_of bytes)

-- the bytes are a text of what is printed
pub record IsTextOf (names : NameLists) (bytes : List ℕ) (printed : Transcript) : Type 0 where
  pub conditions : IsTranscript names printed
  pub text : text_of names printed.items printed.answers ≡ bytes

-- the bytes are a text of this alone
pub record IsOnlyTextOf (names : NameLists) (bytes : List ℕ) (printed : Transcript) : Type 0 where
  pub text : IsTextOf names bytes printed
  pub only : (other : Transcript) → IsTextOf names bytes other → other ≡ printed

-- a text begins with these lines
abbrev pub Begins : NameLists → List (List ℕ) → Type 0
Begins names lines =
    (bytes : List ℕ) × (printed : Transcript) × IsTextOf names bytes printed × (rest : List (List ℕ)) × (lines_of bytes ≡ lines ++ rest)

-- the bytes are no text. No text begins with the lines up to the one of this number, counted from 1, and one begins with those
-- before it; where a text begins with all lines, it is the number of the last line plus 1
pub record IsFirstFault (names : NameLists) (bytes : List ℕ) (number : ℕ) : Type 0 where
  pub no_text : (printed : Transcript) → ¬ IsTextOf names bytes printed
  pub from_one : 1 ≤ number
  pub to_last : number ≤ length (lines_of bytes) + 1
  pub before : Begins names (take (number - 1) (lines_of bytes))
  pub here : number ≤ length (lines_of bytes) → ¬ Begins names (take number (lines_of bytes))

-- what a fault says of the bytes; want of memory says nothing
abbrev pub IsFaultOf : NameLists → List ℕ → TextFault → Type 0
IsFaultOf names bytes (NotText number) = IsFirstFault names bytes number
IsFaultOf names bytes NoMemory = ⊤

-- what was printed is given back, unless memory ran out
abbrev pub GivesBack : Transcript → Result Transcript TextFault → Type 0
GivesBack printed (Ok read) = read ≡ printed
GivesBack printed (Err (NotText number)) = ⊥
GivesBack printed (Err NoMemory) = ⊤
