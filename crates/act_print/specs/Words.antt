-- Words that are read. This profile's own.
use Rattle.std.specs.Prelude.{ℕ, ◌+◌, ◌^◌, ◌&&◌, ◌==◌, nat_le, nat_lt, if◌then◌else◌, ℤ, List, [], ◌∷◌, take, drop, position, find, Option, Some, None, option_map, option_and_then, decimal}
use Rattle.std.specs.Result.{result_ok}
use Rattle.std.specs.Str.{bytes_eq}
use Rattle.std.specs.Str.Parse.{digits_value}
use Rattle.act_num.specs.Decimal.{decimal_of, printed}
use Rattle.act_date.specs.Text.{date_text, day_of}
use Rattle.act_model.specs.Name.{is_name}
use Rattle.act_model.specs.Names.{place_of}
use Rattle.act_model.specs.declared.event.EventType.{EventType}
use Rattle.act_model.specs.declared.event.EventType.TheVariants.{IED, PR, PP, PY, FP, PRD, TD, IP, IPCI, RRF, RR, PRF, IPCB, SC, DV, MD, CE, XD, STD}
use Rattle.act_text.specs.Lines.{type_text}

infixl 10 ◌>>=◌
-- the next step over what the first gives, if it gives something
abbrev pub ◌>>=◌ : {A B : Type 0} → Option A → (A → Option B) → Option B
found >>= next = option_and_then next found

-- a value where it is written so
abbrev pub written : {A : Type 0} → (A → List ℕ) → List ℕ → A → Option A
written text word value = if bytes_eq (text value) word then Some value else None

-- a number, as it is printed
unfoldable pub number_word : List ℕ → Option ℤ
number_word word = result_ok (decimal_of word) >>= written printed word

-- a day, as it is printed
unfoldable pub day_word : List ℕ → Option ℤ
day_word word = result_ok (day_of word) >>= written date_text word

-- a count below 2^64, without leading zeros
unfoldable pub count_word : List ℕ → Option ℕ
count_word word =
    let value = digits_value 10 word in
    if nat_lt value (2 ^ 64) then written decimal word value else None

-- a caller, from 1 to 16
unfoldable pub caller_word : List ℕ → Option ℕ
caller_word word = do
  caller ← count_word word
  if nat_le 1 caller && nat_le caller 16 then Some caller else None

-- the types of events
abbrev pub event_types : List EventType
event_types =
    IED ∷ PR ∷ PP ∷ PY ∷ FP ∷ PRD ∷ TD ∷ IP ∷ IPCI ∷ RRF ∷ RR ∷ PRF ∷ IPCB ∷ SC ∷ DV ∷ MD ∷ CE ∷ XD ∷ STD ∷ []

-- a type of events, by its word
unfoldable pub type_word : List ℕ → Option EventType
type_word word = find (λ kind. bytes_eq (type_text kind) word) event_types

-- the number of a name among those of its sort
unfoldable pub name_word : List (List ℕ) → List ℕ → Option ℕ
name_word names word = if is_name word then place_of word names else None

-- the first word of a text that has a space behind it, and what stands behind the space
unfoldable pub word_at : List ℕ → Option (List ℕ × List ℕ)
word_at text = option_map (λ end. (take end text, drop (end + 1) text)) (position (λ byte. byte == 32) text)

-- what that word says, and what stands behind the space
unfoldable pub value_at : {A : Type 0} → (List ℕ → Option A) → List ℕ → Option (A × List ℕ)
value_at read text = do
  word ← word_at text
  value ← read word.0
  Some (value, word.1)
