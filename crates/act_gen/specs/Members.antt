-- What clauses on the writer of objects say. This profile's own.
use Rattle.std.specs.Prelude.{ℕ, ◌==◌, if◌then◌else◌, List, [], ◌++◌, codes, decimal}
use Rattle.std.specs.Borrow.{Bor}
use Rattle.act_gen.specs.Json.{member, quoted, rate_text}
use Rattle.act_gen.specs.declared.members.Value.{Value}
use Rattle.act_gen.specs.declared.members.Value.TheVariants.{Text, Name, Number, Rate}

-- the text of a value
abbrev pub value_text : Value → List ℕ
value_text (Text text) = quoted text.now
value_text (Name letter number) = quoted (letter.now ++ decimal number)
value_text (Number number) = decimal number
value_text (Rate units) = rate_text units

-- the text of a name and its value
abbrev pub member_text : Bor (List ℕ) × Value → List ℕ
member_text m = member m.0.now (value_text m.1)

-- the comma between so many texts and a further one
abbrev pub comma_after : ℕ → List ℕ
comma_after before = if before == 0 then [] else codes ","
