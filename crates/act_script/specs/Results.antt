-- What may fail: one step after another.
use Rattle.std.specs.Prelude.{Result, Ok, Err}

-- the next step over what the first gives, or the first one's fault
abbrev pub result_and_then : {A B E : Type 0} → (A → Result B E) → Result A E → Result B E
result_and_then next (Ok value) = next value
result_and_then next (Err fault) = Err fault
