-- What follows from a value where it isn't a fault.
use Rattle.std.specs.Prelude.{Result, Ok, Err}

-- what is made of the value
abbrev pub map_ok : {A B E : Type 0} → (A → B) → Result A E → Result B E
map_ok f (Ok x) = Ok (f x)
map_ok f (Err e) = Err e

-- what follows from the value, which may be a fault again
abbrev pub then_ok : {A B E : Type 0} → (A → Result B E) → Result A E → Result B E
then_ok f (Ok x) = f x
then_ok f (Err e) = Err e
