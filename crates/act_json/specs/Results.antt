-- Results with a fault of JSON input.
use Rattle.std.specs.Prelude.{Result, Ok, Err}
use Rattle.act_json.specs.declared.fault.JsonFault.{JsonFault}

-- a result with another value in place of its own, as where a value is seen through a view
abbrev pub result_map : {A B : Type 0} → (A → B) → Result A JsonFault → Result B JsonFault
result_map f (Ok value) = Ok (f value)
result_map f (Err fault) = Err fault
