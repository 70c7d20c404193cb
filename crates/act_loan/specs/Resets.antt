-- What clauses on the resets of a loan say.
use Rattle.std.specs.Prelude.{Bool, true, false, ℤ}
use Rattle.act_model.specs.declared.event.EventType.TheVariants.{RRF, RR}
use Rattle.act_profile.specs.Planning.{Planned}

-- a reset on a date: to the given rate, or to the observed one
abbrev pub reset_on : Bool → ℤ → Planned
reset_on true date = record { kind = RRF; date = date; shifts = true }
reset_on false date = record { kind = RR; date = date; shifts = true }
