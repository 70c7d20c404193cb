-- Whether answers end well. This profile's own.
use Rattle.std.specs.Prelude.{◌&&◌, ℕ, if◌then◌else◌, is_none, Bool, true, false, List}
use Rattle.std.specs.List.{list_all}
use Rattle.act_model.specs.Answer.{Reply}
use Rattle.act_model.specs.Run.{Stream}
use Rattle.act_model.specs.declared.run.Close.{Close}
use Rattle.act_model.specs.declared.run.Close.TheVariants.{End, Missing, Overflow}
use Rattle.act_engine.specs.declared.status.Status.{Status}
use Rattle.act_engine.specs.declared.status.Status.TheVariants.{Done, Unfinished}
use Rattle.act_transcript.specs.declared.ends.Stops.{Stops}

-- a run that wasn't stopped
abbrev pub is_end : Close → Bool
is_end End = true
is_end (Missing code day) = false
is_end (Overflow day kind) = false

-- each of these runs ends well
abbrev pub all_end : List (ℕ × Stream) → Bool
all_end runs = list_all (λ (run : ℕ × Stream). is_end run.1.close) runs

-- the same of an answer's runs
abbrev pub ends_well : Reply → Bool
ends_well answer = all_end answer.runs

-- the status of answers
abbrev pub answers_status : List Reply → Status
answers_status answers = if list_all ends_well answers then Done else Unfinished

-- no block stops: there is no first one of either sort
abbrev pub are_none : Stops → Bool
are_none stops = is_none stops.missing.first && is_none stops.overflow.first

-- the status of what has these stops
abbrev pub stops_status : Stops → Status
stops_status stops = if are_none stops then Done else Unfinished
