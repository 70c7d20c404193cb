-- The runs of children.
use Rattle.std.specs.Prelude.{Option, Some, None}
use Rattle.act_model.specs.Run.{Stream}
use Rattle.act_profile.specs.Legs.{no_rows}

-- a child's run, without rows where there is none
abbrev pub run_or_none : Option Stream → Stream
run_or_none None = no_rows
run_or_none (Some run) = run
