-- What a run came to: its status, and the board that it hands out. This profile's own.
use Rattle.std.specs.Prelude.{Option, None, Result, Ok, Err}
use Rattle.act_engine.specs.Reading.{Halt, halt_of}
use Rattle.act_engine.specs.declared.halt.Halt.{Halt as HaltMade}
use Rattle.act_engine.specs.declared.status.Status.{Status}
use Rattle.act_history.specs.History.{History}
use Rattle.act_top.specs.declared.ran.Ran.{Ran}

-- the status, or why it stopped
abbrev pub status_told : Result Ran HaltMade → Result Status Halt
status_told (Ok ran) = Ok ran.status
status_told (Err halt) = Err (halt_of halt)

-- the board
abbrev pub board_of : Result Ran HaltMade → Option History
board_of (Ok ran) = ran.board
board_of (Err halt) = None
