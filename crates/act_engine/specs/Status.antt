-- The numbers of statuses. This profile's own.
use Rattle.std.specs.Prelude.{ℕ}
use Rattle.act_engine.specs.declared.status.Status.{Status}
use Rattle.act_engine.specs.declared.status.Status.TheVariants.{Done, Wrong, Words, ReadFault, TooLong, PortfolioRefused, ScriptRefused, WriteFault, Unfinished, NoMemory}

-- the number of a status, the program's exit status
abbrev pub status_number : Status → ℕ
status_number Done = 0
status_number Wrong = 1
status_number Words = 2
status_number ReadFault = 3
status_number TooLong = 4
status_number PortfolioRefused = 5
status_number ScriptRefused = 6
status_number WriteFault = 7
status_number Unfinished = 8
status_number NoMemory = 9
