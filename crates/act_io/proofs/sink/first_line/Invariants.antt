use Rattle.std.proofs.Common.{◌≡◌, ◌++◌, drop, take}
use Rattle.act_io.specs.Page.{first_line}
use Rattle.act_io.proofs.sink.first_line.Given as goal

-- the first line goes on behind the bytes so far
abbrev pub invariant-loop-place : goal.invariant-loop-place
invariant-loop-place l = first_line l.text ≡ take l.place l.text ++ first_line (drop l.place l.text)
