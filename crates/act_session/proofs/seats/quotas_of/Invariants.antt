use Rattle.std.proofs.Common.{◌≡◌, ◌≤◌, length, take, vec_capacity}
use Rattle.act_session.specs.Playing as playing
use Rattle.act_session.proofs.seats.quotas_of.Given as goal

abbrev pub invariant-loop-lines : goal.invariant-loop-lines
invariant-loop-lines l = record {
  quotas : l.quotas.items ≡ playing.quotas_of (playing.lines_of (take l.lines-index l.scripts));
  room : length l.scripts ≤ vec_capacity l.quotas;
}
