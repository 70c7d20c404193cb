use Rattle.std.proofs.Common.{◌-◌, vec_len}
use Rattle.act_turn.proofs.turn.bells.Given as goal

abbrev pub decreases-bells : goal.decreases-bells
decreases-bells l = 128 - vec_len l.bells
