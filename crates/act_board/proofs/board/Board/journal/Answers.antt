use Rattle.std.proofs.Common.{subst}
use Rattle.act_history.specs.Legal.{IsSound}
use Rattle.act_board.proofs.board.Board.journal.Goals as goal

pub returns-clause-sound : goal.returns-clause-sound
returns-clause-sound c = subst IsSound c.self.view_is c.self.invariant.0.sound
