-- Scripts that are played.
use Rattle.std.specs.Prelude.{◌≡◌, ◌≤◌, true, List, length}
use Rattle.std.specs.List.{All}
use Rattle.act_accepted.specs.Accepted.{Accepted}
use Rattle.act_desk.specs.Making.{asks_known}
use Rattle.act_model.specs.Journal.{appends_entry}
use Rattle.act_model.specs.declared.journal.Line.{Line}

-- at most half a million lines, each of which appends an entry or asks for what is there
pub record IsShort (of : Accepted) (lines : List Line) : Type 0 where
  pub few : length lines ≤ 500_000
  pub entries : All (λ (line : Line). appends_entry line.step ≡ true) lines
  pub known : All (λ (line : Line). asks_known of.names line.step ≡ true) lines
