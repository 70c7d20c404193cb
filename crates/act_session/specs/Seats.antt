-- What actors have. This profile's own.
use Rattle.std.specs.Prelude.{◌≡◌, ℕ, List, Option, Some, Vec, map, slice_get}
use Rattle.std.specs.declared.alloc.Global.{Global}
use Rattle.act_model.specs.Answer.{Reply}
use Rattle.act_turn.specs.Standing.{Standing}
use Rattle.act_board.specs.declared.history.Entry.{Entry}
use Rattle.act_desk.specs.Desk.{Desk}
use Rattle.act_model.specs.declared.journal.Line.{Line}
use Rattle.act_session.specs.Playing.{HasPlayed}
use Rattle.act_session.specs.declared.actor.Actor.{Actor}

-- their passes, in their order
abbrev pub passes_of : {A : Type 0} → List (Actor A) → List (Standing Entry)
passes_of {A} actors = map (λ (actor : Actor A). actor.pass) actors

-- and what each keeps of its answers, if it has some
abbrev pub answers_at : {A : Type 0} → List (Actor A) → List (Option (Vec A Global))
answers_at {A} actors = map (λ (actor : Actor A). actor.answers) actors

-- each has played at its place
abbrev pub HavePlayed : {A : Type 0} → (Reply → A) → Desk → List (List Line) → List (Actor A) → Type 0
HavePlayed {A} kept_of desk scripts actors = (place : ℕ) (actor : Actor A) → slice_get actors place ≡ Some actor → HasPlayed kept_of desk scripts place actor.pass actor.answers
