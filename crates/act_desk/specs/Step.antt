-- What a call of a desk is: one step of one history. This profile's own.
use Rattle.std.specs.Prelude.{◌≡◌, ℕ, ◌+◌, List, [], ◌∷◌, ◌++◌, Option, Some, None}
use mathlib.Core.List.{IsPrefix}
use Rattle.act_turn.specs.Journal.{entries_of}
use Rattle.act_turn.specs.Standing.{Standing, own_entries}
use Rattle.act_portfolio.specs.Reading.{Accepted}
use Rattle.act_board.specs.Entries.{author_of, list_of}
use Rattle.act_history.specs.History.{History, and_then}
use Rattle.act_board.specs.declared.history.Entry.{Entry}
use Rattle.act_board.specs.declared.history.Entry.TheVariants as entry
use Rattle.act_history.specs.declared.mark.Mark.{Mark}

-- the history on which nothing has happened
abbrev pub opening : Accepted → List ℕ → History
opening portfolio quotas = record { portfolio = portfolio; quotas = quotas; marks = [] }

-- what a pass has seen is a history of which P holds
pub record HasSeen (pass : Standing Entry) (P : History → Type 0) : Type 0 where
  pub history : History
  pub seen : pass.seen ≡ list_of history
  pub holds : P history

-- the history, with a mark more, if there is one
abbrev pub and_maybe : History → Option Mark → History
and_maybe history None = history
and_maybe history (Some mark) = and_then history mark

-- the entries that it has then more
abbrev pub added : Option Mark → List Entry
added None = []
added (Some mark) = entry.Mark mark ∷ []

-- A call is one step of one history. As the pass's turn comes, it finds a history that begins with what it had seen. The call acts
-- on that history, and adds a mark to it, or none; `Call` says of the two histories what is answered. The pass has had one turn in
-- this, and has seen what it found with that mark. Its own entries are its old ones, and the mark where it is of the pass's number.
pub record IsStep (old : Standing Entry) (Call : History → History → Type 0) (new : Standing Entry) : Type 0 where
  pub found : History
  pub mark : Option Mark
  pub begins : IsPrefix old.seen (list_of found)
  pub call : Call found (and_maybe found mark)
  pub pass : new ≡ record old { seen = list_of found ++ added mark; came = list_of found; turns = old.turns + 1 }
  pub own : own_entries author_of new ≡ own_entries author_of old ++ entries_of author_of old.number (added mark)
