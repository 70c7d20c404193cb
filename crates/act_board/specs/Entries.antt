-- The list that a history is, where threads pass a board on, and whose its entries are. This profile's own.
use Rattle.std.specs.Prelude.{ℕ, List, ◌∷◌, map, Option, Some, None}
use Rattle.act_history.specs.History.{History}
use Rattle.act_board.specs.declared.history.Entry.{Entry}
use Rattle.act_board.specs.declared.history.Entry.TheVariants as entry
use Rattle.act_history.specs.declared.mark.Mark.{Mark}
use Rattle.act_history.specs.declared.mark.Mark.TheVariants.{Append, Ask, Claim, Finish, Collect, Leave, GiveUp}

-- it opens with the portfolio and the quotas, and goes on with the marks
abbrev pub list_of : History → List Entry
list_of history = entry.Opening history.portfolio history.quotas ∷ map entry.Mark history.marks

-- the number of the caller that a mark is of, if it is of one
abbrev pub caller_of : Mark → Option ℕ
caller_of (Append caller entry) = Some caller
caller_of (Ask caller asked) = Some caller
caller_of (Claim contract version) = None
caller_of (Finish contract version) = None
caller_of (Collect caller) = Some caller
caller_of (Leave caller) = Some caller
caller_of GiveUp = None

-- the author of an entry: the caller of its mark
abbrev pub author_of : Entry → Option ℕ
author_of (entry.Opening portfolio quotas) = None
author_of (entry.Mark mark) = caller_of mark
