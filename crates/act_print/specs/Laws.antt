-- Laws of texts. This profile's own.
use Rattle.std.specs.Prelude.{◌≡◌, ℕ, List, ◌++◌}
use Rattle.act_model.specs.Names.{NameLists}
use Rattle.act_model.specs.declared.journal.Item.{Item}
use Rattle.act_print.specs.Conditions.{IsJournal}
use Rattle.act_print.specs.Printed.{Response}
use Rattle.act_print.specs.Text.{text_of}

-- journals that can be printed have different texts where they differ, with whatever answers, and whatever stands behind these
abbrev pub OneJournal : Type 0
OneJournal =
    (names : NameLists) (one other : List Item) (replies others : List Response) (behind more : List ℕ) → IsJournal names one → IsJournal names other
    → text_of names one replies ++ behind ≡ text_of names other others ++ more → one ≡ other
