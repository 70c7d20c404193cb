use Rattle.std.proofs.Common.{◌≡◌, true, length, sym, ap, subst, arith}
use Rattle.std.proofs.lemmas.List.{length_push}
use Rattle.std.proofs.lemmas.List.Elements.{All-push}
use Rattle.act_model.specs.Observed.{is_entry}
use Rattle.act_book.specs.Entries.{AreEntries}
use Rattle.act_book.specs.Runs.{AreRecent, AreRuns}
use Rattle.act_book.proofs.RunLists.{recent_stay, runs_stay}
use Rattle.act_book.proofs.book.Book.append.Goals as goal

pub invariant_of-self-2 : goal.invariant_of-self-2
invariant_of-self-2 c =
    let entries = c.self.inside.entries.items in
    let runs = c.self.inside.runs.items in
    let recent = c.self.inside.recent.items in
    let items = c.in-Ok-push.ensures.items in (
      subst AreEntries (sym items) (All-push (λ entry. is_entry entry ≡ true) entries c.args.entry c.self.invariant.0 c.requires.entry),
      omega (arith, ap length items, length_push entries c.args.entry, ap length c.self.view_is, ap length c.close_runs.ensures),
      subst (λ entries. AreRuns entries runs) (sym items) (runs_stay entries runs c.args.entry c.self.invariant.2),
      subst (λ entries. AreRecent entries (length runs) recent) (sym items) (recent_stay entries (length runs) recent c.self.invariant.3 c.args.entry),
    )
