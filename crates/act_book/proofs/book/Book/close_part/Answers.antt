use Rattle.std.proofs.Common.{◌≡◌, ◌+◌, ◌-◌, ◌*◌, ◌++◌, length, take, drop, ap, ◌∙◌, arith}
use Rattle.act_book.specs.Runs.{chunk, entries_of}
use Rattle.act_book.proofs.RunLists.{recent_more}
use Rattle.act_book.proofs.book.Book.close_part.Goals as goal

pub invariant_of-self : goal.invariant_of-self
invariant_of-self c =
    let entries = c.self.inside.entries.items in
    let runs = c.self.inside.runs.items in
    let recent = c.self.inside.recent.items in
    let start = chunk * length runs + length (entries_of recent) in
    let counted : 256 * c.len.result + c.count_of.result ≡ start = omega (arith, c.len.ensures, c.count_of.ensures, ap (λ runs. length (entries_of runs)) c.deref.ensures.value) in
    let part : c.in_ok-part.part ≡ take (start + 32 - start) (drop start entries) =
    c.in_ok-part.ensures ∙ ap (λ entries. take (256 * c.len.result + c.count_of.result + 32 - (256 * c.len.result + c.count_of.result)) (drop (256 * c.len.result + c.count_of.result) entries)) c.deref-2.ensures.value
    ∙ ap (λ start. take (start + 32 - start) (drop start entries)) counted in (
      c.self.invariant.0,
      c.self.invariant.1,
      c.self.invariant.2,
      recent_more entries (length runs) recent c.self.invariant.3 c.in_ok-self-inside.field-0.items c.in_ok-part.part (start + 32)
          (c.in_ok-self-inside.ensures ∙ ap (λ recent. entries_of recent ++ c.in_ok-part.part) c.deref-3.ensures.value) part (omega arith)
          (omega (arith, c.len-2.ensures, c.if-len-start-lt-PART.false)),
    )
