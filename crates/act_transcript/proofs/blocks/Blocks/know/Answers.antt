use Rattle.std.proofs.Common.{◌≡◌, Some, length, slice_get, sym, ap, subst, ◌∙◌}
use Rattle.act_refs.proofs.Turning.{written_back}
use Rattle.act_transcript.proofs.KnownLines.{cuts-known}
use Rattle.act_transcript.proofs.blocks.Blocks.know.Goals as goal

pub returns-clause-known : goal.returns-clause-known
returns-clause-known c = λ d.
    let was = c.args.self.now.known in
    rw (written_back was.len c.tell.new.known was.items (c.tell.ensures.count ∙ ap length c.deref_mut.ensures.value) (sym c.deref_mut.ensures.len ∙ ap length c.deref_mut.ensures.value))
    (cuts-known c.args.board.now c.args.version c.tell.new.known c.args.self.now.kept.items c.args.self.now.at c.requires.blocks.at
    (λ k cut is. c.cuts_since-cuts.ensures.kept k cut (subst (λ cuts. slice_get cuts k ≡ Some cut) c.deref.ensures.value (c.tell.ensures.cuts k cut is))) d)
