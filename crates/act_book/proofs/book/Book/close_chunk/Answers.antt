use Rattle.std.proofs.Common.{◌≡◌, ◌+◌, ◌*◌, [], ◌++◌, length, take, slice_get, Some, sym, ap, subst, ◌∙◌}
use Rattle.std.proofs.lemmas.List.{length_push}
use Rattle.std.specs.Arc.{arc_value}
use Rattle.act_book.specs.Runs.{AreRecent, AreRuns, EndsAt, chunk}
use Rattle.act_book.proofs.RunLists.{chunk_joined, chunk_within, recent_none, run_more}
use Rattle.act_book.proofs.book.Book.close_chunk.Goals as goal

pub next_run-requires-clause-chunk : goal.next_run-requires-clause-chunk
next_run-requires-clause-chunk c =
    let entries = c.self.inside.entries.items in
    let runs = c.self.inside.runs.items in
    let recent = c.self.inside.recent.items in
    let run = c.in-Some.chunk.now in
    let is : slice_get recent 0 ≡ Some run = ap (λ recent. slice_get recent 0) (sym c.deref.ensures.value) ∙ sym c.in-Some.ensures.value in
    let long : length (arc_value run) ≡ chunk = ap length (sym (c.entries.ensures ∙ c.deref-2.ensures)) ∙ c.if-entries-ne-CHUNK.false in
    subst (λ runs. take (chunk * length runs) entries ++ arc_value run ≡ take (chunk * (length runs + 1)) entries) (sym c.deref-3.ensures.value)
    (chunk_joined entries (length runs) recent c.self.invariant.3 run is long)

pub invariant_of-self-2 : goal.invariant_of-self-2
invariant_of-self-2 c =
    let entries = c.self.inside.entries.items in
    let runs = c.self.inside.runs.items in
    let recent = c.self.inside.recent.items in
    let run = c.in-Some.chunk.now in
    let is : slice_get recent 0 ≡ Some run = ap (λ recent. slice_get recent 0) (sym c.deref.ensures.value) ∙ sym c.in-Some.ensures.value in
    let long : length (arc_value run) ≡ chunk = ap length (sym (c.entries.ensures ∙ c.deref-2.ensures)) ∙ c.if-entries-ne-CHUNK.false in
    let at = subst (λ runs. EndsAt entries (length runs + 1) (arc_value c.in_ok-run.run')) c.deref-3.ensures.value c.in_ok-run.ensures in
    let more = c.in_ok-push.ensures.items in
    let counted : length runs + 1 ≡ length c.push.new.self.items = sym (ap length more ∙ length_push runs c.in_ok-run.run') in (
      c.self.invariant.0,
      c.self.invariant.1,
      subst (AreRuns entries) (sym more) (run_more entries runs c.in_ok-run.run' c.self.invariant.2 at (chunk_within entries (length runs) recent c.self.invariant.3 run is long)),
      subst (AreRecent entries (length c.push.new.self.items)) (sym c.clear.ensures.items) (subst (λ chunks. AreRecent entries chunks []) counted (recent_none entries (length runs) recent c.self.invariant.3 run is long)),
    )
