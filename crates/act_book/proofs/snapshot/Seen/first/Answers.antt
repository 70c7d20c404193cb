use Rattle.std.proofs.Common.{◌≡◌, ◌+◌, ◌-◌, ◌*◌, ◌≤◌, ◌++◌, true, length, take, drop, sym, ap, subst, ◌∙◌, arith}
use Rattle.std.proofs.lemmas.List.{length-take-le}
use Rattle.std.proofs.lemmas.List.Elements.{All-take}
use Rattle.act_model.proofs.Lists.{take_parts}
use Rattle.act_model.specs.Observed.{is_entry}
use Rattle.act_book.specs.Entries.{AreEntries}
use Rattle.act_book.specs.Runs.{chunk, entries_of}
use Rattle.act_book.proofs.RunLists.{recent_until}
use Rattle.act_book.proofs.snapshot.Seen.first.Goals as goal
use Rattle.act_book.proofs.snapshot.Seen.first.Goals.{then-chunks-runs+in_ok-end, else-chunks-runs}

pub returns : goal.returns
returns c =
    let entries = c.args.entries.now.items in
    let runs = c.args.runs.now in
    let recent = c.args.recent.now in
    let chunks = c.min-chunks.result in
    let shared = c.if-chunks-runs.shared.items in
    let end = c.if-chunks-runs.end in
    let joined : (entries_of shared ≡ take end entries) × (end ≤ c.args.v) =
    elim c.if-chunks-runs.branch [
      | then-chunks-runs+in_ok-end w ↦
          let count = w.in_ok-end.field-0 in
          let within = w.in_ok-end.ensures.within in
          let behind : chunk * length runs + count ≡ end = omega (arith, w.if-chunks-runs.true, w.end-is) in (
            ap (λ shared. entries_of shared.items) w.shared-is ∙ w.in_ok-end.ensures.shared
                ∙ ap (λ front. front ++ take count (entries_of recent)) (c.in_ok-shared.ensures ∙ ap (λ chunks. take (chunk * chunks) entries) w.if-chunks-runs.true)
                ∙ recent_until entries (length runs) recent c.requires.recent count w.in_ok-end.ensures.counted ∙ ap (λ n. take n entries) behind,
            omega (arith, w.end-is),
          )
      | else-chunks-runs w ↦
          let front : chunk * chunks ≡ end = omega (arith, w.end-is) in
          (ap (λ shared. entries_of shared.items) w.shared-is ∙ c.in_ok-shared.ensures ∙ ap (λ n. take n entries) front, omega (arith, w.end-is))
    ] in
    let rest : c.in_ok-rest.rest.items ≡ take (c.args.v - end) (drop end entries) =
    c.in_ok-rest.ensures.items_if_clones_equal (λ x y same. same)
    ∙ ap (λ entries. take (c.args.v - end) (drop end entries)) c.deref.ensures.value in
    ap (λ back. entries_of shared ++ back) rest
    ∙ ap (λ front. front ++ take (c.args.v - end) (drop end entries)) joined.0
    ∙ take_parts end c.args.v entries joined.1

pub invariant_of-result : goal.invariant_of-result
invariant_of-result c =
    let entries = c.args.entries.now.items in
    let seen = returns c in (
      subst AreEntries (sym seen) (All-take (λ entry. is_entry entry ≡ true) c.args.v entries c.requires.entries),
      sym (ap length seen ∙ length-take-le c.args.v entries c.requires.within),
    )
