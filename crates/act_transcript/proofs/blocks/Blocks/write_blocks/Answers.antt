use Rattle.std.proofs.Common.{◌≡◌, ◌+◌, ◌<◌, ℕ, List, [], ◌∷◌, ◌++◌, length, drop, get_or, take, sym, ap, subst, ◌∙◌, arith}
use Rattle.std.specs.Arc.{arc_value}
use Rattle.std.specs.declared.alloc.Global.{Global}
use Rattle.std.specs.declared.sync.Arc.{Arc}
use Rattle.std.proofs.lemmas.List.{get_or-map, length-map, map-append, take_all, take_more}
use Rattle.act_engine.proofs.Lists.{drop-next, drop-past}
use Rattle.act_engine.proofs.Texts.{left-all, left-next, left-none, left-part, writes-part}
use Rattle.act_model.specs.Names.{NameLists}
use Rattle.act_model.specs.Run.{Stream}
use Rattle.act_print.specs.Printed.{printed_block}
use Rattle.act_print.specs.Text.{block_text}
use Rattle.act_transcript.specs.KnownLines.{AreKnown, AreRenewed}
use Rattle.act_transcript.specs.Text.{runs_text, shared_runs}
use Rattle.act_transcript.proofs.KnownLines.{first-known, known-next, ones-first, ones-then, renewed-next, renewed-nothing}
use Rattle.act_transcript.proofs.blocks.Blocks.write_blocks.Goals as goal

-- the runs up to one, with it
taken-next : (runs : List (ℕ × Arc Stream Global)) (i : ℕ) (run : ℕ × Arc Stream Global) → i < length runs → run ≡ get_or runs i run → shared_runs (take (i + 1) runs) ≡ shared_runs (take i runs) ++ (run.0, arc_value run.1) ∷ []
taken-next runs i run within is =
    ap shared_runs (take_more runs i run within ∙ ap (λ (r : ℕ × Arc Stream Global). take i runs ++ r ∷ []) (sym is))
    ∙ map-append (λ (r : ℕ × Arc Stream Global). (r.0, arc_value r.1)) (take i runs) (run ∷ [])

pub loop-run-init : goal.loop-run-init
loop-run-init g c = record { text = left-all _ _; same = ones-first c.args.self.now c.requires.written; known = c.requires.known; renewed = renewed-nothing c.args.self.now.kept.items }

pub write_block-requires-clause-known : goal.write_block-requires-clause-known
write_block-requires-clause-known g c =
    let here = drop-next c.args.runs.now c.loop-run.run-index c.run-item.result c.loop-run-test.true c.run-item.is in
    first-known c.loop-run.self.known.items c.loop-run.self.kept.items _ _ (subst (λ (rs : List (ℕ × Arc Stream Global)). AreKnown c.loop-run.self.known.items c.loop-run.self.kept.items (shared_runs rs)) here c.loop-run.invariant.known)

pub write_block-requires-clause-contract : goal.write_block-requires-clause-contract
write_block-requires-clause-contract g c =
    let runs = c.args.runs.now in
    let i = c.loop-run.run-index in
    let item = c.run-item.result in
    let within = c.loop-run-test.true in
    let named = c.requires.named i (item.0, arc_value item.1) (omega (arith, within, length-map {B = ℕ × Stream} runs (λ (run : ℕ × Arc Stream Global). (run.0, arc_value run.1)))) in
    let here : get_or (shared_runs runs) i (item.0, arc_value item.1) ≡ (item.0, arc_value item.1) = get_or-map (λ (run : ℕ × Arc Stream Global). (run.0, arc_value run.1)) runs i item (item.0, arc_value item.1) within ∙ ap (λ (run : ℕ × Arc Stream Global). (run.0, arc_value run.1)) (sym c.run-item.is) in
    omega (arith, named, ap (λ (run : ℕ × Stream). run.0) here, ap (λ (n : NameLists). length n.contracts) c.loop-run.invariant.same.names)

pub loop-run-preserved : goal.loop-run-preserved
loop-run-preserved g c =
    let names = c.args.self.now.names.now in
    let runs = c.args.runs.now in
    let i = c.loop-run.run-index in
    let item = c.run-item.result in
    let before = c.loop-run.self in
    let after = c.write_block.new.self in
    let here = drop-next runs i item c.loop-run-test.true c.run-item.is in
    let rest = shared_runs (drop (i + 1) runs) in
    let same = c.loop-run.invariant.same in
    let wrote = c.in_ok-write_block.ensures in
    record {
      text = left-next _ _ (block_text names (printed_block (item.0, arc_value item.1))) _ _ _ _ c.loop-run.invariant.text (ap (λ (rs : List (ℕ × Arc Stream Global)). runs_text names (shared_runs rs)) here) (rw same.names at wrote.text);
      same = ones-then c.args.self.now before after same wrote.same;
      known = rw wrote.known (known-next before.known.items before.kept.items after.kept.items (item.0, arc_value item.1) rest
          (subst (λ (rs : List (ℕ × Arc Stream Global)). AreKnown before.known.items before.kept.items (shared_runs rs)) here c.loop-run.invariant.known) wrote.renewed);
      renewed = subst (λ (rs : List (ℕ × Stream)). AreRenewed rs c.args.self.now.kept.items after.kept.items) (sym (taken-next runs i item c.loop-run-test.true c.run-item.is))
          (renewed-next c.args.self.now.kept.items before.kept.items after.kept.items (item.0, arc_value item.1) (shared_runs (take i runs)) c.loop-run.invariant.renewed wrote.renewed);
    }

pub returns-in_err-write_block-clause-text : goal.returns-in_err-write_block-clause-text
returns-in_err-write_block-clause-text g c =
    let names = c.args.self.now.names.now in
    let runs = c.args.runs.now in
    let item = c.run-item.result in
    let here = drop-next runs c.loop-run.run-index item c.loop-run-test.true c.run-item.is in
    writes-part c.from_residual.result _ _ _ _ c.from_residual.ensures.1
    (left-part c.in_err-write_block.field-0.0 _ _ (block_text names (printed_block (item.0, arc_value item.1))) _ _ _ _ c.loop-run.invariant.text (ap (λ (rs : List (ℕ × Arc Stream Global)). runs_text names (shared_runs rs)) here) (rw c.loop-run.invariant.same.names at c.in_err-write_block.ensures.text))

pub returns-clause-renewed : goal.returns-clause-renewed
returns-clause-renewed g c = subst (λ (rs : List (ℕ × Arc Stream Global)). AreRenewed (shared_runs rs) c.args.self.now.kept.items c.loop-run.self.kept.items) (take_all c.loop-run.run-index c.args.runs.now c.loop-run-test.false) c.loop-run.invariant.renewed

pub returns-clause-text : goal.returns-clause-text
returns-clause-text g c =
    let none = drop-past c.args.runs.now c.loop-run.run-index c.loop-run-test.false in
    left-none _ _ _ _ c.loop-run.invariant.text (ap (λ (rs : List (ℕ × Arc Stream Global)). runs_text c.args.self.now.names.now (shared_runs rs)) none)
