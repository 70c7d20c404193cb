use Rattle.std.proofs.Common.{◌≡◌, ◌==◌, ◌<◌, ◌++◌, ℕ, true, List, [], ◌∷◌, length, drop, take, refl, sym, ap, subst, ◌∙◌, arith}
use Rattle.std.specs.Arc.{arc_value}
use Rattle.std.specs.List.{All}
use Rattle.std.specs.declared.alloc.Global.{Global}
use Rattle.std.specs.declared.sync.Arc.{Arc}
use Rattle.std.proofs.lemmas.Bool.{eqb-false, eqb-true}
use Rattle.std.proofs.lemmas.List.{length-map, length-take}
use Rattle.std.proofs.lemmas.List.Concat.{flat_map-append}
use Rattle.std.proofs.lemmas.List.Elements.{All-take}
use Rattle.act_engine.proofs.Lists.{all-back, all-front}
use Rattle.act_engine.proofs.Texts.{left-all, left-next, left-none, left-part, none-of, part-behind, writes-first, writes-part}
use Rattle.act_engine.specs.declared.writing.Failure.TheVariants.{Memory}
use Rattle.act_model.specs.Answer.{Reply}
use Rattle.act_model.specs.Names.{NameLists}
use Rattle.act_model.specs.Run.{Stream}
use Rattle.act_print.specs.Printed.{printed_block}
use Rattle.act_print.specs.Text.{answer_head_text, block_text}
use Rattle.act_refs.proofs.Turning.{written_back}
use Rattle.act_text.specs.Kept.{AreWrittenWith, Lines}
use Rattle.act_transcript.specs.Beside.{AllWereRenewed}
use Rattle.act_transcript.specs.Text.{runs_text, shared_runs}
use Rattle.act_transcript.proofs.RenewedLines.{can-anew, shared-split, written-all}
use Rattle.act_transcript.proofs.Texts.{answer-parts}
use Rattle.act_transcript.proofs.blocks.Blocks.write_in_windows.Goals as goal
use Rattle.act_transcript.proofs.blocks.Blocks.write_in_windows.Goals.{After-split_at, After-renew_beside}

pub returns-in_err-write_head-clause-text : goal.returns-in_err-write_head-clause-text
returns-in_err-write_head-clause-text g c =
    rw (answer-parts c.args.self.now.names.now c.args.answer.now) (writes-first c.from_residual.result _ _ _ _ _ c.from_residual.ensures.1 c.in_err-write_head.ensures.text)

pub returns-in_err-window-clause-text : goal.returns-in_err-window-clause-text
returns-in_err-window-clause-text g c =
    rw (answer-parts c.args.self.now.names.now c.args.answer.now)
    (writes-part c.from_residual-in_err-window.result Memory _ _ _ c.from_residual-in_err-window.ensures.1 (part-behind Memory _ _ _ _ _ c.in_ok-write_head.ensures.text (none-of _ _)))

pub windows-init : goal.windows-init
windows-init g c =
    let names = c.args.self.now.names.now in
    let reply = c.args.answer.now in
    let told = c.in_ok-write_head.ensures in
    let runs : shared_runs c.deref-rest.result.now ≡ reply.runs = ap shared_runs c.deref-rest.ensures.value ∙ ap (λ (r : Reply). r.runs) c.answer.view_is in
    record {
      text = left-next _ _ (answer_head_text reply.caller reply.number reply.version) _ _ _ _ (left-all _ _)
          (answer-parts names reply ∙ ap (λ (rs : List (ℕ × Stream)). answer_head_text reply.caller reply.number reply.version ++ runs_text names rs) (sym runs)) told.text;
      named = subst (All (λ (run : ℕ × Stream). run.0 < length names.contracts)) (sym runs) c.requires.named;
      names = told.names;
      kept = told.kept;
      at = told.at;
      places = omega (arith, c.in_ok-window.ensures.count, c.saturating_mul-places.ensures, c.requires.threads);
      written = subst (λ (n : NameLists). AreWrittenWith n c.in_ok-window.window.items) told.names c.in_ok-window.ensures.written;
    }

-- the runs that are left are those of this window, and those behind it
split : (g : _) (c : After-split_at g) → shared_runs c.windows.rest.now ≡ shared_runs c.split_at.result.0.now ++ shared_runs c.split_at.result.1.now
split g c = rw (c.split_at.ensures.front, c.split_at.ensures.back) (shared-split c.len.result c.windows.rest.now)

none-left : (runs : List (ℕ × Arc Stream Global)) → (length runs == 0) ≡ true → runs ≡ []
none-left [] none = refl
none-left (run ∷ runs) none = absurd (omega (arith, eqb-true (length (run ∷ runs)) 0 none))

-- the text of some runs, and then of others
next : (names : NameLists) (left some behind : List (ℕ × Stream)) → left ≡ some ++ behind → runs_text names left ≡ runs_text names some ++ runs_text names behind
next names left some behind is = ap (runs_text names) is ∙ flat_map-append (λ (run : ℕ × Stream). block_text names (printed_block run)) some behind

-- the contracts of this window's runs have names
named-here : (g : _) (c : After-split_at g) → All (λ (run : ℕ × Stream). run.0 < length c.args.self.now.names.now.contracts) (shared_runs c.split_at.result.0.now)
named-here g c =
    all-front (λ (run : ℕ × Stream). run.0 < length c.args.self.now.names.now.contracts) (shared_runs c.split_at.result.0.now) (shared_runs c.split_at.result.1.now)
    (subst (All (λ (run : ℕ × Stream). run.0 < length c.args.self.now.names.now.contracts)) (split g c) c.windows.invariant.named)

-- the lines of this window's blocks
window : (g : _) (c : After-renew_beside g) → take c.truncate.new.self.len (c.renew_beside.new.kept ++ drop (length c.renew_beside.new.kept) c.truncate.new.self.items) ≡ c.renew_beside.new.kept
window g c =
    let was = c.truncate.new.self in
    written_back was.len c.renew_beside.new.kept was.items (c.renew_beside.auto.kept ∙ ap length c.deref_mut.ensures.value) (sym c.deref_mut.ensures.len ∙ ap length c.deref_mut.ensures.value)

pub renew_beside-requires-clause-can : goal.renew_beside-requires-clause-can
renew_beside-requires-clause-can g c κs within =
    let some = c.split_at.result.0.now in
    let left = c.windows.rest.now in
    let lines = c.truncate.new.self.items in
    let names = c.windows.invariant.names in
    let count : length lines ≡ length (shared_runs some) = omega (arith, c.split_at.ensures.front_len, c.len.ensures, c.deref_mut.ensures.len, ap length c.deref_mut.ensures.value, length-map {B = ℕ × Stream} some (λ (run : ℕ × Arc Stream Global). (run.0, arc_value run.1))) in
    let written = subst (AreWrittenWith c.args.self.now.names.now) (sym c.truncate.ensures.items) (All-take (λ (l : Lines). l.names ≡ c.args.self.now.names.now) (length left) c.windows.window.items c.windows.invariant.written) in
    rw (c.deref_mut.ensures.value, names) (can-anew c.args.self.now.names.now (shared_runs some) lines count written (named-here g (goal.at.renew_beside-requires-clause-can g c).After-split_at))

pub write_window-requires-clause-named : goal.write_window-requires-clause-named
write_window-requires-clause-named g c =
    subst (λ (n : NameLists). All (λ (run : ℕ × Stream). run.0 < length n.contracts) (shared_runs c.split_at.result.0.now)) (sym c.windows.invariant.names)
    (named-here g (goal.at.write_window-requires-clause-named g c).After-split_at)

pub write_window-requires-clause-renewed : goal.write_window-requires-clause-renewed
write_window-requires-clause-renewed g c =
    subst (AllWereRenewed c.windows.self.names.now (shared_runs c.split_at.result.0.now)) (sym (c.deref.ensures.value ∙ window g (goal.at.write_window-requires-clause-renewed g c).After-renew_beside))
    c.renew_beside.ensures.renewed

pub returns-in_err-write_window-clause-text : goal.returns-in_err-write_window-clause-text
returns-in_err-write_window-clause-text g c =
    let names = c.args.self.now.names.now in
    let here = next names _ _ _ (split g (goal.at.returns-in_err-write_window-clause-text g c).After-split_at) in
    writes-part c.from_residual-in_err-write_window.result _ _ _ _ c.from_residual-in_err-write_window.ensures.1
    (left-part c.in_err-write_window.field-0.0 _ _ (runs_text names (shared_runs c.split_at.result.0.now)) _ _ _ _ c.windows.invariant.text here (rw c.windows.invariant.names at c.in_err-write_window.ensures))

pub windows-preserved : goal.windows-preserved
windows-preserved g c =
    let names = c.args.self.now.names.now in
    let first = c.windows.invariant in
    let splits = split g (goal.at.windows-preserved g c).After-split_at in
    let some = eqb-false (length c.windows.rest.now) 0 (sym c.is_empty.ensures ∙ c.windows-test.true) in
    let lines = window g (goal.at.windows-preserved g c).After-renew_beside in
    record {
      text = left-next _ _ (runs_text names (shared_runs c.split_at.result.0.now)) _ _ _ _ first.text (next names _ _ _ splits) (rw first.names at c.in_ok-write_window.ensures);
      named = all-back (λ (run : ℕ × Stream). run.0 < length names.contracts) (shared_runs c.split_at.result.0.now) (shared_runs c.split_at.result.1.now)
          (subst (All (λ (run : ℕ × Stream). run.0 < length names.contracts)) splits first.named);
      names = first.names;
      kept = first.kept;
      at = first.at;
      places = omega (arith, ap length lines, c.renew_beside.auto.kept, ap length c.deref_mut.ensures.value, ap length c.truncate.ensures.items, length-take (length c.windows.rest.now) c.windows.window.items, first.places, some);
      written = subst (AreWrittenWith names) (sym lines) (subst (λ (n : NameLists). AreWrittenWith n c.renew_beside.new.kept) first.names (written-all _ _ c.renew_beside.new.kept c.renew_beside.ensures.renewed));
    }

pub returns-clause-text : goal.returns-clause-text
returns-clause-text g c = left-none _ _ _ _ c.windows.invariant.text
    (ap (λ (rs : List (ℕ × Arc Stream Global)). runs_text c.args.self.now.names.now (shared_runs rs)) (none-left c.windows.rest.now (sym c.is_empty.ensures ∙ c.windows-test.false)))
