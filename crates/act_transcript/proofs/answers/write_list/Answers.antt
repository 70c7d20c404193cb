use Rattle.std.proofs.Common.{◌<◌, ◌≤◌, ℕ, length, refl, sym, ap, subst, ◌∙◌}
use Rattle.std.specs.List.{All}
use Rattle.act_engine.proofs.Lists.{drop-next, drop-past}
use Rattle.act_engine.proofs.Texts.{left-all, left-next, left-none, left-part, writes-part}
use Rattle.act_history.specs.History.{History, version_of}
use Rattle.act_model.specs.Answer.{Reply}
use Rattle.act_model.specs.Names.{NameLists}
use Rattle.act_model.specs.Run.{Stream}
use Rattle.act_transcript.specs.KnownLines.{AreBlocksOf, AreKnownAt, IsReplyOn}
use Rattle.act_transcript.specs.Text.{answers_text}
use Rattle.act_transcript.proofs.answers.write_list.Goals as goal

pub loop-answer-init : goal.loop-answer-init
loop-answer-init g c = record { text = left-all _ _; blocks = c.requires.blocks; names = refl; board = refl }

pub know-requires-clause-blocks : goal.know-requires-clause-blocks
know-requires-clause-blocks g c = subst (λ (board : History). AreBlocksOf board c.loop-answer.blocks) (sym c.loop-answer.invariant.board) c.loop-answer.invariant.blocks

pub know-requires-clause-version : goal.know-requires-clause-version
know-requires-clause-version g c =
    let item = c.answer-item.result in
    let of = subst (IsReplyOn c.args.board.now) (sym c.answer-item.is) (c.requires.replies c.loop-answer.answer-index item c.loop-answer-test.true) in
    subst (λ (h : History). c.answer.inside.version ≤ version_of h) (sym c.loop-answer.invariant.board)
    (subst (λ (n : ℕ). n ≤ version_of c.args.board.now) (sym (ap (λ (r : Reply). r.version) c.answer.view_is)) of.version)

pub write_answer-requires-clause-named : goal.write_answer-requires-clause-named
write_answer-requires-clause-named g c =
    let item = c.answer-item.result in
    let named = subst (λ (r : Reply). All (λ (run : ℕ × Stream). run.0 < length c.args.blocks.now.names.now.contracts) r.runs) (sym c.answer-item.is) (c.requires.named c.loop-answer.answer-index item c.loop-answer-test.true) in
    subst (λ (n : NameLists). All (λ (run : ℕ × Stream). run.0 < length n.contracts) item.runs) (sym (c.know.ensures.same.names ∙ c.loop-answer.invariant.names)) named

pub write_answer-requires-clause-reply : goal.write_answer-requires-clause-reply
write_answer-requires-clause-reply g c =
    let item = c.answer-item.result in
    let of = subst (IsReplyOn c.args.board.now) (sym c.answer-item.is) (c.requires.replies c.loop-answer.answer-index item c.loop-answer-test.true) in
    subst (λ (h : History). IsReplyOn h item) (sym (c.know.ensures.board ∙ c.loop-answer.invariant.board)) of

pub write_answer-requires-clause-known : goal.write_answer-requires-clause-known
write_answer-requires-clause-known g c =
    let item = c.answer-item.result in
    let new = c.know.new.self in
    subst (λ (h : History). AreKnownAt h item.version new) (sym c.know.ensures.board)
    (subst (λ (v : ℕ). AreKnownAt c.loop-answer.board v new) (ap (λ (r : Reply). r.version) c.answer.view_is) c.know.ensures.known)

pub loop-answer-preserved : goal.loop-answer-preserved
loop-answer-preserved g c =
    let first = c.loop-answer.invariant in
    let here = drop-next c.args.answers.now c.loop-answer.answer-index c.answer-item.result c.loop-answer-test.true c.answer-item.is in
    let names = c.know.ensures.same.names ∙ first.names in
    let board = c.know.ensures.board ∙ first.board in
    let wrote = c.in_ok-write_answer.ensures in
    record {
      text = left-next _ _ _ _ _ _ _ first.text (ap (answers_text c.args.blocks.now.names.now) here) (rw names at wrote.text);
      blocks = subst (λ (h : History). AreBlocksOf h c.write_answer.new.blocks) board wrote.blocks;
      names = wrote.names ∙ names;
      board = board;
    }

pub returns-in_err-write_answer-clause-text : goal.returns-in_err-write_answer-clause-text
returns-in_err-write_answer-clause-text g c =
    let here = drop-next c.args.answers.now c.loop-answer.answer-index c.answer-item.result c.loop-answer-test.true c.answer-item.is in
    writes-part c.from_residual.result _ _ _ _ c.from_residual.ensures.1
    (left-part c.in_err-write_answer.field-0.0 _ _ _ _ _ _ _ c.loop-answer.invariant.text (ap (answers_text c.args.blocks.now.names.now) here)
    (rw (c.know.ensures.same.names ∙ c.loop-answer.invariant.names) at c.in_err-write_answer.ensures.text))

pub returns-clause-text : goal.returns-clause-text
returns-clause-text g c =
    let none = drop-past c.args.answers.now c.loop-answer.answer-index c.loop-answer-test.false in
    left-none _ _ _ _ c.loop-answer.invariant.text (ap (answers_text c.args.blocks.now.names.now) none)
