use Rattle.std.proofs.Common.{◌≡◌, ◌≤◌, ◌∙◌, ℕ, List, Vec, Global, length, ap, subst, sym, arith}
use Rattle.act_engine.proofs.Texts.{part-behind, then-text, writes-first, writes-part}
use Rattle.act_history.specs.History.{version_of}
use Rattle.act_model.specs.Answer.{Reply}
use Rattle.act_model.specs.Names.{NameLists}
use Rattle.act_model.specs.Run.{Stream}
use Rattle.act_text.specs.Kept.{Lines}
use Rattle.act_transcript.specs.KnownLines.{AreKeptAt, AreOfAll, AreRenewed, AreWrittenAt}
use Rattle.act_transcript.specs.Text.{shared_runs}
use Rattle.act_transcript.proofs.KnownLines.{answer-known, answer-written}
use Rattle.act_transcript.proofs.Texts.{answer-parts}
use Rattle.act_transcript.proofs.blocks.Blocks.write_known.Goals as goal
use Rattle.act_transcript.proofs.blocks.Blocks.write_known.Goals.{then-are_of_all, else-are_of_all}

pub returns-in_err-write_head-clause-text : goal.returns-in_err-write_head-clause-text
returns-in_err-write_head-clause-text g c =
    rw (answer-parts c.args.self.now.names.now c.args.answer.now)
    (writes-first c.from_residual.result _ _ _ _ _ c.from_residual.ensures.1 c.in_err-write_head.ensures.text)

pub write_blocks-requires-clause-known : goal.write_blocks-requires-clause-known
write_blocks-requires-clause-known g c =
    let before = c.args.self.now in
    let told = c.in_ok-write_head.ensures in
    let runs : shared_runs c.deref.result.now ≡ c.args.answer.now.runs = ap shared_runs c.deref.ensures.value ∙ ap (λ (r : Reply). r.runs) c.answer.view_is in
    rw (told.known, told.kept, runs) (answer-known c.args.board.now c.args.answer.now before.known.items before.kept.items c.requires.reply c.requires.known)

pub returns-in_err-write_blocks-clause-text : goal.returns-in_err-write_blocks-clause-text
returns-in_err-write_blocks-clause-text g c =
    let told = c.in_ok-write_head.ensures in
    let runs : shared_runs c.deref.result.now ≡ c.args.answer.now.runs = ap shared_runs c.deref.ensures.value ∙ ap (λ (r : Reply). r.runs) c.answer.view_is in
    rw (answer-parts c.args.self.now.names.now c.args.answer.now)
    (writes-part c.from_residual-in_err-write_blocks.result _ _ _ _ c.from_residual-in_err-write_blocks.ensures.1
    (part-behind c.in_err-write_blocks.field-0.0 _ _ _ _ _ told.text (rw (runs, told.names) at c.in_err-write_blocks.ensures.text)))

pub returns-clause-text : goal.returns-clause-text
returns-clause-text g c =
    let told = c.in_ok-write_head.ensures in
    let runs : shared_runs c.deref.result.now ≡ c.args.answer.now.runs = ap shared_runs c.deref.ensures.value ∙ ap (λ (r : Reply). r.runs) c.answer.view_is in
    rw (answer-parts c.args.self.now.names.now c.args.answer.now) (then-text _ _ _ _ _ told.text (rw (runs, told.names) at c.in_ok-write_blocks.ensures.text))

pub returns-clause-blocks : goal.returns-clause-blocks
returns-clause-blocks g c =
    let board = c.args.board.now in
    let reply = c.args.answer.now in
    let new = c.write_blocks.new.self in
    let told = c.in_ok-write_head.ensures in
    let wrote = c.in_ok-write_blocks.ensures in
    let view = ap (λ (r : Reply). r.runs) c.answer.view_is in
    let version : c.answer.inside.version ≡ reply.version = ap (λ (r : Reply). r.version) c.answer.view_is in
    let count : c.len.result ≡ length new.kept.items = omega (arith, c.len.ensures, new.kept.ok.0) in
    record {
      named = omega (
        arith,
        c.requires.blocks.named,
        wrote.same.count,
        ap (λ (v : Vec Lines Global). length v.items) told.kept,
        ap (λ (n : NameLists). length n.contracts) (wrote.same.names ∙ told.names),
      );
      written = wrote.same.written;
      at = elim c.if-are_of_all.branch [
        | then-are_of_all w ↦
            let all = subst (λ (n : ℕ). AreOfAll n reply.runs) count (subst (AreOfAll c.len.result) (ap shared_runs c.deref-2.ensures.value ∙ view) (c.are_of_all.ensures w.if-are_of_all.true)) in
            let renewed = subst (λ (runs : List (ℕ × Stream)). AreRenewed runs c.write_head.new.self.kept.items new.kept.items) (ap shared_runs c.deref.ensures.value ∙ view) wrote.renewed in
            subst (AreKeptAt board new.kept.items) (sym w.self-is) (
              subst (λ (n : ℕ). n ≤ version_of board) (sym version) c.requires.reply.version,
              subst (AreWrittenAt board new.kept.items) (sym version) (answer-written board reply c.write_head.new.self.kept.items new.kept.items c.requires.reply all renewed),
            )
        | else-are_of_all w ↦ subst (AreKeptAt board new.kept.items) (sym w.self-is) tt
      ];
    }
