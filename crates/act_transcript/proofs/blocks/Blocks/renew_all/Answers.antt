use Rattle.std.proofs.Common.{◌≡◌, ℕ, true, List, length, sym, ap, subst, ◌∙◌, arith}
use Rattle.act_model.specs.Answer.{Reply}
use Rattle.act_model.specs.Run.{Stream}
use Rattle.act_refs.proofs.Turning.{written_back}
use Rattle.act_text.specs.Kept.{AreWrittenWith}
use Rattle.act_transcript.specs.Beside.{AllWereRenewed, AreWhole}
use Rattle.act_transcript.specs.KnownLines.{AreKeptAt, AreOfAll}
use Rattle.act_transcript.specs.Text.{shared_runs}
use Rattle.act_transcript.proofs.RenewedLines.{can-all, known-whole, written-all}
use Rattle.act_transcript.proofs.blocks.Blocks.renew_all.Goals as goal
use Rattle.act_transcript.proofs.blocks.Blocks.renew_all.Goals.{After-are_of_all}

-- the runs are of all contracts
of-all : (g : _) (c : After-are_of_all g) → c.are_of_all.result ≡ true → AreOfAll (length c.args.self.now.kept.items) c.args.answer.now.runs
of-all g c so =
    let count : c.len.result ≡ length c.args.self.now.kept.items = omega (arith, c.len.ensures, c.args.self.now.kept.ok.0) in
    subst (λ (n : ℕ). AreOfAll n c.args.answer.now.runs) count (subst (AreOfAll c.len.result) (ap shared_runs c.deref.ensures.value ∙ ap (λ (r : Reply). r.runs) c.answer.view_is) (c.are_of_all.ensures so))

pub renew_beside-requires-clause-can : goal.renew_beside-requires-clause-can
renew_beside-requires-clause-can g c κs within =
    let before = c.args.self.now in
    let view = ap (λ (r : Reply). r.runs) c.answer.view_is in
    rw (c.deref-2.ensures.value, c.deref_mut.ensures.value, ap shared_runs c.deref-3.ensures.value ∙ view)
    (can-all c.args.board.now c.args.answer.now before.names.now before.known.items before.kept.items c.requires.reply c.requires.blocks.named c.requires.blocks.written c.requires.known (of-all g (goal.at.renew_beside-requires-clause-can g c).After-are_of_all c.if-not-are_of_all.false))

pub returns-clause-blocks : goal.returns-clause-blocks
returns-clause-blocks g c =
    let before = c.args.self.now in
    let new = c.renew_beside.new.kept in
    let kept = written_back before.kept.len new before.kept.items (c.renew_beside.auto.kept ∙ ap length c.deref_mut.ensures.value) (sym c.deref_mut.ensures.len ∙ ap length c.deref_mut.ensures.value) in
    record {
      named = omega (arith, ap length kept, c.requires.blocks.named, c.renew_beside.auto.kept, ap length c.deref_mut.ensures.value);
      written = subst (AreWrittenWith before.names.now) (sym kept) (written-all before.names.now _ new c.renew_beside.ensures.renewed);
      at = subst (AreKeptAt c.args.board.now _) (sym c.requires.at) tt;
    }

pub returns-clause-known : goal.returns-clause-known
returns-clause-known g c = λ d.
    let before = c.args.self.now in
    let reply = c.args.answer.now in
    let lines = c.renew_beside.new.kept in
    let count : length lines ≡ length before.kept.items = c.renew_beside.auto.kept ∙ ap length c.deref_mut.ensures.value in
    let kept = written_back before.kept.len lines before.kept.items count (sym c.deref_mut.ensures.len ∙ ap length c.deref_mut.ensures.value) in
    let known = written_back before.known.len c.learn.new.known before.known.items (c.learn.ensures.count ∙ ap length c.deref_mut-2.ensures.value) (sym c.deref_mut-2.ensures.len ∙ ap length c.deref_mut-2.ensures.value) in
    let all = subst (λ (n : ℕ). AreOfAll n reply.runs) (sym count) (of-all g (goal.at.returns-clause-known g c).After-are_of_all c.if-not-are_of_all.false) in
    let renewed = subst (λ (runs : List (ℕ × Stream)). AllWereRenewed before.names.now runs lines) (ap shared_runs c.deref-3.ensures.value ∙ ap (λ (r : Reply). r.runs) c.answer.view_is) c.renew_beside.ensures.renewed in
    rw (known, kept)
    (known-whole c.args.board.now reply before.names.now c.learn.new.known lines c.requires.reply all renewed (subst (AreWhole c.learn.new.known) (c.deref-4.ensures.value ∙ kept) c.learn.ensures.whole) d)
