use Rattle.std.proofs.Common.{◌≡◌, ◌<◌, ℕ, List, true, length, refl, ap, arith, sym, subst, ◌∙◌}
use Rattle.std.specs.List.{All}
use Rattle.act_engine.specs.Writing.{StopsIn, Writes}
use Rattle.act_engine.proofs.Texts.{writes-behind, writes-first}
use Rattle.act_history.specs.History.{journal_of, replies_of}
use Rattle.act_io.specs.Page.{written_on}
use Rattle.act_job.specs.Job.{IsRunnable, Job}
use Rattle.act_model.specs.Answer.{Reply}
use Rattle.act_model.specs.Journal.{is_known}
use Rattle.act_model.specs.Names.{NameLists}
use Rattle.act_model.specs.Run.{Stream}
use Rattle.act_model.specs.declared.journal.Item.{Item}
use Rattle.act_model.specs.declared.journal.Step.{Step}
use Rattle.act_portfolio.specs.Reading.{Accepted}
use Rattle.act_profile.specs.Answers.{answers_of}
use Rattle.act_transcript.specs.KnownLines.{IsReplyOn}
use Rattle.act_transcript.specs.Text.{answers_text, heads_text}
use Rattle.act_transcript.proofs.Texts.{transcript-parts}
use Rattle.act_session.proofs.Interleaved.{interleaved-all}
use Rattle.act_top.proofs.Plays.{heads-same}
use Rattle.act_transcript.proofs.JournalAnswers.{answers-few, answers-named, replies-on}
use Rattle.act_top.proofs.desk.write_run.Goals as goal

pub answer_count-count-requires : goal.answer_count-count-requires
answer_count-count-requires g c =
    let j = c.args.job.now in
    omega (arith, ap length c.requires.answers, answers-few j.portfolio.contracts j.scripts.names (journal_of c.args.board.now), ap length c.journal-journal.ensures.journal, c.journal-journal.type_inv.0)

pub write_heads-requires : goal.write_heads-requires
write_heads-requires g c =
    let j = c.args.job.now in
    let ready = subst (λ (job : Job). IsRunnable job.portfolio job.scripts job.workers) c.job.view_is c.job.invariant in
    let names = ap (λ i. i.scripts.names) c.job-inside.view_is ∙ ap (λ (job : Job). job.scripts.names) c.job.view_is in
    let known = interleaved-all (λ (step : Step). is_known j.scripts.names step ≡ true) j.scripts.lists (journal_of c.args.board.now) c.requires.interleaved ready.lines.known in
    record {
      known = subst (λ (items : List Item). All (λ (item : Item). is_known c.job-inside.inside.0.1.0.names item.step ≡ true) items) (sym c.journal-journal.ensures.journal)
          (subst (λ (n : NameLists). All (λ (item : Item). is_known n item.step ≡ true) (journal_of c.args.board.now)) (sym names) known);
    }

pub returns-in_err-write_heads-clause-text : goal.returns-in_err-write_heads-clause-text
returns-in_err-write_heads-clause-text g c =
    let j = c.args.job.now in
    let items = journal_of c.args.board.now in
    let replies = answers_of j.portfolio.contracts j.scripts.names items in
    let names = ap (λ i. i.scripts.names) c.job-inside.view_is ∙ ap (λ (job : Job). job.scripts.names) c.job.view_is in
    let heads = heads-same c.job-inside.inside.0.1.0.names j.scripts.names c.journal-journal.result.now items c.answer_count-count.result (length replies) names c.journal-journal.ensures.journal (c.answer_count-count.ensures ∙ ap length c.requires.answers) in
    let stop = c.in_err-write_heads.field-0.0 in
    let part = subst (λ (t : List ℕ). StopsIn stop t (g.K.Sink.page c.args.out.now) (g.K.Sink.page c.write_heads.new.out)) heads c.in_err-write_heads.ensures in
    subst (λ (t : List ℕ). Writes t (g.K.Sink.page c.args.out.now) c.from_residual-in_err-write_heads.result (g.K.Sink.page c.write_heads.new.out)) (sym (transcript-parts j.scripts.names items replies))
    (writes-first c.from_residual-in_err-write_heads.result stop (heads_text j.scripts.names items (length replies)) (answers_text j.scripts.names replies) (g.K.Sink.page c.args.out.now) (g.K.Sink.page c.write_heads.new.out) c.from_residual-in_err-write_heads.ensures.1 part)

pub write_answers_by-requires-clause-named : goal.write_answers_by-requires-clause-named
write_answers_by-requires-clause-named g c =
    let j = c.args.job.now in
    let items = journal_of c.args.board.now in
    let ready = subst (λ (job : Job). IsRunnable job.portfolio job.scripts job.workers) c.job.view_is c.job.invariant in
    let known = interleaved-all (λ (step : Step). is_known j.scripts.names step ≡ true) j.scripts.lists items c.requires.interleaved ready.lines.known in
    let names : c.in_ok-blocks.blocks.names.now ≡ j.scripts.names = c.in_ok-blocks.ensures.names ∙ (ap (λ i. i.scripts.names) c.job-inside.view_is ∙ ap (λ (job : Job). job.scripts.names) c.job.view_is) in
    subst (λ (n : NameLists). All (λ (answer : Reply). All (λ (run : ℕ × Stream). run.0 < length n.contracts) answer.runs) (replies_of c.args.answers.now)) (sym names)
    (subst (λ (replies : List Reply). All (λ (answer : Reply). All (λ (run : ℕ × Stream). run.0 < length j.scripts.names.contracts) answer.runs) replies) (sym c.requires.answers) (answers-named j.portfolio.contracts j.scripts.names items known))

pub write_answers_by-requires-clause-replies : goal.write_answers_by-requires-clause-replies
write_answers_by-requires-clause-replies g c =
    let j = c.args.job.now in
    let board = c.args.board.now in
    subst (λ (replies : List Reply). All (IsReplyOn board) replies) (ap (λ (p : Accepted). answers_of p.contracts j.scripts.names (journal_of board)) c.requires.portfolio ∙ sym c.requires.answers)
    (replies-on board j.scripts.names (journal_of board) refl)

pub returns-clause-text : goal.returns-clause-text
returns-clause-text g c =
    let j = c.args.job.now in
    let items = journal_of c.args.board.now in
    let replies = answers_of j.portfolio.contracts j.scripts.names items in
    let names = ap (λ i. i.scripts.names) c.job-inside.view_is ∙ ap (λ (job : Job). job.scripts.names) c.job.view_is in
    let heads = heads-same c.job-inside.inside.0.1.0.names j.scripts.names c.journal-journal.result.now items c.answer_count-count.result (length replies) names c.journal-journal.ensures.journal (c.answer_count-count.ensures ∙ ap length c.requires.answers) in
    let first = subst (λ (t : List ℕ). g.K.Sink.page c.write_heads.new.out ≡ written_on (g.K.Sink.page c.args.out.now) t) heads c.in_ok-write_heads.ensures in
    let blocks : c.in_ok-blocks.blocks.names.now ≡ j.scripts.names = c.in_ok-blocks.ensures.names ∙ names in
    let second = subst (λ (n : NameLists). Writes (answers_text n (replies_of c.args.answers.now)) (g.K.Sink.page c.write_heads.new.out) c.write_answers_by.result (g.K.Sink.page c.write_answers_by.new.out)) blocks c.write_answers_by.ensures.text in
    let third = subst (λ (rs : List Reply). Writes (answers_text j.scripts.names rs) (g.K.Sink.page c.write_heads.new.out) c.write_answers_by.result (g.K.Sink.page c.write_answers_by.new.out)) c.requires.answers second in
    subst (λ (t : List ℕ). Writes t (g.K.Sink.page c.args.out.now) c.write_answers_by.result (g.K.Sink.page c.write_answers_by.new.out)) (sym (transcript-parts j.scripts.names items replies))
    (writes-behind c.write_answers_by.result (heads_text j.scripts.names items (length replies)) (answers_text j.scripts.names replies) (g.K.Sink.page c.args.out.now) (g.K.Sink.page c.write_heads.new.out) (g.K.Sink.page c.write_answers_by.new.out) first third)
