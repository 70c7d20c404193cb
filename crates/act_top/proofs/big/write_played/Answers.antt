use Rattle.std.proofs.Common.{◌≡◌, ℕ, List, length, ap, arith, subst, ◌∙◌}
use Rattle.std.proofs.lemmas.List.{length-map}
use Rattle.act_engine.specs.Writing.{StopsIn}
use Rattle.act_history.specs.History.{journal_of, replies_of}
use Rattle.act_io.specs.Page.{written_on}
use Rattle.act_job.specs.Job.{IsRunnable, Job}
use Rattle.act_portfolio.specs.Reading.{Accepted}
use Rattle.act_profile.specs.Answers.{answers_of}
use Rattle.act_top.specs.Totals.{answer_totals}
use Rattle.act_top.proofs.Asked.{answers-within}
use Rattle.act_top.proofs.Plays.{totals-same}
use Rattle.act_top.proofs.big.write_played.Goals as goal

pub write_totals-written-requires : goal.write_totals-written-requires
write_totals-written-requires g c =
    let j = c.args.job.now in
    let items = journal_of c.args.played.board in
    let answers = answers_of j.portfolio.contracts j.scripts.names items in
    let ready = subst (λ (job : Job). IsRunnable job.portfolio job.scripts job.workers) c.job.view_is c.job.invariant in
    let kept = ap replies_of c.deref-2.ensures.value ∙ c.requires.answers in
    record { few = omega (arith, ap length kept, length-map answers answer_totals, answers-within j.portfolio j.scripts.lists items c.requires.played.interleaved ready.light j.portfolio.contracts j.scripts.names) }

pub returns-in-Ok-clause-text : goal.returns-in-Ok-clause-text
returns-in-Ok-clause-text g c =
    let j = c.args.job.now in
    let answers = answers_of j.portfolio.contracts j.scripts.names (journal_of c.args.played.board) in
    let kept = ap replies_of c.deref-2.ensures.value ∙ c.requires.answers in
    let named = c.named.ensures.named ∙ ap (λ (p : Accepted). length p.names.contracts) (c.deref.ensures ∙ ap (λ (job : Job). job.portfolio) c.job.view_is) in
    subst (λ (t : List ℕ). g.K.Sink.page c.write_totals-written.new.out ≡ written_on (g.K.Sink.page c.args.out.now) t)
    (totals-same c.args.size c.named.result (length j.portfolio.names.contracts) (replies_of c.deref-2.result.now) answers named kept) c.in-Ok.ensures

pub returns-in-Err-clause-text : goal.returns-in-Err-clause-text
returns-in-Err-clause-text g c =
    let j = c.args.job.now in
    let answers = answers_of j.portfolio.contracts j.scripts.names (journal_of c.args.played.board) in
    let kept = ap replies_of c.deref-2.ensures.value ∙ c.requires.answers in
    let named = c.named.ensures.named ∙ ap (λ (p : Accepted). length p.names.contracts) (c.deref.ensures ∙ ap (λ (job : Job). job.portfolio) c.job.view_is) in
    subst (λ (t : List ℕ). StopsIn c.in-Err.stop t (g.K.Sink.page c.args.out.now) (g.K.Sink.page c.write_totals-written.new.out))
    (totals-same c.args.size c.named.result (length j.portfolio.names.contracts) (replies_of c.deref-2.result.now) answers named kept) c.in-Err.ensures
