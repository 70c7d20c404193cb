use Rattle.std.proofs.Common.{◌≡◌, ◌∷◌, [], ℕ, length, sym, ap, ◌∙◌}
use Rattle.std.specs.Arc.{arc_value}
use Rattle.std.specs.List.{count_by}
use Rattle.std.proofs.lemmas.Result.{IfOk-weaker}
use Rattle.act_history.specs.History.{History}
use Rattle.act_model.specs.Journal.{book_of}
use Rattle.act_portfolio.specs.Reading.{Accepted}
use Rattle.act_transcript.specs.Text.{items_of}
use Rattle.act_eval.specs.Evaluation.{Evaluation}
use Rattle.act_eval.proofs.Asks.{appends, book-length}
use Rattle.act_eval.proofs.evaluation.Evaluation.board.Goals as goal

-- a board on which nothing has happened
abbrev fresh : Accepted → ℕ → History
fresh portfolio quota = record { portfolio = portfolio; quotas = quota ∷ []; marks = [] }

pub returns : goal.returns
returns c =
    let e = c.args.self.now in
    let portfolio : arc_value c.in_ok-portfolio.portfolio ≡ e.portfolio = c.in_ok-portfolio.ensures ∙ ap (λ (v : Evaluation). v.portfolio) c.self.view_is in
    let count : c.entry_count.result ≡ length (book_of (items_of e.lines)) = c.entry_count.ensures ∙ (ap (λ (v : Evaluation). count_by appends v.lines) c.self.view_is ∙ sym (book-length e.lines)) in
    IfOk-weaker c.new.result _ _ (λ board is. is ∙ (ap (λ (p : Accepted). fresh p c.entry_count.result) portfolio ∙ ap (fresh e.portfolio) count)) c.new.ensures
