use Rattle.std.proofs.Common.{None, ◌≡◌, ◌+◌, ◌∷◌, [], List, Bor, drop, take, get_or, length, refl, sym, ap, subst, ◌∙◌, arith}
use Rattle.act_eval.proofs.Answered.{IsMade, made-append, made-ask, made-few, made-first, made-last, made-quota, made-rest, made-still, no-blocks}
use Rattle.act_eval.proofs.evaluation.Evaluation.answers.Goals as goal
use Rattle.act_eval.proofs.evaluation.Evaluation.answers.Goals.{After-loop-step, In-loop-step, in-Append+in_ok-append-in-Append, in-Ask+in_ok-answer-in-Ask+in_ok-push-in-Ask}
use Rattle.act_engine.proofs.Lists.{drop-next, drop-past}
use Rattle.act_eval.specs.Driven.{IsAtRest, next_ask}
use Rattle.act_eval.specs.Evaluation.{Evaluation}
use Rattle.act_eval.specs.Work.{ask_work}
use Rattle.act_eval.proofs.Blocks.{blocks-later}
use Rattle.act_eval.proofs.Scripts.{line-known}
use Rattle.act_history.specs.History.{History, asks_by, entries_of, version_of}
use Rattle.act_job.specs.Weight.{too_much_asked}
use Rattle.act_model.specs.Answer.{Reply}
use Rattle.act_model.specs.declared.journal.Line.{Line}
use Rattle.act_model.specs.declared.observed.Obs.{Obs}
use Rattle.act_portfolio.specs.Reading.{Accepted}
use Rattle.act_profile.specs.Answers.{answer_to}
use Rattle.act_transcript.specs.KnownLines.{AreBlocksOf}
use Rattle.act_transcript.specs.declared.blocks.Blocks.{Blocks}

-- the contracts are those of the portfolio
contracts-are : (g : _) (c : In-loop-step g) → c.args.self.now.names.contracts ≡ c.args.self.now.portfolio.names.contracts
contracts-are g c = sym (ap (λ (v : Evaluation). v.names.contracts) c.self.view_is) ∙ (c.self.invariant.contracts ∙ ap (λ (v : Evaluation). v.portfolio.names.contracts) c.self.view_is)

-- what is made where this line is the next one
made-line : (g : _) (c : In-loop-step g) (line : Line) → line ≡ get_or c.self.inside.lines.now c.loop-step.step-index line
    → IsMade c.args.self.now.portfolio c.args.self.now.names c.args.self.now.lines (line ∷ drop (c.loop-step.step-index + 1) c.args.self.now.lines) c.loop-step.driver.board c.loop-step.answers.items c.args.steps.now c.loop-step.steps
made-line g c line is =
    let e = c.args.self.now in
    let here = drop-next c.self.inside.lines.now c.loop-step.step-index line c.loop-step-test.true is in
    subst (λ (ls : List Line). IsMade e.portfolio e.names e.lines ls c.loop-step.driver.board c.loop-step.answers.items c.args.steps.now c.loop-step.steps) (rw (ap (λ (v : Evaluation). v.lines) c.self.view_is) at here) c.loop-step.invariant.made

-- and where none is left
made-none : (g : _) (c : After-loop-step g)
    → IsMade c.args.self.now.portfolio c.args.self.now.names c.args.self.now.lines [] c.loop-step.driver.board c.loop-step.answers.items c.args.steps.now c.loop-step.steps
made-none g c =
    let e = c.args.self.now in
    let past = drop-past e.lines c.loop-step.step-index (omega (arith, c.loop-step-test.false, ap (λ (v : Evaluation). length v.lines) c.self.view_is)) in
    subst (λ (ls : List Line). IsMade e.portfolio e.names e.lines ls c.loop-step.driver.board c.loop-step.answers.items c.args.steps.now c.loop-step.steps) past c.loop-step.invariant.made

pub loop-step-init : goal.loop-step-init
loop-step-init g c =
    let e = c.args.self.now in
    let light : too_much_asked e.portfolio (e.lines ∷ []) ≡ None = sym (ap (λ (v : Evaluation). too_much_asked v.portfolio (v.lines ∷ [])) c.self.view_is) ∙ c.self.invariant.light in
    let first = made-first e.portfolio e.names e.lines c.args.steps.now light in
    let board = subst (λ (h : History). IsMade e.portfolio e.names e.lines e.lines h [] c.args.steps.now c.args.steps.now) (sym c.in_ok-driver.ensures.board) first in
    record {
      made = subst (λ (replies : List Reply). IsMade e.portfolio e.names e.lines e.lines c.in_ok-driver.driver.board replies c.args.steps.now c.args.steps.now) (sym c.new-answers.ensures.items) board;
      portfolio = c.in_ok-driver.ensures.portfolio;
      blocks = subst (λ (b : Blocks). AreBlocksOf c.in_ok-driver.driver.board b) (sym c.in_ok-driver.ensures.blocks) (no-blocks c.in_ok-driver.driver.board c.none-blocks.result c.none-blocks.ensures.kept c.none-blocks.ensures.at);
    }

pub append-requires-clause-quota : goal.append-requires-clause-quota
append-requires-clause-quota g c =
    made-quota _ _ _ _ _ _ _ _ _ (made-line g (goal.at.append-requires-clause-quota g c).In-loop-step c.step-item.result c.step-item.is) c.in-Append.entry c.in-Append.is

pub answer-requires-clause-rest : goal.answer-requires-clause-rest
answer-requires-clause-rest g c =
    subst (λ (p : Accepted). IsAtRest p c.loop-step.driver.board) (sym c.loop-step.invariant.portfolio)
    (made-rest _ _ _ _ _ _ _ _ _ (made-line g (goal.at.answer-requires-clause-rest g c).In-loop-step c.step-item.result c.step-item.is))

pub answer-requires-clause-few : goal.answer-requires-clause-few
answer-requires-clause-few g c =
    let step = (goal.at.answer-requires-clause-few g c).In-loop-step in
    made-few _ _ _ _ _ _ _ _ _ (made-line g step c.step-item.result c.step-item.is) c.in-Ask.asked c.in-Ask.is (contracts-are g step)

pub answer-requires-clause-known : goal.answer-requires-clause-known
answer-requires-clause-known g c =
    line-known _ _ _ _ c.step-item.result _ c.self.view_is c.self.invariant.contracts c.self.invariant.known c.loop-step-test.true c.step-item.is c.in-Ask.is c.loop-step.invariant.portfolio

pub loop-step-preserved : goal.loop-step-preserved
loop-step-preserved g c =
    let driver = c.loop-step.driver in
    let step = (goal.at.loop-step-preserved g c).In-loop-step in
    let made = made-line g step c.step-item.result c.step-item.is in
    let first = c.loop-step.invariant in
    elim c.match-step.branch [
      | in-Append+in_ok-append-in-Append w ↦
          let told = w.in_ok-append-in-Append.ensures in
          rw (w.steps-is, w.driver-is, w.answers-is) (record {
            made = rw told.board (made-append _ _ _ _ _ _ _ _ _ made w.in-Append.entry w.in-Append.is);
            portfolio = ap (λ (b : Bor Accepted). b.now) told.portfolio ∙ first.portfolio;
            blocks = rw (told.board, told.blocks) (blocks-later driver.board _ driver.blocks refl (made-still _ _ _ _ _ _ _ _ _ made w.in-Append.entry w.in-Append.is) first.blocks);
          })
      | in-Ask+in_ok-answer-in-Ask+in_ok-push-in-Ask w ↦
          let asked = w.in-Ask.asked in
          let board = driver.board in
          let after = w.answer.new.self.board in
          let one = w.in_ok-answer-in-Ask.field-0 in
          let told = w.in_ok-answer-in-Ask.ensures in
          let rest = subst (λ (p : Accepted). IsAtRest p after) first.portfolio told.rest in
          let reply = subst (λ (p : Accepted). one ≡ answer_to p.contracts p.names (entries_of board) (next_ask board asked)) first.portfolio told.answer in
          let ticked = subst
          (λ (p : Accepted). (book : List Obs) → take (version_of board) book ≡ entries_of board → w.answer.new.steps ≡ c.loop-step.steps + ask_work p book (asks_by board 1) (next_ask board asked))
          first.portfolio told.ticked in
          rw (w.steps-is, w.driver-is, w.answers-is) (record {
            made = made-ask _ _ _ _ _ _ _ _ _ made asked w.in-Ask.is (contracts-are g step) after one w.push.new.self.items w.answer.new.steps rest told.asked reply w.in_ok-push-in-Ask.ensures.items ticked;
            portfolio = ap (λ (b : Bor Accepted). b.now) told.portfolio ∙ first.portfolio;
            blocks = told.blocks;
          })
    ]

pub returns-clause-answers : goal.returns-clause-answers
returns-clause-answers g c = (made-last _ _ _ _ _ _ _ (made-none g (goal.at.returns-clause-answers g c).After-loop-step)).0

pub returns-clause-portfolio : goal.returns-clause-portfolio
returns-clause-portfolio g c = c.loop-step.invariant.made.driven.quiet.portfolio

pub returns-clause-entries : goal.returns-clause-entries
returns-clause-entries g c = (made-last _ _ _ _ _ _ _ (made-none g (goal.at.returns-clause-entries g c).After-loop-step)).1

pub returns-clause-ticked : goal.returns-clause-ticked
returns-clause-ticked g c = (made-last _ _ _ _ _ _ _ (made-none g (goal.at.returns-clause-ticked g c).After-loop-step)).2
