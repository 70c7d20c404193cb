use Rattle.std.proofs.Common.{None, ◌≡◌, ◌+◌, ◌∷◌, [], List, Bool, true, drop, take, refl, get_or, length, sym, ap, subst, ◌∙◌, arith, Bor}
use Rattle.std.specs.Prelude.{◌&&◌}
use Rattle.act_engine.proofs.Lists.{drop-next, drop-past}
use Rattle.act_engine.proofs.Texts.{writes-part}
use Rattle.act_history.specs.History.{History, asks_by, entries_of, version_of}
use Rattle.act_job.specs.Weight.{too_much_asked}
use Rattle.act_model.specs.Journal.{appends_entry}
use Rattle.act_model.specs.Names.{NameLists}
use Rattle.act_model.specs.declared.journal.Line.{Line}
use Rattle.act_model.specs.declared.journal.Step.{Step}
use Rattle.act_model.specs.declared.observed.Obs.{Obs}
use Rattle.act_portfolio.specs.Reading.{Accepted}
use Rattle.act_transcript.specs.Ends.{are_none, ends_well}
use Rattle.act_transcript.specs.declared.blocks.Blocks.{Blocks}
use Rattle.act_eval.specs.Driven.{IsAtRest, next_answer, next_ask}
use Rattle.act_eval.specs.Evaluation.{Evaluation}
use Rattle.act_eval.specs.Work.{ask_work}
use Rattle.act_eval.proofs.Blocks.{blocks-later}
use Rattle.act_eval.proofs.Quiet.{quiet-present}
use Rattle.act_eval.proofs.Scripts.{IsAt, answer-part, at-append, at-ask, at-end, at-first, at-rest, at-stop, begins-still, few-asked, line-known, quota-left}
use Rattle.act_eval.proofs.evaluation.Evaluation.write_answers.Goals as goal
use Rattle.act_eval.proofs.evaluation.Evaluation.write_answers.Goals.{After-loop-step, In-loop-step, in-Append+in_ok-append-in-Append, in-Ask+in_ok-write_answer-in-Ask}

-- the contracts are those of the portfolio
contracts-are : (g : _) (c : In-loop-step g) → c.args.self.now.names.contracts ≡ c.args.self.now.portfolio.names.contracts
contracts-are g c = sym (ap (λ (v : Evaluation). v.names.contracts) c.self.view_is) ∙ (c.self.invariant.contracts ∙ ap (λ (v : Evaluation). v.portfolio.names.contracts) c.self.view_is)

-- how far the script is where this line is the next one
at-line : (g : _) (c : In-loop-step g) (line : Line) → line ≡ get_or c.self.inside.lines.now c.loop-step.step-index line
    → IsAt c.args.self.now.portfolio c.args.self.now.names c.args.self.now.lines (line ∷ drop (c.loop-step.step-index + 1) c.args.self.now.lines) c.loop-step.driver.board (are_none c.loop-step.stops) c.args.steps.now c.loop-step.steps (g.K.Sink.page c.args.out.now) (g.K.Sink.page c.loop-step.out)
at-line g c line is =
    let e = c.args.self.now in
    let here = drop-next c.self.inside.lines.now c.loop-step.step-index line c.loop-step-test.true is in
    subst (λ (ls : List Line). IsAt e.portfolio e.names e.lines ls c.loop-step.driver.board (are_none c.loop-step.stops) c.args.steps.now c.loop-step.steps (g.K.Sink.page c.args.out.now) (g.K.Sink.page c.loop-step.out))
    (rw (ap (λ (v : Evaluation). v.lines) c.self.view_is) at here) c.loop-step.invariant.at

-- and where none is left
at-none : (g : _) (c : After-loop-step g)
    → IsAt c.args.self.now.portfolio c.args.self.now.names c.args.self.now.lines [] c.loop-step.driver.board (are_none c.loop-step.stops) c.args.steps.now c.loop-step.steps (g.K.Sink.page c.args.out.now) (g.K.Sink.page c.loop-step.out)
at-none g c =
    let e = c.args.self.now in
    subst (λ (ls : List Line). IsAt e.portfolio e.names e.lines ls c.loop-step.driver.board (are_none c.loop-step.stops) c.args.steps.now c.loop-step.steps (g.K.Sink.page c.args.out.now) (g.K.Sink.page c.loop-step.out))
    (drop-past e.lines c.loop-step.step-index (omega (arith, c.loop-step-test.false, ap (λ (v : Evaluation). length v.lines) c.self.view_is))) c.loop-step.invariant.at

pub loop-step-init : goal.loop-step-init
loop-step-init g c =
    let e = c.args.self.now in
    let light : too_much_asked e.portfolio (e.lines ∷ []) ≡ None = sym (ap (λ (v : Evaluation). too_much_asked v.portfolio (v.lines ∷ [])) c.self.view_is) ∙ c.self.invariant.light in
    record {
      at = subst (λ (board : History). IsAt e.portfolio e.names e.lines e.lines board true c.args.steps.now c.args.steps.now (g.K.Sink.page c.args.out.now) (g.K.Sink.page c.args.out.now)) (sym c.requires.board) (at-first e.portfolio e.names e.lines c.args.steps.now (g.K.Sink.page c.args.out.now) light);
      counted = omega (arith, c.requires.work);
      portfolio = c.requires.portfolio;
      names = c.requires.names;
      blocks = c.requires.blocks;
    }

pub append-requires-clause-quota : goal.append-requires-clause-quota
append-requires-clause-quota g c =
    quota-left _ _ _ _ _ _ _ _ _ _ _ (at-line g (goal.at.append-requires-clause-quota g c).In-loop-step c.step-item.result c.step-item.is) c.in-Append.entry c.in-Append.is

pub append-requires-clause-present : goal.append-requires-clause-present
append-requires-clause-present g c = quiet-present c.args.self.now.portfolio c.loop-step.driver.board c.loop-step.invariant.at.driven.quiet

pub append-requires-clause-going : goal.append-requires-clause-going
append-requires-clause-going g c = c.loop-step.invariant.at.driven.quiet.going

pub append-requires-clause-entry : goal.append-requires-clause-entry
append-requires-clause-entry g c =
    let line = subst (λ (line : Line). appends_entry line.step ≡ true) (sym c.step-item.is) (c.self.invariant.entries c.loop-step.step-index c.step-item.result c.loop-step-test.true) in
    subst (λ (s : Step). appends_entry s ≡ true) c.in-Append.is line

pub write_answer-requires-clause-blocks : goal.write_answer-requires-clause-blocks
write_answer-requires-clause-blocks g c = c.loop-step.invariant.blocks

pub write_answer-requires-clause-rest : goal.write_answer-requires-clause-rest
write_answer-requires-clause-rest g c =
    subst (λ (p : Accepted). IsAtRest p c.loop-step.driver.board) (sym c.loop-step.invariant.portfolio)
    (at-rest _ _ _ _ _ _ _ _ _ _ _ (at-line g (goal.at.write_answer-requires-clause-rest g c).In-loop-step c.step-item.result c.step-item.is))

pub write_answer-requires-clause-few : goal.write_answer-requires-clause-few
write_answer-requires-clause-few g c =
    few-asked _ _ _ _ _ _ _ _ _ _ _ (at-line g (goal.at.write_answer-requires-clause-few g c).In-loop-step c.step-item.result c.step-item.is) c.in-Ask.asked c.in-Ask.is

pub write_answer-requires-clause-known : goal.write_answer-requires-clause-known
write_answer-requires-clause-known g c =
    line-known _ _ _ _ c.step-item.result _ c.self.view_is c.self.invariant.contracts c.self.invariant.known c.loop-step-test.true c.step-item.is c.in-Ask.is c.loop-step.invariant.portfolio

pub write_answer-requires-clause-named : goal.write_answer-requires-clause-named
write_answer-requires-clause-named g c =
    let same = contracts-are g (goal.at.write_answer-requires-clause-named g c).In-loop-step in
    ap (λ (n : NameLists). n.contracts) c.loop-step.invariant.names ∙ (same ∙ ap (λ (p : Accepted). p.names.contracts) (sym c.loop-step.invariant.portfolio))

pub loop-step-preserved : goal.loop-step-preserved
loop-step-preserved g c =
    let e = c.args.self.now in
    let driver = c.loop-step.driver in
    let at = at-line g (goal.at.loop-step-preserved g c).In-loop-step c.step-item.result c.step-item.is in
    let first = c.loop-step.invariant in
    elim c.match-step.branch [
      | in-Append+in_ok-append-in-Append w ↦
          let told = w.in_ok-append-in-Append.ensures in
          rw (w.out-is, w.steps-is, w.stops-is, w.driver-is) (record {
            at = rw told.board (at-append _ _ _ _ _ _ _ _ _ _ _ at w.in-Append.entry w.in-Append.is);
            counted = omega (arith, told.work, first.counted);
            portfolio = ap (λ (b : Bor Accepted). b.now) told.portfolio ∙ first.portfolio;
            names = ap (λ (b : Blocks). b.names.now) told.blocks ∙ first.names;
            blocks = rw (told.board, told.blocks) (blocks-later driver.board _ driver.blocks refl (begins-still _ _ _ _ _ _ _ _ _ _ _ at w.in-Append.entry w.in-Append.is) first.blocks);
          })
      | in-Ask+in_ok-write_answer-in-Ask w ↦
          let asked = w.in-Ask.asked in
          let board = driver.board in
          let after = w.write_answer.new.self.board in
          let told = w.in_ok-write_answer-in-Ask.ensures in
          let same = contracts-are g (goal.at.loop-step-preserved g c).In-loop-step in
          let rest = subst (λ (p : Accepted). IsAtRest p after) first.portfolio told.rest in
          let stops = subst (λ (p : Accepted). are_none w.write_answer.new.stops ≡ (are_none c.loop-step.stops && ends_well (next_answer p board asked))) first.portfolio told.stops in
          let ticked = subst
          (λ (p : Accepted). (entries : List Obs) → take (version_of board) entries ≡ entries_of board → w.write_answer.new.steps ≡ c.loop-step.steps + ask_work p entries (asks_by board 1) (next_ask board asked))
          first.portfolio told.ticked in
          rw (w.out-is, w.steps-is, w.stops-is, w.driver-is) (record {
            at = subst (λ (b : Bool). IsAt e.portfolio e.names e.lines (drop (c.loop-step.step-index + 1) e.lines) after b c.args.steps.now w.write_answer.new.steps (g.K.Sink.page c.args.out.now) (g.K.Sink.page w.write_answer.new.out)) (sym stops)
                (at-ask _ _ _ _ _ _ _ _ _ _ _ at asked w.in-Ask.is same after (ends_well (next_answer e.portfolio board asked)) (g.K.Sink.page w.write_answer.new.out) told.asked (rw (first.names, first.portfolio) at told.text) refl w.write_answer.new.steps rest ticked);
            counted = omega (arith, told.counted, first.counted);
            portfolio = ap (λ (b : Bor Accepted). b.now) told.portfolio ∙ first.portfolio;
            names = told.names ∙ first.names;
            blocks = told.blocks;
          })
    ]

pub returns-in_err-append-in-Append-clause-text : goal.returns-in_err-append-in-Append-clause-text
returns-in_err-append-in-Append-clause-text g c =
    let e = c.args.self.now in
    writes-part c.from_residual.result _ _ _ _ c.from_residual.ensures.1
    (at-stop e.portfolio e.names e.lines c.args.steps.now (g.K.Sink.page c.args.out.now) (drop c.loop-step.step-index e.lines) c.loop-step.driver.board (are_none c.loop-step.stops) c.loop-step.steps (g.K.Sink.page c.loop-step.out) c.loop-step.invariant.at)

pub returns-in_err-write_answer-in-Ask-clause-text : goal.returns-in_err-write_answer-in-Ask-clause-text
returns-in_err-write_answer-in-Ask-clause-text g c =
    let behind = goal.at.returns-in_err-write_answer-in-Ask-clause-text g c in
    writes-part c.from_residual-in_err-write_answer-in-Ask.result _ _ _ _ c.from_residual-in_err-write_answer-in-Ask.ensures.1
    (answer-part _ _ _ _ _ _ _ _ _ _ _ (at-line g behind.In-loop-step c.step-item.result c.step-item.is) c.in-Ask.asked c.in-Ask.is (contracts-are g behind.In-loop-step) c.in_err-write_answer-in-Ask.field-0.0 (g.K.Sink.page c.write_answer.new.out)
    (rw (c.loop-step.invariant.names, c.loop-step.invariant.portfolio) at c.in_err-write_answer-in-Ask.ensures.text))

pub returns-clause-text : goal.returns-clause-text
returns-clause-text g c = (at-end _ _ _ _ _ _ _ _ _ (at-none g c)).0

pub returns-clause-stops : goal.returns-clause-stops
returns-clause-stops g c = (at-end _ _ _ _ _ _ _ _ _ (at-none g c)).1

pub returns-clause-ticked : goal.returns-clause-ticked
returns-clause-ticked g c = (at-end _ _ _ _ _ _ _ _ _ (at-none g c)).2

pub returns-clause-counted : goal.returns-clause-counted
returns-clause-counted g c = c.loop-step.invariant.counted
