use Rattle.std.proofs.Common.{◌≡◌, ◌<◌, ℕ, List, Result, Ok, Err, length, sym, ap, subst, ◌∙◌, arith}
use Rattle.std.specs.Prelude.{◌&&◌, IfOk}
use Rattle.std.specs.List.{All}
use Rattle.std.proofs.lemmas.Result.{IfOk-weaker}
use Rattle.act_engine.specs.declared.writing.Failure.{Failure}
use Rattle.act_engine.proofs.Texts.{writes-none}
use Rattle.act_history.specs.History.{History, entries_of}
use Rattle.act_model.specs.Answer.{Reply}
use Rattle.act_model.specs.Names.{NameLists}
use Rattle.act_model.specs.Run.{Stream}
use Rattle.act_model.specs.declared.observed.Obs.{Obs}
use Rattle.act_portfolio.specs.Reading.{Accepted}
use Rattle.act_profile.specs.Answers.{answer_to}
use Rattle.act_transcript.specs.Ends.{are_none, ends_well}
use Rattle.act_transcript.specs.KnownLines.{AreBlocksOf, IsReplyOn}
use Rattle.act_transcript.proofs.Replies.{reply-named, reply-on}
use Rattle.act_eval.specs.Driven.{Adds, IsAtRest, next_answer, next_ask}
use Rattle.act_eval.proofs.driving.Driver.write_answer.Goals as goal

pub returns-in_err-answer-clause-text : goal.returns-in_err-answer-clause-text
returns-in_err-answer-clause-text g c = writes-none c.from_residual.result _ _ c.from_residual.ensures.1

pub write-written-requires-clause-named : goal.write-written-requires-clause-named
write-written-requires-clause-named g c =
    let p = c.args.self.now.portfolio.now in
    let board = c.args.self.now.board in
    let told = c.in_ok-answer.ensures in
    let ids : p.names.contracts ≡ c.answer.new.self.blocks.names.now.contracts = sym (ap (λ (n : NameLists). n.contracts) told.same.names ∙ c.requires.named) in
    subst (λ (ids : List (List ℕ)). All (λ (run : ℕ × Stream). run.0 < length ids) c.in_ok-answer.answer.runs) ids
    (subst (λ (r : Reply). All (λ (run : ℕ × Stream). run.0 < length p.names.contracts) r.runs) {x = next_answer p board c.args.asked} (sym told.answer) (reply-named p.contracts p.names (entries_of board) (next_ask board c.args.asked) c.requires.known))

pub write-written-requires-clause-reply : goal.write-written-requires-clause-reply
write-written-requires-clause-reply g c =
    let p = c.args.self.now.portfolio.now in
    let board = c.args.self.now.board in
    let after = c.answer.new.self.board in
    let told = c.in_ok-answer.ensures in
    let ask = next_ask board c.args.asked in
    subst (IsReplyOn after)
    (ap (λ (q : Accepted). answer_to q.contracts p.names (entries_of after) ask) told.rest.quiet.portfolio
    ∙ (ap (λ (entries : List Obs). answer_to p.contracts p.names entries ask) told.asked.entries ∙ sym told.answer))
    (reply-on after p.names ask (omega (arith, ap length told.asked.entries)))

pub write-written-requires-clause-version : goal.write-written-requires-clause-version
write-written-requires-clause-version g c =
    let told = c.in_ok-answer.ensures in
    ap (λ (r : Reply). r.version) told.answer ∙ sym (ap length told.asked.entries)

-- what holds where it is written
if-written : (written : Result (Unit {0}) Failure) (P : Type 0) → P → IfOk written (λ _. P)
if-written (Ok value) P is = is
if-written (Err stop) P is = tt

pub returns-clause-text : goal.returns-clause-text
returns-clause-text g c =
    let told = c.in_ok-answer.ensures in
    rw (told.same.names, told.answer) at c.write-written.ensures.text

pub returns-clause-stops : goal.returns-clause-stops
returns-clause-stops g c = if-written c.write-written.result _ (c.add.ensures ∙ ap (λ (r : Reply). are_none c.args.stops.now && ends_well r) c.in_ok-answer.ensures.answer)

pub returns-clause-rest : goal.returns-clause-rest
returns-clause-rest g c = if-written c.write-written.result _ (subst (IsAtRest c.args.self.now.portfolio.now) (sym c.write-written.ensures.board) c.in_ok-answer.ensures.rest)

pub returns-clause-asked : goal.returns-clause-asked
returns-clause-asked g c = if-written c.write-written.result _ (subst (Adds c.args.asked c.args.self.now.board) (sym c.write-written.ensures.board) c.in_ok-answer.ensures.asked)

pub returns-clause-ticked : goal.returns-clause-ticked
returns-clause-ticked g c = if-written c.write-written.result _ c.in_ok-answer.ensures.ticked

pub returns-clause-counted : goal.returns-clause-counted
returns-clause-counted g c = if-written c.write-written.result _ (omega (arith, c.write-written.ensures.work, c.in_ok-answer.ensures.counted))

pub returns-clause-portfolio : goal.returns-clause-portfolio
returns-clause-portfolio g c = c.write-written.ensures.portfolio ∙ c.in_ok-answer.ensures.portfolio

pub returns-clause-blocks : goal.returns-clause-blocks
returns-clause-blocks g c =
    let new = c.write-written.new.self in
    subst (λ (h : History). IfOk c.write-written.result (λ _. AreBlocksOf h new.blocks)) (sym c.write-written.ensures.board) c.write-written.ensures.blocks

pub returns-clause-names : goal.returns-clause-names
returns-clause-names g c = IfOk-weaker c.write-written.result _ _ (λ _ same. same ∙ c.in_ok-answer.ensures.same.names) c.write-written.ensures.names
