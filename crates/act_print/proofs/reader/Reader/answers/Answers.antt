use Rattle.std.proofs.Common.{rules}
use Rattle.std.proofs.lemmas.Result.{err_from_is_err_and}
use Rattle.act_print.specs.Reading.{answers_at}
use Rattle.act_print.proofs.Turns.{answers_done, answers_end, answers_more}
use Rattle.act_print.proofs.reader.Reader.answers.Goals as goal

pub returns-in_err-answer : goal.returns-in_err-answer
returns-in_err-answer c =
    let p = err_from_is_err_and c.from_residual.result c.from_residual.ensures.1 in
    rw (p.1, p.2) (answers_end c.args.names.now c.asks.answers.items c.args.asks.now c.asks.ask-index c.asks.self (answers_at c.args.names.now c.args.asks.now c.args.self.now) c.asks.invariant _ _ c.answer.new.self c.in_err-answer.ensures c.asks-test.true (search rules))

pub asks-preserved : goal.asks-preserved
asks-preserved c =
    answers_more c.args.names.now c.asks.answers.items c.args.asks.now c.asks.ask-index c.asks.self (answers_at c.args.names.now c.args.asks.now c.args.self.now) c.asks.invariant _ c.push.new.self.items c.in_ok-answer.answer c.answer.new.self c.in_ok-answer.ensures c.in_ok-push.ensures.items c.asks-test.true (search rules)

pub returns : goal.returns
returns c = answers_done c.args.names.now c.asks.answers.items c.args.asks.now c.asks.ask-index c.asks.self (answers_at c.args.names.now c.args.asks.now c.args.self.now) c.asks.invariant c.asks-test.false
