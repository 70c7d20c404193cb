-- What is printed of answers: lists in place of vectors. This profile's own.
use Rattle.std.specs.Prelude.{ℕ, List, map}
use Rattle.act_model.specs.Answer.{Reply}
use Rattle.act_model.specs.Run.{Stream}
use Rattle.act_model.specs.declared.journal.Item.{Item}
use Rattle.act_model.specs.declared.run.Close.{Close}
use Rattle.act_model.specs.declared.run.Row.{Row}
use Rattle.act_print.specs.declared.printed.PrintedRow.{PrintedRow}

-- the rows of a contract, and why there are no more
pub record Block : Type 0 where
  pub contract : ℕ
  pub rows : List PrintedRow
  pub close : Close

-- the answer to an ask, with a block for each contract asked
pub record Response : Type 0 where
  pub caller : ℕ
  pub number : ℕ
  pub version : ℕ
  pub blocks : List Block

-- the items of a journal and its answers
pub record Transcript : Type 0 where
  pub items : List Item
  pub answers : List Response

-- what is printed of a row: of the state after the event the notional, the rate and the interest accrued
abbrev pub printed_row : Row → PrintedRow
printed_row row =
    record { day = row.day; kind = row.kind; currency = row.currency; payoff = row.payoff; nt = row.state.nt; ipnr = row.state.ipnr; ipac = row.state.ipac }

-- what is printed of a contract's run
abbrev pub printed_block : ℕ × Stream → Block
printed_block run = record { contract = run.0; rows = map printed_row run.1.rows; close = run.1.close }

-- what is printed of an answer
abbrev pub printed_answer : Reply → Response
printed_answer answer = record { caller = answer.caller; number = answer.number; version = answer.version; blocks = map printed_block answer.runs }
