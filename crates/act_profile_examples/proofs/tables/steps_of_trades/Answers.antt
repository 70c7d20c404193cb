use Rattle.act_profile_examples.proofs.ComputedTables.{stock_with_dividends, sold_future, worthless_call, put, call_and_put, early_exercise, no_early_exercise}
use Rattle.act_profile_examples.proofs.tables.steps_of_trades.Goals as goal

pub returns-clause-stock_with_dividends : goal.returns-clause-stock_with_dividends
returns-clause-stock_with_dividends c = stock_with_dividends

pub returns-clause-sold_future : goal.returns-clause-sold_future
returns-clause-sold_future c = sold_future

pub returns-clause-worthless_call : goal.returns-clause-worthless_call
returns-clause-worthless_call c = worthless_call

pub returns-clause-put : goal.returns-clause-put
returns-clause-put c = put

pub returns-clause-call_and_put : goal.returns-clause-call_and_put
returns-clause-call_and_put c = call_and_put

pub returns-clause-early_exercise : goal.returns-clause-early_exercise
returns-clause-early_exercise c = early_exercise

pub returns-clause-no_early_exercise : goal.returns-clause-no_early_exercise
returns-clause-no_early_exercise c = no_early_exercise
