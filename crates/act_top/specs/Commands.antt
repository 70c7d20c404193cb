-- How the commands end, by their words. This profile's own.
use Rattle.std.specs.Prelude.{Option, None, Some, Result}
use Rattle.act_engine.specs.Ending.{Ends, Goes, Meaning, Outside, words_meaning}
use Rattle.act_engine.specs.Reading.{Halt}
use Rattle.act_engine.specs.declared.status.Status.{Status}
use Rattle.act_history.specs.History.{History}
use Rattle.act_job.specs.Job.{Job}
use Rattle.act_portfolio.specs.Reading.{Accepted}
use Rattle.act_top.specs.Big.{big_meaning}
use Rattle.act_top.specs.Check.{check_meaning}
use Rattle.act_top.specs.Desk.{desk_meaning}
use Rattle.act_top.specs.Eval.{eval_meaning}
use Rattle.act_top.specs.Words.{AloneCommand, Check, Eval, Command, Alone, Threaded, ThreadedCommand, Big, Desk, usage}

-- what a command means, and of which sort is what it reads
pub record CommandMeaning : Type 1 where
  pub Read : Type 0
  pub meaning : Meaning Read History

-- what each command means that one thread runs
abbrev pub alone_meaning : AloneCommand → CommandMeaning
alone_meaning (Check portfolio) = record { Read = Accepted; meaning = check_meaning portfolio }
alone_meaning (Eval portfolio scripts) = record { Read = Job; meaning = eval_meaning portfolio scripts }

-- and each that several run
abbrev pub threaded_meaning : ThreadedCommand → CommandMeaning
threaded_meaning (Desk workers portfolio scripts) = record { Read = Job; meaning = desk_meaning workers portfolio scripts }
threaded_meaning (Big size workers) = record { Read = Job; meaning = big_meaning size workers }

-- what a command means, or words of no form
abbrev pub meaning_of : Option Command → CommandMeaning
meaning_of None = record { Read = Unit {0}; meaning = words_meaning }
meaning_of (Some (Alone command)) = alone_meaning command
meaning_of (Some (Threaded command)) = threaded_meaning command

-- how a command ends
abbrev pub EndsAs : Option Command → Outside → Status → Option History → Outside → Type 0
EndsAs command = Ends (meaning_of command).meaning usage

-- and what it comes to, before the line of a refusal is written
abbrev pub GoesAs : Command → Outside → Result Status Halt → Option History → Outside → Type 0
GoesAs command = Goes (meaning_of (Some command)).meaning

-- a command, where one thread runs it
abbrev pub alone : Option Command → Option Command
alone (Some (Alone command)) = Some (Alone command)
alone others = None

-- and where several do
abbrev pub threaded : Option Command → Option Command
threaded (Some (Threaded command)) = Some (Threaded command)
threaded others = None
