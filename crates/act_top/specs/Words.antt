-- The words of a command. This profile's own.
use Rattle.std.specs.Prelude.{◌≤◌, ℕ, ◌&&◌, nat_le, if◌then◌else◌, Bool, List, [], ◌∷◌, bytes_eq, codes, decimal, find, length, map, string_bytes, Option, Some, None, option_map, option_and_then}
use Rattle.std.specs.List.{range_with_len}
use Rattle.act_model.specs.Limits.{most_callers, most_workers}
use Rattle.act_top.specs.declared.words.AloneCommand.{AloneCommand as AloneMade}
use Rattle.act_top.specs.declared.words.AloneCommand.TheVariants as made_alone
use Rattle.act_top.specs.declared.words.Command.{Command as CommandMade}
use Rattle.act_top.specs.declared.words.Command.TheVariants as made
use Rattle.act_top.specs.declared.words.ThreadedCommand.{ThreadedCommand as ThreadedMade}
use Rattle.act_top.specs.declared.words.ThreadedCommand.TheVariants as made_threaded

-- a command that one thread runs: it checks the portfolio of a file, or evaluates contracts of one, those that the script of a file asks for or all
pub data AloneCommand : Type 0 where
  Check : (portfolio : List ℕ) → AloneCommand
  Eval : (portfolio : List ℕ) → (scripts : List (List ℕ)) → AloneCommand

-- one that several threads run: workers and the callers of scripts at a desk, or there what the generator makes of a number
pub data ThreadedCommand : Type 0 where
  Desk : (workers : ℕ) → (portfolio : List ℕ) → (scripts : List (List ℕ)) → ThreadedCommand
  Big : (size : ℕ) → (workers : ℕ) → ThreadedCommand

-- a command
pub data Command : Type 0 where
  Alone : AloneCommand → Command
  Threaded : ThreadedCommand → Command

-- the same of the program's commands
abbrev pub alone_told : AloneMade → AloneCommand
alone_told (made_alone.Check portfolio) = Check portfolio.now
alone_told (made_alone.Eval portfolio scripts) = Eval portfolio.now (map string_bytes scripts.now)

abbrev pub threaded_told : ThreadedMade → ThreadedCommand
threaded_told (made_threaded.Desk named) = Desk named.workers named.portfolio.now (map string_bytes named.scripts.now)
threaded_told (made_threaded.Big size workers) = Big size workers

abbrev pub command_told : CommandMade → Command
command_told (made.Alone command) = Alone (alone_told command)
command_told (made.Threaded command) = Threaded (threaded_told command)

-- what is written where words are of no form
abbrev pub usage : List ℕ
usage = codes "usage: eval P [S] | check P | desk W P S.. | big N W\n"

-- the greatest number of a large run
abbrev pub most_size : ℕ
most_size = 1000

-- the number from 1 to a greatest one whose decimal a word is: it has neither a sign nor a leading zero
abbrev pub number_of_word : ℕ → List ℕ → Option ℕ
number_of_word most word = find (λ number. bytes_eq word (decimal number)) (range_with_len 1 most)

-- `check P`
abbrev pub check_of : List (List ℕ) → Option Command
check_of (portfolio ∷ []) = Some (Alone (Check portfolio))
check_of others = None

-- `eval P` or `eval P S`
abbrev pub eval_of : List (List ℕ) → Option Command
eval_of (portfolio ∷ []) = Some (Alone (Eval portfolio []))
eval_of (portfolio ∷ script ∷ []) = Some (Alone (Eval portfolio (script ∷ [])))
eval_of others = None

-- as many scripts as a desk may have: one at least
abbrev pub is_script_count : ℕ → Bool
is_script_count count = nat_le 1 count && nat_le count most_callers

-- `desk W P S1 to Sk`, W from 1 to 64, of 1 to 16 scripts
abbrev pub desk_of : List (List ℕ) → Option Command
desk_of (workers ∷ portfolio ∷ scripts) =
    if is_script_count (length scripts) then option_map (λ number. Threaded (Desk number portfolio scripts)) (number_of_word most_workers workers) else None
desk_of others = None

-- `big N W`, N from 1 to 1,000 and W from 1 to 64
abbrev pub big_of : List (List ℕ) → Option Command
big_of (size ∷ workers ∷ []) = option_and_then (λ n. option_map (λ w. Threaded (Big n w)) (number_of_word most_workers workers)) (number_of_word most_size size)
big_of others = None

-- the command of words; others are of no form
abbrev pub command_of : List (List ℕ) → Option Command
command_of [] = None
command_of (verb ∷ words) =
    if bytes_eq verb (codes "check") then check_of words
    else if bytes_eq verb (codes "eval") then eval_of words
    else if bytes_eq verb (codes "desk") then desk_of words
    else if bytes_eq verb (codes "big") then big_of words
    else None

-- what is asked of the numbers and counts of a command, as its form has them
abbrev pub IsWithin : Command → Type 0
IsWithin (Alone (Eval portfolio scripts)) = length scripts ≤ 1
IsWithin (Threaded (Desk workers portfolio scripts)) = (workers ≤ most_workers) × (1 ≤ length scripts) × (length scripts ≤ most_callers)
IsWithin (Threaded (Big size workers)) = (1 ≤ size) × (size ≤ most_size) × (workers ≤ most_workers)
IsWithin others = Unit {0}
