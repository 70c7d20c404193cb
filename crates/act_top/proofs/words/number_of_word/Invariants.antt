use Rattle.std.proofs.Common.{◌≡◌, ◌+◌, ◌-◌, decimal, bytes_eq}
use Rattle.std.specs.Prelude.{find}
use Rattle.std.specs.List.{range_with_len}
use Rattle.act_top.specs.Words.{number_of_word}
use Rattle.act_top.proofs.words.number_of_word.Given as goal

-- the number is none of those before this one
abbrev pub invariant-loop-number : goal.invariant-loop-number
invariant-loop-number l = find (λ n. bytes_eq l.word (decimal n)) (range_with_len l.number (l.most + 1 - l.number)) ≡ number_of_word l.most l.word
