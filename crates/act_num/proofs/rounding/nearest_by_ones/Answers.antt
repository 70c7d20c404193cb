use Rattle.std.proofs.Common.{◌+◌, ap₂, ◌∙◌}
use Rattle.act_num.proofs.Words.{nearest_of_ones}
use Rattle.act_num.proofs.rounding.nearest_by_ones.Goals as goal

pub returns-then-n-lt-PAST_WORDS-clause-value : goal.returns-then-n-lt-PAST_WORDS-clause-value
returns-then-n-lt-PAST_WORDS-clause-value c =
    ap₂ (λ a b. a + b) c.from.ensures c.from-then-n-lt-PAST_WORDS.ensures
    ∙ nearest_of_ones c.args.n c.args.den c.by_one-ones.result.0 c.by_one-ones.result.1 c.rounds_up-up.result c.requires.den_above c.by_one-ones.ensures.quotient c.by_one-ones.ensures.rest c.rounds_up-up.ensures
