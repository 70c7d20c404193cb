use Rattle.std.proofs.Common.{◌≡◌, length, sym, ap, subst, ◌∙◌, ℕ}
use Rattle.std.specs.List.{All}
use Rattle.std.proofs.lemmas.List.FromFn.{length-map-range_with_len}
use Rattle.act_cones.specs.Counts.{cone_sum}
use Rattle.act_script.specs.Asks.{AsksBelow, line_lists}
use Rattle.act_job.proofs.weight.first_overweight.Goals as goal

pub weigh-requires-clause-contracts : goal.weigh-requires-clause-contracts
weigh-requires-clause-contracts c =
    let p = c.args.portfolio.now in
    let all : length c.deref.result.now ≡ length p.names.contracts =
    ap length (c.deref.ensures.value ∙ c.in_ok-weights.ensures.each) ∙ length-map-range_with_len (cone_sum p.contracts) 0 (length p.names.contracts) in
    subst (λ (n : ℕ). All (AsksBelow n) (line_lists c.args.scripts.now)) (sym all) c.requires.contracts
