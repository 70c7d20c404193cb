use Rattle.std.proofs.Common.{◌≡◌, ℤ, length, option_map, take, subst, sym, ap, ◌∙◌, arith}
use Rattle.std.proofs.Math.Seq.{take-length}
use Rattle.std.proofs.lemmas.Grind.{common_steps}
use Rattle.act_model.specs.Latest.{later}
use Rattle.act_model.specs.Observed.{rate_until, rates_until}
use Rattle.act_model.proofs.LatestRates.{IsLatestOf, latest_is, latest_turn}
use Rattle.act_model.proofs.observed.value.Goals as goal

pub loop-entry-preserved : goal.loop-entry-preserved
loop-entry-preserved c =
    let next : c.later-latest.result ≡ later c.loop-entry.latest (rate_until c.args.code c.args.until c.entry-item.result) = c.later-latest.ensures ∙ ap (later c.loop-entry.latest) c.rate_until.ensures in
    rw next (latest_turn c.args.entries.now c.loop-entry.entry-index c.entry-item.result c.args.code c.args.until c.loop-entry.latest (c.loop-entry-test.true, c.entry-item.is) c.loop-entry.invariant)

pub returns : goal.returns
returns c =
    let value : c.map.result ≡ option_map (λ (rate : ℤ × ℤ). rate.1) c.loop-entry.latest = grind (arith, common_steps) in
    let all : c.loop-entry.entry-index ≡ length c.args.entries.now = omega arith in
    let whole : take c.loop-entry.entry-index c.args.entries.now ≡ c.args.entries.now = rw all (take-length c.args.entries.now) in
    value ∙ sym (latest_is c.args.entries.now c.args.code c.args.until c.loop-entry.latest (subst (λ entries. IsLatestOf (rates_until entries c.args.code c.args.until) c.loop-entry.latest) whole c.loop-entry.invariant))
