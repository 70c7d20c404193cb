use Rattle.std.proofs.Common.{◌≡◌, ℤ, option_map, sym, ap, ◌∙◌, arith}
use Rattle.std.proofs.lemmas.Grind.{common_steps}
use Rattle.act_model.specs.Latest.{later}
use Rattle.act_book.specs.Rates.{latest_rate}
use Rattle.act_book.specs.Runs.{entries_of}
use Rattle.act_book.proofs.LatestRate.{latest_joined, observed_latest}
use Rattle.act_book.proofs.snapshot.SeenObserved.value.Goals as goal

pub returns : goal.returns
returns c =
    let code = c.args.code in
    let day = c.args.day in
    let runs = c.self.inside.runs.items in
    let rest = c.self.inside.rest.items in
    let value : c.map.result ≡ option_map (λ (rate : ℤ × ℤ). rate.1) c.later-latest.result = grind (arith, common_steps) in
    let latest : c.later-latest.result ≡ latest_rate c.args.self.now code day =
    c.later-latest.ensures
    ∙ ap (λ first. later first c.latest_among.result) (c.latest_in.ensures ∙ ap (λ runs. latest_rate (entries_of runs) code day) c.deref.ensures.value)
    ∙ ap (later (latest_rate (entries_of runs) code day)) (c.latest_among.ensures ∙ ap (λ entries. latest_rate entries code day) c.deref-2.ensures.value)
    ∙ sym (latest_joined code day (entries_of runs) rest)
    ∙ ap (λ entries. latest_rate entries code day) c.self.view_is in
    value ∙ ap (option_map (λ (rate : ℤ × ℤ). rate.1)) latest ∙ sym (observed_latest code day c.args.self.now)
