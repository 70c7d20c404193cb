use Rattle.std.proofs.Common.{◌≡◌, ◌<◌, List, length, sym, ap, subst, ◌∙◌, Vec, Global}
use Rattle.std.specs.List.{All, list_any}
use Rattle.act_model.specs.Reads.{Readings}
use Rattle.act_cut.specs.Cut.{lesser}
use Rattle.act_cut.specs.Lows.{AreListed, is_event_of, is_rate_of, least_by}
use Rattle.act_cut.specs.declared.lows.Low.{Low}
use Rattle.act_cut.proofs.Listed.{cut_either}
use Rattle.act_cut.proofs.changes.Changes.cut.Goals as goal

pub returns-in_err-of_rates-clause-told : goal.returns-in_err-of_rates-clause-told
returns-in_err-of_rates-clause-told c = λ entries are whole codes contracts.
    let lists = c.deref.ensures.value in
    let numbers : c.deref-2.result.now ≡ c.args.reads.now.codes = c.deref-2.ensures.value ∙ ap (λ (r : Readings). r.codes) c.reads.view_is in
    absurd (let told = c.in_err-of_rates.ensures.told is_rate_of entries (subst (AreListed is_rate_of entries) (sym lists) are.rates) whole
    (subst (λ (ls : List (Vec Low Global)). All (λ n. n < length ls) c.deref-2.result.now) (sym lists) (subst (All (λ n. n < length c.args.self.now.rates.items)) (sym numbers) codes)) in cc)

pub returns-in_err-of_events-clause-told : goal.returns-in_err-of_events-clause-told
returns-in_err-of_events-clause-told c = λ entries are whole codes contracts.
    let lists = c.deref-3.ensures.value in
    let numbers : c.deref-4.result.now ≡ c.args.reads.now.contracts = c.deref-4.ensures.value ∙ ap (λ (r : Readings). r.contracts) c.reads.view_is in
    absurd (let told = c.in_err-of_events.ensures.told is_event_of entries (subst (AreListed is_event_of entries) (sym lists) are.events) whole
    (subst (λ (ls : List (Vec Low Global)). All (λ n. n < length ls) c.deref-4.result.now) (sym lists) (subst (All (λ n. n < length c.args.self.now.events.items)) (sym numbers) contracts)) in cc)

pub returns-clause-cut : goal.returns-clause-cut
returns-clause-cut c = λ entries are within.
    let from = c.args.from in
    let to = c.args.to in
    let codes = c.args.reads.now.codes in
    let contracts = c.args.reads.now.contracts in
    let rates = c.in_ok-of_rates.ensures.least is_rate_of entries (subst (AreListed is_rate_of entries) (sym c.deref.ensures.value) are.rates) within in
    let events = c.in_ok-of_events.ensures.least is_event_of entries (subst (AreListed is_event_of entries) (sym c.deref-3.ensures.value) are.events) within in
    let by_codes : c.deref-2.result.now ≡ codes = c.deref-2.ensures.value ∙ ap (λ (r : Readings). r.codes) c.reads.view_is in
    let by_contracts : c.deref-4.result.now ≡ contracts = c.deref-4.ensures.value ∙ ap (λ (r : Readings). r.contracts) c.reads.view_is in
    c.lesser.ensures
    ∙ ap (λ first. lesser first c.in_ok-of_events.of_events) (rates ∙ ap (λ ns. least_by (λ entry. list_any (λ n. is_rate_of n entry) ns) entries from to) by_codes)
    ∙ ap (lesser (least_by (λ entry. list_any (λ n. is_rate_of n entry) codes) entries from to)) (events ∙ ap (λ ns. least_by (λ entry. list_any (λ n. is_event_of n entry) ns) entries from to) by_contracts)
    ∙ sym (cut_either codes contracts entries from to)
