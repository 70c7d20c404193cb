use Rattle.std.proofs.Common.{◌||◌, sym, ap, ◌∙◌}
use Rattle.act_terms.specs.Used.{is_among, trade_terms}
use Rattle.act_terms.proofs.TermNames.{shared_is}
use Rattle.act_terms.proofs.used.is_shared_term.Goals as goal

pub returns-then-is_money_term : goal.returns-then-is_money_term
returns-then-is_money_term c =
    let trade = is_among (trade_terms c.args.contract_type) c.args.name.now in
    c.if-is_money_term.true ∙ sym (shared_is c.args.contract_type c.args.name.now ∙ ap (λ b. b || trade) (sym c.is_money_term.ensures ∙ c.if-is_money_term.true))

pub returns-else-is_money_term : goal.returns-else-is_money_term
returns-else-is_money_term c =
    let trade = is_among (trade_terms c.args.contract_type) c.args.name.now in
    c.is_trade_term.ensures
    ∙ sym (shared_is c.args.contract_type c.args.name.now ∙ ap (λ b. b || trade) (sym c.is_money_term.ensures ∙ c.if-is_money_term.false))
