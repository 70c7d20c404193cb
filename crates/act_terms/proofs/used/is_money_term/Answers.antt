use Rattle.std.proofs.Common.{◌||◌, sym, ap, ◌∙◌}
use Rattle.act_terms.specs.Used.{is_among, settlement_terms}
use Rattle.act_terms.proofs.TermNames.{money_is}
use Rattle.act_terms.proofs.used.is_money_term.Goals as goal

pub returns-then-is_among : goal.returns-then-is_among
returns-then-is_among c =
    let settlement = is_among (settlement_terms c.args.contract_type) c.args.name.now in
    c.if-is_among.true ∙ sym (money_is c.args.contract_type c.args.name.now ∙ ap (λ b. b || settlement) (sym c.is_among.ensures ∙ c.if-is_among.true))

pub returns-else-is_among : goal.returns-else-is_among
returns-else-is_among c =
    let settlement = is_among (settlement_terms c.args.contract_type) c.args.name.now in
    c.is_settlement_term.ensures
    ∙ sym (money_is c.args.contract_type c.args.name.now ∙ ap (λ b. b || settlement) (sym c.is_among.ensures ∙ c.if-is_among.false))
