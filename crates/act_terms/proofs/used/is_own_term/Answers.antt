use Rattle.std.proofs.Common.{◌||◌, sym, ap, ◌∙◌}
use Rattle.act_terms.specs.Used.{is_among, redemption_terms}
use Rattle.act_terms.proofs.TermNames.{own_is}
use Rattle.act_terms.proofs.used.is_own_term.Goals as goal

pub returns-then-is_among : goal.returns-then-is_among
returns-then-is_among c =
    let name = c.args.name.now in
    c.if-is_among.true ∙ sym (own_is c.args.contract_type name c.in-LAM.is ∙ ap (λ b. b || is_among redemption_terms name) (sym c.is_among-in-LAM.ensures ∙ c.if-is_among.true))

pub returns-else-is_among : goal.returns-else-is_among
returns-else-is_among c =
    let name = c.args.name.now in
    c.is_among-else-is_among.ensures
    ∙ sym (own_is c.args.contract_type name c.in-LAM.is ∙ ap (λ b. b || is_among redemption_terms name) (sym c.is_among-in-LAM.ensures ∙ c.if-is_among.false))
