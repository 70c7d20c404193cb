use Rattle.std.proofs.Common.{◌||◌, sym, ap, ◌∙◌}
use Rattle.act_terms.specs.Used.{is_among, own_terms}
use Rattle.act_terms.proofs.TermNames.{term_is}
use Rattle.act_terms.proofs.used.is_term_of.Goals as goal

pub returns-then-is_shared_term : goal.returns-then-is_shared_term
returns-then-is_shared_term c =
    let own = is_among (own_terms c.args.contract_type) c.args.name.now in
    c.if-is_shared_term.true ∙ sym (term_is c.args.contract_type c.args.name.now ∙ ap (λ b. b || own) (sym c.is_shared_term.ensures ∙ c.if-is_shared_term.true))

pub returns-else-is_shared_term : goal.returns-else-is_shared_term
returns-else-is_shared_term c =
    let own = is_among (own_terms c.args.contract_type) c.args.name.now in
    c.is_own_term.ensures
    ∙ sym (term_is c.args.contract_type c.args.name.now ∙ ap (λ b. b || own) (sym c.is_shared_term.ensures ∙ c.if-is_shared_term.false))
