use Rattle.std.proofs.Common.{refl, ◌<◌, Some, arith, length, ap, ◌∙◌}
use Rattle.act_model.specs.Names.{NameLists}
use Rattle.act_model.specs.declared.terms.Terms.{Terms}
use Rattle.act_text.specs.Lines.{name_of}
use Rattle.act_top.proofs.Contracts.{at-place, contracts-next, contracts-past, name-at}
use Rattle.act_engine.proofs.Texts.{left-all, left-next, left-none, left-part, writes-part}
use Rattle.act_top.proofs.check.write_contracts.Goals as goal

pub returns-in_err-write_contract : goal.returns-in_err-write_contract
returns-in_err-write_contract g c =
    let p = c.args.portfolio.now in
    let i = c.loop-contract.contract in
    let of = at-place p.contracts.terms c.terms.result.now (length p.contracts.terms) i c.index-terms-contract.result c.terms.ensures.terms refl (omega (arith, c.named-contract-end.ensures.within, c.loop-contract-test.true)) c.index-terms-contract.is ∙ ap (λ (t : Terms). Some t) c.index-terms-contract.is in
    let within : i < length p.names.contracts = omega (arith, c.named-contract-end.ensures.named) in
    let here = contracts-next p i _ _ _ _ _ of (name-at p.names.contracts i within) (c.unused.ensures.named within) (c.contract_name-id.ensures.text ∙ ap (λ (names : NameLists). name_of names.contracts i) c.requires.names) c.scheduled_count-count.ensures.count in
    writes-part c.from_residual.result _ _ _ _ c.from_residual.ensures.1 (left-part c.in_err-write_contract.field-0.0 _ _ _ _ _ _ _ c.loop-contract.invariant.text here c.in_err-write_contract.ensures)

pub loop-contract-preserved : goal.loop-contract-preserved
loop-contract-preserved g c =
    let p = c.args.portfolio.now in
    let i = c.loop-contract.contract in
    let of = at-place p.contracts.terms c.terms.result.now (length p.contracts.terms) i c.index-terms-contract.result c.terms.ensures.terms refl (omega (arith, c.named-contract-end.ensures.within, c.loop-contract-test.true)) c.index-terms-contract.is ∙ ap (λ (t : Terms). Some t) c.index-terms-contract.is in
    let within : i < length p.names.contracts = omega (arith, c.named-contract-end.ensures.named) in
    let here = contracts-next p i _ _ _ _ _ of (name-at p.names.contracts i within) (c.unused.ensures.named within) (c.contract_name-id.ensures.text ∙ ap (λ (names : NameLists). name_of names.contracts i) c.requires.names) c.scheduled_count-count.ensures.count in
    record {
      text = left-next _ _ _ _ _ _ _ c.loop-contract.invariant.text here c.in_ok-write_contract.ensures;
    }

pub returns : goal.returns
returns g c =
    left-none _ _ _ _ c.loop-contract.invariant.text (contracts-past c.args.portfolio.now c.loop-contract.contract _ _ (omega (arith, c.named-contract-end.ensures.named)))

pub loop-contract-init : goal.loop-contract-init
loop-contract-init g c = record { text = left-all _ _ }
