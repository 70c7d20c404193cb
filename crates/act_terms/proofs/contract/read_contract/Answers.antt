use Rattle.act_json.specs.Tree.{object_of}
use Rattle.act_terms.proofs.TermsNamed.{contracts_kept, terms_named}
use Rattle.act_terms.proofs.contract.read_contract.Goals as goal

pub returns-clause-contracts : goal.returns-clause-contracts
returns-clause-contracts c =
    contracts_kept c.args.number c.args.names _ (object_of c.in-Some.object) c.in_ok-named.named c.in_ok-named.ensures.read

pub returns-clause-named : goal.returns-clause-named
returns-clause-named c =
    terms_named c.args.number c.args.names _ (object_of c.in-Some.object) c.in_ok-named.named c.in_ok-named.ensures.read
