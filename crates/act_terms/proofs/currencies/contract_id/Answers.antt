use Rattle.std.proofs.Common.{◌≡◌, codes, string_bytes, Ok, Err, sym}
use Rattle.act_json.specs.Fields.{field_of, word_field}
use Rattle.act_json.specs.Tree.{object_of}
use Rattle.act_terms.specs.Fields.{needed}
use Rattle.act_terms.specs.Names.{contract_id}
use Rattle.act_terms.proofs.ContractIds.{id_read, star_refused, word_is_name, word_refused}
use Rattle.act_terms.proofs.WithoutWant.{given_up, needed_fault, needed_text}
use Rattle.act_terms.proofs.currencies.contract_id.Goals as goal

pub returns-in_err-id : goal.returns-in_err-id
unfolding contract_id
returns-in_err-id c =
    let is : c.from_residual.result ≡ Err c.in_err-id.field-0.0 = given_up _ _ c.from_residual.ensures.1 in
    record {
      id = rw is (λ read. sym (word_refused (codes "contractID") _ (field_of (codes "contractID") (object_of c.args.contract.now)) (needed_fault string_bytes _ _ _ _ c.in_err-id.ensures (λ want. read (cc)) c.word.ensures)));
      name = rw is tt;
      no_star = rw is tt;
    }

pub returns-then-eq : goal.returns-then-eq
unfolding contract_id
returns-then-eq c =
    let object = object_of c.args.contract.now in
    let word : needed (codes "contractID") (word_field (codes "contractID") object) ≡ Ok (string_bytes c.in_ok-id.id) = needed_text string_bytes _ _ _ _ c.in_ok-id.ensures c.word.ensures in
    record {
      id = λ read. rw c.refused.ensures (sym (star_refused _ _ (field_of (codes "contractID") object) word (sym (rw c.as_str.ensures.value at c.if-eq.ensures))));
      name = tt;
      no_star = tt;
    }

pub returns : goal.returns
unfolding contract_id
returns c =
    let object = object_of c.args.contract.now in
    let word : needed (codes "contractID") (word_field (codes "contractID") object) ≡ Ok (string_bytes c.in_ok-id.id) = needed_text string_bytes _ _ _ _ c.in_ok-id.ensures c.word.ensures in
    let other = sym (rw c.as_str.ensures.value at c.if-eq.ensures) in
    record {
      id = λ read. sym (id_read _ _ (field_of (codes "contractID") object) word other);
      name = word_is_name _ _ (field_of (codes "contractID") object) word;
      no_star = other;
    }
