use Rattle.std.proofs.Common.{◌≡◌, ℕ, ◌<◌, ◌≤◌, true, length}
use Rattle.act_model.specs.Name.{is_name}
use Rattle.act_text.specs.Lines.{name_of}
use Rattle.act_print.proofs.transcript.count_contracts.Given as goal

abbrev pub invariant-contracts : goal.invariant-contracts
invariant-contracts l = record {
  few : l.contract ≤ length l.names.contracts;
  named : (contract : ℕ) → contract < l.contract → is_name (name_of l.names.contracts contract) ≡ true;
}
