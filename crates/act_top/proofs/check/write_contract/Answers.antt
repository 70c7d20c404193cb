use Rattle.std.proofs.Common.{map, string_bytes}
use Rattle.std.specs.List.{flat_map}
use Rattle.act_top.specs.Check.{unused_line}
use Rattle.act_engine.proofs.Texts.{writes-behind, writes-first}
use Rattle.act_top.proofs.check.write_contract.Goals as goal

pub returns-in_err-write_contract_line : goal.returns-in_err-write_contract_line
returns-in_err-write_contract_line g c =
    writes-first c.from_residual.result _ _ (flat_map unused_line (map string_bytes c.args.unused.now)) _ _ c.from_residual.ensures.1 (rw (c.as_bytes.ensures.value, c.name-kind.ensures, c.contract_type.ensures) at c.in_err-write_contract_line.ensures)

pub returns : goal.returns
returns g c = writes-behind c.write_unused.result _ _ _ _ _ (rw (c.as_bytes.ensures.value, c.name-kind.ensures, c.contract_type.ensures) at c.in_ok-write_contract_line.ensures) c.write_unused.ensures
