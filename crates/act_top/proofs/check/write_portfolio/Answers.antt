use Rattle.act_engine.proofs.Texts.{writes-behind, writes-first}
use Rattle.act_top.proofs.check.write_portfolio.Goals as goal

pub returns-in_err-write_count : goal.returns-in_err-write_count
returns-in_err-write_count g c =
    rw (← c.named.ensures.named) (writes-first c.from_residual.result _ _ _ _ _ c.from_residual.ensures.1 c.in_err-write_count.ensures)

pub returns : goal.returns
returns g c = rw (← c.named.ensures.named) (writes-behind c.write_contracts.result _ _ _ _ _ c.in_ok-write_count.ensures c.write_contracts.ensures)
