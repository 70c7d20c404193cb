-- Which kinds are stocks or foreign exchange outrights.
use Rattle.std.specs.Prelude.{Bool, true, false}
use Rattle.act_model.specs.declared.choice.ContractType.{ContractType}
use Rattle.act_model.specs.declared.choice.ContractType.TheVariants as type

-- it is a STK or a FXOUT
abbrev pub is_stock_or_outright : ContractType → Bool
is_stock_or_outright type.STK = true
is_stock_or_outright type.FXOUT = true
is_stock_or_outright other = false
