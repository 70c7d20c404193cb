-- Which kinds are swaps, or caps and floors, and what is asked of their terms.
use Rattle.std.specs.Prelude.{Bool, true, false}
use Rattle.act_model.specs.declared.choice.ContractType.{ContractType}
use Rattle.act_model.specs.declared.choice.ContractType.TheVariants as type
use Rattle.act_model.specs.declared.terms.Kind.{Kind}
use Rattle.act_model.specs.declared.terms.Kind.TheVariants as kind
use Rattle.act_profile.specs.Built.{PlainSwapLeadsOn}

-- it is a SWPPV, a SWAPS or a CAPFL
abbrev pub is_swap_or_cap : ContractType → Bool
is_swap_or_cap type.SWPPV = true
is_swap_or_cap type.SWAPS = true
is_swap_or_cap type.CAPFL = true
is_swap_or_cap other = false

-- it is a SWAPS or a CAPFL, whose events are rows of its children
abbrev pub is_over_children : ContractType → Bool
is_over_children type.SWAPS = true
is_over_children type.CAPFL = true
is_over_children other = false

-- the cycles of a plain swap lead on; the other kinds have none
abbrev pub SwapLeadsOn : Kind → Type 0
SwapLeadsOn (kind.SWPPV swppv) = PlainSwapLeadsOn swppv
SwapLeadsOn other = Unit {0}
