-- Which kinds of contracts have the events of their plans alone, where nothing is observed of them. This profile's own.
use Rattle.std.specs.Prelude.{Bool, true, false}
use Rattle.act_model.specs.declared.terms.Kind.{Kind}
use Rattle.act_model.specs.declared.terms.Kind.TheVariants as kind

-- a contract of that kind has the events of its plan, and those that are observed of it: it has no rows of children, and none of its events moves
abbrev pub is_planned : Kind → Bool
is_planned (kind.SWAPS swaps) = false
is_planned (kind.CAPFL capfl) = false
is_planned (kind.OPTNS optns) = false
is_planned (kind.FUTUR futur) = false
is_planned (kind.CEG ceg) = false
is_planned (kind.CEC cec) = false
is_planned other = true
