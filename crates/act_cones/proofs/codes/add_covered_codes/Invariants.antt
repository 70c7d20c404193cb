use Rattle.std.proofs.Common.{◌≡◌, ◌++◌, take}
use Rattle.std.specs.List.{filter_map}
use Rattle.act_cones.proofs.codes.add_covered_codes.Given as goal

-- the codes of those before the place stand behind the ones that were there
abbrev pub invariant-loop-one : goal.invariant-loop-one
invariant-loop-one l = l.codes.items ≡ l.fn.codes.items ++ filter_map (λ c. c.market) (take l.one-index l.covered)
