use Rattle.act_terms.proofs.UnusedNames.{IsFoundTo, texts}
use Rattle.act_terms.proofs.used.unused_names.Given as goal

-- the names among the members so far that aren't terms
abbrev pub invariant-loop-name : goal.invariant-loop-name
invariant-loop-name l = IsFoundTo l.contract_type l.name-items l.name-index (texts l.unused.keys)
