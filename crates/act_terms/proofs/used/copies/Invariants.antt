use Rattle.std.proofs.Common.{◌≡◌, ◌++◌, map, string_bytes}
use Rattle.act_terms.proofs.UnusedNames.{texts}
use Rattle.act_terms.proofs.used.copies.Given as goal

-- the copies so far and the names that are left make the whole list
abbrev pub invariant-loop-name : goal.invariant-loop-name
invariant-loop-name l = map string_bytes l.copies.items ++ texts l.name-iterator ≡ texts l.names.keys
