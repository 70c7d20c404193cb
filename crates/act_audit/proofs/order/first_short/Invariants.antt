use Rattle.std.proofs.Common.{◌≡◌, ◌≤◌, ◌<◌, ℕ, List, Some, length}
use Rattle.std.specs.Prelude.{slice_get, slice_index}
use Rattle.act_model.specs.declared.journal.Line.{Line}
use Rattle.act_script.specs.Asks.{line_lists}
use Rattle.act_audit.proofs.order.first_short.Given as goal

-- no caller before this one has made fewer steps than its script has
abbrev pub invariant-loop-script : goal.invariant-loop-script
invariant-loop-script l = (place : ℕ) (lines : List Line) → place < l.script → slice_get (line_lists l.scripts) place ≡ Some lines → length lines ≤ slice_index l.made place
