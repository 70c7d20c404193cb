use Rattle.std.proofs.Common.{◌≡◌, ◌-◌, ◌≤◌, List, length, take}
use Rattle.act_model.specs.declared.observed.Obs.{Obs}
use Rattle.act_cut.specs.Lows.{AreChanges}
use Rattle.act_cut.proofs.indexed.go_over.Given as goal

-- the entries before this place were gone over
abbrev pub invariant-loop-place : goal.invariant-loop-place
invariant-loop-place l =
    (book : List Obs) → AreChanges (take l.from book) l.fn.changes → l.from ≤ length book → l.seen ≡ take l.to book → AreChanges (take l.place book) l.changes × (l.place ≤ length book)

abbrev pub decreases-loop-place : goal.decreases-loop-place
decreases-loop-place l = l.to - l.place
