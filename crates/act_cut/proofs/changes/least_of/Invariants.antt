use Rattle.std.proofs.Common.{◌≡◌, ◌≤◌, ℕ, Bool, List, length, take}
use Rattle.std.specs.List.{list_any}
use Rattle.act_model.specs.declared.observed.Obs.{Obs}
use Rattle.act_cut.specs.Lows.{AreListed, least_by}
use Rattle.act_cut.proofs.changes.least_of.Given as goal

-- the least day of the entries of the numbers before this one
abbrev pub invariant-loop-number : goal.invariant-loop-number
invariant-loop-number l =
    (test : ℕ → Obs → Bool) (entries : List Obs) → AreListed test entries l.lists → l.to ≤ length entries
    → l.least ≡ least_by (λ entry. list_any (λ n. test n entry) (take l.number-index l.numbers)) entries l.from l.to
