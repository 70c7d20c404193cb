use Rattle.std.proofs.Common.{◌≡◌, drop}
use Rattle.std.specs.List.{enumerate_from}
use Rattle.act_portfolio.specs.Fit.{unfit}
use Rattle.act_cones.proofs.Lists.{first_of}
use Rattle.act_portfolio.proofs.fit.references_fit.Given as goal

-- those before the place fit
abbrev pub invariant-loop-place : goal.invariant-loop-place
invariant-loop-place l =
    first_of (unfit l.listing) (enumerate_from 0 l.named) ≡ first_of (unfit l.listing) (enumerate_from l.place (drop l.place l.named))
