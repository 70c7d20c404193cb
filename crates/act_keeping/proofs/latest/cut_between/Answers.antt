use Rattle.std.proofs.Common.{List, ap, ◌∙◌, arith}
use Rattle.act_model.specs.declared.observed.Obs.{Obs}
use Rattle.act_profile.specs.Reads.{cut_by}
use Rattle.act_keeping.proofs.LatestRuns.{cut-down, cut-up}
use Rattle.act_keeping.proofs.latest.cut_between.Goals as goal

pub returns-then-other-version-clause-cut : goal.returns-then-other-version-clause-cut
returns-then-other-version-clause-cut c =
    c.in_range.ensures.same ∙ (c.cut.ensures.cut ∙ cut-up c.args.reads.now.codes c.args.reads.now.contracts c.args.book.now c.args.other c.args.version c.if-other-version.true)

pub returns-in_ok-newer-clause-cut : goal.returns-in_ok-newer-clause-cut
returns-in_ok-newer-clause-cut c =
    c.in_range-else-other-version.ensures.same
    ∙ (c.cut-else-other-version.ensures.cut
    ∙ (ap (λ (entries : List Obs). cut_by c.args.reads.now.codes c.args.reads.now.contracts entries c.args.version c.args.other) c.in_ok-newer.ensures.same
    ∙ cut-down c.args.reads.now.codes c.args.reads.now.contracts c.args.book.now c.args.other c.args.version (omega (arith, c.if-other-version.false))))
