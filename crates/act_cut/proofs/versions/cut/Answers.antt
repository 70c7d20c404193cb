use Rattle.std.proofs.Common.{sym, ◌∙◌, arith}
use Rattle.act_cut.proofs.Cuts.{cut_more, none_between, not_past}
use Rattle.act_cut.proofs.versions.cut.Goals as goal
use Rattle.act_cut.proofs.versions.cut.Goals.{in-Some, in_default}

pub loop-place-init : goal.loop-place-init
loop-place-init g c = sym (none_between c.args.reads.now.codes c.args.reads.now.contracts (g.O.Observed.entries c.args.seen.now) c.args.from)

pub loop-place-preserved : goal.loop-place-preserved
loop-place-preserved g c =
    let entries = g.O.Observed.entries c.args.seen.now in
    let place = c.loop-place.place in
    elim c.match-entry.branch [
      | in-Some w ↦
          let next = cut_more c.args.reads.now.codes c.args.reads.now.contracts entries c.args.from place w.in-Some.entry (omega arith) (omega arith) (sym c.entry.ensures ∙ w.in-Some.is) c.loop-place.least c.loop-place.invariant in
          cc
      | in_default w ↦ absurd (not_past entries place (omega arith) (sym c.entry.ensures ∙ w.in_default.is))
    ]
