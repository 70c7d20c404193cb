use Rattle.std.proofs.Common.{◌≡◌, List, take, sym, ap, subst, ◌∙◌, arith}
use Rattle.std.proofs.lemmas.List.{length-take-le}
use Rattle.act_model.specs.declared.observed.Obs.{Obs}
use Rattle.act_profile.specs.Reads.{cut_by}
use Rattle.act_cut.proofs.Cuts.{cut_front}
use Rattle.act_cut.proofs.indexed.IndexedBook.cut.Goals as goal

pub returns-in-Some-clause-cut : goal.returns-in-Some-clause-cut
returns-in-Some-clause-cut c =
    let b = c.self.inside in
    let codes = c.args.reads.now.codes in
    let contracts = c.args.reads.now.contracts in
    let reached = c.go_over-self-inside.result in
    let seen = subst (λ (xs : List Obs). c.args.seen.now ≡ take c.args.to xs) (sym c.self.view_is) c.requires.seen in
    let gone = c.go_over-self-inside.ensures.gone b.book c.self.invariant.1 c.self.invariant.0 seen in
    c.in-Some.ensures.cut (take reached b.book) gone.0 (omega (arith, c.if-to-self.true, length-take-le reached b.book gone.1))
    ∙ cut_front codes contracts b.book reached c.args.from c.args.to c.if-to-self.true
    ∙ ap (λ (xs : List Obs). cut_by codes contracts xs c.args.from c.args.to) c.self.view_is

pub returns-clause-cut : goal.returns-clause-cut
returns-clause-cut c =
    let codes = c.args.reads.now.codes in
    let contracts = c.args.reads.now.contracts in
    c.cut-2.ensures.cut
    ∙ ap (λ (xs : List Obs). cut_by codes contracts xs c.args.from c.args.to) c.requires.seen
    ∙ cut_front codes contracts c.args.self.now c.args.to c.args.from c.args.to (omega arith)
