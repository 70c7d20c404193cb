use Rattle.std.proofs.Common.{◌≡◌, ◌+◌, ℕ, None, refl, sym, ap, subst, ◌∙◌, Bor}
use Rattle.std.proofs.lemmas.Result.{IfOk-weaker}
use Rattle.act_history.specs.History.{History, and_then}
use Rattle.act_history.specs.declared.mark.Mark.TheVariants as mark
use Rattle.act_history.proofs.Going.{entries-same}
use Rattle.act_portfolio.specs.Reading.{Accepted}
use Rattle.act_transcript.specs.KnownLines.{AreBlocksOf, AreKeptAt, AreKnownAt, AreOnesOf}
use Rattle.act_transcript.specs.declared.blocks.Blocks.{Blocks}
use Rattle.act_transcript.proofs.KnownLines.{ones-then}
use Rattle.act_eval.specs.Driven.{Adds, HasKnown, IsAtRest, IsLater, IsQuiet, OnlyWorks, next_ask, rows_since}
use Rattle.act_eval.proofs.Blocks.{blocks-same}
use Rattle.act_eval.proofs.Stepping.{IsToldOf, ask-entries, quiet-asked, told-of}
use Rattle.act_eval.proofs.driving.Driver.answer.Goals as goal
use Rattle.act_eval.proofs.driving.Driver.answer.Goals.{In_ok-ask, In_ok-evaluate_all}

-- the board behind the ask
middle : (g : _) (c : In_ok-ask g) → c.ask.new.self.board ≡ and_then c.args.self.now.board (mark.Ask 1 c.args.asked)
middle g c = c.in_ok-ask.ensures.board ∙ ap (λ (h : History). and_then h (mark.Ask 1 c.args.asked)) c.know.ensures.board

pub evaluate_all-requires-clause-quiet : goal.evaluate_all-requires-clause-quiet
evaluate_all-requires-clause-quiet g c =
    let rest = c.requires.rest in
    subst (λ (q : Accepted). IsQuiet q c.ask.new.self.board) (sym (ap (λ (b : Bor Accepted). b.now) c.in_ok-ask.ensures.portfolio))
    (subst (IsQuiet c.args.self.now.portfolio.now) (sym (middle g (goal.at.evaluate_all-requires-clause-quiet g c).In_ok-ask)) (quiet-asked c.args.self.now.portfolio.now c.args.self.now.board rest.quiet rest.closed c.args.asked))

pub evaluate_all-requires-clause-known : goal.evaluate_all-requires-clause-known
evaluate_all-requires-clause-known g c =
    let first = c.args.self.now.board in
    let rest = c.requires.rest in
    let new = c.know.new.self in
    let on : HasKnown first new = record {
      named = c.know.ensures.blocks.named;
      written = c.know.ensures.blocks.written;
      known = subst (λ (v : ℕ). AreKnownAt first v new) c.version-version.ensures c.know.ensures.known;
    } in
    subst (λ (b : Blocks). HasKnown c.ask.new.self.board b) (sym c.in_ok-ask.ensures.blocks)
    (subst (λ (h : History). HasKnown h new) (sym (middle g (goal.at.evaluate_all-requires-clause-known g c).In_ok-ask))
    (blocks-same first (and_then first (mark.Ask 1 c.args.asked)) new refl (ask-entries c.args.self.now.portfolio.now first rest.quiet rest.closed c.args.asked) on))

-- what the ask comes to
told : (g : _) (c : In_ok-evaluate_all g) → IsToldOf c.args.self.now.portfolio.now c.args.asked c.args.self.now.board c.evaluate_all.new.self.board c.args.steps.now c.evaluate_all.new.steps
told g c =
    let p = c.args.self.now.portfolio.now in
    let last = c.evaluate_all.new.self.board in
    let linked = c.contracts_are_linked.ensures in
    let wrought = c.in_ok-evaluate_all.ensures in
    let behind = c.in_ok-ask.ensures.board ∙ ap (λ (h : History). and_then h (mark.Ask 1 c.args.asked)) c.know.ensures.board in
    told-of p c.args.asked c.args.self.now.board last c.args.steps.now c.evaluate_all.new.steps c.requires.rest (subst (λ (h : History). OnlyWorks h last) behind wrought.works)
    (subst (λ (q : Accepted). IsQuiet q last) (ap (λ (b : Bor Accepted). b.now) c.in_ok-ask.ensures.portfolio) wrought.quiet) (subst (λ (h : History). IsLater h last) behind wrought.later)
    (subst (λ (h : History). c.evaluate_all.new.steps ≡ c.args.steps.now + rows_since h last) behind wrought.ticked) wrought.none linked.ordered linked.count linked.exist c.requires.known linked.named

pub collect-requires-clause-ready : goal.collect-requires-clause-ready
collect-requires-clause-ready g c =
    let so = told g (goal.at.collect-requires-clause-ready g c).In_ok-evaluate_all in
    (next_ask c.args.self.now.board c.args.asked, so.oldest, so.ready)

pub returns-clause-rest : goal.returns-clause-rest
returns-clause-rest g c =
    IfOk-weaker c.collect.result _ _ (λ x is. subst (IsAtRest c.args.self.now.portfolio.now) (sym is) (told g (goal.at.returns-clause-rest g c).In_ok-evaluate_all).rest) c.collect.ensures.collected

pub returns-clause-asked : goal.returns-clause-asked
returns-clause-asked g c =
    IfOk-weaker c.collect.result _ _ (λ x is. subst (Adds c.args.asked c.args.self.now.board) (sym is) (told g (goal.at.returns-clause-asked g c).In_ok-evaluate_all).adds) c.collect.ensures.collected

pub returns-clause-answer : goal.returns-clause-answer
returns-clause-answer g c =
    let so = told g (goal.at.returns-clause-answer g c).In_ok-evaluate_all in
    IfOk-weaker c.collect.result _ _ (λ answer is. is (next_ask c.args.self.now.board c.args.asked) so.oldest ∙ so.answer) c.collect.ensures.answer

pub returns-clause-ticked : goal.returns-clause-ticked
returns-clause-ticked g c = IfOk-weaker c.collect.result _ _ (λ x is. (told g (goal.at.returns-clause-ticked g c).In_ok-evaluate_all).ticked) c.collect.ensures.collected

pub returns-clause-blocks : goal.returns-clause-blocks
returns-clause-blocks g c =
    let new = c.evaluate_all.new.self.blocks in
    let told = c.in_ok-evaluate_all.ensures in
    let none : new.at ≡ None = told.at ∙ (ap (λ (b : Blocks). b.at) c.in_ok-ask.ensures.blocks ∙ c.know.ensures.at) in
    let of : AreBlocksOf c.collect.new.self.board new = record {
      named = told.known.named;
      written = told.known.written;
      at = subst (AreKeptAt c.collect.new.self.board new.kept.items) (sym none) tt;
    } in
    IfOk-weaker c.collect.result _ _ (λ x is. subst (AreBlocksOf c.collect.new.self.board) (sym c.collect.ensures.blocks) of) c.collect.ensures.collected

pub returns-clause-known : goal.returns-clause-known
returns-clause-known g c =
    let last = c.evaluate_all.new.self.board in
    let new = c.evaluate_all.new.self.blocks in
    let collect = mark.Collect 1 in
    IfOk-weaker c.collect.result _ _
    (λ x is. subst (λ (b : Blocks). HasKnown c.collect.new.self.board b) (sym c.collect.ensures.blocks)
    (subst (λ (h : History). HasKnown h new) (sym is) (blocks-same last (and_then last collect) new refl (entries-same last collect refl) c.in_ok-evaluate_all.ensures.known))) c.collect.ensures.collected

pub returns-clause-same : goal.returns-clause-same
returns-clause-same g c =
    let first = c.args.self.now.blocks in
    let known = subst (AreOnesOf first) (sym c.in_ok-ask.ensures.blocks) c.know.ensures.same in
    let all = subst (AreOnesOf first) (sym c.collect.ensures.blocks) (ones-then first c.ask.new.self.blocks c.evaluate_all.new.self.blocks known c.in_ok-evaluate_all.ensures.same) in
    IfOk-weaker c.collect.result _ _ (λ x is. all) c.collect.ensures.collected
