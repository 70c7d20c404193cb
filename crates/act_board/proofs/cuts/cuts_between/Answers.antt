use Rattle.std.proofs.Common.{◌≡◌, ◌≤ℤ◌, ◌∷◌, ◌++◌, [], ℕ, ℤ, List, Option, length, max, min, inl, inr, sym, ap, subst, ◌∙◌, arith}
use Rattle.std.specs.List.{slice_get}
use Rattle.std.specs.Option.{IfSome}
use Rattle.std.proofs.lemmas.List.{length_push}
use Rattle.std.proofs.lemmas.Option.{slice_get_within}
use Rattle.act_date.specs.Civil.{last_day}
use Rattle.act_model.specs.Reads.{Readings}
use Rattle.act_model.specs.declared.observed.Obs.{Obs}
use Rattle.act_profile.specs.Reads.{cut_by, cut_of}
use Rattle.act_history.proofs.Places.{get-push_cases}
use Rattle.act_keeping.proofs.SameRuns.{kept-alike}
use Rattle.act_board.proofs.cuts.cuts_between.Goals as goal

pub contracts-preserved : goal.contracts-preserved
contracts-preserved c =
    let p = c.args.portfolio.now.contracts in
    let book = c.args.book.now in
    let from = min c.args.one c.args.other in
    let to = max c.args.one c.args.other in
    let reads = c.reads-reads.result.now in
    let found = c.in_ok-cut.cut in
    let least : min c.min.result c.max-to.result ≡ from = omega (arith, c.min.ensures, c.max-to.ensures) in
    let most : max c.min.result c.max-to.result ≡ to = omega (arith, c.min.ensures, c.max-to.ensures) in
    let items : c.push.new.self.items ≡ c.contracts.cuts.items ++ found ∷ [] = c.in_ok-push.ensures.items in
    let cut : found ≡ cut_of p c.contracts.contract book from to =
    c.in_ok-cut.ensures.cut
    ∙ ap (λ (k : ℕ). cut_by reads.codes reads.contracts c.contracts.book k (max c.min.result c.max-to.result)) least
    ∙ ap (λ (k : ℕ). cut_by reads.codes reads.contracts c.contracts.book from k) most
    ∙ (ap (λ (entries : List Obs). cut_by reads.codes reads.contracts entries from to) c.contracts.invariant.same
    ∙ ap (λ (r : Readings). cut_by r.codes r.contracts book from to) c.reads-reads.ensures.reads) in
    record {
      count = omega (arith, ap length items, length_push c.contracts.cuts.items found, c.contracts.invariant.count);
      each = λ d one at. elim (get-push_cases c.contracts.cuts.items found one d (ap (λ (xs : List (Option ℤ)). slice_get xs d) (sym items) ∙ at)) [
        | inl old ↦ c.contracts.invariant.each d one old.1
        | inr new ↦ (
          sym new.1 ∙ cut ∙ ap (λ (k : ℕ). cut_of p k book from to) (sym (new.0 ∙ c.contracts.invariant.count)),
          subst (λ (o : Option ℤ). IfSome o (λ day. day ≤ℤ last_day)) new.1 c.in_ok-cut.ensures.in_range,
        )
      ];
      same = c.cut_between.ensures.same ∙ c.contracts.invariant.same;
    }

pub returns-clause-each : goal.returns-clause-each
returns-clause-each c = λ d cut at. (c.contracts.invariant.each d cut at).0

pub returns-clause-kept : goal.returns-clause-kept
returns-clause-kept c = λ d cut at.
    let within = slice_get_within c.contracts.cuts.items d cut at in
    let is = c.contracts.invariant.each d cut at in
    kept-alike c.args.portfolio.now.contracts d c.args.book.now c.args.one c.args.other c.terms-contracts.ensures.linked
    (c.contracts_are_linked.ensures.within_depth d (omega (arith, within, c.contracts.invariant.count, c.contracts.auto.contract-end, ap length c.terms-contracts.ensures.terms))) cut is.0 is.1
