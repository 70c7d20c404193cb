use Rattle.std.proofs.Common.{◌≡◌, ◌+◌, ℕ, List, [], ◌∷◌, ◌++◌, length, inl, inr, refl, sym, ap, subst, ◌∙◌, get_or}
use Rattle.std.specs.List.{slice_get}
use Rattle.std.proofs.lemmas.List.{length_push}
use Rattle.std.proofs.lemmas.Option.{same_Some, slice_get-get_or}
use Rattle.act_keeping.specs.Keeping.{IsNewcomer}
use Rattle.act_keeping.specs.declared.caller.Caller.{Caller}
use Rattle.act_history.proofs.Places.{get-push_cases}
use Rattle.act_keeping.proofs.caller.callers_of.Goals as goal

pub loop-quota-preserved : goal.loop-quota-preserved
loop-quota-preserved c =
    let i = c.loop-quota.quota-index in
    let quotas = c.args.quotas.now in
    let one : Caller = record { left = _; remaining = _; asked = _; open_asks = c.new.result } in
    let items : c.push.new.self.items ≡ c.loop-quota.callers.items ++ one ∷ [] = c.in_ok-push.ensures.items in
    record {
      count = ap length items ∙ (length_push c.loop-quota.callers.items one ∙ ap (λ (n : ℕ). n + 1) c.loop-quota.invariant.count);
      each = λ k quota caller at_quota at. elim (get-push_cases c.loop-quota.callers.items one caller k (sym (ap (λ (xs : List Caller). slice_get xs k) items) ∙ at)) [
        | inl old ↦ c.loop-quota.invariant.each k quota caller at_quota old.1
        | inr new ↦
            let here : k ≡ i = new.0 ∙ c.loop-quota.invariant.count in
            let same : quota ≡ get_or quotas i 0 = same_Some quota (get_or quotas i 0) (sym at_quota ∙ (ap (λ (n : ℕ). slice_get quotas n) here ∙ slice_get-get_or quotas i 0 c.loop-quota-test.true)) in
            subst (IsNewcomer quota) new.1 (record { here = refl; whole = sym same; silent = refl; none = c.new.ensures.items })
      ];
    }
