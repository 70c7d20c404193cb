use Rattle.std.proofs.Common.{◌≡◌, ◌+◌, ◌-◌, ◌≤◌, ℕ, List, [], ◌∷◌, ◌++◌, map, take, sym, ap, subst, ◌∙◌, arith}
use Rattle.std.specs.Arc.{arc_value}
use Rattle.std.specs.List.{range_with_len}
use Rattle.std.specs.declared.alloc.Global.{Global}
use Rattle.std.specs.declared.sync.Arc.{Arc}
use Rattle.std.proofs.lemmas.List.{map_push}
use Rattle.std.proofs.lemmas.List.FromFn.{map-range_with_len_more}
use Rattle.act_model.specs.Run.{Stream}
use Rattle.act_profile.specs.Run.{run_of}
use Rattle.act_history.specs.History.{History, entries_of}
use Rattle.act_keeping.specs.Keeping.{answered, numbered}
use Rattle.act_board.proofs.claiming.results_of.Goals as goal

-- one contract more
answered-next : (history : History) (v first c : ℕ) → first ≤ c → answered history v first (c + 1) ≡ answered history v first c ++ (c, run_of history.portfolio.contracts (take v (entries_of history)) c) ∷ []
answered-next history v first c from =
    let one : ℕ → ℕ × Stream = λ k. (k, run_of history.portfolio.contracts (take v (entries_of history)) k) in
    let count : (c + 1) - first ≡ (c - first) + 1 = omega arith in
    ap (λ (n : ℕ). map one (range_with_len first n)) count ∙ map-range_with_len_more one first (c - first) c (omega arith)

pub loop-contract-preserved : goal.loop-contract-preserved
loop-contract-preserved c = record {
  order = omega (arith, c.loop-contract.invariant.order);
  runs = λ history keeps.
      let k = c.loop-contract.contract in
      let runs = c.loop-contract.runs.items in
      let run = c.in_ok-run.run' in
      let items : c.push.new.self.items ≡ runs ++ (k, run) ∷ [] = c.in_ok-push.ensures.items in
      ap numbered items
      ∙ (map_push (λ (r : ℕ × Arc Stream Global). (r.0, arc_value r.1)) runs (k, run)
      ∙ (ap (λ (rs : List (ℕ × Stream)). rs ++ (k, arc_value run) ∷ []) (c.loop-contract.invariant.runs history keeps)
      ∙ (ap (λ (r : Stream). answered history c.args.version c.args.first k ++ (k, r) ∷ []) (c.in_ok-run.ensures.run history keeps).0
      ∙ sym (answered-next history c.args.version c.args.first k c.loop-contract.invariant.order))));
}

pub returns : goal.returns
returns c = record {
  runs = λ history keeps.
      let all : c.loop-contract.contract ≡ c.args.end = omega (arith, c.loop-contract-test.false, c.loop-contract.auto.contract-end c.requires.order) in
      subst (λ (k : ℕ). numbered c.loop-contract.runs.items ≡ answered history c.args.version c.args.first k) all (c.loop-contract.invariant.runs history keeps);
}
