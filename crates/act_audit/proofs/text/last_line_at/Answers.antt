use Rattle.std.proofs.Common.{◌≡◌, ℕ, ◌-◌, suc, get_or, take, sym, subst, ◌∙◌, arith}
use Rattle.std.proofs.lemmas.Bool.{eq-eqb}
use Rattle.act_audit.specs.Text.{last_line_at}
use Rattle.act_audit.proofs.LastLines.{at-feed, no-feed, no-such-byte, one-byte}
use Rattle.act_audit.proofs.text.last_line_at.Goals as goal

pub bytes-preserved : goal.bytes-preserved
bytes-preserved c =
    let bytes = c.args.bytes.now in
    let before = c.bytes.at - 1 in
    let here : suc before ≡ c.bytes.at = omega (arith, c.bytes-test.true) in
    record {
      within = omega (arith, c.bytes.invariant.within);
      same = c.bytes.invariant.same ∙ subst (λ (n : ℕ). last_line_at (take (suc n) bytes) ≡ last_line_at (take (suc before) bytes)) here
          (no-feed bytes before 0 (omega (arith, c.bytes.invariant.within, c.bytes-test.true)) (no-such-byte (get_or bytes before 0) c.if-bytes-at-ne10.true));
    }

pub returns-else-bytes-at-ne10-clause-place : goal.returns-else-bytes-at-ne10-clause-place
returns-else-bytes-at-ne10-clause-place c =
    let bytes = c.args.bytes.now in
    let before = c.bytes.at - 1 in
    let here : suc before ≡ c.bytes.at = omega (arith, c.bytes-test.true) in
    subst (λ (n : ℕ). n ≡ last_line_at bytes) here (sym (c.bytes.invariant.same ∙ subst (λ (n : ℕ). last_line_at (take (suc n) bytes) ≡ suc before) here
    (at-feed bytes before 0 (omega (arith, c.bytes.invariant.within, c.bytes-test.true)) (eq-eqb (get_or bytes before 0) 10 c.if-bytes-at-ne10.false))))

pub returns-after-bytes-clause-place : goal.returns-after-bytes-clause-place
returns-after-bytes-clause-place c =
    let bytes = c.args.bytes.now in
    let none : c.bytes.at ≡ 0 = omega (arith, c.bytes-test.false) in
    none ∙ sym (c.bytes.invariant.same ∙ subst (λ (n : ℕ). last_line_at (take (suc n) bytes) ≡ 0) (sym none) (one-byte bytes))
