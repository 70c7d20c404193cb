use Rattle.std.proofs.Common.{◌≡◌, drop, length, arith, ℕ, List, ap, sym, ◌∙◌}
use Rattle.std.specs.Prelude.{nat_eq}
use Rattle.std.specs.List.{common_prefix_len}
use Rattle.std.proofs.lemmas.List.Sums.{common_prefix_len-le}
use Rattle.act_audit.proofs.Alike.{alike-behind, alike-front, slice-on}
use Rattle.act_audit.proofs.text.common_len_of.Goals as goal

pub returns-then-same-front-clause-same : goal.returns-then-same-front-clause-same
returns-then-same-front-clause-same c =
    let text = c.args.text.now in
    let front = c.args.front.now in
    c.common_len-same.ensures.same ∙ sym (alike-front text front c.args.rest.now (omega (arith, c.if-same-front.true, c.common_len-same.ensures.same)))

pub returns-else-same-front-clause-same : goal.returns-else-same-front-clause-same
returns-else-same-front-clause-same c =
    let text = c.args.text.now in
    let front = c.args.front.now in
    let all : c.common_len-same.result ≡ length front =
    omega (arith, c.if-same-front.false, c.common_len-same.ensures.same, (common_prefix_len-le nat_eq text front).1) in
    let behind = alike-behind text front c.args.rest.now (omega (arith, all, c.common_len-same.ensures.same)) in
    let here : c.common_len.result ≡ common_prefix_len nat_eq (drop (length front) text) c.args.rest.now =
    c.common_len.ensures.same ∙ ap (λ (t : List ℕ). common_prefix_len nat_eq t c.args.rest.now) (slice-on text c.common_len-same.result c.common_len-same.ensures.within) ∙ ap (λ (n : ℕ). common_prefix_len nat_eq (drop n text) c.args.rest.now) all in
    omega (arith, all, behind, here)
