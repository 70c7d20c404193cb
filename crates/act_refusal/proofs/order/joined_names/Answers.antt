use Rattle.std.proofs.Common.{◌≡◌, ◌++◌, [], unwrap_or, slice_get, inl, inr, ap, ◌∙◌, arith}
use Rattle.act_refusal.proofs.Joined.{next_joined}
use Rattle.act_refusal.proofs.order.joined_names.Goals as goal
use Rattle.act_refusal.proofs.order.joined_names.Goals.{then-place-gt0+in_ok-push, else-place-gt0}

pub loop-place-preserved : goal.loop-place-preserved
loop-place-preserved c =
    let is : c.extend_from_slice.new.self.items ≡ c.if-place-gt0.joined.items ++ c.name_of.result.now = c.in_ok-extend_from_slice.ensures.items ∙ ap (λ l. c.if-place-gt0.joined.items ++ l) c.as_bytes.ensures.value in
    let next = next_joined 32 (λ n. unwrap_or (slice_get c.args.names.now.contracts n) []) c.args.contracts.now c.loop-place.place c.loop-place.joined.items c.if-place-gt0.joined.items c.extend_from_slice.new.self.items c.name_of.result.now
    c.loop-place-test.true c.loop-place.invariant c.name_of.ensures is in
    elim c.if-place-gt0.branch [
      | then-place-gt0+in_ok-push w ↦ next (inl (omega arith, ap (λ v. v.items) w.joined-is ∙ w.in_ok-push.ensures.items))
      | else-place-gt0 w ↦ next (inr (omega arith, ap (λ v. v.items) w.joined-is))
    ]
