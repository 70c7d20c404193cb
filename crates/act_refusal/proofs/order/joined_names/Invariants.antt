use Rattle.std.proofs.Common.{◌≡◌, [], map, slice_get, take, unwrap_or}
use Rattle.std.specs.List.{join_with_byte}
use Rattle.act_refusal.proofs.order.joined_names.Given as goal

abbrev pub invariant-loop-place : goal.invariant-loop-place
invariant-loop-place l = l.joined.items ≡ join_with_byte 32 (map (λ c. unwrap_or (slice_get l.names.contracts c) []) (take l.place l.contracts))
