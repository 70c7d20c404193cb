use Rattle.std.proofs.Common.{◌≡◌, ℕ, length, Some}
use Rattle.std.specs.List.{slice_get}
use Rattle.act_keeping.specs.Keeping.{IsNewcomer}
use Rattle.act_keeping.specs.declared.caller.Caller.{Caller}
use Rattle.act_keeping.proofs.caller.callers_of.Given as goal

-- one for each of the quotas before this one
abbrev pub invariant-loop-quota : goal.invariant-loop-quota
invariant-loop-quota l = record {
  count : length l.callers.items ≡ l.quota-index;
  each : (k quota : ℕ) (caller : Caller) → slice_get l.quotas k ≡ Some quota → slice_get l.callers.items k ≡ Some caller → IsNewcomer quota caller;
}
