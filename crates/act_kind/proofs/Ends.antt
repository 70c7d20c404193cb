-- Which events can end a contract.
use Rattle.std.proofs.Common.{◌≡◌, Bool, true, false, ◌&&◌, ◌||◌, List, refl}
use Rattle.std.proofs.lemmas.Map.Views.{any-filter_same}
use Rattle.std.specs.List.{filter, list_any}
use Rattle.act_model.specs.Run.{can_end, may_end}
use Rattle.act_model.specs.declared.event.Event.{Event}
use Rattle.act_model.specs.declared.event.EventType.{EventType}
use Rattle.act_model.specs.declared.event.EventType.TheVariants.{IED, PR, PP, PY, FP, PRD, TD, IP, IPCI, RRF, RR, PRF, IPCB, SC, DV, MD, CE, XD, STD}
use Rattle.act_model.specs.declared.terms.Kind.{Kind}
use Rattle.act_profile.specs.Order.{ends, ends_at_maturity, is_own, is_type, precedes}

-- what ends a contract can end one, type by type
by_type : (own : Bool) (kind : EventType) (b : Bool) → (own && (is_type kind TD || (is_type kind MD && b))) ≡ true → can_end kind ≡ true
by_type false kind b is = cc
by_type true IED b is = is
by_type true PR b is = is
by_type true PP b is = is
by_type true PY b is = is
by_type true FP b is = is
by_type true PRD b is = is
by_type true TD b is = refl
by_type true IP b is = is
by_type true IPCI b is = is
by_type true RRF b is = is
by_type true RR b is = is
by_type true PRF b is = is
by_type true IPCB b is = is
by_type true SC b is = is
by_type true DV b is = is
by_type true MD b is = refl
by_type true CE b is = is
by_type true XD b is = is
by_type true STD b is = is

pub ending : (kind : Kind) (event : Event) → ends kind event ≡ true → may_end event ≡ true
ending kind event is = by_type (is_own event.source) event.kind (ends_at_maturity kind) is

both : (a b : Bool) → (a && b) ≡ true → a ≡ true
both true b is = refl
both false b is = is

-- only those that can end a contract are asked
pub among_ends : (kind : Kind) (purchase : Event) (events : List Event) →
    list_any (λ e. ends kind e && precedes e purchase) (filter may_end events) ≡ list_any (λ e. ends kind e && precedes e purchase) events
among_ends kind purchase events = any-filter_same (λ e. ends kind e && precedes e purchase) may_end true (λ e is. ending kind e (both (ends kind e) (precedes e purchase) is)) events
