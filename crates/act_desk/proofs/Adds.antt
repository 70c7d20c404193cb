-- What the calls of a board add to its history: a mark of the caller's own, or of nobody, or none.
use Rattle.std.proofs.Common.{◌≡◌, ℕ, Bool, true, false, Option, Some, None, Ok, Err, inl, inr, refl, sym, ap, ◌∙◌}
use Rattle.std.specs.Prelude.{Result}
use Rattle.act_model.specs.declared.journal.Asked.{Asked}
use Rattle.act_model.specs.declared.observed.Obs.{Obs}
use Rattle.act_num.specs.declared.NoMemory.{NoMemory}
use Rattle.act_board.specs.Calls.{Claims, Collects}
use Rattle.act_board.specs.Entries.{caller_of}
use Rattle.act_history.specs.History.{History, and_then, is_claimed, is_given_up}
use Rattle.act_keeping.specs.Work.{Work, version}
use Rattle.act_history.specs.declared.mark.Mark.{Mark}
use Rattle.act_history.specs.declared.mark.Mark.TheVariants as mark
use Rattle.act_board.specs.declared.outcome.AppendFault.{AppendFault}
use Rattle.act_board.specs.declared.outcome.AskFault.{AskFault}
use Rattle.act_board.specs.declared.outcome.Claim.{Claim}
use Rattle.act_board.specs.declared.outcome.Claim.TheVariants as claim
use Rattle.act_board.specs.declared.outcome.Collected.{Collected}
use Rattle.act_board.specs.declared.outcome.Collected.TheVariants as collected
use Rattle.act_desk.specs.Calls.{Appends, Asks, ClaimsOrNot, CollectsOrNot, Finishes, GivesUp, Leaves}
use Rattle.act_desk.specs.Step.{and_maybe}
use Rattle.act_desk.proofs.Taken.{Adds}

-- ---- calls that add a mark of nobody, or none

abbrev pub IsNobodys : Option Mark → Type 0
IsNobodys None = Unit {0}
IsNobodys (Some mark) = caller_of mark ≡ None

pub record AddsNobodys (before after : History) : Type 0 where
  pub mark : Option Mark
  pub after_is : after ≡ and_maybe before mark
  pub nobodys : IsNobodys mark

module _ (before after : History) where
  pub adds-none : after ≡ before → AddsNobodys before after
  adds-none same = record { mark = None; after_is = same; nobodys = _ }

  adds-mark : (m : Mark) → caller_of m ≡ None → after ≡ and_then before m → AddsNobodys before after
  adds-mark m nobody is = record { mark = Some m; after_is = is; nobodys = nobody }

  claims : (answer : Claim) → Claims before answer after → AddsNobodys before after
  claims (claim.Task work) is = adds-mark (mark.Claim work.contract (version work)) refl is.3
  claims claim.Idle is = adds-none is.3
  claims claim.Ended is = adds-none is.2
  claims claim.GivenUp is = adds-none is.1

  pub adds-claim : (answer : Result Claim NoMemory) → ClaimsOrNot answer before after → AddsNobodys before after
  adds-claim (Ok answer) is = claims answer is.claimed
  adds-claim (Err fault) is = adds-none is.unchanged

  pub adds-finish : (work : Work) → Finishes work before after → AddsNobodys before after
  adds-finish work is = by (is_claimed before work.contract (version work)) refl
    where
      by : (claimed : Bool) → is_claimed before work.contract (version work) ≡ claimed → AddsNobodys before after
      by true claimed = adds-mark (mark.Finish work.contract (version work)) refl (is ∙ rw claimed refl)
      by false claimed = adds-none (is ∙ rw claimed refl)

  pub adds-give_up : GivesUp before after → AddsNobodys before after
  adds-give_up is = by (is_given_up before) refl
    where
      by : (gave_up : Bool) → is_given_up before ≡ gave_up → AddsNobodys before after
      by true gave_up = adds-none (is ∙ rw gave_up refl)
      by false gave_up = adds-mark mark.GiveUp refl (is ∙ rw gave_up refl)

-- ---- and those of a caller

pub adds-nobodys : {k : ℕ} {before after : History} → AddsNobodys before after → Adds k before after
adds-nobodys {k} {before} {after} is = by is.mark is.after_is is.nobodys
  where
    by : (mark : Option Mark) → after ≡ and_maybe before mark → IsNobodys mark → Adds k before after
    by None same nobodys = record { mark = None; after_is = same; own = _ }
    by (Some m) same nobodys = record { mark = Some m; after_is = same; own = inr nobodys }

module _ {k i : ℕ} {before after : History} (own : k ≡ i) where
  same : after ≡ before → Adds k before after
  same is = adds-nobodys (adds-none before after is)

  adds-own : (m : Mark) → caller_of m ≡ Some i → after ≡ and_then before m → Adds k before after
  adds-own m mine is = record { mark = Some m; after_is = is; own = inl (mine ∙ ap (λ (n : ℕ). Some n) (sym own)) }

  pub adds-append : (entry : Obs) (answer : Result ℕ AppendFault) → Appends i entry answer before after → Adds k before after
  adds-append entry (Ok version) is = adds-own (mark.Append i entry) refl is.appended
  adds-append entry (Err fault) is = same is.unchanged

  pub adds-ask : (asked : Asked) (answer : Result ℕ AskFault) → Asks i asked answer before after → Adds k before after
  adds-ask asked (Ok number) is = adds-own (mark.Ask i asked) refl is.taken
  adds-ask asked (Err fault) is = same is.unchanged

  collects : (answer : Collected) → Collects before i answer after → Adds k before after
  collects (collected.Ready answer) is = adds-own (mark.Collect i) refl is.5
  collects collected.NotYet is = same is.4
  collects collected.GivenUp is = same is.1

  pub adds-collect : (answer : Result Collected NoMemory) → CollectsOrNot i answer before after → Adds k before after
  adds-collect (Ok answer) is = collects answer is.collected
  adds-collect (Err fault) is = same is.unchanged

  pub adds-leave : Leaves i before after → Adds k before after
  adds-leave is = adds-own (mark.Leave i) refl is
