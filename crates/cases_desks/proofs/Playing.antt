-- A caller plays on after a call of a desk.
use Rattle.std.proofs.Common.{◌≡◌, ℕ, ◌+◌, ◌<◌, ◌≤◌, false, length, get_or, List, Ok, Err, refl, sym, ap, subst, ◌∙◌, arith}
use Rattle.std.specs.Prelude.{Result}
use Rattle.std.proofs.lemmas.Option.{get_or_from_slice_get}
use Rattle.act_model.specs.declared.journal.Asked.{Asked}
use Rattle.act_model.specs.declared.observed.Obs.{Obs}
use Rattle.act_num.specs.declared.NoMemory.{NoMemory}
use Rattle.act_accepted.specs.Accepted.{Accepted}
use Rattle.act_turn.specs.Standing.{AreNumbered, IsFree, Standing, first_standing}
use Rattle.act_history.specs.History.{History, and_then, is_leave_by}
use Rattle.act_history.specs.declared.mark.Mark.{Mark}
use Rattle.act_history.specs.declared.mark.Mark.TheVariants as mark
use Rattle.act_keeping.specs.Work.{Work}
use Rattle.act_board.specs.Entries.{list_of}
use Rattle.act_board.specs.declared.history.Entry.{Entry}
use Rattle.act_board.specs.declared.outcome.AppendFault.{AppendFault}
use Rattle.act_board.specs.declared.outcome.AskFault.{AskFault}
use Rattle.act_board.specs.declared.outcome.Claim.{Claim}
use Rattle.act_board.specs.declared.outcome.Collected.{Collected}
use Rattle.act_board.specs.declared.outcome.Collected.TheVariants as collected
use Rattle.act_desk.specs.Calls.{Appends, Asks, ClaimsOrNot, CollectsOrNot, Finishes, GivesUp}
use Rattle.act_desk.specs.Desk.{Desk}
use Rattle.act_desk.specs.Making.{HasWatched}
use Rattle.act_desk.specs.Step.{IsStep, opening}
use Rattle.act_desk.proofs.Goes.{GoesOnBeside}
use Rattle.act_desk.proofs.Own.{Counts, counts-append, counts-ask, counts-collect, present-next, stepped}
use Rattle.act_desk.proofs.Stays.{asks-stay, collects-stay, names-stay, present-stays}
use Rattle.act_desk.proofs.Watching.{watched-append, watched-ask, watched-beside, watched-claim, watched-finish, watched-free, watched-give_up, watched-given_up, watched-no_memory, watched-not_yet}
use Rattle.cases_desks.specs.Caller.{IsFirst, IsThere, Plays, asked_of, had_of}

-- a pass is free after a call
pub step-free : (desk : Desk) (Call : History → History → Type 0) (old new : Standing Entry) → IsFree desk.id old → IsStep old Call new → IsFree desk.id new
step-free desk Call old new free is = (ap (λ (p : Standing Entry). p.turn) is.pass ∙ free.0, ap (λ (p : Standing Entry). p.holds) is.pass ∙ free.1)

-- a caller stays there while others go on
there-stays : (of : Accepted) (k count : ℕ) (history found : History) → GoesOnBeside k history found → IsThere of k count history → IsThere of k count found
there-stays of k count history found goes is =
    let asks = ap length (asks-stay k history found goes) in
    let collects = collects-stay k history found goes in
    (names-stay k history found goes ∙ is.0, present-stays k history found goes is.1, omega (arith, is.2, asks, collects))

-- and after a mark of its own
there-next : (of : Accepted) (k count next asked had : ℕ) (history : History) (m : Mark) → is_leave_by k m ≡ false → Counts history m k asked had → next + had ≡ count + asked
    → IsThere of k count history → IsThere of k next (and_then history m)
there-next of k count next asked had history m stays counts sum is =
    (is.0, present-next k history m stays is.1, omega (arith, is.2, counts.made, counts.had, sum))

module _ (desk : Desk) (old new : Standing Entry) (k count : ℕ) (plays : Plays desk old k count) where
  -- where the pass has only watched
  pub plays-watched : HasWatched old new → Plays desk new k count
  plays-watched is = record {
    free = watched-free old new desk.id is plays.free;
    number_is = is.number ∙ plays.number_is;
    seen = record {
      history = is.history;
      seen = is.seen;
      holds = there-stays desk.portfolio k count plays.seen.history is.history
          (watched-beside old new k plays.number_is plays.seen.history plays.seen.seen is) plays.seen.holds;
    };
  }

  pub plays-claim : (answer : Result Claim NoMemory) → IsStep old (ClaimsOrNot answer) new → Plays desk new k count
  plays-claim answer is = plays-watched (watched-claim k old new plays.number_is plays.seen.history plays.seen.seen answer is)

  pub plays-finish : (work : Work) → IsStep old (Finishes work) new → Plays desk new k count
  plays-finish work is = plays-watched (watched-finish k old new plays.number_is plays.seen.history plays.seen.seen work is)

  pub plays-give_up : IsStep old GivesUp new → Plays desk new k count
  plays-give_up is = plays-watched (watched-give_up k old new plays.number_is plays.seen.history plays.seen.seen is)

  -- where the call has added a mark of the caller's own
  plays-marked : (after : ℕ) (m : Mark) (asked had : ℕ) (Call : History → History → Type 0) → after + had ≡ count + asked
      → is_leave_by k m ≡ false → ((h : History) → Counts h m k asked had) → ((f t : History) → Call f t → t ≡ and_then f m) → IsStep old Call new → Plays desk new k after
  plays-marked after m asked had Call sum stays counts marks is =
      let next = stepped k plays.seen.history Call old new plays.number_is plays.seen.seen is in
      let there = there-next desk.portfolio k count after asked had next.found m stays (counts next.found) sum
      (there-stays desk.portfolio k count plays.seen.history next.found next.others plays.seen.holds) in
      record {
        free = step-free desk Call old new plays.free is;
        number_is = ap (λ (p : Standing Entry). p.number) is.pass ∙ plays.number_is;
        seen = record {
          history = next.after;
          seen = next.seen;
          holds = subst (λ (h : History). IsThere desk.portfolio k after h) (sym (marks next.found next.after next.call)) there;
        };
      }

  pub plays-append : (entry : Obs) (answer : Result ℕ AppendFault) → IsStep old (Appends k entry answer) new → Plays desk new k count
  plays-append entry (Ok version) is =
      plays-marked count (mark.Append k entry) 0 0 (Appends k entry (Ok version)) refl refl (λ h. counts-append k h entry) (λ f t call. call.appended) is
  plays-append entry (Err fault) is =
      plays-watched (watched-append k old new plays.number_is plays.seen.history plays.seen.seen entry fault is)

  -- with another number that is the same
  alike : (after : ℕ) → count ≡ after → Plays desk new k count → Plays desk new k after
  alike after same is = subst (λ (n : ℕ). Plays desk new k n) same is

  pub plays-ask : (after : ℕ) (asked : Asked) (answer : Result ℕ AskFault) → after ≡ count + asked_of answer → IsStep old (Asks k asked answer) new → Plays desk new k after
  plays-ask after asked (Ok number) sum is =
      plays-marked after (mark.Ask k asked) 1 0 (Asks k asked (Ok number)) (omega (arith, sum)) refl (λ h. counts-ask k h asked) (λ f t call. call.taken) is
  plays-ask after asked (Err fault) sum is =
      alike after (omega (arith, sum)) (plays-watched (watched-ask k old new plays.number_is plays.seen.history plays.seen.seen asked fault is))

  pub plays-collect : (after : ℕ) (answer : Result Collected NoMemory) → after + had_of answer ≡ count → IsStep old (CollectsOrNot k answer) new → Plays desk new k after
  plays-collect after (Ok (collected.Ready reply)) sum is =
      plays-marked after (mark.Collect k) 0 1 (CollectsOrNot k (Ok (collected.Ready reply))) (omega (arith, sum)) refl
      (λ h. counts-collect k h) (λ f t call. call.collected.5) is
  plays-collect after (Ok collected.NotYet) sum is =
      alike after (omega (arith, sum)) (plays-watched (watched-not_yet k old new plays.number_is plays.seen.history plays.seen.seen is))
  plays-collect after (Ok collected.GivenUp) sum is =
      alike after (omega (arith, sum)) (plays-watched (watched-given_up k old new plays.number_is plays.seen.history plays.seen.seen is))
  plays-collect after (Err fault) sum is =
      alike after (omega (arith, sum)) (plays-watched (watched-no_memory k old new plays.number_is plays.seen.history plays.seen.seen fault is))

-- the pass of a desk that hasn't had a turn
pub first-pass : (desk : Desk) (of : Accepted) (quotas : List ℕ) (passes : List (Standing Entry)) (pass : Standing Entry) (i : ℕ) → desk.portfolio ≡ of → i < length passes
    → AreNumbered desk.id (list_of (opening of quotas)) passes → pass ≡ get_or passes i pass → IsFirst desk (length quotas) (i + 1) pass
first-pass desk of quotas passes pass i same within numbered at =
    let first = first_standing desk.id (i + 1) (list_of (opening of quotas)) in
    let is : pass ≡ first = at ∙ get_or_from_slice_get passes i first pass (numbered i within) in
    record {
      free = (ap (λ (p : Standing Entry). p.turn) is, ap (λ (p : Standing Entry). p.holds) is);
      number_is = ap (λ (p : Standing Entry). p.number) is;
      from = omega arith;
      seen = (quotas, refl, ap (λ (p : Standing Entry). p.seen) is ∙ ap (λ (a : Accepted). list_of (opening a quotas)) (sym same));
    }

-- and its caller
pub first-plays : (desk : Desk) (callers number count : ℕ) (pass : Standing Entry) → IsFirst desk callers number pass → number ≤ callers → count ≡ 0 → Plays desk pass number count
first-plays desk callers number count pass is within none = record {
  free = is.free;
  number_is = is.number_is;
  seen = record {
    history = opening desk.portfolio is.seen.0;
    seen = is.seen.2;
    holds = (refl, record { from = is.from; to = omega (arith, within, is.seen.1); here = refl }, omega (arith, none));
  };
}
