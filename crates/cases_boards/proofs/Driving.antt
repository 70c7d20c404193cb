-- What is known of a board that is driven still is after its calls.
use Rattle.std.proofs.Common.{◌≡◌, ◌≢◌, ◌⊎◌, ℕ, suc, ◌<◌, ◌≤◌, ◌||◌, if◌then◌else◌, Bool, true, false, List, [], ◌∷◌, ◌++◌, length, take, set, Option, Some, None, IfSome, Result, Ok, Err, IfOk, IfErr, inl, inr, refl, sym, ap, subst, ◌∙◌, arith}
use Rattle.std.specs.List.{All, filter_map, list_any, slice_get}
use Rattle.std.specs.List.Sorted.{IsPermutation}
use Rattle.std.specs.Option.{IfNone}
use Rattle.std.proofs.lemmas.Bool.{cases_Bool, ne_eqb, true≢false}
use Rattle.std.proofs.lemmas.Bool.Decides.{eqb_tells}
use Rattle.std.proofs.lemmas.List.{length-set, length-take, take-append-le}
use Rattle.std.proofs.lemmas.List.Elements.{All-head, All-push, All-tail, All-weaker, filter_map-append}
use Rattle.std.proofs.lemmas.List.Folds.{list_any-append}
use Rattle.std.proofs.lemmas.List.Sorted.{All-permutation}
use Rattle.std.proofs.lemmas.Option.{same_Some, slice_get_within}
use Rattle.act_model.specs.Journal.{book_of, entry_of}
use Rattle.act_model.specs.declared.journal.Item.{Item}
use Rattle.act_model.specs.declared.observed.Obs.{Obs}
use Rattle.act_portfolio.specs.Reading.{Accepted}
use Rattle.act_board.specs.Calls.{Claims, Collects, IsOf, after_finish, after_give_up}
use Rattle.act_history.specs.History.{History, and_then, entries_of, is_claimed, is_give_up, is_given_up, is_leave_by, item_of, journal_of}
use Rattle.act_keeping.specs.Work.{Work, version}
use Rattle.act_history.specs.declared.mark.Mark.{Mark}
use Rattle.act_history.specs.declared.mark.Mark.TheVariants as mark
use Rattle.act_board.specs.declared.outcome.Claim.{Claim}
use Rattle.act_board.specs.declared.outcome.Claim.TheVariants as claim
use Rattle.act_board.specs.declared.outcome.Collected.{Collected}
use Rattle.act_board.specs.declared.outcome.Collected.TheVariants as collected
use Rattle.act_history.proofs.Going.{any-not, any-yes}
use Rattle.act_history.proofs.Places.{get-set, get-set_other}
use Rattle.cases_boards.specs.Driven.{IsDriven}

-- work of a board's first entries is such work after a mark
pub of-next : (history : History) (mark : Mark) (work : Work) → IsOf history work → IsOf (and_then history mark) work
of-next history mark work is = record {
  portfolio = is.portfolio;
  entries = is.entries ∙ (sym (take-append-le (version work) (entries_of history) more few) ∙ ap (take (version work)) (sym longer));
}
  where
    more : List Obs
    more = book_of (filter_map item_of (mark ∷ []))

    longer : entries_of (and_then history mark) ≡ entries_of history ++ more
    longer = ap book_of (filter_map-append item_of history.marks (mark ∷ [])) ∙ filter_map-append (λ (item : Item). entry_of item.step) (journal_of history) (filter_map item_of (mark ∷ []))

    few : version work ≤ length (entries_of history)
    few = omega (arith, ap (λ (xs : List Obs). length xs) is.entries, length-take (version work) (entries_of history))

all-next : (history : History) (mark : Mark) (held : List Work) → All (IsOf history) held → All (IsOf (and_then history mark)) held
all-next history mark held all = All-weaker (IsOf history) (IsOf (and_then history mark)) (of-next history mark) held all

-- a mark by which nobody leaves
pub driven-next : (history : History) (mark : Mark) (of : Accepted) (gone : List Bool) (held : List Work) (gave_up : Bool) → ((i : ℕ) → is_leave_by i mark ≡ false)
    → IsDriven history of gone held gave_up → IsDriven (and_then history mark) of gone held gave_up
driven-next history mark of gone held gave_up stays is = record {
  portfolio = is.portfolio;
  count = is.count;
  here = λ k there. any-not (is_leave_by (suc k)) history.marks mark (stays (suc k)) ∙ is.here k there;
  tasks = all-next history mark held is.tasks;
  given_up = λ so. list_any-append is_give_up history.marks (mark ∷ []) ∙ ap (λ (b : Bool). b || list_any is_give_up (mark ∷ [])) (is.given_up so);
}

-- ---- after a call of a board

-- a call that adds a mark by which nobody leaves, or refuses
pub driven-told : {A E : Type 0} (r : Result A E) (mark : Mark) (old new : History) (of : Accepted) (gone : List Bool) (held : List Work) (gave_up : Bool) → ((i : ℕ) → is_leave_by i mark ≡ false)
    → IfOk r (λ _. new ≡ and_then old mark) → IfErr r (λ _. new ≡ old) → IsDriven old of gone held gave_up → IsDriven new of gone held gave_up
driven-told (Ok a) mark old new of gone held gave_up stays ok err is = subst (λ (h : History). IsDriven h of gone held gave_up) (sym ok) (driven-next old mark of gone held gave_up stays is)
driven-told (Err e) mark old new of gone held gave_up stays ok err is = subst (λ (h : History). IsDriven h of gone held gave_up) (sym err) is

-- a call that changes nothing
pub driven-same : (old new : History) (of : Accepted) (gone : List Bool) (held : List Work) (gave_up : Bool) → new ≡ old → IsDriven old of gone held gave_up → IsDriven new of gone held gave_up
driven-same old new of gone held gave_up same is = subst (λ (h : History). IsDriven h of gone held gave_up) (sym same) is

-- a claim
pub driven-claims : (told : Claim) (old new : History) (of : Accepted) (gone : List Bool) (held : List Work) (gave_up : Bool) → Claims old told new → IsDriven old of gone held gave_up → IsDriven new of gone held gave_up
driven-claims (claim.Task work) old new of gone held gave_up claims is =
    driven-same (and_then old (mark.Claim work.contract (version work))) new of gone held gave_up claims.3 (driven-next old (mark.Claim work.contract (version work)) of gone held gave_up (λ i. refl) is)
driven-claims claim.Idle old new of gone held gave_up claims is = driven-same old new of gone held gave_up claims.3 is
driven-claims claim.Ended old new of gone held gave_up claims is = driven-same old new of gone held gave_up claims.2 is
driven-claims claim.GivenUp old new of gone held gave_up claims is = driven-same old new of gone held gave_up claims.1 is

-- a claim of a task that is at hand from then on
pub driven-claimed : (work : Work) (old new : History) (of : Accepted) (gone : List Bool) (held : List Work) (gave_up : Bool) → Claims old (claim.Task work) new → IsDriven old of gone held gave_up
    → IsDriven new of gone (held ++ work ∷ []) gave_up
driven-claimed work old new of gone held gave_up claims is = record {
  portfolio = next.portfolio;
  count = next.count;
  here = next.here;
  tasks = All-push (IsOf new) held work next.tasks (subst (λ (h : History). IsOf h work) (sym claims.3) (of-next old (mark.Claim work.contract (version work)) work claims.1));
  given_up = next.given_up;
}
  where
    next : IsDriven new of gone held gave_up
    next = driven-claims (claim.Task work) old new of gone held gave_up claims is

-- a collect
pub driven-collects : (told : Collected) (caller : ℕ) (old new : History) (of : Accepted) (gone : List Bool) (held : List Work) (gave_up : Bool) → Collects old caller told new → IsDriven old of gone held gave_up
    → IsDriven new of gone held gave_up
driven-collects (collected.Ready answer) caller old new of gone held gave_up collects is =
    driven-same (and_then old (mark.Collect caller)) new of gone held gave_up collects.5 (driven-next old (mark.Collect caller) of gone held gave_up (λ i. refl) is)
driven-collects collected.NotYet caller old new of gone held gave_up collects is = driven-same old new of gone held gave_up collects.4 is
driven-collects collected.GivenUp caller old new of gone held gave_up collects is = driven-same old new of gone held gave_up collects.1 is

-- with fewer tasks at hand
pub driven-fewer : (history : History) (of : Accepted) (gone : List Bool) (held rest : List Work) (work : Work) (gave_up : Bool) → IsPermutation held (work ∷ rest) → IsDriven history of gone held gave_up
    → IsDriven history of gone rest gave_up × IsOf history work
driven-fewer history of gone held rest work gave_up same is = (
  record {
    portfolio = is.portfolio;
    count = is.count;
    here = is.here;
    tasks = All-tail (IsOf history) work rest all;
    given_up = is.given_up;
  },
  All-head (IsOf history) work rest all,
)
  where
    all : All (IsOf history) (work ∷ rest)
    all = All-permutation (IsOf history) held (work ∷ rest) same is.tasks

-- a task that comes back
pub driven-finished : (history : History) (c v : ℕ) (of : Accepted) (gone : List Bool) (held : List Work) (gave_up : Bool) → IsDriven history of gone held gave_up → IsDriven (after_finish history c v) of gone held gave_up
driven-finished history c v of gone held gave_up is =
    elim (is_claimed history c v) as (λ b. IsDriven (if b then and_then history (mark.Finish c v) else history) of gone held gave_up) [
      | true ↦ driven-next history (mark.Finish c v) of gone held gave_up (λ i. refl) is
      | false ↦ is
    ]

-- somebody gives up
pub driven-given-up : (history : History) (of : Accepted) (gone : List Bool) (held : List Work) (gave_up : Bool) → IsDriven history of gone held gave_up → IsDriven (after_give_up history) of gone held true
driven-given-up history of gone held gave_up is = elim (cases_Bool (is_given_up history)) [
  | inl so ↦ subst (λ (b : Bool). IsDriven (if b then history else and_then history mark.GiveUp) of gone held true) (sym so) (record {
    portfolio = is.portfolio;
    count = is.count;
    here = is.here;
    tasks = is.tasks;
    given_up = λ _. so;
  })
  | inr not ↦ subst (λ (b : Bool). IsDriven (if b then history else and_then history mark.GiveUp) of gone held true) (sym not) (record {
    portfolio = is.portfolio;
    count = is.count;
    here = next.here;
    tasks = next.tasks;
    given_up = λ _. any-yes is_give_up history.marks mark.GiveUp refl;
  })
]
  where
    next : IsDriven (and_then history mark.GiveUp) of gone held gave_up
    next = driven-next history mark.GiveUp of gone held gave_up (λ i. refl) is

-- a caller leaves
pub driven-left : (history : History) (place : ℕ) (of : Accepted) (gone : List Bool) (held : List Work) (gave_up : Bool) → IsDriven history of gone held gave_up
    → IsDriven (and_then history (mark.Leave (suc place))) of (set gone place true) held gave_up
driven-left history place of gone held gave_up is = record {
  portfolio = is.portfolio;
  count = length-set gone place true ∙ is.count;
  here = λ k there. elim (cases_eqb place k) [
    | inl same ↦ absurd (gone-there k there same)
    | inr differ ↦ any-not (is_leave_by (suc k)) history.marks (mark.Leave (suc place)) (ne_eqb (suc place) (suc k) (λ e. differ (omega (arith, e)))) ∙ is.here k (sym (get-set_other gone place k true (λ e. differ (sym e))) ∙ there)
  ];
  tasks = all-next history (mark.Leave (suc place)) held is.tasks;
  given_up = λ so. list_any-append is_give_up history.marks (mark.Leave (suc place) ∷ []) ∙ ap (λ (b : Bool). b || list_any is_give_up (mark.Leave (suc place) ∷ [])) (is.given_up so);
}
  where
    gone-there : (k : ℕ) → slice_get (set gone place true) k ≡ Some false → place ≡ k → ⊥
    gone-there k there same = true≢false (same_Some true false (sym (get-set gone place true within) ∙ (ap (λ (j : ℕ). slice_get (set gone place true) j) same ∙ there)))
      where
        within : place < length gone
        within = omega (arith, same, slice_get_within (set gone place true) k false there, length-set gone place true)

    cases_eqb : (a b : ℕ) → (a ≡ b) ⊎ (a ≢ b)
    cases_eqb a b = elim (eqb_tells a b) [ inl same ↦ inl same.1 | inr differ ↦ inr differ.1 ]

-- a collect that answers or lacks memory
pub driven-collect : {E : Type 0} (r : Result Collected E) (caller : ℕ) (old new : History) (of : Accepted) (gone : List Bool) (held : List Work) (gave_up : Bool)
    → IfOk r (λ told. Collects old caller told new) → IfErr r (λ _. new ≡ old) → IsDriven old of gone held gave_up → IsDriven new of gone held gave_up
driven-collect (Ok told) caller old new of gone held gave_up ok err is = driven-collects told caller old new of gone held gave_up ok is
driven-collect (Err e) caller old new of gone held gave_up ok err is = driven-same old new of gone held gave_up err is

-- a task, if there is one, is no longer at hand
pub driven-without : {P : Type 0} (taken : Option Work) (history : History) (of : Accepted) (gone : List Bool) (held rest : List Work) (gave_up : Bool) → IfSome taken (λ work. IsPermutation held (work ∷ rest))
    → IfNone taken P → (P → rest ≡ held) → IsDriven history of gone held gave_up → IsDriven history of gone rest gave_up
driven-without (Some work) history of gone held rest gave_up same none back is = (driven-fewer history of gone held rest work gave_up same is).0
driven-without None history of gone held rest gave_up same none back is = subst (λ (xs : List Work). IsDriven history of gone xs gave_up) (sym (back none)) is

-- work over no entries, of the portfolio
pub of-none : (history : History) (of : Accepted) (gone : List Bool) (held : List Work) (gave_up : Bool) (work : Work) → work.portfolio ≡ of → work.entries ≡ [] → IsDriven history of gone held gave_up
    → IsOf history work
of-none history of gone held gave_up work same none is = record {
  portfolio = same ∙ sym is.portfolio;
  entries = none ∙ sym (ap (λ (xs : List Obs). take (length xs) (entries_of history)) none);
}
