-- A journal that is no more than may be asked can be evaluated as one script.
use Rattle.std.proofs.Common.{◌≡◌, ℕ, zero, suc, ◌+◌, ◌<◌, ◌≤◌, nat_lt, Bool, true, false, List, [], ◌∷◌, length, take, Option, Some, None, count_by, refl, sym, ap, subst, ◌∙◌, arith}
use Rattle.std.specs.List.{All, find, range_with_len}
use Rattle.std.specs.Option.{option_map, option_or}
use Rattle.std.proofs.lemmas.Bool.{ltb-false}
use Rattle.std.proofs.lemmas.List.{take_all}
use Rattle.std.proofs.lemmas.List.Elements.{All-cons, All-nil, All-head, All-tail}
use Rattle.act_audit.specs.Journal.{ask_past, entry_past, first_past, line_at, one_script}
use Rattle.act_audit.specs.Judging.{AreItems, Journal}
use Rattle.act_audit.proofs.Scripts.{script-entries, script_from}
use Rattle.act_model.specs.Asks.{appends}
use Rattle.act_model.specs.Journal.{appends_entry, is_known}
use Rattle.act_model.specs.Limits.{most_entries}
use Rattle.act_model.specs.Names.{NameLists}
use Rattle.act_model.specs.declared.journal.Asked.TheVariants.{All as AskAll, One}
use Rattle.act_model.specs.declared.journal.Item.{Item}
use Rattle.act_model.specs.declared.journal.Line.{Line}
use Rattle.act_model.specs.declared.journal.Step.{Step}
use Rattle.act_model.specs.declared.journal.Step.TheVariants.{Append, Ask}
use Rattle.act_portfolio.specs.Reading.{Accepted}
use Rattle.act_script.specs.Asks.{AsksBelow, is_below}
use Rattle.act_job.specs.Weight.{too_much_asked}
use Rattle.act_eval.specs.Evaluation.{IsEvaluable}

-- ---- the steps

-- what holds of each step of a journal holds of those of its one script
script-all : (P : Step → Type 0) (line : ℕ) (items : List Item) → All (λ (item : Item). P item.step) items → All (λ (l : Line). P l.step) (script_from line items)
script-all P line [] all = All-nil (λ (l : Line). P l.step)
script-all P line (item ∷ items) all =
    All-cons (λ (l : Line). P l.step) (record { step = item.step; line = line }) (script_from (line + 1) items) (All-head (λ (i : Item). P i.step) item items all)
    (script-all P (line + 1) items (All-tail (λ (i : Item). P i.step) item items all))

known-below : (names : NameLists) (step : Step) → is_known names step ≡ true → is_below (length names.contracts) step ≡ true
known-below names (Append entry) known = refl
known-below names (Ask AskAll) known = refl
known-below names (Ask (One contract)) known = known

-- the asks are for contracts of the portfolio
pub asks-below : (portfolio : Accepted) (names : NameLists) (items : List Item) → AreItems names items → names.contracts ≡ portfolio.names.contracts → AsksBelow (length portfolio.names.contracts) (one_script items)
asks-below portfolio names items are same =
    subst (λ (ids : List (List ℕ)). AsksBelow (length ids) (one_script items)) same
    (script-all (λ step. is_below (length names.contracts) step ≡ true) 2 items (λ k d within. known-below names _ (are.known k d within)))

-- ---- the limits

find-false : (p : ℕ → Bool) (a n : ℕ) → find p (range_with_len a n) ≡ None → (j : ℕ) → j < n → p (a + j) ≡ false
find-false p a zero none j less = absurd (omega (arith, less))
find-false p a (suc n) none j less = by (p a) refl none j less (λ left k within. find-false p (a + 1) n left k within)
  where
    by : (here : Bool) → p a ≡ here → find p (range_with_len a (suc n)) ≡ None → (j : ℕ) → j < suc n → (find p (range_with_len (a + 1) n) ≡ None → (k : ℕ) → k < n → p (a + 1 + k) ≡ false) → p (a + j) ≡ false
    by true is found j less rest = absurd (let h : Some a ≡ None = rw is at found in cc)
    by false is found zero less rest = subst (λ (n : ℕ). p n ≡ false) (omega arith) is
    by false is found (suc j) less rest = subst (λ (n : ℕ). p n ≡ false) (omega arith) (rest (rw is at found) j (omega (arith, less)))

none-or : {A : Type 0} (one other : Option A) → option_or one other ≡ None → (one ≡ None) × (other ≡ None)
none-or None other is = (refl, is)
none-or (Some x) other is = absurd (cc)

none-mapped : {A B : Type 0} (f : A → B) (o : Option A) → option_map f o ≡ None → o ≡ None
none-mapped f None is = refl
none-mapped f (Some x) is = absurd (cc)

-- the book has room for all entries
entries-fit : (items : List Item) → entry_past items ≡ None → count_by appends items ≤ most_entries
entries-fit [] none = omega arith
entries-fit (item ∷ items) none =
    let all = item ∷ items in
    let n = length items in
    let unfound = none-mapped line_at (find (λ place. nat_lt most_entries (count_by appends (take (place + 1) all))) (range_with_len 0 (length all))) none in
    let last = find-false (λ place. nat_lt most_entries (count_by appends (take (place + 1) all))) 0 (length all) unfound n (omega arith) in
    omega (arith, ltb-false most_entries (count_by appends (take (0 + n + 1) all)) last, ap (count_by appends) (take_all (0 + n + 1) all (omega arith)))

-- it can be evaluated
ready : (portfolio : Accepted) (names : NameLists) (items : List Item) → AreItems names items → names.contracts ≡ portfolio.names.contracts → first_past portfolio items ≡ None → IsEvaluable portfolio names (one_script items)
ready portfolio names items are same within =
    let none = none-or (entry_past items) (ask_past portfolio items) within in
    record {
      contracts = same;
      known = script-all (λ step. is_known names step ≡ true) 2 items are.known;
      entries = script-all (λ step. appends_entry step ≡ true) 2 items are.entries;
      few = omega (arith, script-entries 2 items, entries-fit items none.0);
      light = none-mapped (λ (ask : ℕ × ℕ). ask.1) (too_much_asked portfolio (one_script items ∷ [])) none.1;
    }

-- the same of what is equal to these
pub ready-of : (portfolio : Accepted) (journal : Journal) (names : NameLists) (items given : List Item) (lines : List Line) → ◌≡◌ {A = Journal} (record { items = items; names = names }) journal → given ≡ items → lines ≡ one_script given
    → first_past portfolio journal.items ≡ None → AreItems journal.names journal.items → journal.names.contracts ≡ portfolio.names.contracts → IsEvaluable portfolio names lines
ready-of portfolio journal names items given lines is given-is lines-are within are same =
    let all : lines ≡ one_script journal.items = lines-are ∙ ap one_script (given-is ∙ ap (λ (j : Journal). j.items) is) in
    let one = subst (λ (ls : List Line). IsEvaluable portfolio journal.names ls) (sym all) (ready portfolio journal.names journal.items are same within) in
    subst (λ (j : Journal). IsEvaluable portfolio j.names lines) (sym is) one
