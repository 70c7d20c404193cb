-- The right text of a journal.
use Rattle.std.proofs.Common.{◌≡◌, ℕ, ◌==◌, ◌&&◌, if◌then◌else◌, Bool, true, false, List, [], ◌∷◌, Some, Result, Ok, Err, IfOk, refl, sym, ap, arith}
use Rattle.std.proofs.lemmas.Bool.{eqb-true}
use Rattle.std.proofs.lemmas.Option.{same_Some}
use Rattle.act_audit.specs.Journal.{as_one_caller, is_of_one_caller, right_text}
use Rattle.act_engine.specs.Writing.{IsProperPart}
use Rattle.act_io.specs.Page.{Page, written_on}
use Rattle.act_model.specs.Names.{NameLists}
use Rattle.act_model.specs.declared.journal.Item.{Item}
use Rattle.act_portfolio.specs.Reading.{Accepted}
use Rattle.act_eval.specs.Evaluation.{eval_text}
use Rattle.act_transcript.specs.Text.{output_of}

both : (a b : Bool) → (a && b) ≡ true → (a ≡ true) × (b ≡ true)
both true b is = (refl, is)
both false b is = absurd (cc)

-- a journal of the one caller
pub same-steps : (items : List Item) → is_of_one_caller items ≡ true → as_one_caller items ≡ items
same-steps [] all = refl
same-steps (item ∷ items) all =
    let of = both (item.caller == 1) (is_of_one_caller items) all in
    let first : ◌≡◌ {A = Item} (record { caller = 1; step = item.step }) item = ap (λ (c : ℕ). record { caller = c; step = item.step }) (sym (eqb-true item.caller 1 of.0)) in
    rw (same-steps items of.1) (ap (λ (i : Item). i ∷ items) first)

-- the right text of the one caller's journal
pub alone-is : (portfolio : Accepted) (names : NameLists) (items : List Item) (with_work : Bool) → is_of_one_caller items ≡ true
    → (if with_work then eval_text portfolio names items else output_of portfolio names items) ≡ right_text portfolio names items with_work
alone-is portfolio names items true one = rw one refl
alone-is portfolio names items false one = refl

-- and that of several callers
pub several-is : (portfolio : Accepted) (names : NameLists) (items : List Item) (with_work : Bool) → is_of_one_caller items ≡ false → output_of portfolio names items ≡ right_text portfolio names items with_work
several-is portfolio names items true several = rw several refl
several-is portfolio names items false several = refl

-- what holds whatever was answered
pub whatever : {A E : Type 0} (result : Result A E) (P : Type 0) → P → IfOk result (λ _. P)
whatever (Ok answer) P holds = holds
whatever (Err fault) P holds = tt

-- ---- sheets

-- what is seen of a sheet
abbrev pub on_sheet : List ℕ → Page
on_sheet bytes = record { written = Some bytes; faults = 0 }

-- it never fails
pub never-fails : (text before after : List ℕ) → IsProperPart text (on_sheet before) (on_sheet after) → ⊥
never-fails text before after part = let never : ◌≡◌ {A = ℕ} 0 1 = ap (λ (page : Page). page.faults) part.put in omega arith

-- a text that was written whole on an empty one
pub sheet-whole : (bytes text : List ℕ) → on_sheet bytes ≡ written_on (on_sheet []) text → bytes ≡ text
sheet-whole bytes text put = same_Some bytes text (ap (λ (page : Page). page.written) put)
