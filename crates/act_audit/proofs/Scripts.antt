-- The steps of a journal as one script.
use Rattle.std.proofs.Common.{◌≡◌, ℕ, ◌+◌, ◌<◌, ◌≤◌, cond, count_by, List, [], ◌∷◌, ◌++◌, drop, get_or, length, map, refl, sym, ap, subst, ◌∙◌, append_assoc, arith}
use Rattle.std.specs.List.{enumerate_from}
use Rattle.std.proofs.lemmas.List.{append-nil}
use Rattle.std.proofs.lemmas.List.Sums.{sum_by-cons}
use Rattle.act_audit.specs.Journal.{one_script}
use Rattle.act_model.specs.Asks.{appends}
use Rattle.act_model.specs.Journal.{is_append}
use Rattle.act_model.specs.declared.journal.Item.{Item}
use Rattle.act_model.specs.declared.journal.Line.{Line}
use Rattle.act_engine.proofs.Lists.{drop-next, drop-past}

-- the lines of items from a line on
abbrev pub script_from : ℕ → List Item → List Line
script_from line items = map (λ (at : ℕ × Item). record { step = at.1.step; line = at.0 }) (enumerate_from line items)

-- an item more
pub script-more : (items : List Item) (lines : List Line) (k : ℕ) (x : Item) → k < length items → x ≡ get_or items k x → lines ++ script_from (k + 2) (drop k items) ≡ one_script items
    → (lines ++ record { step = x.step; line = k + 2 } ∷ []) ++ script_from ((k + 1) + 2) (drop (k + 1) items) ≡ one_script items
script-more items lines k x within is before =
    let next : (k + 2) + 1 ≡ (k + 1) + 2 = omega arith in
    append_assoc lines (record { step = x.step; line = k + 2 } ∷ []) (script_from ((k + 1) + 2) (drop (k + 1) items))
    ∙ (ap (λ (n : ℕ). lines ++ record { step = x.step; line = k + 2 } ∷ script_from n (drop (k + 1) items)) (sym next)
    ∙ (ap (λ (rest : List Item). lines ++ script_from (k + 2) rest) (sym (drop-next items k x within is)) ∙ before))

-- no item is left
pub script-all : (items : List Item) (lines : List Line) (k : ℕ) → length items ≤ k → lines ++ script_from (k + 2) (drop k items) ≡ one_script items → lines ≡ one_script items
script-all items lines k past before = sym (append-nil lines) ∙ subst (λ (rest : List Item). lines ++ script_from (k + 2) rest ≡ one_script items) (drop-past items k past) before

-- it appends as many entries as the journal
pub script-entries : (line : ℕ) (items : List Item) → count_by (λ (l : Line). is_append l.step) (script_from line items) ≡ count_by appends items
script-entries line [] = refl
script-entries line (item ∷ items) =
    omega (
      arith,
      sum_by-cons (λ (l : Line). cond (is_append l.step) 1 0) (record { step = item.step; line = line }) (script_from (line + 1) items),
      sum_by-cons (λ (i : Item). cond (appends i) 1 0) item items,
      script-entries (line + 1) items,
    )
