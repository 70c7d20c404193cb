-- Lines one behind the other, and where they end.
use Rattle.std.proofs.Common.{◌≡◌, ℕ, zero, suc, ◌+◌, ◌<◌, ◌≤◌, List, [], ◌∷◌, ◌++◌, length, map, take, drop, Some, unwrap_or, refl, sym, ap, ap₂, ◌∙◌, arith}
use Rattle.std.proofs.Math.Seq.{take-append_seam}
use Rattle.std.proofs.lemmas.List.{append-nil, length-append, length-map, length-take, length-take-le, take-append-drop, take-map, take_more}
use Rattle.std.proofs.lemmas.List.Folds.{flat_map-map}
use Rattle.std.proofs.lemmas.Grind.{flat_map-append}
use Rattle.std.proofs.lemmas.Option.{get_or_from_slice_get, slice_get_within}
use Rattle.std.proofs.lemmas.Simd.{map-map}
use Rattle.std.specs.List.{flat_map, slice_get}
use Rattle.act_model.specs.Names.{NameLists}
use Rattle.act_model.specs.Run.{Cells, cells_of}
use Rattle.act_model.specs.declared.run.Row.{Row}
use Rattle.act_text.specs.Kept.{AreLines, ArePrintedAlike, ends_of, start_at}
use Rattle.act_text.specs.Lines.{cells_text, row_text}

-- as many ends as lines
pub length_ends : (begin : ℕ) (lines : List (List ℕ)) → length (ends_of begin lines) ≡ length lines
length_ends begin [] = refl
length_ends begin (line ∷ lines) = ap suc (length_ends (begin + length line) lines)

-- the first ends are those of the first lines
pub take_ends : (k begin : ℕ) (lines : List (List ℕ)) → take k (ends_of begin lines) ≡ ends_of begin (take k lines)
take_ends zero begin lines = refl
take_ends (suc k) begin [] = refl
take_ends (suc k) begin (line ∷ lines) = ap (λ ends. (begin + length line) ∷ ends) (take_ends k (begin + length line) lines)

module _ {A : Type 0} (f : A → List ℕ) where
  -- one line more ends at the text's end
  pub ends_more : (begin : ℕ) (xs : List A) (x : A) → ends_of begin (map f (xs ++ x ∷ [])) ≡ ends_of begin (map f xs) ++ (begin + length (flat_map f (xs ++ x ∷ []))) ∷ []
  ends_more begin [] x = ap (λ end. end ∷ []) (ap (λ n. begin + n) (sym (ap length (append-nil (f x)))))
  ends_more begin (y ∷ xs) x = ap (λ ends. (begin + length (f y)) ∷ ends)
      (ends_more (begin + length (f y)) xs x ∙ ap (λ end. ends_of (begin + length (f y)) (map f xs) ++ end ∷ []) (omega (arith, length-append (f y) (flat_map f (xs ++ x ∷ [])))))

  -- where the line at a place ends
  pub end_at : (begin : ℕ) (xs : List A) (k : ℕ) → k < length xs → slice_get (ends_of begin (map f xs)) k ≡ Some (begin + length (flat_map f (take (suc k) xs)))
  end_at begin [] k within = absurd (omega (arith, within))
  end_at begin (x ∷ xs) zero within = ap (λ n. Some (begin + n)) (sym (ap length (append-nil (f x))))
  end_at begin (x ∷ xs) (suc k) within =
      end_at (begin + length (f x)) xs k (omega (arith, within)) ∙ ap Some (omega (arith, length-append (f x) (flat_map f (take (suc k) xs))))

  pub first_end : (xs : List A) (k : ℕ) → k < length xs → slice_get (ends_of 0 (map f xs)) k ≡ Some (length (flat_map f (take (suc k) xs)))
  first_end xs k within = end_at 0 xs k within ∙ ap Some (omega arith)

  -- the text of the first lines
  pub front : (xs : List A) (k : ℕ) → take (length (flat_map f (take k xs))) (flat_map f xs) ≡ flat_map f (take k xs)
  front xs k =
      let first = flat_map f (take k xs) in
      ap (take (length first)) (ap (flat_map f) (sym (take-append-drop k xs)) ∙ flat_map-append f (take k xs) (drop k xs))
      ∙ take-append_seam first (flat_map f (drop k xs))

  -- where the line at a place begins
  pub begin_at : (xs : List A) (k : ℕ) → k ≤ length xs → start_at (ends_of 0 (map f xs)) k ≡ Some (length (flat_map f (take k xs)))
  begin_at xs zero within = refl
  begin_at xs (suc k) within = first_end xs k (omega (arith, within))

  module _ (xs : List A) (text ends : List ℕ) (together : text ≡ flat_map f xs) (each : ends ≡ ends_of 0 (map f xs)) (k start : ℕ) (starts : start_at ends k ≡ Some start) where
    pub starts_at : k ≤ length xs → start ≡ length (flat_map f (take k xs))
    starts_at within = ap (λ o. unwrap_or o 0) (sym starts ∙ ap (λ ends. start_at ends k) each ∙ begin_at xs k within)

    -- the text of the lines before
    pub text_before : k ≤ length xs → take start text ≡ flat_map f (take k xs)
    text_before within = ap (λ n. take n text) (starts_at within) ∙ ap (take (length (flat_map f (take k xs)))) together ∙ front xs k

-- rows of which each is printed as the other at its place have the same text
pub same_text : (names : NameLists) (one other : List Row) → ArePrintedAlike one other → flat_map (row_text names) one ≡ flat_map (row_text names) other
same_text names one other alike =
    sym (flat_map-map (λ line. line) (row_text names) one) ∙ ap (flat_map (λ line. line)) (alike names) ∙ flat_map-map (λ line. line) (row_text names) other

-- one row more
pub one_more : (rows : List Row) (k : ℕ) (row : Row) → slice_get rows k ≡ Some row → take (k + 1) rows ≡ take k rows ++ row ∷ []
one_more rows k row there =
    take_more rows k row (slice_get_within rows k row there) ∙ ap (λ row. take k rows ++ row ∷ []) (get_or_from_slice_get rows k row row there)

-- the line of cells
abbrev line : NameLists → Cells → List ℕ
line names cells = cells_text names cells.day cells.kind cells.currency cells.payoff cells.notional cells.rate cells.interest

-- rows of which the same is printed
pub printed_alike : (one other : List Row) → map cells_of one ≡ map cells_of other → ArePrintedAlike one other
printed_alike one other same = λ names. sym (map-map (line names) cells_of one) ∙ ap (map (line names)) same ∙ map-map (line names) cells_of other

-- as many lines as rows
pub length_lines : (names : NameLists) (rows : List Row) (text ends : List ℕ) → AreLines names rows text ends → length ends ≡ length rows
length_lines names rows text ends are = ap length are.each ∙ length_ends 0 (map (row_text names) rows) ∙ length-map rows (row_text names)

-- the lines of the first rows, which may be printed as others
pub lines_first : (names : NameLists) (rows others : List Row) (text ends : List ℕ) (same start : ℕ) → AreLines names rows text ends → same ≤ length rows → start_at ends same ≡ Some start
    → ArePrintedAlike (take same rows) (take same others) → AreLines names (take same others) (take start text) (take same ends)
lines_first names rows others text ends same start are within starts alike = record {
  together = text_before (row_text names) rows text ends are.together are.each same start starts within ∙ same_text names (take same rows) (take same others) alike;
  each =
      ap (take same) are.each
      ∙ take_ends same 0 (map (row_text names) rows)
      ∙ ap (ends_of 0) (take-map (row_text names) same rows ∙ alike names);
}

pub lines_kept : (names : NameLists) (rows others : List Row) (text ends text' ends' : List ℕ) (same start : ℕ) → AreLines names rows text ends → same ≤ length rows → start_at ends same ≡ Some start
    → ArePrintedAlike (take same rows) (take same others) → text' ≡ take start text → ends' ≡ take same ends → AreLines names (take (length ends') others) text' ends'
lines_kept names rows others text ends text' ends' same start are within starts alike e e' =
    let first = lines_first names rows others text ends same start are within starts alike in
    let long : length ends' ≡ same = ap length e' ∙ length-take-le same ends (omega (arith, within, length_lines names rows text ends are)) in
    record {
      together = e ∙ first.together ∙ ap (λ n. flat_map (row_text names) (take n others)) (sym long);
      each = e' ∙ first.each ∙ ap (λ n. ends_of 0 (map (row_text names) (take n others))) (sym long);
    }

-- the line of one row more
pub lines_more : (names : NameLists) (rows : List Row) (text ends text' ends' : List ℕ) (row : Row) → AreLines names (take (length ends) rows) text ends → slice_get rows (length ends) ≡ Some row
    → text' ≡ text ++ row_text names row → ends' ≡ ends ++ length text' ∷ [] → AreLines names (take (length ends') rows) text' ends'
lines_more names rows text ends text' ends' row are there e e' =
    let f = row_text names in
    let before = take (length ends) rows in
    let long : length ends' ≡ length ends + 1 = ap length e' ∙ length-append ends (length text' ∷ []) in
    let more : take (length ends') rows ≡ before ++ row ∷ [] = ap (λ n. take n rows) long ∙ one_more rows (length ends) row there in
    let whole : text' ≡ flat_map f (before ++ row ∷ []) =
    e ∙ ap (λ text. text ++ f row) are.together ∙ ap (λ line. flat_map f before ++ line) (sym (append-nil (f row))) ∙ sym (flat_map-append f before (row ∷ [])) in
    record {
      together = whole ∙ ap (flat_map f) (sym more);
      each =
          e' ∙ ap₂ (λ ends end. ends ++ end ∷ []) are.each (ap length whole ∙ omega arith)
          ∙ sym (ends_more f 0 before row)
          ∙ ap (λ rows. ends_of 0 (map f rows)) (sym more);
    }

-- where a line begins, there is text up to there
pub start_within : (names : NameLists) (rows : List Row) (text ends : List ℕ) (same start : ℕ) → AreLines names rows text ends → same ≤ length rows → start_at ends same ≡ Some start → start ≤ length text
start_within names rows text ends same start are within starts =
    let f = row_text names in
    let long = starts_at f rows text ends are.together are.each same start starts within in
    let before = text_before f rows text ends are.together are.each same start starts within in
    omega (arith, long, ap length before, length-take start text)
