-- Rows that are printed alike.
use Rattle.std.proofs.Common.{◌≡◌, ℕ, ◌+◌, ◌<◌, Bool, true, ◌&&◌, int_eq, refl, List, [], ◌∷◌, ◌++◌, length, map, take, get_or, sym, ap, ap₂, ◌∙◌}
use Rattle.std.proofs.lemmas.Bool.Decides.{Decides-int_eq}
use Rattle.std.proofs.lemmas.List.{map_push, take_more}
use Rattle.std.specs.Prelude.{ℤ}
use denote.Enum.Bare.{same_true, sameb}
use Rattle.act_model.specs.Chunk.{full_numbers, full_row, level_at, printed_level, printed_numbers}
use Rattle.act_model.specs.Run.{Cells, HaveSameCells, cells_of}
use Rattle.act_model.specs.contracts.event.EventType.{the_type}
use Rattle.act_model.specs.declared.event.EventType.{EventType}
use Rattle.act_model.specs.declared.shared.Shared.{Shared}
use Rattle.act_model.specs.declared.shared.Slim.{Slim}
use Rattle.act_model.proofs.Slims.{both}

-- what is printed of a row with these
abbrev cells : ℤ → EventType → ℤ × ℤ × ℕ → ℤ × ℤ × ℤ × ℤ → Cells
cells day kind level numbers = record {
  day = day;
  kind = kind;
  currency = level.2;
  payoff = numbers.0;
  notional = numbers.1;
  rate = numbers.2;
  interest = numbers.3;
}

same_cells : (day day' : ℤ) (kind kind' : EventType) (level level' : ℤ × ℤ × ℕ) (numbers numbers' : ℤ × ℤ × ℤ × ℤ) → day ≡ day' → kind ≡ kind' → level ≡ level' → numbers ≡ numbers' → cells day kind level numbers ≡ cells day' kind' level' numbers'
same_cells day day' kind kind' level level' numbers numbers' day-is kind-is level-is numbers-are = simp (day-is, kind-is, level-is, numbers-are) refl

-- what is found equal is printed alike
pub cells_alike : (shared shared' : Shared) (one other : Slim) (day kind level numbers : Bool)
    → day ≡ int_eq one.day other.day
    → kind ≡ sameb the_type one.kind other.kind
    → (level ≡ true → printed_level (level_at shared one) ≡ printed_level (level_at shared' other))
    → (numbers ≡ true → printed_level (level_at shared one) ≡ printed_level (level_at shared' other) → printed_numbers (full_numbers shared one) ≡ printed_numbers (full_numbers shared' other))
    → (((day && kind) && level) && numbers) ≡ true
    → cells_of (full_row shared one) ≡ cells_of (full_row shared' other)
cells_alike shared shared' one other day kind level numbers day-is kind-is level-is numbers-are e =
    let up_to_level = both _ _ e in
    let up_to_kind = both _ _ up_to_level.0 in
    let up_to_day = both _ _ up_to_kind.0 in
    let same_day : one.day ≡ other.day = (Decides-int_eq _ _).0 (sym day-is ∙ up_to_day.0) in
    let same_kind : one.kind ≡ other.kind = same_true the_type tt one.kind other.kind (sym kind-is ∙ up_to_day.1) in
    let same_level = level-is up_to_kind.1 in
    same_cells one.day other.day one.kind other.kind (printed_level (level_at shared one)) (printed_level (level_at shared' other)) (printed_numbers (full_numbers shared one)) (printed_numbers (full_numbers shared' other)) same_day same_kind same_level (numbers-are up_to_level.1 same_level)

-- what is printed of the first rows, and of one more
cells_more : (shared : Shared) (slims : List Slim) (k : ℕ) (slim : Slim) → k < length slims → slim ≡ get_or slims k slim
    → map cells_of (map (full_row shared) (take (k + 1) slims)) ≡ map cells_of (map (full_row shared) (take k slims)) ++ cells_of (full_row shared slim) ∷ []
cells_more shared slims k slim within is =
    ap (λ slims. map cells_of (map (full_row shared) slims)) (take_more slims k slim within ∙ ap (λ slim. take k slims ++ slim ∷ []) (sym is))
    ∙ ap (map cells_of) (map_push (full_row shared) (take k slims) slim)
    ∙ map_push cells_of (map (full_row shared) (take k slims)) (full_row shared slim)

-- rows one more
pub alike_more : (shared shared' : Shared) (ones others : List Slim) (k : ℕ) (a b : Slim) → k < length ones → k < length others → a ≡ get_or ones k a → b ≡ get_or others k b
    → cells_of (full_row shared a) ≡ cells_of (full_row shared' b)
    → HaveSameCells (map (full_row shared) (take k ones)) (map (full_row shared') (take k others))
    → HaveSameCells (map (full_row shared) (take (k + 1) ones)) (map (full_row shared') (take (k + 1) others))
alike_more shared shared' ones others k a b within within' here there same alike =
    cells_more shared ones k a within here
    ∙ ap₂ (λ (front : List Cells) last. front ++ last ∷ []) alike same
    ∙ sym (cells_more shared' others k b within' there)
