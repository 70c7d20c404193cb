-- Rows whose rests, levels and longer numbers stand apart.
use Rattle.std.proofs.Common.{◌≡◌, ℕ, ◌+◌, ◌<◌, ◌≤◌, Bool, true, false, ◌&&◌, List, [], ◌∷◌, ◌++◌, length, map, take, drop, get_or, slice_get, Option, None, Some, ◌⊎◌, inl, inr, Result, Ok, Err, OnErr, refl, sym, ap, ap₂, subst, ◌∙◌, arith, int_eq}
use Rattle.std.proofs.lemmas.Bool.Decides.{Decides-int_eq}
use Rattle.std.proofs.lemmas.List.{append-nil, get_or_append_left, length-append, take-append-drop}
use Rattle.std.proofs.lemmas.List.Elements.{All-head, All-more, All-tail}
use Rattle.std.proofs.lemmas.Option.{get_or_from_slice_get, slice_get_within}
use Rattle.std.specs.List.{All}
use Rattle.std.specs.Option.{option_eq}
use Rattle.std.specs.Prelude.{ℤ}
use Rattle.act_model.specs.Chunk.{BeginsWith, FitsIn, HasParts, IsAtMost, StaysIn, full_numbers, full_row, level_at, level_of, no_level, no_numbers, no_rest, numbers_in, numbers_of, rest_of, row_of, short_of}
use Rattle.act_model.specs.Run.{row_with}
use Rattle.act_model.specs.declared.run.RowHead.{RowHead}
use Rattle.act_model.specs.declared.shared.Counts.{Counts}
use Rattle.act_model.specs.declared.numbers.Level.{Level}
use Rattle.act_model.specs.declared.shared.Rest.{Rest}
use Rattle.act_model.specs.declared.shared.Shared.{Shared}
use Rattle.act_model.specs.declared.numbers.Short.{Short}
use Rattle.act_model.specs.declared.shared.Slim.{Slim}
use Rattle.act_model.specs.declared.state.State.{State}

-- both are true
pub both : (a b : Bool) → (a && b) ≡ true → (a ≡ true) × (b ≡ true)
both true b e = (refl, e)
both false b e = cc

same_day : (a b : Option ℤ) → option_eq int_eq a b ≡ true → a ≡ b
same_day None None e = refl
same_day None (Some b) e = cc
same_day (Some a) None e = cc
same_day (Some a) (Some b) e = ap Some ((Decides-int_eq a b).0 e)

-- what holds anyhow holds where there is an error
pub on_err : {T E : Type 0} (r : Result T E) (P : Type 0) → P → OnErr r P
on_err (Ok x) P p = tt
on_err (Err e) P p = p

-- rests that are found equal
pub same_rest : (a b : Rest)
    → (option_eq int_eq a.md b.md && option_eq int_eq a.xd b.xd && int_eq a.ipnr2 b.ipnr2 && int_eq a.ipac2 b.ipac2 && int_eq a.nsc b.nsc && int_eq a.isc b.isc && int_eq a.prnxt b.prnxt && int_eq a.xa b.xa) ≡ true
    → a ≡ b
same_rest a b e =
    let up_to_xa = both _ _ e in
    let up_to_prnxt = both _ _ up_to_xa.0 in
    let up_to_isc = both _ _ up_to_prnxt.0 in
    let up_to_nsc = both _ _ up_to_isc.0 in
    let up_to_ipac2 = both _ _ up_to_nsc.0 in
    let up_to_ipnr2 = both _ _ up_to_ipac2.0 in
    let up_to_xd = both _ _ up_to_ipnr2.0 in
    let md : a.md ≡ b.md = same_day _ _ up_to_xd.0 in
    let xd : a.xd ≡ b.xd = same_day _ _ up_to_xd.1 in
    let ipnr2 : a.ipnr2 ≡ b.ipnr2 = (Decides-int_eq _ _).0 up_to_ipnr2.1 in
    let ipac2 : a.ipac2 ≡ b.ipac2 = (Decides-int_eq _ _).0 up_to_ipac2.1 in
    let nsc : a.nsc ≡ b.nsc = (Decides-int_eq _ _).0 up_to_nsc.1 in
    let isc : a.isc ≡ b.isc = (Decides-int_eq _ _).0 up_to_isc.1 in
    let prnxt : a.prnxt ≡ b.prnxt = (Decides-int_eq _ _).0 up_to_prnxt.1 in
    let xa : a.xa ≡ b.xa = (Decides-int_eq _ _).0 up_to_xa.1 in
    let one : Rest = record { md = a.md; xd = a.xd; ipnr2 = a.ipnr2; ipac2 = a.ipac2; nsc = a.nsc; isc = a.isc; prnxt = a.prnxt; xa = a.xa } in
    let other : Rest = record { md = b.md; xd = b.xd; ipnr2 = b.ipnr2; ipac2 = b.ipac2; nsc = b.nsc; isc = b.isc; prnxt = b.prnxt; xa = b.xa } in
    let same : one ≡ other = simp (md, xd, ipnr2, ipac2, nsc, isc, prnxt, xa) refl in
    same

-- ---- what is there stays

same_list : {X : Type 0} (xs xs' : List X) → xs' ≡ xs → BeginsWith xs' xs
same_list xs xs' same = ([], same ∙ sym (append-nil xs))

-- a list, and maybe one more
pub maybe_more : {X : Type 0} (xs xs' : List X) (x : X) → (xs' ≡ xs) ⊎ (xs' ≡ xs ++ x ∷ []) → BeginsWith xs' xs
maybe_more xs xs' x others = elim others [
  | inl same ↦ same_list xs xs' same
  | inr more ↦ (x ∷ [], more)
]

not_fewer : {X : Type 0} (xs xs' : List X) → BeginsWith xs' xs → length xs ≤ length xs'
not_fewer xs xs' more = omega (arith, ap length more.1, length-append xs more.0)

-- what stands at a place stands there still
same_at : {X : Type 0} (xs xs' : List X) (d : X) (k : ℕ) → BeginsWith xs' xs → k < length xs → get_or xs' k d ≡ get_or xs k d
same_at xs xs' d k more within = ap (λ xs. get_or xs k d) more.1 ∙ get_or_append_left xs more.0 d k within

-- where what is shared stays, the rows do
module _ (shared shared' : Shared) (stays : StaysIn shared shared') where
  pub still_has : (slim : Slim) → HasParts shared slim → HasParts shared' slim
  still_has slim has = record {
    rest = omega (arith, has.rest, not_fewer _ _ stays.rests);
    level = omega (arith, has.level, not_fewer _ _ stays.levels);
    long = omega (arith, has.long, not_fewer _ _ stays.long);
  }

  same_numbers : (slim : Slim) → HasParts shared slim → full_numbers shared' slim ≡ full_numbers shared slim
  same_numbers slim has =
      let level = same_at shared.levels.items shared'.levels.items no_level slim.level stays.levels has.level in
      let short = numbers_in (short_of (level_at shared slim) slim) in
      let within : slim.long < length (short ∷ shared.long.items) = omega (arith, has.long) in
      ap (λ level. get_or (numbers_in (short_of level slim) ∷ shared'.long.items) slim.long no_numbers) level
      ∙ same_at (short ∷ shared.long.items) (short ∷ shared'.long.items) no_numbers slim.long (stays.long.0, ap (λ long. short ∷ long) stays.long.1) within

  same_row : (slim : Slim) → HasParts shared slim → full_row shared' slim ≡ full_row shared slim
  same_row slim has =
      let rest = same_at shared.rests.items shared'.rests.items no_rest slim.rest stays.rests has.rest in
      let level : level_at shared' slim ≡ level_at shared slim = same_at shared.levels.items shared'.levels.items no_level slim.level stays.levels has.level in
      ap (λ rest. row_of rest (level_at shared' slim).currency (full_numbers shared' slim) slim) rest
      ∙ ap₂ (λ (level : Level) numbers. row_of (get_or shared.rests.items slim.rest no_rest) level.currency numbers slim) level (same_numbers slim has)

  pub same_rows : (slims : List Slim) → All (HasParts shared) slims → map (full_row shared') slims ≡ map (full_row shared) slims
  same_rows [] have = refl
  same_rows (slim ∷ slims) have =
      ap₂ (λ row rows. row ∷ rows) (same_row slim (All-head (HasParts shared) slim slims have)) (same_rows slims (All-tail (HasParts shared) slim slims have))

  pub have_still : (slims : List Slim) → All (HasParts shared) slims → All (HasParts shared') slims
  have_still slims have = λ k d here. still_has _ (have k d here)

-- ---- a row that is added

-- its parts stand at their places
module _ (shared : Shared) (slim : Slim) (short : Short) (head : RowHead) (state : State)
    (rest : slice_get shared.rests.items slim.rest ≡ Some (rest_of state))
    (level : slice_get shared.levels.items slim.level ≡ Some (level_of short head.currency)) where
  pub parts_there : slim.long ≤ length shared.long.items → HasParts shared slim
  parts_there within = record {
    rest = slice_get_within shared.rests.items slim.rest (rest_of state) rest;
    level = slice_get_within shared.levels.items slim.level (level_of short head.currency) level;
    long = within;
  }

  level_there : level_at shared slim ≡ level_of short head.currency
  level_there = get_or_from_slice_get shared.levels.items slim.level (level_of short head.currency) no_level level

  pub numbers_there : slim.payoff ≡ short.payoff → slim.ipac ≡ short.ipac → get_or (numbers_in short ∷ shared.long.items) slim.long no_numbers ≡ numbers_of head state → full_numbers shared slim ≡ numbers_of head state
  numbers_there payoff ipac numbers =
      let same : numbers_in (short_of (level_at shared slim) slim) ≡ numbers_in short = simp (level_there, payoff, ipac) refl in
      ap (λ own. get_or (own ∷ shared.long.items) slim.long no_numbers) same ∙ numbers

  pub row_there : full_numbers shared slim ≡ numbers_of head state → row_of (rest_of state) head.currency (numbers_of head state) slim ≡ row_with head state → full_row shared slim ≡ row_with head state
  row_there numbers is =
      ap (λ rest. row_of rest (level_at shared slim).currency (full_numbers shared slim) slim) (get_or_from_slice_get shared.rests.items slim.rest (rest_of state) no_rest rest)
      ∙ ap₂ (λ (level : Level) numbers. row_of (rest_of state) level.currency numbers slim) level_there numbers
      ∙ is

-- ---- how many of each are needed

fits_more : (few many : Counts) (slim : Slim) → IsAtMost few many → FitsIn few slim → FitsIn many slim
fits_more few many slim more fits = record {
  rest = omega (arith, fits.rest, more.rests);
  level = omega (arith, fits.level, more.levels);
  long = omega (arith, fits.long, more.long);
}

-- rows one more
pub fit_more : (slims : List Slim) (k : ℕ) (slim : Slim) (few many : Counts) → k < length slims → slim ≡ get_or slims k slim → All (FitsIn few) (take k slims) → IsAtMost few many → FitsIn many slim → All (FitsIn many) (take (k + 1) slims)
fit_more slims k slim few many within is fit more fits =
    All-more (FitsIn many) slims k slim within (λ n d below. fits_more few many _ more (fit n d below)) (subst (FitsIn many) is fits)

-- a front of a list
pub front : {X : Type 0} (xs xs' : List X) (n : ℕ) → xs' ≡ take n xs → BeginsWith xs xs'
front xs xs' n is = (drop n xs, sym (take-append-drop n xs) ∙ ap (λ front. front ++ drop n xs) (sym is))
