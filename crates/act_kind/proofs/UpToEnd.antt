-- The events up to the first that ends the contract, event by event.
use Rattle.std.proofs.Common.{◌≡◌, ℕ, ◌+◌, ◌<◌, ◌≤◌, true, false, List, [], ◌∷◌, ◌++◌, length, take, drop, get_or, refl, sym, ap, ◌∙◌, append_assoc, append-nil}
use Rattle.std.proofs.Math.Seq.{take-length}
use Rattle.std.proofs.lemmas.List.{drop_all, drop_more, take_all, take_more}
use Rattle.act_model.specs.declared.event.Event.{Event}
use Rattle.act_model.specs.declared.terms.Kind.{Kind}
use Rattle.act_profile.specs.Order.{ends, up_to_end}

-- none of the first k events ends the contract
pub record NoneEnds (kind : Kind) (events : List Event) (k : ℕ) : Type 0 where
  pub is : up_to_end kind events ≡ take k events ++ up_to_end kind (drop k events)

pub none_ends-zero : (kind : Kind) (events : List Event) → NoneEnds kind events 0
none_ends-zero kind events = record { is = refl }

up_to_end-ends : (kind : Kind) (event : Event) (events : List Event) → ends kind event ≡ true → up_to_end kind (event ∷ events) ≡ event ∷ []
unfolding up_to_end
up_to_end-ends kind event events is = rw is refl

up_to_end-goes_on : (kind : Kind) (event : Event) (events : List Event) → ends kind event ≡ false → up_to_end kind (event ∷ events) ≡ event ∷ up_to_end kind events
unfolding up_to_end
up_to_end-goes_on kind event events is = rw is refl

up_to_end-nil : (kind : Kind) → up_to_end kind [] ≡ []
unfolding up_to_end
up_to_end-nil kind = refl

pub none_ends-more : (kind : Kind) (events : List Event) (k : ℕ) (event : Event) → NoneEnds kind events k → k < length events → event ≡ get_or events k event →
    ends kind event ≡ false → NoneEnds kind events (k + 1)
none_ends-more kind events k event none lt here is =
    let left : drop k events ≡ event ∷ drop (k + 1) events = drop_more events k event lt ∙ ap (λ e. e ∷ drop (k + 1) events) (sym here) in
    let front : take (k + 1) events ≡ take k events ++ event ∷ [] = take_more events k event lt ∙ ap (λ e. take k events ++ e ∷ []) (sym here) in
    let rest : up_to_end kind (drop k events) ≡ event ∷ up_to_end kind (drop (k + 1) events) = ap (up_to_end kind) left ∙ up_to_end-goes_on kind event (drop (k + 1) events) is in
    record {
      is = none.is ∙ ap (λ l. take k events ++ l) rest ∙ sym (append_assoc (take k events) (event ∷ []) (up_to_end kind (drop (k + 1) events)))
          ∙ ap (λ l. l ++ up_to_end kind (drop (k + 1) events)) (sym front);
    }

pub one_ends : (kind : Kind) (events : List Event) (k : ℕ) (event : Event) → NoneEnds kind events k → k < length events → event ≡ get_or events k event →
    ends kind event ≡ true → take (k + 1) events ≡ up_to_end kind events
one_ends kind events k event none lt here is =
    let left : drop k events ≡ event ∷ drop (k + 1) events = drop_more events k event lt ∙ ap (λ e. e ∷ drop (k + 1) events) (sym here) in
    let front : take (k + 1) events ≡ take k events ++ event ∷ [] = take_more events k event lt ∙ ap (λ e. take k events ++ e ∷ []) (sym here) in
    let rest : up_to_end kind (drop k events) ≡ event ∷ [] = ap (up_to_end kind) left ∙ up_to_end-ends kind event (drop (k + 1) events) is in
    front ∙ sym (none.is ∙ ap (λ l. take k events ++ l) rest)

pub none_ends-all : (kind : Kind) (events : List Event) (k : ℕ) → NoneEnds kind events k → length events ≤ k → take (length events) events ≡ up_to_end kind events
none_ends-all kind events k none le =
    let rest : up_to_end kind (drop k events) ≡ [] = ap (up_to_end kind) (drop_all k events le) ∙ up_to_end-nil kind in
    take-length events ∙ sym (none.is ∙ ap (λ l. take k events ++ l) rest ∙ append-nil (take k events) ∙ take_all k events le)
