-- Events in order, and those whose days count: all that stand behind one.
use Rattle.std.proofs.Common.{◌≡◌, ◌&&◌, not, true, false, ℤ, int_lt, List, [], ◌∷◌, drop, drop-drop, Option, Some, None, inl, inr, refl, sym, ap, subst, ◌∙◌, arith}
use Rattle.std.proofs.lemmas.Bool.{cases_Bool}
use Rattle.std.proofs.lemmas.Bool.Decides.{nat_tests}
use Rattle.std.proofs.lemmas.Int.{ints}
use Rattle.std.specs.List.{filter, prefix_len}
use Rattle.act_kind.proofs.InOrder.{in_order-ascends}
use Rattle.act_kind.proofs.StableOrder.{Ascends, NoneBefore}
use Rattle.act_model.specs.Kind.{exchange_of}
use Rattle.act_model.specs.declared.event.Event.{Event}
use Rattle.act_model.specs.declared.terms.Kind.{Kind}
use Rattle.act_profile.specs.Order.{counts, counting, ends, in_order, is_before_exchange, precedes, up_to_end}

counts-by : (status : ℤ) (exchange : Option ℤ) (a b : Event) → precedes b a ≡ false → int_lt status a.day && not (is_before_exchange status exchange a.day) ≡ true
    → int_lt status b.day && not (is_before_exchange status exchange b.day) ≡ true
counts-by status None a b order is = grind (arith, ints, nat_tests)
counts-by status (Some exchange) a b order is = grind (arith, ints, nat_tests)

module _ (status : ℤ) (kind : Kind) where
  -- behind an event that counts all count
  all-count : (x : Event) (xs : List Event) → counts status kind x.day ≡ true → NoneBefore precedes x xs → filter (λ e. counts status kind e.day) xs ≡ xs
  all-count x [] is behind = refl
  all-count x (y ∷ ys) is behind = rw (counts-by status (exchange_of kind) x y behind.0 is) (ap (λ (zs : List Event). y ∷ zs) (all-count x ys is behind.1))

  late-count : (xs : List Event) → Ascends precedes xs → filter (λ e. counts status kind e.day) xs ≡ drop (prefix_len (λ e. not (counts status kind e.day)) xs) xs
  late-count [] up = refl
  late-count (x ∷ xs) up =
      elim (cases_Bool (counts status kind x.day)) [
        | inl is ↦ rw is (ap (λ (zs : List Event). x ∷ zs) (all-count x xs is up.0))
        | inr fails ↦ rw fails (late-count xs up.1 ∙ drop-drop (prefix_len (λ e. not (counts status kind e.day)) xs) 1 (x ∷ xs))
      ]

  none-before-end : (x : Event) (xs : List Event) → NoneBefore precedes x xs → NoneBefore precedes x (up_to_end kind xs)
  unfolding up_to_end
  none-before-end x [] none = tt
  none-before-end x (y ∷ ys) none =
      elim (cases_Bool (ends kind y)) [
        | inl is ↦ rw is (none.0, tt)
        | inr fails ↦ rw fails (none.0, none-before-end x ys none.1)
      ]

  ascends-to-end : (xs : List Event) → Ascends precedes xs → Ascends precedes (up_to_end kind xs)
  unfolding up_to_end
  ascends-to-end [] up = tt
  ascends-to-end (x ∷ xs) up =
      elim (cases_Bool (ends kind x)) [
        | inl is ↦ rw is (tt, tt)
        | inr fails ↦ rw fails (none-before-end x xs up.0, ascends-to-end xs up.1)
      ]

  -- of events in order, up to the one that ends the contract, those behind the first that counts
  pub counted-from : (events until : List Event) → in_order events ≡ events → until ≡ up_to_end kind events
      → drop (prefix_len (λ e. not (counts status kind e.day)) until) until ≡ counting status kind events
  counted-from events until is same =
      let up = subst (Ascends precedes) is (in_order-ascends events) in
      rw same (sym (late-count (up_to_end kind events) (ascends-to-end events up)))
