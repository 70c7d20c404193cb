-- How the slot changes, with the turn.
use Rattle.std.proofs.Common.{◌≡◌, ◌≢◌, ℕ, ◌+◌, ◌<◌, List, [], ◌∷◌, ◌++◌, length, set, sym, ap, ◌∙◌, ⊎_elim, inl, inr, Option, Some}
use mathlib.Core.Option.{none, some, some-injective}
use lib.ListN.{get_elem?}
use Rattle.atomic_table.proofs.Lists.{at_set, at_map, at_snoc, at_longer, set_here, set_else}
use Rattle.act_turn.specs.declared.view.Stage.{Stage}
use Rattle.act_turn.specs.declared.view.Stage.TheVariants.{Away, Waits, Has}
use Rattle.act_turn.specs.declared.view.Member.{Member}
use Rattle.act_turn.specs.Turn.{IsQueue, IsTurn, IsOut, IsHome, HasSeenLongest, Homes, Rows, member, ticket_of, tickets_of}
use Rattle.act_turn.proofs.Places.{inside}

-- two views at different stages are two
pub apart : (gs : List Stage) (i j : ℕ) (a b : Stage) → get_elem? gs i ≡ some a → get_elem? gs j ≡ some b → a ≢ b → j ≢ i
apart gs i j a b p q other e = other (some-injective a b (sym p ∙ (ap (get_elem? gs) (sym e) ∙ q)))

module _ {K : Type 0} (served : ℕ) (homes : Homes K) (gs : List Stage) (r : IsTurn served homes gs) where
  -- the view i, which had no ticket, waits for one
  pub waits : (i t : ℕ) → get_elem? gs i ≡ some Away → IsTurn served homes (set gs i (Waits t))
  waits i t at = record {
    alone = λ j u e. r.alone j u (others j u e);
    slot = ⊎_elim (λ (h : IsOut served homes gs). inl (h.0, (h.1.0, set_else gs i h.1.0 (Waits t) (apart gs i h.1.0 Away (Has served) at h.1.1 (λ e. cc e)) ∙ h.1.1)))
        (λ (h : IsHome homes gs). inr (h.0, λ j u e. h.1 j u (others j u e))) r.slot;
  }
    where
      others : (j u : ℕ) → get_elem? (set gs i (Waits t)) j ≡ some (Has u) → get_elem? gs j ≡ some (Has u)
      others j u e = ⊎_elim (λ (h : (j ≡ i) × (Waits t ≡ Has u)). absurd (cc (h.1))) (λ (h : (j ≢ i) × (get_elem? gs j ≡ some (Has u))). h.1) (at_set gs i j (Waits t) (Has u) e)

  module _ (drawn : ℕ) (words : List ℕ) (q : IsQueue served drawn words (tickets_of gs)) where
    -- while the view whose ticket is served waits, no view has its turn
    pub at_home : (i : ℕ) → get_elem? gs i ≡ some (Waits served) → IsHome homes gs
    at_home i at = ⊎_elim (λ (h : IsOut served homes gs).
        let same = q.by_one i h.1.0 served (at_map ticket_of gs i (Waits served) at) (at_map ticket_of gs h.1.0 (Has served) h.1.1) in
        absurd (apart gs i h.1.0 (Waits served) (Has served) at h.1.1 (λ e. cc e) (sym same))) (λ h. h) r.slot

    -- its turn comes, and it takes the slot
    pub comes : (i : ℕ) → get_elem? gs i ≡ some (Waits served) → IsTurn served (set homes 0 none) (set gs i (Has served))
    comes i at = let h = at_home i at in record {
      alone = λ j u e. ⊎_elim (λ (k : (j ≡ i) × (Has served ≡ Has u)). sym (cc (k.1))) (λ (k : (j ≢ i) × (get_elem? gs j ≡ some (Has u))). absurd (h.1 j u k.1)) (at_set gs i j (Has served) (Has u) e);
      slot = inl (ap (λ (hs : Homes K). set hs 0 none) h.0.1, (i, set_here gs i (Has served) (inside gs i (Waits served) at)));
    }

    -- after the view that has its turn has without_turn, no view has it
    pub none_left : (i t : ℕ) → get_elem? gs i ≡ some (Has t) → (j u : ℕ) → get_elem? (set gs i Away) j ≡ some (Has u) → ⊥
    none_left i t at j u e = ⊎_elim (λ (h : (j ≡ i) × (Away ≡ Has u)). cc (h.1))
        (λ (h : (j ≢ i) × (get_elem? gs j ≡ some (Has u))). h.0 (q.by_one j i served (at_map ticket_of gs j (Has u) h.1 ∙ ap (λ (n : ℕ). some (Some n)) (r.alone j u h.1)) (at_map ticket_of gs i (Has t) at ∙ ap (λ (n : ℕ). some (Some n)) (r.alone i t at))))
        (at_set gs i j Away (Has u) e)

    -- the slot is out while a view has its turn
    pub is_out : (i t : ℕ) → get_elem? gs i ≡ some (Has t) → homes ≡ none ∷ []
    is_out i t at = ⊎_elim (λ (h : IsOut served homes gs). h.0) (λ (h : IsHome homes gs). absurd (h.1 i t at)) r.slot

    -- the view that has its turn gives the slot back, with x in it, and has no ticket any more
    pub passes : (i t : ℕ) (x : Option K) → get_elem? gs i ≡ some (Has t) → IsTurn (served + 1) (set homes 0 (some x)) (set gs i Away)
    passes i t x at = let none_has = none_left i t at in record {
      alone = λ j u e. absurd (none_has j u e);
      slot = inr ((x, ap (λ (hs : Homes K). set hs 0 (some x)) (is_out i t at)), none_has);
    }

  -- a view without a ticket comes
  pub enters : IsTurn served homes (gs ++ Away ∷ [])
  enters = record {
    alone = λ j t e. r.alone j t (others j t e);
    slot = ⊎_elim (λ (h : IsOut served homes gs). inl (h.0, (h.1.0, at_longer gs (Away ∷ []) h.1.0 (Has served) h.1.1))) (λ (h : IsHome homes gs). inr (h.0, λ j t e. h.1 j t (others j t e))) r.slot;
  }
    where
      others : (j t : ℕ) → get_elem? (gs ++ Away ∷ []) j ≡ some (Has t) → get_elem? gs j ≡ some (Has t)
      others j t e = ⊎_elim (λ (h : get_elem? gs j ≡ some (Has t)). h) (λ (h : Away ≡ Has t). absurd (cc h)) (at_snoc gs Away (Has t) j e)

-- Who has its turn has seen the longest list
module _ {E : Type 0} (longest : List E) (gs : List Stage) (rows : Rows E) (h : HasSeenLongest longest gs rows) where
  pub still_seen : (i : ℕ) (g : Stage) → ((t : ℕ) → g ≡ Has t → ⊥) → HasSeenLongest longest (set gs i g) rows
  still_seen i g none_has j t e = ⊎_elim (λ (u : (j ≡ i) × (g ≡ Has t)). absurd (none_has t u.1)) (λ (u : (j ≢ i) × (get_elem? gs j ≡ some (Has t))). h j t u.1) (at_set gs i j g (Has t) e)

  pub now_seen : (i k t : ℕ) → i < length rows → HasSeenLongest longest (set gs i (Has t)) (set rows i (member k longest ∷ []))
  now_seen i k t within j u e = ⊎_elim (λ (v : (j ≡ i) × (Has t ≡ Has u)). (k, ap (get_elem? (set rows i (member k longest ∷ []))) v.0 ∙ set_here rows i (member k longest ∷ []) within))
      (λ (v : (j ≢ i) × (get_elem? gs j ≡ some (Has u))). let w = h j u v.1 in (w.0, set_else rows i j (member k longest ∷ []) v.0 ∙ w.1)) (at_set gs i j (Has t) (Has u) e)

  pub seen_beside : (xs : List (Member E)) → HasSeenLongest longest (gs ++ Away ∷ []) (rows ++ xs ∷ [])
  seen_beside xs j t e = ⊎_elim (λ (u : get_elem? gs j ≡ some (Has t)). let w = h j t u in (w.0, at_longer rows (xs ∷ []) j (member w.0 longest ∷ []) w.1)) (λ (u : Away ≡ Has t). absurd (cc u)) (at_snoc gs Away (Has t) j e)

  pub seen_elsewhere : (i j : ℕ) (xs ys : List (Member E)) → get_elem? gs i ≡ some Away → get_elem? gs j ≡ some Away → HasSeenLongest longest gs (set (set rows i xs) j ys)
  seen_elsewhere i j xs ys p q m t e = let w = h m t e in
      (w.0, set_else (set rows i xs) j m ys (apart gs j m Away (Has t) q e (λ z. cc z)) ∙ (set_else rows i m xs (apart gs i m Away (Has t) p e (λ z. cc z)) ∙ w.1))
