-- Passes and answers of actors, as they are moved.
use Rattle.std.proofs.Common.{◌≡◌, ℕ, zero, suc, ◌+◌, ◌<◌, List, [], ◌∷◌, ◌++◌, length, reverse, drop, take, set, get_or, Option, Some, refl, sym, ap, ◌∙◌, append_assoc, arith}
use Rattle.std.specs.Prelude.{Vec, map}
use Rattle.std.specs.declared.alloc.Global.{Global}
use Rattle.std.proofs.lemmas.List.{drop-drop, get_or-drop, get_or-map, length-map, map_push, reverse-append, take_more}
use Rattle.act_turn.specs.Standing.{Standing}
use Rattle.act_board.specs.declared.history.Entry.{Entry}
use Rattle.act_session.specs.Seats.{answers_at, passes_of}
use Rattle.act_session.specs.declared.actor.Actor.{Actor}

-- a pass more of the actors' is one less of those that are taken from the end
pub moved : {A : Type 0} (actors : List (Actor A)) (actor : Actor A) (passes : List (Standing Entry)) → passes_of (actors ++ actor ∷ []) ++ reverse passes ≡ passes_of actors ++ reverse (passes ++ actor.pass ∷ [])
moved {A} actors actor passes =
    ap (λ (ps : List (Standing Entry)). ps ++ reverse passes) (map_push (λ (a : Actor A). a.pass) actors actor)
    ∙ (append_assoc (passes_of actors) (actor.pass ∷ []) (reverse passes) ∙ ap (λ (ps : List (Standing Entry)). passes_of actors ++ ps) (sym (reverse-append passes (actor.pass ∷ []))))

-- the passes stay where an actor's answers are written
pub passes-set : {A : Type 0} (actors : List (Actor A)) (i : ℕ) (actor d : Actor A) → actor.pass ≡ (get_or actors i d).pass → passes_of (set actors i actor) ≡ passes_of actors
passes-set [] i actor d same = refl
passes-set (a ∷ actors) zero actor d same = ap (λ (p : Standing Entry). p ∷ passes_of actors) same
passes-set (a ∷ actors) (suc i) actor d same = ap (λ (ps : List (Standing Entry)). a.pass ∷ ps) (passes-set actors i actor d same)

-- and so do the answers of those behind
pub behind-set : {A : Type 0} (actors : List (Actor A)) (i : ℕ) (actor : Actor A) → drop (i + 1) (answers_at (set actors i actor)) ≡ drop (i + 1) (answers_at actors)
behind-set {A} actors i actor = let next : i + 1 ≡ suc i = omega arith in rw next (by actors i)
  where
    by : (actors : List (Actor A)) (i : ℕ) → drop (suc i) (answers_at (set actors i actor)) ≡ drop (suc i) (answers_at actors)
    by [] i = refl
    by (a ∷ actors) zero = refl
    by (a ∷ actors) (suc i) = by actors i

module _ {A : Type 0} (actors first : List (Actor A)) (i : ℕ) (kept : drop i (answers_at actors) ≡ drop i (answers_at first)) where
  pub kept-next : (actor : Actor A) → drop (i + 1) (answers_at (set actors i actor)) ≡ drop (i + 1) (answers_at first)
  kept-next actor =
      behind-set actors i actor
      ∙ (sym (drop-drop 1 i (answers_at actors)) ∙ (ap (λ (xs : List (Option (Vec A Global))). drop 1 xs) kept ∙ drop-drop 1 i (answers_at first)))

  -- the answers of the actor of the place
  its : (d : Actor A) → i < length actors → get_or (answers_at first) i d.answers ≡ (get_or actors i d).answers
  its d within =
      let here : i + 0 ≡ i = omega arith in
      let at = λ (xs : List (Option (Vec A Global))). ap (λ (k : ℕ). get_or xs k d.answers) (sym here) ∙ sym (get_or-drop i xs 0 d.answers) in
      at (answers_at first) ∙ (ap (λ (xs : List (Option (Vec A Global))). get_or xs 0 d.answers) (sym kept) ∙ (sym (at (answers_at actors)) ∙ get_or-map (λ (a : Actor A). a.answers) actors i d d.answers within))

  pub answers-more : (d : Actor A) (all : List (Vec A Global)) (own : Vec A Global) → length actors ≡ length first → i < length actors → (get_or actors i d).answers ≡ Some own
      → map Some all ≡ take i (answers_at first) → map Some (all ++ own ∷ []) ≡ take (i + 1) (answers_at first)
  answers-more d all own count within some so_far =
      let length-first = length-map first (λ (a : Actor A). a.answers) in
      map_push Some all own
      ∙ (ap (λ (xs : List (Option (Vec A Global))). xs ++ Some own ∷ []) so_far
      ∙ (ap (λ (one : Option (Vec A Global)). take i (answers_at first) ++ one ∷ []) (sym some ∙ sym (its d within))
      ∙ sym (take_more (answers_at first) i d.answers (omega (arith, within, count, length-first)))))
