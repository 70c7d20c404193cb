-- What a pass has in hand.
use Rattle.std.proofs.Common.{◌≡◌, ℕ, List, [], ◌∷◌, map, length, true, false, refl, sym, ap, ◌∙◌, subst, Option, Some, None}
use Rattle.act_turn.specs.declared.view.Member.{Member}
use Rattle.act_turn.specs.declared.view.Stage.{Stage}
use Rattle.act_turn.specs.declared.view.Stage.TheVariants.{Away, Waits, Has}
use Rattle.std.specs.List.{All, Any}
use Rattle.std.proofs.lemmas.List.{length-map}
use lib.ListN.{get_elem?}
use mathlib.Core.List.{IsPrefix}
use mathlib.Core.Option.{some, some-injective}
use Rattle.atomic_table.specs.Table.{Me, Final, Seen}
use Rattle.atomic_table.specs.Seated.{TableId}
use Rattle.act_turn.specs.Standing.{Standing, own_entries}
use Rattle.act_turn.specs.declared.view.View.{View}
use Rattle.act_turn.specs.Journal.{entries_of}
use Rattle.act_turn.specs.Turn.{Holds, member_of, InHand, IsPass, StandsForOne, has_turn, number_of, seen_of, standing_of}
use Rattle.act_turn.proofs.Places.{all_of_map, place_of_map}
use Rattle.act_turn.proofs.Steps.{Ends, closing}

-- who doesn't hold the value has no ticket
pub free_hand : {K : Type 0} (g : Stage) (carried : List (ℕ × Option K)) → has_turn g ≡ false → InHand g carried → (g ≡ Away) × (carried ≡ [])
free_hand Away carried isnt hand = (refl, hand)
free_hand (Waits t) carried isnt hand = absurd hand
free_hand (Has t) carried isnt hand = absurd (cc isnt)

-- who holds it has its turn
pub full_hand : {K : Type 0} (g : Stage) (carried : List (ℕ × Option K)) → has_turn g ≡ true → InHand g carried → ((t : ℕ) × (g ≡ Has t)) × (carried ≡ (0, None) ∷ [])
full_hand Away carried is hand = absurd (cc is)
full_hand (Waits t) carried is hand = absurd (cc is)
full_hand (Has t) carried is hand = ((t, refl), hand)

module _ {K E : Type 0} (me : Me (Option K) (View E)) where
  -- the pass has taken the value
  pub taken_pass : (t : ℕ) → StandsForOne me.0 → me.0.stage ≡ Has t → me.1 ≡ (0, None) ∷ [] → IsPass me
  taken_pass t one has carries = record { one = one; hand = subst (λ (g : Stage). InHand g me.1) (sym has) carries }

  -- it has none
  pub free_pass : StandsForOne me.0 → me.0.stage ≡ Away → me.1 ≡ [] → IsPass me
  free_pass one away carries = record { one = one; hand = subst (λ (g : Stage). InHand g me.1) (sym away) carries }

-- what contracts see of a pass that stands for one
module _ {E : Type 0} (z : TableId) (v : View E) (p : Standing E) (is : standing_of z v ≡ p) (one : StandsForOne v) where
  pub number_is : p.number ≡ one.0
  number_is = sym (ap (λ s. s.number) is) ∙ ap number_of one.2

  pub seen_is : p.seen ≡ one.1
  seen_is = sym (ap (λ s. s.seen) is) ∙ ap seen_of one.2

-- what the end says of all passes, of the value that is taken out of the slot
module _ {K E : Type 0} (journal : K → List E) (author : E → Option ℕ) where
  pub record IsLast (passes : List (Standing E)) (value : K) : Type 0 where
    pub begins : All (λ p. IsPrefix p.seen (journal value)) passes
    pub longest : Any (λ p. p.seen ≡ journal value) passes
    pub own : All (λ p. entries_of author p.number (journal value) ≡ own_entries author p) passes

  pub last_value : (seats : ℕ) (passes : List (Standing E)) (id : ℕ) (v : View E) (words : List ℕ) (slots : List (Option K)) (x : Option K) → v.stage ≡ Away → v.members ≡ map member_of passes → length passes ≡ seats
      → Final (Seen (Holds journal author seats) id v) words slots → get_elem? slots 0 ≡ some x → (value : K) × (x ≡ Some value) × IsLast passes value
  last_value seats passes id v words slots x away all many fin at =
      let end = subst (λ (l : List (Member E)). Ends journal author l fin.0.homes) all (closing journal author seats fin.0 fin.1.0 id v fin.1.1 away (ap length all ∙ (length-map passes member_of ∙ many))) in
      let w = end.whole in let c = w.1 in let t = place_of_map member_of passes c.0 w.0 c.1 c.2 in (
        end.value,
        some-injective x (Some end.value) (sym at ∙ fin.4 0 (Some end.value) end.at_home),
        record {
          begins = all_of_map member_of (λ x. IsPrefix x.seen (journal end.value)) passes end.prefixes;
          longest = (c.0, t.0, t.1, t.2, ap (λ x. x.seen) t.3 ∙ w.2);
          own = all_of_map member_of (λ x. entries_of author x.number (journal end.value) ≡ entries_of author x.number x.seen) passes end.own;
        },
      )

  -- the same of the value k that was found
  pub is_last : (passes : List (Standing E)) (x : Option K) (k : K) → (value : K) × (x ≡ Some value) × IsLast passes value → x ≡ Some k → IsLast passes k
  is_last passes x k h found = let same : Some h.0 ≡ Some k = sym h.1 ∙ found in let is : h.0 ≡ k = cc same in subst (IsLast passes) is h.2
