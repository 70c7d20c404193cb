use Rattle.std.proofs.Common.{◌≡◌, ℕ, List, [], ◌∷◌, ◌++◌, Some, ◌⊎◌, ⊎_elim, inl, refl, sym, ◌∙◌, append-nil}
use Rattle.std.specs.Prelude.{None}
use Rattle.std.proofs.lemmas.List.Elements.{All-cons, All-nil}
use Rattle.act_turn.specs.Journal.{GoesOn}
use Rattle.cases_desks.proofs.turns.four_turns.Goals as goal

-- a list goes on by numbers of a pass, or stays
goes-on : (number k : ℕ) (before seen after : List ℕ) → number ≡ k → before ≡ seen → (after ≡ before ++ number ∷ number ∷ []) ⊎ (after ≡ before) → GoesOn {E = ℕ} (λ n. Some n) k seen after
goes-on number k before seen after same begins is =
    let P : ℕ → Type 0 = λ n. (Some n ≡ Some k) ⊎ (Some n ≡ None) in
    ⊎_elim
    (λ added. (k ∷ k ∷ [], (cc), All-cons P k (k ∷ []) (inl refl) (All-cons P k [] (inl refl) (All-nil P))))
    (λ stays. ([], stays ∙ (begins ∙ sym (append-nil seen)), All-nil P))
    is

pub give-requires-clause-goes_on : goal.give-requires-clause-goes_on
give-requires-clause-goes_on g c =
    let begins : c.get_mut.result.now.list.items ≡ c.take-held.new.pass.seen = cc in
    let same : c.args.number ≡ c.take-held.new.pass.number = cc in
    goes-on _ _ _ _ _ same begins c.add_twice.ensures
