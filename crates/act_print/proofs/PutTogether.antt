-- Lines of items and answers that were put together word by word.
use Rattle.std.proofs.Common.{◌≡◌, ℕ, List, [], ◌∷◌, ◌++◌, refl, append_assoc}
use Rattle.std.specs.Prelude.{codes}
use Rattle.act_text.specs.Lines.{line_of}

-- a word and three counts
pub head_put : (nothing b0 b1 b2 b3 first caller number version : List ℕ) → nothing ≡ [] → b0 ≡ nothing ++ first → b1 ≡ b0 ++ codes " " ++ caller → b2 ≡ b1 ++ codes " " ++ number → b3 ≡ b2 ++ codes " " ++ version
    → b3 ++ codes "\n" ≡ line_of first (caller ∷ number ∷ version ∷ [])
head_put nothing b0 b1 b2 b3 first caller number version e e0 e1 e2 e3 = simp (e3, e2, e1, e0, e, append_assoc) refl

-- a caller, a word, a name, a day and a number
pub rate_put : (b0 b1 b2 b3 b4 b5 caller word name day value : List ℕ) → b0 ≡ caller → b1 ≡ b0 ++ codes " " ++ word → b2 ≡ b1 ++ codes " " ++ name → b3 ≡ b2 ++ codes " " → b4 ≡ b3 ++ day → b5 ≡ b4 ++ codes " " ++ value
    → b5 ++ codes "\n" ≡ line_of caller (word ∷ name ∷ day ∷ value ∷ [])
rate_put b0 b1 b2 b3 b4 b5 caller word name day value e0 e1 e2 e3 e4 e5 = simp (e5, e4, e3, e2, e1, e0, append_assoc) refl

-- a caller, two words and a name between them, a day and a value
pub event_put : (b0 b1 b2 b3 b4 b5 b6 caller word name kind text day value : List ℕ) → b0 ≡ caller → b1 ≡ b0 ++ codes " " ++ word → b2 ≡ b1 ++ codes " " ++ name → b3 ≡ b2 ++ codes " " ++ kind → kind ≡ text → b4 ≡ b3 ++ codes " " → b5 ≡ b4 ++ day → b6 ≡ b5 ++ codes " " ++ value
    → b6 ++ codes "\n" ≡ line_of caller (word ∷ name ∷ text ∷ day ∷ value ∷ [])
event_put b0 b1 b2 b3 b4 b5 b6 caller word name kind text day value e0 e1 e2 e3 k e4 e5 e6 = simp (e6, e5, e4, e3, e2, e1, e0, k, append_assoc) refl
