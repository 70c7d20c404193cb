-- Lines that were put together word by word.
use Rattle.std.proofs.Common.{◌≡◌, ℕ, ◌+◌, ◌≤◌, List, [], ◌∷◌, ◌++◌, length, take, Result, OnOk, refl, sym, ap, ◌∙◌, append_assoc, arith}
use borrow.Rule.Slice.PartMut.{put_mid}
use Rattle.std.proofs.Math.Seq.{take-append-add}
use Rattle.std.proofs.lemmas.List.{length-take-le, take-take}
use Rattle.std.proofs.lemmas.Result.{on_ok_weaker}
use Rattle.std.proofs.lemmas.Slice.{take-put_mid}
use Rattle.std.specs.Prelude.{codes}
use Rattle.act_text.specs.Lines.{line_of}

module _ {T E : Type 0} (r : Result T E) (new old : List ℕ) where
  -- a line that was ended behind what stood before
  pub ended : (line text : List ℕ) → OnOk r (new ≡ old ++ line ++ codes "\n") → line ++ codes "\n" ≡ text → OnOk r (new ≡ old ++ text)
  ended line text ok e = on_ok_weaker r (λ h. h ∙ (append_assoc old line (codes "\n") ∙ ap (λ t. old ++ t) e)) ok

-- a day, a type, a currency and four numbers
pub row_put : (nothing b0 b1 b2 b3 b4 b5 b6 day type name currency payoff nt ipnr ipac : List ℕ)
    → nothing ≡ [] → b0 ≡ nothing ++ day → b1 ≡ b0 ++ codes " " ++ type → b2 ≡ b1 ++ codes " " ++ name → name ≡ currency → b3 ≡ b2 ++ codes " " ++ payoff
    → b4 ≡ b3 ++ codes " " ++ nt → b5 ≡ b4 ++ codes " " ++ ipnr → b6 ≡ b5 ++ codes " " ++ ipac
    → b6 ++ codes "\n" ≡ line_of day (type ∷ currency ∷ payoff ∷ nt ∷ ipnr ∷ ipac ∷ [])
row_put nothing b0 b1 b2 b3 b4 b5 b6 day type name currency payoff nt ipnr ipac e e0 e1 e2 n e3 e4 e5 e6 =
    simp (e6, e5, e4, e3, e2, e1, e0, e, n, append_assoc) refl

-- of bytes that were written in the middle the first are taken, so many
pub first_written : (end room count k : ℕ) (line bytes : List ℕ) → end ≤ length line → length bytes ≡ room → count ≤ room
    → take (end + count) (put_mid end k line bytes) ≡ take end line ++ take count bytes
first_written end room count k line bytes within long few =
    sym (take-take (end + count) (end + room) (put_mid end k line bytes) (omega (arith, few)))
    ∙ ap (take (end + count)) (take-put_mid end k line bytes (end + room) (omega (arith, long)) within)
    ∙ ap (λ n. take n (take end line ++ bytes)) (omega (arith, length-take-le end line within))
    ∙ take-append-add (take end line) bytes count

-- a word, a name and a day
pub missing_put : (nothing b0 b1 b2 b3 first name day : List ℕ) → nothing ≡ [] → b0 ≡ nothing ++ first → b1 ≡ b0 ++ codes " " ++ name → b2 ≡ b1 ++ codes " " → b3 ≡ b2 ++ day
    → b3 ++ codes "\n" ≡ line_of first (name ∷ day ∷ [])
missing_put nothing b0 b1 b2 b3 first name day e e0 e1 e2 e3 = simp (e3, e2, e1, e0, e, append_assoc) refl

-- a word with a space behind it, a day and a type
pub overflow_put : (nothing b0 b1 b2 first day type : List ℕ) → nothing ≡ [] → b0 ≡ nothing ++ (first ++ codes " ") → b1 ≡ b0 ++ day → b2 ≡ b1 ++ codes " " ++ type
    → b2 ++ codes "\n" ≡ line_of first (day ∷ type ∷ [])
overflow_put nothing b0 b1 b2 first day type e e0 e1 e2 = simp (e2, e1, e0, e, append_assoc) refl
