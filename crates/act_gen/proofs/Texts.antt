-- Texts with commas between them, and the numbers from 1 on.
use Rattle.std.proofs.Common.{◌≡◌, ℕ, zero, suc, false, ◌+◌, ◌<◌, List, [], ◌∷◌, ◌++◌, length, map, refl, sym, ap, ◌∙◌, append_assoc, append-nil, add-one, arith}
use Rattle.std.proofs.lemmas.List.{length-map, length_push}
use Rattle.std.proofs.lemmas.List.Concat.{flat_map-append}
use Rattle.std.proofs.lemmas.Bool.Decides.{nat_tests}
use Rattle.std.specs.Prelude.{codes, ◌==◌}
use Rattle.act_gen.specs.Json.{after_commas, with_commas}
use Rattle.act_gen.specs.Members.{comma_after}
use Rattle.act_gen.specs.Portfolio.{numbers}

pub after_commas-append : (xs ys : List (List ℕ)) → after_commas (xs ++ ys) ≡ after_commas xs ++ after_commas ys
after_commas-append xs ys = flat_map-append (λ text. codes "," ++ text) xs ys

-- behind a text, each further one stands behind a comma
pub with_commas-append : (xs ys : List (List ℕ)) → 0 < length xs → with_commas (xs ++ ys) ≡ with_commas xs ++ after_commas ys
with_commas-append [] ys h = absurd (omega arith)
with_commas-append (x ∷ xs) ys h = ap (λ rest. x ++ rest) (after_commas-append xs ys) ∙ sym (append_assoc x (after_commas xs) (after_commas ys))

some_before : (n : ℕ) → 0 < n → comma_after n ≡ codes ","
some_before n h = let no : (n == 0) ≡ false = grind (arith, nat_tests) in rw no refl

-- one text more, behind a comma unless it is the first
pub with_commas-next : (xs : List (List ℕ)) (y : List ℕ) → with_commas (xs ++ y ∷ []) ≡ with_commas xs ++ (comma_after (length xs) ++ y)
with_commas-next [] y = append-nil y
with_commas-next (x ∷ xs) y =
    let comma : comma_after (length (x ∷ xs)) ≡ codes "," = some_before (length (x ∷ xs)) (omega arith) in
    with_commas-append (x ∷ xs) (y ∷ []) (omega arith) ∙ ap (λ rest. with_commas (x ∷ xs) ++ rest) (append-nil (codes "," ++ y) ∙ ap (λ between. between ++ y) (sym comma))

pub numbers-next : (n : ℕ) → numbers (n + 1) ≡ numbers n ++ (n + 1) ∷ []
numbers-next n = rw add-one refl

pub length-numbers : (n : ℕ) → length (numbers n) ≡ n
length-numbers zero = refl
length-numbers (suc n) = length_push (numbers n) (suc n) ∙ omega (arith, length-numbers n)

pub length-map_numbers : (f : ℕ → List ℕ) (n : ℕ) → length (map f (numbers n)) ≡ n
length-map_numbers f n = length-map (numbers n) f ∙ length-numbers n

-- two texts behind a text
pub put : (old middle new first second : List ℕ) → middle ≡ old ++ first → new ≡ middle ++ second → new ≡ old ++ (first ++ second)
put old middle new first second e f = f ∙ ap (λ text. text ++ second) e ∙ append_assoc old first second

-- an array of two
pub two_put : (old a b d e new head first comma second tail : List ℕ) → a ≡ old ++ head → b ≡ a ++ first → d ≡ b ++ comma → e ≡ d ++ second → new ≡ e ++ tail
    → new ≡ old ++ ((head ++ (first ++ ((comma ++ second) ++ []))) ++ tail)
two_put old a b d e new head first comma second tail p q r s t = rw (t, s, r, q, p) (simp (append_assoc, append-nil))

-- an object whose last member is put apart
pub last_put : (old a b d e new head key value tail : List ℕ) (members : List (List ℕ)) (last : List ℕ) → 0 < length members → codes "," ++ last ≡ key ++ value
    → a ≡ old ++ head → b ≡ a ++ with_commas members → d ≡ b ++ key → e ≡ d ++ value → new ≡ e ++ tail
    → new ≡ old ++ ((head ++ with_commas (members ++ last ∷ [])) ++ tail)
last_put old a b d e new head key value tail members last some split p q r s t =
    let all : with_commas (members ++ last ∷ []) ≡ with_commas members ++ (key ++ value) =
    with_commas-append members (last ∷ []) some ∙ ap (λ rest. with_commas members ++ rest) (append-nil (codes "," ++ last) ∙ split) in
    rw (t, s, r, q, p, all) (simp append_assoc)

-- texts with commas, and further ones behind commas
pub all_put : (old a b d new head tail : List ℕ) (texts further : List (List ℕ)) → 0 < length texts → a ≡ old ++ head → b ≡ a ++ with_commas texts → d ≡ b ++ after_commas further → new ≡ d ++ tail
    → new ≡ old ++ ((head ++ with_commas (texts ++ further)) ++ tail)
all_put old a b d new head tail texts further some p q r s = rw (s, r, q, p, with_commas-append texts further some) (simp append_assoc)
