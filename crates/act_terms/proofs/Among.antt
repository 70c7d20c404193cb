-- A text among those of choices, one by one.
use Rattle.std.proofs.Common.{◌≡◌, ℕ, ◌+◌, ◌<◌, true, false, List, map, length, drop, get_or, Some, None, refl}
use Rattle.std.proofs.Math.Seq.{drop-length}
use Rattle.std.proofs.lemmas.List.{drop_more}
use Rattle.std.specs.Str.{bytes_eq}
use Rattle.act_terms.specs.Choices.{among}

-- a choice that hasn't the text is passed over
pub passed_over : {X A : Type 0} (f : X → List ℕ × A) (choices : List X) (text : List ℕ) (i : ℕ) (d : X) → i < length choices → bytes_eq text (f (get_or choices i d)).0 ≡ false →
    among (map f (drop (i + 1) choices)) text ≡ among (map f (drop i choices)) text
passed_over f choices text i d h other = rw (drop_more choices i d h, other) refl

-- the first that has it is the one
pub found : {X A : Type 0} (f : X → List ℕ × A) (choices : List X) (text : List ℕ) (i : ℕ) (d : X) → i < length choices → bytes_eq text (f (get_or choices i d)).0 ≡ true →
    among (map f (drop i choices)) text ≡ Some (f (get_or choices i d)).1
found f choices text i d h same = rw (drop_more choices i d h, same) refl

pub none_left : {X A : Type 0} (f : X → List ℕ × A) (choices : List X) (text : List ℕ) → among (map f (drop (length choices) choices)) text ≡ None
none_left f choices text = rw (drop-length choices) refl
