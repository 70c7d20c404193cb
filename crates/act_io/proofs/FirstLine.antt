-- The first line of a text.
use Rattle.std.proofs.Common.{◌≡◌, ◌==◌, ℕ, ◌<◌, ◌≤◌, if◌then◌else◌, Bool, true, false, List, [], ◌∷◌, length, take, Result, Ok, Err, refl, ap, ◌∙◌, arith}
use Rattle.std.proofs.lemmas.List.{take-take}
use Rattle.act_io.specs.declared.sink.PutFault.{PutFault}
use Rattle.act_io.specs.declared.sink.PutFault.TheVariants.{Failed, NoMemory}
use Rattle.act_io.specs.Page.{Page, Puts, first_line, written_on}

front_of : (ends : Bool) (bytes line : List ℕ) → line ≡ take (length line) bytes → (if ends then [] else line) ≡ take (length (if ends then [] else line)) bytes
front_of true bytes line e = refl
front_of false bytes line e = e

-- it is the text's first bytes
front : (text : List ℕ) → first_line text ≡ take (length (first_line text)) text
front [] = refl
front (byte ∷ bytes) = ap (λ line. byte ∷ line) (front_of (byte == 10) bytes (first_line bytes) (front bytes))

fewer_of : (ends : Bool) (bytes line : List ℕ) → length line ≤ length bytes → length (if ends then [] else line) ≤ length bytes
fewer_of true bytes line h = omega arith
fewer_of false bytes line h = h

fewer : (text : List ℕ) → length (first_line text) ≤ length text
fewer [] = omega arith
fewer (byte ∷ bytes) = omega (arith, fewer_of (byte == 10) bytes (first_line bytes) (fewer bytes))

some : (text : List ℕ) → 0 < length text → 0 < length (first_line text)
some [] h = h
some (byte ∷ bytes) h = omega arith

-- what takes bytes of the first line takes bytes of the text
pub of_first_line : (text : List ℕ) (before after : Page) (result : Result ℕ PutFault) → Puts (first_line text) before result after → Puts text before result after
of_first_line text before after (Err Failed) puts = puts
of_first_line text before after (Err NoMemory) puts = puts
of_first_line text before after (Ok n) puts = (
  omega (arith, puts.0, fewer text),
  λ h. puts.1 (some text h),
  puts.2 ∙ ap (written_on before) (ap (take n) (front text) ∙ take-take n (length (first_line text)) text puts.0),
)
