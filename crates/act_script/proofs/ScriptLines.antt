-- A script, read line by line.
use Rattle.std.proofs.Common.{◌≡◌, ℕ, ◌+◌, ◌<◌, ◌≤◌, ◌==◌, Bool, true, false, not, cond, if◌then◌else◌, List, [], ◌∷◌, length, Option, Some, None, IfSome, Ok, Err, Bor, refl, ap, arith}
use Rattle.std.specs.List.{enumerate_from, filter, slice_split}
use Rattle.std.specs.Option.{option_map_or}
use Rattle.act_model.specs.declared.terms.Terms.{Terms}
use Rattle.act_script.specs.Lines.{is_blank}
use Rattle.act_script.specs.Reading.{Script, with_line, with_lines, with_text}
use Rattle.act_script.specs.declared.fault.ScriptFault.{ScriptFault}

-- the parts of a text that is left between line feeds
abbrev pub parts_left : Option (Bor (List ℕ)) → List (List ℕ)
parts_left rest = option_map_or (λ text. slice_split (λ byte. byte == 10) text.now) rest []

-- those of them that say something, each with its number, behind so many lines
abbrev pub lines_left : ℕ → List (List ℕ) → List (ℕ × List ℕ)
lines_left number parts = filter (λ line. not (is_blank line.1)) (enumerate_from (number + 1) parts)

-- how many lines can be left at most
abbrev pub bytes_left : Option (Bor (List ℕ)) → ℕ
bytes_left rest = option_map_or (λ text. length text.now + 1) rest 0

pub fewer_left : (rest : Option (Bor (List ℕ))) (bytes : ℕ) → IfSome rest (λ behind. length behind.now < bytes) → bytes_left rest ≤ bytes
fewer_left None bytes fewer = omega arith
fewer_left (Some behind) bytes fewer = omega (arith, fewer)

module _ (kinds : List Terms) (script : Script) (number : ℕ) (text : List ℕ) (lines : List (ℕ × List ℕ)) where
  by_blank : (blank : Bool) (longer : Script) → (if blank then Ok script else with_line kinds script number text) ≡ Ok longer
      → with_lines kinds script (cond (not blank) ((number, text) ∷ lines) lines) ≡ with_lines kinds longer lines
  by_blank true longer e = let same : script ≡ longer = (cc) in ap (λ s. with_lines kinds s lines) same
  by_blank false longer e = rw e refl

  refused_by : (blank : Bool) (fault : ScriptFault) → (if blank then Ok script else with_line kinds script number text) ≡ Err fault
      → with_lines kinds script (cond (not blank) ((number, text) ∷ lines) lines) ≡ Err fault
  refused_by true fault e = absurd (cc)
  refused_by false fault e = rw e refl

module _ (kinds : List Terms) (script : Script) (number : ℕ) (parts : List (List ℕ)) (text : List ℕ) (behind : List (List ℕ)) where
  pub one_more : parts ≡ text ∷ behind → (longer : Script) → with_text kinds script (number + 1) text ≡ Ok longer
      → with_lines kinds script (lines_left number parts) ≡ with_lines kinds longer (lines_left (number + 1) behind)
  one_more is longer e = rw is (by_blank kinds script (number + 1) text (lines_left (number + 1) behind) (is_blank text) longer e)

  pub refused : parts ≡ text ∷ behind → (fault : ScriptFault) → with_text kinds script (number + 1) text ≡ Err fault
      → with_lines kinds script (lines_left number parts) ≡ Err fault
  refused is fault e = rw is (refused_by kinds script (number + 1) text (lines_left (number + 1) behind) (is_blank text) fault e)

pub nothing_left : (kinds : List Terms) (script : Script) (number : ℕ) (rest : Option (Bor (List ℕ))) → rest ≡ None → with_lines kinds script (lines_left number (parts_left rest)) ≡ Ok script
nothing_left kinds script number rest none = rw none refl
