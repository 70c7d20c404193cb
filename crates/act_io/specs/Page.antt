-- What contracts see of a sink.
use Rattle.std.specs.Prelude.{◌≡◌, ℕ, ◌<◌, ◌≤◌, ◌==◌, if◌then◌else◌, List, [], ◌∷◌, ◌++◌, length, take, Option, option_map, Result, Ok, Err}
use Rattle.act_io.specs.declared.sink.PutFault.{PutFault}
use Rattle.act_io.specs.declared.sink.PutFault.TheVariants.{Failed, NoMemory}
use Rattle.act_io.specs.Faults.{next_count}

-- what was written, where the sink tells it, and how often writing has failed, as far as a counter goes
pub record Page : Type 0 where
  pub written : Option (List ℕ)
  pub faults : ℕ

-- bytes stand behind what was written
abbrev pub written_on : Page → List ℕ → Page
written_on page bytes = record page { written = option_map (λ (before : List ℕ). before ++ bytes) page.written }

-- writing has failed once more
abbrev pub write_failed : Page → Page
write_failed page = record page { faults = next_count page.faults }

-- the piece's first bytes were taken, as many as are answered and at least one of a piece that isn't empty, or nothing
abbrev pub Puts : List ℕ → Page → Result ℕ PutFault → Page → Type 0
Puts piece before (Ok n) after = (n ≤ length piece) × (0 < length piece → 0 < n) × (after ≡ written_on before (take n piece))
Puts piece before (Err Failed) after = after ≡ write_failed before
Puts piece before (Err NoMemory) after = after ≡ before

-- the first line of a text, with its line feed where it has one
abbrev pub first_line : List ℕ → List ℕ
first_line [] = []
first_line (byte ∷ bytes) = byte ∷ (if byte == 10 then [] else first_line bytes)
