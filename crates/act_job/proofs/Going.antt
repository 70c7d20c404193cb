-- Scripts that are read one after the other.
use Rattle.std.proofs.Common.{◌≡◌, ℕ, ◌+◌, List, [], ◌∷◌, length, Result, Ok, Err, sym, subst}
use Rattle.std.specs.Result.{IsErrAnd}
use Rattle.act_engine.specs.Reading.{Done, Halt, Reads, halt_of, read_of}
use Rattle.act_engine.specs.declared.halt.Halt.{Halt as HaltMade}
use Rattle.act_engine.specs.declared.halt.Halt.TheVariants as made
use Rattle.act_engine.specs.declared.writing.Failure.TheVariants.{Memory}
use Rattle.act_engine.proofs.Reading.{reads_next, reads_value}
use Rattle.act_io.specs.World.{World}
use Rattle.act_portfolio.specs.Reading.{Accepted}
use Rattle.act_script.specs.Reading.{Script}
use Rattle.act_job.specs.Reading.{next_accepted, next_reading, script_accepted, scripts_reading}
use Rattle.act_job.specs.Scripts.{Scripts, with_script}
use Rattle.act_engine.proofs.Halts.{halts, wants}

-- ---- bytes behind scripts

module _ (portfolio : Accepted) (scripts : Scripts) (number : ℕ) (bytes : List ℕ) (world : World) (place : number ≡ length scripts.lists + 1) where
  -- the script has the number of its place
  placed : (result : Result Script Halt) → Reads (script_accepted portfolio number scripts.names scripts.entries bytes) world result world
      → Reads (script_accepted portfolio (length scripts.lists + 1) scripts.names scripts.entries bytes) world result world
  placed result read = subst (λ (n : ℕ). Reads (script_accepted portfolio n scripts.names scripts.entries bytes) world result world) place read

  -- they are a script
  pub next-there : (script : Script) (longer : Scripts) → longer ≡ with_script scripts script → Reads (script_accepted portfolio number scripts.names scripts.entries bytes) world (Ok script) world
      → Reads (next_accepted portfolio scripts bytes) world (Ok longer) world
  next-there script longer is read =
      reads_next (script_accepted portfolio (length scripts.lists + 1) scripts.names scripts.entries bytes) (λ script. Done (with_script scripts script)) world world world script (Ok longer) (placed (Ok script) read)
      (subst (λ (s : Scripts). Reads (Done (with_script scripts script)) world (Ok s) world) (sym is) (reads_value (with_script scripts script) world))

  -- there is no memory for it
  pub next-wants : (script : Script) (r : Result Scripts HaltMade) → IsErrAnd r (λ halt. halt ≡ made.Stopped Memory) → Reads (script_accepted portfolio number scripts.names scripts.entries bytes) world (Ok script) world
      → Reads (next_accepted portfolio scripts bytes) world (read_of r) world
  next-wants script r is read =
      reads_next (script_accepted portfolio (length scripts.lists + 1) scripts.names scripts.entries bytes) (λ script. Done (with_script scripts script)) world world world script (read_of r) (placed (Ok script) read)
      (wants (Done (with_script scripts script)) world r is)

  -- they aren't
  pub next-halts : (halt : HaltMade) (r : Result Scripts HaltMade) → IsErrAnd r (λ h. h ≡ halt) → Reads (script_accepted portfolio number scripts.names scripts.entries bytes) world (Err (halt_of halt)) world
      → Reads (next_accepted portfolio scripts bytes) world (read_of r) world
  next-halts halt r is read =
      halts (script_accepted portfolio (length scripts.lists + 1) scripts.names scripts.entries bytes) (λ script. Done (with_script scripts script)) world world halt r is (placed (Err (halt_of halt)) read)

-- ---- files behind one another

-- what comes of scripts that were read and of these names behind them comes of all names
pub record GoesOn (portfolio : Accepted) (start : Scripts) (names : List (List ℕ)) (before : World) (scripts : Scripts) (rest : List (List ℕ)) (now : World) : Type 0 where
  pub behind : (result : Result Scripts Halt) (after : World) → Reads (scripts_reading portfolio scripts rest) now result after → Reads (scripts_reading portfolio start names) before result after

module _ (portfolio : Accepted) (start : Scripts) (names : List (List ℕ)) (before : World) where
  -- nothing was read yet
  pub go-first : GoesOn portfolio start names before start names before
  go-first = record { behind = λ result after read. read }

  module _ (scripts : Scripts) (left : List (List ℕ)) (now : World) (goes : GoesOn portfolio start names before scripts left now) where
    -- all were read
    pub go-end : left ≡ [] → Reads (scripts_reading portfolio start names) before (Ok scripts) now
    go-end none =
        goes.behind (Ok scripts) now (subst (λ (ns : List (List ℕ)). Reads (scripts_reading portfolio scripts ns) now (Ok scripts) now) (sym none) (reads_value scripts now))

    module _ (name : List ℕ) (rest : List (List ℕ)) (next : left ≡ name ∷ rest) where
      -- the next one was
      pub go-next : (more : Scripts) (later : World) → Reads (next_reading portfolio scripts name) now (Ok more) later → GoesOn portfolio start names before more rest later
      go-next more later first =
          record {
            behind = λ result after read.
                goes.behind result after (subst (λ (ns : List (List ℕ)). Reads (scripts_reading portfolio scripts ns) now result after) (sym next)
                (reads_next (next_reading portfolio scripts name) (λ longer. scripts_reading portfolio longer rest) now later after more result first read));
          }

      -- the next one wasn't
      pub go-halts : (halt : HaltMade) (r : Result Scripts HaltMade) (after : World) → IsErrAnd r (λ h. h ≡ halt) → Reads (next_reading portfolio scripts name) now (Err (halt_of halt)) after
          → Reads (scripts_reading portfolio start names) before (read_of r) after
      go-halts halt r after is read =
          goes.behind (read_of r) after (subst (λ (ns : List (List ℕ)). Reads (scripts_reading portfolio scripts ns) now (read_of r) after) (sym next)
          (halts (next_reading portfolio scripts name) (λ longer. scripts_reading portfolio longer rest) now after halt r is read))
