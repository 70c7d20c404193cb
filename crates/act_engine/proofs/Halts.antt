-- Halts that are passed on.
use Rattle.std.proofs.Common.{◌≡◌, Result, Ok, Err, sym, subst}
use Rattle.std.specs.Result.{IsErrAnd}
use Rattle.act_engine.specs.Reading.{Halt, Reading, Reads, and_then, halt_of, read_of}
use Rattle.act_engine.specs.declared.halt.Halt.{Halt as HaltMade}
use Rattle.act_engine.specs.declared.halt.Halt.TheVariants as made
use Rattle.act_engine.specs.declared.writing.Failure.TheVariants.{Memory}
use Rattle.act_engine.proofs.Reading.{reads_halt, want_at_once}
use Rattle.act_io.specs.World.{World}

-- what holds of a halt holds of what passes it on
pub passed : {A : Type 0} (r : Result A HaltMade) (halt : HaltMade) (P : Result A Halt → Type 0) → IsErrAnd r (λ h. h ≡ halt) → P (Err (halt_of halt)) → P (read_of r)
passed (Ok value) halt P is so = absurd is
passed (Err h) halt P is so = subst (λ (g : HaltMade). P (Err (halt_of g))) (sym is) so

-- memory ran out before anything was read
pub wants : {A : Type 0} (reading : Reading A) (world : World) (r : Result A HaltMade) → IsErrAnd r (λ h. h ≡ made.Stopped Memory) → Reads reading world (read_of r) world
wants reading world r is = passed r (made.Stopped Memory) (λ read. Reads reading world read world) is (want_at_once reading world)

-- what was to be read first isn't there, so nothing is read behind it
pub halts : {A B : Type 0} (reading : Reading A) (next : A → Reading B) (before after : World) (halt : HaltMade) (r : Result B HaltMade) → IsErrAnd r (λ h. h ≡ halt) → Reads reading before (Err (halt_of halt)) after
    → Reads (and_then reading next) before (read_of r) after
halts reading next before after halt r is read = passed r halt (λ found. Reads (and_then reading next) before found after) is (reads_halt reading next before after (halt_of halt) read)
