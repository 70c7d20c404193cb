-- What a command reads: files, one after the other, up to the first refusal. This profile's own.
use Rattle.std.specs.Prelude.{◌≡◌, ◌⊎◌, ℕ, ◌<◌, ◌≤◌, nat_lt, if◌then◌else◌, List, length, Option, Some, IfSome, option_and_then, Result, Ok, Err, Vec}
use Rattle.std.specs.declared.alloc.Global.{Global}
use Rattle.act_io.specs.World.{World, asked_for, read_failed}
use Rattle.act_engine.specs.Refusal.{Refusal, Unread, TooLong, refusal_of}
use Rattle.act_engine.specs.declared.halt.Halt.{Halt as HaltMade}
use Rattle.act_engine.specs.declared.halt.Halt.TheVariants as made
use Rattle.act_engine.specs.declared.writing.Failure.{Failure}
use Rattle.act_engine.specs.declared.writing.Failure.TheVariants.{Memory}

-- ---- what is to be read

-- What is to be read: it is there; it is refused; or a file is read, which may have so many bytes, and these say what is to be read next.
pub data Reading (A : Type 0) : Type 0 where
  Done : A → Reading A
  Refuse : Refusal → Reading A
  Fetch : (name : List ℕ) → (limit : ℕ) → (next : List ℕ → Reading A) → Reading A

-- what is to be read, and behind it what its value says
abbrev pub and_then : {A B : Type 0} → Reading A → (A → Reading B) → Reading B
and_then (Done value) next = next value
and_then (Refuse refusal) next = Refuse refusal
and_then (Fetch name limit more) next = Fetch name limit (λ bytes. and_then (more bytes) next)

-- what it comes to over the bytes of files, where they are told of those up to the first that is refused
abbrev pub told : {A : Type 0} → (List ℕ → Option (List ℕ)) → Reading A → Option (Result A Refusal)
told content (Done value) = Some (Ok value)
told content (Refuse refusal) = Some (Err refusal)
told content (Fetch name limit next) = option_and_then (λ bytes. if nat_lt limit (length bytes) then Some (Err (TooLong name)) else told content (next bytes)) (content name)

-- ---- what came of it

-- why a command stopped: it was refused, the sink failed or memory ran out
pub data Halt : Type 0 where
  Refused : Refusal → Halt
  Stopped : Failure → Halt

-- the same of the program's halt
abbrev pub halt_of : HaltMade → Halt
halt_of (made.Refused refusal) = Refused (refusal_of refusal)
halt_of (made.Stopped stop) = Stopped stop

-- and of what the program read
abbrev pub read_of : {A : Type 0} → Result A HaltMade → Result A Halt
read_of (Ok value) = Ok value
read_of (Err halt) = Err (halt_of halt)

-- memory ran out
abbrev pub RanOut : {A : Type 0} → Result A Halt → Type 0
RanOut result = result ≡ Err (Stopped Memory)

-- What reading came to, by what contracts see of the files before and after. What is to be read is there, or refused. Each file was asked for; where
-- reading failed, or a file is too long, it is the last one, and the refusal names it, and a failure is counted at its call; where the bytes are told,
-- they are those that were read. Memory may have run out anywhere.
abbrev pub Reads : {A : Type 0} → Reading A → World → Result A Halt → World → Type 0
Reads (Done value) before result after = ((result ≡ Ok value) ⊎ RanOut result) × (after ≡ before)
Reads (Refuse refusal) before result after = ((result ≡ Err (Refused refusal)) ⊎ RanOut result) × (after ≡ before)
Reads (Fetch name limit next) before result after =
    (RanOut result × (after ≡ before))
    ⊎ ((result ≡ Err (Refused (Unread name))) × (after ≡ read_failed (asked_for name before)))
    ⊎ ((result ≡ Err (Refused (TooLong name))) × (after ≡ asked_for name before) × IfSome (before.content name) (λ bytes. limit < length bytes))
    ⊎ ((bytes : List ℕ) × (length bytes ≤ limit) × IfSome (before.content name) (λ told. told ≡ bytes) × Reads (next bytes) (asked_for name before) result after)

-- ---- one file

-- the bytes of a file of that name, which may have so many
abbrev pub file_reading : List ℕ → ℕ → Reading (List ℕ)
file_reading name limit = Fetch name limit Done

-- what the program read of it
abbrev pub bytes_of : Result (Vec ℕ Global) HaltMade → Result (List ℕ) Halt
bytes_of (Ok read) = Ok read.items
bytes_of (Err halt) = Err (halt_of halt)

-- ---- what is told

-- where the bytes of all files that are read are told, what is told of them is what was read, unless reading failed or memory ran out
abbrev pub IsTold : {A : Type 0} → Option (Result A Refusal) → Result A Halt → Type 0
IsTold wanted (Ok value) = IfSome wanted (λ w. w ≡ Ok value)
IsTold wanted (Err (Refused (Unread name))) = Unit {0}
IsTold wanted (Err (Refused refusal)) = IfSome wanted (λ w. w ≡ Err refusal)
IsTold wanted (Err (Stopped stop)) = Unit {0}
