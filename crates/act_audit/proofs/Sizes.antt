-- A text that isn't too long has few lines.
use Rattle.std.proofs.Common.{◌≡◌, ◌≤◌, ◌<◌, ℕ, Bool, true, false, List, if◌then◌else◌, length, take, arith}
use Rattle.std.proofs.lemmas.List.{length-take}
use Rattle.act_audit.specs.Text.{has_work_line, last_line_at, most_text, text_in}
use Rattle.act_print.specs.Faults.{lines_of}
use Rattle.act_print.proofs.Bytes.{few_lines}

no-more : (bytes : List ℕ) (at : ℕ) (b : Bool) → length (if b then take at bytes else bytes) ≤ length bytes
no-more bytes at true = omega (arith, length-take at bytes)
no-more bytes at false = omega arith

pub lines-few : (text bytes : List ℕ) → bytes ≡ text_in text → length text ≤ most_text → length (lines_of bytes) < 4294967295
lines-few text bytes is within = rw is (omega (arith, few_lines (text_in text), no-more text (last_line_at text) (has_work_line text), within))
