use Rattle.std.proofs.Common.{◌≡◌, ◌+◌, ◌≤◌, length}
use Rattle.act_script.specs.Reading.{AddsCodes, script_of, with_lines}
use Rattle.act_script.proofs.ScriptLines.{bytes_left, lines_left, parts_left}
use Rattle.act_script.proofs.reading.read_script.Given as goal

abbrev pub invariant-lines : goal.invariant-lines
invariant-lines l = record {
  same : script_of l.bytes l.fn.names l.kinds l.fn.entries ≡ with_lines l.kinds (record { lines = l.script.lines.items; names = l.names; entries = l.script.entries }) (lines_left l.number (parts_left l.rest));
  names : AddsCodes l.fn.names l.names;
  few_codes : length l.names.codes + l.fn.entries ≤ length l.fn.names.codes + l.script.entries;
  few_entries : l.script.entries ≤ 1_048_576;
  few_lines : l.number + bytes_left l.rest ≤ length l.bytes + 1;
}

abbrev pub decreases-lines : goal.decreases-lines
decreases-lines l = bytes_left l.rest
