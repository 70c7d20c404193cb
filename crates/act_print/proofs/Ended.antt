-- What reading a text to its end, or to a fault, says of the bytes.
use Rattle.std.proofs.Common.{◌≡◌, ℕ, false, List, [], Result, Ok, Err, IfOk, IfErr, sym, ap, ◌∙◌}
use Rattle.act_model.specs.Names.{NameLists}
use Rattle.act_print.specs.Conditions.{ContractsNamed}
use Rattle.act_print.specs.Faults.{GivesBack, IsFaultOf, IsTextOf, lines_of}
use Rattle.act_print.specs.Giving.{Finishes, PointsAt, is_ended}
use Rattle.act_print.specs.Printed.{Transcript}
use Rattle.act_print.specs.Reading.{Lines, transcript_at}
use Rattle.act_print.specs.declared.fault.TextFault.{TextFault}
use Rattle.act_print.specs.declared.fault.TextFault.TheVariants.{NotText, NoMemory}
use Rattle.act_print.proofs.Whole.{found, one_text, stopped, unfinished}

-- where what is read has the text alone, and a fault says that they are none, what was printed is given back
pub gives-back : (names : NameLists) (bytes : List ℕ) (result : Result Transcript TextFault)
    → IfOk result (λ printed. (other : Transcript) → IsTextOf names bytes other → other ≡ printed) → IfErr result (λ fault. IsFaultOf names bytes fault)
    → (printed : Transcript) → IsTextOf names bytes printed → GivesBack printed result
gives-back names bytes (Ok read) only fault printed is = sym (only printed is)
gives-back names bytes (Err (NotText number)) only fault printed is = fault.no_text printed is
gives-back names bytes (Err NoMemory) only fault printed is = tt

module _ (names : NameLists) (named : ContractsNamed names) (bytes : List ℕ) where
  -- reading stopped at a line
  pub stopped_at : (left : Lines) → transcript_at names (lines_of bytes) ≡ Err left → (fault : TextFault) → PointsAt (lines_of bytes) left fault → IsFaultOf names bytes fault
  stopped_at left e (NotText number) count = stopped names named bytes left number e count
  stopped_at left e NoMemory count = absurd count

  module _ (read : Transcript) (left : Lines) (e : transcript_at names (lines_of bytes) ≡ Ok (read, left)) where
    whole : left ≡ [] → transcript_at names (lines_of bytes) ≡ Ok (read, [])
    whole none = e ∙ ap (λ (l : Lines). Ok (read, l)) none

    -- what was read is what the text is of
    pub finished : (result : Result Transcript TextFault) → Finishes bytes left read result → IfOk result (λ printed. IsTextOf names bytes printed)
    finished (Ok printed) is = rw is.0 (found names named bytes read (whole is.1) is.2)
    finished (Err fault) is = tt

    -- and the one that it is of
    pub finished_alone : (result : Result Transcript TextFault) → Finishes bytes left read result → IfOk result (λ printed. (other : Transcript) → IsTextOf names bytes other → other ≡ printed)
    finished_alone (Ok printed) is = λ other also. one_text names bytes other printed named also (finished (Ok printed) is)
    finished_alone (Err fault) is = tt

    by_fault : (fault : TextFault) → PointsAt (lines_of bytes) left fault → (left ≡ [] → is_ended bytes ≡ false) → IsFaultOf names bytes fault
    by_fault (NotText number) count end = unfinished names named bytes read left number e end count
    by_fault NoMemory count end = absurd count

    -- or why they are no text
    pub finished_fault : (result : Result Transcript TextFault) → Finishes bytes left read result → IfErr result (λ fault. IsFaultOf names bytes fault)
    finished_fault (Ok printed) is = tt
    finished_fault (Err fault) is = by_fault fault is.0 is.1

    -- and so what was printed
    pub finished_back : (result : Result Transcript TextFault) → Finishes bytes left read result → (printed : Transcript) → IsTextOf names bytes printed → GivesBack printed result
    finished_back result is = gives-back names bytes result (finished_alone result is) (finished_fault result is)
