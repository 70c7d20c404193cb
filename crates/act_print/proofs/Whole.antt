-- What reading the lines of bytes says of the bytes.
use Rattle.std.proofs.Common.{◌≡◌, ℕ, ◌+◌, ◌-◌, ◌≤◌, true, false, List, [], ◌∷◌, ◌++◌, length, take, Ok, Err, refl, sym, ◌∙◌, ap, subst, append_assoc, append-nil, length-append, arith}
use Rattle.std.proofs.lemmas.List.{length-map, take_at}
use Rattle.act_model.specs.Names.{NameLists}
use Rattle.act_print.specs.Conditions.{ContractsNamed, IsTranscript}
use Rattle.act_print.specs.Faults.{Begins, IsFirstFault, IsTextOf, lines_of}
use Rattle.act_print.specs.Giving.{is_ended}
use Rattle.act_print.specs.Printed.{Transcript}
use Rattle.act_model.specs.declared.journal.Item.{Item}
use Rattle.act_print.specs.Reading.{Lines, journal_at, transcript_at}
use Rattle.act_print.specs.Text.{text_of}
use Rattle.act_print.proofs.Bytes.{bytes_again, unlines, unlines_ended}
use Rattle.act_print.proofs.Readers.{done, not_both, ok_is}
use Rattle.act_print.proofs.Texts.{lines_is, text_is}
use Rattle.act_print.proofs.ItemLaws.{item_content}
use Rattle.act_print.proofs.LineLaws.{count_content}
use Rattle.act_print.proofs.TranscriptLaws.{items_lines, journal_lines, journal_reads, replies_lines, transcript_lines, transcript_reads}

module _ (names : NameLists) (named : ContractsNamed names) where
  -- a transcript is read from its lines
  again : (t : Transcript) → IsTranscript names t → (rest : Lines) → transcript_at names (transcript_lines names t ++ rest) ≡ Ok (t, rest)
  again t is rest = (transcript_reads names).again t is rest

  again_whole : (t : Transcript) → IsTranscript names t → transcript_at names (transcript_lines names t) ≡ Ok (t, [])
  again_whole t is = ap (transcript_at names) (sym (append-nil (transcript_lines names t))) ∙ again t is []

  -- the lines of bytes that are its text
  text_lines : (bytes : List ℕ) (t : Transcript) → IsTextOf names bytes t → lines_of bytes ≡ transcript_lines names t
  text_lines bytes t is = ap lines_of (sym is.text) ∙ lines_is names named t is.conditions

  begins : (t : Transcript) → IsTranscript names t → (front rest : Lines) → transcript_lines names t ≡ front ++ rest → Begins names front
  begins t is front rest e =
      (text_of names t.items t.answers, t, record { conditions = is; text = refl }, rest, lines_is names named t is ∙ e)

  -- what begins a text is the front of some transcript's lines
  begun : (front : Lines) → Begins names front → (t : Transcript) × IsTranscript names t × (rest : Lines) × (transcript_lines names t ≡ front ++ rest)
  begun front b = (b.1, b.2.conditions, b.3, sym (text_lines b.0 b.1 b.2) ∙ b.4)

  module _ (bytes : List ℕ) where
    -- bytes that are a text are read as what it is of
    pub only : (t : Transcript) → IsTextOf names bytes t → transcript_at names (lines_of bytes) ≡ Ok (t, [])
    only t is = ap (transcript_at names) (text_lines bytes t is) ∙ again_whole t is.conditions

    pub ended : (t : Transcript) → IsTextOf names bytes t → is_ended bytes ≡ true
    ended t is = subst (λ (bs : List ℕ). is_ended bs ≡ true) (sym (text_is names t is.conditions) ∙ is.text) (unlines_ended (count_content (length t.items)) (items_lines names t.items ++ replies_lines names t.items t.answers))

    -- what is read to the end, behind a line feed
    pub found : (t : Transcript) → transcript_at names (lines_of bytes) ≡ Ok (t, []) → is_ended bytes ≡ true → IsTextOf names bytes t
    found t e end =
        let taken = (transcript_reads names).takes (lines_of bytes) t [] e in
        let lines : lines_of bytes ≡ transcript_lines names t = taken.0 ∙ append-nil (transcript_lines names t) in
        record { conditions = taken.1; text = text_is names t taken.1 ∙ ap unlines (sym lines) ∙ bytes_again bytes end }

    front_taken : (front left : Lines) (number : ℕ) → lines_of bytes ≡ front ++ left → number + length left ≡ length (lines_of bytes) + 1 → number ≡ length front + 1
    front_taken front left number split e = omega (arith, ap length split, length-append front left)

    before_is : (front left : Lines) (number : ℕ) → lines_of bytes ≡ front ++ left → number ≡ length front + 1 → take (number - 1) (lines_of bytes) ≡ front
    before_is front left number split e =
        let k : number - 1 ≡ length front = omega arith in
        rw (k, split) (take_at front left (length front) refl)

    here_is : (front behind : Lines) (line : List ℕ) (number : ℕ) → lines_of bytes ≡ front ++ (line ∷ behind) → number ≡ length front + 1 → take number (lines_of bytes) ≡ front ++ (line ∷ [])
    here_is front behind line number split e =
        let regrouped : lines_of bytes ≡ (front ++ (line ∷ [])) ++ behind = split ∙ sym (append_assoc front (line ∷ []) behind) in
        let k : number ≡ length (front ++ (line ∷ [])) = omega (arith, length-append front (line ∷ [])) in
        rw (k, regrouped) (take_at (front ++ (line ∷ [])) behind (length (front ++ (line ∷ []))) refl)

    -- no text has the lines of a front and then the next one
    none_here : (front left : Lines) (number : ℕ) → lines_of bytes ≡ front ++ left → number ≡ length front + 1
        → ((line : List ℕ) (behind rest : Lines) (t : Transcript) → left ≡ line ∷ behind → IsTranscript names t → transcript_lines names t ≡ front ++ (line ∷ rest) → ⊥)
        → number ≤ length (lines_of bytes) → ¬ (Begins names (take number (lines_of bytes)))
    none_here front [] number split k wrong within b = absurd (omega (arith, ap length split, length-append front []))
    none_here front (line ∷ behind) number split k wrong within b =
        let t = begun (front ++ (line ∷ [])) (subst (Begins names) (here_is front behind line number split k) b) in
        wrong line behind t.2 t.0 refl t.1 (t.3 ∙ append_assoc front (line ∷ []) t.2)

    -- reading stops at a line, or behind the last
    pub stopped : (left : Lines) (number : ℕ) → transcript_at names (lines_of bytes) ≡ Err left → number + length left ≡ length (lines_of bytes) + 1 → IsFirstFault names bytes number
    stopped left number e count =
        let s = (transcript_reads names).stops (lines_of bytes) left e in
        let k = front_taken s.front left number s.split count in
        record {
          no_text = λ t is. not_both (t, []) left (sym e ∙ only t is);
          from_one = omega (arith, k);
          to_last = omega (arith, count);
          before = subst (Begins names) (sym (before_is s.front left number s.split k)) (begins s.begun s.fits s.front s.rest s.begins);
          here = none_here s.front left number s.split k (λ line behind rest t cons is text. s.wrong line behind cons rest (t, []) (ap (transcript_at names) (sym text) ∙ again_whole t is));
        }

    two_ends : (t u : Transcript) (line : List ℕ) (rest : Lines) → done {A = Transcript × Lines} (t, line ∷ rest) ≡ done (u, []) → ⊥
    two_ends t u line rest e = let h = ok_is (t, line ∷ rest) (u, []) e in let same : line ∷ rest ≡ [] = ap (λ (p : Transcript × Lines). p.1) h in cc

    -- lines are left behind a whole text
    pub trailing : (t : Transcript) (line : List ℕ) (behind : Lines) (number : ℕ) → transcript_at names (lines_of bytes) ≡ Ok (t, line ∷ behind) → number + length (line ∷ behind) ≡ length (lines_of bytes) + 1 → IsFirstFault names bytes number
    trailing t line behind number e count =
        let taken = (transcript_reads names).takes (lines_of bytes) t (line ∷ behind) e in
        let front = transcript_lines names t in
        let k = front_taken front (line ∷ behind) number taken.0 count in
        record {
          no_text = λ u is. two_ends t u line behind (sym e ∙ only u is);
          from_one = omega (arith, k);
          to_last = omega (arith, count);
          before = subst (Begins names) (sym (before_is front (line ∷ behind) number taken.0 k)) (begins t taken.1 front [] (sym (append-nil front)));
          here = none_here front (line ∷ behind) number taken.0 k (λ next later rest u cons is text. two_ends t u next rest (sym (ap (transcript_at names) text ∙ again t taken.1 (next ∷ rest)) ∙ again_whole u is));
        }

    -- the last line has no line feed
    pub unended : (t : Transcript) (number : ℕ) → transcript_at names (lines_of bytes) ≡ Ok (t, []) → is_ended bytes ≡ false → number + 0 ≡ length (lines_of bytes) + 1 → IsFirstFault names bytes number
    unended t number e end count =
        let taken = (transcript_reads names).takes (lines_of bytes) t [] e in
        let front = transcript_lines names t in
        let k = front_taken front [] number taken.0 count in
        record {
          no_text = λ u is. let yes = ended u is in cc;
          from_one = omega (arith, k);
          to_last = omega (arith, count);
          before = subst (Begins names) (sym (before_is front [] number taken.0 k)) (begins t taken.1 front [] (sym (append-nil front)));
          here = λ within b. absurd (omega (arith, count));
        }

    -- ---- what is left is no more than there was

    pub left_behind : (t : Transcript) (left : Lines) → transcript_at names (lines_of bytes) ≡ Ok (t, left) → length left ≤ length (lines_of bytes)
    left_behind t left e =
        let taken = (transcript_reads names).takes (lines_of bytes) t left e in
        omega (arith, ap length taken.0, length-append (transcript_lines names t) left)

    pub left_from : (left : Lines) → transcript_at names (lines_of bytes) ≡ Err left → length left ≤ length (lines_of bytes)
    left_from left e =
        let s = (transcript_reads names).stops (lines_of bytes) left e in
        omega (arith, ap length s.split, length-append s.front left)

    -- what is read but not to the end, or not behind a line feed
    pub unfinished : (t : Transcript) (left : Lines) (number : ℕ) → transcript_at names (lines_of bytes) ≡ Ok (t, left) → (left ≡ [] → is_ended bytes ≡ false) → number + length left ≡ length (lines_of bytes) + 1 → IsFirstFault names bytes number
    unfinished t [] number e end count = unended t number e (end refl) count
    unfinished t (line ∷ behind) number e end count = trailing t line behind number e count

-- a journal has fewer items than lines
pub few_items : (names : NameLists) (lines rest : Lines) (items : List Item) → journal_at names lines ≡ Ok (items, rest) → length items ≤ length lines
few_items names lines rest items e =
    let taken = (journal_reads names).takes lines items rest e in
    omega (arith, ap length taken.0, length-append (journal_lines names items) rest, length-map items (item_content names))

-- one text, one transcript
pub one_text : (names : NameLists) (bytes : List ℕ) (t u : Transcript) → ContractsNamed names → IsTextOf names bytes t → IsTextOf names bytes u → t ≡ u
one_text names bytes t u named is also =
    let same = ok_is (t, []) (u, []) (sym (only names named bytes t is) ∙ only names named bytes u also) in ap (λ (p : Transcript × Lines). p.0) same
