-- Lines: what is read is what is written, and what is written is read again.
use Rattle.std.proofs.Common.{◌≡◌, ℕ, ◌<◌, ◌==◌, Bool, true, false, not, cond, ℤ, List, [], ◌∷◌, ◌++◌, length, get_or, take, Option, Some, None, decimal, refl, sym, ◌∙◌, ap, subst, length-append, arith}
use Rattle.std.specs.List.{AllByRecursion, list_all}
use Rattle.std.specs.Option.{option_and_then}
use Rattle.std.specs.Prelude.{codes}
use Rattle.std.specs.Str.{bytes_eq}
use Rattle.std.proofs.lemmas.Bool.{and_parts, and_from}
use Rattle.std.proofs.lemmas.Bool.Decides.{nat_tests}
use Rattle.std.proofs.lemmas.List.{take_at}
use Rattle.std.proofs.lemmas.List.Folds.{list_all-append}
use Rattle.act_num.specs.Decimal.{printed}
use Rattle.act_date.specs.Civil.{IsDay}
use Rattle.act_date.specs.Text.{date_text}
use Rattle.act_model.specs.Name.{is_graphic}
use Rattle.act_model.specs.Names.{NameLists}
use Rattle.act_model.specs.declared.event.EventType.{EventType}
use Rattle.act_model.specs.declared.run.Close.{Close}
use Rattle.act_model.specs.declared.run.Close.TheVariants.{End, Missing, Overflow}
use Rattle.act_text.specs.Lines.{cells_text, close_text, name_of, type_text}
use Rattle.act_print.specs.Conditions.{IsClose, IsNumberOf, IsRow}
use Rattle.act_print.specs.LineWords.{close_of_line, count_of_line, missing_words, overflow_words, row_of_line, stop_words}
use Rattle.act_print.specs.Text.{journal_head_text, printed_row_text}
use Rattle.act_print.specs.Words.{◌>>=◌, count_word, day_word, type_word, value_at, word_at}
use Rattle.act_print.specs.declared.printed.PrintedRow.{PrintedRow}
use Rattle.act_print.proofs.Spaces.{at_again, at_takes, line_is, spaced, word_again, word_takes}
use Rattle.act_print.proofs.WordLaws.{IsCount, ReadsWord, bind_some, count_reads, day_reads, if_some, name_reads, number_reads, same_bytes, some_is, type_reads}

-- ---- bytes other than a line feed

abbrev pub is_plain : ℕ → Bool
is_plain byte = not (byte == 10)

-- what is read is what is written, what is written is read again, and it has no line feed
pub record ReadsLine {A : Type 0} (read : List ℕ → Option A) (text : A → List ℕ) (Fits : A → Type 0) : Type 0 where
  pub takes : (line : List ℕ) (x : A) → read line ≡ Some x → (line ≡ text x) × Fits x
  pub again : (x : A) → Fits x → read (text x) ≡ Some x
  pub plain : (x : A) → Fits x → list_all is_plain (text x) ≡ true

graphic_plain : (byte : ℕ) → is_graphic byte ≡ true → is_plain byte ≡ true
graphic_plain byte e = grind (arith, nat_tests)

pub plain_word : (word : List ℕ) → list_all is_graphic word ≡ true → list_all is_plain word ≡ true
plain_word [] e = refl
plain_word (byte ∷ word) e =
    let parts = and_parts _ _ e in and_from _ _ (graphic_plain byte parts.0) (plain_word word parts.1)

pub plain_spaced : (word : List ℕ) (words : List (List ℕ)) → list_all is_graphic word ≡ true → AllByRecursion (λ w. list_all is_graphic w ≡ true) words → list_all is_plain (spaced word words) ≡ true
plain_spaced word [] first others = plain_word word first
plain_spaced word (next ∷ words) first others =
    list_all-append is_plain word (32 ∷ spaced next words) ∙ and_from _ _ (plain_word word first) (plain_spaced next words others.0 others.1)

-- a word in front of what stands behind it
pub joins : (line word rest tail : List ℕ) → line ≡ word ++ (32 ∷ rest) → rest ≡ tail → line ≡ word ++ (32 ∷ tail)
joins line word rest tail e h = e ∙ ap (λ (text : List ℕ). word ++ (32 ∷ text)) h

-- ---- a value in front, and what is made of it and of what stands behind

module _ {A : Type 0} {read : List ℕ → Option A} {text : A → List ℕ} {Fits : A → Type 0} (reads : ReadsWord read text Fits) where
  pub step : {B : Type 0} (line : List ℕ) (f : A × List ℕ → Option B) (y : B) → option_and_then f (value_at read line) ≡ Some y
      → (x : A × List ℕ) × (line ≡ text x.0 ++ (32 ∷ x.1)) × Fits x.0 × (f x ≡ Some y)
  step line f y e =
      let first = bind_some (value_at read line) f y e in
      let taken = at_takes reads line first.0.0 first.0.1 first.1 in
      (first.0, taken.0, taken.1, first.2)

-- ---- a line without its line feed

pub without_feed : (line content : List ℕ) → line ++ codes "\n" ≡ content ++ codes "\n" → line ≡ content
without_feed line content e =
    let size : length line ≡ length content = omega (arith, ap length e, length-append line (codes "\n"), length-append content (codes "\n")) in
    sym (take_at line (codes "\n") (length content) size) ∙ ap (take (length content)) e ∙ take_at content (codes "\n") (length content) refl

-- ---- rows

module _ {D K C N R : Type 0} {rd : List ℕ → Option D} {td : D → List ℕ} {FD : D → Type 0} {rk : List ℕ → Option K} {tk : K → List ℕ} {FK : K → Type 0}
    {rc : List ℕ → Option C} {tc : C → List ℕ} {FC : C → Type 0} {rn : List ℕ → Option N} {tn : N → List ℕ} {FN : N → Type 0}
    (dw : ReadsWord rd td FD) (kw : ReadsWord rk tk FK) (cw : ReadsWord rc tc FC) (nw : ReadsWord rn tn FN) (make : D → K → C → N → N → N → N → R) where
  -- seven words in turn
  abbrev cells_by : List ℕ → Option R
  cells_by line = do
    d ← value_at rd line
    k ← value_at rk d.1
    c ← value_at rc k.1
    p ← value_at rn c.1
    n ← value_at rn p.1
    r ← value_at rn n.1
    a ← rn r.1
    Some (make d.0 k.0 c.0 p.0 n.0 r.0 a)

  abbrev cells : D → K → C → N → N → N → N → List ℕ
  cells d k c p n r a = spaced (td d) (tk k ∷ tc c ∷ tn p ∷ tn n ∷ tn r ∷ tn a ∷ [])

  cells_again : (d : D) (k : K) (c : C) (p n r a : N) → FD d → FK k → FC c → FN p → FN n → FN r → FN a → cells_by (cells d k c p n r a) ≡ Some (make d k c p n r a)
  cells_again d k c p n r a hd hk hc hp hn hr ha =
      rw (
        at_again dw d (spaced (tk k) (tc c ∷ tn p ∷ tn n ∷ tn r ∷ tn a ∷ [])) hd,
        at_again kw k (spaced (tc c) (tn p ∷ tn n ∷ tn r ∷ tn a ∷ [])) hk,
        at_again cw c (spaced (tn p) (tn n ∷ tn r ∷ tn a ∷ [])) hc,
        at_again nw p (spaced (tn n) (tn r ∷ tn a ∷ [])) hp,
        at_again nw n (spaced (tn r) (tn a ∷ [])) hn,
        at_again nw r (tn a) hr,
        nw.again a ha,
      ) refl

  record Cells (line : List ℕ) (x : R) : Type 0 where
    d : D
    k : K
    c : C
    p : N
    n : N
    r : N
    a : N
    same : make d k c p n r a ≡ x
    text : line ≡ cells d k c p n r a
    hd : FD d
    hk : FK k
    hc : FC c
    hp : FN p
    hn : FN n
    hr : FN r
    ha : FN a

  cells_take : (line : List ℕ) (x : R) → cells_by line ≡ Some x → Cells line x
  cells_take line x e =
      let a0 = step dw line _ x e in
      let a1 = step kw a0.0.1 _ x a0.3 in
      let a2 = step cw a1.0.1 _ x a1.3 in
      let a3 = step nw a2.0.1 _ x a2.3 in
      let a4 = step nw a3.0.1 _ x a3.3 in
      let a5 = step nw a4.0.1 _ x a4.3 in
      let a6 = bind_some (rn a5.0.1) _ x a5.3 in
      let last = nw.takes a5.0.1 a6.0 a6.1 in
      record {
        d = a0.0.0;
        k = a1.0.0;
        c = a2.0.0;
        p = a3.0.0;
        n = a4.0.0;
        r = a5.0.0;
        a = a6.0;
        same = some_is _ x a6.2;
        text = joins _ _ _ _ a0.1 (joins _ _ _ _ a1.1 (joins _ _ _ _ a2.1 (joins _ _ _ _ a3.1 (joins _ _ _ _ a4.1 (joins _ _ _ _ a5.1 last.0)))));
        hd = a0.2;
        hk = a1.2;
        hc = a2.2;
        hp = a3.2;
        hn = a4.2;
        hr = a5.2;
        ha = last.1;
      }

abbrev row_words : NameLists → PrintedRow → List (List ℕ)
row_words names row = type_text row.kind ∷ name_of names.currencies row.currency ∷ printed row.payoff ∷ printed row.nt ∷ printed row.ipnr ∷ printed row.ipac ∷ []

-- the line of a row, without its line feed
pub row_content : NameLists → PrintedRow → List ℕ
row_content names row = spaced (date_text row.day) (row_words names row)

abbrev make_row : ℤ → EventType → ℕ → ℤ → ℤ → ℤ → ℤ → PrintedRow
make_row day kind currency payoff nt ipnr ipac = record { day = day; kind = kind; currency = currency; payoff = payoff; nt = nt; ipnr = ipnr; ipac = ipac }

module _ (names : NameLists) where
  row_takes : (line : List ℕ) (row : PrintedRow) → row_of_line names line ≡ Some row → (line ≡ row_content names row) × IsRow names row
  unfolding row_of_line row_content
  row_takes line row e =
      let t = cells_take day_reads type_reads (name_reads names.currencies) number_reads make_row line row e in
      subst (λ (x : PrintedRow). (line ≡ row_content names x) × IsRow names x) t.same
      (t.text, record { day = t.hd; currency = t.hc; payoff = t.hp; nt = t.hn; ipnr = t.hr; ipac = t.ha })

  row_again : (row : PrintedRow) → IsRow names row → row_of_line names (row_content names row) ≡ Some row
  unfolding row_of_line row_content
  row_again row is =
      cells_again day_reads type_reads (name_reads names.currencies) number_reads make_row row.day row.kind row.currency row.payoff row.nt row.ipnr row.ipac is.day tt is.currency is.payoff is.nt is.ipnr is.ipac

  row_plain : (row : PrintedRow) → IsRow names row → list_all is_plain (row_content names row) ≡ true
  unfolding row_content
  row_plain row is =
      plain_spaced (date_text row.day) (row_words names row) (day_reads.graphic row.day is.day)
      (type_reads.graphic row.kind tt, ((name_reads names.currencies).graphic row.currency is.currency, (number_reads.graphic row.payoff is.payoff, (number_reads.graphic row.nt is.nt, (number_reads.graphic row.ipnr is.ipnr, (number_reads.graphic row.ipac is.ipac, tt))))))

  pub row_reads : ReadsLine (row_of_line names) (row_content names) (IsRow names)
  row_reads = record { takes = row_takes; again = row_again; plain = row_plain }

  pub row_text_is : (row : PrintedRow) → printed_row_text names row ≡ row_content names row ++ codes "\n"
  unfolding cells_text row_content
  row_text_is row = line_is (date_text row.day) (row_words names row)

-- ---- how rows close

-- the line of how rows close, without its line feed
pub close_content : NameLists → Close → List ℕ
close_content names End = codes "end"
close_content names (Missing code day) = spaced (codes "missing") (name_of names.codes code ∷ date_text day ∷ [])
close_content names (Overflow day kind) = spaced (codes "overflow") (date_text day ∷ type_text kind ∷ [])

module _ (names : NameLists) where
  missing_again : (code : ℕ) (day : ℤ) → IsNumberOf names.codes code → IsDay day → missing_words names (spaced (name_of names.codes code) (date_text day ∷ [])) ≡ Some (Missing code day)
  unfolding missing_words
  missing_again code day named is = rw (at_again (name_reads names.codes) code (date_text day) named, day_reads.again day is) refl

  overflow_again : (day : ℤ) (kind : EventType) → IsDay day → overflow_words (spaced (date_text day) (type_text kind ∷ [])) ≡ Some (Overflow day kind)
  unfolding overflow_words
  overflow_again day kind is = rw (at_again day_reads day (type_text kind) is, type_reads.again kind tt) refl

  close_again : (close : Close) → IsClose names close → close_of_line names (close_content names close) ≡ Some close
  unfolding close_of_line close_content stop_words
  close_again End is = refl
  close_again (Missing code day) is = rw (word_again (codes "missing") (spaced (name_of names.codes code) (date_text day ∷ [])) refl) (missing_again code day is.0 is.1)
  close_again (Overflow day kind) is = rw (word_again (codes "overflow") (spaced (date_text day) (type_text kind ∷ [])) refl) (overflow_again day kind is)

  -- the line closes so
  abbrev Closes : List ℕ → Close → Type 0
  Closes line close = (line ≡ close_content names close) × IsClose names close

  missing_takes : (line text : List ℕ) (close : Close) → line ≡ codes "missing" ++ (32 ∷ text) → missing_words names text ≡ Some close → Closes line close
  unfolding missing_words close_content
  missing_takes line text close front e =
      let code = step (name_reads names.codes) text _ close e in
      let day = bind_some (day_word code.0.1) _ close code.3 in
      let last = day_reads.takes code.0.1 day.0 day.1 in
      subst (Closes line) (some_is (Missing code.0.0 day.0) close day.2) (joins _ (codes "missing") _ _ front (joins _ (name_of names.codes code.0.0) _ _ code.1 last.0), (code.2, last.1))

  overflow_takes : (line text : List ℕ) (close : Close) → line ≡ codes "overflow" ++ (32 ∷ text) → overflow_words text ≡ Some close → Closes line close
  unfolding overflow_words close_content
  overflow_takes line text close front e =
      let day = step day_reads text _ close e in
      let kind = bind_some (type_word day.0.1) _ close day.3 in
      let last = type_reads.takes day.0.1 kind.0 kind.1 in
      subst (Closes line) (some_is (Overflow day.0.0 kind.0) close kind.2) (joins _ (codes "overflow") _ _ front (joins _ (date_text day.0.0) _ _ day.1 last.0), day.2)

  stop_takes : (line word text : List ℕ) (close : Close) → line ≡ word ++ (32 ∷ text) → stop_words names word text ≡ Some close → Closes line close
  unfolding stop_words
  stop_takes line word text close front e = by (bytes_eq word (codes "missing")) (bytes_eq word (codes "overflow")) refl refl e where
    by : (missing overflow : Bool) → bytes_eq word (codes "missing") ≡ missing → bytes_eq word (codes "overflow") ≡ overflow
        → cond missing (missing_words names text) (cond overflow (overflow_words text) None) ≡ Some close → Closes line close
    by true overflow is other e = missing_takes line text close (front ∙ ap (λ (w : List ℕ). w ++ (32 ∷ text)) (same_bytes word (codes "missing") is)) e
    by false true not is e = overflow_takes line text close (front ∙ ap (λ (w : List ℕ). w ++ (32 ∷ text)) (same_bytes word (codes "overflow") is)) e
    by false false not other e = absurd (cc)

  close_takes : (line : List ℕ) (close : Close) → close_of_line names line ≡ Some close → Closes line close
  unfolding close_of_line close_content
  close_takes line close e = by (bytes_eq line (codes "end")) refl e where
    by : (ends : Bool) → bytes_eq line (codes "end") ≡ ends → cond ends (Some End) (option_and_then (λ word. stop_words names word.0 word.1) (word_at line)) ≡ Some close → Closes line close
    by true is e = subst (Closes line) (some_is End close e) (same_bytes line (codes "end") is, tt)
    by false not e =
        let word = bind_some (word_at line) (λ word. stop_words names word.0 word.1) close e in
        stop_takes line word.0.0 word.0.1 close (word_takes line word.0.0 word.0.1 word.1) word.2

  close_plain : (close : Close) → IsClose names close → list_all is_plain (close_content names close) ≡ true
  unfolding close_content
  close_plain End is = refl
  close_plain (Missing code day) is = plain_spaced (codes "missing") (name_of names.codes code ∷ date_text day ∷ []) refl ((name_reads names.codes).graphic code is.0, (day_reads.graphic day is.1, tt))
  close_plain (Overflow day kind) is = plain_spaced (codes "overflow") (date_text day ∷ type_text kind ∷ []) refl (day_reads.graphic day is, (type_reads.graphic kind tt, tt))

  pub close_reads : ReadsLine (close_of_line names) (close_content names) (IsClose names)
  close_reads = record { takes = close_takes; again = close_again; plain = close_plain }

  pub close_text_is : (close : Close) → close_text names close ≡ close_content names close ++ codes "\n"
  unfolding close_text close_content
  close_text_is End = refl
  close_text_is (Missing code day) = line_is (codes "missing") (name_of names.codes code ∷ date_text day ∷ [])
  close_text_is (Overflow day kind) = line_is (codes "overflow") (date_text day ∷ type_text kind ∷ [])

-- ---- a row begins with a digit, and a close doesn't

pub row_first : (names : NameLists) (row : PrintedRow) → get_or (row_content names row) 0 0 < 58
unfolding row_content
row_first names row = omega arith

pub close_first : (names : NameLists) (close : Close) → 100 < get_or (close_content names close) 0 0
unfolding close_content
close_first names End = omega arith
close_first names (Missing code day) = omega arith
close_first names (Overflow day kind) = omega arith

-- ---- counts

-- the line above a journal, without its line feed
pub count_content : ℕ → List ℕ
count_content n = spaced (codes "journal") (decimal n ∷ [])

count_line_takes : (line : List ℕ) (n : ℕ) → count_of_line line ≡ Some n → (line ≡ count_content n) × IsCount n
unfolding count_of_line count_content
count_line_takes line n e =
    let word = bind_some (word_at line) _ n e in
    let both = if_some (bytes_eq word.0.0 (codes "journal")) (count_word word.0.1) n word.2 in
    let last = count_reads.takes word.0.1 n both.1 in
    (joins _ (codes "journal") _ _ (word_takes line word.0.0 word.0.1 word.1 ∙ ap (λ (w : List ℕ). w ++ (32 ∷ word.0.1)) (same_bytes word.0.0 (codes "journal") both.0)) last.0, last.1)

count_line_again : (n : ℕ) → IsCount n → count_of_line (count_content n) ≡ Some n
unfolding count_of_line count_content
count_line_again n h = rw (word_again (codes "journal") (decimal n) refl) (count_reads.again n h)

count_line_plain : (n : ℕ) → IsCount n → list_all is_plain (count_content n) ≡ true
unfolding count_content
count_line_plain n h = plain_spaced (codes "journal") (decimal n ∷ []) refl (count_reads.graphic n h, tt)

pub count_line_reads : ReadsLine count_of_line count_content IsCount
count_line_reads = record { takes = count_line_takes; again = count_line_again; plain = count_line_plain }

pub count_text_is : (n : ℕ) → journal_head_text n ≡ count_content n ++ codes "\n"
unfolding journal_head_text count_content
count_text_is n = line_is (codes "journal") (decimal n ∷ [])
