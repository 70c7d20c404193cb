-- The parts of a text: what is read is what is written, and what is written is read again.
use Rattle.std.proofs.Common.{◌≡◌, ℕ, zero, suc, ◌^◌, ◌<◌, true, List, [], ◌∷◌, ◌++◌, length, get_or, map, Option, Some, None, Ok, Err, decimal, refl, sym, ◌∙◌, ap, subst, arith}
use Rattle.std.specs.List.{AllByRecursion, flat_map, list_all}
use Rattle.std.specs.Prelude.{codes, ⊤}
use Rattle.std.specs.Str.{bytes_eq}
use Rattle.act_model.specs.Name.{is_name}
use Rattle.act_model.specs.Names.{NameLists}
use Rattle.act_model.specs.declared.journal.Asked.TheVariants.{All}
use Rattle.act_model.specs.declared.journal.Item.{Item}
use Rattle.act_model.specs.declared.journal.Step.TheVariants.{Ask}
use Rattle.act_model.specs.declared.run.Close.{Close}
use Rattle.act_model.specs.declared.run.Close.TheVariants.{End}
use Rattle.act_text.specs.Lines.{name_of}
use Rattle.act_model.specs.Asks.{asks_of}
use Rattle.act_model.specs.Journal.{contracts_of}
use Rattle.act_print.specs.Conditions.{Due, IsBlock, IsClose, IsItem, IsRow, IsTranscript, due_to_ask, due_in_answer}
use Rattle.act_print.specs.LineWords.{close_of_line, count_of_line, item_of_line, row_of_line}
use Rattle.act_print.specs.Printed.{Block, Response, Transcript}
use Rattle.act_print.specs.Reading.{Lines, Reading, answer_at, answers_at, block_at, blocks_at, is_line, items_at, journal_at, line_by, replies_at, row_or_close, rows_at, transcript_at, with_row}
use Rattle.act_print.specs.Text.{answers_head_text, block_head_text, answer_head_text}
use Rattle.act_model.specs.declared.asks.Asking.{Asking}
use Rattle.act_print.specs.declared.printed.PrintedRow.{PrintedRow}
use Rattle.act_print.proofs.ItemLaws.{item_content, item_reads}
use Rattle.act_print.proofs.LineLaws.{close_content, close_first, close_reads, count_content, count_line_reads, is_plain, plain_spaced, row_content, row_first, row_reads, without_feed}
use Rattle.act_print.proofs.Readers.{Reads, Stops, err_is, failed, line_reads, not_both, ok_is, then_reads}
use Rattle.act_print.proofs.Spaces.{line_is, spaced}
use Rattle.act_print.proofs.WordLaws.{IsCount, bytes_same, graphic_wide, if_some, name_is_graphic, same_bytes}

-- ---- items

module _ (names : NameLists) where
  -- so many items
  abbrev pub AreItems : ℕ → List Item → Type 0
  AreItems n items = (length items ≡ n) × AllByRecursion (IsItem names) items

  abbrev pub items_lines : List Item → Lines
  items_lines items = map (item_content names) items

  abbrev an_ask : Item
  an_ask = record { caller = 1; step = Ask All }

  an_ask_is : IsItem names an_ask
  an_ask_is = record { caller_from = omega arith; caller_to = omega arith; step = tt }

  one_item : Reads (line_by (item_of_line names)) (λ item. item_content names item ∷ []) (IsItem names)
  one_item = line_reads (item_reads names).takes (item_reads names).again an_ask an_ask_is

  no_items : (items : List Item) → length items ≡ 0 → items ≡ []
  no_items [] e = refl
  no_items (item ∷ items) e = absurd (omega arith)

  items_reads : (n : ℕ) → Reads (items_at names n) items_lines (AreItems n)
  unfolding items_at
  items_reads zero = record {
    some = [];
    some_fits = (refl, tt);
    takes = λ lines items rest e.
        let parts = ok_is ([], lines) (items, rest) e in
        subst (λ (p : List Item × Lines). (lines ≡ items_lines p.0 ++ p.1) × AreItems 0 p.0) parts (refl, (refl, tt));
    again = λ items fits rest. let none = no_items items fits.0 in rw none refl;
    stops = λ lines left e. absurd (not_both ([], lines) left (sym e));
  }
  items_reads (suc n) =
      then_reads one_item (λ item is. items_reads n) (λ item items. item ∷ items) items_lines (AreItems (suc n)) parts
      (λ item items is are. (omega (arith, are.0), (is, are.1))) (λ item items is are. refl) where
        parts : (items : List Item) → AreItems (suc n) items → (item : Item) × (others : List Item) × IsItem names item × AreItems n others × (item ∷ others ≡ items)
        parts [] are = absurd (omega (arith, are.0))
        parts (item ∷ items) are = (item, items, are.1.0, (omega (arith, are.0), are.1.1), refl)

  -- ---- journals

  abbrev pub JournalFits : List Item → Type 0
  JournalFits items = (length items < 2 ^ 64) × AllByRecursion (IsItem names) items

  abbrev pub journal_lines : List Item → Lines
  journal_lines items = count_content (length items) ∷ items_lines items

  one_count : Reads (line_by count_of_line) (λ n. count_content n ∷ []) IsCount
  one_count = line_reads count_line_reads.takes count_line_reads.again 0 (omega arith)

  pub journal_reads : Reads (journal_at names) journal_lines JournalFits
  unfolding journal_at
  journal_reads =
      then_reads one_count (λ n is. items_reads n) (λ n items. items) journal_lines JournalFits (λ items is. (length items, items, is.0, (refl, is.1), refl))
      (λ n items is are. (omega (arith, is, are.0), are.1)) (λ n items is are. ap (λ (k : ℕ). count_content k ∷ items_lines items) are.0)

  -- ---- rows

  abbrev Rows : Type 0
  Rows = List PrintedRow × Close

  abbrev pub rows_lines : Rows → Lines
  rows_lines rows = map (row_content names) rows.0 ++ (close_content names rows.1 ∷ [])

  abbrev pub AreRows : Rows → Type 0
  AreRows rows = AllByRecursion (IsRow names) rows.0 × IsClose names rows.1

  no_close : (row : PrintedRow) (o : Option Close) → close_of_line names (row_content names row) ≡ o → o ≡ None
  no_close row None e = refl
  no_close row (Some close) e =
      let same = ap (λ (t : List ℕ). get_or t 0 0) ((close_reads names).takes (row_content names row) close e).0 in
      absurd (omega (arith, same, row_first names row, close_first names close))

  rows_step : (line : List ℕ) (lines : Lines) (close : Option Close) (row : Option PrintedRow) → close_of_line names line ≡ close → row_of_line names line ≡ row → rows_at names (line ∷ lines) ≡ row_or_close close row line lines (rows_at names lines)
  unfolding rows_at
  rows_step line lines close row c r = rw (c, r) refl

  with_ok : (row : PrintedRow) (others : Reading Rows) (x : Rows × Lines) → with_row row others ≡ Ok x → (y : Rows × Lines) × (others ≡ Ok y) × (((row ∷ y.0.0, y.0.1), y.1) ≡ x)
  with_ok row (Ok y) x e = (y, refl, ok_is ((row ∷ y.0.0, y.0.1), y.1) x e)
  with_ok row (Err left) x e = absurd (cc)

  with_err : (row : PrintedRow) (others : Reading Rows) (left : Lines) → with_row row others ≡ Err left → others ≡ Err left
  with_err row (Ok y) left e = absurd (cc)
  with_err row (Err l) left e = let same : l ≡ left = err_is (Rows × Lines) l left e in ap (failed (Rows × Lines)) same

  rows_take : (lines : Lines) (rows : Rows) (rest : Lines) → rows_at names lines ≡ Ok (rows, rest) → (lines ≡ rows_lines rows ++ rest) × AreRows rows
  unfolding rows_at
  rows_take [] rows rest e = absurd (cc)
  rows_take (line ∷ lines) rows rest e = by (close_of_line names line) (row_of_line names line) refl refl (rows_take lines) e where
    by : (close : Option Close) (row : Option PrintedRow) → close_of_line names line ≡ close → row_of_line names line ≡ row
        → ((rows : Rows) (rest : Lines) → rows_at names lines ≡ Ok (rows, rest) → (lines ≡ rows_lines rows ++ rest) × AreRows rows)
        → row_or_close close row line lines (rows_at names lines) ≡ Ok (rows, rest) → (line ∷ lines ≡ rows_lines rows ++ rest) × AreRows rows
    by (Some close) row c r later e =
        let taken = (close_reads names).takes line close c in
        subst (λ (p : Rows × Lines). (line ∷ lines ≡ rows_lines p.0 ++ p.1) × AreRows p.0) (ok_is (([], close), lines) (rows, rest) e) (ap (λ (l : List ℕ). l ∷ lines) taken.0, (tt, taken.1))
    by None (Some row) c r later e =
        let taken = (row_reads names).takes line row r in
        let y = with_ok row (rows_at names lines) (rows, rest) e in
        let others = later y.0.0 y.0.1 y.1 in
        subst (λ (p : Rows × Lines). (line ∷ lines ≡ rows_lines p.0 ++ p.1) × AreRows p.0) y.2 (rw taken.0 (ap (λ (t : Lines). row_content names row ∷ t) others.0), ((taken.1, others.1.0), others.1.1))
    by None None c r later e = absurd (cc)

  rows_again : (rows : List PrintedRow) (close : Close) → AllByRecursion (IsRow names) rows → IsClose names close → (rest : Lines) → rows_at names (rows_lines (rows, close) ++ rest) ≡ Ok ((rows, close), rest)
  rows_again [] close are is rest =
      rows_step (close_content names close) rest (Some close) (row_of_line names (close_content names close)) ((close_reads names).again close is) refl
  rows_again (row ∷ rows) close are is rest =
      rows_step (row_content names row) (rows_lines (rows, close) ++ rest) None (Some row) (no_close row (close_of_line names (row_content names row)) refl) ((row_reads names).again row are.0)
      ∙ ap (with_row row) (rows_again rows close are.1 is rest)

  abbrev RowsStop : Lines → Lines → Type 0
  RowsStop lines left = Stops (rows_at names) rows_lines AreRows lines left

  no_rows : Rows
  no_rows = ([], End)

  rows_stop : (lines left : Lines) → rows_at names lines ≡ Err left → RowsStop lines left
  unfolding rows_at no_rows
  rows_stop [] left e =
      let none : [] ≡ left = err_is (Rows × Lines) [] left e in
      record { front = []; split = none; begun = no_rows; fits = (tt, tt); rest = rows_lines no_rows; begins = refl; wrong = λ line behind is. absurd (let h = none ∙ is in cc) }
  rows_stop (line ∷ lines) left e = by (close_of_line names line) (row_of_line names line) refl refl (rows_stop lines left) e where
    by : (close : Option Close) (row : Option PrintedRow) → close_of_line names line ≡ close → row_of_line names line ≡ row
        → (rows_at names lines ≡ Err left → RowsStop lines left) → row_or_close close row line lines (rows_at names lines) ≡ Err left → RowsStop (line ∷ lines) left
    by (Some close) row c r later e = absurd (cc)
    by None None c r later e =
        let all : line ∷ lines ≡ left = err_is (Rows × Lines) (line ∷ lines) left e in
        record {
          front = [];
          split = all;
          begun = no_rows;
          fits = (tt, tt);
          rest = rows_lines no_rows;
          begins = refl;
          wrong = λ other behind cons more x ok.
              let same : line ≡ other = let h = all ∙ cons in cc in
              not_both x (other ∷ more) (sym (rows_step other more None None (ap (close_of_line names) (sym same) ∙ c) (ap (row_of_line names) (sym same) ∙ r)) ∙ ok);
        }
    by None (Some row) c r later e =
        let taken = (row_reads names).takes line row r in
        let s = later (with_err row (rows_at names lines) left e) in
        record {
          front = line ∷ s.front;
          split = ap (λ (t : Lines). line ∷ t) s.split;
          begun = (row ∷ s.begun.0, s.begun.1);
          fits = ((taken.1, s.fits.0), s.fits.1);
          rest = s.rest;
          begins = rw taken.0 (ap (λ (t : Lines). row_content names row ∷ t) s.begins);
          wrong = λ other behind cons more x ok.
              let y = with_ok row (rows_at names (s.front ++ (other ∷ more))) x (sym (rows_step line (s.front ++ (other ∷ more)) None (Some row) c r) ∙ ok) in
              s.wrong other behind cons more y.0 y.1;
        }

  rows_reads : Reads (rows_at names) rows_lines AreRows
  unfolding no_rows
  rows_reads = record { some = no_rows; some_fits = (tt, tt); takes = rows_take; again = λ rows are rest. rows_again rows.0 rows.1 are.0 are.1 rest; stops = rows_stop }

  -- ---- a line that is given

  fixed_takes : (text content : List ℕ) → text ≡ content ++ codes "\n" → (line : List ℕ) (u : Unit {0}) → is_line text line ≡ Some u → (line ≡ content) × ⊤
  fixed_takes text content is line u e =
      (without_feed line content (same_bytes (line ++ codes "\n") text (if_some (bytes_eq (line ++ codes "\n") text) (Some tt) u e).0 ∙ is), tt)

  fixed_again : (text content : List ℕ) → text ≡ content ++ codes "\n" → (u : Unit {0}) → ⊤ → is_line text content ≡ Some u
  fixed_again text content is u any = rw (bytes_same (content ++ codes "\n") text (sym is)) refl

  fixed_reads : (text content : List ℕ) → text ≡ content ++ codes "\n" → Reads (line_by (is_line text)) (λ u. content ∷ []) (λ u. ⊤)
  fixed_reads text content is = line_reads (fixed_takes text content is) (fixed_again text content is) tt tt

  -- ---- blocks

  -- the line above the rows of a contract, without its line feed
  pub block_content : ℕ → List ℕ
  block_content contract = spaced (codes "contract") (name_of names.contracts contract ∷ [])

  pub block_text_is : (contract : ℕ) → block_head_text names contract ≡ block_content contract ++ codes "\n"
  unfolding block_head_text block_content
  block_text_is contract = line_is (codes "contract") (name_of names.contracts contract ∷ [])

  pub block_head_plain : (contract : ℕ) → is_name (name_of names.contracts contract) ≡ true → list_all is_plain (block_content contract) ≡ true
  unfolding block_content
  block_head_plain contract named = plain_spaced (codes "contract") (name_of names.contracts contract ∷ []) refl (name_is_graphic (name_of names.contracts contract) named, tt)

  abbrev pub block_lines : Block → Lines
  block_lines block = block_content block.contract ∷ rows_lines (block.rows, block.close)

  abbrev IsBlockOf : ℕ → Block → Type 0
  IsBlockOf contract block = (block.contract ≡ contract) × IsBlock names block

  block_reads : (contract : ℕ) → Reads (block_at names contract) block_lines (IsBlockOf contract)
  unfolding block_at
  block_reads contract =
      then_reads (fixed_reads (block_head_text names contract) (block_content contract) (block_text_is contract)) (λ u any. rows_reads)
      (λ u rows. record { contract = contract; rows = rows.0; close = rows.1 }) block_lines (IsBlockOf contract)
      (λ block is. (tt, (block.rows, block.close), tt, (is.1.rows, is.1.close), same block is.0))
      (λ u rows any are. (refl, record { rows = are.0; close = are.1 })) (λ u rows any are. refl) where
        same : (block : Block) → block.contract ≡ contract → record { contract = contract; rows = block.rows; close = block.close } ≡ block
        same block e = ap (λ (c : ℕ). record { contract = c; rows = block.rows; close = block.close }) (sym e)

  abbrev AreBlocks : List ℕ → List Block → Type 0
  AreBlocks contracts blocks = (map (λ block. block.contract) blocks ≡ contracts) × AllByRecursion (IsBlock names) blocks

  abbrev pub blocks_lines : List Block → Lines
  blocks_lines blocks = flat_map block_lines blocks

  blocks_reads : (contracts : List ℕ) → Reads (blocks_at names contracts) blocks_lines (AreBlocks contracts)
  unfolding blocks_at
  blocks_reads [] = record {
    some = [];
    some_fits = (refl, tt);
    takes = λ lines blocks rest e.
        let parts = ok_is ([], lines) (blocks, rest) e in
        subst (λ (p : List Block × Lines). (lines ≡ blocks_lines p.0 ++ p.1) × AreBlocks [] p.0) parts (refl, (refl, tt));
    again = λ blocks are rest. let none = no_blocks blocks are.0 in rw none refl;
    stops = λ lines left e. absurd (not_both ([], lines) left (sym e));
  } where
    no_blocks : (blocks : List Block) → map (λ block. block.contract) blocks ≡ [] → blocks ≡ []
    no_blocks [] e = refl
    no_blocks (block ∷ blocks) e = absurd (cc)
  blocks_reads (contract ∷ contracts) =
      then_reads (block_reads contract) (λ block is. blocks_reads contracts) (λ block blocks. block ∷ blocks) blocks_lines (AreBlocks (contract ∷ contracts)) parts
      (λ block blocks is are. (rw (is.0, are.0) refl, (is.1, are.1))) (λ block blocks is are. refl) where
        parts : (blocks : List Block) → AreBlocks (contract ∷ contracts) blocks → (block : Block) × (others : List Block) × IsBlockOf contract block × AreBlocks contracts others × (block ∷ others ≡ blocks)
        parts [] are = absurd (let h = are.0 in cc)
        parts (block ∷ blocks) are =
            let e = are.0 in
            let first : block.contract ≡ contract = cc in
            let later : map (λ block. block.contract) blocks ≡ contracts = cc in
            (block, blocks, (first, are.1.0), (later, are.1.1), refl)

  -- ---- answers

  -- the line above an answer, without its line feed
  pub head_content : ℕ → ℕ → ℕ → List ℕ
  head_content caller number version = spaced (codes "answer") (decimal caller ∷ decimal number ∷ decimal version ∷ [])

  pub head_text_is : (caller number version : ℕ) → answer_head_text caller number version ≡ head_content caller number version ++ codes "\n"
  unfolding answer_head_text head_content
  head_text_is caller number version = line_is (codes "answer") (decimal caller ∷ decimal number ∷ decimal version ∷ [])

  pub head_plain : (caller number version : ℕ) → caller < 10 ^ 64 → number < 10 ^ 64 → version < 10 ^ 64 → list_all is_plain (head_content caller number version) ≡ true
  unfolding head_content
  head_plain caller number version c n v =
      plain_spaced (codes "answer") (decimal caller ∷ decimal number ∷ decimal version ∷ []) refl (graphic_wide caller c, (graphic_wide number n, (graphic_wide version v, tt)))

  abbrev pub answer_lines : Response → Lines
  answer_lines answer = head_content answer.caller answer.number answer.version ∷ blocks_lines answer.blocks

  abbrev IsAnswerTo : Asking → Response → Type 0
  IsAnswerTo ask answer = (due_in_answer answer ≡ due_to_ask names ask) × AllByRecursion (IsBlock names) answer.blocks

  answer_reads : (ask : Asking) → Reads (answer_at names ask) answer_lines (IsAnswerTo ask)
  unfolding answer_at
  answer_reads ask =
      then_reads (fixed_reads (answer_head_text ask.caller ask.number ask.version) (head_content ask.caller ask.number ask.version) (head_text_is ask.caller ask.number ask.version)) (λ u any. blocks_reads (contracts_of names ask.asked))
      (λ u blocks. record { caller = ask.caller; number = ask.number; version = ask.version; blocks = blocks }) answer_lines (IsAnswerTo ask)
      (λ answer is. (tt, answer.blocks, tt, (ap (λ (d : Due). d.contracts) is.0, is.1), same answer is.0))
      (λ u blocks any are. (ap (λ (cs : List ℕ). record { caller = ask.caller; number = ask.number; version = ask.version; contracts = cs }) are.0, are.1)) (λ u blocks any are. refl) where
        same : (answer : Response) → due_in_answer answer ≡ due_to_ask names ask → record { caller = ask.caller; number = ask.number; version = ask.version; blocks = answer.blocks } ≡ answer
        same answer e = ap (λ (d : Due). record { caller = d.caller; number = d.number; version = d.version; blocks = answer.blocks }) (sym e)

  abbrev AreAnswers : List Asking → List Response → Type 0
  AreAnswers asks answers = (map due_in_answer answers ≡ map (due_to_ask names) asks) × AllByRecursion (λ answer. AllByRecursion (IsBlock names) answer.blocks) answers

  abbrev pub answers_lines : List Response → Lines
  answers_lines answers = flat_map answer_lines answers

  answers_reads : (asks : List Asking) → Reads (answers_at names asks) answers_lines (AreAnswers asks)
  unfolding answers_at
  answers_reads [] = record {
    some = [];
    some_fits = (refl, tt);
    takes = λ lines answers rest e.
        let parts = ok_is ([], lines) (answers, rest) e in
        subst (λ (p : List Response × Lines). (lines ≡ answers_lines p.0 ++ p.1) × AreAnswers [] p.0) parts (refl, (refl, tt));
    again = λ answers are rest. let none = no_answers answers are.0 in rw none refl;
    stops = λ lines left e. absurd (not_both ([], lines) left (sym e));
  } where
    no_answers : (answers : List Response) → map due_in_answer answers ≡ [] → answers ≡ []
    no_answers [] e = refl
    no_answers (answer ∷ answers) e = absurd (cc)
  answers_reads (ask ∷ asks) =
      then_reads (answer_reads ask) (λ answer is. answers_reads asks) (λ answer answers. answer ∷ answers) answers_lines (AreAnswers (ask ∷ asks)) parts
      (λ answer answers is are. (rw (is.0, are.0) refl, (is.1, are.1))) (λ answer answers is are. refl) where
        parts : (answers : List Response) → AreAnswers (ask ∷ asks) answers → (answer : Response) × (others : List Response) × IsAnswerTo ask answer × AreAnswers asks others × (answer ∷ others ≡ answers)
        parts [] are = absurd (let h = are.0 in cc)
        parts (answer ∷ answers) are =
            let e = are.0 in
            let first : due_in_answer answer ≡ due_to_ask names ask = cc in
            let later : map due_in_answer answers ≡ map (due_to_ask names) asks = cc in
            (answer, answers, (first, are.1.0), (later, are.1.1), refl)

  -- ---- the answers to a journal

  -- the line above answers, without its line feed
  pub answers_content : ℕ → List ℕ
  answers_content count = spaced (codes "answers") (decimal count ∷ [])

  pub answers_text_is : (count : ℕ) → answers_head_text count ≡ answers_content count ++ codes "\n"
  unfolding answers_head_text answers_content
  answers_text_is count = line_is (codes "answers") (decimal count ∷ [])

  pub answers_head_plain : (count : ℕ) → count < 10 ^ 64 → list_all is_plain (answers_content count) ≡ true
  unfolding answers_content
  answers_head_plain count n = plain_spaced (codes "answers") (decimal count ∷ []) refl (graphic_wide count n, tt)

  abbrev pub replies_lines : List Item → List Response → Lines
  replies_lines items answers = answers_content (length (asks_of items)) ∷ answers_lines answers

  replies_reads : (items : List Item) → Reads (replies_at names items) (replies_lines items) (AreAnswers (asks_of items))
  unfolding replies_at
  replies_reads items =
      then_reads (fixed_reads (answers_head_text (length (asks_of items))) (answers_content (length (asks_of items))) (answers_text_is (length (asks_of items)))) (λ u any. answers_reads (asks_of items))
      (λ u answers. answers) (replies_lines items) (AreAnswers (asks_of items)) (λ answers are. (tt, answers, tt, are, refl)) (λ u answers any are. are) (λ u answers any are. refl)

  -- ---- a journal and its answers

  abbrev pub transcript_lines : Transcript → Lines
  transcript_lines t = journal_lines t.items ++ replies_lines t.items t.answers

  pub transcript_reads : Reads (transcript_at names) transcript_lines (IsTranscript names)
  unfolding transcript_at
  transcript_reads =
      then_reads journal_reads (λ items is. replies_reads items) (λ items answers. record { items = items; answers = answers }) transcript_lines (IsTranscript names)
      (λ t is. (t.items, t.answers, (is.few, is.items), (is.due, is.blocks), refl))
      (λ items answers is are. record { few = is.0; items = is.1; due = are.0; blocks = are.1 }) (λ items answers is are. refl)
