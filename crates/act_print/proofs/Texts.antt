-- The text of what is printed, as lines.
use Rattle.std.proofs.Common.{◌≡◌, ℕ, zero, suc, ◌+◌, ◌*◌, ◌^◌, ◌<◌, ◌≤◌, ◌==◌, Bool, true, false, List, [], ◌∷◌, ◌++◌, length, map, refl, sym, ◌∙◌, ap, subst, append_assoc, append-nil, length-append, arith}
use Rattle.std.specs.Prelude.{if◌then◌else◌}
use Rattle.std.specs.List.{AllByRecursion, flat_map, list_all, range_with_len}
use Rattle.std.specs.Prelude.{codes}
use Rattle.std.proofs.lemmas.List.{length-map}
use Rattle.std.proofs.lemmas.List.Concat.{flat_map-append}
use Rattle.act_model.specs.Name.{is_name}
use Rattle.act_model.specs.Names.{NameLists}
use Rattle.act_model.specs.declared.journal.Asked.{Asked}
use Rattle.act_model.specs.declared.journal.Asked.TheVariants.{All, One}
use Rattle.act_model.specs.declared.journal.Item.{Item}
use Rattle.act_model.specs.declared.journal.Step.{Step}
use Rattle.act_model.specs.declared.journal.Step.TheVariants.{Append, Ask}
use Rattle.act_text.specs.Lines.{close_text, name_of}
use Rattle.act_model.specs.Asks.{asks_of, caller_asks}
use Rattle.act_model.specs.Journal.{contracts_of}
use Rattle.act_print.specs.Conditions.{CanBeAsked, ContractsNamed, Due, IsBlock, IsItem, IsRow, IsStep, IsTranscript, due_to_ask, due_in_answer}
use Rattle.act_print.specs.declared.printed.PrintedRow.{PrintedRow}
use Rattle.act_print.specs.Faults.{lines_of}
use Rattle.act_print.specs.Printed.{Block, Response, Transcript}
use Rattle.act_print.specs.Reading.{Lines}
use Rattle.act_print.specs.Text.{answer_text, answers_head_text, block_head_text, block_text, answer_head_text, item_text, journal_head_text, printed_row_text, text_of}
use Rattle.act_model.specs.declared.asks.Asking.{Asking}
use Rattle.act_model.proofs.AsksInTurn.{asks_from, asks_in_turn}
use Rattle.act_print.proofs.Bytes.{ArePlain, lines_again, unlines}
use Rattle.act_print.proofs.ItemLaws.{item_content, item_reads, item_text_is}
use Rattle.act_print.proofs.LineLaws.{close_content, close_reads, close_text_is, count_content, count_line_reads, count_text_is, is_plain, row_content, row_reads, row_text_is}
use Rattle.act_print.proofs.TranscriptLaws.{answer_lines, answers_content, answers_head_plain, answers_lines, answers_text_is, block_content, block_head_plain, block_lines, block_text_is, blocks_lines, head_content, head_plain, head_text_is, items_lines, journal_lines, replies_lines, rows_lines, transcript_lines}

-- ---- the bytes of lines

-- a line in front of others
front_line : (text content rest : List ℕ) (lines : Lines) → text ≡ content ++ codes "\n" → rest ≡ unlines lines → text ++ rest ≡ unlines (content ∷ lines)
front_line text content rest lines is e = rw (is, e) refl

lines_both : (xs ys : Lines) → unlines (xs ++ ys) ≡ unlines xs ++ unlines ys
lines_both xs ys = flat_map-append (λ line. line ++ codes "\n") xs ys

each_line : {X : Type 0} (text content : X → List ℕ) → ((x : X) → text x ≡ content x ++ codes "\n") → (xs : List X) → flat_map text xs ≡ unlines (map content xs)
each_line text content is [] = refl
each_line text content is (x ∷ xs) = front_line (text x) (content x) (flat_map text xs) (map content xs) (is x) (each_line text content is xs)

each_part : {X : Type 0} (text : X → List ℕ) (lines : X → Lines) → ((x : X) → text x ≡ unlines (lines x)) → (xs : List X) → flat_map text xs ≡ unlines (flat_map lines xs)
each_part text lines is [] = refl
each_part text lines is (x ∷ xs) = rw (is x, each_part text lines is xs) (sym (lines_both (lines x) (flat_map lines xs)))

module _ (names : NameLists) where
  block_bytes : (block : Block) → block_text names block ≡ unlines (block_lines names block)
  unfolding block_text
  block_bytes block =
      let rows = each_line (printed_row_text names) (row_content names) (row_text_is names) block.rows in
      let last : close_text names block.close ≡ unlines (close_content names block.close ∷ []) = close_text_is names block.close ∙ sym (append-nil (close_content names block.close ++ codes "\n")) in
      let behind : flat_map (printed_row_text names) block.rows ++ close_text names block.close ≡ unlines (rows_lines names (block.rows, block.close)) =
      rw (rows, last) (sym (lines_both (map (row_content names) block.rows) (close_content names block.close ∷ []))) in
      append_assoc (block_head_text names block.contract) (flat_map (printed_row_text names) block.rows) (close_text names block.close)
      ∙ front_line (block_head_text names block.contract) (block_content names block.contract) _ (rows_lines names (block.rows, block.close)) (block_text_is names block.contract) behind

  answer_bytes : (answer : Response) → answer_text names answer ≡ unlines (answer_lines names answer)
  unfolding answer_text
  answer_bytes answer =
      front_line (answer_head_text answer.caller answer.number answer.version) (head_content names answer.caller answer.number answer.version) _ (blocks_lines names answer.blocks)
      (head_text_is names answer.caller answer.number answer.version) (each_part (block_text names) (block_lines names) block_bytes answer.blocks)

  -- one answer for each ask
  pub as_many : (t : Transcript) → IsTranscript names t → length t.answers ≡ length (asks_of t.items)
  as_many t is =
      let size = ap length is.due in
      sym (length-map t.answers due_in_answer) ∙ size ∙ length-map (asks_of t.items) (due_to_ask names)

  pub text_is : (t : Transcript) → IsTranscript names t → text_of names t.items t.answers ≡ unlines (transcript_lines names t)
  unfolding text_of
  text_is t is =
      let n = length (asks_of t.items) in
      let journal : journal_head_text (length t.items) ++ flat_map (item_text names) t.items ≡ unlines (journal_lines names t.items) =
      front_line (journal_head_text (length t.items)) (count_content (length t.items)) _ (items_lines names t.items) (count_text_is (length t.items)) (each_line (item_text names) (item_content names) (item_text_is names) t.items) in
      let count : answers_head_text (length t.answers) ≡ answers_content names n ++ codes "\n" = ap answers_head_text (as_many t is) ∙ answers_text_is names n in
      let replies : answers_head_text (length t.answers) ++ flat_map (answer_text names) t.answers ≡ unlines (replies_lines names t.items t.answers) =
      front_line (answers_head_text (length t.answers)) (answers_content names n) _ (answers_lines names t.answers) count (each_part (answer_text names) (answer_lines names) answer_bytes t.answers) in
      append_assoc (journal_head_text (length t.items) ++ flat_map (item_text names) t.items) (answers_head_text (length t.answers)) (flat_map (answer_text names) t.answers)
      ∙ rw (journal, replies) (sym (lines_both (journal_lines names t.items) (replies_lines names t.items t.answers)))

-- ---- facts on each element

all_append : {X : Type 0} (P : X → Type 0) (xs ys : List X) → AllByRecursion P xs → AllByRecursion P ys → AllByRecursion P (xs ++ ys)
all_append P [] ys h k = k
all_append P (x ∷ xs) ys h k = (h.0, all_append P xs ys h.1 k)

all_flat : {X Y : Type 0} (P : Y → Type 0) (Q : X → Type 0) (f : X → List Y) → ((x : X) → Q x → AllByRecursion P (f x)) → (xs : List X) → AllByRecursion Q xs → AllByRecursion P (flat_map f xs)
all_flat P Q f each [] h = tt
all_flat P Q f each (x ∷ xs) h = all_append P (f x) (flat_map f xs) (each x h.0) (all_flat P Q f each xs h.1)

all_map : {X Y : Type 0} (P : Y → Type 0) (Q : X → Type 0) (f : X → Y) → ((x : X) → Q x → P (f x)) → (xs : List X) → AllByRecursion Q xs → AllByRecursion P (map f xs)
all_map P Q f each [] h = tt
all_map P Q f each (x ∷ xs) h = (each x h.0, all_map P Q f each xs h.1)

all_mapped : {X Y : Type 0} (P : Y → Type 0) (f : X → Y) (xs : List X) → AllByRecursion P (map f xs) → AllByRecursion (λ x. P (f x)) xs
all_mapped P f [] h = tt
all_mapped P f (x ∷ xs) h = (h.0, all_mapped P f xs h.1)

all_both : {X : Type 0} (P Q : X → Type 0) (xs : List X) → AllByRecursion P xs → AllByRecursion Q xs → AllByRecursion (λ x. P x × Q x) xs
all_both P Q [] h k = tt
all_both P Q (x ∷ xs) h k = ((h.0, k.0), all_both P Q xs h.1 k.1)

range_below : (a k top : ℕ) → a + k ≤ top → AllByRecursion (λ n. n < top) (range_with_len a k)
range_below a zero top h = tt
range_below a (suc k) top h = (omega arith, range_below (a + 1) k top (omega arith))

flat_length : {X Y : Type 0} (f : X → List Y) (most : ℕ) → ((x : X) → length (f x) ≤ most) → (xs : List X) → length (flat_map f xs) ≤ length xs * most
flat_length f most each [] = omega arith
flat_length f most each (x ∷ xs) = grind (arith, length-append (f x) (flat_map f xs), each x, flat_length f most each xs)

-- ---- lines without a line feed inside

module _ (names : NameLists) (named : ContractsNamed names) where
  abbrev IsNamed : ℕ → Type 0
  IsNamed contract = is_name (name_of names.contracts contract) ≡ true

  asked_named : (asked : Asked) → CanBeAsked names asked → AllByRecursion IsNamed (contracts_of names asked)
  asked_named All can = each (range_with_len 0 (length names.contracts)) (range_below 0 (length names.contracts) (length names.contracts) (omega arith)) where
    each : (contracts : List ℕ) → AllByRecursion (λ c. c < length names.contracts) contracts → AllByRecursion IsNamed contracts
    each [] h = tt
    each (c ∷ contracts) h = (named c h.0, each contracts h.1)
  asked_named (One contract) can = (can.0.name, tt)

  -- an ask with such numbers
  record IsFew (ask : Asking) : Type 0 where
    caller : ask.caller < 17
    number : ask.number < 2 ^ 64 + 1
    version : ask.version < 2 ^ 64
    can : CanBeAsked names ask.asked

  few_by : (caller number version : ℕ) (items : List Item) (step : Step) (mine : Bool) → caller < 17 → number < 2 ^ 64 + 1 → version < 2 ^ 64 → IsStep names step
      → AllByRecursion IsFew (asks_from caller number (version + 1) items) → AllByRecursion IsFew (asks_from caller (number + 1) version items) → AllByRecursion IsFew (asks_from caller number version items)
      → AllByRecursion IsFew (elim step [
        | Append entry ↦ asks_from caller number (version + 1) items
        | Ask asked ↦ if mine then record { caller = caller; number = number; version = version; asked = asked } ∷ asks_from caller (number + 1) version items else asks_from caller number version items
      ])
  few_by caller number version items (Append entry) mine c n v is entries asks others = entries
  few_by caller number version items (Ask asked) true c n v is entries asks others = (record { caller = c; number = n; version = v; can = is }, asks)
  few_by caller number version items (Ask asked) false c n v is entries asks others = others

  few_asks : (caller number version : ℕ) (items : List Item) → caller < 17 → number + length items < 2 ^ 64 + 1 → version + length items < 2 ^ 64 → AllByRecursion (IsItem names) items → AllByRecursion IsFew (asks_from caller number version items)
  few_asks caller number version [] c n v are = tt
  few_asks caller number version (item ∷ items) c n v are =
      few_by caller number version items item.step (item.caller == caller) c (omega arith) (omega arith) are.0.step
      (few_asks caller number (version + 1) items c (omega arith) (omega arith) are.1) (few_asks caller (number + 1) version items c (omega arith) (omega arith) are.1) (few_asks caller number version items c (omega arith) (omega arith) are.1)

  count_by : (caller number version : ℕ) (items : List Item) (step : Step) (mine : Bool) → length (asks_from caller number (version + 1) items) ≤ length items → length (asks_from caller (number + 1) version items) ≤ length items → length (asks_from caller number version items) ≤ length items
      → length {A = Asking} (elim step [
        | Append entry ↦ asks_from caller number (version + 1) items
        | Ask asked ↦ if mine then record { caller = caller; number = number; version = version; asked = asked } ∷ asks_from caller (number + 1) version items else asks_from caller number version items
      ]) ≤ length items + 1
  count_by caller number version items (Append entry) mine h k m = omega arith
  count_by caller number version items (Ask asked) true h k m = omega arith
  count_by caller number version items (Ask asked) false h k m = omega arith

  count_asks : (caller number version : ℕ) (items : List Item) → length (asks_from caller number version items) ≤ length items
  count_asks caller number version [] = omega arith
  count_asks caller number version (item ∷ items) =
      omega (arith, count_by caller number version items item.step (item.caller == caller) (count_asks caller number (version + 1) items) (count_asks caller (number + 1) version items) (count_asks caller number version items))

  asks_few : (items : List Item) → length items < 2 ^ 64 → AllByRecursion (IsItem names) items → AllByRecursion IsFew (asks_of items)
  unfolding asks_of
  asks_few items few are =
      all_flat IsFew (λ c. c < 17) (caller_asks items) (λ caller c. subst (AllByRecursion IsFew) (sym (asks_in_turn items caller)) (few_asks caller 1 0 items c (omega arith) (omega arith) are)) (range_with_len 1 16) (range_below 1 16 17 (omega arith))

  pub asks_count : (items : List Item) → length items < 2 ^ 64 → length (asks_of items) < 10 ^ 64
  unfolding asks_of
  asks_count items few = omega (arith, flat_length (caller_asks items) (length items) (λ caller. rw (asks_in_turn items caller) (count_asks caller 1 0 items)) (range_with_len 1 16))

  -- what is due has small numbers and named contracts
  record IsPlainDue (due : Due) : Type 0 where
    caller : due.caller < 10 ^ 64
    number : due.number < 10 ^ 64
    version : due.version < 10 ^ 64
    contracts : AllByRecursion IsNamed due.contracts

  due_plain : (ask : Asking) → IsFew ask → IsPlainDue (due_to_ask names ask)
  due_plain ask few = record { caller = omega (arith, few.caller); number = omega (arith, few.number); version = omega (arith, few.version); contracts = asked_named ask.asked few.can }

  rows_plain : (rows : List PrintedRow) → AllByRecursion (IsRow names) rows → ArePlain (map (row_content names) rows)
  rows_plain rows are = all_map (λ line. list_all is_plain line ≡ true) (IsRow names) (row_content names) (row_reads names).plain rows are

  block_plain : (block : Block) → IsNamed block.contract × IsBlock names block → ArePlain (block_lines names block)
  block_plain block is =
      (block_head_plain names block.contract is.0, all_append (λ line. list_all is_plain line ≡ true) (map (row_content names) block.rows) (close_content names block.close ∷ []) (rows_plain block.rows is.1.rows) ((close_reads names).plain block.close is.1.close, tt))

  answer_plain : (answer : Response) → IsPlainDue (due_in_answer answer) × AllByRecursion (IsBlock names) answer.blocks → ArePlain (answer_lines names answer)
  answer_plain answer is =
      let contracts = all_mapped IsNamed (λ (b : Block). b.contract) answer.blocks is.0.contracts in (
        head_plain names answer.caller answer.number answer.version is.0.caller is.0.number is.0.version,
        all_flat (λ line. list_all is_plain line ≡ true) (λ b. IsNamed b.contract × IsBlock names b) (block_lines names) block_plain answer.blocks (all_both (λ b. IsNamed b.contract) (IsBlock names) answer.blocks contracts is.1),
      )

  pub lines_plain : (t : Transcript) → IsTranscript names t → ArePlain (transcript_lines names t)
  lines_plain t is =
      let items = all_map (λ line. list_all is_plain line ≡ true) (IsItem names) (item_content names) (item_reads names).plain t.items is.items in
      let due = all_map IsPlainDue IsFew (due_to_ask names) due_plain (asks_of t.items) (asks_few t.items is.few is.items) in
      let dues = all_mapped IsPlainDue due_in_answer t.answers (subst (AllByRecursion IsPlainDue) (sym is.due) due) in
      let answers = all_flat (λ line. list_all is_plain line ≡ true) (λ a. IsPlainDue (due_in_answer a) × AllByRecursion (IsBlock names) a.blocks) (answer_lines names) answer_plain t.answers
      (all_both (λ a. IsPlainDue (due_in_answer a)) (λ a. AllByRecursion (IsBlock names) a.blocks) t.answers dues is.blocks) in
      all_append (λ line. list_all is_plain line ≡ true) (journal_lines names t.items) (replies_lines names t.items t.answers)
      (count_line_reads.plain (length t.items) is.few, items) (answers_head_plain names (length (asks_of t.items)) (asks_count t.items is.few), answers)

  -- the lines of a text
  pub lines_is : (t : Transcript) → IsTranscript names t → lines_of (text_of names t.items t.answers) ≡ transcript_lines names t
  lines_is t is = ap lines_of (text_is names t is) ∙ lines_again (transcript_lines names t) (lines_plain t is)
