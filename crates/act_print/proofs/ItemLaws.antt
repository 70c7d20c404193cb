-- The lines of items: what is read is what is written, and what is written is read again.
use Rattle.std.proofs.Common.{◌≡◌, ℕ, Bool, true, false, cond, ℤ, pos, List, [], ◌∷◌, ◌++◌, Option, Some, None, ◌⊎◌, inl, inr, decimal, refl, sym, ◌∙◌, ap, subst, arith}
use Rattle.std.specs.List.{AllByRecursion, list_all}
use Rattle.std.specs.Ordering.{int_eq}
use Rattle.std.specs.Option.{option_map}
use Rattle.std.specs.Prelude.{codes}
use Rattle.std.specs.Str.{bytes_eq}
use Rattle.std.proofs.lemmas.Bool.Decides.{Decides-int_eq}
use Rattle.act_num.specs.Decimal.{printed}
use Rattle.act_num.specs.Number.{InRange}
use Rattle.act_date.specs.Civil.{IsDay}
use Rattle.act_date.specs.Text.{date_text}
use Rattle.act_model.specs.Name.{is_graphic}
use Rattle.act_model.specs.Names.{NameLists}
use Rattle.act_model.specs.Observed.{is_credit_event, is_entry}
use Rattle.act_model.specs.declared.journal.Asked.{Asked}
use Rattle.act_model.specs.declared.journal.Asked.TheVariants.{All, One}
use Rattle.act_model.specs.declared.journal.Item.{Item}
use Rattle.act_model.specs.declared.journal.Step.{Step}
use Rattle.act_model.specs.declared.journal.Step.TheVariants.{Append, Ask}
use Rattle.act_model.specs.declared.observed.Obs.TheVariants.{Rate, Event}
use Rattle.act_model.specs.declared.observed.ObsKind.{ObsKind}
use Rattle.act_model.specs.declared.observed.ObsKind.TheVariants.{PP, DV, XD, DL, DQ, DF}
use Rattle.act_text.specs.Lines.{name_of}
use Rattle.act_print.specs.Conditions.{CanBeAsked, IsItem, IsNumberOf, IsStep}
use Rattle.act_print.specs.LineWords.{ask_words, credit_word, event_words, happening_words, item_of_line, rate_words, step_of_words}
use Rattle.act_print.specs.Text.{asked_text, item_text, kind_text, step_words, value_text}
use Rattle.act_print.specs.Words.{name_word, number_word, word_at}
use Rattle.act_print.proofs.LineLaws.{ReadsLine, is_plain, joins, plain_spaced, step}
use Rattle.act_print.proofs.Spaces.{at_again, line_is, spaced, word_again, word_takes}
use Rattle.act_print.proofs.WordLaws.{bind_some, caller_reads, day_reads, if_some, name_reads, number_reads, same_bytes, some_is}

-- a test that chooses what is read
chosen : {A : Type 0} (b : Bool) (o p : Option A) (x : A) → cond b o p ≡ Some x → ((b ≡ true) × (o ≡ Some x)) ⊎ ((b ≡ false) × (p ≡ Some x))
chosen true o p x e = inl (refl, e)
chosen false o p x e = inr (refl, e)

map_some : {A B : Type 0} (f : A → B) (o : Option A) (y : B) → option_map f o ≡ Some y → (x : A) × (o ≡ Some x) × (f x ≡ y)
map_some f (Some x) y e = (x, refl, some_is (f x) y e)
map_some f None y e = absurd (cc)

-- ---- what happened to a contract

-- the kind and the value are written so, and they are those of an entry
record Happens (kind value : List ℕ) (what : ObsKind × ℤ) : Type 0 where
  kind_is : kind ≡ kind_text what.0
  value_is : value ≡ value_text what.0 what.1
  range : InRange what.1
  entry : (contract : ℕ) (day : ℤ) → is_entry (Event contract what.0 day what.1) ≡ true

credit_kind : (kind : ObsKind) → is_credit_event kind ≡ true → kind_text kind ≡ codes "CE"
credit_kind PP e = absurd (cc)
credit_kind DV e = absurd (cc)
credit_kind XD e = absurd (cc)
credit_kind DL e = refl
credit_kind DQ e = refl
credit_kind DF e = refl

no_amount : InRange (pos 0)
no_amount = omega arith

zero_value : (value : ℤ) → int_eq value (pos 0) ≡ true → value ≡ pos 0
zero_value value e = (Decides-int_eq value (pos 0)).0 e

module _ (kind value : List ℕ) (what : ObsKind × ℤ) where
  amount_happens : (k : ObsKind) → (kind ≡ kind_text k) → ((v : ℤ) → value_text k v ≡ printed v) → is_credit_event k ≡ false → option_map {U = ObsKind × ℤ} (λ amount. (k, amount)) (number_word value) ≡ Some what → Happens kind value what
  amount_happens k is text other e =
      let amount = map_some (λ (v : ℤ). (k, v)) (number_word value) what e in
      let taken = number_reads.takes value amount.0 amount.1 in
      subst (Happens kind value) amount.2
      (record { kind_is = is; value_is = taken.0 ∙ sym (text amount.0); range = taken.1; entry = λ contract day. rw other refl })

  credit_is : (k : ObsKind) → credit_word value ≡ Some k → (value ≡ value_text k (pos 0)) × (is_credit_event k ≡ true)
  unfolding credit_word
  credit_is k e =
      elim (chosen (bytes_eq value (codes "DL")) (Some DL) _ k e) [
        | inl is ↦ subst (λ (x : ObsKind). (value ≡ value_text x (pos 0)) × (is_credit_event x ≡ true)) (some_is DL k is.1) (same_bytes value (codes "DL") is.0, refl)
        | inr not ↦ elim (chosen (bytes_eq value (codes "DQ")) (Some DQ) _ k not.1) [
          | inl is ↦ subst (λ (x : ObsKind). (value ≡ value_text x (pos 0)) × (is_credit_event x ≡ true)) (some_is DQ k is.1) (same_bytes value (codes "DQ") is.0, refl)
          | inr other ↦
              let last = if_some (bytes_eq value (codes "DF")) (Some DF) k other.1 in
              subst (λ (x : ObsKind). (value ≡ value_text x (pos 0)) × (is_credit_event x ≡ true)) (some_is DF k last.1) (same_bytes value (codes "DF") last.0, refl)
        ]
      ]

  credit_happens : kind ≡ codes "CE" → option_map {U = ObsKind × ℤ} (λ credit. (credit, pos 0)) (credit_word value) ≡ Some what → Happens kind value what
  credit_happens is e =
      let credit = map_some (λ (k : ObsKind). (k, pos 0)) (credit_word value) what e in
      let taken = credit_is credit.0 credit.1 in
      subst (Happens kind value) credit.2
      (record { kind_is = is ∙ sym (credit_kind credit.0 taken.1); value_is = taken.0; range = no_amount; entry = λ contract day. rw taken.1 refl })

  happening_takes : happening_words kind value ≡ Some what → Happens kind value what
  unfolding happening_words
  happening_takes e =
      elim (chosen (bytes_eq kind (codes "PP")) _ _ what e) [
        | inl is ↦ amount_happens PP (same_bytes kind (codes "PP") is.0) (λ v. refl) refl is.1
        | inr not ↦ elim (chosen (bytes_eq kind (codes "DV")) _ _ what not.1) [
          | inl is ↦ amount_happens DV (same_bytes kind (codes "DV") is.0) (λ v. refl) refl is.1
          | inr nor ↦ elim (chosen (bytes_eq kind (codes "XD")) _ _ what nor.1) [
            | inl is ↦ amount_happens XD (same_bytes kind (codes "XD") is.0) (λ v. refl) refl is.1
            | inr other ↦
                let last = if_some (bytes_eq kind (codes "CE")) _ what other.1 in
                credit_happens (same_bytes kind (codes "CE") last.0) last.1
          ]
        ]
      ]

happening_again : (contract : ℕ) (kind : ObsKind) (day value : ℤ) → InRange value → is_entry (Event contract kind day value) ≡ true → happening_words (kind_text kind) (value_text kind value) ≡ Some (kind, value)
unfolding happening_words credit_word
happening_again contract PP day value range entry = rw (number_reads.again value range) refl
happening_again contract DV day value range entry = rw (number_reads.again value range) refl
happening_again contract XD day value range entry = rw (number_reads.again value range) refl
happening_again contract DL day value range entry = ap (λ (v : ℤ). Some (DL, v)) (sym (zero_value value entry))
happening_again contract DQ day value range entry = ap (λ (v : ℤ). Some (DQ, v)) (sym (zero_value value entry))
happening_again contract DF day value range entry = ap (λ (v : ℤ). Some (DF, v)) (sym (zero_value value entry))

graphic_kind : (kind : ObsKind) → list_all is_graphic (kind_text kind) ≡ true
graphic_kind PP = refl
graphic_kind DV = refl
graphic_kind XD = refl
graphic_kind DL = refl
graphic_kind DQ = refl
graphic_kind DF = refl

graphic_value : (kind : ObsKind) (value : ℤ) → InRange value → list_all is_graphic (value_text kind value) ≡ true
graphic_value PP value range = number_reads.graphic value range
graphic_value DV value range = number_reads.graphic value range
graphic_value XD value range = number_reads.graphic value range
graphic_value DL value range = refl
graphic_value DQ value range = refl
graphic_value DF value range = refl

-- ---- steps

-- what a line says behind the caller
step_content : NameLists → Step → List ℕ
step_content names (Append (Rate code day value)) = codes "rate" ++ (32 ∷ spaced (name_of names.codes code) (date_text day ∷ printed value ∷ []))
step_content names (Append (Event contract kind day value)) = codes "event" ++ (32 ∷ spaced (name_of names.contracts contract) (kind_text kind ∷ date_text day ∷ value_text kind value ∷ []))
step_content names (Ask asked) = codes "ask" ++ (32 ∷ asked_text names asked)

module _ (names : NameLists) where
  spaced_step : (caller : List ℕ) (s : Step) → spaced caller (step_words names s) ≡ caller ++ (32 ∷ step_content names s)
  unfolding step_content
  spaced_step caller (Append (Rate code day value)) = refl
  spaced_step caller (Append (Event contract kind day value)) = refl
  spaced_step caller (Ask asked) = refl

  -- a step is written so behind its word
  abbrev Says : List ℕ → List ℕ → Step → Type 0
  Says word text s = (word ++ (32 ∷ text) ≡ step_content names s) × IsStep names s

  rate_takes : (word text : List ℕ) (s : Step) → word ≡ codes "rate" → rate_words names text ≡ Some s → Says word text s
  unfolding rate_words step_content
  rate_takes word text s is e =
      let code = step (name_reads names.codes) text _ s e in
      let day = step day_reads code.0.1 _ s code.3 in
      let value = bind_some (number_word day.0.1) _ s day.3 in
      let last = number_reads.takes day.0.1 value.0 value.1 in
      subst (Says word text) (some_is (Append (Rate code.0.0 day.0.0 value.0)) s value.2)
      (joins _ (codes "rate") _ _ (ap (λ (w : List ℕ). w ++ (32 ∷ text)) is) (joins _ (name_of names.codes code.0.0) _ _ code.1 (joins _ (date_text day.0.0) _ _ day.1 last.0)), (code.2, day.2, last.1))

  event_takes : (word text : List ℕ) (s : Step) → word ≡ codes "event" → event_words names text ≡ Some s → Says word text s
  unfolding event_words step_content
  event_takes word text s is e =
      let contract = step (name_reads names.contracts) text _ s e in
      let kind = bind_some (word_at contract.0.1) _ s contract.3 in
      let day = step day_reads kind.0.1 _ s kind.2 in
      let what = bind_some (happening_words kind.0.0 day.0.1) _ s day.3 in
      let happens = happening_takes kind.0.0 day.0.1 what.0 what.1 in
      subst (Says word text) (some_is (Append (Event contract.0.0 what.0.0 day.0.0 what.0.1)) s what.2) (
        joins _ (codes "event") _ _ (ap (λ (w : List ℕ). w ++ (32 ∷ text)) is) (joins _ (name_of names.contracts contract.0.0) _ _ contract.1
            (joins _ (kind_text what.0.0) _ _ (word_takes contract.0.1 kind.0.0 kind.0.1 kind.1 ∙ ap (λ (w : List ℕ). w ++ (32 ∷ kind.0.1)) happens.kind_is) (joins _ (date_text day.0.0) _ _ day.1 happens.value_is))),
        (contract.2, day.2, happens.range, happens.entry contract.0.0 day.0.0),
      )

  ask_takes : (word text : List ℕ) (s : Step) → word ≡ codes "ask" → ask_words names text ≡ Some s → Says word text s
  unfolding ask_words step_content
  ask_takes word text s is e = by (bytes_eq text (codes "*")) refl e where
    by : (star : Bool) → bytes_eq text (codes "*") ≡ star → cond star (Some (Ask All)) (option_map (λ contract. Ask (One contract)) (name_word names.contracts text)) ≡ Some s → Says word text s
    by true all e = subst (Says word text) (some_is (Ask All) s e) (joins _ (codes "ask") _ _ (ap (λ (w : List ℕ). w ++ (32 ∷ text)) is) (same_bytes text (codes "*") all), tt)
    by false one e =
        let contract = map_some (λ (c : ℕ). Ask (One c)) (name_word names.contracts text) s e in
        let taken = (name_reads names.contracts).takes text contract.0 contract.1 in
        subst (Says word text) contract.2
        (joins _ (codes "ask") _ _ (ap (λ (w : List ℕ). w ++ (32 ∷ text)) is) taken.0, (taken.1, ap (λ (w : List ℕ). bytes_eq w (codes "*")) (sym taken.0) ∙ one))

  step_takes : (word text : List ℕ) (s : Step) → step_of_words names word text ≡ Some s → Says word text s
  unfolding step_of_words
  step_takes word text s e =
      elim (chosen (bytes_eq word (codes "rate")) _ _ s e) [
        | inl is ↦ rate_takes word text s (same_bytes word (codes "rate") is.0) is.1
        | inr not ↦ elim (chosen (bytes_eq word (codes "event")) _ _ s not.1) [
          | inl is ↦ event_takes word text s (same_bytes word (codes "event") is.0) is.1
          | inr other ↦
              let last = if_some (bytes_eq word (codes "ask")) _ s other.1 in
              ask_takes word text s (same_bytes word (codes "ask") last.0) last.1
        ]
      ]

  -- the word that a step begins with, and what stands behind it
  abbrev step_word : Step → List ℕ
  step_word (Append (Rate code day value)) = codes "rate"
  step_word (Append (Event contract kind day value)) = codes "event"
  step_word (Ask asked) = codes "ask"

  abbrev step_rest : Step → List ℕ
  step_rest (Append (Rate code day value)) = spaced (name_of names.codes code) (date_text day ∷ printed value ∷ [])
  step_rest (Append (Event contract kind day value)) = spaced (name_of names.contracts contract) (kind_text kind ∷ date_text day ∷ value_text kind value ∷ [])
  step_rest (Ask asked) = asked_text names asked

  word_of_step : (s : Step) → word_at (step_content names s) ≡ Some (step_word s, step_rest s)
  unfolding step_content
  word_of_step (Append (Rate code day value)) = word_again (codes "rate") (step_rest (Append (Rate code day value))) refl
  word_of_step (Append (Event contract kind day value)) = word_again (codes "event") (step_rest (Append (Event contract kind day value))) refl
  word_of_step (Ask asked) = word_again (codes "ask") (asked_text names asked) refl

  rate_again : (code : ℕ) (day value : ℤ) → IsNumberOf names.codes code → IsDay day → InRange value → rate_words names (step_rest (Append (Rate code day value))) ≡ Some (Append (Rate code day value))
  unfolding rate_words
  rate_again code day value named is range =
      rw (at_again (name_reads names.codes) code (spaced (date_text day) (printed value ∷ [])) named, at_again day_reads day (printed value) is, number_reads.again value range) refl

  event_again : (contract : ℕ) (kind : ObsKind) (day value : ℤ) → IsNumberOf names.contracts contract → IsDay day → InRange value → is_entry (Event contract kind day value) ≡ true
      → event_words names (step_rest (Append (Event contract kind day value))) ≡ Some (Append (Event contract kind day value))
  unfolding event_words
  event_again contract kind day value named is range entry =
      rw (
        at_again (name_reads names.contracts) contract (spaced (kind_text kind) (date_text day ∷ value_text kind value ∷ [])) named,
        word_again (kind_text kind) (spaced (date_text day) (value_text kind value ∷ [])) (graphic_kind kind),
        at_again day_reads day (value_text kind value) is,
        happening_again contract kind day value range entry,
      ) refl

  ask_again : (asked : Asked) → CanBeAsked names asked → ask_words names (asked_text names asked) ≡ Some (Ask asked)
  unfolding ask_words
  ask_again All can = refl
  ask_again (One contract) can = rw (can.1, (name_reads names.contracts).again contract can.0) refl

  step_again : (s : Step) → IsStep names s → step_of_words names (step_word s) (step_rest s) ≡ Some s
  unfolding step_of_words
  step_again (Append (Rate code day value)) is = rate_again code day value is.0 is.1 is.2
  step_again (Append (Event contract kind day value)) is = event_again contract kind day value is.0 is.1 is.2 is.3
  step_again (Ask asked) is = ask_again asked is

  graphic_asked : (asked : Asked) → CanBeAsked names asked → list_all is_graphic (asked_text names asked) ≡ true
  graphic_asked All can = refl
  graphic_asked (One contract) can = (name_reads names.contracts).graphic contract can.0

  graphic_step : (s : Step) → IsStep names s → AllByRecursion (λ w. list_all is_graphic w ≡ true) (step_words names s)
  graphic_step (Append (Rate code day value)) is = (refl, ((name_reads names.codes).graphic code is.0, (day_reads.graphic day is.1, (number_reads.graphic value is.2, tt))))
  graphic_step (Append (Event contract kind day value)) is = (refl, ((name_reads names.contracts).graphic contract is.0, (graphic_kind kind, (day_reads.graphic day is.1, (graphic_value kind value is.2, tt)))))
  graphic_step (Ask asked) is = (refl, (graphic_asked asked is, tt))

  -- ---- items

  -- the line of an item, without its line feed
  pub item_content : Item → List ℕ
  item_content item = spaced (decimal item.caller) (step_words names item.step)

  item_takes : (line : List ℕ) (item : Item) → item_of_line names line ≡ Some item → (line ≡ item_content item) × IsItem names item
  unfolding item_of_line item_content
  item_takes line item e =
      let caller = step caller_reads line _ item e in
      let word = bind_some (word_at caller.0.1) _ item caller.3 in
      let s = bind_some (step_of_words names word.0.0 word.0.1) _ item word.2 in
      let says = step_takes word.0.0 word.0.1 s.0 s.1 in
      let made : Item = record { caller = caller.0.0; step = s.0 } in
      subst (λ (x : Item). (line ≡ spaced (decimal x.caller) (step_words names x.step)) × IsItem names x) (some_is made item s.2)
      (joins _ (decimal caller.0.0) _ _ caller.1 (word_takes caller.0.1 word.0.0 word.0.1 word.1 ∙ says.0) ∙ sym (spaced_step (decimal caller.0.0) s.0), record { caller_from = caller.2.0; caller_to = caller.2.1; step = says.1 })

  item_again : (item : Item) → IsItem names item → item_of_line names (item_content item) ≡ Some item
  unfolding item_of_line item_content
  item_again item is =
      rw (spaced_step (decimal item.caller) item.step, at_again caller_reads item.caller (step_content names item.step) (is.caller_from, is.caller_to), word_of_step item.step, step_again item.step is.step) refl

  item_plain : (item : Item) → IsItem names item → list_all is_plain (item_content item) ≡ true
  unfolding item_content
  item_plain item is =
      plain_spaced (decimal item.caller) (step_words names item.step) (caller_reads.graphic item.caller (is.caller_from, is.caller_to)) (graphic_step item.step is.step)

  pub item_reads : ReadsLine (item_of_line names) item_content (IsItem names)
  item_reads = record { takes = item_takes; again = item_again; plain = item_plain }

  pub item_text_is : (item : Item) → item_text names item ≡ item_content item ++ codes "\n"
  unfolding item_text item_content
  item_text_is item = line_is (decimal item.caller) (step_words names item.step)
