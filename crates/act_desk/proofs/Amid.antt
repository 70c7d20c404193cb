-- What is so of a history amid the lines of a caller, as it goes on.
use Rattle.std.proofs.Common.{◌≡◌, ℕ, suc, ◌+◌, ◌<◌, ◌≤◌, List, [], ◌∷◌, ◌++◌, length, drop, take, get_or, Some, refl, sym, ap, subst, ◌∙◌, append-nil, append_assoc, arith, eq-eqb}
use Rattle.std.specs.Prelude.{map, not}
use Rattle.std.specs.List.{All, count_by, slice_get}
use Rattle.std.proofs.Math.Seq.{drop-append-add, take-suc}
use Rattle.std.proofs.lemmas.List.{get_or-drop, length-append, length-drop, map-append, take-append-le}
use Rattle.std.proofs.lemmas.List.Elements.{All-head, All-push, All-tail, All-take, All-weaker}
use Rattle.std.proofs.lemmas.Option.{get_or_from_slice_get, slice_get_within}
use Rattle.act_model.specs.Answer.{Reply}
use Rattle.act_model.specs.Journal.{contracts_of, is_append}
use Rattle.act_model.specs.Names.{NameLists}
use Rattle.act_model.specs.declared.asks.Asking.{Asking}
use Rattle.act_model.specs.declared.journal.Asked.{Asked}
use Rattle.act_model.specs.declared.journal.Line.{Line}
use Rattle.act_model.specs.declared.journal.Step.TheVariants as step
use Rattle.act_model.specs.declared.observed.Obs.{Obs}
use Rattle.act_profile.specs.Answers.{answer_to}
use Rattle.act_profile.specs.Run.{Contracts, run_of}
use Rattle.act_history.specs.History.{History, and_then, appended_by, asks_by, collected_by, entries_of, is_append_by, is_collect_by, version_of}
use Rattle.act_history.specs.Legal.{IsOldest}
use Rattle.act_history.specs.declared.mark.Mark.{Mark}
use Rattle.act_history.specs.declared.mark.Mark.TheVariants as mark
use Rattle.act_history.proofs.Going.{asks-append, asks-own, asks-same, count-not, count-yes, entries-ask, entries-more, entries-same}
use Rattle.act_desk.specs.Making.{IsAmid, appends, asks}
use Rattle.act_desk.proofs.Goes.{GoesOnBeside}
use Rattle.act_desk.proofs.Own.{present-next}
use Rattle.act_desk.proofs.Stays.{appends-stay, asks-stay, book-goes, collects-stay, names-stay, present-stays, quotas-stay}

-- ---- answers

-- the answer to an ask is the same over a longer book
told-more : (contracts : Contracts) (names : NameLists) (book more : List Obs) (ask : Asking) → ask.version ≤ length book → answer_to contracts names (book ++ more) ask ≡ answer_to contracts names book ask
told-more contracts names book more ask within =
    ap (λ (entries : List Obs). record {
      caller = ask.caller;
      number = ask.number;
      version = ask.version;
      runs = map (λ c. (c, run_of contracts entries c)) (contracts_of names ask.asked);
    }) (take-append-le ask.version book more within)

pub all-told : (contracts : Contracts) (names : NameLists) (book more : List Obs) (made : List Asking) → All (λ (ask : Asking). ask.version ≤ length book) made
    → map (answer_to contracts names (book ++ more)) made ≡ map (answer_to contracts names book) made
all-told contracts names book more [] within = refl
all-told contracts names book more (ask ∷ made) within =
    let one : answer_to contracts names (book ++ more) ask ≡ answer_to contracts names book ask = told-more contracts names book more ask (All-head (λ (a : Asking). a.version ≤ length book) ask made within) in
    ap (λ (reply : Reply). reply ∷ map (answer_to contracts names (book ++ more)) made) one
    ∙ ap (λ (replies : List Reply). answer_to contracts names book ask ∷ replies) (all-told contracts names book more made (All-tail (λ (a : Asking). a.version ≤ length book) ask made within))

-- ---- counts of lines

-- a line more
pub count-appends : (done : List Line) (line : Line) (entry : Obs) → line.step ≡ step.Append entry → (count_by appends (done ++ line ∷ []) ≡ count_by appends done + 1) × (count_by asks (done ++ line ∷ []) ≡ count_by asks done)
count-appends done line entry is = (count-yes appends done line (ap is_append is), count-not asks done line (ap (λ s. not (is_append s)) is))

pub count-asks : (done : List Line) (line : Line) (asked : Asked) → line.step ≡ step.Ask asked → (count_by appends (done ++ line ∷ []) ≡ count_by appends done) × (count_by asks (done ++ line ∷ []) ≡ count_by asks done + 1)
count-asks done line asked is = (count-not appends done line (ap is_append is), count-yes asks done line (ap (λ s. not (is_append s)) is))

-- ---- the way

module _ {A : Type 0} {kept_of : Reply → A} (start : History) (i : ℕ) where
  module _ (done : List Line) (answers : List A) (now : History) (is : IsAmid kept_of start i done answers now) where
    -- answers over a book that goes on
    told-on : (more : List Obs) (later : List Obs) → later ≡ entries_of now ++ more
        → answers ≡ map kept_of (map (answer_to start.portfolio.contracts start.portfolio.names later) (take (length answers) is.made))
    told-on more later goes =
        is.told
        ∙ ap (map kept_of)
        (sym (all-told start.portfolio.contracts start.portfolio.names (entries_of now) more (take (length answers) is.made) (All-take (λ (a : Asking). a.version ≤ version_of now) (length answers) is.made is.versions))
        ∙ ap (λ (book : List Obs). map (answer_to start.portfolio.contracts start.portfolio.names book) (take (length answers) is.made)) (sym goes))

    versions-on : (more : List Obs) (later : History) → entries_of later ≡ entries_of now ++ more → All (λ (ask : Asking). ask.version ≤ version_of later) is.made
    versions-on more later goes =
        let longer : version_of later ≡ version_of now + length more = ap length goes ∙ length-append (entries_of now) more in
        All-weaker (λ (ask : Asking). ask.version ≤ version_of now) (λ (ask : Asking). ask.version ≤ version_of later) (λ ask within. omega (arith, within, longer)) is.made is.versions

    -- others go on
    pub amid-stays : (found : History) → GoesOnBeside i now found → IsAmid kept_of start i done answers found
    amid-stays found goes =
        let book = book-goes i now found goes in
        record {
          portfolio = names-stay i now found goes ∙ is.portfolio;
          quotas = quotas-stay i now found goes ∙ is.quotas;
          present = present-stays i now found goes is.present;
          appended = appends-stay i now found goes ∙ is.appended;
          made = is.made;
          asked = asks-stay i now found goes ∙ is.asked;
          count = is.count;
          versions = versions-on book.0 found book.1;
          collected = collects-stay i now found goes ∙ is.collected;
          fewer = is.fewer;
          told = told-on book.0 (entries_of found) book.1;
        }

    -- a line that appends
    pub amid-append : (line : Line) (entry : Obs) → line.step ≡ step.Append entry → IsAmid kept_of start i (done ++ line ∷ []) answers (and_then now (mark.Append i entry))
    amid-append line entry is-append =
        let m : Mark = mark.Append i entry in
        let after : History = and_then now m in
        let counts = count-appends done line entry is-append in
        let more : entries_of after ≡ entries_of now ++ entry ∷ [] = entries-more now m (record { caller = i; step = step.Append entry }) entry refl refl in
        let one : appended_by after i ≡ appended_by now i + 1 = count-yes (is_append_by i) now.marks m (eq-eqb i i refl) in
        record {
          portfolio = is.portfolio;
          quotas = is.quotas;
          present = present-next i now m refl is.present;
          appended = let had = is.appended in let counted = counts.0 in omega (arith, had, one, counted);
          made = is.made;
          asked = asks-append i now m (record { caller = i; step = step.Append entry }) entry refl refl ∙ is.asked;
          count = is.count ∙ sym counts.1;
          versions = versions-on (entry ∷ []) after more;
          collected = count-not (is_collect_by i) now.marks m refl ∙ is.collected;
          fewer = is.fewer;
          told = told-on (entry ∷ []) (entries_of after) more;
        }

    -- a line that asks
    pub amid-ask : (line : Line) (asked : Asked) → line.step ≡ step.Ask asked → IsAmid kept_of start i (done ++ line ∷ []) answers (and_then now (mark.Ask i asked))
    amid-ask line asked is-ask =
        let m : Mark = mark.Ask i asked in
        let after : History = and_then now m in
        let ask : Asking = record { caller = i; number = 1 + length (asks_by now i); version = version_of now; asked = asked } in
        let counts = count-asks done line asked is-ask in
        let same : entries_of after ≡ entries_of now = entries-ask now m (record { caller = i; step = step.Ask asked }) refl refl in
        let none : entries_of after ≡ entries_of now ++ [] = same ∙ sym (append-nil (entries_of now)) in
        let longer : length (is.made ++ ask ∷ []) ≡ length is.made + 1 = length-append is.made (ask ∷ []) in
        record {
          portfolio = is.portfolio;
          quotas = is.quotas;
          present = present-next i now m refl is.present;
          appended = let had = is.appended in let counted = counts.0 in let not = count-not (is_append_by i) now.marks m refl in omega (arith, had, counted, not);
          made = is.made ++ ask ∷ [];
          asked =
              asks-own i now m (record { caller = i; step = step.Ask asked }) asked refl refl (eq-eqb i i refl)
              ∙ (ap (λ (asks : List Asking). asks ++ ask ∷ []) is.asked ∙ append_assoc (asks_by start i) is.made (ask ∷ []));
          count = let had = is.count in let counted = counts.1 in omega (arith, longer, had, counted);
          versions =
              All-push (λ (a : Asking). a.version ≤ version_of after) is.made ask (versions-on [] after none)
              (subst (λ (n : ℕ). version_of now ≤ n) (sym (ap length same)) (omega arith));
          collected = count-not (is_collect_by i) now.marks m refl ∙ is.collected;
          fewer = let had = is.fewer in omega (arith, longer, had);
          told = told-on [] (entries_of after) none ∙ ap (λ (made : List Asking). map kept_of (map (answer_to start.portfolio.contracts start.portfolio.names (entries_of after)) made)) (sym (take-append-le (length answers) is.made (ask ∷ []) is.fewer));
        }

    -- the oldest open ask is the next one that has no answer
    oldest-is : collected_by start i ≡ length (asks_by start i) → (ask : Asking) → IsOldest now i ask → (length answers < length is.made) × (get_or is.made (length answers) ask ≡ ask)
    oldest-is all ask oldest =
        let n : ℕ = length answers in
        let all-asks : drop (collected_by now i) (asks_by now i) ≡ drop n is.made =
        ap (λ (k : ℕ). drop k (asks_by now i)) is.collected
        ∙ (ap (λ (asks : List Asking). drop (collected_by start i + n) asks) is.asked
        ∙ dropped (asks_by start i) (collected_by start i) n is.made all) in
        let at : slice_get (drop n is.made) 0 ≡ Some ask = ap (λ (asks : List Asking). slice_get asks 0) (sym all-asks) ∙ oldest in
        let some : 0 < length (drop n is.made) = slice_get_within (drop n is.made) 0 ask at in
        let count = length-drop n is.made in
        let zero-more : n + 0 ≡ n = omega arith in (
          omega (arith, some, count),
          ap (λ (k : ℕ). get_or is.made k ask) (sym zero-more)
              ∙ (sym (get_or-drop n is.made 0 ask) ∙ get_or_from_slice_get (drop n is.made) 0 ask ask at),
        )
      where
        dropped : (had : List Asking) (k n : ℕ) (made : List Asking) → k ≡ length had → drop (k + n) (had ++ made) ≡ drop n made
        dropped had k n made is =
            ap (λ (j : ℕ). drop (j + n) (had ++ made)) is ∙ drop-append-add had made n

    -- an answer is collected
    pub amid-collect : collected_by start i ≡ length (asks_by start i) → (ask : Asking) → IsOldest now i ask
        → IsAmid kept_of start i done (answers ++ kept_of (answer_to start.portfolio.contracts start.portfolio.names (entries_of now) ask) ∷ []) (and_then now (mark.Collect i))
    amid-collect all ask oldest =
        let m : Mark = mark.Collect i in
        let after : History = and_then now m in
        let reply : Reply = answer_to start.portfolio.contracts start.portfolio.names (entries_of now) ask in
        let next = oldest-is all ask oldest in
        let same : entries_of after ≡ entries_of now = entries-same now m refl in
        let longer : length (answers ++ kept_of reply ∷ []) ≡ length answers + 1 = length-append answers (kept_of reply ∷ []) in
        let more : length (answers ++ kept_of reply ∷ []) ≡ suc (length answers) = omega (arith, longer) in
        let first : take (length (answers ++ kept_of reply ∷ [])) is.made ≡ take (length answers) is.made ++ ask ∷ [] =
        ap (λ (n : ℕ). take n is.made) more
        ∙ (take-suc is.made (length answers) ask next.0 ∙ ap (λ (a : Asking). take (length answers) is.made ++ a ∷ []) next.1) in
        record {
          portfolio = is.portfolio;
          quotas = is.quotas;
          present = present-next i now m refl is.present;
          appended = count-not (is_append_by i) now.marks m refl ∙ is.appended;
          made = is.made;
          asked = asks-same i now m refl ∙ is.asked;
          count = is.count;
          versions = subst (λ (n : ℕ). All (λ (a : Asking). a.version ≤ n) is.made) (sym (ap length same)) is.versions;
          collected = let one = count-yes (is_collect_by i) now.marks m (eq-eqb i i refl) in let had = is.collected in omega (arith, one, had, longer);
          fewer = let within = next.0 in omega (arith, within, longer);
          told =
              ap (λ (replies : List A). replies ++ kept_of reply ∷ []) is.told
              ∙ (sym (map-append kept_of (map (answer_to start.portfolio.contracts start.portfolio.names (entries_of now)) (take (length answers) is.made)) (reply ∷ []))
              ∙ ap (map kept_of)
              (sym (map-append (answer_to start.portfolio.contracts start.portfolio.names (entries_of now)) (take (length answers) is.made) (ask ∷ []))
              ∙ (ap (λ (made : List Asking). map (answer_to start.portfolio.contracts start.portfolio.names (entries_of now)) made) (sym first)
              ∙ ap (λ (book : List Obs). map (answer_to start.portfolio.contracts start.portfolio.names book) (take (length (answers ++ kept_of reply ∷ [])) is.made)) (sym same))));
        }
