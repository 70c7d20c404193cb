-- The steps of the one caller of a board, and the rows that are computed for them.
use Rattle.std.proofs.Common.{◌≡◌, ◌⊎◌, Option, nat_lt, ℕ, suc, ◌+◌, ◌<◌, ◌≤◌, cond, Some, None, sum_by, Bool, true, false, List, [], ◌∷◌, ◌++◌, length, map, take, drop, Ok, inl, inr, refl, sym, ap, subst, ◌∙◌, arith, append-nil, append_assoc, length-append}
use Rattle.std.specs.List.{Contains, range_with_len, slice_get}
use Rattle.std.proofs.lemmas.Bool.{cases_Bool}
use Rattle.std.proofs.lemmas.List.{length-drop, take_at}
use Rattle.std.proofs.lemmas.List.Elements.{Contains-append_left, Contains-push, Contains-push_cases, filter_map-append}
use Rattle.act_model.specs.Answer.{Reply}
use Rattle.act_model.specs.Asks.{caller_asks}
use Rattle.act_model.specs.Journal.{book_of, contracts_of, entry_of, is_known}
use Rattle.act_model.specs.Names.{NameLists}
use Rattle.act_model.specs.declared.asks.Asking.{Asking}
use Rattle.act_model.specs.declared.journal.Asked.{Asked}
use Rattle.act_model.specs.declared.journal.Asked.TheVariants as asking
use Rattle.act_model.specs.declared.journal.Item.{Item}
use Rattle.act_model.specs.declared.journal.Line.{Line}
use Rattle.act_model.specs.declared.journal.Step.{Step}
use Rattle.act_model.specs.declared.journal.Step.TheVariants as step
use Rattle.act_model.specs.declared.observed.Obs.{Obs}
use Rattle.act_model.proofs.AsksInTurn.{asks_in_turn}
use Rattle.act_portfolio.specs.Reading.{Accepted}
use Rattle.act_profile.specs.Answers.{answer_to}
use Rattle.act_profile.specs.Run.{Contracts, run_of}
use Rattle.act_refs.specs.Ordered.{order_of}
use Rattle.act_refs.specs.Path.{IsChild}
use Rattle.act_history.specs.History.{History, IsWanted, and_then, appended_by, asks_by, collected_by, entries_of, has_result, is_append_by, is_claim_of, is_collect_by, is_finish_of, is_give_up, is_leave_by, journal_of, open_asks, version_of}
use Rattle.act_keeping.specs.Latest.{cached_version, finished_version}
use Rattle.act_history.specs.Legal.{HasQuota, IsOldest, IsReady, NoneIsClaimable}
use Rattle.act_history.specs.declared.mark.Mark.{Mark}
use Rattle.act_history.specs.declared.mark.Mark.TheVariants as mark
use Rattle.act_history.proofs.Going.{any-not, asks-append, asks-own, asks-same, count-not, count-yes, entries-ask, entries-more, entries-same, journal-more, journal-same, open-less, open-more, open-same}
use Rattle.act_keeping.proofs.Pairs.{claimed-same, result-same}
use Rattle.act_history.proofs.Reaching.{reached-self}
use Rattle.act_eval.specs.Driven.{Adds, AreLatest, IsAnswered, IsAtRest, IsDriven, IsLater, IsQuiet, OnlyWorks, is_reached_by, made_since, next_answer, next_ask, rows_left, rows_since}
use Rattle.act_eval.specs.Work.{ask_work, asks_work, fresh_rows, last_version, reaches, work_of}
use Rattle.act_transcript.specs.Text.{items_of}
use Rattle.act_transcript.proofs.Replies.{named-asked}
use Rattle.act_eval.proofs.Asks.{one-caller}
use Rattle.act_eval.proofs.Quiet.{none-lacks}
use Rattle.act_eval.proofs.Latest.{cached-has, cached-same}
use Rattle.act_eval.proofs.Sums.{sum-filter, sum-same}
use Rattle.act_eval.proofs.Working.{and-false, fresh-same, last-push, none-fresh}

-- nothing is in an empty list
nowhere : {X : Type 0} (x : X) → Contains [] x → ⊥
nowhere x there = absurd (omega (arith, there.1))

-- what the caller adds to its journal by a step
abbrev item_of_step : Step → Item
item_of_step s = record { caller = 1; step = s }

-- a mark by which nothing is claimed, nothing gets a result, and the caller goes on
record IsCallers (m : Mark) : Type 0 where
  goes_on : is_give_up m ≡ false
  stays : is_leave_by 1 m ≡ false
  claims : (c v : ℕ) → is_claim_of c v m ≡ false
  results : (c v : ℕ) → is_finish_of c v m ≡ false
  versions : (c : ℕ) → finished_version c m ≡ None

-- a board is quiet behind such a mark where this is so
record StaysQuiet (history after : History) : Type 0 where
  collected : collected_by after 1 ≤ length (asks_by after 1)
  made : (ask : Asking) → Contains (asks_by history 1) ask → Contains (asks_by after 1) ask
  answered : (ask : Asking) → Contains (asks_by after 1) ask → Contains (open_asks after 1) ask ⊎ IsAnswered after ask
  now : (ask : Asking) → Contains (open_asks after 1) ask → ask.version ≡ version_of after
  grows : version_of history ≤ version_of after
  newest : (c : ℕ) → has_result after c (version_of after) ≡ true → cached_version after c ≡ Some (version_of after)

module _ (portfolio : Accepted) (history : History) (quiet : IsQuiet portfolio history) where
  -- ---- what stays

  module _ (m : Mark) (callers : IsCallers m) where
    abbrev behind : History
    behind = and_then history m

    results-stay : (c v : ℕ) → has_result behind c v ≡ has_result history c v
    results-stay c v = result-same history m c v (callers.results c v)

    latest-stay : (c : ℕ) → cached_version behind c ≡ cached_version history c
    latest-stay c = cached-same c history m (callers.versions c)

    answered-stay : (ask : Asking) → IsAnswered history ask → IsAnswered behind ask
    answered-stay ask all c within reached = results-stay c ask.version ∙ all c within reached

    -- where no entry is added
    newest-still : entries_of behind ≡ entries_of history → (c : ℕ) → has_result behind c (version_of behind) ≡ true → cached_version behind c ≡ Some (version_of behind)
    newest-still same c has =
        let version = sym (ap length same) in
        latest-stay c ∙ (quiet.newest c (sym (results-stay c (version_of history)) ∙ (ap (has_result behind c) version ∙ has)) ∙ ap {B = Option ℕ} (λ (n : ℕ). Some n) version)

    quiet-still : StaysQuiet history behind → IsQuiet portfolio behind
    quiet-still so = record {
      portfolio = quiet.portfolio;
      alone = quiet.alone;
      going = any-not is_give_up history.marks m callers.goes_on ∙ quiet.going;
      here = any-not (is_leave_by 1) history.marks m callers.stays ∙ quiet.here;
      collected = so.collected;
      back = λ c v was. results-stay c v ∙ quiet.back c v (sym (claimed-same history m c v (callers.claims c v)) ∙ was);
      asked = λ c v has.
          let is = quiet.asked c v (sym (results-stay c v) ∙ has) in
          record { ask = is.ask; made = so.made is.ask is.made; contract = is.contract; version = is.version; reached = is.reached };
      answered = so.answered;
      now = so.now;
      past = λ c v has. omega (arith, quiet.past c v (sym (results-stay c v) ∙ has), so.grows);
      newest = so.newest;
    }

  -- ---- the caller asks

  module _ (closed : open_asks history 1 ≡ []) (asked : Asked) where
    abbrev ask-mark : Mark
    ask-mark = mark.Ask 1 asked

    abbrev pub after-ask : History
    after-ask = and_then history ask-mark

    abbrev pub the-ask : Asking
    the-ask = next_ask history asked

    ask-callers : IsCallers ask-mark
    ask-callers = record { goes_on = refl; stays = refl; claims = λ c v. refl; results = λ c v. refl; versions = λ c. refl }

    pub ask-items : journal_of after-ask ≡ journal_of history ++ item_of_step (step.Ask asked) ∷ []
    ask-items = journal-more history ask-mark (item_of_step (step.Ask asked)) refl

    pub ask-entries : entries_of after-ask ≡ entries_of history
    ask-entries = entries-ask history ask-mark (item_of_step (step.Ask asked)) refl refl

    pub ask-asks : asks_by after-ask 1 ≡ asks_by history 1 ++ the-ask ∷ []
    ask-asks = asks-own 1 history ask-mark (item_of_step (step.Ask asked)) asked refl refl refl

    pub ask-open : open_asks after-ask 1 ≡ the-ask ∷ []
    ask-open = open-more 1 history ask-mark the-ask ask-asks refl quiet.collected ∙ ap (λ (asks : List Asking). asks ++ the-ask ∷ []) closed

    pub ask-collected : collected_by after-ask 1 ≡ collected_by history 1
    ask-collected = count-not (is_collect_by 1) history.marks ask-mark refl

    pub ask-appended : appended_by after-ask 1 ≡ appended_by history 1
    ask-appended = count-not (is_append_by 1) history.marks ask-mark refl

    pub ask-results : (c v : ℕ) → has_result after-ask c v ≡ has_result history c v
    ask-results = results-stay ask-mark ask-callers

    pub ask-latest : (c : ℕ) → cached_version after-ask c ≡ cached_version history c
    ask-latest = latest-stay ask-mark ask-callers

    pub quiet-asked : IsQuiet portfolio after-ask
    quiet-asked = quiet-still ask-mark ask-callers (record {
      collected = omega (arith, ask-collected, ap length ask-asks, length-append (asks_by history 1) (the-ask ∷ []), quiet.collected);
      made = λ ask made. subst (λ (asks : List Asking). Contains asks ask) (sym ask-asks) (Contains-append_left (asks_by history 1) (the-ask ∷ []) ask made);
      answered = λ ask there. elim (Contains-push_cases (asks_by history 1) the-ask ask (subst (λ (asks : List Asking). Contains asks ask) ask-asks there)) [
        | inl before ↦ elim (quiet.answered ask before) [
          | inl waits ↦ absurd (nowhere ask (subst (λ (asks : List Asking). Contains asks ask) closed waits))
          | inr all ↦ inr (answered-stay ask-mark ask-callers ask all)
        ]
        | inr new ↦ inl (subst (λ (a : Asking). Contains (open_asks after-ask 1) a) new (subst (λ (asks : List Asking). Contains asks the-ask) (sym ask-open) (Contains-push [] the-ask)))
      ];
      now = λ ask waits. elim (Contains-push_cases [] the-ask ask (subst (λ (asks : List Asking). Contains asks ask) ask-open waits)) [
        | inl none ↦ absurd (nowhere ask none)
        | inr new ↦ ap (λ (a : Asking). a.version) (sym new) ∙ sym (ap length ask-entries)
      ];
      grows = omega (arith, ap length ask-entries);
      newest = newest-still ask-mark ask-callers ask-entries;
    })

  -- ---- what is asked for is there

  module _ (ask : Asking) (opened : open_asks history 1 ≡ ask ∷ []) (ordered : order_of portfolio.contracts.children ≡ Ok portfolio.order) (count : length portfolio.contracts.children ≡ length portfolio.contracts.terms)
      (exist : (parent child : ℕ) → IsChild portfolio.contracts.children parent child → child < length portfolio.contracts.terms) (none : NoneIsClaimable history) where
    waits-here : Contains (open_asks history 1) ask
    waits-here = subst (λ (asks : List Asking). Contains asks ask) (sym opened) (Contains-push [] ask)

    ask-wanted : (c : ℕ) → c < length history.portfolio.contracts.terms → is_reached_by history ask c ≡ true → IsWanted history c ask.version
    ask-wanted c within reached = record {
      caller = 1;
      from = omega arith;
      to = omega (arith, quiet.alone);
      ask = ask;
      still_open = waits-here;
      contract = within;
      version = refl;
      reached = reached;
    }

    pub all-there : IsAnswered history ask
    all-there = λ c within reached. none-lacks portfolio history quiet ordered count exist none c ask.version (ask-wanted c within reached)

    pub oldest-is : IsOldest history 1 ask
    oldest-is = ap (λ (asks : List Asking). slice_get asks 0) opened

    pub ready-is : is_known history.portfolio.names (step.Ask ask.asked) ≡ true → length portfolio.names.contracts ≤ length portfolio.contracts.terms → IsReady history ask
    ready-is known few = λ k d within.
        let is = named-asked history.portfolio.names ask.asked known k d within in
        all-there _ (omega (arith, is.1, few, ap (λ (p : Accepted). length p.names.contracts) quiet.portfolio, ap (λ (p : Accepted). length p.contracts.terms) quiet.portfolio)) (reached-self history.portfolio.contracts (contracts_of history.portfolio.names ask.asked) _ is.0)

  -- ---- it is given an answer

  module _ (ask : Asking) (opened : open_asks history 1 ≡ ask ∷ []) (all : IsAnswered history ask) where
    abbrev collect-mark : Mark
    collect-mark = mark.Collect 1

    abbrev pub after-collect : History
    after-collect = and_then history collect-mark

    collect-callers : IsCallers collect-mark
    collect-callers = record { goes_on = refl; stays = refl; claims = λ c v. refl; results = λ c v. refl; versions = λ c. refl }

    collect-asks : asks_by after-collect 1 ≡ asks_by history 1
    collect-asks = asks-same 1 history collect-mark refl

    pub collect-open : open_asks after-collect 1 ≡ []
    collect-open = open-less 1 history collect-mark collect-asks refl ∙ ap (drop 1) opened

    collect-entries : entries_of after-collect ≡ entries_of history
    collect-entries = entries-same history collect-mark refl

    pub quiet-collected : IsQuiet portfolio after-collect
    quiet-collected = quiet-still collect-mark collect-callers (record {
      collected = omega (arith, count-yes (is_collect_by 1) history.marks collect-mark refl, ap length collect-asks, ap length opened, length-drop (collected_by history 1) (asks_by history 1));
      made = λ one made. subst (λ (asks : List Asking). Contains asks one) (sym collect-asks) made;
      answered = λ one there. inr (answered-stay collect-mark collect-callers one (elim (quiet.answered one (subst (λ (asks : List Asking). Contains asks one) collect-asks there)) [
        | inl waits ↦ elim (Contains-push_cases [] ask one (subst (λ (asks : List Asking). Contains asks one) opened waits)) [
          | inl none ↦ absurd (nowhere one none)
          | inr same ↦ subst (IsAnswered history) same all
        ]
        | inr had ↦ had
      ]));
      now = λ one waits. absurd (nowhere one (subst (λ (asks : List Asking). Contains asks one) collect-open waits));
      grows = omega (arith, ap length collect-entries);
      newest = newest-still collect-mark collect-callers collect-entries;
    })

  -- ---- it appends an entry

  module _ (closed : open_asks history 1 ≡ []) (entry : Obs) where
    abbrev append-mark : Mark
    append-mark = mark.Append 1 entry

    abbrev pub after-append : History
    after-append = and_then history append-mark

    pub append-asks : asks_by after-append 1 ≡ asks_by history 1
    append-asks = asks-append 1 history append-mark (item_of_step (step.Append entry)) entry refl refl

    pub append-asked : length (asks_by after-append 1) ≡ length (asks_by history 1)
    append-asked = ap length append-asks

    pub append-entries : entries_of after-append ≡ entries_of history ++ entry ∷ []
    append-entries = entries-more history append-mark (item_of_step (step.Append entry)) entry refl refl

    append-callers : IsCallers append-mark
    append-callers = record { goes_on = refl; stays = refl; claims = λ c v. refl; results = λ c v. refl; versions = λ c. refl }

    pub append-open : open_asks after-append 1 ≡ []
    append-open = open-same 1 history append-mark append-asks refl ∙ closed

    append-version : version_of after-append ≡ version_of history + 1
    append-version = ap length append-entries ∙ length-append (entries_of history) (entry ∷ [])

    pub latest-appended : AreLatest portfolio history → AreLatest portfolio after-append
    latest-appended are c within = latest-stay append-mark append-callers c ∙ (are c within ∙ ap (λ (asks : List Asking). last_version portfolio asks c) (sym append-asks))

    pub quiet-appended : IsQuiet portfolio after-append
    quiet-appended = quiet-still append-mark append-callers (record {
      collected = omega (arith, count-not (is_collect_by 1) history.marks append-mark refl, ap length append-asks, quiet.collected);
      made = λ one made. subst (λ (asks : List Asking). Contains asks one) (sym append-asks) made;
      answered = λ one there. inr (answered-stay append-mark append-callers one (elim (quiet.answered one (subst (λ (asks : List Asking). Contains asks one) append-asks there)) [
        | inl waits ↦ absurd (nowhere one (subst (λ (asks : List Asking). Contains asks one) closed waits))
        | inr had ↦ had
      ]));
      now = λ one waits. absurd (nowhere one (subst (λ (asks : List Asking). Contains asks one) append-open waits));
      grows = omega (arith, append-version);
      newest = λ c has. absurd (omega (arith, quiet.past c (version_of after-append) (sym (results-stay append-mark append-callers c (version_of after-append)) ∙ has), append-version));
    })

-- ---- an ask and its answer

-- what an ask comes to, once all that it reaches is evaluated and its answer is given
pub record IsToldOf (portfolio : Accepted) (asked : Asked) (first last : History) (before now : ℕ) : Type 0 where
  pub oldest : IsOldest last 1 (next_ask first asked)
  pub ready : IsReady last (next_ask first asked)
  pub rest : IsAtRest portfolio (and_then last (mark.Collect 1))
  pub adds : Adds asked first (and_then last (mark.Collect 1))
  pub answer : answer_to last.portfolio.contracts last.portfolio.names (entries_of last) (next_ask first asked) ≡ next_answer portfolio first asked
  pub ticked : (book : List Obs) → take (version_of first) book ≡ entries_of first → now ≡ before + ask_work portfolio book (asks_by first 1) (next_ask first asked)

module _ (portfolio : Accepted) (first last : History) (quiet : IsQuiet portfolio first) (closed : open_asks first 1 ≡ []) (asked : Asked) (works : OnlyWorks (after-ask portfolio first quiet closed asked) last) (still : IsQuiet portfolio last) where
  abbrev middle : History
  middle = after-ask portfolio first quiet closed asked

  abbrev ask-made : Asking
  ask-made = the-ask portfolio first quiet closed asked

  abbrev pub answered-last : History
  answered-last = and_then last (mark.Collect 1)

  pub opened-last : open_asks last 1 ≡ ask-made ∷ []
  opened-last =
      ap (λ (n : ℕ). drop n (asks_by last 1)) works.collected
      ∙ (ap (λ (items : List Item). drop (collected_by middle 1) (caller_asks items 1)) works.items ∙ ask-open portfolio first quiet closed asked)

  items-last : journal_of answered-last ≡ journal_of first ++ record { caller = 1; step = step.Ask asked } ∷ []
  items-last = journal-same last (mark.Collect 1) refl ∙ (works.items ∙ ask-items portfolio first quiet closed asked)

  entries-last : entries_of last ≡ entries_of first
  entries-last = ap book_of works.items ∙ ask-entries portfolio first quiet closed asked

  asks-last : asks_by last 1 ≡ asks_by first 1 ++ ask-made ∷ []
  asks-last = ap (λ (items : List Item). caller_asks items 1) works.items ∙ ask-asks portfolio first quiet closed asked

  asks-answered : asks_by answered-last 1 ≡ asks_by first 1 ++ ask-made ∷ []
  asks-answered = asks-same 1 last (mark.Collect 1) refl ∙ asks-last

  pub adds-ask : Adds asked first answered-last
  adds-ask = record {
    quotas = works.quotas;
    items = items-last;
    appended = count-not (is_append_by 1) last.marks (mark.Collect 1) refl ∙ (works.appended ∙ ask-appended portfolio first quiet closed asked);
    asks = asks-answered;
    entries = entries-same last (mark.Collect 1) refl ∙ entries-last;
  }

  pub answer-is : answer_to last.portfolio.contracts last.portfolio.names (entries_of last) ask-made ≡ answer_to portfolio.contracts portfolio.names (entries_of first) ask-made
  answer-is = ap (λ (p : Accepted). answer_to p.contracts p.names (entries_of last) ask-made) still.portfolio ∙ ap (λ (entries : List Obs). answer_to portfolio.contracts portfolio.names entries ask-made) entries-last

  -- ---- the rows of an ask

  module _ (later : IsLater middle last) (all : IsAnswered last ask-made) (are : AreLatest portfolio first) (c : ℕ) (within : c < length portfolio.contracts.terms) where
    version-middle : version_of middle ≡ version_of first
    version-middle = ap length (ask-entries portfolio first quiet closed asked)

    result-middle : has_result middle c (version_of middle) ≡ has_result first c (version_of first)
    result-middle = ask-results portfolio first quiet closed asked c (version_of middle) ∙ ap (has_result first c) version-middle

    -- what has a result over all entries already was evaluated for it last
    latest-had : has_result first c (version_of first) ≡ true → last_version portfolio (asks_by first 1) c ≡ Some (version_of first)
    latest-had has = sym (are c within) ∙ quiet.newest c has

    unmade-had : has_result first c (version_of first) ≡ true → made_since middle last c ≡ false
    unmade-had has = rw (result-middle ∙ has) (and-false (has_result last c (version_of middle)))

    made-reached : reaches portfolio ask-made c ≡ true → has_result first c (version_of first) ≡ false → made_since middle last c ≡ true
    made-reached reached lacked =
        let within-last : c < length last.portfolio.contracts.terms = omega (arith, within, ap (λ (p : Accepted). length p.contracts.terms) still.portfolio) in
        let reached-last : is_reached_by last ask-made c ≡ true = ap (λ (p : Accepted). reaches p ask-made c) still.portfolio ∙ reached in
        rw (result-middle ∙ lacked, ap (has_result last c) version-middle ∙ all c within-last reached-last) refl

    -- what has one now, and had none, is reached by the ask
    reached-so : has_result last c (version_of first) ≡ true → has_result first c (version_of first) ≡ false → reaches portfolio ask-made c ≡ true
    reached-so has lacked =
        let is = still.asked c (version_of first) has in
        let reached : reaches portfolio is.ask c ≡ true = sym (ap (λ (p : Accepted). reaches p is.ask c) still.portfolio) ∙ is.reached in
        elim (Contains-push_cases (asks_by first 1) ask-made is.ask (subst (λ (asks : List Asking). Contains asks is.ask) asks-last is.made)) [
          | inl before ↦ elim (quiet.answered is.ask before) [
            | inl waits ↦ absurd (nowhere is.ask (subst (λ (asks : List Asking). Contains asks is.ask) closed waits))
            | inr had ↦
                let within-first : c < length first.portfolio.contracts.terms = omega (arith, within, ap (λ (p : Accepted). length p.contracts.terms) quiet.portfolio) in
                let result : has_result first c (version_of first) ≡ true =
                ap (has_result first c) (sym is.version) ∙ had c within-first (ap (λ (p : Accepted). reaches p is.ask c) quiet.portfolio ∙ reached) in
                absurd (cc)
          ]
          | inr new ↦ ap (λ (a : Asking). reaches portfolio a c) new ∙ reached
        ]

    unmade-unreached : reaches portfolio ask-made c ≡ false → made_since middle last c ≡ false
    unmade-unreached unreached = elim (cases_Bool (has_result first c (version_of first))) [
      | inl had ↦ unmade-had had
      | inr lacked ↦ elim (cases_Bool (has_result last c (version_of first))) [
        | inl has ↦ absurd (let reached = reached-so has lacked in cc)
        | inr lacks ↦ rw (ap (has_result last c) version-middle ∙ lacks) refl
      ]
    ]

    latest-one : cached_version answered-last c ≡ last_version portfolio (asks_by answered-last 1) c
    latest-one =
        cached-same c last (mark.Collect 1) refl
        ∙ (later c
        ∙ (ap (λ (n : ℕ). cond (made_since middle last c) (Some n) (cached_version middle c)) version-middle
        ∙ (ap (λ (o : Option ℕ). cond (made_since middle last c) (Some (version_of first)) o) (ask-latest portfolio first quiet closed asked c ∙ are c within)
        ∙ (by (reaches portfolio ask-made c) refl
        ∙ (sym (last-push portfolio (asks_by first 1) ask-made c) ∙ ap (λ (asks : List Asking). last_version portfolio asks c) (sym asks-answered))))))
      where
        by : (reached : Bool) → reaches portfolio ask-made c ≡ reached
            → cond (made_since middle last c) (Some (version_of first)) (last_version portfolio (asks_by first 1) c) ≡ cond (reaches portfolio ask-made c) (Some (version_of first)) (last_version portfolio (asks_by first 1) c)
        by true is = elim (cases_Bool (has_result first c (version_of first))) [
          | inl had ↦ rw (unmade-had had, is) (latest-had had)
          | inr lacked ↦ rw (made-reached is lacked, is) refl
        ]
        by false is = rw (unmade-unreached is, is) refl

    rows-one : (book : List Obs) → take (version_of first) book ≡ entries_of first
        → cond (made_since middle last c) (rows_left middle c (version_of middle)) 0 ≡ cond (reaches portfolio ask-made c) (fresh_rows portfolio.contracts book c (last_version portfolio (asks_by first 1) c) (version_of first)) 0
    rows-one book begins = by (reaches portfolio ask-made c) refl
      where
        fresh : rows_left middle c (version_of middle) ≡ fresh_rows portfolio.contracts book c (last_version portfolio (asks_by first 1) c) (version_of first)
        fresh =
            ap (λ (p : Accepted). fresh_rows p.contracts (entries_of middle) c (cached_version middle c) (version_of middle)) quiet.portfolio
            ∙ (ap (λ (es : List Obs). fresh_rows portfolio.contracts es c (cached_version middle c) (length es)) (ask-entries portfolio first quiet closed asked)
            ∙ (ap (λ (o : Option ℕ). fresh_rows portfolio.contracts (entries_of first) c o (version_of first)) (ask-latest portfolio first quiet closed asked c)
            ∙ (fresh-same portfolio.contracts c (entries_of first) book begins (cached_version first c) (λ u is. quiet.past c u (cached-has c first u is))
            ∙ ap (λ (o : Option ℕ). fresh_rows portfolio.contracts book c o (version_of first)) (are c within))))

        by : (reached : Bool) → reaches portfolio ask-made c ≡ reached
            → cond (made_since middle last c) (rows_left middle c (version_of middle)) 0 ≡ cond (reaches portfolio ask-made c) (fresh_rows portfolio.contracts book c (last_version portfolio (asks_by first 1) c) (version_of first)) 0
        by true is = elim (cases_Bool (has_result first c (version_of first))) [
          | inl had ↦ rw (unmade-had had, is, latest-had had) (sym (none-fresh portfolio.contracts book c (version_of first)))
          | inr lacked ↦ rw (made-reached is lacked, is) fresh
        ]
        by false is = rw (unmade-unreached is, is) refl

  latest-answered : IsLater middle last → IsAnswered last ask-made → AreLatest portfolio first → AreLatest portfolio answered-last
  latest-answered later all are c within = latest-one later all are c within

  pub rest-answered : IsLater middle last → IsAnswered last ask-made → AreLatest portfolio first → IsAtRest portfolio answered-last
  rest-answered later all are = record {
    quiet = quiet-collected portfolio last still ask-made opened-last all;
    closed = collect-open portfolio last still ask-made opened-last all;
    latest = latest-answered later all are;
  }

  pub ticks-ask : (before now : ℕ) → now ≡ before + rows_since middle last → IsLater middle last → IsAnswered last ask-made → AreLatest portfolio first
      → (book : List Obs) → take (version_of first) book ≡ entries_of first → now ≡ before + ask_work portfolio book (asks_by first 1) ask-made
  ticks-ask before now ticked later all are book begins =
      let fresh : ℕ → ℕ = λ c. fresh_rows portfolio.contracts book c (last_version portfolio (asks_by first 1) c) (version_of first) in
      let left : ℕ → ℕ = λ c. cond (made_since middle last c) (rows_left middle c (version_of middle)) 0 in
      let range : rows_since middle last ≡ sum_by left (range_with_len 0 (length portfolio.contracts.terms)) = ap (λ (p : Accepted). sum_by left (range_with_len 0 (length p.contracts.terms))) quiet.portfolio in
      let same = sum-same left (λ c. cond (reaches portfolio ask-made c) (fresh c) 0) 0 (length portfolio.contracts.terms) (λ c from under. rows-one later all are c (omega (arith, under)) book begins) in
      omega (arith, ticked, range, same, sum-filter fresh (reaches portfolio ask-made) (range_with_len 0 (length portfolio.contracts.terms)))

-- all of this, where nothing is left to be evaluated
pub told-of : (portfolio : Accepted) (asked : Asked) (first last : History) (before now : ℕ) (rest : IsAtRest portfolio first) → OnlyWorks (after-ask portfolio first rest.quiet rest.closed asked) last → IsQuiet portfolio last
    → IsLater (after-ask portfolio first rest.quiet rest.closed asked) last → now ≡ before + rows_since (after-ask portfolio first rest.quiet rest.closed asked) last → NoneIsClaimable last
    → order_of portfolio.contracts.children ≡ Ok portfolio.order → length portfolio.contracts.children ≡ length portfolio.contracts.terms → ((parent child : ℕ) → IsChild portfolio.contracts.children parent child → child < length portfolio.contracts.terms)
    → is_known portfolio.names (step.Ask asked) ≡ true → length portfolio.names.contracts ≤ length portfolio.contracts.terms → IsToldOf portfolio asked first last before now
told-of portfolio asked first last before now rest works still later ticked none ordered count exist known few =
    let ask = next_ask first asked in
    let opened = opened-last portfolio first last rest.quiet rest.closed asked works still in
    let all = all-there portfolio last still ask opened ordered count exist none in
    record {
      oldest = oldest-is portfolio last still ask opened ordered count exist none;
      ready = ready-is portfolio last still ask opened ordered count exist none (subst (λ (p : Accepted). is_known p.names (step.Ask asked) ≡ true) (sym still.portfolio) known) few;
      rest = rest-answered portfolio first last rest.quiet rest.closed asked works still later all rest.latest;
      adds = adds-ask portfolio first last rest.quiet rest.closed asked works still;
      answer = answer-is portfolio first last rest.quiet rest.closed asked works still;
      ticked = ticks-ask portfolio first last rest.quiet rest.closed asked works still before now ticked later all rest.latest;
    }

-- ---- the steps of a script

module _ (portfolio : Accepted) (all left : List Item) where
  book-parts : (history : History) (rest : List Item) → journal_of history ++ rest ≡ all → book_of all ≡ entries_of history ++ book_of rest
  book-parts history rest is = ap book_of (sym is) ∙ filter_map-append (λ (item : Item). entry_of item.step) (journal_of history) rest

  pub book-begins : (history : History) (rest : List Item) → journal_of history ++ rest ≡ all → take (version_of history) (book_of all) ≡ entries_of history
  book-begins history rest is = ap (take (version_of history)) (book-parts history rest is) ∙ take_at (entries_of history) (book_of rest) (version_of history) refl

  module _ (history : History) (entry : Obs) (driven : IsDriven portfolio all (record { caller = 1; step = step.Append entry } ∷ left) history) where
    append-more : length (book_of all) ≡ version_of history + suc (length (book_of left))
    append-more = ap length (book-parts history (record { caller = 1; step = step.Append entry } ∷ left) driven.items) ∙ length-append (entries_of history) (entry ∷ book_of left)

    pub has-quota : HasQuota history 1
    has-quota = (0, length (book_of all), refl, ap (λ (quotas : List ℕ). slice_get quotas 0) driven.quotas, omega (arith, driven.appended, append-more))

    pub driven-append : IsDriven portfolio all left (after-append portfolio history driven.quiet driven.closed entry)
    driven-append = record {
      quiet = quiet-appended portfolio history driven.quiet driven.closed entry;
      closed = append-open portfolio history driven.quiet driven.closed entry;
      quotas = driven.quotas;
      items = ap (λ (items : List Item). items ++ left) (journal-more history (mark.Append 1 entry) (record { caller = 1; step = step.Append entry }) refl)
          ∙ (append_assoc (journal_of history) (record { caller = 1; step = step.Append entry } ∷ []) left ∙ driven.items);
      appended = omega (arith, count-yes (is_append_by 1) history.marks (mark.Append 1 entry) refl, ap length (append-entries portfolio history driven.quiet driven.closed entry), length-append (entries_of history) (entry ∷ []), driven.appended);
      latest = latest-appended portfolio history driven.quiet driven.closed entry driven.latest;
    }

  pub driven-ask : (history after : History) (asked : Asked) → IsDriven portfolio all (record { caller = 1; step = step.Ask asked } ∷ left) history → IsAtRest portfolio after → Adds asked history after
      → IsDriven portfolio all left after
  driven-ask history after asked driven rest adds = record {
    quiet = rest.quiet;
    closed = rest.closed;
    quotas = adds.quotas ∙ driven.quotas;
    items = ap (λ (items : List Item). items ++ left) adds.items ∙ (append_assoc (journal_of history) (record { caller = 1; step = step.Ask asked } ∷ []) left ∙ driven.items);
    appended = adds.appended ∙ (driven.appended ∙ sym (ap length adds.entries));
    latest = rest.latest;
  }

  -- the board is at rest
  pub driven-rest : (history : History) → IsDriven portfolio all left history → IsAtRest portfolio history
  driven-rest history driven = record { quiet = driven.quiet; closed = driven.closed; latest = driven.latest }

-- the answer over the entries so far is that over the whole book
pub answer-same : (contracts : Contracts) (names others : NameLists) (entries book : List Obs) (ask : Asking) → names.contracts ≡ others.contracts → take ask.version entries ≡ take ask.version book
    → answer_to contracts names entries ask ≡ answer_to contracts others book ask
answer-same contracts names others entries book ask same begins =
    ap (λ (seen : List Obs). reply seen (contracts_of names ask.asked)) begins ∙ ap (reply (take ask.version book)) (contracts-same ask.asked)
  where
    reply : List Obs → List ℕ → Reply
    reply seen asked = record { caller = ask.caller; number = ask.number; version = ask.version; runs = map (λ c. (c, run_of contracts seen c)) asked }

    contracts-same : (asked : Asked) → contracts_of names asked ≡ contracts_of others asked
    contracts-same asking.All = ap (λ (ids : List (List ℕ)). range_with_len 0 (length ids)) same
    contracts-same (asking.One contract) = refl

-- ---- the rows of all

pub work-all : (portfolio : Accepted) (lines : List Line) (history : History) → IsDriven portfolio (items_of lines) [] history
    → asks_work portfolio (book_of (items_of lines)) [] (asks_by history 1) ≡ work_of portfolio (items_of lines)
work-all portfolio lines history driven =
    ap (asks_work portfolio (book_of (items_of lines)) [])
    (sym (one-caller lines ∙ (sym (asks_in_turn (items_of lines) 1) ∙ ap (λ (items : List Item). caller_asks items 1) (sym driven.items ∙ append-nil (journal_of history)))))

-- ---- a board on which nothing has happened

pub driven-first : (portfolio : Accepted) (all : List Item) → IsDriven portfolio all all (record { portfolio = portfolio; quotas = length (book_of all) ∷ []; marks = [] })
driven-first portfolio all = record {
  quiet = record {
    portfolio = refl;
    alone = refl;
    going = refl;
    here = refl;
    collected = omega arith;
    back = λ c v was. absurd (cc);
    asked = λ c v has. absurd (cc);
    answered = λ ask there. absurd (nowhere ask there);
    now = λ ask there. absurd (nowhere ask there);
    past = λ c v has. absurd (cc);
    newest = λ c has. absurd (cc);
  };
  closed = refl;
  quotas = refl;
  items = refl;
  appended = refl;
  latest = λ c within. refl;
}

-- whether a contract that is asked for has a name
pub known-same : (names others : NameLists) (asked : Asked) → names.contracts ≡ others.contracts → is_known names (step.Ask asked) ≡ is_known others (step.Ask asked)
known-same names others asking.All same = refl
known-same names others (asking.One contract) same = ap (λ (ids : List (List ℕ)). nat_lt contract (length ids)) same
