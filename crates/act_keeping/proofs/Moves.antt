-- What is kept of contracts at versions after an ask, a claim, what comes back and an answer.
use Rattle.std.proofs.Common.{◌≡◌, ◌≢◌, ◌⊎◌, ℕ, zero, suc, ◌<◌, ◌≤◌, ◌==◌, ◌&&◌, Bool, true, false, List, [], ◌∷◌, ◌++◌, length, drop, get_or, Some, Ok, inl, inr, refl, sym, ap, subst, ◌∙◌, arith, eq-eqb}
use Rattle.std.specs.Arc.{arc_value}
use Rattle.std.specs.List.{All, Contains, slice_get}
use Rattle.std.proofs.lemmas.Bool.{and_from, and_parts, cases_Bool, cases_order, eqb-true}
use Rattle.std.proofs.lemmas.List.Elements.{All-get_or, Contains-append_left, Contains-push, Contains-push_cases}
use Rattle.std.proofs.lemmas.Option.{same_Some}
use Rattle.act_model.specs.Journal.{contracts_of}
use Rattle.act_model.specs.declared.asks.Asking.{Asking}
use Rattle.act_model.specs.declared.journal.Asked.{Asked}
use Rattle.act_model.specs.declared.observed.Obs.{Obs}
use Rattle.act_profile.specs.Reads.{is_in}
use Rattle.act_profile.specs.Run.{run_of}
use Rattle.act_refs.specs.Ordered.{order_of}
use Rattle.act_refs.specs.Path.{IsChild}
use Rattle.act_history.specs.History.{History, IsWanted, and_then, has_result, is_claim_of, is_finish_of, is_give_up, is_given_up, open_asks, version_of, was_claimed}
use Rattle.act_keeping.specs.Keeping.{ArePairs, Has, HaveResults, IsAt, IsListed, IsUnwanted, IsPair, IsPut, IsResult, contract_at, is_waiting}
use Rattle.act_history.specs.Legal.{IsReady}
use Rattle.act_history.specs.Reached.{is_reached}
use Rattle.act_keeping.specs.Wanting.{IsExtended, IsNew}
use Rattle.act_history.specs.declared.mark.Mark.{Mark}
use Rattle.act_history.specs.declared.mark.Mark.TheVariants as mark
use Rattle.act_keeping.specs.declared.pair.Pair.{Pair}
use Rattle.act_keeping.specs.declared.pair.Progress.{Progress}
use Rattle.act_keeping.specs.declared.pair.Progress.TheVariants.{Waiting, Claimed, Done, Dropped}
use Rattle.act_history.proofs.Going.{any-not, any-yes}
use Rattle.act_keeping.proofs.Pairs.{Stay, claimed-same, over-back, pair-same, put-cases, put-has, put-listed, put-other, put-sorted, ranks-apart, reached-done, result-same, result-stays}

-- ---- an ask

module _ (history : History) (caller : ℕ) (asked : Asked) (old new : List Pair) (wanted : ℕ → Bool) (start : ℕ) where
  abbrev ask-mark : Mark
  ask-mark = mark.Ask caller asked

  abbrev asking : History
  asking = and_then history ask-mark

  abbrev v : ℕ
  v = version_of history

  module _ (stay : Stay history ask-mark) (same : version_of asking ≡ version_of history) (extended : IsExtended old v wanted start (length history.portfolio.order) new)
      (reached : (r : ℕ) → wanted r ≡ is_reached history.portfolio.contracts (contracts_of history.portfolio.names asked) (contract_at history r))
      (others : (i : ℕ) → i ≢ caller → open_asks asking i ≡ open_asks history i)
      (ask : Asking) (opened : open_asks asking caller ≡ open_asks history caller ++ ask ∷ []) (ask-version : ask.version ≡ v) (ask-asked : ask.asked ≡ asked)
      (from : 1 ≤ caller) (to : caller ≤ length history.quotas) (numbered : All (λ contract. contract < length history.portfolio.contracts.terms) history.portfolio.order) (are : ArePairs history old) where
    still-wanted : (c w : ℕ) → IsWanted history c w → IsWanted asking c w
    still-wanted c w is = record {
      caller = is.caller;
      from = is.from;
      to = is.to;
      ask = is.ask;
      contract = is.contract;
      still_open = more;
      version = is.version;
      reached = is.reached;
    }
      where
        more : Contains (open_asks asking is.caller) is.ask
        more = elim (cases_order is.caller caller) [
          | inl own ↦
              subst (λ (i : ℕ). Contains (open_asks asking i) is.ask) (sym own)
              (subst (λ (asks : List Asking). Contains asks is.ask) (sym opened)
              (Contains-append_left (open_asks history caller) (ask ∷ []) is.ask (subst (λ (i : ℕ). Contains (open_asks history i) is.ask) own is.still_open)))
          | inr differ ↦
              subst (λ (asks : List Asking). Contains asks is.ask) (sym (others is.caller (λ own. elim differ [ inl lt ↦ absurd (omega arith) | inr gt ↦ absurd (omega arith) ]))) is.still_open
        ]

    now-wanted : (r : ℕ) → r < length history.portfolio.order → wanted r ≡ true → IsWanted asking (contract_at history r) v
    now-wanted r within is = record {
      caller = caller;
      from = from;
      to = to;
      ask = ask;
      contract = All-get_or (λ contract. contract < length history.portfolio.contracts.terms) history.portfolio.order r 0 within numbered;
      still_open = subst (λ (asks : List Asking). Contains asks ask) (sym opened) (Contains-push (open_asks history caller) ask);
      version = ask-version;
      reached = subst (λ (a : Asked). is_reached history.portfolio.contracts (contracts_of history.portfolio.names a) (contract_at history r) ≡ true) (sym ask-asked) (sym (reached r) ∙ is);
    }

    -- what is wanted was, or is asked for now
    wanted-cases : (c w : ℕ) → IsWanted asking c w → IsWanted history c w ⊎ ((w ≡ v) × (is_reached history.portfolio.contracts (contracts_of history.portfolio.names asked) c ≡ true))
    wanted-cases c w is = elim (cases_order is.caller caller) [
      | inl own ↦ elim (Contains-push_cases (open_asks history caller) ask is.ask (subst (λ (asks : List Asking). Contains asks is.ask) opened (subst (λ (i : ℕ). Contains (open_asks asking i) is.ask) own is.still_open))) [
        | inl earlier ↦ inl (record {
          caller = is.caller;
          from = is.from;
          to = is.to;
          ask = is.ask;
          contract = is.contract;
          still_open = subst (λ (i : ℕ). Contains (open_asks history i) is.ask) (sym own) earlier;
          version = is.version;
          reached = is.reached;
        })
        | inr now ↦ inr (
          sym is.version ∙ (ap (λ (a : Asking). a.version) (sym now) ∙ ask-version),
          subst (λ (a : Asked). is_reached history.portfolio.contracts (contracts_of history.portfolio.names a) c ≡ true) (ap (λ (a : Asking). a.asked) (sym now) ∙ ask-asked) is.reached,
        )
      ]
      | inr differ ↦ inl (record {
        caller = is.caller;
        from = is.from;
        to = is.to;
        ask = is.ask;
        contract = is.contract;
        still_open = subst (λ (asks : List Asking). Contains asks is.ask) (others is.caller (λ own. elim differ [ inl lt ↦ absurd (omega arith) | inr gt ↦ absurd (omega arith) ])) is.still_open;
        version = is.version;
        reached = is.reached;
      })
    ]

    new-pair : (pair : Pair) → IsNew old v wanted (length history.portfolio.order) pair → IsPair asking pair
    new-pair pair new = subst (IsPair asking) (sym new.is) (record {
      version = omega (arith, same);
      rank = new.within;
      at = (claimed-same history ask-mark (contract_at history pair.rank) v refl ∙ fresh-claim, result-same history ask-mark (contract_at history pair.rank) v refl ∙ fresh-result);
    })
      where
        fresh-claim : was_claimed history (contract_at history pair.rank) v ≡ false
        fresh-claim = elim (cases_Bool (was_claimed history (contract_at history pair.rank) v)) [
          | inl is ↦ absurd (new.absent (are.claimed v pair.rank new.within is))
          | inr none_yet ↦ none_yet
        ]

        fresh-result : has_result history (contract_at history pair.rank) v ≡ false
        fresh-result = elim (cases_Bool (has_result history (contract_at history pair.rank) v)) [
          | inl is ↦ absurd (new.absent (are.done v pair.rank new.within is))
          | inr none_yet ↦ none_yet
        ]

    over-still : (w : ℕ) → IsUnwanted history w → IsUnwanted asking w
    over-still w over = (
      omega (arith, over.0, same),
      λ c is. elim (wanted-cases c w is) [ inl before ↦ over.1 c before | inr now ↦ absurd (omega (arith, over.0, now.0)) ],
    )

    listed-still : (w r : ℕ) → IsListed old w r → IsListed new w r
    listed-still w r listed = (listed.0, extended.kept listed.0 listed.1, listed.2, listed.3)

    pub pairs-asked : ArePairs asking new
    pairs-asked = record {
      sorted = extended.sorted;
      each = λ pair has. elim (extended.only pair has) [
        | inl there ↦ pair-same history ask-mark pair stay (omega (arith, same)) refl refl (over-still pair.version) (are.each pair there)
        | inr new ↦ new-pair pair new
      ];
      children = λ pair has begun child refers. elim (extended.only pair has) [
        | inl there ↦ result-stays history ask-mark child pair.version (are.children pair there begun child refers)
        | inr new ↦ absurd (let waits : is_waiting pair.progress ≡ true = ap (λ (p : Pair). is_waiting p.progress) new.is in cc)
      ];
      waiting = λ going pair has waits. elim (extended.only pair has) [
        | inl there ↦ still-wanted (contract_at history pair.rank) pair.version (are.waiting (sym (any-not is_give_up history.marks ask-mark refl) ∙ going) pair there waits)
        | inr new ↦ subst (IsWanted asking (contract_at history pair.rank)) (sym (ap (λ (p : Pair). p.version) new.is)) (now-wanted pair.rank new.within new.asked)
      ];
      wanted = λ w r within is. elim (wanted-cases (contract_at history r) w is) [
        | inl before ↦ listed-still w r (are.wanted w r within before)
        | inr now ↦ subst (λ (k : ℕ). IsListed new k r) (sym now.0) (extended.all r within (reached r ∙ now.1))
      ];
      claimed = λ w r within is. listed-still w r (are.claimed w r within (sym (claimed-same history ask-mark (contract_at history r) w refl) ∙ is));
      done = λ w r within is. listed-still w r (are.done w r within (sym (result-same history ask-mark (contract_at history r) w refl) ∙ is));
    }

-- ---- of which contract and version a mark is

tested : (c d v w : ℕ) → ((c == d) && (v == w)) ≡ true → (c ≡ d) × (v ≡ w)
tested c d v w is = let parts = and_parts (c == d) (v == w) is in (eqb-true c d parts.0, eqb-true v w parts.1)

tests : (c v : ℕ) → ((c == c) && (v == v)) ≡ true
tests c v = and_from (c == c) (v == v) (eq-eqb c c refl) (eq-eqb v v refl)

fails : (c d v w : ℕ) → ((c ≡ d) × (v ≡ w) → ⊥) → ((c == d) && (v == w)) ≡ false
fails c d v w not = elim (cases_Bool ((c == d) && (v == w))) [ inl is ↦ absurd (not (tested c d v w is)) | inr no_match ↦ no_match ]

module _ (history : History) (ordered : order_of history.portfolio.contracts.children ≡ Ok history.portfolio.order) (old new : List Pair) (v r : ℕ) (p : Progress)
    (within : r < length history.portfolio.order) (put : IsPut old v r p new) (are : ArePairs history old) where
  abbrev c : ℕ
  c = contract_at history r

  abbrev written : Pair
  written = record { version = v; rank = r; progress = p }

  -- a pair of another place is of another contract or version
  elsewhere : (k : ℕ) (pair : Pair) → k ≢ put.place → slice_get old k ≡ Some pair → (c ≡ contract_at history pair.rank) × (v ≡ pair.version) → ⊥
  elsewhere k pair other at same =
      put-other old new v r p are.sorted put k pair other at (sym same.1) (ranks-apart history ordered pair.rank r (are.each pair (k, at)).rank within (sym same.0))

  -- ---- a claim

  module _ (stay : Stay history (mark.Claim c v)) (grows : version_of history ≤ version_of (and_then history (mark.Claim c v)))
      (open-same : (i : ℕ) → open_asks (and_then history (mark.Claim c v)) i ≡ open_asks history i)
      (is : p ≡ Claimed) (no_result : has_result history c v ≡ false) (children : HaveResults history c v)
      (wanted-back : (d w : ℕ) → IsWanted (and_then history (mark.Claim c v)) d w → IsWanted history d w)
      (wanted-on : (d w : ℕ) → IsWanted history d w → IsWanted (and_then history (mark.Claim c v)) d w) where
    abbrev claiming : History
    claiming = and_then history (mark.Claim c v)

    claimed-pair : IsPair claiming written
    claimed-pair = record {
      version = omega (arith, (are.each put.pair (put.place, put.was)).version, put.same_version, grows);
      rank = within;
      at = subst (IsAt claiming c v) (sym is) (any-yes (is_claim_of c v) history.marks (mark.Claim c v) (tests c v), result-same history (mark.Claim c v) c v refl ∙ no_result);
    }

    pub pairs-claimed : ArePairs claiming new
    pairs-claimed = record {
      sorted = put-sorted old new v r p are.sorted put;
      each = λ pair has. elim (put-cases old new v r p are.sorted put has.0 pair has.1) [
        | inl here ↦ subst (IsPair claiming) here.1 claimed-pair
        | inr other ↦ pair-same history (mark.Claim c v) pair stay grows (fails c (contract_at history pair.rank) v pair.version (elsewhere has.0 pair other.0 other.1)) refl (over-back history (mark.Claim c v) grows wanted-back pair.version) (are.each pair (has.0, other.1))
      ];
      children = λ pair has begun child refers. elim (put-cases old new v r p are.sorted put has.0 pair has.1) [
        | inl here ↦
            result-stays history (mark.Claim c v) child pair.version
            (ap (has_result history child) (ap (λ (one : Pair). one.version) (sym here.1)) ∙ children child (subst (λ (s : ℕ). IsChild history.portfolio.contracts.children (contract_at history s) child) (ap (λ (one : Pair). one.rank) (sym here.1)) refers))
        | inr other ↦ result-stays history (mark.Claim c v) child pair.version (are.children pair (has.0, other.1) begun child refers)
      ];
      waiting = λ going pair has waits. elim (put-cases old new v r p are.sorted put has.0 pair has.1) [
        | inl here ↦ absurd (let not : is_waiting pair.progress ≡ false = ap (λ (one : Pair). is_waiting one.progress) (sym here.1) ∙ ap is_waiting is in cc)
        | inr other ↦ wanted-on (contract_at history pair.rank) pair.version (are.waiting (sym (any-not is_give_up history.marks (mark.Claim c v) refl) ∙ going) pair (has.0, other.1) waits)
      ];
      wanted = λ w s inside wants. put-listed old new v r p are.sorted put w s (are.wanted w s inside (wanted-back (contract_at history s) w wants));
      claimed = λ w s inside so. elim (cases_Bool (is_claim_of (contract_at history s) w (mark.Claim c v))) [
        | inl this ↦
            let same = tested c (contract_at history s) v w this in
            (written, put-has old new v r p are.sorted put, same.1, ranks-apart history ordered r s within inside same.0)
        | inr other ↦ put-listed old new v r p are.sorted put w s (are.claimed w s inside (sym (claimed-same history (mark.Claim c v) (contract_at history s) w other) ∙ so))
      ];
      done = λ w s inside so. put-listed old new v r p are.sorted put w s (are.done w s inside (sym (result-same history (mark.Claim c v) (contract_at history s) w refl) ∙ so));
    }

  -- ---- what comes back

  module _ (stay : Stay history (mark.Finish c v)) (grows : version_of history ≤ version_of (and_then history (mark.Finish c v)))
      (run : _) (is : p ≡ Done run) (result : IsResult history c v (arc_value run)) (begun : is_waiting put.pair.progress ≡ false)
      (wanted-back : (d w : ℕ) → IsWanted (and_then history (mark.Finish c v)) d w → IsWanted history d w)
      (wanted-on : (d w : ℕ) → IsWanted history d w → IsWanted (and_then history (mark.Finish c v)) d w) where
    abbrev finishing : History
    finishing = and_then history (mark.Finish c v)

    old-within : v ≤ version_of history
    old-within = omega (arith, (are.each put.pair (put.place, put.was)).version, put.same_version)

    done-pair : IsPair finishing written
    done-pair = record {
      version = omega (arith, old-within, grows);
      rank = within;
      at = subst (IsAt finishing c v) (sym is) (
        any-yes (is_finish_of c v) history.marks (mark.Finish c v) (tests c v),
        (result.0 ∙ ap (λ (entries : List Obs). run_of history.portfolio.contracts entries c) (sym (stay v old-within)), result.1),
      );
    }

    pub pairs-finished : ArePairs finishing new
    pairs-finished = record {
      sorted = put-sorted old new v r p are.sorted put;
      each = λ pair has. elim (put-cases old new v r p are.sorted put has.0 pair has.1) [
        | inl here ↦ subst (IsPair finishing) here.1 done-pair
        | inr other ↦ pair-same history (mark.Finish c v) pair stay grows refl (fails c (contract_at history pair.rank) v pair.version (elsewhere has.0 pair other.0 other.1)) (over-back history (mark.Finish c v) grows wanted-back pair.version) (are.each pair (has.0, other.1))
      ];
      children = λ pair has over child refers. elim (put-cases old new v r p are.sorted put has.0 pair has.1) [
        | inl here ↦
            let version : put.pair.version ≡ pair.version = put.same_version ∙ ap (λ (one : Pair). one.version) here.1 in
            let rank : pair.rank ≡ put.pair.rank = ap (λ (one : Pair). one.rank) (sym here.1) ∙ sym put.same_rank in
            result-stays history (mark.Finish c v) child pair.version
            (ap (has_result history child) (sym version)
            ∙ are.children put.pair (put.place, put.was) begun child (subst (λ (s : ℕ). IsChild history.portfolio.contracts.children (contract_at history s) child) rank refers))
        | inr other ↦ result-stays history (mark.Finish c v) child pair.version (are.children pair (has.0, other.1) over child refers)
      ];
      waiting = λ going pair has waits. elim (put-cases old new v r p are.sorted put has.0 pair has.1) [
        | inl here ↦ absurd (let not : is_waiting pair.progress ≡ false = ap (λ (one : Pair). is_waiting one.progress) (sym here.1) ∙ ap is_waiting is in cc)
        | inr other ↦ wanted-on (contract_at history pair.rank) pair.version (are.waiting (sym (any-not is_give_up history.marks (mark.Finish c v) refl) ∙ going) pair (has.0, other.1) waits)
      ];
      wanted = λ w s inside wants. put-listed old new v r p are.sorted put w s (are.wanted w s inside (wanted-back (contract_at history s) w wants));
      claimed = λ w s inside so. put-listed old new v r p are.sorted put w s (are.claimed w s inside (sym (claimed-same history (mark.Finish c v) (contract_at history s) w refl) ∙ so));
      done = λ w s inside so. elim (cases_Bool (is_finish_of (contract_at history s) w (mark.Finish c v))) [
        | inl this ↦
            let same = tested c (contract_at history s) v w this in
            (written, put-has old new v r p are.sorted put, same.1, ranks-apart history ordered r s within inside same.0)
        | inr other ↦ put-listed old new v r p are.sorted put w s (are.done w s inside (sym (result-same history (mark.Finish c v) (contract_at history s) w other) ∙ so))
      ];
    }

-- ---- an answer

-- what a list has behind its first
behind-first : (asks : List Asking) (a first : Asking) → Contains asks a → slice_get asks 0 ≡ Some first → (a ≡ first) ⊎ Contains (drop 1 asks) a
behind-first [] a first has is = absurd (omega (arith, has.1))
behind-first (x ∷ xs) a first has is = at has.0 has.1 has.2
  where
    at : (k : ℕ) → k < length (x ∷ xs) → get_or (x ∷ xs) k a ≡ a → (a ≡ first) ⊎ Contains xs a
    at zero lt here = inl (sym here ∙ same_Some x first is)
    at (suc k) lt here = inr (k, omega arith, here)

from-behind : (asks : List Asking) (a : Asking) → Contains (drop 1 asks) a → Contains asks a
from-behind [] a has = has
from-behind (x ∷ xs) a has = (suc has.0, omega (arith, has.1), has.2)

module _ (history : History) (caller : ℕ) (pairs : List Pair) (ordered : order_of history.portfolio.contracts.children ≡ Ok history.portfolio.order) (stay : Stay history (mark.Collect caller))
    (grows : version_of history ≤ version_of (and_then history (mark.Collect caller)))
    (others : (i : ℕ) → i ≢ caller → open_asks (and_then history (mark.Collect caller)) i ≡ open_asks history i)
    (closed : open_asks (and_then history (mark.Collect caller)) caller ≡ drop 1 (open_asks history caller))
    (ask : Asking) (oldest : slice_get (open_asks history caller) 0 ≡ Some ask) (ready : IsReady history ask)
    (contains : (contracts : List ℕ) (a : ℕ) → is_in contracts a ≡ true → Contains contracts a) (are : ArePairs history pairs) where
  abbrev collecting : History
  collecting = and_then history (mark.Collect caller)

  back : (c w : ℕ) → IsWanted collecting c w → IsWanted history c w
  back c w is = record {
    caller = is.caller;
    from = is.from;
    to = is.to;
    ask = is.ask;
    contract = is.contract;
    version = is.version;
    reached = is.reached;
    still_open = elim (cases_order is.caller caller) [
      | inl own ↦
          subst (λ (i : ℕ). Contains (open_asks history i) is.ask) (sym own)
          (from-behind (open_asks history caller) is.ask (subst (λ (asks : List Asking). Contains asks is.ask) closed (subst (λ (i : ℕ). Contains (open_asks collecting i) is.ask) own is.still_open)))
      | inr differ ↦ subst (λ (asks : List Asking). Contains asks is.ask) (others is.caller (λ own. elim differ [ inl lt ↦ absurd (omega arith) | inr gt ↦ absurd (omega arith) ])) is.still_open
    ];
  }

  -- what has no result is wanted by another ask
  on : (c w : ℕ) → has_result history c w ≡ false → IsWanted history c w → IsWanted collecting c w
  on c w none is = record {
    caller = is.caller;
    from = is.from;
    to = is.to;
    ask = is.ask;
    contract = is.contract;
    version = is.version;
    reached = is.reached;
    still_open = elim (cases_order is.caller caller) [
      | inl own ↦ elim (behind-first (open_asks history caller) is.ask ask (subst (λ (i : ℕ). Contains (open_asks history i) is.ask) own is.still_open) oldest) [
        | inl this ↦ absurd (let so : has_result history c w ≡ true = subst (λ (n : ℕ). has_result history c n ≡ true) (ap (λ (a : Asking). a.version) (sym this) ∙ is.version)
            (reached-done history pairs ordered are ask c ready contains (subst (λ (a : Asking). is_reached history.portfolio.contracts (contracts_of history.portfolio.names a.asked) c ≡ true) this is.reached)) in cc)
        | inr later ↦ subst (λ (i : ℕ). Contains (open_asks collecting i) is.ask) (sym own) (subst (λ (asks : List Asking). Contains asks is.ask) (sym closed) later)
      ]
      | inr differ ↦ subst (λ (asks : List Asking). Contains asks is.ask) (sym (others is.caller (λ own. elim differ [ inl lt ↦ absurd (omega arith) | inr gt ↦ absurd (omega arith) ]))) is.still_open
    ];
  }

  no-result-yet : (c w : ℕ) (p : Progress) → is_waiting p ≡ true → IsAt history c w p → has_result history c w ≡ false
  no-result-yet c w Waiting is at = at.1
  no-result-yet c w Claimed is at = absurd (cc)
  no-result-yet c w (Done run) is at = absurd (cc)
  no-result-yet c w Dropped is at = absurd (cc)

  pub wanted-by-another : is_given_up collecting ≡ false → (pair : Pair) → Has pairs pair → is_waiting pair.progress ≡ true → IsWanted collecting (contract_at history pair.rank) pair.version
  wanted-by-another going pair has waits =
      on (contract_at history pair.rank) pair.version (no-result-yet (contract_at history pair.rank) pair.version pair.progress waits (are.each pair has).at)
      (are.waiting (sym (any-not is_give_up history.marks (mark.Collect caller) refl) ∙ going) pair has waits)

  pub wanted-before : (c w : ℕ) → IsWanted collecting c w → IsWanted history c w
  wanted-before = back
