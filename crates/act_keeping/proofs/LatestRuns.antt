-- The latest results, as a history goes on, and what an evaluation goes on from.
use Rattle.std.proofs.Common.{◌≡◌, ◌≢◌, ℕ, ◌<◌, ◌≤◌, max, min, ◌==◌, nat_lt, true, false, ℤ, List, [], ◌∷◌, ◌++◌, length, set, take, Option, Some, None, option_map, inl, inr, refl, sym, ap, subst, ◌∙◌, arith, eq-eqb, slice_index_or}
use Rattle.std.specs.Arc.{arc_value}
use Rattle.std.specs.List.{filter_map, reduce, slice_get}
use Rattle.std.specs.declared.alloc.Global.{Global}
use Rattle.std.specs.declared.sync.Arc.{Arc}
use Rattle.std.proofs.Math.Nat.{max-eq_left, max-eq_right, min-eq_left, min-eq_right}
use Rattle.std.proofs.lemmas.Bool.{cases_Bool, cases_lt, cases_order, eqb-true, lt-ltb, ltb-true}
use Rattle.std.proofs.lemmas.List.{length-set, length_push, take-append-le}
use Rattle.std.proofs.lemmas.List.Sums.{fold-append}
use Rattle.std.proofs.lemmas.Option.{same_Some, slice_get-get_or}
use Rattle.act_causality.proofs.KeptRows as causality
use Rattle.act_causality.specs.Causality.{IsLinked, IsWithinDepth}
use Rattle.act_model.specs.Journal.{entry_of}
use Rattle.act_model.specs.Run.{Stream}
use Rattle.act_model.specs.declared.journal.Item.{Item}
use Rattle.act_model.specs.declared.observed.Obs.{Obs}
use Rattle.act_accepted.specs.Accepted.{Accepted}
use Rattle.act_profile.specs.Kept.{kept_of}
use Rattle.act_profile.specs.Reads.{cut_by}
use Rattle.act_profile.specs.Run.{Contracts, deepest, run_of}
use Rattle.act_profile.specs.DayOrder.{AreInDayOrder}
use Rattle.act_history.specs.History.{History, and_then, entries_of, item_of, version_of}
use Rattle.act_keeping.specs.Keeping.{IsResult}
use Rattle.act_keeping.specs.Latest.{AreLatest, IsCached, NoneYet, cached_version, cut_at, cut_for, finished_version, is_later, kept_at, kept_for, kept_rows, kept_under}
use Rattle.act_keeping.specs.Tasks.{GoesOnFrom, MayGoOn}
use Rattle.act_keeping.specs.declared.latest.Cached.{Cached}
use Rattle.act_keeping.specs.declared.latest.LatestResult.{LatestResult}
use Rattle.act_history.specs.declared.mark.Mark.{Mark}
use Rattle.act_history.specs.declared.mark.Mark.TheVariants as mark
use Rattle.act_keeping.proofs.Boards.{same-none, stay-none}
use Rattle.act_history.proofs.Going.{entries-ask, entries-more, map-not, map-yes}
use Rattle.act_keeping.proofs.Pairs.{Stay}
use Rattle.act_history.proofs.Places.{get-set_cases}

-- ---- what a mark changes

abbrev version_in : Option LatestResult → Option ℕ
version_in one = option_map (λ (l : LatestResult). l.version) one

module _ (history : History) (m : Mark) where
  abbrev after : History
  after = and_then history m

  cached-same : (c : ℕ) → finished_version c m ≡ None → cached_version after c ≡ cached_version history c
  cached-same c none = ap (λ (versions : List ℕ). reduce max versions) (map-not (finished_version c) history.marks m none)

  result-still : Stay history m → version_of history ≤ version_of after → (c v : ℕ) (run : Stream) → (v ≤ version_of history) × IsResult history c v run → (v ≤ version_of after) × IsResult after c v run
  result-still stay grows c v run is =
      (omega (arith, is.0, grows), (is.1.0 ∙ ap (λ (entries : List Obs). run_of history.portfolio.contracts entries c) (sym (stay v is.0)), is.1.1))

  latest-still : (latest : List (Option LatestResult)) → Stay history m → version_of history ≤ version_of after → ((c : ℕ) → finished_version c m ≡ None) → AreLatest history latest → AreLatest after latest
  latest-still latest stay grows none are = record {
    count = are.count;
    versions = λ c one at. are.versions c one at ∙ sym (cached-same c (none c));
    results = λ c one at. result-still stay grows c one.version (arc_value one.run) (are.results c one at);
  }

-- ---- marks that finish nothing

module _ (history : History) (latest : List (Option LatestResult)) (are : AreLatest history latest) (m : Mark) (marks : List Mark) (marked : marks ≡ history.marks ++ m ∷ []) (none : (c : ℕ) → finished_version c m ≡ None) where
  abbrev next : History
  next = record { portfolio = history.portfolio; quotas = history.quotas; marks = marks }

  latest-marked : AreLatest (and_then history m) latest → AreLatest next latest
  latest-marked so = subst (λ (ms : List Mark). AreLatest (record { portfolio = history.portfolio; quotas = history.quotas; marks = ms }) latest) (sym marked) so

  pub latest-quiet : item_of m ≡ None → AreLatest next latest
  latest-quiet no_item = latest-marked (latest-still history m latest (stay-none history m no_item) (omega (arith, same-none history m no_item)) none are)

  pub latest-asked : (item : Item) → item_of m ≡ Some item → entry_of item.step ≡ None → AreLatest next latest
  latest-asked item some no_entry =
      let same : entries_of (and_then history m) ≡ entries_of history = entries-ask history m item some no_entry in
      latest-marked (latest-still history m latest (λ v le. ap (λ (entries : List Obs). take v entries) same) (omega (arith, ap length same)) none are)

  pub latest-appended : (item : Item) (entry : Obs) → item_of m ≡ Some item → entry_of item.step ≡ Some entry → AreLatest next latest
  latest-appended item entry some is =
      let more : entries_of (and_then history m) ≡ entries_of history ++ entry ∷ [] = entries-more history m item entry some is in
      latest-marked (latest-still history m latest (λ v le. ap (λ (entries : List Obs). take v entries) more ∙ take-append-le v (entries_of history) (entry ∷ []) le) (omega (arith, ap length more, length_push (entries_of history) entry)) none are)

-- ---- a result more

abbrev greater : Option ℕ → ℕ → ℕ
greater None v = v
greater (Some u) v = max u v

reduce-push : (versions : List ℕ) (v : ℕ) → reduce max (versions ++ v ∷ []) ≡ Some (greater (reduce max versions) v)
reduce-push [] v = refl
reduce-push (u ∷ versions) v = ap Some (fold-append max u versions (v ∷ []))

not-less : (v w : ℕ) → nat_lt v w ≡ false → w ≤ v
not-less v w not = elim (cases_lt v w) [
  | inl lt ↦ absurd (let so = lt-ltb v w lt in cc)
  | inr le ↦ le
]

greater-later : (one : Option LatestResult) (v : ℕ) → is_later one v ≡ true → version_in one ≡ Some (greater (version_in one) v)
greater-later None v is = absurd (cc)
greater-later (Some one) v is = ap Some (sym (max-eq_left (omega (arith, ltb-true v one.version is))))

greater-not : (one : Option LatestResult) (v : ℕ) → is_later one v ≡ false → Some v ≡ Some (greater (version_in one) v)
greater-not None v is = refl
greater-not (Some one) v is = ap Some (sym (max-eq_right (not-less v one.version is)))

module _ (history : History) (latest new : List (Option LatestResult)) (d v : ℕ) (run : Arc Stream Global) (are : AreLatest history latest) (within : d < length latest) (known : v ≤ version_of history) (result : IsResult history d v (arc_value run))
    (later : is_later (slice_index_or latest d None) v ≡ true → new ≡ latest) (put : is_later (slice_index_or latest d None) v ≡ false → new ≡ set latest d (Some (record { version = v; run = run }))) where
  abbrev n : Mark
  n = mark.Finish d v

  abbrev finished : History
  finished = and_then history n

  abbrev old : Option LatestResult
  old = slice_index_or latest d None

  own : finished_version d n ≡ Some v
  own = rw (eq-eqb d d refl) refl

  other : (c : ℕ) → c ≢ d → finished_version c n ≡ None
  other c apart = elim (cases_Bool (d == c)) [
    | inl same ↦ absurd (apart (sym (eqb-true d c same)))
    | inr differ ↦ rw differ refl
  ]

  was : version_in old ≡ cached_version history d
  was = are.versions d old (slice_get-get_or latest d None within)

  now : cached_version finished d ≡ Some (greater (version_in old) v)
  now =
      ap (λ (versions : List ℕ). reduce max versions) (map-yes (finished_version d) history.marks n v own)
      ∙ (reduce-push (filter_map (finished_version d) history.marks) v ∙ ap (λ (u : Option ℕ). Some (greater u v)) (sym was))

  still : (c w : ℕ) (stream : Stream) → (w ≤ version_of history) × IsResult history c w stream → (w ≤ version_of finished) × IsResult finished c w stream
  still c w stream is = result-still history n (stay-none history n refl) (omega (arith, same-none history n refl)) c w stream is

  kept-later : is_later old v ≡ true → AreLatest finished latest
  kept-later is = record {
    count = are.count;
    versions = λ c one at. elim (cases_order c d) [
      | inl here ↦
          let same : one ≡ old = same_Some one old (sym at ∙ (ap (λ (k : ℕ). slice_get latest k) here ∙ slice_get-get_or latest d None within)) in
          ap version_in same ∙ (greater-later old v is ∙ (sym now ∙ ap (cached_version finished) (sym here)))
      | inr apart ↦ are.versions c one at ∙ sym (cached-same history n c (other c (λ same. elim apart [ inl lt ↦ absurd (omega arith) | inr gt ↦ absurd (omega arith) ])))
    ];
    results = λ c one at. still c one.version (arc_value one.run) (are.results c one at);
  }

  abbrev taken : LatestResult
  taken = record { version = v; run = run }

  kept-put : is_later old v ≡ false → AreLatest finished (set latest d (Some taken))
  kept-put is = record {
    count = length-set latest d (Some taken) ∙ are.count;
    versions = λ c one at. elim (get-set_cases latest d c (Some taken) one within at) [
      | inl here ↦ ap version_in (sym here.1) ∙ (greater-not old v is ∙ (sym now ∙ ap (cached_version finished) (sym here.0)))
      | inr apart ↦ are.versions c one apart.1 ∙ sym (cached-same history n c (other c apart.0))
    ];
    results = λ c one at. elim (get-set_cases latest d c (Some taken) (Some one) within at) [
      | inl here ↦
          let same : taken ≡ one = same_Some taken one here.1 in
          subst (λ (l : LatestResult). (l.version ≤ version_of finished) × IsResult finished c l.version (arc_value l.run)) same
          (subst (λ (k : ℕ). (v ≤ version_of finished) × IsResult finished k v (arc_value run)) (sym here.0) (still d v (arc_value run) (known, result)))
      | inr apart ↦ still c one.version (arc_value one.run) (are.results c one apart.1)
    ];
  }

  pub latest-length : length new ≡ length latest
  latest-length = elim (cases_Bool (is_later old v)) [
    | inl is ↦ ap length (later is)
    | inr is ↦ ap length (put is) ∙ length-set latest d (Some taken)
  ]

  pub latest-finished : (marks : List Mark) → marks ≡ history.marks ++ mark.Finish d v ∷ [] → AreLatest (record { portfolio = history.portfolio; quotas = history.quotas; marks = marks }) new
  latest-finished marks marked =
      subst (λ (ms : List Mark). AreLatest (record { portfolio = history.portfolio; quotas = history.quotas; marks = ms }) new) (sym marked) (elim (cases_Bool (is_later old v)) [
        | inl is ↦ subst (AreLatest finished) (sym (later is)) (kept-later is)
        | inr is ↦ subst (AreLatest finished) (sym (put is)) (kept-put is)
      ])

-- ---- a board on which nothing has happened

pub latest-fresh : (portfolio : Accepted) (quotas : List ℕ) (latest : List (Option LatestResult)) → NoneYet (length portfolio.contracts.terms) latest → AreLatest (record { portfolio = portfolio; quotas = quotas; marks = [] }) latest
latest-fresh portfolio quotas latest none = record {
  count = none.count;
  versions = λ c one at. ap version_in (none.each c one at);
  results = λ c one at. absurd (let no : Some one ≡ None = none.each c (Some one) at in cc);
}

-- ---- what an evaluation goes on from

module _ (history : History) (latest : List (Option LatestResult)) (are : AreLatest history latest) (c v : ℕ) (within : c < length latest) (cached : Cached) where
  abbrev contracts : Contracts
  contracts = history.portfolio.contracts

  abbrev entries : List Obs
  entries = entries_of history

  kept-by : (one : Option LatestResult) → slice_get latest c ≡ Some one → IsCached contracts entries c v one cached → kept_under cached.run cached.cut ≡ kept_at contracts entries c v (version_in one)
  kept-by None at is = ap (λ (r : Option (Arc Stream Global)). kept_under r cached.cut) is.0
  kept-by (Some one) at is =
      let result = (are.results c one at).1 in
      ap (λ (r : Option (Arc Stream Global)). kept_under r cached.cut) is.1
      ∙ (ap (λ (s : Stream). kept_of s cached.cut) (is.2 ∙ result.0) ∙ ap (λ (cut : Option ℤ). kept_of (run_of contracts (take one.version entries) c) cut) is.3)

  -- the same, as it is read
  pub cached-told : (portfolio : Accepted) (book : List Obs) (read : List (Option LatestResult)) → portfolio ≡ history.portfolio → book ≡ entries → read ≡ latest
      → IsCached portfolio.contracts book c v (slice_index_or read c None) cached → IsCached contracts entries c v (slice_index_or latest c None) cached
  cached-told portfolio book read of booked same is =
      subst (λ (xs : List (Option LatestResult)). IsCached contracts entries c v (slice_index_or xs c None) cached) same
      (subst (λ (xs : List Obs). IsCached contracts xs c v (slice_index_or read c None) cached) booked
      (subst (λ (p : Accepted). IsCached p.contracts book c v (slice_index_or read c None) cached) of is))

  -- it keeps the rows that it should
  pub kept-told : IsCached contracts entries c v (slice_index_or latest c None) cached → kept_rows cached ≡ kept_for history c v
  kept-told is =
      let at = slice_get-get_or latest c None within in
      kept-by (slice_index_or latest c None) at is ∙ ap (kept_at contracts entries c v) (are.versions c (slice_index_or latest c None) at)

  cut-by : (one : Option LatestResult) → IsCached contracts entries c v one cached → cached.cut ≡ cut_at contracts entries c v (version_in one)
  cut-by None is = is.1
  cut-by (Some one) is = is.3

  -- under the cut between the two versions
  pub cut-told : IsCached contracts entries c v (slice_index_or latest c None) cached → cached.cut ≡ cut_for history c v
  cut-told is =
      let at = slice_get-get_or latest c None within in
      cut-by (slice_index_or latest c None) is ∙ ap (cut_at contracts entries c v) (are.versions c (slice_index_or latest c None) at)

  module _ (linked : IsLinked contracts) (depth : IsWithinDepth deepest contracts c) where
    abbrev wanted : Stream
    wanted = run_of contracts (take v entries) c

    goes-by : (one : Option LatestResult) → slice_get latest c ≡ Some one → IsCached contracts entries c v one cached → MayGoOn wanted cached.run cached.cut
    goes-by None at is = subst (λ (r : Option (Arc Stream Global)). MayGoOn wanted r cached.cut) (sym is.0) tt
    goes-by (Some one) at is =
        let result = (are.results c one at).1 in
        let here : kept_of (arc_value is.0) cached.cut ≡ kept_of (run_of contracts (take one.version entries) c) cached.cut = ap (λ (s : Stream). kept_of s cached.cut) (is.2 ∙ result.0) in
        let moved : kept_of (run_of contracts (take one.version entries) c) cached.cut ≡ kept_of wanted cached.cut =
        subst (λ (cut : Option ℤ). kept_of (run_of contracts (take one.version entries) c) cut ≡ kept_of wanted cut) (sym is.3)
        (causality.kept_between contracts c entries one.version v linked depth (λ day so. is.4 day (is.3 ∙ so))) in
        let goes : GoesOnFrom wanted (arc_value is.0) cached.cut = record {
          sorted = subst (λ (s : Stream). AreInDayOrder s.rows) (sym is.2) result.1;
          same = here ∙ moved;
        } in
        subst (λ (r : Option (Arc Stream Global)). MayGoOn wanted r cached.cut) (sym is.1) goes

    -- and may go on from it
    pub goes-on : IsCached contracts entries c v (slice_index_or latest c None) cached → MayGoOn wanted cached.run cached.cut
    goes-on is = goes-by (slice_index_or latest c None) (slice_get-get_or latest c None within) is

-- ---- the cut

-- from the smaller to the greater of two versions, of which the one or the other is the smaller
pub cut-up : (codes contracts : List ℕ) (entries : List Obs) (u v : ℕ) → u ≤ v → cut_by codes contracts entries u v ≡ cut_by codes contracts entries (min u v) (max u v)
cut-up codes contracts entries u v le = rw (min-eq_left le, max-eq_right le) refl

pub cut-down : (codes contracts : List ℕ) (entries : List Obs) (u v : ℕ) → v ≤ u → cut_by codes contracts entries v u ≡ cut_by codes contracts entries (min u v) (max u v)
cut-down codes contracts entries u v le = rw (min-eq_right le, max-eq_left le) refl
