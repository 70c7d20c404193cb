-- The entries of runs, and where runs end among those of a book.
use Rattle.std.proofs.Common.{◌≡◌, ℕ, ◌+◌, ◌-◌, ◌*◌, ◌/◌, ◌<◌, ◌≤◌, List, [], ◌∷◌, ◌++◌, length, get_or, take, drop, reverse, true, Option, Some, None, IfSome, inl, inr, refl, sym, ap, subst, ◌∙◌, arith}
use Rattle.std.proofs.Math.Seq.{take-append-add, take-append_seam}
use Rattle.std.proofs.lemmas.Bool.{cases_lt}
use Rattle.std.proofs.lemmas.List.{append-nil, append_assoc, at_drop_more, get_or-append_right, get_or_append_left, length-append, length-take-le, reverse-append, take-append-drop, take-append-le, take-take, take_more}
use Rattle.std.proofs.lemmas.List.Concat.{flat_map-append}
use Rattle.std.proofs.lemmas.Option.{get_or_from_slice_get, same_Some, slice_get_within}
use Rattle.std.specs.Arc.{arc_value}
use Rattle.std.specs.List.{slice_get}
use Rattle.std.specs.declared.alloc.Global.{Global}
use Rattle.std.specs.declared.sync.Arc.{Arc}
use Rattle.act_model.proofs.Lists.{take_parts}
use Rattle.act_model.specs.declared.observed.Obs.{Obs}
use Rattle.act_model.specs.Observed.{is_entry}
use Rattle.act_book.specs.Entries.{AreEntries}
use Rattle.act_book.specs.Runs.{AreRecent, AreRuns, EndsAt, chunk, entries_of}

module _ (runs : List (Arc (List Obs) Global)) (i : ℕ) (run : Arc (List Obs) Global) (within : i < length runs) (is : run ≡ get_or runs i run) where
  -- the entries so far, with one run more
  pub entries_more : entries_of (take (i + 1) runs) ≡ entries_of (take i runs) ++ arc_value run
  entries_more =
      ap entries_of (take_more runs i run within) ∙ flat_map-append arc_value (take i runs) (get_or runs i run ∷ [])
      ∙ ap (λ more. entries_of (take i runs) ++ more) (append-nil (arc_value (get_or runs i run)) ∙ ap arc_value (sym is))

  -- the entries from a run on
  pub entries_rest : entries_of (drop i runs) ≡ arc_value run ++ entries_of (drop (i + 1) runs)
  entries_rest =
      at_drop_more entries_of runs i run within ∙ ap (λ first. arc_value first ++ entries_of (drop (i + 1) runs)) (sym is)

-- the entries of the first runs, and of those behind them
entries_parted : (runs : List (Arc (List Obs) Global)) (n : ℕ) → entries_of runs ≡ entries_of (take n runs) ++ entries_of (drop n runs)
entries_parted runs n = ap entries_of (sym (take-append-drop n runs)) ∙ flat_map-append arc_value (take n runs) (drop n runs)

pub entries_front : (runs : List (Arc (List Obs) Global)) (n : ℕ) → take (length (entries_of (take n runs))) (entries_of runs) ≡ entries_of (take n runs)
entries_front runs n =
    ap (take (length (entries_of (take n runs)))) (entries_parted runs n) ∙ take-append_seam (entries_of (take n runs)) (entries_of (drop n runs))

pub entries_within : (runs : List (Arc (List Obs) Global)) (n : ℕ) → length (entries_of (take n runs)) ≤ length (entries_of runs)
entries_within runs n =
    omega (arith, ap length (entries_parted runs n), length-append (entries_of (take n runs)) (entries_of (drop n runs)))

-- the entries of the first run
first_front : (runs : List (Arc (List Obs) Global)) (run : Arc (List Obs) Global) → slice_get runs 0 ≡ Some run → take (length (arc_value run)) (entries_of runs) ≡ arc_value run
first_front [] run is = absurd (cc)
first_front (first ∷ runs) run is =
    let same : first ≡ run = same_Some first run is in
    ap (λ first. take (length (arc_value run)) (arc_value first ++ entries_of runs)) same ∙ take-append_seam (arc_value run) (entries_of runs)

first_within : (runs : List (Arc (List Obs) Global)) (run : Arc (List Obs) Global) → slice_get runs 0 ≡ Some run → length (arc_value run) ≤ length (entries_of runs)
first_within [] run is = absurd (cc)
first_within (first ∷ runs) run is =
    let same : first ≡ run = same_Some first run is in
    omega (arith, ap (λ first. length (arc_value first)) same, length-append (arc_value first) (entries_of runs))

-- a run put behind others that are then turned round
pub entries_turned : (runs : List (Arc (List Obs) Global)) (run : Arc (List Obs) Global) → entries_of (reverse (runs ++ run ∷ [])) ≡ arc_value run ++ entries_of (reverse runs)
entries_turned runs run = ap entries_of (reverse-append runs (run ∷ []))

-- what stands among entries is one
pub entry_is : (entries : List Obs) (k : ℕ) (found : Option Obs) → found ≡ slice_get entries k → AreEntries entries → IfSome found (λ entry. is_entry entry ≡ true)
entry_is entries k None is all = tt
entry_is entries k (Some entry) is all =
    subst (λ entry. is_entry entry ≡ true) (get_or_from_slice_get entries k entry entry (sym is)) (all k entry (slice_get_within entries k entry (sym is)))

module _ (entries : List Obs) where
  -- how long a run is
  pub length_at : (end : ℕ) (run : List Obs) (at : EndsAt entries end run) → chunk * end ≤ length entries → chunk * at.front + length run ≡ chunk * end
  length_at end run at within =
      let some = at.some in
      omega (arith, ap length at.joined, length-append (take (chunk * at.front) entries) run, length-take-le (chunk * at.front) entries (omega arith), length-take-le (chunk * end) entries within)

  -- a run before others
  pub run_before : (front end : ℕ) (run more : List Obs) (at : EndsAt entries end run) → at.front ≡ front → take (chunk * front) entries ++ (run ++ more) ≡ take (chunk * end) entries ++ more
  run_before front end run more at is =
      sym (append_assoc (take (chunk * front) entries) run more)
      ∙ ap (λ all. all ++ more) (ap (λ front. take (chunk * front) entries ++ run) (sym is) ∙ at.joined)

  module _ (runs : List (Arc (List Obs) Global)) where
    -- the run that ends with a chunk
    pub run_at : AreRuns entries runs → (end : ℕ) → 0 < end → end ≤ length runs → (run : Arc (List Obs) Global) → run ≡ get_or runs (end - 1) run → EndsAt entries end (arc_value run)
    run_at are end some within run is =
        let last : end - 1 + 1 ≡ end = omega arith in
        subst (λ run. EndsAt entries end (arc_value run)) (sym is)
        (subst (λ end. EndsAt entries end (arc_value (get_or runs (end - 1) run))) last (subst (λ k. EndsAt entries (end - 1 + 1) (arc_value (get_or runs k run))) (omega arith) (are.ends (end - 1) run (omega arith))))

    -- how many chunks it has, by its length, and that so many are there
    pub chunks_of : (are : AreRuns entries runs) (end : ℕ) (some : 0 < end) (within : end ≤ length runs) (run : Arc (List Obs) Global) (is : run ≡ get_or runs (end - 1) run) (seen : List Obs) → seen ≡ arc_value run → ((run_at are end some within run is).front + length seen / chunk ≡ end) × (0 < length seen / chunk)
    chunks_of are end some within run is seen same =
        let at = run_at are end some within run is in
        let fewer = at.some in
        let all = are.within in
        let long = length_at end (arc_value run) at (omega arith) in
        (omega (arith, ap length same), omega (arith, ap length same))

    ends_more : (entry : Obs) → (end : ℕ) (run : List Obs) → chunk * end ≤ length entries → EndsAt entries end run → EndsAt (entries ++ entry ∷ []) end run
    ends_more entry end run within at = record {
      front = at.front;
      some = at.some;
      joined =
          let some = at.some in
          ap (λ first. first ++ run) (take-append-le (chunk * at.front) entries (entry ∷ []) (omega arith)) ∙ at.joined ∙ sym (take-append-le (chunk * end) entries (entry ∷ []) within);
    }

    -- the runs stay runs of the book with one entry more
    pub runs_stay : (entry : Obs) → AreRuns entries runs → AreRuns (entries ++ entry ∷ []) runs
    runs_stay entry are = record {
      within = let within = are.within in omega (arith, length-append entries (entry ∷ []));
      ends = λ k d below. let within = are.within in ends_more entry (k + 1) (arc_value (get_or runs k d)) (omega arith) (are.ends k d below);
    }

    -- one run more
    pub run_more : (run : Arc (List Obs) Global) → AreRuns entries runs → EndsAt entries (length runs + 1) (arc_value run) → chunk * (length runs + 1) ≤ length entries → AreRuns entries (runs ++ run ∷ [])
    run_more run are at full = record {
      within = omega (arith, length-append runs (run ∷ []));
      ends = λ k d below. elim (cases_lt k (length runs)) [
        | inl inside ↦
            subst (λ run. EndsAt entries (k + 1) (arc_value run)) (sym (get_or_append_left runs (run ∷ []) d k inside)) (are.ends k d inside)
        | inr last ↦
            let same : length runs ≡ k = omega (arith, length-append runs (run ∷ [])) in
            let first : k - length runs ≡ 0 = omega arith in
            let found : get_or (runs ++ run ∷ []) k d ≡ run = get_or-append_right runs (run ∷ []) (length runs) k d refl last ∙ ap (λ i. get_or (run ∷ []) i d) first in
            subst (λ run. EndsAt entries (k + 1) (arc_value run)) (sym found) (subst (λ k. EndsAt entries (k + 1) (arc_value run)) same at)
      ];
    }

  module _ (chunks : ℕ) (recent : List (Arc (List Obs) Global)) (are : AreRecent entries chunks recent) where
    -- the first entries of the recent runs stand behind those of the chunks
    pub recent_until : (count : ℕ) → count ≤ length (entries_of recent) → take (chunk * chunks) entries ++ take count (entries_of recent) ≡ take (chunk * chunks + count) entries
    recent_until count within =
        let front = take (chunk * chunks) entries in
        let inside = are.within in
        let long : length front ≡ chunk * chunks = length-take-le (chunk * chunks) entries (omega arith) in
        sym (take-append-add front (entries_of recent) count)
        ∙ ap (λ n. take (n + count) (front ++ entries_of recent)) long
        ∙ ap (take (chunk * chunks + count)) are.joined
        ∙ take-take (chunk * chunks + count) (chunk * chunks + length (entries_of recent)) entries (omega arith)

    -- a run that has the next chunk's entries
    module _ (run : Arc (List Obs) Global) (is : slice_get recent 0 ≡ Some run) (long : length (arc_value run) ≡ chunk) where
      pub chunk_joined : take (chunk * chunks) entries ++ arc_value run ≡ take (chunk * (chunks + 1)) entries
      chunk_joined =
          let more = first_within recent run is in
          ap (λ all. take (chunk * chunks) entries ++ all) (sym (first_front recent run is) ∙ ap (λ n. take n (entries_of recent)) long)
          ∙ recent_until chunk (omega arith)
          ∙ ap (λ n. take n entries) (omega arith)

      pub chunk_within : chunk * (chunks + 1) ≤ length entries
      chunk_within =
          let more = first_within recent run is in
          let inside = are.within in
          omega arith

      -- the chunk is full, and nothing stands behind it
      pub recent_none : AreRecent entries (chunks + 1) []
      recent_none = record {
        within = let full = chunk_within in omega arith;
        joined = append-nil (take (chunk * (chunks + 1)) entries) ∙ ap (λ n. take n entries) (omega arith);
      }

    -- one run more
    pub recent_more : (more : List (Arc (List Obs) Global)) (part : List Obs) (end : ℕ) → entries_of more ≡ entries_of recent ++ part → part ≡ take (end - (chunk * chunks + length (entries_of recent))) (drop (chunk * chunks + length (entries_of recent)) entries) → chunk * chunks + length (entries_of recent) ≤ end → end ≤ length entries → AreRecent entries chunks more
    recent_more more part end both is some within =
        let start = chunk * chunks + length (entries_of recent) in
        let front = take (chunk * chunks) entries in
        let joined : front ++ entries_of more ≡ take end entries =
        ap (λ all. front ++ all) both ∙ sym (append_assoc front (entries_of recent) part)
        ∙ ap (λ all. all ++ part) are.joined ∙ ap (λ part. take start entries ++ part) is ∙ take_parts start end entries some in
        let long : chunk * chunks + length (entries_of more) ≡ end =
        omega (arith, ap length joined, length-append front (entries_of more), length-take-le (chunk * chunks) entries (omega arith), length-take-le end entries within) in
        record {
          within = omega arith;
          joined = joined ∙ ap (λ n. take n entries) (sym long);
        }

    -- they stay where they are in the book with one entry more
    pub recent_stay : (entry : Obs) → AreRecent (entries ++ entry ∷ []) chunks recent
    recent_stay entry =
        let inside = are.within in
        record {
          within = omega (arith, length-append entries (entry ∷ []));
          joined =
              ap (λ front. front ++ entries_of recent) (take-append-le (chunk * chunks) entries (entry ∷ []) (omega arith))
              ∙ are.joined
              ∙ sym (take-append-le (chunk * chunks + length (entries_of recent)) entries (entry ∷ []) inside);
        }
