-- Each step keeps the rule.
use Rattle.std.proofs.Common.{◌≡◌, ◌≢◌, ℕ, ◌+◌, ◌%◌, ◌^◌, ◌<◌, ◌≤◌, List, [], ◌∷◌, ◌++◌, length, get_or, set, refl, sym, ap, ◌∙◌, subst, arith, Option, Some, None, unwrap_or, inr, ⊎_elim}
use Rattle.std.proofs.lemmas.List.{map-set, map-append, set-get_or, length-map}
use Rattle.std.specs.List.{All, Contains}
use Rattle.std.proofs.lemmas.List.Elements.{All-head}
use mathlib.Core.List.{IsPrefix}
use mathlib.Core.Logic.{dite}
use mathlib.Core.Option.{none, some, some-injective}
use native.Mathlib.Decide.{ℕ_discrete}
use lib.ListN.{get_elem?}
use Rattle.atomic_table.specs.Table.{State, Me, step, keeps, takes, gives, stepped, put_back, rest, Allows, Splits, Joins, opening}
use Rattle.atomic_table.proofs.Lists.{at_map, set_again, set_else}
use Rattle.act_turn.specs.declared.view.View.{View}
use Rattle.act_turn.specs.declared.view.Member.{Member}
use Rattle.act_turn.specs.declared.view.Stage.{Stage}
use Rattle.act_turn.specs.declared.view.Stage.TheVariants.{Away, Waits, Has}
use Rattle.act_turn.specs.Journal.{entries_of, GoesOn}
use Rattle.act_turn.specs.Turn.{Rows, Homes, IsHistory, IsQueue, IsTurn, IsOut, IsHome, opener, KeepsLongest, HasSeenLongest, KeepsAuthors, Holds, member, ticket_of, tickets_of, stages_of, rows_of, counts_of, number_of, seen_of}
use Rattle.act_turn.specs.Steps.{with_ticket, with_turn, without_turn, Draws, Looks, PassesOn, giver, newcomer, joint_view, spent_view, either_count, next_number}
use Rattle.act_turn.proofs.Journals.{prefix_self, stays_on}
use Rattle.act_turn.proofs.Places.{inside, single, only_place, sum_two}
use Rattle.act_turn.proofs.Rows as rows
use Rattle.act_turn.proofs.Slots as slots
use Rattle.act_turn.proofs.Tickets as tickets

module _ {E : Type 0} where
  abbrev stage_of : View E → Stage
  stage_of v = v.stage

  abbrev row_of : View E → List (Member E)
  row_of v = v.members

  abbrev count_of : View E → Option ℕ
  count_of v = v.given

  -- the views have these stages, stand for these passes and have these counts
  record Shows (vs : List (View E)) (stages : List Stage) (passes : Rows E) (counts : List (Option ℕ)) : Type 0 where
    stages_are : stages_of vs ≡ stages
    rows_are : rows_of vs ≡ passes
    counts_are : counts_of vs ≡ counts

  shows_set : (vs : List (View E)) (id : ℕ) (w : View E) → Shows (set vs id w) (set (stages_of vs) id w.stage) (set (rows_of vs) id w.members) (set (counts_of vs) id w.given)
  shows_set vs id w = record { stages_are = map-set stage_of vs id w; rows_are = map-set row_of vs id w; counts_are = map-set count_of vs id w }

-- what the slot in hand has
abbrev held_of : {K : Type 0} → List (ℕ × Option K) → Option K
held_of [] = None
held_of (x ∷ xs) = x.1

-- the slot is at home, and its value stands for the longest of the lists that these passes have seen, in which each author's entries are those that its pass has seen
pub record Ends {K E : Type 0} (journal : K → List E) (author : E → Option ℕ) (passes : List (Member E)) (homes : Homes K) : Type 0 where
  pub value : K
  pub at_home : get_elem? homes 0 ≡ some (some (Some value))
  pub prefixes : All (λ x. IsPrefix x.seen (journal value)) passes
  pub own : All (λ x. entries_of author x.number (journal value) ≡ entries_of author x.number x.seen) passes
  pub whole : (x : Member E) × Contains passes x × (x.seen ≡ journal value)

module _ {K E : Type 0} (journal : K → List E) (author : E → Option ℕ) (seats : ℕ) where
  abbrev Sat : Type 0
  Sat = Me (Option K) (View E)

  abbrev Rule : State (Option K) (View E) → Type 0
  Rule = Holds journal author seats

  kept : (words : List ℕ) (homes : Homes K) (vs : List (View E)) (stages : List Stage) (passes : Rows E) (counts : List (Option ℕ)) → Shows vs stages passes counts
      → (longest : List E) (served drawn : ℕ) → IsHistory longest passes → IsQueue served drawn words (tickets_of stages) → IsTurn served homes stages
      → KeepsLongest journal longest homes → HasSeenLongest longest stages passes → KeepsAuthors author seats longest passes counts → Rule record { words = words; homes = homes; views = vs }
  kept words homes vs stages passes counts look longest served drawn history queue turn home holder authors = record {
    longest = longest;
    served = served;
    drawn = drawn;
    history = subst (IsHistory longest) (sym look.rows_are) history;
    tickets = subst (λ gs. IsQueue served drawn words (tickets_of gs)) (sym look.stages_are) queue;
    turn = subst (IsTurn served homes) (sym look.stages_are) turn;
    home = home;
    holder = subst (λ (z : List Stage × Rows E). HasSeenLongest longest z.0 z.1) (λ i. (sym look.stages_are i, sym look.rows_are i)) holder;
    authors = subst (λ (z : Rows E × List (Option ℕ)). KeepsAuthors author seats longest z.0 z.1) (λ i. (sym look.rows_are i, sym look.counts_are i)) authors;
  }

  at_stage : (vs : List (View E)) (id : ℕ) (v : View E) (g : Stage) → get_elem? vs id ≡ some v → v.stage ≡ g → get_elem? (stages_of vs) id ≡ some g
  at_stage vs id v g at is = at_map stage_of vs id v at ∙ ap some is

  at_row : (vs : List (View E)) (id : ℕ) (v : View E) (xs : List (Member E)) → get_elem? vs id ≡ some v → v.members ≡ xs → get_elem? (rows_of vs) id ≡ some xs
  at_row vs id v xs at is = at_map row_of vs id v at ∙ ap some is

  pub drawing : (n id : ℕ) (me : Sat) → me.0.stage ≡ Away → Allows Rule n id me 0 (λ x. (x + 1) % 2 ^ 64) (Draws (step n 0 1 0 none) me)
  drawing n id me away s r deep at small = let w = with_ticket me.0 r.drawn in let here = at_stage s.views id me.0 Away at away in
      let look = shows_set s.views id w in let same_rows = set_again (rows_of s.views) id me.0.members (at_map row_of s.views id me.0 at) in let same_counts = set_again (counts_of s.views) id me.0.given (at_map count_of s.views id me.0 at) in (
        w,
        keeps,
        tt,
        kept _ _ _ _ (rows_of s.views) (counts_of s.views) record { stages_are = look.stages_are; rows_are = look.rows_are ∙ same_rows; counts_are = look.counts_are ∙ same_counts } r.longest r.served (r.drawn + 1)
            r.history
            (subst (IsQueue r.served (r.drawn + 1) _) (sym (map-set ticket_of (stages_of s.views) id (Waits r.drawn))) (tickets.draw _ _ _ _ r.tickets id (at_map ticket_of (stages_of s.views) id Away here)))
            (slots.waits _ _ _ r.turn id r.drawn here) r.home (slots.still_seen _ _ _ r.holder id (Waits r.drawn) (λ t e. cc e)) r.authors,
        (r.drawn, tickets.low_is _ _ _ _ r.tickets, refl),
      )

  -- nothing changes
  unmoved : (s : State (Option K) (View E)) (r : Rule s) (i id : ℕ) (me : Sat) → get_elem? s.views id ≡ some me.0 → Rule (stepped s i (get_or s.words i 0) id me.1 me.0 keeps)
  unmoved s r i id me at =
      subst Rule (λ j. record { words = sym (set-get_or s.words i 0) j; homes = s.homes; views = sym (set_again s.views id me.0 at) j }) r

  pub looking : (n id t k : ℕ) (xs : List E) (me : Sat) → me.0.stage ≡ Waits t → me.0.members ≡ member k xs ∷ [] → Allows Rule n id me 1 (λ x. x) (Looks journal author (step n 1 0 0 none) me)
  looking n id t k xs me waits one s r deep at small = let here = at_stage s.views id me.0 (Waits t) at waits in let mine = at_map ticket_of (stages_of s.views) id (Waits t) here in
      let row_here = at_row s.views id me.0 (member k xs ∷ []) at one in
      let same : (u : ℕ) → me.0.stage ≡ Waits u → t ≡ u = λ u e. cc (waits, e) in
      dite (ℕ_discrete (get_or s.words 1 0) (t % 2 ^ 64))
      (λ hit.
      let few = r.authors.few in let many : length (tickets_of (stages_of s.views)) < 2 ^ 64 = rw (length-map, length-map) (let l = length-map s.views row_of in omega arith) in
      let is = tickets.is_served _ _ _ _ r.tickets id t (get_or s.words 1 0) many mine refl hit in
      let now : get_elem? (stages_of s.views) id ≡ some (Waits r.served) = here ∙ ap (λ (u : ℕ). some (Waits u)) (sym is) in
      let home = slots.at_home _ _ _ r.turn _ _ r.tickets id now in
      let value = r.home home.0.0 home.0.1 in let w = with_turn me.0 t (journal value.0) in
      let look = shows_set s.views id w in let number_is : number_of me.0.members ≡ k = ap number_of one in let seen_is : seen_of me.0.members ≡ xs = ap seen_of one in
      let row_is : w.members ≡ member k r.longest ∷ [] = λ i. member (number_is i) (value.2 i) ∷ [] in
      let begins = All-head (λ (x : Member E). IsPrefix x.seen r.longest) (member k xs) [] (r.history.each id (member k xs ∷ []) row_here) in
      let own = All-head (λ (x : Member E). entries_of author x.number r.longest ≡ entries_of author x.number x.seen) (member k xs) [] (r.authors.own id (member k xs ∷ []) row_here) in (
        w,
        takes 0 (Some value.0),
        ap (λ hs. get_elem? hs 0) (home.0.1 ∙ ap (λ (x : Option K). some x ∷ []) value.1),
        kept _ _ _ _ (set (rows_of s.views) id (member k r.longest ∷ [])) (counts_of s.views)
            record {
              stages_are = look.stages_are ∙ ap (λ (u : ℕ). set (stages_of s.views) id (Has u)) (sym is);
              rows_are = look.rows_are ∙ ap (set (rows_of s.views) id) row_is;
              counts_are = look.counts_are ∙ set_again (counts_of s.views) id me.0.given (at_map count_of s.views id me.0 at);
            }
            r.longest r.served r.drawn (rows.sees r.longest (rows_of s.views) r.history id k xs r.longest row_here (prefix_self r.longest))
            (subst (λ (z : List ℕ × List (Option ℕ)). IsQueue r.served r.drawn z.0 z.1)
            (λ i. (sym (set-get_or s.words 1 0) i, sym (map-set ticket_of (stages_of s.views) id (Has r.served) ∙ (ap (λ (u : ℕ). set (tickets_of (stages_of s.views)) id (Some u)) is ∙ set_again (tickets_of (stages_of s.views)) id (Some t) mine)) i)) r.tickets)
            (slots.comes _ _ _ r.turn _ _ r.tickets id now)
            (λ x e. absurd (cc (ap (λ (hs : Homes K). set hs 0 none) home.0.1, e)))
            (slots.now_seen _ _ _ r.holder id k r.served (inside (rows_of s.views) id (member k xs ∷ []) row_here))
            (rows.goes_on author seats r.longest (rows_of s.views) (counts_of s.views) r.authors id k xs r.longest row_here (stays_on author k r.longest)),
        λ u e. (
          (λ _. (
            value.0,
            ap (λ (z : ℕ). (with_turn me.0 z (journal value.0), (0, Some value.0) ∷ me.1)) (same u e),
            subst (λ (z : List E × List E). IsPrefix z.0 z.1) (λ i. (sym seen_is i, sym value.2 i)) begins,
            subst (λ (z : ℕ × List E × List E). entries_of author z.0 z.2 ≡ entries_of author z.0 z.1) (λ i. (sym number_is i, sym seen_is i, sym value.2 i)) own,
          )),
          λ miss. absurd (miss (hit ∙ ap (λ (z : ℕ). z % 2 ^ 64) (same u e))),
        ),
      ))
      (λ miss. (me.0, keeps, tt, unmoved s r 1 id me at, λ u e. ((λ hit. absurd (miss (hit ∙ ap (λ (z : ℕ). z % 2 ^ 64) (sym (same u e))))), λ _. refl)))

  pub passing_on : (n id t k : ℕ) (xs : List E) (me : Sat) (value : K) → me.0.stage ≡ Has t → me.0.members ≡ member k xs ∷ [] → me.1 ≡ (0, Some value) ∷ [] → GoesOn author k xs (journal value)
      → Allows Rule n id me 1 (λ x. (x + 1) % 2 ^ 64) (PassesOn journal (step n 1 1 0 none) me)
  passing_on n id t k xs me value has one carries on s r deep at small = let here = at_stage s.views id me.0 (Has t) at has in let w = without_turn me.0 (journal value) in let is = r.turn.alone id t here in
      let row_here = at_row s.views id me.0 (member k xs ∷ []) at one in let seen = r.holder id t here in let same : xs ≡ r.longest = ap seen_of (some-injective (member k xs ∷ []) (member seen.0 r.longest ∷ []) (sym row_here ∙ seen.1)) in
      let look = shows_set s.views id w in let row_is : w.members ≡ member k (journal value) ∷ [] = ap (λ (l : List (Member E)). member (number_of l) (journal value) ∷ []) one in
      let goes = subst (λ (l : List E). GoesOn author k l (journal value)) same on in (
        w,
        gives,
        tt,
        subst (λ (z : List (ℕ × Option K)). Rule record { words = set s.words 1 ((get_or s.words 1 0 + 1) % 2 ^ 64); homes = put_back s.homes z; views = set s.views id w }) (sym carries)
            (kept _ _ _ _ (set (rows_of s.views) id (member k (journal value) ∷ [])) (counts_of s.views)
            record { stages_are = look.stages_are; rows_are = look.rows_are ∙ ap (set (rows_of s.views) id) row_is; counts_are = look.counts_are ∙ set_again (counts_of s.views) id me.0.given (at_map count_of s.views id me.0 at) }
            (journal value) (r.served + 1) r.drawn (rows.sees r.longest (rows_of s.views) r.history id k xs (journal value) row_here (goes.0, sym goes.1))
            (subst (IsQueue (r.served + 1) r.drawn _) (sym (map-set ticket_of (stages_of s.views) id Away))
            (tickets.pass_on _ _ _ _ r.tickets id (at_map ticket_of (stages_of s.views) id (Has t) here ∙ ap (λ (u : ℕ). some (Some u)) is)))
            (slots.passes _ _ _ r.turn _ _ r.tickets id t (Some value) here)
            (λ x e. (value, cc (ap (λ (hs : Homes K). set hs 0 (some (Some value))) (slots.is_out _ _ _ r.turn _ _ r.tickets id t here), e), refl))
            (λ j u e. absurd (slots.none_left _ _ _ r.turn _ _ r.tickets id t here j u e))
            (rows.goes_on author seats r.longest (rows_of s.views) (counts_of s.views) r.authors id k xs (journal value) row_here goes)),
        λ v e. let is_some_v : Some value ≡ Some v = ap held_of (sym carries ∙ e) in let is_value : value ≡ v = cc is_some_v in (λ i. (without_turn me.0 (journal (is_value i)), rest (carries i))),
      )

  pub splitting : (id n k : ℕ) (xs : List E) (v : View E) → v.members ≡ member k xs ∷ [] → v.given ≡ Some n → n < seats → Splits Rule id v (giver v) (newcomer v)
  splitting id n k xs v one given room s r at = let row_here = at_row s.views id v (member k xs ∷ []) at one in let count_here = at_map count_of s.views id v at ∙ ap some given in
      let next : next_number v ≡ n + 1 = ap (λ (c : Option ℕ). unwrap_or c 0 + 1) given in let w = giver v in let o = newcomer v in let look = shows_set s.views id w in
      kept s.words s.homes (set s.views id w ++ o ∷ []) (stages_of s.views ++ Away ∷ []) (rows_of s.views ++ (member (n + 1) xs ∷ []) ∷ []) (set (counts_of s.views) id (Some (n + 1)) ++ None ∷ [])
      record {
        stages_are = map-append stage_of (set s.views id w) (o ∷ []) ∙ ap (λ l. l ++ Away ∷ []) (look.stages_are ∙ set_again (stages_of s.views) id v.stage (at_map stage_of s.views id v at));
        rows_are = map-append row_of (set s.views id w) (o ∷ []) ∙ (λ i. (look.rows_are ∙ set_again (rows_of s.views) id v.members (at_map row_of s.views id v at)) i ++ (member (next i) (seen_of (one i)) ∷ []) ∷ []);
        counts_are = map-append count_of (set s.views id w) (o ∷ []) ∙ ap (λ l. l ++ None ∷ []) (look.counts_are ∙ ap (λ (m : ℕ). set (counts_of s.views) id (Some m)) next);
      }
      r.longest r.served r.drawn
      (rows.splits r.longest (rows_of s.views) r.history (n + 1) xs (All-head (λ (x : Member E). IsPrefix x.seen r.longest) (member k xs) [] (r.history.each id (member k xs ∷ []) row_here)))
      (subst (IsQueue r.served r.drawn s.words) (sym (map-append ticket_of (stages_of s.views) (Away ∷ []))) (tickets.enters _ _ _ _ r.tickets))
      (slots.enters _ _ _ r.turn) r.home (slots.seen_beside _ _ _ r.holder (member (n + 1) xs ∷ []))
      (rows.gives author seats r.longest (rows_of s.views) (counts_of s.views) r.authors id k n xs row_here count_here room)

  pub joining : (id other : ℕ) (v w : View E) → v.stage ≡ Away → w.stage ≡ Away → Joins Rule id v other w (joint_view v w) spent_view
  joining id other v w v_away w_away s r at apart there = let both = joint_view v w in let here = sym (set_else s.views id other both apart) ∙ there in
      let row_v = at_map row_of s.views id v at in let row_w = at_map row_of s.views other w here in let count_v = at_map count_of s.views id v at in let count_w = at_map count_of s.views other w here in
      let stage_v = at_stage s.views id v Away at v_away in let stage_w = at_stage s.views other w Away here w_away in let first = shows_set s.views id both in let last = shows_set (set s.views id both) other spent_view in
      let same : stages_of (set s.views id both) ≡ stages_of s.views = first.stages_are ∙ (ap (set (stages_of s.views) id) v_away ∙ set_again (stages_of s.views) id Away stage_v) in
      kept s.words s.homes (set (set s.views id both) other spent_view) (stages_of s.views) (set (set (rows_of s.views) id (w.members ++ v.members)) other []) (set (set (counts_of s.views) id (either_count v.given w.given)) other None)
      record {
        stages_are = last.stages_are ∙ (ap (λ l. set l other Away) same ∙ set_again (stages_of s.views) other Away stage_w);
        rows_are = last.rows_are ∙ ap (λ l. set l other []) first.rows_are;
        counts_are = last.counts_are ∙ ap (λ l. set l other None) first.counts_are;
      }
      r.longest r.served r.drawn (rows.is_joined r.longest (rows_of s.views) r.history id other v.members w.members row_v row_w apart) r.tickets r.turn r.home
      (slots.seen_elsewhere _ _ _ r.holder id other (w.members ++ v.members) [] stage_v stage_w)
      (rows.joins author seats r.longest (rows_of s.views) (counts_of s.views) r.authors id other v.members w.members v.given w.given row_v row_w apart count_v count_w)

  pub starting : (k : K) → 1 ≤ seats → seats < 2 ^ 32 → Rule (opening (0 ∷ 0 ∷ []) (Some k ∷ []) (opener (journal k)))
  starting k some_seat few = let xs = journal k in record {
    longest = xs;
    served = 0;
    drawn = 0;
    history = record {
      each = λ j ys e. subst (All (λ x. IsPrefix x.seen xs)) (only_place (member 1 xs ∷ []) ys j e).1 (single (λ x. IsPrefix x.seen xs) (member 1 xs) (prefix_self xs));
      whole = (0, member 1 xs ∷ [], member 1 xs, refl, (0, omega arith, refl), refl);
    };
    tickets = record {
      words_are = refl;
      within = λ j t e. absurd (no_ticket j t e);
      each_held = λ t le lt. absurd (omega arith);
      by_one = λ i j t e f. absurd (no_ticket i t e);
      as_many = refl;
    };
    turn = record { alone = λ j t e. absurd (no_turn j t e); slot = inr ((Some k, refl), no_turn) };
    home = λ x e. (k, cc e, refl);
    holder = λ j t e. absurd (no_turn j t e);
    authors = record {
      own = λ j ys e. subst (All (λ x. entries_of author x.number xs ≡ entries_of author x.number x.seen)) (only_place (member 1 xs ∷ []) ys j e).1
          (single (λ x. entries_of author x.number xs ≡ entries_of author x.number x.seen) (member 1 xs) refl);
      strangers = λ s _ j ys e. subst (All (λ x. entries_of author s xs ≡ entries_of author s x.seen)) (only_place (member 1 xs ∷ []) ys j e).1
          (single (λ x. entries_of author s xs ≡ entries_of author s x.seen) (member 1 xs) refl);
      once = λ s. let a = rows.one_more 0 s in let b = rows.none_yet s in omega arith;
      in_all = refl;
      count = (0, refl, λ i c e other. absurd (other (only_place (Some 1) c i e).0));
      few = (some_seat, few);
    };
  }
    where
      no_turn : (j t : ℕ) → get_elem? (Away ∷ []) j ≡ some (Has t) → ⊥
      no_turn j t e = let is = (only_place Away (Has t) j e).1 in cc is

      no_ticket : (j t : ℕ) → get_elem? (None ∷ []) j ≡ some (Some t) → ⊥
      no_ticket j t e = let is = (only_place None (Some t) j e).1 in cc is

  -- who stands for all passes and has no ticket is alone: the slot is at home
  module _ (s : State (Option K) (View E)) (r : Rule s) (id : ℕ) (v : View E) (at : get_elem? s.views id ≡ some v) (away : v.stage ≡ Away) (all : length v.members ≡ seats) where
    row_here : get_elem? (rows_of s.views) id ≡ some v.members
    row_here = at_map row_of s.views id v at

    others_spent : (j : ℕ) (ys : List (Member E)) → j ≢ id → get_elem? (rows_of s.views) j ≡ some ys → length ys ≡ 0
    others_spent j ys other e = let few = r.authors.few in let total = r.authors.in_all in let two = sum_two length (rows_of s.views) id j v.members ys [] row_here e other refl in omega arith

    is_home : IsHome s.homes (stages_of s.views)
    is_home = ⊎_elim (λ (h : IsOut r.served s.homes (stages_of s.views)). let seen = r.holder h.1.0 r.served h.1.1 in
        let none_is = others_spent h.1.0 (member seen.0 r.longest ∷ []) (slots.apart (stages_of s.views) id h.1.0 Away (Has r.served) (at_stage s.views id v Away at away) h.1.1 (λ e. cc e)) seen.1 in
        absurd {A = IsHome s.homes (stages_of s.views)} (omega arith))
        (λ (h : IsHome s.homes (stages_of s.views)). h) r.turn.slot

    kept_value : (k : K) × (get_elem? s.homes 0 ≡ some (some (Some k))) × (journal k ≡ r.longest)
    kept_value = let home = is_home in let value = r.home home.0.0 home.0.1 in (value.0, ap (λ hs. get_elem? hs 0) (home.0.1 ∙ ap (λ (x : Option K). some x ∷ []) value.1), value.2)

    some_whole : (x : Member E) × Contains v.members x × (x.seen ≡ r.longest)
    some_whole = let w = r.history.whole in dite (ℕ_discrete w.0 id)
        (λ e. let same : w.1 ≡ v.members = some-injective w.1 v.members (sym w.3 ∙ (ap (get_elem? (rows_of s.views)) e ∙ row_here)) in (w.2, subst (λ (l : List (Member E)). Contains l w.2) same w.4, w.5))
        (λ other. let none_is = others_spent w.0 w.1 other w.3 in let there = w.4.1 in absurd (omega arith))

    pub closing : Ends journal author v.members s.homes
    closing = let k = kept_value in let w = some_whole in record {
      value = k.0;
      at_home = k.1;
      prefixes = subst (λ (l : List E). All (λ x. IsPrefix x.seen l) v.members) (sym k.2) (r.history.each id v.members row_here);
      own = subst (λ (l : List E). All (λ x. entries_of author x.number l ≡ entries_of author x.number x.seen) v.members) (sym k.2) (r.authors.own id v.members row_here);
      whole = (w.0, w.1, w.2 ∙ sym k.2);
    }
