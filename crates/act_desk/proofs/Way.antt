-- What a caller on its way may do next.
use Rattle.std.proofs.Common.{◌≡◌, ◌⊎◌, ℕ, suc, ◌+◌, ◌<◌, ◌≤◌, true, List, [], ◌∷◌, ◌++◌, length, drop, take, get_or, inl, ⊎_elim, sym, ap, subst, ◌∙◌, arith}
use Rattle.std.specs.List.{count_by, slice_get}
use Rattle.std.proofs.Math.Seq.{take-suc}
use Rattle.std.proofs.lemmas.List.{length-append, length-drop, nil_from_length, take-append-drop}
use Rattle.std.proofs.lemmas.List.Sums.{sum_by-append}
use Rattle.std.specs.Prelude.{cond, Bool}
use Rattle.std.proofs.lemmas.List.Elements.{All-get_or}
use Rattle.act_model.specs.Answer.{Reply}
use Rattle.act_model.specs.Journal.{is_known}
use Rattle.act_model.specs.declared.journal.Line.{Line}
use Rattle.act_model.specs.declared.journal.Step.TheVariants as step
use Rattle.act_model.specs.declared.journal.Asked.{Asked}
use Rattle.act_model.specs.declared.observed.Obs.{Obs}
use Rattle.act_portfolio.specs.Reading.{Accepted}
use Rattle.act_turn.specs.Standing.{Standing}
use Rattle.act_history.specs.History.{History, IsPresent, asks_by, collected_by, is_given_up, open_asks}
use Rattle.act_history.specs.Legal.{HasQuota, IsFull}
use Rattle.act_model.specs.Limits.{most_open}
use Rattle.act_board.specs.declared.history.Entry.{Entry}
use Rattle.act_desk.specs.Desk.{Desk}
use Rattle.act_desk.specs.Making.{IsAt, IsMaking, MayMake, appends, asks, asks_known}
use Rattle.act_desk.specs.Step.{HasSeen}
use Rattle.act_desk.proofs.Amid.{count-appends, count-asks}
use Rattle.act_desk.proofs.Goes.{same-history}

-- ---- counts of the first lines

-- some first lines have no more of a sort than all
first-fewer : (p : Line → Bool) (n : ℕ) (lines : List Line) → count_by p (take n lines) ≤ count_by p lines
first-fewer p n lines =
    let parts = sum_by-append (λ line. cond (p line) 1 0) (take n lines) (drop n lines) in
    let whole : count_by p (take n lines ++ drop n lines) ≡ count_by p lines = ap (count_by p) (take-append-drop n lines) in
    omega (arith, parts, whole)

-- a line is the next one after the first n
pub record IsNext (lines : List Line) (n : ℕ) (line : Line) : Type 0 where
  pub within : n < length lines
  pub at : get_or lines n line ≡ line

module _ {lines : List Line} {n : ℕ} {line : Line} (next : IsNext lines n line) where
  pub next-take : take (n + 1) lines ≡ take n lines ++ line ∷ []
  next-take =
      let more : n + 1 ≡ suc n = omega arith in
      ap (λ (k : ℕ). take k lines) more ∙ (take-suc lines n line next.within ∙ ap (λ (l : Line). take n lines ++ l ∷ []) next.at)

  pub next-count : (p : Line → Bool) → count_by p (take n lines ++ line ∷ []) ≤ count_by p lines
  next-count p = subst (λ (ls : List Line). count_by p ls ≤ count_by p lines) next-take (first-fewer p (n + 1) lines)

  -- how many asks there are then
  pub next-appends : {entry : Obs} → line.step ≡ step.Append entry → count_by asks (take (n + 1) lines) ≡ count_by asks (take n lines)
  next-appends {entry} is = ap (count_by asks) next-take ∙ (count-appends (take n lines) line entry is).1

  pub next-asks : {asked : Asked} → line.step ≡ step.Ask asked → count_by asks (take (n + 1) lines) ≡ count_by asks (take n lines) + 1
  next-asks {asked} is = ap (count_by asks) next-take ∙ (count-asks (take n lines) line asked is).1

-- ---- a caller on its way

module _ {A : Type 0} {kept_of : Reply → A} {first : Standing Entry} {i : ℕ} {done : List Line} {answers : List A} {pass : Standing Entry} (is : IsMaking kept_of first i done answers pass) where
  -- what the pass had seen at first is the history that it has started from
  pub at-start : (P : History → Type 0) → HasSeen first P → P is.start
  at-start P had = subst P (same-history had.history is.start (sym had.seen ∙ is.had)) had.holds

  pub making-at : {desk : Desk} → IsAt desk i first → IsAt desk i pass
  making-at {desk} at = record {
    free = (is.turn ∙ at.free.0, is.holds ∙ at.free.1);
    own = is.number;
    portfolio = record { history = is.now; seen = is.seen; holds = is.amid.portfolio ∙ at-start (λ h. h.portfolio ≡ desk.portfolio) at.portfolio };
  }

  pub making-present : HasSeen pass (λ h. IsPresent h i)
  making-present = record { history = is.now; seen = is.seen; holds = is.amid.present }

  module _ {lines : List Line} (may : HasSeen first (λ h. MayMake h i lines)) where
    may-make : MayMake is.start i lines
    may-make = at-start (λ h. MayMake h i lines) may

    pub all-collected : collected_by is.start i ≡ length (asks_by is.start i)
    all-collected = may-make.collected

    -- how many asks are open
    open-count : length (open_asks is.now i) + length answers ≡ count_by asks done
    open-count =
        let dropped = length-drop (collected_by is.now i) (asks_by is.now i) in
        let all = ap length is.amid.asked ∙ length-append (asks_by is.start i) is.amid.made in
        let made = is.amid.count in
        let had = is.amid.collected in
        let start = all-collected in
        let fewer = is.amid.fewer in
        omega (arith, dropped, all, made, had, start, fewer)

    pub making-open : {count : ℕ} → count ≡ count_by asks done → HasSeen pass (λ h. length (open_asks h i) + length answers ≡ count)
    making-open {count} same = record { history = is.now; seen = is.seen; holds = open-count ∙ sym same }

    pub making-some : {count : ℕ} → count ≡ count_by asks done → length answers < count → HasSeen pass (λ h. 0 < length (open_asks h i))
    making-some {count} same fewer = record { history = is.now; seen = is.seen; holds = let still = open-count in omega (arith, still, same, fewer) }

    -- all answers are there: no ask is open
    pub making-none : length answers ≡ count_by asks done → HasSeen pass (λ h. (open_asks h i ≡ []) ⊎ (is_given_up h ≡ true))
    making-none all = record { history = is.now; seen = is.seen; holds = inl (nil_from_length (open_asks is.now i) (let still = open-count in omega (arith, still, all))) }

    -- the next line appends: there is quota
    pub making-quota : (line : Line) {entry : Obs} → line.step ≡ step.Append entry → count_by appends (done ++ line ∷ []) ≤ count_by appends lines → HasSeen pass (λ h. HasQuota h i)
    making-quota line {entry} is-append within =
        let room = may-make.room in
        let one = (count-appends done line entry is-append).0 in
        let had = is.amid.appended in
        let left = room.4 in
        record {
          history = is.now;
          seen = is.seen;
          holds = (room.0, room.1, room.2, ap (λ (quotas : List ℕ). slice_get quotas room.0) is.amid.quotas ∙ room.3, omega (arith, one, had, left, within));
        }

    -- the next line asks: there is room
    pub making-not-full : (line : Line) {asked : Asked} {count : ℕ} → line.step ≡ step.Ask asked → count_by asks (done ++ line ∷ []) ≤ count_by asks lines
        → count ≡ count_by asks done → count < length answers + most_open → HasSeen pass (λ h. ¬ (IsFull h i))
    making-not-full line {asked} {count} is-ask within same fewer =
        let one = (count-asks done line asked is-ask).1 in
        let still = open-count in
        let all = ap length is.amid.asked ∙ length-append (asks_by is.start i) is.amid.made in
        let made = is.amid.count in
        let few = may-make.few in
        record {
          history = is.now;
          seen = is.seen;
          holds = λ full. ⊎_elim (λ many. omega (arith, many, still, same, fewer)) (λ many. omega (arith, many, all, made, few, within, one)) full;
        }

    -- what the next line asks for is there
    pub making-known : {n : ℕ} {line : Line} {asked : Asked} → IsNext lines n line → line.step ≡ step.Ask asked → HasSeen pass (λ h. is_known h.portfolio.names (step.Ask asked) ≡ true)
    making-known {n} {line} {asked} next is-ask =
        let asks : (get_or lines n line).step ≡ step.Ask asked = ap (λ (l : Line). l.step) next.at ∙ is-ask in
        let known = All-get_or (λ (l : Line). asks_known is.start.portfolio.names l.step ≡ true) lines n line next.within may-make.known in
        record {
          history = is.now;
          seen = is.seen;
          holds = ap (λ (of : Accepted). is_known of.names (step.Ask asked)) is.amid.portfolio ∙ (sym (ap (asks_known is.start.portfolio.names) asks) ∙ known);
        }
