-- What the calls of an actor ask, and what it has done then.
use Rattle.std.proofs.Common.{◌≡◌, ℕ, suc, ◌+◌, ◌<◌, ◌≤◌, List, length, get_or, Option, Some, None, Result, Ok, Err, Vec, IfOk, IfSome, refl, sym, ap, subst, ◌∙◌, arith}
use Rattle.std.specs.List.{count_by, slice_get}
use Rattle.std.specs.Option.{option_map}
use Rattle.std.specs.Result.{result_ok}
use Rattle.std.specs.declared.alloc.Global.{Global}
use Rattle.std.proofs.lemmas.List.{length-map}
use Rattle.std.proofs.lemmas.List.Elements.{All-get_or}
use Rattle.std.proofs.lemmas.Option.{get_or_from_slice_get, same_Some, slice_get-map, slice_get_read, slice_get_within}
use Rattle.act_model.specs.Answer.{Reply}
use Rattle.act_model.specs.declared.journal.Line.{Line}
use Rattle.act_num.specs.declared.NoMemory.{NoMemory}
use Rattle.act_portfolio.specs.Reading.{Accepted}
use Rattle.act_turn.specs.Standing.{Standing}
use Rattle.act_board.specs.declared.history.Entry.{Entry}
use Rattle.act_desk.specs.Desk.{Desk}
use Rattle.act_desk.specs.Making.{HasMade, HasWatched, IsAt, MayMake, appends}
use Rattle.act_desk.specs.Step.{opening}
use Rattle.act_session.specs.declared.actor.Actor.{Actor}
use Rattle.act_session.specs.Playing.{ArePlayable, HasPlayed, IsPlayable, first_pass, lines_of, quotas_of}

-- the lines of the script of a place
pub lines-at : (scripts : List (Vec Line Global)) (place : ℕ) (script : Vec Line Global) (lines : List Line) → place < length scripts → script ≡ get_or scripts place script → lines ≡ script.items
    → slice_get (lines_of scripts) place ≡ Some lines
lines-at scripts place script lines within read same =
    slice_get-map (λ (s : Vec Line Global). s.items) scripts place
    ∙ (ap (λ (o : Option (Vec Line Global)). option_map (λ (s : Vec Line Global). s.items) o) (slice_get_read scripts (length scripts) place script refl within read) ∙ ap Some (sym same))

module _ (of : Accepted) (scripts : List (List Line)) (place : ℕ) (lines : List Line) (are : ArePlayable of scripts) (at : slice_get scripts place ≡ Some lines) where
  within : place < length scripts
  within = slice_get_within scripts place lines at

  playable : IsPlayable of lines
  playable = subst (IsPlayable of) (get_or_from_slice_get scripts place lines lines at) (All-get_or (IsPlayable of) scripts place lines within are.each)

  -- the caller of a place may make its lines on a board on which nothing has happened
  pub may-make : MayMake (opening of (quotas_of scripts)) (place + 1) lines
  may-make =
      let count = length-map scripts (λ (script : List Line). count_by appends script) in
      let quota : slice_get (quotas_of scripts) place ≡ Some (count_by appends lines) =
      slice_get-map (λ (script : List Line). count_by appends script) scripts place ∙ ap (λ (o : Option (List Line)). option_map (λ (script : List Line). count_by appends script) o) at in
      let is-next : place + 1 ≡ suc place = omega arith in
      let all : 0 + count_by appends lines ≤ count_by appends lines = omega arith in
      record {
        present = record { from = omega arith; to = omega (arith, within, count); here = refl };
        collected = refl;
        room = (place, count_by appends lines, is-next, quota, all);
        few = let is = playable.few in omega (arith, is);
        entries = playable.entries;
        known = playable.known;
      }

-- a pass that has had no turn yet is at its desk
pub first-is-at : (desk : Desk) (scripts : List (List Line)) (place : ℕ) (pass : Standing Entry) → pass ≡ first_pass desk scripts place → IsAt desk (place + 1) pass
first-is-at desk scripts place pass first =
    subst (IsAt desk (place + 1)) (sym first) (record { free = (refl, refl); own = refl; portfolio = record { history = opening desk.portfolio (quotas_of scripts); seen = refl; holds = refl } })

module _ {A : Type 0} (kept_of : Reply → A) (desk : Desk) (scripts : List (List Line)) (place : ℕ) (old new : Standing Entry) (first : old ≡ first_pass desk scripts place) where
  -- a caller that has its answers has made its lines
  pub caller-made : (lines : List Line) (result : Result (Vec A Global) NoMemory) → slice_get scripts place ≡ Some lines → IfOk result (λ replies. HasMade kept_of old (place + 1) lines replies.items new)
      → IfSome (result_ok result) (λ replies. (ls : List Line) → slice_get scripts place ≡ Some ls → HasMade kept_of (first_pass desk scripts place) (place + 1) ls replies.items new)
  caller-made lines (Ok replies) at made = λ ls at-ls.
      subst (λ (ls : List Line). HasMade kept_of (first_pass desk scripts place) (place + 1) ls replies.items new) (same_Some lines ls (sym at ∙ at-ls))
      (subst (λ (pass : Standing Entry). HasMade kept_of pass (place + 1) lines replies.items new) first made)
  caller-made lines (Err fault) at made = tt

  -- behind the scripts there are workers
  pub worker-played : (answers : Option (Vec A Global)) → length scripts ≤ place → HasWatched old new → HasPlayed kept_of desk scripts place new answers
  worker-played answers behind watched = record {
    free = (watched.turn ∙ ap (λ (p : Standing Entry). p.turn) first, watched.holds ∙ ap (λ (p : Standing Entry). p.holds) first);
    number = watched.number ∙ ap (λ (p : Standing Entry). p.number) first;
    made = none answers;
  }
    where
      none : (answers : Option (Vec A Global)) → IfSome answers (λ replies. (lines : List Line) → slice_get scripts place ≡ Some lines → HasMade kept_of (first_pass desk scripts place) (place + 1) lines replies.items new)
      none (Some replies) = λ lines at. absurd (let within = slice_get_within scripts place lines at in omega (arith, within, behind))
      none None = tt

-- an actor has played that is what a call has left of the actor of its place
pub played-at : {A : Type 0} {kept_of : Reply → A} (desk : Desk) (scripts : List (List Line)) (place at : ℕ) (actor left there : Actor A) → left ≡ there → actor ≡ there → at ≡ place
    → HasPlayed kept_of desk scripts at left.pass left.answers → HasPlayed kept_of desk scripts place actor.pass actor.answers
played-at {A} {kept_of} desk scripts place at actor left there is read same played =
    subst (λ (a : Actor A). HasPlayed kept_of desk scripts place a.pass a.answers) (is ∙ sym read) (subst (λ (k : ℕ). HasPlayed kept_of desk scripts k left.pass left.answers) same played)
