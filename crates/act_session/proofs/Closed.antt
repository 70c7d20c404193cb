-- What a session ends with, where all actors have played.
use Rattle.std.proofs.Common.{◌≡◌, ℕ, ◌+◌, ◌<◌, ◌≤◌, List, length, get_or, take, Option, Some, Vec, IfSome, inl, inr, refl, sym, ap, subst, ◌∙◌, arith}
use Rattle.std.specs.Prelude.{map}
use Rattle.std.specs.List.{All, slice_get}
use Rattle.std.specs.Option.{option_map}
use Rattle.std.specs.declared.alloc.Global.{Global}
use Rattle.std.proofs.lemmas.List.{length-map, length-take-le}
use Rattle.std.proofs.lemmas.List.Elements.{All-get_or, All-map}
use Rattle.std.proofs.lemmas.Option.{get_or_from_slice_get, same_Some, slice_get-map, slice_get_cases, slice_get_read, slice_get_within}
use mathlib.Core.List.{IsPrefix}
use Rattle.act_model.specs.Answer.{Reply}
use Rattle.act_model.specs.declared.journal.Line.{Line}
use Rattle.act_profile.specs.Answers.{answers_of}
use Rattle.act_turn.specs.Journal.{entries_of}
use Rattle.act_turn.specs.Standing.{IsFree, Standing, own_entries}
use Rattle.act_board.specs.Entries.{author_of, list_of}
use Rattle.act_history.specs.History.{History, journal_of, replies_of}
use Rattle.act_history.specs.Legal.{IsSound}
use Rattle.act_board.specs.declared.history.Entry.{Entry}
use Rattle.act_history.proofs.Places.{get-take}
use Rattle.act_desk.specs.Desk.{Desk}
use Rattle.act_desk.specs.Making.{HasMade}
use Rattle.act_session.specs.Playing.{AreOwn, ArePlayable, IsPlayed, first_pass, quotas_of}
use Rattle.act_session.specs.Seats.{HavePlayed, answers_at, passes_of}
use Rattle.act_session.specs.declared.actor.Actor.{Actor}
use Rattle.act_session.proofs.Lists.{All-by_place}
use Rattle.act_session.proofs.Played.{HasAll, has-all, opens}
use Rattle.act_session.proofs.Together.{all-answered, all-own, is-played}

-- what holds of each element holds of that of a place
All-at : {X : Type 0} (P : X → Type 0) (xs : List X) (k : ℕ) (x : X) → All P xs → slice_get xs k ≡ Some x → P x
All-at P xs k x all at = subst P (get_or_from_slice_get xs k x x at) (All-get_or P xs k x (slice_get_within xs k x at) all)

-- the pass of the actor of a place
pub pass-at : {A : Type 0} (actors : List (Actor A)) (place : ℕ) (actor : Actor A) → slice_get actors place ≡ Some actor → slice_get (passes_of actors) place ≡ Some actor.pass
pass-at {A} actors place actor at = slice_get-map (λ (a : Actor A). a.pass) actors place ∙ ap (λ (o : Option (Actor A)). option_map (λ (a : Actor A). a.pass) o) at

-- no pass holds anything
pub all-free : {A : Type 0} {kept_of : Reply → A} (desk : Desk) (scripts : List (List Line)) (actors : List (Actor A)) → HavePlayed kept_of desk scripts actors → All (IsFree desk.id) (passes_of actors)
all-free {A} desk scripts actors played =
    All-map (IsFree desk.id) (λ (a : Actor A). a.pass) actors (All-by_place (λ (a : Actor A). IsFree desk.id a.pass) actors (λ place actor at. (played place actor at).free))

-- a board that is closed, once all actors have played, and the answers that were taken from them
pub record IsClosed {A : Type 0} (kept_of : Reply → A) (desk : Desk) (scripts : List (List Line)) (actors : List (Actor A)) (board : History) (answers : List (Vec A Global)) : Type 0 where
  pub played : HavePlayed kept_of desk scripts actors
  pub are : ArePlayable desk.portfolio scripts
  pub sound : IsSound board
  pub begins : All (λ (p : Standing Entry). IsPrefix p.seen (list_of board)) (passes_of actors)
  pub own : All (λ (p : Standing Entry). entries_of author_of p.number (list_of board) ≡ own_entries author_of p) (passes_of actors)
  pub enough : length scripts ≤ length actors
  pub taken : map Some answers ≡ take (length scripts) (answers_at actors)

module _ {A : Type 0} {kept_of : Reply → A} {desk : Desk} {scripts : List (List Line)} {actors : List (Actor A)} {board : History} {answers : List (Vec A Global)} (closed : IsClosed kept_of desk scripts actors board answers) where
  answers-count : length answers ≡ length scripts
  answers-count =
      let all : length (answers_at actors) ≡ length actors = length-map actors (λ (a : Actor A). a.answers) in
      sym (length-map answers Some) ∙ (ap length closed.taken ∙ length-take-le (length scripts) (answers_at actors) (omega (arith, closed.enough, all)))

  -- the actor whose answers stand at a place
  record Its (place : ℕ) (replies : Vec A Global) : Type 0 where
    actor : Actor A
    at : slice_get actors place ≡ Some actor
    has : actor.answers ≡ Some replies

  its : (place : ℕ) (replies : Vec A Global) → slice_get answers place ≡ Some replies → Its place replies
  its place replies at =
      let within : place < length scripts = let few = slice_get_within answers place replies at in omega (arith, few, answers-count) in
      let one : slice_get (answers_at actors) place ≡ Some (Some replies) =
      sym (get-take (answers_at actors) (length scripts) place within)
      ∙ (ap (λ (xs : List (Option (Vec A Global))). slice_get xs place) (sym closed.taken)
      ∙ (slice_get-map Some answers place ∙ ap (λ (o : Option (Vec A Global)). option_map Some o) at)) in
      elim (slice_get_cases actors place).1 [
        | inl found ↦ record {
          actor = found.0;
          at = found.2;
          has = same_Some found.0.answers (Some replies) (sym (slice_get-map (λ (a : Actor A). a.answers) actors place ∙ ap (λ (o : Option (Actor A)). option_map (λ (a : Actor A). a.answers) o) found.2) ∙ one);
        }
        | inr past ↦ absurd (omega (arith, past.0, within, closed.enough))
      ]

  its-made : (place : ℕ) (lines : List Line) (replies : Vec A Global) → slice_get scripts place ≡ Some lines → (is : Its place replies) → HasMade kept_of (first_pass desk scripts place) (place + 1) lines replies.items is.actor.pass
  its-made place lines replies at is =
      (subst (λ (o : Option (Vec A Global)). IfSome o (λ replies. (ls : List Line) → slice_get scripts place ≡ Some ls → HasMade kept_of (first_pass desk scripts place) (place + 1) ls replies.items is.actor.pass)) is.has
      (closed.played place is.actor is.at).made) lines at

  its-begins : (place : ℕ) (replies : Vec A Global) (is : Its place replies) → IsPrefix is.actor.pass.seen (list_of board)
  its-begins place replies is = All-at (λ (p : Standing Entry). IsPrefix p.seen (list_of board)) (passes_of actors) place is.actor.pass closed.begins (pass-at actors place is.actor is.at)

  its-own : (place : ℕ) (replies : Vec A Global) (is : Its place replies) → entries_of author_of is.actor.pass.number (list_of board) ≡ own_entries author_of is.actor.pass
  its-own place replies is =
      All-at (λ (p : Standing Entry). entries_of author_of p.number (list_of board) ≡ own_entries author_of p) (passes_of actors) place is.actor.pass closed.own (pass-at actors place is.actor is.at)

  each : (place : ℕ) (lines : List Line) (replies : Vec A Global) → slice_get scripts place ≡ Some lines → slice_get answers place ≡ Some replies → HasAll kept_of board (place + 1) lines replies.items
  each place lines replies at-lines at =
      let is = its place replies at in
      has-all desk scripts place lines replies.items is.actor.pass board (its-made place lines replies at-lines is) (closed.played place is.actor is.at).number (its-begins place replies is) (its-own place replies is)

  -- the first caller tells how the board opens
  first-opens : (board.portfolio ≡ desk.portfolio) × (board.quotas ≡ quotas_of scripts)
  first-opens = elim (slice_get_cases scripts 0).1 [
    | inl script ↦ elim (slice_get_cases answers 0).1 [
      | inl found ↦
          let is = its 0 found.0 found.2 in
          opens desk scripts 0 script.0 found.0.items is.actor.pass board (its-made 0 script.0 found.0 script.2 is) (closed.played 0 is.actor is.at).number (its-begins 0 found.0 is) (its-own 0 found.0 is)
      | inr past ↦ absurd (let some = closed.are.some in omega (arith, past.0, some, answers-count))
    ]
    | inr past ↦ absurd (let some = closed.are.some in omega (arith, past.0, some))
  ]

  pub closed-played : IsPlayed desk.portfolio scripts board
  closed-played = is-played desk.portfolio scripts answers board closed.are.few closed.sound first-opens.0 first-opens.1 answers-count each

  pub closed-own : AreOwn kept_of board scripts answers
  closed-own = all-own desk.portfolio scripts answers board closed.are.few closed.sound first-opens.0 first-opens.1 answers-count each

  pub closed-answered : replies_of answers ≡ map kept_of (answers_of desk.portfolio.contracts desk.portfolio.names (journal_of board))
  closed-answered = all-answered desk.portfolio scripts answers board closed.are.few closed.sound first-opens.0 first-opens.1 answers-count each

-- the pass of the actor of a place, as the desk gave it
pub first-at : {A : Type 0} (actors : List (Actor A)) (place : ℕ) (actor : Actor A) (first : Standing Entry) → place < length actors → actor ≡ get_or actors place actor → slice_get (passes_of actors) place ≡ Some first → actor.pass ≡ first
first-at actors place actor first within read numbered = same_Some actor.pass first (sym (pass-at actors place actor (slice_get_read actors (length actors) place actor refl within read)) ∙ numbered)
