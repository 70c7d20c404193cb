-- Scripts that may be played.
use Rattle.std.proofs.Common.{List, [], ◌∷◌, arith}
use Rattle.std.proofs.lemmas.List.Elements.{All-cons, All-nil}
use Rattle.std.proofs.lemmas.List.Sums.{count_by-le-length}
use Rattle.act_accepted.specs.Accepted.{Accepted}
use Rattle.act_desk.specs.Making.{appends, asks}
use Rattle.act_model.specs.declared.journal.Line.{Line}
use Rattle.act_session.specs.Playing.{ArePlayable, IsPlayable}
use Rattle.cases_desks.specs.Script.{IsShort}

module _ (of : Accepted) where
  playable : (lines : List Line) → IsShort of lines → IsPlayable of lines
  playable lines is = record {
    few = omega (arith, is.few, count_by-le-length asks lines);
    entries = is.entries;
    known = is.known;
  }

  pub one-playable : (one : List Line) → IsShort of one → ArePlayable of (one ∷ [])
  one-playable one is = record {
    some = omega arith;
    few = omega arith;
    fits = omega (arith, is.few, count_by-le-length appends one);
    each = All-cons (IsPlayable of) one [] (playable one is) (All-nil (IsPlayable of));
  }

  pub two-playable : (one two : List Line) → IsShort of one → IsShort of two → ArePlayable of (one ∷ two ∷ [])
  two-playable one two is other = record {
    some = omega arith;
    few = omega arith;
    fits = omega (arith, is.few, other.few, count_by-le-length appends one, count_by-le-length appends two);
    each = All-cons (IsPlayable of) one (two ∷ []) (playable one is) (All-cons (IsPlayable of) two [] (playable two other) (All-nil (IsPlayable of)));
  }
