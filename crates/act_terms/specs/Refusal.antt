-- A term that is refused. This profile's own.
use Rattle.std.specs.Prelude.{ℕ, List}
use Rattle.act_terms.specs.declared.fault.TermCause.{TermCause}

-- a term that is refused, and why; of a contract that is no object the term is `-`
pub record RefusedTerm : Type 0 where
  pub cause : TermCause
  pub term : List ℕ
