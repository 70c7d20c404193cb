-- The blocks that one thread has of a board.
use Rattle.std.proofs.Common.{◌≡◌, ℕ, List, length, take, inl, inr, sym, ap, subst, ◌∙◌, arith}
use Rattle.std.proofs.lemmas.Bool.{cases_eq}
use Rattle.act_history.specs.History.{History, entries_of, version_of}
use Rattle.act_model.specs.Names.{NameLists}
use Rattle.act_model.specs.Run.{Stream}
use Rattle.act_model.specs.declared.observed.Obs.{Obs}
use Rattle.act_portfolio.specs.Reading.{Accepted}
use Rattle.act_profile.specs.Run.{run_of}
use Rattle.act_transcript.specs.KnownLines.{AreBlocksOf, AreOnesOf, IsKnown, IsPut}
use Rattle.act_transcript.specs.declared.blocks.Blocks.{Blocks}
use Rattle.act_transcript.proofs.KnownLines.{kept-later}
use Rattle.act_eval.specs.Driven.{HasKnown}

-- a contract's run over all entries of a board
abbrev pub run-now : History → ℕ → Stream
run-now board c = run_of board.portfolio.contracts (take (version_of board) (entries_of board)) c

-- blocks of a board are of one with the same portfolio and entries
pub blocks-same : (before after : History) (blocks : Blocks) → after.portfolio ≡ before.portfolio → entries_of after ≡ entries_of before → HasKnown before blocks → HasKnown after blocks
blocks-same before after blocks portfolio entries are = record {
  named = are.named;
  written = are.written;
  known = λ c. subst (λ (run : Stream). IsKnown blocks.known.items blocks.kept.items c run)
      (ap (λ (p : Accepted). run_of p.contracts (take (version_of before) (entries_of before)) c) (sym portfolio) ∙ ap (λ (es : List Obs). run_of after.portfolio.contracts (take (length es) es) c) (sym entries))
      (are.known c);
}

-- and of one whose book goes on
pub blocks-later : (before after : History) (blocks : Blocks) → after.portfolio ≡ before.portfolio → take (version_of before) (entries_of after) ≡ entries_of before → AreBlocksOf before blocks → AreBlocksOf after blocks
blocks-later before after blocks portfolio goes_on are = record {
  named = are.named;
  written = are.written;
  at = kept-later before after blocks.kept.items blocks.at portfolio goes_on are.at;
}

-- blocks of a board, once that of a contract was put together, or nothing was
pub blocks-put : (board : History) (before after : Blocks) (c : ℕ) → HasKnown board before → AreOnesOf before after → IsPut c (run-now board c) before after → HasKnown board after
blocks-put board before after c are ones put = record {
  named = omega (arith, are.named, ones.count, ap (λ (n : NameLists). length n.contracts) ones.names);
  written = ones.written;
  known = λ d. elim (cases_eq d c) [
    | inl same ↦ subst (λ (e : ℕ). IsKnown after.known.items after.kept.items e (run-now board e)) (sym same) put.this
    | inr other ↦ λ cut is.
        let was = are.known d cut (sym (put.others d other).0 ∙ is) in
        (was.0, λ lines here. was.1 lines (sym (put.others d other).1 ∙ here))
  ];
}
