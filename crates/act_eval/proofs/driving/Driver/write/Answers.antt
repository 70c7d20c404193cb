use Rattle.std.proofs.Common.{ℕ, sym, subst}
use Rattle.act_transcript.specs.KnownLines.{AreKnownAt}
use Rattle.act_eval.proofs.driving.Driver.write.Goals as goal

pub write_known-requires-clause-known : goal.write_known-requires-clause-known
write_known-requires-clause-known g c = subst (λ (v : ℕ). AreKnownAt c.args.self.now.board v c.args.self.now.blocks) (sym c.requires.version) c.requires.known.known
