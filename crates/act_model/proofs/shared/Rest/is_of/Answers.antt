use Rattle.act_model.specs.Chunk.{rest_of}
use Rattle.act_model.proofs.Slims.{same_rest}
use Rattle.act_model.proofs.shared.Rest.is_of.Goals as goal

pub returns : goal.returns
returns c e =
    same_rest c.args.self.now (rest_of c.args.state.now)
    (rw (← c.eq.ensures) (rw (← c.eq-2.ensures) (rw (← c.eq-3.ensures) (rw (← c.eq-4.ensures) (rw (← c.eq-5.ensures) (rw (← c.eq-6.ensures) (rw (← c.eq-7.ensures) (rw (← c.eq-8.ensures) e))))))))
