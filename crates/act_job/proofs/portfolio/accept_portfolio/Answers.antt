use Rattle.act_engine.proofs.Reading.{want_at_once}
use Rattle.act_job.specs.Reading.{portfolio_accepted}
use Rattle.act_job.proofs.Reading.{portfolio-refused, portfolio-there}
use Rattle.act_job.proofs.portfolio.accept_portfolio.Goals as goal

pub returns-in-Ok : goal.returns-in-Ok
returns-in-Ok c = λ world. portfolio-there c.args.bytes.now c.in-Ok.portfolio world c.in-Ok.ensures.accepted

pub returns-in-Err-Refused : goal.returns-in-Err-Refused
returns-in-Err-Refused c = λ world.
    portfolio-refused c.args.bytes.now (record { number = c.in-Err-Refused.number; place = c.in-Err-Refused.place; what = c.in-Err-Refused.what.items }) world
    (rw c.in-Err-Refused.field-0-is at c.in-Err-Refused.ensures.refused)

pub returns-in-Err-NoMemory : goal.returns-in-Err-NoMemory
returns-in-Err-NoMemory c = λ world. want_at_once (portfolio_accepted c.args.bytes.now) world
