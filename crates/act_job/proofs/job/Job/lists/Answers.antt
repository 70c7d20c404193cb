use Rattle.std.proofs.Common.{subst}
use Rattle.act_job.specs.Job.{IsRunnable, Job}
use Rattle.act_job.proofs.job.Job.lists.Goals as goal

pub returns-clause-ready : goal.returns-clause-ready
returns-clause-ready c = subst (λ (job : Job). IsRunnable job.portfolio job.scripts job.workers) c.self.view_is c.self.invariant
