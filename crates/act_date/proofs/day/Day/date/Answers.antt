use Rattle.std.proofs.Common.{rules}
use Rattle.act_date.proofs.CivilLemmas.{civil_of-date}
use Rattle.act_date.proofs.day.Day.date.Goals as goal

pub returns-clause-same : goal.returns-clause-same
returns-clause-same c = (civil_of-date c.from_plain.result c.args.self (search rules) (search rules)).0

pub returns-clause-date : goal.returns-clause-date
returns-clause-date c = (civil_of-date c.from_plain.result c.args.self (search rules) (search rules)).1
