use Rattle.std.proofs.Common.{rules}
use Rattle.act_date.proofs.WrittenDays.{read_back}
use Rattle.act_date.proofs.day.Day.write.Goals as goal

pub returns-clause-read_back : goal.returns-clause-read_back
returns-clause-read_back c = read_back _ c.args.self (search rules) (search rules)
