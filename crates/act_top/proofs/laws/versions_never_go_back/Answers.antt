use Rattle.act_top.proofs.Versions.{versions-never-go-back}
use Rattle.act_top.proofs.laws.versions_never_go_back.Goals as goal

pub returns : goal.returns
returns c = versions-never-go-back
