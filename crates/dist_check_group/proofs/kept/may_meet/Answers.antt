use Rattle.std.proofs.Common.{◌∙◌, sym}
use Rattle.std.proofs.lemmas.Bool.{false≢true}
use Rattle.dist_check_group.proofs.KeptLemmas.{apart}
use Rattle.dist_check_group.proofs.kept.may_meet.Goals as goal

pub returns-else-len : goal.returns-else-len
returns-else-len c = λ is. apart c.args.row.now c.args.others.now (λ both. false≢true (sym is ∙ c.meets.ensures.1 both))
