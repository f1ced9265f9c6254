use Rattle.dist_explain.specs.ExplanationFiles.{asked_by}
use Rattle.dist_explain.proofs.explaining.ExplainingAnswering.is_decided.Goals as goal

pub returns : goal.returns
returns c = λ numbers found notes. c.is_decided.ensures (asked_by numbers) found notes
