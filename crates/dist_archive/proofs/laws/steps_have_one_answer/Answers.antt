use Rattle.dist_archive.proofs.GrowLemmas.{refuses-like}
use Rattle.dist_archive.proofs.OneLemmas.{made-alike, refusal-one}
use Rattle.dist_archive.proofs.laws.steps_have_one_answer.Goals as goal

pub returns-clause-one : goal.returns-clause-one
returns-clause-one c = λ s archive step error other space first second. refusal-one s space.frame archive step error other first second

pub returns-clause-same : goal.returns-clause-same
returns-clause-same c = λ s old other step error same refused. refuses-like s step old other error same refused

pub returns-clause-made : goal.returns-clause-made
returns-clause-made c = λ s old other new newer step space same first second. made-alike s space.frame old other new newer step same first second
