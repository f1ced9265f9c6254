use Rattle.dist_subject.specs.Basis.{matter_of}
use Rattle.dist_judge.specs.WholeLaws.{whole_faultless}
use Rattle.dist_subject.specs.Certificates.{certificates_of}
use Rattle.dist_check.proofs.ClearKind.{clear-kind}
use Rattle.dist_check.proofs.Hard.{within-bound}
use Rattle.dist_check.proofs.laws.undecided_questions_are_hard.Goals as goal

pub returns : goal.returns
returns c = λ r basis limits text h steps question cone whole closed exact.
    within-bound c.new_lines_are_few.ensures (matter_of r basis) h steps
    (whole_faultless (certificates_of r) (clear-kind c.forms_are_clear.ensures r) basis limits text h steps whole) question closed cone exact
