use Rattle.std.proofs.Common.{◌≢◌, subst, sym}
use Rattle.std.specs.Prelude.{IfErr, OnOk}
use Rattle.dist_archive.specs.AnswersPrivate.{IsNeverRefused, IsOnlyRefusal}
use Rattle.dist_archive.specs.Refusals.{Refuses}
use Rattle.dist_archive.specs.declared.step.Step.{Step}
use Rattle.dist_archive.specs.declared.step.StepError.TheVariants.{NoMemory}
use Rattle.dist_archive.proofs.archive.Archive.take.Goals as goal

pub returns-in-Upload-clause-refused : goal.returns-in-Upload-clause-refused
returns-in-Upload-clause-refused c =
    subst (λ (x : Step). IfErr c.upload.result (λ error. error ≢ NoMemory → IsOnlyRefusal (Refuses c.args.self.now.space c.args.self.now.packages x) error))
    (sym c.in-Upload.is) c.upload.ensures.refused

pub returns-in-Upload-clause-accepted : goal.returns-in-Upload-clause-accepted
returns-in-Upload-clause-accepted c =
    subst (λ (x : Step). OnOk c.upload.result (IsNeverRefused (Refuses c.args.self.now.space c.args.self.now.packages x))) (sym c.in-Upload.is)
    c.upload.ensures.accepted
