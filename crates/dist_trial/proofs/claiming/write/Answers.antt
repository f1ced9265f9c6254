use Rattle.std.proofs.Common.{codes, false, subst, sym}
use Rattle.dist_base.specs.declared.TheConstants.{DEFAULT_LIMIT}
use Rattle.dist_cert.specs.declared.records.CertKind.{CertKind}
use Rattle.dist_outside.specs.Memory.{desk_view}
use Rattle.dist_sweep.specs.Sweep.{SweepAnswers}
use Rattle.dist_trial.proofs.claiming.write.Goals as goal

pub returns-in-Outdated-clause-answers : goal.returns-in-Outdated-clause-answers
returns-in-Outdated-clause-answers c =
    subst (λ (kind : CertKind). SweepAnswers c.args.repo.now kind false DEFAULT_LIMIT c.args.limits.now (codes "certificate") (desk_view c.args.desk.now)
    (desk_view c.outdated.new.desk) c.outdated.result) (sym c.in-Outdated.is) c.outdated.ensures.answers

pub returns-in-Challenged-clause-answers : goal.returns-in-Challenged-clause-answers
returns-in-Challenged-clause-answers c =
    subst (λ (kind : CertKind). SweepAnswers c.args.repo.now kind false DEFAULT_LIMIT c.args.limits.now (codes "certificate") (desk_view c.args.desk.now)
    (desk_view c.challenged.new.desk) c.challenged.result) (sym c.in-Challenged.is) c.challenged.ensures.answers
