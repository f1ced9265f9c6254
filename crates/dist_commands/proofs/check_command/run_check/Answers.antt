use Rattle.dist_commands.specs.Check.{CertificateStage, Reports}
use Rattle.dist_commands.specs.Stages.{Then}
use Rattle.dist_commands.proofs.Due.{ok_more, err_more}
use Rattle.dist_commands.proofs.HealthStages.{packages_answers, packages_due}
use Rattle.dist_commands.proofs.check_command.run_check.Goals as goal

pub returns-in-Ok-clause-answers : goal.returns-in-Ok-clause-answers
returns-in-Ok-clause-answers g c =
    ok_more c.judge_certificate-answer.result _ _ (λ answer. packages_answers
    (λ files repository. Then (CertificateStage files c.args.limits.now c.args.files.now.cert.now repository) (Reports files repository))
    (g.D.Desk.view c.args.desk.now) (g.D.Desk.view c.read_repository.new.desk) c.args.limits.now
    c.args.files.now.packages.now c.in-Ok.repository answer.status answer.text.items c.in-Ok.ensures.only_reads c.in-Ok.ensures.goes)
    c.judge_certificate-answer.ensures.answers

pub returns-in-Ok-clause-due : goal.returns-in-Ok-clause-due
returns-in-Ok-clause-due g c =
    err_more c.judge_certificate-answer.result _ _ (λ refusal. packages_due
    (λ files repository. Then (CertificateStage files c.args.limits.now c.args.files.now.cert.now repository) (Reports files repository))
    (g.D.Desk.view c.args.desk.now) (g.D.Desk.view c.read_repository.new.desk) (g.D.Desk.view c.judge_certificate-answer.new.desk) c.args.limits.now
    c.args.files.now.packages.now c.in-Ok.repository refusal c.in-Ok.ensures.only_reads c.judge_certificate-answer.ensures.only_reads c.in-Ok.ensures.goes)
    c.judge_certificate-answer.ensures.due
