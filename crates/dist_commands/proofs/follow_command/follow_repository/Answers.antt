use Rattle.dist_commands.specs.Check.{CertificateStage}
use Rattle.dist_commands.proofs.Chains.{chain-answers, chain-due, chain-unread}
use Rattle.dist_commands.proofs.Due.{ok_more, err_more}
use Rattle.dist_commands.specs.FollowPrivate.{AfterCertificate}
use Rattle.dist_commands.proofs.follow_command.follow_repository.Goals as goal

pub returns-in-Ok-clause-answers : goal.returns-in-Ok-clause-answers
returns-in-Ok-clause-answers g c =
    ok_more c.follow_accepted-answer.result _ _ (λ answer. chain-answers
    (λ files. CertificateStage files c.args.limits.now c.args.files.now.cert.now c.args.repository)
    (AfterCertificate c.args.limits.now c.args.files.now.journal.now c.args.repository)
    (g.D.Desk.view c.args.desk.now) (g.D.Desk.view c.accept.new.desk) c.in-Ok.ensures.only_reads (c.in-Ok.accepted.header, c.in-Ok.accepted.claims)
    c.in-Ok.ensures.goes answer.status answer.text.items) c.follow_accepted-answer.ensures.answers

pub returns-in-Ok-clause-due : goal.returns-in-Ok-clause-due
returns-in-Ok-clause-due g c =
    err_more c.follow_accepted-answer.result _ _ (λ refusal. chain-due
    (λ files. CertificateStage files c.args.limits.now c.args.files.now.cert.now c.args.repository)
    (AfterCertificate c.args.limits.now c.args.files.now.journal.now c.args.repository)
    (g.D.Desk.view c.args.desk.now) (g.D.Desk.view c.accept.new.desk) c.in-Ok.ensures.only_reads (c.in-Ok.accepted.header, c.in-Ok.accepted.claims)
    c.in-Ok.ensures.goes (g.D.Desk.view c.follow_accepted-answer.new.desk) refusal c.follow_accepted-answer.ensures.only_reads)
    c.follow_accepted-answer.ensures.due

pub returns-in-Err-clause-due : goal.returns-in-Err-clause-due
returns-in-Err-clause-due g c =
    chain-unread (λ files. CertificateStage files c.args.limits.now c.args.files.now.cert.now c.args.repository)
    (AfterCertificate c.args.limits.now c.args.files.now.journal.now c.args.repository)
    (g.D.Desk.view c.args.desk.now) (g.D.Desk.view c.accept.new.desk) c.in-Err.refusal c.in-Err.ensures.due
