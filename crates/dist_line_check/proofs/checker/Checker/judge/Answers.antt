use Rattle.std.proofs.Common.{List, ℕ, subst, sym}
use Rattle.dist_cert.specs.declared.records.CertRecord.{CertRecord}
use Rattle.dist_cert.specs.Form.{Word}
use Rattle.dist_line_check.specs.Checker.{CheckerView, Tells, TellsInstallation, TellsQuestion}
use Rattle.dist_line_check.proofs.checker.Checker.judge.Goals as goal

pub returns-in-Question-clause-told : goal.returns-in-Question-clause-told
returns-in-Question-clause-told c =
    let found = c.judge_question.result in
    subst (λ (step : CertRecord). Tells c.args.self.now step found) (sym c.in-Question.is)
    (subst (λ (s : CheckerView). TellsQuestion s.log.variables c.in-Question.literals found) c.self.view_is
    (subst (λ (literals : List Word). TellsQuestion c.self.inside.log.variables literals found) c.as_slice.ensures c.judge_question.ensures))

pub returns-in-Installation-clause-told : goal.returns-in-Installation-clause-told
returns-in-Installation-clause-told c =
    let found = c.judge_installation.result in
    subst (λ (step : CertRecord). Tells c.args.self.now step found) (sym c.in-Installation.is)
    (subst (λ (s : CheckerView). TellsInstallation s.log s.future c.in-Installation.variables found) c.self.view_is
    (subst (λ (variables : List ℕ). TellsInstallation c.self.inside.log c.self.inside.future variables found) c.as_slice-in-Installation.ensures
    c.judge_installation.ensures.told))
