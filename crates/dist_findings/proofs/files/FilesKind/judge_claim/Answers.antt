use Rattle.std.proofs.Common.{sym, subst, ◌∙◌}
use Rattle.std.proofs.lemmas.Bool.{true≢false}
use Rattle.dist_cert.specs.declared.records.CertRecord.{CertRecord}
use Rattle.dist_line_check.specs.Kinds.{TellsOwn}
use Rattle.dist_findings.specs.AnswerLines.{answer_lines}
use Rattle.dist_findings.proofs.AnswerNotes.{at-the-end, wrong-claim}
use Rattle.dist_findings.proofs.files.FilesKind.judge_claim.Goals as goal

pub returns-then-is_end : goal.returns-then-is_end
returns-then-is_end g c =
    let answering = c.args.self.now.answering.now in
    let file = g.A.Answering.file answering in
    let noted = g.A.Answering.noted answering in
    subst (λ (step : CertRecord). TellsOwn (answer_lines file noted) c.args.notes.now step c.judge_end.result) (sym (c.is_end.ensures.0 c.if-is_end.true))
    (at-the-end file noted c.args.notes.now c.is_decided.result c.is_decided.ensures c.judge_end.result c.judge_end.ensures)

pub returns-else-is_end : goal.returns-else-is_end
returns-else-is_end g c =
    let answering = c.args.self.now.answering.now in
    wrong-claim (g.A.Answering.file answering) (g.A.Answering.noted answering) c.args.notes.now c.args.step.now c.requires.own
    (λ e. true≢false (sym (c.is_end.ensures.1 e) ∙ c.if-is_end.false))
