use Rattle.std.proofs.Common.{◌≤◌, Result, IfErr, arith}
use Rattle.dist_outside.specs.DeskView.{DeskView}
use Rattle.dist_outside.specs.declared.trouble.WorkError.{WorkError}
use Rattle.dist_outside.specs.declared.trouble.WorkError.TheVariants.{NoMemory}
use Rattle.dist_cert.specs.ClaimRules.{yes}
use Rattle.dist_line_write.specs.ScriptLaws.{by-exit}
use Rattle.dist_sweep.specs.Asking.{AskStops}
use Rattle.dist_sweep.specs.ScriptLaws.{stops-for-memory}
use Rattle.dist_sweep.specs.declared.asking.Reply.{Reply}
use Rattle.dist_challenge.specs.GroupPrivate.{together}
use Rattle.dist_challenge.proofs.challenged_claimant.ChallengedClaimant.ask_today.Goals as goal

pub guess-requires-clause-from_one : goal.guess-requires-clause-from_one
guess-requires-clause-from_one g c = c.requires.question.form.0 1 (yes 1) (omega arith)

pub guess-requires-clause-upto : goal.guess-requires-clause-upto
guess-requires-clause-upto g c =
    let upto : c.args.present ≤ c.args.asker.now.log.variables = c.requires.question.upto 1 (yes 1) (omega arith) in
    let all = c.requires.all in
    omega (arith, upto, all)

pub returns-in_err-guess-clause-err : goal.returns-in_err-guess-clause-err
returns-in_err-guess-clause-err g c =
    let old : DeskView = g.D.Desk.view c.args.desk.now in
    by-exit (λ (r : Result Reply WorkError). IfErr r (AskStops c.args.asker.now (together 1 c.args.present) old old))
    c.from_residual.result NoMemory c.from_residual.ensures.1
    (λ s before at next. stops-for-memory s before c.args.asker.now.writer old old at.writer (c.file_grows.ensures.begin old))
