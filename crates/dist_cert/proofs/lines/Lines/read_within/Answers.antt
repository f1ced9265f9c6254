use Rattle.std.proofs.Common.{ap, subst, length, ◌-◌}
use Rattle.dist_cert.specs.LineReadingPrivate.{IsJudged}
use Rattle.dist_cert.proofs.LineEnds.{ends, judged, judged_some}
use Rattle.dist_cert.proofs.lines.Lines.read_within.Goals as goal

pub returns-clause-text : goal.returns-clause-text
returns-clause-text g c =
    ends _ c.read_piece.new.self _ _ _ c.in_ok-reached.ensures.text (λ rest more e whole.
    judged c.args.limits.now c.args.given c.requires.within c.args.self.now c.read_piece.new.self c.in_ok-reached.ensures.one_line c.in_ok-reached.reached
    c.in_ok-reached.ensures.reached
    _ (subst (λ n. IsJudged c.args.limits.now (c.args.limits.now.certificate - c.args.given) n c.in_ok-reached.reached c.judge.result)
    (ap length c.line.ensures) c.judge.ensures) rest more e whole)

pub returns-clause-some : goal.returns-clause-some
returns-clause-some g c =
    judged_some c.args.limits.now c.args.given c.requires.within c.args.self.now c.read_piece.new.self c.in_ok-reached.ensures.one_line c.in_ok-reached.reached
    c.in_ok-reached.ensures.reached
    c.judge.result (subst (λ n. IsJudged c.args.limits.now (c.args.limits.now.certificate - c.args.given) n c.in_ok-reached.reached c.judge.result)
    (ap length c.line.ensures) c.judge.ensures)
