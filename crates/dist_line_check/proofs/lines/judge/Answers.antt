use Rattle.std.proofs.Common.{sym, ◌∙◌}
use Rattle.dist_line_check.proofs.LineLemmas.{told-common, told-own}
use Rattle.dist_line_check.proofs.lines.judge.Goals as goal

pub returns-then-is_common-clause-told : goal.returns-then-is_common-clause-told
returns-then-is_common-clause-told g c =
    told-common (g.K.Kind.files c.args.kind.now) c.laws.ensures c.args.kept.now.checker c.args.kept.now.notes c.args.step.now
    (sym c.is_common.ensures ∙ c.if-is_common.true) c.judge.result c.judge.ensures.told

pub returns-else-is_common-clause-told : goal.returns-else-is_common-clause-told
returns-else-is_common-clause-told g c =
    told-own (g.K.Kind.files c.args.kind.now) c.args.kept.now.checker c.args.kept.now.notes c.args.step.now c.judge_claim.result c.judge_claim.ensures
