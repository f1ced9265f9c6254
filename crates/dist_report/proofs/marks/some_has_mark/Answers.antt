use Rattle.std.proofs.Common.{◌∙◌, sym}
use Rattle.dist_report.proofs.MarkLemmas.{marked}
use Rattle.dist_report.proofs.marks.some_has_mark.Goals as goal

pub returns-then-has_mark : goal.returns-then-has_mark
returns-then-has_mark c = marked c.args.claims.now c.loop-place.place c.get.result.now c.get.ensures (sym c.has_mark.ensures ∙ c.if-has_mark.true)
