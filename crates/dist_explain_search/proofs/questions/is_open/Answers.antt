use Rattle.dist_explain_search.proofs.QuestionLemmas.{open-by}
use Rattle.std.proofs.Common.{◌∙◌, sym}
use Rattle.dist_explain_search.proofs.questions.is_open.Goals as goal

pub returns-then-has : goal.returns-then-has
returns-then-has c =
    open-by c.args.core.now c.args.done.now c.args.one c.contains.result (sym c.has.ensures ∙ c.if-has.true) c.contains.ensures.value
