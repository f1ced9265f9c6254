use Rattle.dist_explain_search.proofs.QuestionLemmas.{range-more}
use Rattle.std.proofs.Common.{◌+◌, ◌∙◌, List, ℕ, [], ◌∷◌, ◌++◌, ap}
use Rattle.dist_explain_search.proofs.questions.all_numbers.Goals as goal

pub loop-place-preserved : goal.loop-place-preserved
loop-place-preserved c =
    c.in_ok-push.ensures.items ∙ ap (λ (ns : List ℕ). ns ++ (c.loop-place.place + 1) ∷ []) c.loop-place.invariant ∙ range-more c.loop-place.place
