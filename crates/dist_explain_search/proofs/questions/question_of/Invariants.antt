use Rattle.std.proofs.Common.{◌≡◌, take}
use Rattle.dist_explain_search.specs.SearchPrivate.{question_of}
use Rattle.dist_explain_search.proofs.questions.question_of.Given as goal

abbrev pub invariant-loop-number : goal.invariant-loop-number
invariant-loop-number l = l.question.items ≡ question_of l.asked (take l.number-index l.numbers)
