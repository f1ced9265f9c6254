use Rattle.std.proofs.Common.{◌≡◌, take}
use Rattle.dist_explain_search.specs.SearchPrivate.{others_of}
use Rattle.dist_explain_search.proofs.questions.all_but.Given as goal

abbrev pub invariant-loop-number : goal.invariant-loop-number
invariant-loop-number l = l.others.items ≡ others_of (take l.number-index l.numbers) l.one
