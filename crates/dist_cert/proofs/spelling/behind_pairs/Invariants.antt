use Rattle.std.proofs.Common.{length}
use Rattle.dist_cert.specs.Form.{pair_words, words_text}
use Rattle.dist_cert.proofs.SpellingLemmas.{IsPassed}
use Rattle.dist_cert.proofs.spelling.behind_pairs.Given as goal

-- the words before those that are left were passed
abbrev pub invariant-loop-left : goal.invariant-loop-left
invariant-loop-left l = IsPassed l.text (words_text (pair_words l.pairs)) l.rest (words_text (pair_words l.left))

abbrev pub decreases-loop-left : goal.decreases-loop-left
decreases-loop-left l = length l.left
