use Rattle.std.proofs.Common.{◌≡◌, ◌++◌, map, length}
use Rattle.dist_cert.proofs.first_lines.all_numbers.Given as goal

abbrev pub invariant-loop-word : goal.invariant-loop-word
invariant-loop-word l = map (λ word. word.0) l.fn.words ≡ l.numbers.items ++ map (λ word. word.0) l.words

abbrev pub decreases-loop-word : goal.decreases-loop-word
decreases-loop-word l = length l.words
