use Rattle.std.proofs.Common.{◌≡◌, ◌++◌, take}
use Rattle.dist_cert.specs.Form.{words_text, pair_words}
use Rattle.dist_cert.proofs.line_text.add_pairs.Given as goal

-- what is before the place was added
abbrev pub invariant-loop-pair : goal.invariant-loop-pair
invariant-loop-pair l = l.text.items ≡ l.fn.text.items ++ words_text (pair_words (take l.pair-index l.pairs))
