use Rattle.std.proofs.Common.{◌≡◌, take}
use Rattle.dist_line_write.specs.Words.{words_of}
use Rattle.dist_line_write.proofs.words.words_of.Given as goal

abbrev pub invariant-loop-literal : goal.invariant-loop-literal
invariant-loop-literal l = l.words.items ≡ words_of (take l.literal-index l.clause)
