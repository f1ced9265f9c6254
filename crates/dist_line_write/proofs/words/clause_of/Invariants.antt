use Rattle.std.proofs.Common.{◌≡◌, take}
use Rattle.dist_cert.specs.Groups.{clause_of}
use Rattle.dist_line_write.proofs.words.clause_of.Given as goal

abbrev pub invariant-loop-word : goal.invariant-loop-word
invariant-loop-word l = l.clause.items ≡ clause_of (take l.word-index l.words)
