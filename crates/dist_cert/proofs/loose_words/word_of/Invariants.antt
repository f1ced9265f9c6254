use Rattle.std.proofs.Common.{◌≡◌, drop, true}
use Rattle.dist_cert.specs.LooseWords.{words_from}
use Rattle.dist_cert.proofs.loose_words.word_of.Given as goal

-- the words of the bytes behind, with the word so far, are all
abbrev pub invariant-loop-i : goal.invariant-loop-i
invariant-loop-i l = words_from (0, true) l.bytes ≡ words_from l.word (drop l.i l.bytes)
