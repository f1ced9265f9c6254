use Rattle.std.proofs.Common.{◌≡◌, ◌++◌, length}
use Rattle.dist_cert.specs.DecodedPrivate as of
use Rattle.dist_cert.proofs.loose_words.Words.numbers.Given as goal

-- the numbers so far, and those of the words left, are all
abbrev pub invariant-loop-word : goal.invariant-loop-word
invariant-loop-word l = record {
  read : l.list ++ of.numbers (of.before l.self) ≡ of.numbers (of.before l.initial.self);
  behind : of.after l.self ≡ of.after l.initial.self;
}

abbrev pub decreases-loop-word : goal.decreases-loop-word
decreases-loop-word l = length l.self
