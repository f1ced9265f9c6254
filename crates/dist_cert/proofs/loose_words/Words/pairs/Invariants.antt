use Rattle.std.proofs.Common.{◌≡◌, ◌++◌, length}
use Rattle.dist_cert.specs.DecodedPrivate as of
use Rattle.dist_cert.proofs.loose_words.Words.pairs.Given as goal

-- the pairs so far, and those of the words left, are all
abbrev pub invariant-loop-first : goal.invariant-loop-first
invariant-loop-first l = record {
  read : l.list ++ of.pairs (of.before l.self) ≡ of.pairs (of.before l.initial.self);
  behind : of.after l.self ≡ of.after l.initial.self;
}

abbrev pub decreases-loop-first : goal.decreases-loop-first
decreases-loop-first l = length l.self
