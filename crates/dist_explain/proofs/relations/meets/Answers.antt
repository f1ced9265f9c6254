use Rattle.std.proofs.Common.{arith}
use Rattle.dist_relation.specs.declared.atom.Atom.{Atom}
use Rattle.dist_repo.specs.Match.{Matches}
use Rattle.dist_now.specs.NoneAskedLaws.{none-asked-any}
use Rattle.dist_now.specs.WithinLaws.{matches-within}
use Rattle.dist_explain.proofs.relations.meets.Goals as goal

pub returns : goal.returns
returns c = (
  λ is. cc,
  λ any. absurd (none-asked-any (λ (atom : Atom). Matches c.args.repo.now.architecture atom c.args.«package».now) c.args.alternatives.now
      c.args.asked.now c.loop-place.place
      (λ atom other within matches. matches-within c.args.repo.now.architecture atom other c.args.«package».now within matches)
      (let e = c.len-place-end.ensures.value in omega (arith, e, c.loop-place-test.false)) c.requires.enough c.loop-place.invariant any),
)
