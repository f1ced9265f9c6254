use Rattle.std.proofs.lemmas.Bool.{false≢true}
use Rattle.dist_now.specs.Members.{members_of}
use Rattle.dist_now.proofs.MemberLemmas.{unusable-none}
use Rattle.dist_now.proofs.members.is_alternative_met.Goals as goal

pub returns-then-not-usable : goal.returns-then-not-usable
returns-then-not-usable c = (
  λ is. cc,
  λ any. absurd (unusable-none c.args.repo.now.architecture c.args.atom.now (members_of c.args.repo.now.packages c.args.members.now)
      (λ usable. false≢true (c.if-not-usable.ensures.1 usable)) any),
)
