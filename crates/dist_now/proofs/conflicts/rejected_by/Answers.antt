use Rattle.std.proofs.Common.{ℕ, List, subst}
use Rattle.std.proofs.lemmas.Bool.{false≢true}
use Rattle.dist_repo.specs.Providers.{AreProviders}
use Rattle.dist_now.proofs.RejectedLemmas.{unusable-rejected}
use Rattle.dist_now.proofs.conflicts.rejected_by.Goals as goal

pub returns-then-not-usable : goal.returns-then-not-usable
returns-then-not-usable c =
    unusable-rejected c.args.repo.now c.args.members.now c.args.number c.args.atom.now (λ usable. false≢true (c.if-not-usable.ensures.1 usable))

pub rejected_provider-requires-clause-providers : goal.rejected_provider-requires-clause-providers
rejected_provider-requires-clause-providers c =
    subst (λ (name : List ℕ). AreProviders c.args.repo.now name c.providers-providers.result.now) c.bytes.ensures.value c.providers-providers.ensures
