use Rattle.std.proofs.Common.{ℕ, ◌+◌, ◌<◌, length, get_or, Option, subst, sym, refl}
use Rattle.std.specs.Prelude.{Contains}
use Rattle.std.proofs.lemmas.Bool.{false≢true}
use Rattle.std.proofs.lemmas.List.{get_or_default}
use Rattle.dist_base.specs.Least.{IsLeastIfAny}
use Rattle.dist_base.specs.ListLaws.{within-from}
use Rattle.dist_repo.specs.Providers.{IsProvider}
use Rattle.dist_space_clauses.specs.GatheringPrivate.{IsLaterOf}
use Rattle.dist_future.specs.MatchingPrivate.{IsMovedBut}
use Rattle.dist_future.proofs.FoundLemmas.{OneOf, moved-one, moved-provided, none-moved, providers-all}
use Rattle.dist_future.proofs.Leasts.{Before, least-more, least-skip}
use Rattle.dist_future.proofs.found.moved_found.Goals.{then-not-is_left_out, else-not-is_left_out}
use Rattle.dist_future.proofs.found.moved_found.Goals as goal

pub loop-number-preserved : goal.loop-number-preserved
loop-number-preserved c =
    let s = c.args.space.now in
    let values = c.args.members.now in
    let atom = c.args.atom.now in
    let i = c.loop-number.number-index in
    let One : ℕ → ℕ → Type 0 = OneOf s values atom IsLaterOf (IsMovedBut c.args.but) c.args.providers.now in
    let Of : Option ℕ → Type 0 = IsLeastIfAny (Before One (i + 1)) in
    elim c.if-not-is_left_out.branch [
      | then-not-is_left_out w ↦ subst Of (sym w.least-is)
          (least-more One i c.loop-number.least w.member_found.result w.lesser-least.result w.lesser-least.ensures c.loop-number.invariant
          (moved-one s values atom c.args.but c.args.providers.now i w.member_found.result (λ is. false≢true (w.if-not-is_left_out.ensures.1 is))
          w.member_found.ensures))
      | else-not-is_left_out w ↦ subst Of (sym w.least-is) (least-skip One i c.loop-number.least
          (λ v. none-moved s values atom c.args.but c.args.providers.now i v (w.if-not-is_left_out.ensures.0 refl)) c.loop-number.invariant)
    ]

pub returns : goal.returns
returns c =
    providers-all c.args.space.now c.args.members.now c.args.atom.now IsLaterOf (IsMovedBut c.args.but) c.args.providers.now c.loop-number.number-index
    c.loop-number.least c.requires.providers c.loop-number-test.false
    (moved-provided c.args.space.now c.args.members.now c.args.atom.now c.args.but) c.loop-number.invariant

provider-within : (c : goal.Then-not-is_left_out) → get_or c.args.providers.now c.loop-number.number-index 0 < length c.args.space.now.repository.packages
provider-within c =
    let there : Contains c.args.providers.now (get_or c.args.providers.now c.loop-number.number-index 0) = (
      c.loop-number.number-index,
      c.loop-number-test.true,
      get_or_default c.args.providers.now c.loop-number.number-index
          (get_or c.args.providers.now c.loop-number.number-index 0) 0 c.loop-number-test.true,
    ) in
    within-from (IsProvider c.args.space.now.repository.architecture c.args.atom.now.name) c.args.space.now.repository.packages
    (get_or c.args.providers.now c.loop-number.number-index 0)
    ((c.requires.providers.exact (get_or c.args.providers.now c.loop-number.number-index 0)).0 there)

pub member_found-requires-clause-member : goal.member_found-requires-clause-member
member_found-requires-clause-member c = provider-within c
