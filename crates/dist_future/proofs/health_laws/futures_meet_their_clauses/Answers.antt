use Rattle.dist_future.proofs.ClassMatch.{ClassLaws}
use Rattle.dist_future.proofs.DemandLemmas.{future-from, future-true}
use Rattle.dist_future.proofs.HealthLemmas.{future-met, no-pair}
use Rattle.dist_future.proofs.ModelToFuture.{future-is}
use Rattle.dist_future.specs.SpaceLaws.{examples_of, holds_under}
use Rattle.dist_future.proofs.health_laws.futures_meet_their_clauses.Goals as goal

pub returns-clause-exactly : goal.returns-clause-exactly
returns-clause-exactly c = λ s values. (
  λ never. future-true s values (future-met s values never),
  λ meets. no-pair s values (future-from s values (λ d clause here of is only. meets d clause here of is)),
)

pub returns-clause-future : goal.returns-clause-future
returns-clause-future c = λ s values space meets.
    let laws : ClassLaws = record {
      above = c.versions_are_in_one_class.ensures.above;
      below = c.versions_are_in_one_class.ensures.below;
      all = c.versions_are_in_one_class.ensures.all;
      members = c.new_versions_match_alike.ensures;
      names = c.new_names_match_alike.ensures;
    } in
    future-is laws s space (holds_under s values) (examples_of s) space.frame.examples
    (future-from s values (λ d clause here of is only. meets d clause here of is))
