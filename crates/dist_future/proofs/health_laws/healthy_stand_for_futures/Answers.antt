use Rattle.dist_future.proofs.ClassMatch.{ClassLaws}
use Rattle.dist_future.proofs.HealthMeaning.{healthy-back, healthy-stands}
use Rattle.dist_future.proofs.health_laws.healthy_stand_for_futures.Goals as goal

pub returns-clause-future : goal.returns-clause-future
returns-clause-future c = λ s values space healthy. healthy-stands (record {
  above = c.versions_are_in_one_class.ensures.above;
  below = c.versions_are_in_one_class.ensures.below;
  all = c.versions_are_in_one_class.ensures.all;
  members = c.new_versions_match_alike.ensures;
  names = c.new_names_match_alike.ensures;
}) s space values healthy

pub returns-clause-exactly : goal.returns-clause-exactly
returns-clause-exactly c = λ s values space.
    let laws : ClassLaws = record {
      above = c.versions_are_in_one_class.ensures.above;
      below = c.versions_are_in_one_class.ensures.below;
      all = c.versions_are_in_one_class.ensures.all;
      members = c.new_versions_match_alike.ensures;
      names = c.new_names_match_alike.ensures;
    } in (
      λ healthy. record { stands = healthy.0; healthy = (healthy-stands laws s space values healthy).healthy },
      λ both. healthy-back laws s space values both,
    )
