-- What a certificate of kind outdated or challenged speaks of: the futures of the packages, by their space.
use Rattle.std.specs.Prelude.{ℕ, ◌+◌, ◌-◌, List, [], length, map, slice_index_or}
use Rattle.std.specs.List.{range_with_len}
use Rattle.dist_clause.specs.Formula.{Literal}
use Rattle.dist_space.specs.Space.{SpaceView, cluster_classes, variable_of}
use Rattle.dist_space.specs.declared.meaning.Meaning.TheVariants.{Present, At, New}
use Rattle.dist_future.specs.FutureClauses.{MeetsFuture}
use Rattle.dist_future.specs.Outdated.{IsInstallationOf}
use Rattle.dist_future.specs.SpaceLaws.{future_under, installation_under}
use Rattle.dist_cert.specs.Subject.{Cluster, Matter}
use Rattle.dist_subject.specs.Present.{truth_of}

-- the cluster of a number from 0, with its packages numbered from 1
abbrev pub cluster_of : SpaceView → ℕ → Cluster
cluster_of s cluster = record {
  members = map (λ m. m + 1) (slice_index_or s.clusters.members cluster []);
  classes = length (cluster_classes s cluster);
}

-- The variables are those of the space. A set of variables stands for a future where it meets the clauses that say what
-- a future is, and is healthy where the installation that it stands for is a healthy one of that future.
abbrev pub later_matter : SpaceView → List (List Literal) → Matter
later_matter s inputs = record {
  packages = length s.repository.packages;
  variables = length s.meanings;
  inputs = inputs;
  clusters = map (cluster_of s) (range_with_len 0 (length s.clusters.members));
  present = λ p. variable_of s (Present (p - 1));
  new = λ p class. variable_of s (New (p - 1) (class - 1));
  at = λ cluster class. variable_of s (At (cluster - 1) (class - 1));
  IsFuture = λ members. MeetsFuture s (truth_of (length s.meanings) members);
  IsHealthy = λ members. IsInstallationOf s.essential s.repository
      (future_under s (truth_of (length s.meanings) members)) (installation_under s (truth_of
      (length s.meanings) members));
}
