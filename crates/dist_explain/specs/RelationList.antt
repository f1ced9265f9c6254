-- The relations of a repository as a list of the program.
use Rattle.std.specs.Prelude.{List, map}
use Rattle.dist_repo.specs.PackageList.{PackageList}
use Rattle.dist_now.specs.PresentClauses.{Apart, Demand, Item}
use Rattle.dist_now.specs.Relations.{AreRelations}
use Rattle.dist_explain.specs.declared.relations.Relation.{Relation}
use Rattle.dist_explain.specs.declared.relations.Relation.TheVariants as relation

-- what a relation demands
abbrev pub demand_of : Relation → Demand
demand_of (relation.Needs number place) = Item number place
demand_of (relation.Apart first second) = Apart first second

-- they are the relations of the repository, in their order
abbrev pub AreRelationsOf : PackageList → List Relation → Type 0
AreRelationsOf r list = AreRelations r (map demand_of list)
