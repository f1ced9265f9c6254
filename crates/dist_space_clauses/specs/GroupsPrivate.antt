-- The groups of clauses that variables lead, by their numbers, and what has classes that do not hold together. No
-- public clause cites it.
use Rattle.std.specs.Prelude.{ℕ, List}
use Rattle.dist_classes.specs.declared.class_value.Class.{Class}
use Rattle.dist_space.specs.Space.{SpaceView, cluster_classes, fresh_classes}
use Rattle.dist_space.specs.declared.meaning.Meaning.{Meaning}
use Rattle.dist_space.specs.declared.meaning.Meaning.TheVariants.{At, Fresh}
use Rattle.dist_space_clauses.specs.SpaceClauses.{Demand, OneClass, OneFresh}
use Rattle.dist_space_clauses.specs.declared.classed.Classed.{Classed}
use Rattle.dist_space_clauses.specs.declared.classed.Classed.TheVariants.{Cluster, Name}
use Rattle.dist_space_clauses.specs.declared.groups.Group.{Group}
use Rattle.dist_space_clauses.specs.declared.groups.Group.TheVariants.{Classes, Versions, Names, Items, Conflicts}
use Rattle.dist_space_clauses.specs.declared.groups.Group.TheVariants.{Today}

abbrev pub number_of : Group → ℕ
number_of Classes = 1
number_of Versions = 2
number_of Names = 3
number_of Items = 4
number_of Conflicts = 5
number_of Today = 6

-- ---- what has classes: clusters, and new names

-- the group of the clauses that one has one class at most
abbrev pub group_for : Classed → ℕ
group_for Cluster = 1
group_for Name = 3

-- the classes of the one of a number
abbrev pub classes_of : SpaceView → Classed → (number : ℕ) → List Class
classes_of s Cluster number = cluster_classes s number
classes_of s Name number = fresh_classes s number

-- the meaning of one of its classes
abbrev pub class_of : Classed → (number class : ℕ) → Meaning
class_of Cluster number class = At number class
class_of Name number class = Fresh number class

-- that two of its classes do not hold together
abbrev pub apart_of : Classed → (number first second : ℕ) → Demand
apart_of Cluster number first second = OneClass number first second
apart_of Name number first second = OneFresh number first second
