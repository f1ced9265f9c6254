use Rattle.std.proofs.Common.{◌≡◌, ◌-◌, ◌<◌, ◌≤◌, length, true}
use Rattle.dist_clause.specs.Formula.{value_of}
use Rattle.dist_space.specs.Space.{variable_of}
use Rattle.dist_space.specs.declared.meaning.Meaning.TheVariants.{Present}
use Rattle.dist_outdated.specs.OutdatedPrivate.{AreNoted}
use Rattle.dist_outdated.proofs.outdated_claimant.note.Given as goal

abbrev pub invariant-members : goal.invariant-members
invariant-members l = record {
  within : l.member ≤ length l.space.repository.packages;
  noted : AreNoted l.space l.member l.values l.number l.fn.latest l.latest;
  holds : l.member < length l.space.repository.packages → value_of l.values (variable_of l.space (Present l.member)) ≡ true;
}

abbrev pub decreases-members : goal.decreases-members
decreases-members l = length l.space.repository.packages - l.member
