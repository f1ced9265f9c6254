use Rattle.std.proofs.Common.{subst, sym}
use Rattle.std.proofs.lemmas.Option.{slice_get_within}
use Rattle.dist_space_clauses.specs.GatheringPrivate.{AreVariablesOf}
use Rattle.dist_space_clauses.proofs.GroupFronts.{ExcludedBy, excluded-by}
use Rattle.dist_space_clauses.proofs.conflicts.push_conflicts.Goals as goal

pub push_pairs-requires-clause-others : goal.push_pairs-requires-clause-others
push_pairs-requires-clause-others c =
    subst (AreVariablesOf c.args.space.now (ExcludedBy c.args.space.now c.args.number)) (sym c.deref.ensures.value)
    (excluded-by c.args.space.now c.args.number c.args.package.now c.gather_apart.new.variables.items c.requires.package c.in_default.ensures.are)

pub push_pairs-requires-clause-number : goal.push_pairs-requires-clause-number
push_pairs-requires-clause-number c = slice_get_within c.args.space.now.repository.packages c.args.number c.args.package.now c.requires.package
