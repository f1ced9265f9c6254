use Rattle.std.proofs.Common.{subst}
use Rattle.std.proofs.Common.{ℕ, ◌<◌, length}
use Rattle.std.proofs.lemmas.Option.{slice_get_within}
use Rattle.dist_commands.proofs.RepairLemmas.{has_values}
use Rattle.dist_commands.proofs.repairing.tell_repair.Goals as goal

pub repair_text-requires-clause-package : goal.repair_text-requires-clause-package
repair_text-requires-clause-package c =
    let says = c.requires.2 in
    subst (λ (n : ℕ). n < length c.args.space.now.repository.packages) c.requires.1
    (slice_get_within c.args.space.now.repository.packages c.requires.0.«package» says.package_is says.in_range)

pub repair_text-requires-clause-values : goal.repair_text-requires-clause-values
repair_text-requires-clause-values c = has_values c.args.space.now c.requires.0 c.args.repair.now c.requires.2
