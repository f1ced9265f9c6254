use Rattle.std.proofs.Common.{◌<◌, ◌∙◌, ℕ, Some, ap, length, subst, sym}
use Rattle.dist_space.specs.declared.meaning.Meaning.TheVariants.{New}
use Rattle.dist_covering.specs.PairLaws.{cluster-is, own-within}
use Rattle.dist_covering.proofs.used.cluster_at.Goals as goal

pub returns-in-Present-clause-within : goal.returns-in-Present-clause-within
returns-in-Present-clause-within c =
    subst (λ (n : ℕ). n < length c.args.space.now.clusters.members) (sym c.cluster_of.ensures)
    (own-within c.args.space.now c.in-Present.member c.in-Present.ensures.of.space c.in-Present.ensures.is_meaning)

pub returns-in-New-clause-value : goal.returns-in-New-clause-value
returns-in-New-clause-value c =
    ap (λ (n : ℕ). Some n) c.cluster_of-in-New.ensures
    ∙ sym (cluster-is c.args.space.now c.args.variable (New c.in-New.member c.in-New.field-1) c.in-New.ensures.value)
