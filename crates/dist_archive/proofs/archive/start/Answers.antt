use Rattle.std.proofs.Common.{ap, arith, length, replicate, ◌∙◌}
use Rattle.dist_cluster.specs.Top.{ClusterList}
use Rattle.dist_archive.specs.declared.members.Members.TheVariants.{Every}
use Rattle.dist_archive.specs.declared.slots.Slot.TheVariants.{Kept}
use Rattle.dist_archive.proofs.KeptLemmas.{all-held, kept-first}
use Rattle.dist_archive.proofs.MembersLemmas.{left-first}
use Rattle.dist_archive.proofs.archive.start.Goals as goal

pub invariant_of-result : goal.invariant_of-result
invariant_of-result c =
    record {
      kept = kept-first c.args.space c.in_ok-slots.slots c.new-4.result c.keeps_invariant.ensures.space (omega (arith, c.keeps_invariant.ensures.packages))
          (c.in_ok-slots.ensures ∙ ap (λ n. replicate n Kept) c.package_count.ensures) c.new-4.ensures;
      left = left-first c.args.space.clusters.members c.in_ok-slots.slots c.in_ok-held.held
          (c.in_ok-held.ensures ∙ ap (λ n. replicate n Every) (c.len.ensures ∙ ap (λ (l : ClusterList). length l.members) c.clusters.ensures));
    }

pub returns : goal.returns
returns c =
    let whole = all-held c.args.space.repository.packages c.in_ok-slots.slots c.new-4.result
    (c.in_ok-slots.ensures ∙ ap (λ n. replicate n Kept) c.package_count.ensures) c.new-4.ensures in
    λ i. record { space = c.args.space; packages = whole i }
