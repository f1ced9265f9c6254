use Rattle.std.proofs.Common.{◌↔◌, List, ℕ, arith, inl, inr, subst}
use Rattle.std.specs.Prelude.{Any, Contains}
use Rattle.std.proofs.lemmas.List.{take_all}
use Rattle.dist_repair.proofs.MovedLemmas.{any-taken}
use Rattle.dist_repair.specs.NotesPrivate.{IsClassOf}
use Rattle.dist_repair.proofs.moved.clusters_in.Goals as goal

pub loop-member-preserved : goal.loop-member-preserved
loop-member-preserved c = λ cluster.
    let members : List ℕ = c.args.members.now in
    let taken = any-taken (λ v. IsClassOf c.args.space.now v cluster) members c.loop-member.member-index (omega arith) in
    let step = c.in_ok-push_cluster.ensures cluster in (
      λ there. taken.1 (elim (step.0 there) [
        | inl earlier ↦ inl ((c.loop-member.invariant cluster).0 earlier)
        | inr class ↦ inr class
      ]),
      λ any. step.1 (elim (taken.0 any) [
        | inl earlier ↦ inl ((c.loop-member.invariant cluster).1 earlier)
        | inr class ↦ inr class
      ]),
    )

pub returns : goal.returns
returns c = λ cluster. subst (λ (ms : List ℕ). Contains c.loop-member.clusters.items cluster ↔ Any (λ v. IsClassOf c.args.space.now v cluster) ms)
    (take_all c.loop-member.member-index c.args.members.now (omega arith)) (c.loop-member.invariant cluster)
