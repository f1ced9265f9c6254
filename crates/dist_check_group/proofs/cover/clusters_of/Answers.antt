use Rattle.std.proofs.Common.{◌∙◌, [], ◌∷◌, ◌++◌, List, ℕ, ap, sym, take}
use Rattle.dist_check_group.specs.Layout.{used}
use Rattle.dist_check_group.proofs.CoverLemmas.{used-more, used-same}
use Rattle.dist_check_group.proofs.cover.clusters_of.Goals.{then-is_package+in_ok-push, else-is_package}
use Rattle.dist_check_group.proofs.cover.clusters_of.Goals as goal

pub loop-member-preserved : goal.loop-member-preserved
loop-member-preserved c =
    let layout = c.args.layout.now in
    let members : List ℕ = c.args.members.now in
    let i = c.loop-member.member-index in
    elim c.if-is_package.branch [
      | then-is_package+in_ok-push w ↦
          rw (w.found-is, w.in_ok-push.ensures.items)
          (ap (λ (xs : List ℕ). xs ++ w.cluster_of.result ∷ []) c.loop-member.invariant
          ∙ ap (λ (n : ℕ). used layout (take i members) ++ n ∷ []) w.cluster_of.ensures
          ∙ used-more layout members i c.loop-member-test.true (sym w.if-is_package.ensures))
      | else-is_package w ↦
          rw w.found-is (c.loop-member.invariant ∙ used-same layout members i c.loop-member-test.true (sym w.if-is_package.ensures))
    ]
