use Rattle.std.proofs.Common.{◌≡◌, ◌∙◌, ◌∷◌, [], None, List, subst}
use Rattle.dist_repo.specs.Held.{Held, packages_of}
use Rattle.dist_repo.specs.declared.package.Package.{Package}
use Rattle.dist_archive.specs.PlanningPrivate.{HoldsMore}
use Rattle.dist_archive.proofs.PlanningLemmas.{if-ok_both, one-package}
use Rattle.dist_archive.proofs.planning.block_of_one.Goals as goal

pub returns : goal.returns
returns c =
    let p : Package = c.args.fresh.now in
    let one = one-package (packages_of c.put.new.builder) p c.finish.ensures.in_order
    (subst (λ (old : List Held). HoldsMore old c.put.new.builder (λ n. p ≡ n)) c.new-builder.ensures c.in_ok-put.ensures.holds) in
    if-ok_both c.finish.result (λ b. b.packages ≡ packages_of c.put.new.builder) (λ b. b.architecture ≡ None)
    (λ b. b ≡ record { architecture = None; packages = p ∷ [] })
    (λ b packages none. λ i. record { architecture = none i; packages = (packages ∙ one) i }) c.finish.ensures.packages c.finish.ensures.architecture
