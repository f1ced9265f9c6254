use Rattle.std.proofs.Common.{List, subst}
use Rattle.dist_repo.specs.Order.{IsFlat}
use Rattle.dist_repo.specs.declared.package.Package.{Package}
use Rattle.dist_archive.proofs.EntryLemmas.{entries-flat}
use Rattle.dist_archive.proofs.new_names.NewNames.keeps_invariant.Goals as goal

pub returns : goal.returns
returns c =
    let Flat : List Package → Type 0 = IsFlat in
    subst Flat c.self.view_is (entries-flat (λ k. k.items) (λ x. x.value) c.self.inside.packages.entries c.self.invariant c.len.ensures.ordered)
