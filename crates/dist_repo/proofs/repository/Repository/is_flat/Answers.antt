use Rattle.std.proofs.Common.{List, arith, refl, sym, ap, ◌∙◌, subst}
use Rattle.std.proofs.lemmas.Bool.{false≢true}
use Rattle.std.proofs.lemmas.Slice.Eq.{bytes_eq-Decides}
use Rattle.dist_repo.specs.Order.{IsFlat}
use Rattle.dist_repo.specs.PackageList.{PackageList}
use Rattle.dist_repo.specs.declared.package.Package.{Package}
use Rattle.dist_repo.proofs.OrderLemmas.{flat-from_neighbours, not_flat-at}
use Rattle.dist_repo.proofs.repository.Repository.is_flat.Goals as goal

pub returns-then-eq : goal.returns-then-eq
returns-then-eq c =
    let packages = c.self.inside.packages.items in
    let NotFlat : List Package → Type 0 = λ list. ¬ IsFlat list in
    let same = sym c.name.ensures ∙ (bytes_eq-Decides c.name.result.now c.name-in-loop-number.result.now).0 (sym c.if-eq.ensures)
    ∙ c.name-in-loop-number.ensures in
    let not_flat = not_flat-at packages c.loop-number.number c.index.result.now c.index-in-loop-number.result.now (omega arith) (omega arith) c.index.ensures
    c.index-in-loop-number.ensures same in
    ((λ e. absurd (false≢true e)), λ flat. absurd (subst NotFlat (ap (λ (r : PackageList). r.packages) c.self.view_is) not_flat flat))

pub returns : goal.returns
returns c =
    let packages = c.self.inside.packages.items in
    let Flat : List Package → Type 0 = IsFlat in (
      (λ _. subst Flat (ap (λ (r : PackageList). r.packages) c.self.view_is)
          (flat-from_neighbours packages c.self.invariant.in_order (λ k d from within. c.loop-number.invariant k d from (omega arith)))),
      λ _. refl,
    )
