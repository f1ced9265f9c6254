use Rattle.std.proofs.Common.{◌≡◌, ◌∙◌, ◌<◌, ℕ, Some, true, ap, get_or, slice_get, subst, sym}
use Rattle.dist_repo.specs.PackageList.{PackageList}
use Rattle.dist_repo.specs.declared.package.Package.{Package}
use Rattle.dist_space.specs.EntryOrder.{are_alike}
use Rattle.dist_space.specs.Space.{SpaceView}
use Rattle.dist_space.proofs.AlikeLemmas.{all-alike}
use Rattle.dist_space.proofs.space.Space.alike_count.Goals as goal

pub returns-clause-alike : goal.returns-clause-alike
returns-clause-alike c =
    let s = c.args.self.now in
    let atom = c.args.atom.now in
    let p : Package = c.package.result.now in
    let places = c.args.places.now in
    let count = c.alike_count.result in
    let same : c.self.inside.frame.repository ≡ s.repository = ap (λ (x : SpaceView). x.repository) c.self.view_is in
    let at : slice_get s.repository.packages c.args.member ≡ Some p =
    ap (λ (r : PackageList). slice_get r.packages c.args.member) (sym same) ∙ c.package.ensures.value in
    let Alike : PackageList → Type 0 = λ r. (k : ℕ) → k < count
    → are_alike r.architecture atom.bound p.version p.provides (get_or places 0 0) (get_or places k 0) ≡ true in
    all-alike s atom c.args.member p places count at c.alike_count.ensures.within c.requires.named (subst Alike same c.alike_count.ensures.alike)
