use Rattle.std.proofs.Common.{◌≡◌, ◌↔◌, Some, ap, slice_get, subst, sym, ◌∙◌}
use Rattle.std.specs.Option.{option_copied}
use Rattle.dist_base.specs.ListLaws.{here-at}
use Rattle.dist_repo.specs.PackageList.{PackageList}
use Rattle.dist_repo.specs.declared.package.Package.{Package}
use Rattle.dist_archive.specs.Archive.{ArchiveView, IsHeldAs}
use Rattle.dist_archive.specs.Steps.{IsHeld}
use Rattle.dist_archive.proofs.HeldLemmas.{new-answer}
use Rattle.dist_archive.proofs.archive.Archive.held.Goals as goal

pub returns-in-Some : goal.returns-in-Some
returns-in-Some c =
    let at = here-at (λ (p : Package). p.name ≡ c.args.name.now) c.repo.result.now.packages c.in-Some.number c.in-Some.ensures in
    let repo : c.repo.result.now ≡ c.args.self.now.space.repository = c.repo.ensures.value ∙ ap (λ (v : ArchiveView). v.space.repository) c.self.view_is in
    let own : slice_get c.args.self.now.space.repository.packages c.in-Some.number ≡ Some at.element =
    ap (λ (r : PackageList). slice_get r.packages c.in-Some.number) (sym repo) ∙ at.is in
    λ q. subst (λ name. (option_copied c.at.result ≡ Some q) ↔ IsHeldAs c.args.self.now.packages name q) at.holds (c.at.ensures at.element q own)

pub returns-in-None : goal.returns-in-None
returns-in-None c =
    let s = c.self.inside.space in
    let free = subst (λ (r : PackageList). ¬ IsHeld r.packages c.args.name.now) c.repo.ensures.value c.in-None.ensures in
    subst (λ (v : ArchiveView). (p : Package) → (option_copied c.get.result ≡ Some p) ↔ IsHeldAs v.packages c.args.name.now p) c.self.view_is
    (new-answer s.repository c.self.invariant.kept.space.frame.flat c.self.inside.slots c.self.inside.names c.self.invariant.kept.named
    c.self.invariant.kept.untaken c.args.name.now (option_copied c.get.result) free c.get.ensures)
