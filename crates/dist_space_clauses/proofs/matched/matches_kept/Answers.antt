use Rattle.std.proofs.Common.{slice_get, ◌≡◌, ℕ, ap, subst, sym, ◌∙◌}
use Rattle.std.specs.Prelude.{IsSomeAnd}
use Rattle.dist_base.specs.ListLaws.{has-at, within-from}
use Rattle.dist_relation.specs.declared.atom.Provide.{Provide}
use Rattle.dist_repo.specs.declared.package.Package.{Package}
use Rattle.dist_repo.specs.Match.{MatchesByEntry}
use Rattle.dist_repo.specs.PackageList.{PackageList}
use Rattle.dist_space.specs.Space.{cluster_classes, example_at, member_classes, moved_entry}
use Rattle.dist_space_clauses.proofs.MatchLemmas.{kept-matched, matched-kept}
use Rattle.dist_space_clauses.proofs.matched.matches_kept.Goals as goal

pub package-package-requires : goal.package-package-requires
package-package-requires c = within-from (λ (p : Package). IsSomeAnd (slice_get p.provides c.args.place) (λ entry. entry.name ≡ c.args.atom.now.name))
    c.args.space.now.repository.packages c.args.member c.requires.place

pub get-entry-requires : goal.get-entry-requires
get-entry-requires c =
    let Named : Provide → Type 0 = λ entry. entry.name ≡ c.args.atom.now.name in
    within-from Named c.package-package.result.now.provides c.args.place
    (has-at (λ (p : Package). IsSomeAnd (slice_get p.provides c.args.place) Named) c.args.space.now.repository.packages c.args.member
    c.package-package.result.now c.package-package.ensures.value c.requires.place)

pub returns : goal.returns
returns c =
    let s = c.args.space.now in
    let atom = c.args.atom.now in
    let p : Package = c.package-package.result.now in
    let entry = c.get-entry.result.now in
    let text = c.example-example.result in
    let example : text ≡ example_at (member_classes s c.args.member) c.args.class = c.example-example.ensures
    ∙ ap (λ (n : ℕ). example_at (cluster_classes s n) c.args.class) c.cluster_of.ensures in
    let Matches : PackageList → Type 0 = λ r. MatchesByEntry r.architecture atom (moved_entry p.version text entry) in (
      (λ is. kept-matched s atom c.args.member c.args.class c.args.place p entry text c.package-package.ensures.value c.get-entry.ensures example
          (subst Matches c.repo.ensures.value (c.matches_moved.ensures.0 is))),
      λ matched. c.matches_moved.ensures.1 (subst Matches (sym c.repo.ensures.value)
          (matched-kept s atom c.args.member c.args.class c.args.place p entry text c.package-package.ensures.value c.get-entry.ensures example matched)),
    )
