use Rattle.std.proofs.Common.{◌≡◌, ◌<◌, ℕ, length, subst, sym}
use Rattle.std.proofs.lemmas.Bool.{false≢true}
use Rattle.dist_base.specs.ListLaws.{contains-at, has-at, within-from}
use Rattle.dist_repo.specs.declared.package.Package.{Package}
use Rattle.dist_archive.specs.Steps.{IsOfCluster}
use Rattle.dist_archive.proofs.FitLemmas.{later-of}
use Rattle.dist_archive.proofs.FoundLemmas.{number-within, of-number}
use Rattle.dist_archive.proofs.NameLemmas.{not-so}
use Rattle.dist_archive.proofs.fitting.is_later.Goals as goal

pub package-requires : goal.package-requires
package-requires c =
    within-from (λ (q : Package). q.name ≡ c.args.fresh.now.name) c.args.space.now.repository.packages c.args.number c.requires

pub is_above_top-requires : goal.is_above_top-requires
is_above_top-requires c =
    let s = c.args.space.now in
    subst (λ (k : ℕ). k < length s.clusters.members) (sym c.cluster_of.ensures)
    (number-within s c.keeps_invariant.ensures.space.frame c.args.number c.package.result.now c.package.ensures.value)

pub returns-then-not-is_new_of : goal.returns-then-not-is_new_of
returns-then-not-is_new_of c =
    let s = c.args.space.now in
    let q : Package = c.package.result.now in
    let named = has-at (λ (x : Package). x.name ≡ c.args.fresh.now.name) s.repository.packages c.args.number q c.package.ensures.value c.requires in (
      (λ no. absurd (false≢true no)),
      λ later. absurd (not-so c.is_new_of.result c.is_new_of.ensures c.if-not-is_new_of.true
          (later-of s.repository c.keeps_invariant.ensures.space.frame.flat q c.args.fresh.now
          (contains-at s.repository.packages c.args.number q c.package.ensures.value) (sym named) later).0),
    )

pub returns : goal.returns
returns c =
    let s = c.args.space.now in
    let frame = c.keeps_invariant.ensures.space.frame in
    let q : Package = c.package.result.now in
    let there = contains-at s.repository.packages c.args.number q c.package.ensures.value in
    let named = has-at (λ (x : Package). x.name ≡ c.args.fresh.now.name) s.repository.packages c.args.number q c.package.ensures.value c.requires in
    let of = subst (λ (k : ℕ). IsOfCluster s k q) (sym c.cluster_of.ensures) (of-number s frame c.args.number q c.package.ensures.value) in
    let top = c.is_above_top.ensures q of in (
      (λ yes. (q, there, c.is_new_of.ensures.0 c.if-not-is_new_of.false, top.0 yes)),
      λ later. top.1 (later-of s.repository frame.flat q c.args.fresh.now there (sym named) later).1,
    )
