-- Worked examples of what is left of a cluster: a and b come from one source; p depends on libx below 2, and libx is at
-- 1 today, so that a libx at 2 challenges p.
use Rattle.std.specs.Prelude.{◌≡◌, ◌≢◌, ℕ, false, List, [], ◌∷◌, None, Some, All, Any, Contains, codes, slice_index_or}
use Rattle.std.specs.Prelude.{refl}
use Rattle.std.specs.declared.cmp.Ordering.TheVariants.{Equal}
use Rattle.std.proofs.Common.{ap, arith, inl, inr, lit<, subst, sym, ⊎_elim, ◌∙◌}
use Rattle.std.proofs.lemmas.List.Elements.{All-contains}
use Rattle.dist_base.specs.ListLaws.{any-cases}
use Rattle.dist_version.specs.Between.{without_rebuild_text}
use Rattle.dist_version.specs.Order.{version_cmp}
use Rattle.dist_relation.specs.declared.atom.Atom.{Atom}
use Rattle.dist_relation.specs.declared.atom.Op.TheVariants.{Lt}
use Rattle.dist_relation.specs.declared.atom.Provide.{Provide}
use Rattle.dist_relation.specs.declared.atom.Qualifier.TheVariants.{Plain}
use Rattle.dist_repo.specs.Healthy.{IsMet}
use Rattle.dist_repo.specs.Match.{Matches, MatchesByEntry}
use Rattle.dist_repo.specs.declared.package.Package.{Package}
use Rattle.dist_future.specs.Future.{IsInClusterOf}
use Rattle.dist_future.specs.FutureExamples.{a, b, itself, later_a, one-below-two, one-of, two, two-is-two}
use Rattle.dist_future.specs.Outdated.{HoldsCluster, IsInstallableIn}
use Rattle.dist_future.specs.OutdatedExamples.{both, libx, p, two_challenges}
use Rattle.dist_archive.specs.StepExamples.{a-in, a_is_not_b, b-in, only}
use Rattle.dist_history.specs.Left.{HoldsNoOther, HoldsNothing}

-- ---- a part of a cluster

-- With a at 2 and b missing, nothing of their cluster is at another version than 2.
b_is_missing : HoldsNoOther two (later_a ∷ []) a (codes "2")
b_is_missing n there name =
    subst (λ (x : Package). version_cmp x.version (codes "2") ≡ Equal) (only later_a n there) two-is-two

-- That is not to hold the cluster at 2.
b_is_wanted : ¬ HoldsCluster two (later_a ∷ []) a (codes "2")
b_is_wanted whole =
    let at = whole b b-in in
    a_is_not_b (ap (λ (x : Package). x.name) (only later_a at.1 (at.0, at.2, at.3)) ∙ at.4.0)

-- With a at 1 something is at another version.
a_is_at_another : ¬ HoldsNoOther two (a ∷ []) a (codes "2")
a_is_at_another no_other =
    let equal : version_cmp (codes "1") (codes "2") ≡ Equal = no_other a (0, lit< tt, refl) (a, a-in, refl) in
    let less = one-below-two in cc

-- With b alone something of the cluster is held.
b_is_left : ¬ HoldsNothing two (b ∷ []) a
b_is_left none = none b (0, lit< tt, refl) (b, b-in, refl)

-- ---- a package that a version of the cluster challenges

libx_is_not_p : codes "libx" ≢ codes "p"
libx_is_not_p e = let differ : 108 ≡ 112 = ap (λ (s : List ℕ). slice_index_or s 0 0) e in omega (arith, differ)

abbrev on_libx : Atom
on_libx = record { name = codes "libx"; qualifier = Plain; bound = Some (record { op = Lt; version = codes "2" }) }

-- Where p alone is left, nothing of the cluster of libx is held.
libx_is_gone : HoldsNothing (both (codes "2")) (p (codes "2") ∷ []) libx
libx_is_gone n there (q, inside, name) = elim (one-of libx (p (codes "2")) q inside.there) [
  | inl is ↦ libx_is_not_p (ap (λ (x : Package). x.name) is ∙ name
      ∙ sym (ap (λ (x : Package). x.name) (only (p (codes "2")) n there)))
  | inr is ↦ libx_is_not_p (inside.clustered.source ∙ sym (ap (λ (x : Package). x.source) is))
]

-- There no healthy installation has p: it is as broken as beside a libx at 2.
p_is_broken : ¬ IsInstallableIn false (both (codes "2")) (p (codes "2") ∷ []) (p (codes "2"))
p_is_broken in_it =
    let items = All-contains (λ q. All (IsMet None in_it.members) q.depends) in_it.members (p (codes "2"))
    in_it.healthy.met in_it.holds in
    let item : IsMet None in_it.members (on_libx ∷ []) = items 0 [] (lit< tt) in
    let met : Any (Matches None on_libx) in_it.members =
    ⊎_elim (λ here. here) (λ none. absurd (omega (arith, none.2)))
    (any-cases (λ atom. Any (Matches None atom) in_it.members) on_libx [] item) in
    let inside = All-contains (Contains (p (codes "2") ∷ [])) in_it.members met.1 in_it.healthy.chosen
    (met.0, met.2, met.3) in
    let is : p (codes "2") ≡ met.1 = only (p (codes "2")) met.1 inside in
    elim met.4.matched [
      | inl named ↦ libx_is_not_p (sym named.name ∙ sym (ap (λ (x : Package). x.name) is))
      | inr entry ↦
          let some : Any (MatchesByEntry None on_libx) []
          = subst (λ (es : List Provide). Any (MatchesByEntry None on_libx) es)
          (sym (ap (λ (x : Package). x.provides) is)) entry in
          omega (arith, some.2)
    ]

libx-there : Contains (both (codes "2")).packages libx
libx-there = (0, lit< tt, refl)

libx-in : IsInClusterOf (both (codes "2")) libx libx
libx-in = record {
  there = libx-there;
  clustered = record {
    source = refl;
    source_version = itself (codes "1");
    version = itself (without_rebuild_text (codes "1"));
  };
}

-- Beside the libx of today one has p, and there the cluster of libx is at another version than 2.
p_is_installable : IsInstallableIn false (both (codes "2")) (both (codes "2")).packages (p (codes "2"))
p_is_installable = record {
  members = two_challenges.installable.members;
  healthy = two_challenges.installable.healthy;
  holds = two_challenges.installable.holds;
}

libx_is_at_another : ¬ HoldsNoOther (both (codes "2")) (both (codes "2")).packages libx (codes "2")
libx_is_at_another no_other =
    let equal : version_cmp (codes "1") (codes "2") ≡ Equal = no_other libx libx-there (libx, libx-in, refl) in
    let less = one-below-two in cc
