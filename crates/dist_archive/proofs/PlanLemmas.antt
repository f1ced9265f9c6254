-- A future has a plan, so steps reach it.
use Rattle.std.proofs.Common.{◌≡◌, ◌⊎◌, ℕ, zero, suc, ◌<◌, ◌≤◌, List, [], ◌∷◌, ◌++◌, None, length, refl, sym, inl, inr, arith}
use Rattle.dist_base.specs.ListLaws.{any-contained, any-more, at-has, contains-at, element-at, found-at, here-at}
use Rattle.dist_repo.specs.DecidedLaws.{IsDecided, any-decided, at-decided, not-decided}
use Rattle.dist_repo.specs.PackageList.{IsPackageAnd, PackageList}
use Rattle.dist_repo.specs.declared.package.Package.{Package}
use Rattle.dist_space.specs.Space.{IsFrame, IsSpace, SpaceView}
use Rattle.dist_future.specs.Future.{IsFuture, IsTaken, Moves, Stays}
use Rattle.dist_archive.specs.Reach.{AreParts, AreRemovals, AreStepsFor, HasLater, IsLater, IsPart, IsPlan}
use Rattle.dist_archive.specs.Steps.{IsClusterName, IsHeld, IsOfCluster, IsReached}
use Rattle.dist_archive.specs.declared.step.Step.{Step}
use Rattle.dist_archive.specs.declared.step.Step.TheVariants.{Upload, Removal, NewName}
use Rattle.dist_archive.proofs.ClusterLemmas.{cluster-some}
use Rattle.dist_archive.proofs.FitLemmas.{cluster-name-decided, held-decided, kept-not_later, moved-later, stay-kept, taken-decided}
use Rattle.dist_archive.proofs.LeadLemmas.{those}
use Rattle.dist_archive.proofs.SortLemmas.{sorted}
use Rattle.dist_archive.proofs.StageLemmas.{plan-leads}

pub steps-for : {X : Type 0} (P : X → Type 0) (Does : X → Step → Type 0) (xs : List X) → ((x : X) → IsDecided (P x))
    → ((x : X) → P x → (step : Step) × Does x step) → (steps : List Step) × AreStepsFor P Does xs steps
steps-for P Does [] decided does = ([], refl)
steps-for P Does (x ∷ xs) decided does =
    let rest = steps-for P Does xs decided does in
    elim (decided x) [
      | inl holds ↦ let one = does x holds in (one.0 ∷ rest.0, inr (holds, (one.0, rest.0, refl, one.1, rest.1)))
      | inr fails ↦ (rest.0, inl (fails, rest.1))
    ]

module _ (s : SpaceView) (frame : IsFrame s) (later : List Package) (future : IsFuture s.repository later) where
  has-later_decided : (c : Package) → Stays s.repository later c ⊎ Moves s.repository later c → IsDecided (HasLater s.repository later c)
  has-later_decided c (inl stays) = inr (λ some.
      let at = found-at (λ (n : Package). IsClusterName s.repository c n.name × IsLater s.repository n) later some in
      kept-not_later s.repository frame.flat at.element
      (stay-kept s.repository frame.flat later c at.element stays (contains-at later at.place at.element at.is) at.holds.0) at.holds.1)
  has-later_decided c (inr moves) =
      let Named : Package → Type 0 = λ n. IsClusterName s.repository c n.name in
      elim (any-decided Named (λ n. cluster-name-decided s.repository c n.name) later) [
        | inl some ↦
            let at = found-at Named later some in
            let there = contains-at later at.place at.element at.is in
            inl (any-contained (λ (n : Package). IsClusterName s.repository c n.name × IsLater s.repository n) later at.element there (
              at.holds,
              moved-later s.repository frame.flat later c at.holds.0 at.element moves at.holds.1 there (sym at.holds.2),
            ))
        | inr none ↦ inr (λ some. none (any-more (λ (n : Package). IsClusterName s.repository c n.name × IsLater s.repository n) Named
            (λ n both. both.0) later some))
      ]

  removals : (members : List ℕ) → (steps : List Step) × AreRemovals s.repository later members steps
  removals members =
      steps-for (λ m. IsPackageAnd s.repository.packages m (λ q. ¬ IsHeld later q.name))
      (λ m step. IsPackageAnd s.repository.packages m (λ q. step ≡ Removal q.name)) members
      (λ m. at-decided (λ (q : Package). ¬ IsHeld later q.name) (λ q. not-decided (held-decided later q.name)) s.repository.packages m)
      (λ m missing.
      let at = here-at (λ (q : Package). ¬ IsHeld later q.name) s.repository.packages m missing in
      (Removal at.element.name, at-has (λ (q : Package). Removal at.element.name ≡ Removal q.name) s.repository.packages m at.element at.is refl))

  upload : (cluster : ℕ) (c : Package) → IsOfCluster s cluster c → HasLater s.repository later c → (steps : List Step) × IsPart s later cluster steps
  upload cluster c of some =
      let come = those (λ n. IsClusterName s.repository c n.name) (λ n. cluster-name-decided s.repository c n.name) later in
      let in-order = sorted come.some (come.flat future.one_of_a_name) in
      let at = found-at (λ (n : Package). IsClusterName s.repository c n.name × IsLater s.repository n) later some in
      let there = (in-order.exact at.element).1 ((come.exact at.element).1 (contains-at later at.place at.element at.is, at.holds.0)) in
      let first = element-at in-order.list 0 (omega (arith, there.1)) in
      let block : PackageList = record { architecture = None; packages = in-order.list } in
      let step : Step = Upload cluster first.element.version block in (
        step ∷ [],
        (
          c,
          of,
          inl (
            some,
            (
              step,
              refl,
              record {
                block = block;
                first = first.element;
                is = refl;
                architecture = refl;
                is_first = first.is;
                brings = λ n. (
                  (λ there. (come.exact n).0 ((in-order.exact n).0 there)),
                  λ both. (in-order.exact n).1 ((come.exact n).1 both),
                );
                in_order = in-order.in_order;
              },
            ),
          ),
        ),
      )

  part : (cluster : ℕ) → cluster < length s.clusters.members → (steps : List Step) × IsPart s later cluster steps
  part cluster short =
      let some = cluster-some s frame cluster short in
      let own = contains-at s.repository.packages some.1.member some.0 some.1.is in
      elim (has-later_decided some.0 (future.clusters some.0 own)) [
        | inl has ↦ upload cluster some.0 some.1 has
        | inr none ↦
            let at = element-at s.clusters.members cluster short in
            let gone = removals at.element in (
              gone.0,
              (
                some.0,
                some.1,
                inr (
                  none,
                  at-has (λ members. AreRemovals s.repository later members gone.0) s.clusters.members cluster
                      at.element at.is gone.1,
                ),
              ),
            )
      ]

  parts : (count : ℕ) → count ≤ length s.clusters.members → (steps : List Step) × AreParts s later count steps
  parts zero few = ([], refl)
  parts (suc count) few =
      let before = parts count (omega (arith, few)) in
      let next = part count (omega (arith, few)) in
      (before.0 ++ next.0, (before.0, next.0, refl, before.1, next.1))

  pub plan-some : (steps : List Step) × IsPlan s later steps
  plan-some =
      let all = parts (length s.clusters.members) (omega arith) in
      let names = steps-for (λ n. ¬ IsTaken s.repository n.name) (λ n step. step ≡ NewName (record { architecture = None; packages = n ∷ [] })) later
      (λ n. not-decided (taken-decided s.repository n.name))
      (λ n free. (NewName (record { architecture = None; packages = n ∷ [] }), refl)) in
      (all.0 ++ names.0, record { parts = all.0; names = names.0; whole = refl; are_parts = all.1; are_names = names.1 })

pub future-reached : (s : SpaceView) (later : List Package) → IsSpace s → IsFuture s.repository later → IsReached s later
future-reached s later space future =
    let plan = plan-some s space.frame later future in
    (plan.0, plan-leads s space.frame later future plan.0 plan.1)
