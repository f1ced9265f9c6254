-- Lists of packages: which packages are in them, and what depends on that alone.
use Rattle.std.proofs.Common.{◌≡◌, ◌≢◌, ℕ, Bool, List, get_or, Option, sym, ap, ◌∙◌, arith, inl, inr}
use Rattle.std.specs.Prelude.{All, AllPairs, Any, Contains}
use Rattle.std.specs.Ordering.{ordering_reverse}
use Rattle.std.proofs.lemmas.List.{get_or_default}
use Rattle.std.proofs.lemmas.List.Elements.{All-contains}
use Rattle.dist_base.specs.ListLaws.{all-contained, any-contained, any-more, any-there, IsSymmetric, pair-from}
use Rattle.dist_version.specs.OrderLaws.{version_total}
use Rattle.dist_relation.specs.declared.atom.Atom.{Atom}
use Rattle.dist_repo.specs.Conflict.{AreInConflict}
use Rattle.dist_repo.specs.Healthy.{IsMet, required_names}
use Rattle.dist_repo.specs.Match.{Matches}
use Rattle.dist_repo.specs.Order.{IsSamePackage}
use Rattle.dist_repo.specs.PackageList.{PackageList}
use Rattle.dist_repo.specs.Strong.{IsInstallation}
use Rattle.dist_repo.specs.declared.package.Package.{Package}
use Rattle.dist_now.specs.PresentLaws.{AreSamePackages, HasNoRepeats}

same-back : (p q : Package) → IsSamePackage p q → IsSamePackage q p
same-back p q same = (sym same.0, version_total.antisymm q.version p.version ∙ ap ordering_reverse same.1)

pub conflict-back : (architecture : Option (List ℕ)) → IsSymmetric (AreInConflict architecture)
conflict-back architecture p q conflict = record {
  different = λ same. conflict.different (same-back q p same);
  matched = elim conflict.matched [
    | inl h ↦ inr h
    | inr h ↦ inl h
  ];
}

pub apart-back : (architecture : Option (List ℕ)) → IsSymmetric (λ p q. ¬ AreInConflict architecture p q)
apart-back architecture p q none = λ conflict. none (conflict-back architecture q p conflict)

pub names-back : IsSymmetric (λ (p q : Package). p.name ≢ q.name)
names-back p q apart = λ same. apart (sym same)

-- ---- health depends on which packages are members

pub met-more : (architecture : Option (List ℕ)) (members others : List Package) → ((p : Package) → Contains members p → Contains others p) → (item : List Atom)
    → IsMet architecture members item → IsMet architecture others item
met-more architecture members others to item met =
    any-more (λ atom. Any (Matches architecture atom) members) (λ atom. Any (Matches architecture atom) others)
    (λ atom any. any-contained (Matches architecture atom) others any.1 (to any.1 (any-there (Matches architecture atom) members any)) any.4) item met

pairs-other : (R : Package → Package → Type 0) → IsSymmetric R → (members others : List Package) → ((p : Package) → Contains others p → Contains members p)
    → HasNoRepeats others → AllPairs R members → AllPairs R others
pairs-other R symmetric members others from once pairs i j d before short =
    let here : Contains others (get_or others i d) = (i, omega arith, get_or_default others i (get_or others i d) d (omega arith)) in
    let there : Contains others (get_or others j d) = (j, short, get_or_default others j (get_or others j d) d short) in
    pair-from R symmetric members (get_or others i d) (get_or others j d) pairs (from (get_or others i d) here) (from (get_or others j d) there)
    (once i j d before short)

pub health-of-sets : (r : PackageList) (essential : Bool) (members others : List Package) → IsInstallation essential r members → AreSamePackages members others
    → HasNoRepeats others → IsInstallation essential r others
health-of-sets r essential members others healthy same once =
    let Named : List ℕ → Package → Type 0 = λ name p. p.name ≡ name in
    record {
      chosen = all-contained (Contains r.packages) others (λ p there. All-contains (Contains r.packages) members p healthy.chosen ((same p).1 there));
      one_of_a_name = pairs-other (λ p q. p.name ≢ q.name) names-back members others (λ p. (same p).1) once healthy.one_of_a_name;
      met = all-contained (λ p. All (IsMet r.architecture others) p.depends) others (λ p there.
          let all : All (IsMet r.architecture members) p.depends =
          All-contains (λ p. All (IsMet r.architecture members) p.depends) members p healthy.met ((same p).1 there) in
          λ k d short. met-more r.architecture members others (λ q. (same q).0) (get_or p.depends k d) (all k d short));
      no_conflict = pairs-other (λ p q. ¬ AreInConflict r.architecture p q) (apart-back r.architecture) members others (λ p. (same p).1) once
          healthy.no_conflict;
      has_required = λ k d short.
          let name = get_or (required_names essential r.packages) k d in
          let any : Any (Named name) members = healthy.has_required k d short in
          any-contained (Named name) others any.1 ((same any.1).0 (any-there (Named name) members any)) any.4;
    }
