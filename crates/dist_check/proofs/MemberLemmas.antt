-- Whether packages are a healthy installation is told.
use Rattle.std.proofs.Common.{◌≡◌, inl, inr, Bool, List, length, sym, subst, ℕ}
use Rattle.dist_clause.specs.Formula.{Literal, IsModel, value_of}
use Rattle.dist_repo.specs.Order.{IsInOrder}
use Rattle.dist_repo.specs.PackageList.{PackageList}
use Rattle.dist_repo.specs.Strong.{IsInstallation}
use Rattle.dist_now.specs.Members.{members_of}
use Rattle.dist_now.specs.PresentLaws.{AreModelsInstallations}
use Rattle.dist_subject.specs.MemberLaws.{same-flags}
use Rattle.dist_subject.specs.TruthLaws.{truth-length}
use Rattle.dist_subject.specs.Present.{truth_of, packages_of}
use Rattle.dist_line_check.specs.ToldLaws.{model-told, IsTold}

pub healthy-told : (r : PackageList) (essential : Bool) (clauses : List (List Literal)) (flags : List Bool) → IsInOrder r.packages
    → length flags ≡ length r.packages → AreModelsInstallations r essential clauses
    → IsTold (IsInstallation essential r (members_of r.packages flags))
healthy-told r essential clauses flags ordered size models = elim (model-told (value_of flags) clauses) [
  | inl model ↦ inl (models.healthy flags (record { one_each = size; model = model }))
  | inr none ↦ inr (λ healthy.
      let w = models.all (members_of r.packages flags) healthy in
      none (subst (λ f. IsModel (value_of f) clauses) (sym (same-flags r.packages flags w.0 ordered size w.1.one_each w.2)) w.1.model))
]

pub packages-told : (r : PackageList) (essential : Bool) (clauses : List (List Literal)) (variables : List ℕ) → IsInOrder r.packages
    → AreModelsInstallations r essential clauses
    → IsTold (IsInstallation essential r (packages_of r.packages variables))
packages-told r essential clauses variables ordered models =
    healthy-told r essential clauses (truth_of (length r.packages) variables) ordered (truth-length (length r.packages) variables) models
