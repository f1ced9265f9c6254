-- What the models of the input clauses stand for, as sets of variables.
use Rattle.std.proofs.Common.{◌≡◌, ◌↔◌, ℕ, Bool, List, length, sym, ap, subst, ◌∙◌}
use Rattle.dist_base.specs.Least.{IsNoPair}
use Rattle.dist_clause.specs.Formula.{Literal, value_of, IsModel}
use Rattle.dist_repo.specs.Order.{IsInOrder}
use Rattle.dist_repo.specs.PackageList.{PackageList}
use Rattle.dist_now.specs.PresentClauses.{ArePresentClauses}
use Rattle.dist_now.specs.PresentLaws.{AreModelsInstallations}
use Rattle.dist_space.specs.Space.{SpaceView, IsSpace}
use Rattle.dist_space_clauses.specs.SpaceClauses.{AreSpaceClauses}
use Rattle.dist_future.specs.FutureClauses.{MeetsFuture}
use Rattle.dist_future.specs.FutureHealth.{AreNoFuture}
use Rattle.dist_future.specs.HealthLaws.{IsHealthyIn, StandsForHealthy}
use Rattle.dist_cert.specs.Subject.{Matter}
use Rattle.dist_cert.specs.declared.records.CertKind.{CertKind}
use Rattle.dist_cert.specs.declared.records.CertKind.TheVariants.{Strong, Outdated, Challenged}
use Rattle.dist_subject.specs.Basis.{Basis, Today, Later, IsBasisOf, matter_of}
use Rattle.dist_subject.specs.Installed.{AreModelsHealthy}
use Rattle.dist_subject.specs.Later.{later_matter}
use Rattle.dist_subject.specs.MemberLaws.{installed-exactly}
use Rattle.dist_subject.specs.Present.{present_matter, truth_of}
use Rattle.dist_subject.proofs.Truth.{truth-same}

-- the models stand for healthy installations by each set of their true variables, as they do by one
abbrev IsExact : Matter → Type 0
IsExact matter = (members : List ℕ) → (matter.IsFuture members × matter.IsHealthy members)
    ↔ IsModel (value_of (truth_of matter.variables members)) matter.inputs

both : (matter : Matter) → IsExact matter → AreModelsHealthy matter
both matter exact = record {
  stand = λ values variables size model trues.
      let same : truth_of matter.variables variables ≡ values = ap (λ n. truth_of n variables) (sym size) ∙ truth-same values variables trues in
      (exact variables).1 (subst (λ v. IsModel (value_of v) matter.inputs) (sym same) model);
  exactly = exact;
}

-- ---- the present

present-exact : (r : PackageList) (essential : Bool) (inputs : List (List Literal)) → IsInOrder r.packages → AreModelsInstallations r essential inputs
    → IsExact (present_matter r essential inputs)
present-exact r essential inputs ordered models members =
    let exact = installed-exactly r essential inputs members ordered models in ((λ stands. exact.0 stands.1), λ model. (tt, exact.1 model))

-- ---- the futures

-- the laws of dist_future
pub record FutureLaws : Type 0 where
  pub meet : (s : SpaceView) (values : List Bool) → IsNoPair (AreNoFuture s values) ↔ MeetsFuture s values
  pub models : (s : SpaceView) (clauses : List (List Literal)) (values : List Bool) → IsSpace s → AreSpaceClauses s clauses
      → IsHealthyIn s values ↔ IsModel (value_of values) clauses
  pub exactly : (s : SpaceView) (values : List Bool) → IsSpace s → IsHealthyIn s values ↔ StandsForHealthy s values

later-exact : FutureLaws → (s : SpaceView) (inputs : List (List Literal)) → IsSpace s → AreSpaceClauses s inputs → IsExact (later_matter s inputs)
later-exact laws s inputs space are members =
    let values = truth_of (length s.meanings) members in (
      (λ stands. (laws.models s inputs values space are).0
          ((laws.exactly s values space).1 (record { stands = (laws.meet s values).1 stands.0; healthy = stands.1 }))),
      λ model.
          let healthy = (laws.exactly s values space).0 ((laws.models s inputs values space are).1 model) in
          ((laws.meet s values).0 healthy.stands, healthy.healthy),
    )

-- ---- each kind

abbrev AreInstalled : Type 0
AreInstalled = (r : PackageList) (essential : Bool) (clauses : List (List Literal)) → IsInOrder r.packages → ArePresentClauses r essential clauses
    → AreModelsInstallations r essential clauses

pub models-healthy : AreInstalled → FutureLaws → (r : PackageList) (kind : CertKind) (essential : Bool) (basis : Basis) → IsInOrder r.packages
    → IsBasisOf r kind essential basis → AreModelsHealthy (matter_of r basis)
models-healthy present laws r Strong essential (Today mode inputs) ordered is =
    subst (λ m. AreModelsHealthy (present_matter r m inputs)) (sym is.0)
    (both (present_matter r essential inputs) (present-exact r essential inputs ordered (present r essential inputs ordered is.1)))
models-healthy present laws r Strong essential (Later s inputs) ordered is = absurd is
models-healthy present laws r Outdated essential (Later s inputs) ordered is =
    both (later_matter s inputs) (later-exact laws s inputs is.is_space.space is.are_clauses)
models-healthy present laws r Outdated essential (Today mode inputs) ordered is = absurd is
models-healthy present laws r Challenged essential (Later s inputs) ordered is =
    both (later_matter s inputs) (later-exact laws s inputs is.is_space.space is.are_clauses)
models-healthy present laws r Challenged essential (Today mode inputs) ordered is = absurd is
