-- The claims of records without faults, as a whole.
use Rattle.std.proofs.Common.{◌≡◌, ◌≢◌, ℕ, Bool, List, Some, refl, sym, subst, ◌∙◌, slice_get}
use Rattle.std.specs.List.{Contains}
use Rattle.dist_clause.specs.Formula.{Literal}
use Rattle.dist_outside.specs.declared.limits.Limits.{Limits}
use Rattle.dist_repo.specs.Order.{IsInOrder}
use Rattle.dist_repo.specs.PackageList.{PackageList}
use Rattle.dist_repo.specs.declared.package.Package.{Package}
use Rattle.dist_now.specs.PresentClauses.{ArePresentClauses}
use Rattle.dist_now.specs.PresentLaws.{AreModelsInstallations}
use Rattle.dist_space.specs.Space.{SpaceView}
use Rattle.dist_cert.specs.declared.records.CertKind.{CertKind}
use Rattle.dist_cert.specs.declared.records.CertKind.TheVariants as kinds
use Rattle.dist_cert.specs.declared.records.CertRecord.{CertRecord}
use Rattle.dist_cert.specs.declared.records.CertRecord.TheVariants as lines
use Rattle.dist_cert.specs.declared.records.Claim.{Claim}
use Rattle.dist_cert.specs.declared.records.Header.{Header}
use Rattle.dist_cert.specs.Accepted.{claims_in}
use Rattle.dist_cert.specs.ClearFormsLaws.{FormsAreClear}
use Rattle.dist_subject.specs.Basis.{Basis, IsAccepted, IsBasisOf, IsLaterOf, Later, Today, matter_of}
use Rattle.dist_subject.specs.Installed.{AreModelsHealthy}
use Rattle.dist_subject.specs.Later.{later_matter}
use Rattle.dist_subject.specs.Present.{present_matter}
use Rattle.dist_judge.specs.LineLaws.{HaveForms}
use Rattle.dist_line_check.specs.LinesAt.{AreRight}
use Rattle.dist_check.specs.Means.{Means, MeansChallenged, MeansOutdated, MeansStrong, SaysChallenged, SaysOutdated}
use Rattle.dist_judge.specs.WholeLaws.{whole_ended, whole_faultless}
use Rattle.dist_subject.specs.Certificates.{certificates_of}
use Rattle.dist_check.proofs.ClearKind.{clear-kind}
use Rattle.dist_line_check.specs.ModelLaws.{WhatFollows, sound-rule}
use Rattle.dist_check.proofs.Counts.{find-claim, one-each}
use Rattle.dist_check.proofs.Claims.{AreProven, IsClaimAt, claim-says}
use Rattle.dist_check.proofs.LaterClaims.{AreProvenLater, LaterLaws, challenged-claim, outdated-claim}

-- ---- the laws of the crates below

abbrev pub ModelsAreInstallations : Type 0
ModelsAreInstallations = (r : PackageList) (essential : Bool) (clauses : List (List Literal)) → IsInOrder r.packages → ArePresentClauses r essential clauses
    → AreModelsInstallations r essential clauses

abbrev pub ModelsAreHealthy : Type 0
ModelsAreHealthy = (r : PackageList) (kind : CertKind) (essential : Bool) (basis : Basis) → IsInOrder r.packages → IsBasisOf r kind essential basis
    → AreModelsHealthy (matter_of r basis)

pub record MeaningLaws : Type 0 where
  pub follows : WhatFollows
  pub installations : ModelsAreInstallations
  pub healthy : ModelsAreHealthy
  pub later : LaterLaws

-- ---- each kind

-- Records of kind strong without faults prove their claims.
records-mean : (r : PackageList) (inputs : List (List Literal)) (h : Header) (steps : List CertRecord) → AreProven r inputs h steps
    → MeansStrong h.essential r (claims_in steps)
records-mean r inputs h steps x = record {
  are_claims = record {
    one_each = one-each (present_matter r h.essential inputs) h steps x.right x.ended;
    named = λ number claim at. (told number claim at).names;
  };
  each = λ number p claim is at. (told number claim at).says p is;
}
  where
    told : (number : ℕ) (claim : Claim) → slice_get (claims_in steps) number ≡ Some claim → IsClaimAt r h number claim
    told number claim at =
        let line = find-claim steps claim number at in
        subst (λ n. IsClaimAt r h n claim) line.count (claim-says r inputs h steps x line.before line.step line.after claim line.is line.one)

-- those of kind outdated
outdated-mean : (s : SpaceView) (inputs : List (List Literal)) (h : Header) (steps : List CertRecord) → AreProvenLater s inputs h steps
    → h.kind ≡ kinds.Outdated → Contains steps lines.End → MeansOutdated s.essential s.repository (claims_in steps)
outdated-mean s inputs h steps x kind ended = record {
  one_each = one-each (later_matter s inputs) h steps x.right ended;
  each = each;
}
  where
    each : (number : ℕ) (p : Package) (claim : Claim) → slice_get s.repository.packages number ≡ Some p
        → slice_get (claims_in steps) number ≡ Some claim → SaysOutdated s.essential s.repository p claim
    each number p claim is at =
        let line = find-claim steps claim number at in
        outdated-claim s inputs h steps x kind line.before line.step line.after claim p line.is line.one
        (subst (λ n. slice_get s.repository.packages n ≡ Some p) (sym line.count) is)

-- and those of kind challenged
challenged-mean : (s : SpaceView) (inputs : List (List Literal)) (h : Header) (steps : List CertRecord) → AreProvenLater s inputs h steps
    → h.kind ≡ kinds.Challenged → Contains steps lines.End → MeansChallenged s (claims_in steps)
challenged-mean s inputs h steps x kind ended = record {
  one_each = one-each (later_matter s inputs) h steps x.right ended;
  each = each;
}
  where
    each : (number : ℕ) (p : Package) (claim : Claim) → slice_get s.repository.packages number ≡ Some p
        → slice_get (claims_in steps) number ≡ Some claim → SaysChallenged s number p claim
    each number p claim is at =
        let line = find-claim steps claim number at in
        subst (λ n. SaysChallenged s n p claim) line.count
        (challenged-claim s inputs h steps x kind line.before line.step line.after claim p line.is line.one
        (subst (λ n. slice_get s.repository.packages n ≡ Some p) (sym line.count) is))

-- ---- all kinds

-- Lines without faults that end a text.
pub record AreWhole (r : PackageList) (basis : Basis) (h : Header) (steps : List CertRecord) : Type 0 where
  pub ordered : IsInOrder r.packages
  pub right : AreRight (matter_of r basis) h steps
  pub forms : HaveForms steps
  pub ended : Contains steps lines.End

strong-lines : MeaningLaws → (r : PackageList) (mode : Bool) (inputs : List (List Literal)) (h : Header) (steps : List CertRecord)
    → h.kind ≡ kinds.Strong → mode ≡ h.essential → ArePresentClauses r h.essential inputs → AreWhole r (Today mode inputs) h steps
    → MeansStrong h.essential r (claims_in steps)
strong-lines laws r mode inputs h steps kind same are x = records-mean r inputs h steps (record {
  sound = sound-rule laws.follows;
  ordered = x.ordered;
  models = laws.installations r h.essential inputs x.ordered are;
  right = subst (λ m. AreRight (present_matter r m inputs) h steps) same x.right;
  forms = x.forms;
  strong = kind;
  ended = x.ended;
})

later-lines : MeaningLaws → (r : PackageList) (s : SpaceView) (inputs : List (List Literal)) (h : Header) (steps : List CertRecord) (kind : CertKind)
    → IsBasisOf r kind h.essential (Later s inputs) → IsLaterOf r h.essential s inputs → h.kind ≢ kinds.Strong → AreWhole r (Later s inputs) h steps
    → AreProvenLater s inputs h steps
later-lines laws r s inputs h steps kind is of later x = record {
  laws = laws.later;
  sound = sound-rule laws.follows;
  space = of.is_space.space;
  are_clauses = of.are_clauses;
  healthy = laws.healthy r kind h.essential (Later s inputs) x.ordered is;
  right = x.right;
  forms = x.forms;
  later = later;
}

pub basis-means : MeaningLaws → (r : PackageList) (kind : CertKind) (basis : Basis) (h : Header) (steps : List CertRecord) → h.kind ≡ kind
    → IsBasisOf r kind h.essential basis → AreWhole r basis h steps → Means kind h.essential r (claims_in steps)
basis-means laws r kinds.Strong (Today mode inputs) h steps kind is x = strong-lines laws r mode inputs h steps kind is.0 is.1 x
basis-means laws r kinds.Strong (Later s inputs) h steps kind is x = absurd is
basis-means laws r kinds.Outdated (Later s inputs) h steps kind is x = (
  s.repository,
  is.newest,
  subst (λ e. MeansOutdated e s.repository (claims_in steps)) is.is_space.essential_is
      (outdated-mean s inputs h steps (later-lines laws r s inputs h steps kinds.Outdated is is (λ strong. let e = sym kind ∙ strong in cc) x) kind x.ended),
)
basis-means laws r kinds.Outdated (Today mode inputs) h steps kind is x = absurd is
basis-means laws r kinds.Challenged (Later s inputs) h steps kind is x = (
  s,
  is.newest,
  is.is_space,
  challenged-mean s inputs h steps (later-lines laws r s inputs h steps kinds.Challenged is is (λ strong. let e = sym kind ∙ strong in cc) x) kind x.ended,
)
basis-means laws r kinds.Challenged (Today mode inputs) h steps kind is x = absurd is

pub accepted-mean : FormsAreClear → MeaningLaws → (r : PackageList) (limits : Limits) (text : List ℕ) (h : Header) (made : List Claim)
    → IsInOrder r.packages → IsAccepted r limits text h made → Means h.kind h.essential r made
accepted-mean clear laws r limits text h made ordered (basis, is, (steps, whole, claims)) =
    subst (Means h.kind h.essential r) (sym claims)
    (basis-means laws r h.kind basis h steps refl is (record {
      ordered = ordered;
      right = whole_faultless (certificates_of r) (clear-kind clear r) basis limits text h steps whole;
      forms = whole.faultless.reads.records;
      ended = whole_ended (certificates_of r) basis limits text h steps whole;
    }))
