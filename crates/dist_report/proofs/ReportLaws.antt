-- A repository has one report of claims of each kind.
use Rattle.std.proofs.Common.{◌≡◌, ℕ, List, refl, sym, ap, ◌∙◌}
use Rattle.std.specs.Prelude.{◌≢◌}
use Rattle.dist_cert.specs.declared.records.CertKind.{CertKind}
use Rattle.dist_cert.specs.declared.records.CertKind.TheVariants as kinds
use Rattle.dist_cert.specs.declared.records.Claim.{Claim}
use Rattle.dist_repo.specs.PackageList.{PackageList}
use Rattle.dist_classes.specs.Atoms.{AreBoundsVersions}
use Rattle.dist_report.specs.ChallengedReport.{challenged_lines}
use Rattle.dist_report.specs.ClassesReport.{AreToldClusters, ToldCluster}
use Rattle.dist_report.specs.OutdatedReport.{outdated_lines}
use Rattle.dist_report.specs.ReportText.{IsTextOfKind}
use Rattle.dist_report.specs.StrongReport.{strong_lines}
use Rattle.dist_report.proofs.SomeText.{AreVersions}

module _ (one_clusters : (r : PackageList) (a b : List ToldCluster) → AreToldClusters r a → AreToldClusters r b → a ≡ b) where
  pub one-report : (r : PackageList) (kind : CertKind) (limit : ℕ) (made : List Claim) (text other : List ℕ) → IsTextOfKind kind r limit made text
      → IsTextOfKind kind r limit made other → text ≡ other
  one-report r kinds.Strong limit made text other first second = first ∙ sym second
  one-report r kinds.Outdated limit made text other first second = first ∙ sym second
  one-report r kinds.Challenged limit made text other first second =
      first.is
      ∙ ap (λ (list : List ToldCluster). challenged_lines r.packages list limit made)
      (one_clusters r first.clusters second.clusters first.are_clusters second.are_clusters)
      ∙ sym second.is

pub always-report : (r : PackageList) (kind : CertKind) (limit : ℕ) (made : List Claim) → kind ≢ kinds.Challenged
    → (text : List ℕ) × IsTextOfKind kind r limit made text
always-report r kinds.Strong limit made other = (strong_lines r.packages limit made, refl)
always-report r kinds.Outdated limit made other = (outdated_lines r.packages limit made, refl)
always-report r kinds.Challenged limit made other = absurd (other refl)

module _ (some_clusters : (r : PackageList) → AreBoundsVersions r → AreVersions r.packages → (clusters : List ToldCluster) × AreToldClusters r clusters) where
  pub some-report : (r : PackageList) → AreBoundsVersions r → AreVersions r.packages → (kind : CertKind) (limit : ℕ) (made : List Claim)
      → (text : List ℕ) × IsTextOfKind kind r limit made text
  some-report r bounds versions kinds.Strong limit made = (strong_lines r.packages limit made, refl)
  some-report r bounds versions kinds.Outdated limit made = (outdated_lines r.packages limit made, refl)
  some-report r bounds versions kinds.Challenged limit made =
      let told = some_clusters r bounds versions in
      (challenged_lines r.packages told.0 limit made, record { clusters = told.0; are_clusters = told.1; is = refl })
