-- What a claim needs of the lines before it.
use Rattle.std.specs.Prelude.{◌≡◌, ◌≢◌, ◌⊎◌, ℕ, ◌<◌, ◌≤◌, true, false, List, [], ◌∷◌, ◌++◌, All, Any, AllPairs}
use Rattle.std.specs.Prelude.{Contains, length}
use Rattle.dist_cert.specs.declared.records.CertKind.{CertKind}
use Rattle.dist_cert.specs.declared.records.CertKind.TheVariants as kinds
use Rattle.dist_cert.specs.declared.records.CertRecord.{CertRecord}
use Rattle.dist_cert.specs.declared.records.CertRecord.TheVariants.{NotInstallable, Unknown, Strong, Outdated, Alive}
use Rattle.dist_cert.specs.declared.records.CertRecord.TheVariants.{Challenged}
use Rattle.dist_cert.specs.Form.{Word}
use Rattle.dist_cert.specs.Subject.{Matter, Cluster, cluster_at}
use Rattle.dist_cert.specs.Groups.{installations, installation_at, IsRecent, group, IsRefutedIn, IsUndecidedIn}

abbrev pub yes : ℕ → Word
yes variable = (variable, true)

abbrev pub no : ℕ → Word
no variable = (variable, false)

-- The question of a claim: is there an installation with the package; one of a future without it being new, for kind
-- outdated; one of today with it, for kind challenged.
abbrev pub claim_question : Matter → CertKind → ℕ → List Word
claim_question matter kinds.Strong p = yes p ∷ []
claim_question matter kinds.Outdated p = yes (matter.present p) ∷ []
claim_question matter kinds.Challenged p = yes 1 ∷ yes (matter.present p) ∷ []

-- ---- the installations of a claim

-- the named installation is a recent one and has the variable of the claim's package
abbrev pub IsNamed : List CertRecord → ℕ → ℕ → Type 0
IsNamed before variable number = IsRecent before number × Contains (installation_at before number) variable

-- The installations of a claim are those that it names and all of its group that have the variable of its package.
abbrev pub EachInstallation : List CertRecord → List ℕ → ℕ → (List ℕ → Type 0) → Type 0
EachInstallation before named variable Holds = All (λ number. Holds (installation_at before number)) named
    × All (λ members. Contains members variable → Holds members) (installations (group before))

abbrev pub SomeInstallation : List CertRecord → List ℕ → ℕ → (List ℕ → Type 0) → Type 0
SomeInstallation before named variable Holds = Any (λ number. Holds (installation_at before number)) named
    ⊎ Any (λ members. Contains members variable × Holds members) (installations (group before))

-- ---- strong dependencies

abbrev pub IsInEach : List CertRecord → List ℕ → ℕ → ℕ → Type 0
IsInEach before named p q = EachInstallation before named p (λ members. Contains members q)

-- The rules of a claim that p strongly depends on the packages `on` and perhaps on those `undecided`.
pub record HoldsStrong (matter : Matter) (before : List CertRecord) (p : ℕ) (named on undecided : List ℕ) : Type 0 where
  pub names : All (IsNamed before p) named
  pub rising : AllPairs (λ q r. q < r) on × AllPairs (λ q r. q < r) undecided
  pub apart : All (λ q. ¬ Contains undecided q) on
  pub others : All (λ q. (q ≢ p) × (q ≤ matter.packages)) (on ++ undecided)
  pub refuted : All (λ q. IsRefutedIn (group before) (yes p ∷ no q ∷ [])) on
  pub open_still : All (λ q. IsUndecidedIn (group before) (yes p ∷ no q ∷ []) × IsInEach before named p q) undecided

-- another package is in all of the claim's installations and stands in neither list
abbrev pub OmitsPackage : Matter → List CertRecord → ℕ → List ℕ → List ℕ → Type 0
OmitsPackage matter before p named listed = (q : ℕ) × (1 ≤ q) × (q ≤ matter.packages) × (q ≢ p)
    × IsInEach before named p q × (¬ Contains listed q)

-- ---- challenges

-- a cluster without the package, and a class of it
abbrev pub IsPairFor : Matter → ℕ → ℕ × ℕ → Type 0
IsPairFor matter p pair = (1 ≤ pair.0) × (pair.0 ≤ length matter.clusters) × (1 ≤ pair.1)
    × (pair.1 ≤ (cluster_at matter pair.0).classes) × (¬ Contains (cluster_at matter pair.0).members p)

-- by the cluster and then by the class
abbrev pub IsPairBelow : ℕ × ℕ → ℕ × ℕ → Type 0
IsPairBelow pair later = (pair.0 < later.0) ⊎ ((pair.0 ≡ later.0) × (pair.1 < later.1))

-- the installation has no package of the cluster, neither present nor new
abbrev pub HasNone : Matter → Cluster → List ℕ → Type 0
HasNone matter cluster members = All (λ r. (¬ Contains members (matter.present r))
    × ((class : ℕ) → 1 ≤ class → class ≤ cluster.classes → ¬ Contains members (matter.new r class))) cluster.members

-- The installation has no package of the pair's cluster, or has the cluster at the pair's class.
abbrev pub Covers : Matter → ℕ × ℕ → List ℕ → Type 0
Covers matter pair members = HasNone matter (cluster_at matter pair.0) members
    ⊎ Contains members (matter.at pair.0 pair.1)

abbrev pub IsCovered : Matter → List CertRecord → ℕ → List ℕ → ℕ × ℕ → Type 0
IsCovered matter before p named pair = SomeInstallation before named (matter.present p) (Covers matter pair)

abbrev pub challenge_question : Matter → ℕ → ℕ × ℕ → List Word
challenge_question matter p pair = yes (matter.present p) ∷ yes (matter.at pair.0 pair.1) ∷ []

-- The rules of a claim that the pairs `by` of a cluster and a class challenge p, and perhaps those `undecided`.
pub record HoldsChallenged (matter : Matter) (before : List CertRecord) (p : ℕ) (named : List ℕ)
    (by undecided : List (ℕ × ℕ)) : Type 0 where
  pub names : All (IsNamed before (matter.present p)) named
  pub today : SomeInstallation before named (matter.present p) (λ members. Contains members 1)
  pub rising : AllPairs IsPairBelow by × AllPairs IsPairBelow undecided
  pub apart : All (λ pair. ¬ Contains undecided pair) by
  pub pairs : All (IsPairFor matter p) (by ++ undecided)
  pub refuted : All (λ pair. IsRefutedIn (group before) (challenge_question matter p pair)) by
  pub open_still : All (λ pair. IsUndecidedIn (group before) (challenge_question matter p pair)
      × (¬ IsCovered matter before p named pair)) undecided

-- a pair of a cluster without p is neither listed nor covered
abbrev pub OmitsPair : Matter → List CertRecord → ℕ → List ℕ → List (ℕ × ℕ) → Type 0
OmitsPair matter before p named listed = (pair : ℕ × ℕ) × IsPairFor matter p pair × (¬ Contains listed pair)
    × (¬ IsCovered matter before p named pair)

-- ---- all claims

-- The rules of a claim, by the kind and the letter. No claim of another letter than the kind's holds.
abbrev pub HoldsClaim : Matter → CertKind → List CertRecord → CertRecord → Type 0
HoldsClaim matter kinds.Strong before (NotInstallable p) =
    IsRefutedIn (group before) (claim_question matter kinds.Strong p)
HoldsClaim matter kinds.Challenged before (NotInstallable p) =
    IsRefutedIn (group before) (claim_question matter kinds.Challenged p)
HoldsClaim matter kinds.Outdated before (Outdated p) =
    IsRefutedIn (group before) (claim_question matter kinds.Outdated p)
HoldsClaim matter kind before (Unknown p) = IsUndecidedIn (group before) (claim_question matter kind p)
HoldsClaim matter kinds.Outdated before (Alive p installation) = IsNamed before (matter.present p) installation
HoldsClaim matter kinds.Strong before (Strong p named on undecided) = HoldsStrong matter before p named on undecided
HoldsClaim matter kinds.Challenged before (Challenged p named by undecided) =
    HoldsChallenged matter before p named by undecided
HoldsClaim matter kind before step = ⊥
