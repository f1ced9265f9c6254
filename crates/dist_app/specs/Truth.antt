-- What a run tells is true. For each command that was carried out: what the text that it printed says of the packages
-- of its file, as the files were when the run began. Nothing here speaks of certificates, or of how an answer is found.
use Rattle.std.specs.Prelude.{◌≡◌, ◌↔◌, ◌<◌, ℕ, Bool, false, List, [], ◌++◌, Option, Some, All, Any, Contains}
use Rattle.std.specs.Prelude.{IfSome, IsSome, IsSomeAnd, codes, decimal, if◌then◌else◌, length, map, slice_get}
use Rattle.std.specs.List.{flat_map}
use Rattle.std.specs.List.Sorted.{IsStrictlyIncreasing}
use Rattle.std.specs.Option.{option_map_or}
use Rattle.std.specs.declared.cmp.Ordering.TheVariants.{Equal}
use Rattle.dist_outside.specs.Files.{Files, IsFile}
use Rattle.dist_outside.specs.Reading.{IsWhole}
use Rattle.dist_outside.specs.SinkView.{SinkView, Grew}
use Rattle.dist_outside.specs.declared.limits.Limits.{Limits}
use Rattle.dist_version.specs.Order.{version_cmp}
use Rattle.dist_version.specs.Spelling.{IsVersion}
use Rattle.dist_repo.specs.Order.{IsLatestOf}
use Rattle.dist_repo.specs.PackageList.{IsPackageAnd, PackageList}
use Rattle.dist_repo.specs.Strong.{IsInstallable}
use Rattle.dist_repo.specs.declared.package.Package.{Package}
use Rattle.dist_package.specs.RepositoryOf.{IsRepositoryOf}
use Rattle.dist_classes.specs.ClassList.{IsOfClassAt}
use Rattle.dist_now.specs.PresentClauses.{Demand}
use Rattle.dist_now.specs.Relations.{AreRelations}
use Rattle.dist_cluster.specs.Partition.{least}
use Rattle.dist_future.specs.Future.{IsFuture}
use Rattle.dist_future.specs.Moved.{IsReplaced}
use Rattle.dist_future.specs.Outdated.{Challenges, IsInstallableIn}
use Rattle.dist_cert.specs.Form.{kind_text, mode_text}
use Rattle.dist_cert.specs.declared.records.CertKind.{CertKind}
use Rattle.dist_cert.specs.declared.records.CertKind.TheVariants as kinds
use Rattle.dist_cert.specs.declared.records.Claim.{Claim}
use Rattle.dist_cert.specs.declared.records.Claim.TheVariants as claims
use Rattle.dist_check.specs.Means.{MeansOutdated, MeansStrong}
use Rattle.dist_explain.specs.Verdicts.{IsTrueOf}
use Rattle.dist_explain.specs.declared.explained.Explained.{Explained}
use Rattle.dist_list.specs.NamedPackage.{IsNamed}
use Rattle.dist_report.specs.ChallengedReport.{challenged_lines}
use Rattle.dist_report.specs.ClassesReport.{AreToldClusters, ToldCluster}
use Rattle.dist_report.specs.ExplainedText.{IsExplainedText, label_at}
use Rattle.dist_report.specs.OutdatedReport.{outdated_lines}
use Rattle.dist_report.specs.PackageText.{label}
use Rattle.dist_report.specs.StrongReport.{strong_lines}
use Rattle.dist_history.specs.FollowText.{counts_text}
use Rattle.dist_words.specs.CommandLine.{Sweep, Check, CheckExplain, Explain, CheckRepair, Repair, Follow}
use Rattle.dist_words.specs.Table.{command_of}
use Rattle.dist_commands.specs.CheckExplain.{explained_status}
use Rattle.dist_commands.specs.Claims.{claims_status, marked_status}
use Rattle.dist_commands.specs.declared.status.Status.{Status}
use Rattle.dist_commands.specs.declared.status.Status.TheVariants.{Done}
use Rattle.dist_app.specs.Headline.{IsCarriedOut}

-- ---- the packages of a file

-- A text was printed, and it tells this of the repository of PACKAGES: that of the file's text, or of some text where
-- the desk does not tell its files.
pub record TellsOfFile (files : Option Files) (limits : Limits) (packages : List ℕ) (out out' : SinkView)
    (Says : PackageList → List ℕ → Type 0) : Type 0 where
  pub file : List ℕ
  pub whole : IsWhole files packages limits.bytes file
  pub repository : PackageList
  pub is_repository : IsRepositoryOf file limits.stanzas repository
  pub text : List ℕ
  pub printed : Grew text out out'
  pub says : Says repository text

-- ---- reports

-- q is a package of a cluster, and the version is one of a class of it: the pair has the numbers of both
pub record IsOfToldPair (newest : PackageList) (clusters : List ToldCluster) (pair : ℕ × ℕ) (q : Package)
    (version : List ℕ) : Type 0 where
  pub cluster : ToldCluster
  pub is_cluster : slice_get clusters pair.0 ≡ Some cluster
  pub has : Any (λ m. slice_get newest.packages m ≡ Some q) cluster.members
  pub is_version : IsVersion version
  pub of_class : IsOfClassAt cluster.classes pair.1 version

-- the pair is that of a class of a cluster that has not got the package of a number
abbrev pub IsBeside : List ToldCluster → ℕ → ℕ × ℕ → Type 0
IsBeside clusters number pair = IsSomeAnd (slice_get clusters pair.0) (λ cluster. (pair.1 < length cluster.classes)
    × (¬ Contains cluster.members number))

-- Of the package p with a number: each version of a listed class challenges it; and whatever challenges it at all is of
-- a class that is listed or undecided.
pub record TellsPairsOf (essential : Bool) (newest : PackageList) (clusters : List ToldCluster) (number : ℕ)
    (p : Package) (by undecided : List (ℕ × ℕ)) : Type 0 where
  pub pairs : All (IsBeside clusters number) (by ++ undecided)
  pub listed : (pair : ℕ × ℕ) (q : Package) (version : List ℕ) → Contains by pair
      → IsOfToldPair newest clusters pair q version → Challenges essential newest q version p
  pub others : (q : Package) (version : List ℕ) → Challenges essential newest q version p
      → Any (λ pair. IsOfToldPair newest clusters pair q version) (by ++ undecided)

-- The claim on package p says: it is not installable; or it is, and which versions challenge it; or nothing.
abbrev pub SaysOfPairs : Bool → PackageList → List ToldCluster → ℕ → Package → Claim → Type 0
SaysOfPairs essential newest clusters number p claims.Uninstallable = ¬ IsInstallable essential newest p
SaysOfPairs essential newest clusters number p claims.Unknown = Unit {0}
SaysOfPairs essential newest clusters number p (claims.Challenged by undecided) = IsInstallable essential newest p
    × TellsPairsOf essential newest clusters number p by undecided
SaysOfPairs essential newest clusters number p claim = ⊥

-- The claims on challenges are true, one on each of the newest versions, in order, and the text tells them by their
-- clusters and the classes of these.
pub record TellsChallenges (essential : Bool) (newest : PackageList) (limit : ℕ) (made : List Claim) (text : List ℕ)
    : Type 0 where
  pub clusters : List ToldCluster
  pub are_clusters : AreToldClusters newest clusters
  pub one_each : length made ≡ length newest.packages
  pub means : (number : ℕ) (p : Package) (claim : Claim) → slice_get newest.packages number ≡ Some p
      → slice_get made number ≡ Some claim → SaysOfPairs essential newest clusters number p claim
  pub is : text ≡ challenged_lines newest.packages clusters limit made

-- The claims of a kind are true at a mode, and the text is their report: of strong dependencies over all packages, of
-- the others over the newest version of each name.
abbrev pub TellsClaims : CertKind → (essential : Bool) → (limit : ℕ) → PackageList → List Claim → (text : List ℕ)
    → Type 0
TellsClaims kinds.Strong essential limit r made text =
    MeansStrong essential r made × (text ≡ strong_lines r.packages limit made)
TellsClaims kinds.Outdated essential limit r made text = (newest : PackageList) × IsLatestOf r newest
    × MeansOutdated essential newest made × (text ≡ outdated_lines newest.packages limit made)
TellsClaims kinds.Challenged essential limit r made text = (newest : PackageList) × IsLatestOf r newest
    × TellsChallenges essential newest limit made text

-- the text is a report of true claims, and the status tells whether they leave something undecided
pub record IsTrueReport (kind : CertKind) (essential : Bool) (limit : ℕ) (status : Status) (r : PackageList)
    (text : List ℕ) : Type 0 where
  pub made : List Claim
  pub tells : TellsClaims kind essential limit r made text
  pub status_is : status ≡ claims_status made

-- ---- explanations

-- The text tells what is answered of the package of a number, and that is true at mode plain. The status tells whether
-- it leaves something undecided.
pub record TellsAnswer (number : ℕ) (status : Status) (r : PackageList) (text : List ℕ) : Type 0 where
  pub p : Package
  pub is_package : slice_get r.packages number ≡ Some p
  pub explained : Explained
  pub means : (relations : List Demand) → AreRelations r relations → IsTrueOf r relations p explained
  pub is : IsExplainedText r number explained text
  pub status_is : status ≡ explained_status explained

-- ---- repairs

-- The clusters that have moved in a future, by their numbers, rising: of exactly these the future has a name by a
-- package that is none of the newest versions.
pub record HaveMoved (newest : PackageList) (clusters : List ToldCluster) (future : List Package) (numbers : List ℕ)
    : Type 0 where
  pub rising : IsStrictlyIncreasing numbers
  pub exact : (c : ℕ) → Contains numbers c ↔ IsSomeAnd (slice_get clusters c) (λ cluster.
      Any (λ m. IsPackageAnd newest.packages m (IsReplaced newest future)) cluster.members)

-- p can be installed, at mode plain, in a future in which these clusters have moved, and no others
pub record IsInstallableMoving (newest : PackageList) (clusters : List ToldCluster) (p : Package) (numbers : List ℕ)
    : Type 0 where
  pub future : List Package
  pub is_future : IsFuture newest future
  pub moved : HaveMoved newest clusters future numbers
  pub installable : IsInstallableIn false newest future p

-- no number of clusters below this one is enough
abbrev pub NeedsMoves : PackageList → List ToldCluster → Package → ℕ → Type 0
NeedsMoves newest clusters p lower = (numbers : List ℕ) → length numbers < lower
    → ¬ IsInstallableMoving newest clusters p numbers

-- the future has each package of the cluster by name, at the version that this one moves to
abbrev pub MovesToVersion : PackageList → List ToldCluster → (future : List Package) → ℕ × List ℕ → Type 0
MovesToVersion newest clusters future move = IsSomeAnd (slice_get clusters move.0) (λ cluster. (m : ℕ) (q : Package)
    → Contains cluster.members m → slice_get newest.packages m ≡ Some q
    → Any (λ n. (n.name ≡ q.name) × (n.version ≡ move.1)) future)

-- p can be installed where exactly these clusters have moved, each to its version
pub record IsEnough (newest : PackageList) (clusters : List ToldCluster) (p : Package) (moves : List (ℕ × List ℕ))
    : Type 0 where
  pub by : IsInstallableMoving newest clusters p (map (λ move. move.0) moves)
  pub versions : All (MovesToVersion newest clusters by.future) moves

-- How many clusters must move for a package: it is never installable; or these are the fewest that are enough; or at
-- least so many must, and these are enough, where some are told.
pub data MovesAnswer : Type 0 where
  NeverInstallable : MovesAnswer
  LeastMoves : List (ℕ × List ℕ) → MovesAnswer
  AtLeastMoves : (lower : ℕ) → (undecided : Bool) → Option (List (ℕ × List ℕ)) → MovesAnswer

-- the answer is true of p
abbrev pub IsTrueOfMoves : PackageList → List ToldCluster → Package → MovesAnswer → Type 0
IsTrueOfMoves newest clusters p NeverInstallable = (numbers : List ℕ) → ¬ IsInstallableMoving newest clusters p numbers
IsTrueOfMoves newest clusters p (LeastMoves moves) = IsEnough newest clusters p moves
    × NeedsMoves newest clusters p (length moves)
IsTrueOfMoves newest clusters p (AtLeastMoves lower undecided upper) = NeedsMoves newest clusters p lower
    × IfSome upper (IsEnough newest clusters p) × (undecided ≡ false → IsSome upper)

-- a number, and a line for each move: the cluster by its first member, and the version
abbrev pub moves_lines : PackageList → List ToldCluster → List (ℕ × List ℕ) → List ℕ
moves_lines newest clusters moves = decimal (length moves) ++ (codes "\n" ++ flat_map (λ move. codes "move "
    ++ (option_map_or (λ cluster. label_at newest.packages (least cluster.members)) (slice_get clusters move.0) []
    ++ (codes " to " ++ (move.1 ++ codes "\n")))) moves)

-- the text of an answer
abbrev pub moves_text : PackageList → List ToldCluster → MovesAnswer → List ℕ
moves_text newest clusters NeverInstallable = codes "outdated\n"
moves_text newest clusters (LeastMoves moves) = codes "least " ++ moves_lines newest clusters moves
moves_text newest clusters (AtLeastMoves lower undecided upper) = codes "at least " ++ (decimal lower ++ (codes "\n"
    ++ ((if undecided then codes "undecided\n" else [])
    ++ option_map_or (λ moves. codes "at most " ++ moves_lines newest clusters moves) upper [])))

-- the answer leaves something undecided
abbrev pub is_left_open : MovesAnswer → Bool
is_left_open (AtLeastMoves lower undecided upper) = undecided
is_left_open answer = false

-- The text tells how many clusters must move for the package of a number, of the newest versions, and that is true.
pub record TellsMoves (number : ℕ) (status : Status) (newest : PackageList) (text : List ℕ) : Type 0 where
  pub p : Package
  pub is_package : slice_get newest.packages number ≡ Some p
  pub clusters : List ToldCluster
  pub are_clusters : AreToldClusters newest clusters
  pub answer : MovesAnswer
  pub means : IsTrueOfMoves newest clusters p answer
  pub is : text ≡ codes "package " ++ (label p ++ (codes "\n" ++ moves_text newest clusters answer))
  pub status_is : status ≡ marked_status (is_left_open answer)

-- ---- journals

-- the line says that a cluster, which goes by a package of it, breaks p at a version: an equal one challenges p
pub record IsTrueOfBroken (essential : Bool) (newest : PackageList) (line : List ℕ) : Type 0 where
  pub p : Package
  pub c : Package
  pub told : List ℕ
  pub version : List ℕ
  pub same : version_cmp told version ≡ Equal
  pub challenges : Challenges essential newest c version p
  pub is : line ≡ codes "broken " ++ (label p ++ (codes " by " ++ (label c ++ (codes " at " ++ (told ++ codes "\n")))))

-- the numbers of steps and of packages held, and true lines
pub record TellsBroken (essential : Bool) (newest : PackageList) (text : List ℕ) : Type 0 where
  pub steps : ℕ
  pub held : ℕ
  pub lines : List (List ℕ)
  pub are_true : All (IsTrueOfBroken essential newest) lines
  pub is : text ≡ counts_text steps held ++ flat_map (λ line. line) lines

-- ---- all

-- CERT begins with a first line of this kind, mode and limit, where the desk tells its files.
abbrev pub BeginsAs : Option Files → (cert : List ℕ) → CertKind → Bool → ℕ → Type 0
BeginsAs files cert kind essential limit = (bytes more : List ℕ) × IsFile files cert bytes
    × (bytes ≡ codes "distfuture-certificate 1 " ++ (kind_text kind ++ (codes " " ++ (mode_text essential
    ++ (codes " " ++ (decimal limit ++ (codes " " ++ more)))))))

-- What each command that is carried out prints is true of what PACKAGES has, for `check` and `follow` at the mode of
-- CERT. `explain` and `repair` are of the package that the option names, `check-explain` and `check-repair` of the one
-- that their text names.
pub record IsTrue (words : List (List ℕ)) (limits : Limits) (result : Status) (files : Option Files)
    (out out' : SinkView) : Type 0 where
  pub sweep : (kind : CertKind) (packages cert : List ℕ) (essential : Bool) (limit : ℕ)
      → command_of words ≡ Some (Sweep kind packages cert essential limit) → IsCarriedOut result
      → TellsOfFile files limits packages out out' (IsTrueReport kind essential limit result)
  pub check : (packages cert : List ℕ) → command_of words ≡ Some (Check packages cert) → IsCarriedOut result
      → (kind : CertKind) × (essential : Bool) × (limit : ℕ) × BeginsAs files cert kind essential limit
      × TellsOfFile files limits packages out out' (IsTrueReport kind essential limit result)
  pub explain : (packages cert named : List ℕ) (limit : ℕ)
      → command_of words ≡ Some (Explain packages cert named limit) → IsCarriedOut result
      → TellsOfFile files limits packages out out' (λ r text. (number : ℕ) × IsNamed r.packages named number
      × TellsAnswer number result r text)
  pub check_explain : (packages cert : List ℕ) → command_of words ≡ Some (CheckExplain packages cert)
      → IsCarriedOut result
      → TellsOfFile files limits packages out out' (λ r text. (number : ℕ) × TellsAnswer number result r text)
  pub repair : (packages cert named : List ℕ) (most limit : ℕ)
      → command_of words ≡ Some (Repair packages cert named most limit) → IsCarriedOut result
      → TellsOfFile files limits packages out out' (λ r text. (newest : PackageList) × IsLatestOf r newest
      × (number : ℕ) × IsNamed newest.packages named number × TellsMoves number result newest text)
  pub check_repair : (packages cert : List ℕ) → command_of words ≡ Some (CheckRepair packages cert)
      → IsCarriedOut result
      → TellsOfFile files limits packages out out' (λ r text. (newest : PackageList) × IsLatestOf r newest
      × (number : ℕ) × TellsMoves number result newest text)
  pub follow : (packages cert journal : List ℕ) → command_of words ≡ Some (Follow packages cert journal)
      → result ≡ Done → (kind : CertKind) × (essential : Bool) × (limit : ℕ)
      × BeginsAs files cert kind essential limit × TellsOfFile files limits packages out out' (λ r text.
      (newest : PackageList) × IsLatestOf r newest × TellsBroken essential newest text)
