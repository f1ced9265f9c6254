-- One basis at each kind and mode.
use Rattle.std.proofs.Common.{◌≡◌, Bool, List, refl, sym, ap, subst, ◌∙◌}
use Rattle.std.specs.List.{All}
use Rattle.dist_version.specs.Spelling.{IsVersion}
use Rattle.dist_clause.specs.Formula.{Literal}
use Rattle.dist_repo.specs.Order.{IsFlat, IsInOrder, IsLatestOf}
use Rattle.dist_repo.specs.PackageList.{PackageList}
use Rattle.dist_now.specs.PresentClauses.{ArePresentClauses}
use Rattle.dist_classes.specs.Atoms.{AreBoundsVersions}
use Rattle.dist_space.specs.Space.{SpaceView, IsSpace}
use Rattle.dist_space.specs.SpaceOf.{IsSpaceOf}
use Rattle.dist_space_clauses.specs.SpaceClauses.{AreSpaceClauses}
use Rattle.dist_cert.specs.declared.records.CertKind.{CertKind}
use Rattle.dist_cert.specs.declared.records.CertKind.TheVariants.{Strong, Outdated, Challenged}
use Rattle.dist_subject.specs.Basis.{Basis, Today, Later, HaveVersions, IsBasisOf, IsLaterOf}

abbrev pub AreThere : Type 0
AreThere = (r : PackageList) (essential : Bool) → IsInOrder r.packages → (clauses : List (List Literal)) × ArePresentClauses r essential clauses

pub today-there : AreThere → (r : PackageList) (essential : Bool) → IsInOrder r.packages → (basis : Basis) × IsBasisOf r Strong essential basis
today-there law r essential ordered = let some = law r essential ordered in (Today essential some.0, (refl, some.1))

abbrev pub AreSpacesThere : Type 0
AreSpacesThere = (r : PackageList) (essential : Bool) → IsFlat r.packages → AreBoundsVersions r → All (λ p. IsVersion p.version) r.packages
    → (s : SpaceView) × IsSpaceOf r essential s

abbrev pub AreClausesThere : Type 0
AreClausesThere = (s : SpaceView) → IsSpace s → (clauses : List (List Literal)) × AreSpaceClauses s clauses

some-later : AreSpacesThere → AreClausesThere → (r latest : PackageList) (essential : Bool) → IsLatestOf r latest → AreBoundsVersions latest
    → All (λ p. IsVersion p.version) latest.packages → (s : SpaceView) × (clauses : List (List Literal)) × IsLaterOf r essential s clauses
some-later spaces clauses r latest essential newest bounds versions =
    let some = spaces latest essential newest.flat bounds versions in
    let made = clauses some.0 some.1.space in (
      some.0,
      made.0,
      record {
        newest = subst (IsLatestOf r) (sym some.1.repository) newest;
        is_space = subst (λ l. IsSpaceOf l essential some.0) (sym some.1.repository) some.1;
        are_clauses = made.1;
      },
    )

abbrev pub IsLatestThere : Type 0
IsLatestThere = (r : PackageList) → IsInOrder r.packages → (latest : PackageList) × IsLatestOf r latest

later-of : AreSpacesThere → AreClausesThere → IsLatestThere → (r : PackageList) (essential : Bool) → IsInOrder r.packages → HaveVersions r
    → (s : SpaceView) × (clauses : List (List Literal)) × IsLaterOf r essential s clauses
later-of spaces clauses newest r essential ordered versions =
    let latest = newest r ordered in
    let have = versions latest.0 latest.1 in
    some-later spaces clauses r latest.0 essential latest.1 have.1 have.0

pub some-there : AreThere → AreSpacesThere → AreClausesThere → IsLatestThere → (r : PackageList) (kind : CertKind) (essential : Bool)
    → IsInOrder r.packages → HaveVersions r → (basis : Basis) × IsBasisOf r kind essential basis
some-there present spaces clauses newest r Strong essential ordered versions = today-there present r essential ordered
some-there present spaces clauses newest r Outdated essential ordered versions =
    let some = later-of spaces clauses newest r essential ordered versions in (Later some.0 some.1, some.2)
some-there present spaces clauses newest r Challenged essential ordered versions =
    let some = later-of spaces clauses newest r essential ordered versions in (Later some.0 some.1, some.2)

-- the laws of the crates below
pub record BasisLaws : Type 0 where
  pub present : (r : PackageList) (essential : Bool) (clauses other : List (List Literal)) → ArePresentClauses r essential clauses
      → ArePresentClauses r essential other → other ≡ clauses
  pub spaces : (r : PackageList) (essential : Bool) (s other : SpaceView) → IsSpaceOf r essential s → IsSpaceOf r essential other → other ≡ s
  pub latest : (r latest other : PackageList) → IsLatestOf r latest → IsLatestOf r other → other ≡ latest
  pub clauses : (s : SpaceView) (clauses other : List (List Literal)) → AreSpaceClauses s clauses → AreSpaceClauses s other → other ≡ clauses

one-later : BasisLaws → (r : PackageList) (essential : Bool) (s t : SpaceView) (inputs others : List (List Literal)) → IsLaterOf r essential s inputs
    → IsLaterOf r essential t others → Later t others ≡ Later s inputs
one-later laws r essential s t inputs others first second =
    let newest : t.repository ≡ s.repository = laws.latest r s.repository t.repository first.newest second.newest in
    let same : t ≡ s = laws.spaces s.repository essential s t first.is_space (subst (λ l. IsSpaceOf l essential t) newest second.is_space) in
    let clauses : others ≡ inputs = laws.clauses s inputs others first.are_clauses (subst (λ u. AreSpaceClauses u others) same second.are_clauses) in
    ap (λ u. Later u others) same ∙ ap (λ c. Later s c) clauses

pub one-basis : BasisLaws → (r : PackageList) (kind : CertKind) (essential : Bool) (basis other : Basis) → IsBasisOf r kind essential basis
    → IsBasisOf r kind essential other → other ≡ basis
one-basis laws r Strong essential (Today mode inputs) (Today other others) first second =
    ap (λ m. Today m others) (second.0 ∙ sym first.0) ∙ ap (λ c. Today mode c) (laws.present r essential inputs others first.1 second.1)
one-basis laws r Strong essential (Today mode inputs) (Later t others) first second = absurd second
one-basis laws r Strong essential (Later s inputs) other first second = absurd first
one-basis laws r Outdated essential (Later s inputs) (Later t others) first second = one-later laws r essential s t inputs others first second
one-basis laws r Outdated essential (Later s inputs) (Today mode others) first second = absurd second
one-basis laws r Outdated essential (Today mode inputs) other first second = absurd first
one-basis laws r Challenged essential (Later s inputs) (Later t others) first second = one-later laws r essential s t inputs others first second
one-basis laws r Challenged essential (Later s inputs) (Today mode others) first second = absurd second
one-basis laws r Challenged essential (Today mode inputs) other first second = absurd first
