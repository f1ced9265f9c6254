-- Which packages may match an atom by new versions. No public clause cites it.
use Rattle.std.specs.Prelude.{◌≡◌, ◌⊎◌, ◌↔◌, ◌<◌, ℕ, List, [], All, Any, Contains, IsSomeAnd, length, unwrap_or}
use Rattle.std.specs.BTreeMap.{is_at}
use Rattle.std.specs.Cmp.Lexicographic.{slice_cmp}
use Rattle.std.specs.Map.{lookup}
use Rattle.std.specs.Ordering.{nat_cmp}
use Rattle.std.specs.declared.cmp.Ordering.TheVariants.{Equal}
use Rattle.dist_version.specs.Order.{version_cmp}
use Rattle.dist_relation.specs.declared.atom.Atom.{Atom}
use Rattle.dist_relation.specs.declared.atom.Provide.{Provide}
use Rattle.dist_repo.specs.PackageList.{PackageList, IsPackageAnd}
use Rattle.dist_repo.specs.declared.package.Package.{Package}
use Rattle.dist_space.specs.Space.{IsMatchedBy, SpaceView}
use Rattle.dist_space.specs.declared.meaning.Meaning.{Meaning}
use Rattle.dist_space_clauses.specs.GatheringPrivate.{IsLaterOf}

abbrev pub Entries : Type 0
Entries = List (List ℕ × List ℕ)

-- the numbers beside a name
abbrev pub numbers_at : Entries → List ℕ → List ℕ
numbers_at entries name = unwrap_or (lookup (is_at (slice_cmp nat_cmp name)) entries) []

-- a list with one number more
abbrev pub IsWith : (list : List ℕ) → (number : ℕ) → (new : List ℕ) → Type 0
IsWith list number new = (x : ℕ) → Contains new x ↔ (Contains list x ⊎ (number ≡ x))

-- beside each name the numbers that go with it are there too
abbrev pub Notes : (old new : Entries) → (List ℕ → ℕ → Type 0) → Type 0
Notes old new P = (q : List ℕ) (n : ℕ) → Contains (numbers_at new q) n ↔ (Contains (numbers_at old q) n ⊎ P q n)

-- an entry that has the version of its package, and so goes with it
abbrev pub GoesAlong : Package → Provide → Type 0
GoesAlong p entry = IsSomeAnd entry.version (λ version. version_cmp version p.version ≡ Equal)

-- the package has the name, or an entry of the name that goes with it
abbrev pub IsMover : List ℕ → Package → Type 0
IsMover name p = (p.name ≡ name) ⊎ Any (λ entry. GoesAlong p entry × (entry.name ≡ name)) p.provides

-- beside each name are the packages of which that holds
abbrev pub AreMovers : PackageList → Entries → Type 0
AreMovers r entries = (name : List ℕ) (number : ℕ) → Contains (numbers_at entries name) number
    ↔ IsPackageAnd r.packages number (IsMover name)

-- The packages that may offer what an atom matches by new versions: all that do are there.
pub record AreCandidates (s : SpaceView) (atom : Atom) (numbers : List ℕ) : Type 0 where
  pub within : All (λ number. number < length s.repository.packages) numbers
  pub whole : (number : ℕ) (m : Meaning) → IsLaterOf number m → IsMatchedBy s atom m → Contains numbers number
