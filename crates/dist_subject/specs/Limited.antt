-- The limits within which a certificate is written or checked.
use Rattle.std.specs.Prelude.{Bool, ◌<◌, ◌≤◌, length}
use Rattle.dist_clause.specs.ClauseList.{literal_count}
use Rattle.dist_base.specs.declared.TheConstants.{MAX_VARIABLES, MAX_CLAUSES, MAX_LITERALS, MAX_LINES}
use Rattle.dist_base.specs.declared.TheConstants.{MAX_LINE_LITERALS}
use Rattle.dist_outside.specs.declared.limits.Limits.{Limits}
use Rattle.dist_outside.specs.declared.trouble.What.{What}
use Rattle.dist_outside.specs.declared.trouble.What.TheVariants.{Variables, Clauses, Literals}
use Rattle.dist_repo.specs.Order.{IsLatestOf}
use Rattle.dist_repo.specs.PackageList.{PackageList}
use Rattle.dist_now.specs.PresentSet as present
use Rattle.dist_space.specs.Space.{SpaceView}
use Rattle.dist_space.specs.SpaceOf.{IsSpaceOf}
use Rattle.dist_space_clauses.specs.SpaceSet as futures
use Rattle.dist_subject.specs.Basis.{Basis, Today, Later, matter_of}
use Rattle.dist_cert.specs.declared.records.CertKind.{CertKind}
use Rattle.dist_cert.specs.declared.records.CertKind.TheVariants.{Strong, Outdated, Challenged}

-- the limits of variables, of clauses and of derived lines are at most the stated ones
pub record AreStated (limits : Limits) : Type 0 where
  pub variables : limits.variables ≤ MAX_VARIABLES
  pub clauses : limits.clauses ≤ MAX_CLAUSES
  pub literals : limits.literals ≤ MAX_LITERALS
  pub lines : limits.lines ≤ MAX_LINES
  pub line_literals : limits.line_literals ≤ MAX_LINE_LITERALS

-- the space of the newest packages at a mode, of which something holds
abbrev pub OfSpace : PackageList → Bool → (SpaceView → Type 0) → Type 0
OfSpace r essential P = (space : SpaceView) × IsLatestOf r space.repository
    × IsSpaceOf space.repository essential space × P space

-- of kind strong: the number that the clauses of the present pass first
abbrev pub PassesPresent : PackageList → Bool → Limits → What → Type 0
PassesPresent r essential limits Clauses = present.PassesClauses r essential limits.clauses limits.literals
PassesPresent r essential limits Literals = present.PassesLiterals r essential limits.clauses limits.literals
PassesPresent r essential limits what = ⊥

-- of the other kinds: that of the variables of the space, or else the number that its clauses pass first
abbrev pub PassesLater : PackageList → Bool → Limits → What → Type 0
PassesLater r essential limits Variables = OfSpace r essential (λ space. limits.variables < length space.meanings)
PassesLater r essential limits Clauses = OfSpace r essential (λ space. (length space.meanings ≤ limits.variables)
    × futures.PassesClauses space limits.clauses limits.literals)
PassesLater r essential limits Literals = OfSpace r essential (λ space. (length space.meanings ≤ limits.variables)
    × futures.PassesLiterals space limits.clauses limits.literals)
PassesLater r essential limits what = ⊥

-- The number that what certificates of a kind and mode are judged by passes first.
abbrev pub PassesFirst : PackageList → CertKind → Bool → Limits → What → Type 0
PassesFirst r Strong = PassesPresent r
PassesFirst r Outdated = PassesLater r
PassesFirst r Challenged = PassesLater r

-- a space has at most so many variables; the present has one for each package
abbrev pub KeepsVariables : Limits → Basis → Type 0
KeepsVariables limits (Today essential inputs) = Unit {0}
KeepsVariables limits (Later space inputs) = length space.meanings ≤ limits.variables

-- What certificates are judged by keeps the numbers: the variables of a space, the input clauses, and their literals.
pub record AreInputsWithin (limits : Limits) (r : PackageList) (basis : Basis) : Type 0 where
  pub variables : KeepsVariables limits basis
  pub clauses : length (matter_of r basis).inputs ≤ limits.clauses
  pub literals : literal_count (matter_of r basis).inputs ≤ limits.literals
