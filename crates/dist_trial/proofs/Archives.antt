-- A generated text as an archive at a limit.
use Rattle.std.proofs.Common.{◌≡◌, ◌≢◌, ◌⊎◌, ◌∙◌, List, Result, Ok, Err, IsErrAnd, inl, inr, ℕ, ◌<◌, ◌≤◌, length, refl, sym, subst}
use Rattle.std.proofs.lemmas.Bool.{cases_lt}
use Rattle.dist_base.specs.declared.TheConstants.{MAX_SIZE}
use Rattle.dist_control.specs.RawStanza.{raw_stanzas}
use Rattle.dist_outside.specs.declared.limits.Limits.{Limits}
use Rattle.dist_outside.specs.declared.trouble.WorkError.{WorkError}
use Rattle.dist_package.specs.FirstFault.{IsRefused, IsTooMany}
use Rattle.dist_package.specs.OneAnswer.{HasOneAnswer}
use Rattle.dist_package.specs.RepositoryOf.{IsRepositoryOf}
use Rattle.dist_package.specs.declared.error.Fault.{Fault}
use Rattle.dist_package.specs.declared.error.PackagesError.{PackagesError}
use Rattle.dist_package.specs.declared.error.PackagesError.TheVariants.{Bad, TooMany, NoMemory}
use Rattle.dist_repo.specs.PackageList.{PackageList}
use Rattle.dist_repo.specs.Size.{IsWithinSize}
use Rattle.dist_generate.specs.Archive.{IsArchive}
use Rattle.dist_generate.specs.Generator.{generated}
use Rattle.dist_trial.specs.Trial.{OfArchive}

abbrev pub ArchiveLaw : Type 0
ArchiveLaw = (size seed limit : ℕ) → size ≤ MAX_SIZE → size ≤ limit → IsArchive size seed limit

abbrev pub TooManyLaw : Type 0
TooManyLaw = (size seed limit : ℕ) → size ≤ MAX_SIZE → limit < size → IsTooMany (raw_stanzas (generated size seed)) limit

abbrev pub OneAnswerLaw : Type 0
OneAnswerLaw = (text : List ℕ) (limit : ℕ) → HasOneAnswer text limit

-- what reads has no stanza too many
reaches : OneAnswerLaw → TooManyLaw → (size seed limit : ℕ) (r : PackageList) → size ≤ MAX_SIZE → IsRepositoryOf (generated size seed) limit r → size ≤ limit
reaches one many size seed limit r few is = elim (cases_lt limit size) [
  | inl past ↦ absurd ((one (generated size seed) limit).never_both r TooMany is (many size seed limit few past))
  | inr within ↦ within
]

pub is-archive : OneAnswerLaw → TooManyLaw → (size seed : ℕ) (limits : Limits) (r : PackageList) → size ≤ MAX_SIZE → length (generated size seed) ≤ limits.bytes
    → IsRepositoryOf (generated size seed) limits.stanzas r → OfArchive size seed limits (λ other. other ≡ r)
is-archive one many size seed limits r few bytes is =
    record { bytes = bytes; stanzas = reaches one many size seed limits.stanzas r few is; repository = r; is_repository = is; holds = refl }

-- and it is of a size that is asked
pub within-size : OneAnswerLaw → ArchiveLaw → TooManyLaw → (size seed limit : ℕ) (r : PackageList) → size ≤ MAX_SIZE
    → IsRepositoryOf (generated size seed) limit r → IsWithinSize r
within-size one archive many size seed limit r few is =
    let a = archive size seed limit few (reaches one many size seed limit r few is) in
    subst IsWithinSize ((one (generated size seed) limit).one_repository r a.repository is a.is_repository) a.within_size

-- a refusal says that there are too many stanzas
pub is-past : OneAnswerLaw → ArchiveLaw → (size seed limit : ℕ) (error : PackagesError) → size ≤ MAX_SIZE
    → IsRefused (raw_stanzas (generated size seed)) limit error → limit < size
is-past one archive size seed limit error few refused = elim (cases_lt limit size) [
  | inl past ↦ past
  | inr within ↦ (
      let a = archive size seed limit few within in
      absurd ((one (generated size seed) limit).never_both a.repository error a.is_repository refused)
      )
]

bad≢many : (fault : Fault) → Bad fault ≢ TooMany
bad≢many fault e = cc

pub no-fault : OneAnswerLaw → ArchiveLaw → TooManyLaw → (size seed limit : ℕ) (fault : Fault) → size ≤ MAX_SIZE
    → ¬ IsRefused (raw_stanzas (generated size seed)) limit (Bad fault)
no-fault one archive many size seed limit fault few refused =
    bad≢many fault
    ((one (generated size seed) limit).one_error TooMany (Bad fault) (many size seed limit few (is-past one archive size seed limit (Bad fault) few refused))
    refused)

-- ---- what the reader says of a text that is generated

many≢memory : TooMany ≢ NoMemory
many≢memory e = cc

bad≢memory : (fault : Fault) → Bad fault ≢ NoMemory
bad≢memory fault e = cc

-- the reader refuses the text with this error
abbrev pub IsToldOf : (text : List ℕ) (limit : ℕ) → PackagesError → Type 0
IsToldOf text limit error = (error ≡ NoMemory) ⊎ IsRefused (raw_stanzas text) limit error

pub told-past : OneAnswerLaw → ArchiveLaw → (size seed limit : ℕ) (text : List ℕ) (error : PackagesError) → size ≤ MAX_SIZE → text ≡ generated size seed
    → error ≡ TooMany → IsToldOf text limit error → limit < size
told-past one archive size seed limit text error few same is (inl none) = absurd (many≢memory (sym is ∙ none))
told-past one archive size seed limit text error few same is (inr refused) =
    is-past one archive size seed limit error few (subst (λ (t : List ℕ). IsRefused (raw_stanzas t) limit error) same refused)

pub told-fault : OneAnswerLaw → ArchiveLaw → TooManyLaw → (size seed limit : ℕ) (text : List ℕ) (error : PackagesError) (fault : Fault) → size ≤ MAX_SIZE
    → text ≡ generated size seed → error ≡ Bad fault → IsToldOf text limit error → ⊥
told-fault one archive many size seed limit text error fault few same is (inl none) = bad≢memory fault (sym is ∙ none)
told-fault one archive many size seed limit text error fault few same is (inr refused) =
    no-fault one archive many size seed limit fault few
    (subst (λ (e : PackagesError). IsRefused (raw_stanzas (generated size seed)) limit e) is
    (subst (λ (t : List ℕ). IsRefused (raw_stanzas t) limit error) same refused))

-- a clause at the error that a `?` hands on
pub by-exit : {X : Type 0} (P : Result X WorkError → Type 0) (result : Result X WorkError) (error : WorkError) → IsErrAnd result (λ e. e ≡ error)
    → P (Err error) → P result
by-exit P (Ok x) error is holds = absurd is
by-exit P (Err e) error is holds = subst (λ (y : WorkError). P (Err y)) (sym is) holds
