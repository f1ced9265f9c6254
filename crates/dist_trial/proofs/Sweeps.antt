-- What comes of a sweep and of the check of its file.
use Rattle.std.proofs.Common.{◌≡◌, ◌≢◌, ◌∙◌, ◌≤◌, inl, inr, ℕ, Bool, cond, false, List, length, Option, Some, Result, Ok, Err, refl, ap, subst, arith}
use Rattle.std.proofs.lemmas.Cmp.{nat_list_cmp_total}
use Rattle.std.specs.Cmp.{eq_by_cmp_equiv}
use Rattle.std.specs.FinMap.{get, insert, get-insert}
use Rattle.dist_base.specs.declared.TheConstants.{DEFAULT_LIMIT, MAX_PACKAGES}
use Rattle.dist_outside.specs.DeskView.{DeskView, Holds}
use Rattle.dist_outside.specs.Files.{Files, Mode, Idle, file_bytes, with_file}
use Rattle.dist_outside.specs.declared.limits.Limits.{Limits}
use Rattle.dist_outside.specs.declared.trouble.What.{What}
use Rattle.dist_outside.specs.declared.trouble.What.TheVariants.{Bytes, Stanzas, Variables, Clauses, Literals, Lines, LineLiterals, Certificate, RecordLine}
use Rattle.dist_outside.specs.declared.trouble.WorkError.{WorkError}
use Rattle.dist_outside.specs.declared.trouble.WorkError.TheVariants.{ReadFault, WriteFault, TooLarge, NoMemory}
use Rattle.dist_repo.specs.Order.{IsInOrder, IsLatestOf}
use Rattle.dist_repo.specs.PackageList.{PackageList}
use Rattle.dist_repo.specs.Size.{IsWithinSize}
use Rattle.dist_cert.specs.declared.faults.CertFault.{CertFault}
use Rattle.dist_cert.specs.declared.records.Claim.{Claim}
use Rattle.dist_cert.specs.declared.records.Header.{Header}
use Rattle.dist_cert.specs.declared.records.CertKind.{CertKind}
use Rattle.dist_cert.specs.declared.records.CertKind.TheVariants as kinds
use Rattle.dist_subject.specs.Basis.{matter_of}
use Rattle.dist_sweep.specs.Sweep.{SweepAnswers, header_of}
use Rattle.dist_check.specs.Answers.{Answers, IsVerdict}
use Rattle.dist_judge.specs.Causes.{IsOfText}
use Rattle.dist_judge.specs.Judging.{OfText}
use Rattle.dist_check.specs.Means.{Means}
use Rattle.dist_check.specs.declared.verdict.Verdict.{Verdict}
use Rattle.dist_check.specs.declared.verdict.Verdict.TheVariants.{Accepted, Refused}
use Rattle.dist_trial.specs.ClaimingPrivate.{in_memory}
use Rattle.dist_trial.specs.Trial.{AreSwept, IsStoppedAt, IsTrial, SweptAnswers, Tells}
use Rattle.dist_trial.specs.declared.trials.Trial.{Trial}

-- ---- a sweep that stops

pub no-error : {X : Type 0} (x : X) (error : WorkError) → Ok x ≢ Err error
no-error x error e = cc

pub same-error : {X : Type 0} (result : Result X WorkError) (error other : WorkError) → result ≡ Err error → result ≡ Err other → error ≡ other
same-error result error other is also = cc

-- what a call tells of numbers that are passed, where an answer is none of them, or is handed on
pub tells-any : {X Y : Type 0} (Passes : What → Type 0) (x : X) (result : Result Y WorkError) → Tells Passes (Ok x) → Tells Passes result
tells-any Passes x result tells = λ what passes. elim (tells what passes) [
  | inl is ↦ absurd (no-error x (TooLarge what) is)
  | inr is ↦ absurd (no-error x NoMemory is)
]

pub tells-none : {Y : Type 0} (Passes : What → Type 0) → Tells {X = Y} Passes (Err NoMemory)
tells-none Passes = λ what passes. inr refl

pub tells-err : {X Y : Type 0} (Passes : What → Type 0) (error : WorkError) → Tells {X = X} Passes (Err error) → Tells {X = Y} Passes (Err error)
tells-err {X} {Y} Passes error tells = λ what passes.
    let result : Result X WorkError = Err error in
    elim (tells what passes) [
      | inl is ↦ inl (ap Err (same-error result error (TooLarge what) refl is))
      | inr is ↦ inr (ap Err (same-error result error NoMemory refl is))
    ]

pub tells-memory : {X Y : Type 0} (Passes : What → Type 0) (error : WorkError) → Tells {X = X} Passes (Err error)
    → Tells {X = Y} Passes (Err (in_memory error))
tells-memory Passes ReadFault tells = tells-none Passes
tells-memory Passes WriteFault tells = tells-none Passes
tells-memory Passes (TooLarge what) tells = tells-err Passes (TooLarge what) tells
tells-memory Passes NoMemory tells = tells-none Passes

-- what the sweep of a kind and its check give
abbrev pub GivesClaims : PackageList → CertKind → Limits → Result (List Claim) WorkError → Type 0
GivesClaims r kind limits result = SweptAnswers (AreSwept r kind limits) (IsStoppedAt r kind limits) result

pub sweep-stops : (r : PackageList) (kind : CertKind) (limits : Limits) (name : List ℕ) (old new : DeskView) (error : WorkError)
    → SweepAnswers r kind false DEFAULT_LIMIT limits name old new (Err error) → GivesClaims r kind limits (Err (in_memory error))
sweep-stops r kind limits name old new ReadFault stops = tt
sweep-stops r kind limits name old new WriteFault stops = tt
sweep-stops r kind limits name old new NoMemory stops = tt
sweep-stops r kind limits name old new (TooLarge Variables) stops = inl stops.1
sweep-stops r kind limits name old new (TooLarge Clauses) stops = inl stops.1
sweep-stops r kind limits name old new (TooLarge Literals) stops = inl stops.1
sweep-stops r kind limits name old new (TooLarge Bytes) stops = inr (stops.0, stops.2)
sweep-stops r kind limits name old new (TooLarge Stanzas) stops = inr (stops.0, stops.2)
sweep-stops r kind limits name old new (TooLarge Lines) stops = inr (stops.0, stops.2)
sweep-stops r kind limits name old new (TooLarge LineLiterals) stops = inr (stops.0, stops.2)
sweep-stops r kind limits name old new (TooLarge Certificate) stops = inr (stops.0, stops.2)
sweep-stops r kind limits name old new (TooLarge RecordLine) stops = inr (stops.0, stops.2)

-- the same error in place of another value
pub stops-alike : {X Y : Type 0} (Gives : X → Type 0) (Others : Y → Type 0) (Stops More : What → Type 0) (error : WorkError)
    → ((what : What) → Stops what → More what) → SweptAnswers Gives Stops (Err error) → SweptAnswers Others More (Err error)
stops-alike Gives Others Stops More ReadFault more stops = stops
stops-alike Gives Others Stops More WriteFault more stops = stops
stops-alike Gives Others Stops More NoMemory more stops = stops
stops-alike Gives Others Stops More (TooLarge what) more stops = more what stops

-- what the three sweeps and their checks give
abbrev pub GivesTrial : ℕ → PackageList → Limits → Result Trial WorkError → Type 0
GivesTrial size r limits result = SweptAnswers (λ done. IsTrial size limits done r) (λ what. (kind : CertKind) × IsStoppedAt r kind limits what) result

-- one that stops
pub kind-stops : (size : ℕ) (r : PackageList) (kind : CertKind) (limits : Limits) (error : WorkError) → GivesClaims r kind limits (Err error)
    → GivesTrial size r limits (Err error)
kind-stops size r kind limits error stops =
    stops-alike (AreSwept r kind limits) (λ done. IsTrial size limits done r) (IsStoppedAt r kind limits)
    (λ what. (other : CertKind) × IsStoppedAt r other limits what) error (λ what stopped. (kind, stopped)) stops

-- ---- the check of a sweep's file

-- what a file just put there has
get-same : (files : Files) (name x : List ℕ) → get (insert files name x) name ≡ Some x
get-same files name x = get-insert nat_list_cmp_total files name x name
    ∙ ap (λ same. cond same (Some x) (get files name)) ((eq_by_cmp_equiv nat_list_cmp_total).refl name)

of-file : (P : List ℕ → Type 0) (files : Files) (name text : List ℕ) (mode : Mode) (old new : DeskView) → old.files ≡ Some files → Holds name text mode old new
    → OfText (file_bytes new.files name) P → P text
of-file P files name text mode old new told holds of =
    let kept : new.files ≡ Some (insert files name text) = holds.files ∙ ap (λ (f : Option Files). with_file f name text) told in
    let found : OfText (get (insert files name text) name) P = subst (λ (f : Option Files). OfText (file_bytes f name) P) kept of in
    subst (λ (o : Option (List ℕ)). OfText o P) (get-same files name text) found

abbrev pub RightLaw : Type 0
RightLaw = (r : PackageList) (limits : Limits) (text : List ℕ) (verdict : Verdict) → Answers r limits text (Ok verdict) → IsVerdict r limits text verdict

abbrev pub OneVerdictLaw : Type 0
OneVerdictLaw = (r : PackageList) (limits : Limits) (text : List ℕ) (verdict other : Verdict) → IsVerdict r limits text verdict → IsVerdict r limits text other
    → verdict ≡ other

-- What a sweep wrote to a desk that tells its files.
abbrev pub IsWritten : PackageList → CertKind → Limits → (name : List ℕ) → Files → (old new : DeskView) → List Claim → Type 0
IsWritten r kind limits name files old new made = (old.files ≡ Some files) × SweepAnswers r kind false DEFAULT_LIMIT limits name old new (Ok made)

verdict-same : RightLaw → OneVerdictLaw → (r : PackageList) (kind : CertKind) (limits : Limits) (name : List ℕ) (files : Files) (old new : DeskView)
    (made : List Claim) (verdict : Verdict) → (w : IsWritten r kind limits name files old new made)
    → OfText (file_bytes new.files name) (λ text. Answers r limits text (Ok verdict))
    → Accepted (header_of kind false DEFAULT_LIMIT (matter_of r w.1.2.0)) made ≡ verdict
verdict-same right one r kind limits name files old new made verdict w of =
    let text : List ℕ = w.1.0 in
    let answers : Answers r limits text (Ok verdict) = of-file (λ t. Answers r limits t (Ok verdict)) files name text Idle old new w.0 w.1.1 of in
    let first : Verdict = Accepted (header_of kind false DEFAULT_LIMIT (matter_of r w.1.2.0)) made in
    one r limits text first verdict (right r limits text first w.1.2.2.0) (right r limits text verdict answers)

same-claims : (h other : Header) (made claims : List Claim) → Accepted h made ≡ Accepted other claims → made ≡ claims
same-claims h other made claims e = cc

accepted≢refused : (h : Header) (made : List Claim) (fault : CertFault) → Accepted h made ≢ Refused fault
accepted≢refused h made fault e = cc

pub accepted : RightLaw → OneVerdictLaw → (r : PackageList) (kind : CertKind) (limits : Limits) (name : List ℕ) (files : Files) (old new : DeskView)
    (made : List Claim) (h : Header) (claims : List Claim)
    → IsWritten r kind limits name files old new made → OfText (file_bytes new.files name) (λ text. Answers r limits text (Ok (Accepted h claims)))
    → AreSwept r kind limits claims
accepted right one r kind limits name files old new made h claims w of =
    let same = same-claims (header_of kind false DEFAULT_LIMIT (matter_of r w.1.2.0)) h made claims
    (verdict-same right one r kind limits name files old new made (Accepted h claims) w of) in
    subst (AreSwept r kind limits) same (w.1.0, w.1.2)

pub not-refused : RightLaw → OneVerdictLaw → (r : PackageList) (kind : CertKind) (limits : Limits) (name : List ℕ) (files : Files) (old new : DeskView)
    (made : List Claim) (fault : CertFault)
    → IsWritten r kind limits name files old new made → ¬ OfText (file_bytes new.files name) (λ text. Answers r limits text (Ok (Refused fault)))
not-refused right one r kind limits name files old new made fault w of =
    accepted≢refused (header_of kind false DEFAULT_LIMIT (matter_of r w.1.2.0)) made fault
    (verdict-same right one r kind limits name files old new made (Refused fault) w of)

abbrev pub OneAnswerLaw : Type 0
OneAnswerLaw = (r : PackageList) (limits : Limits) (text : List ℕ) (result other : Result Verdict WorkError) → IsInOrder r.packages
    → Answers r limits text result → Answers r limits text other
    → IsOfText result → IsOfText other → other ≡ result

large≢verdict : (what : What) (verdict : Verdict) → Err (TooLarge what) ≢ Ok verdict
large≢verdict what verdict e = cc

pub not-large : OneAnswerLaw → (r : PackageList) (kind : CertKind) (limits : Limits) (name : List ℕ) (files : Files) (old new : DeskView) (made : List Claim)
    (what : What) → IsInOrder r.packages
    → IsWritten r kind limits name files old new made → ¬ OfText (file_bytes new.files name) (λ text. Answers r limits text (Err (TooLarge what)))
not-large one r kind limits name files old new made what ordered w of =
    let text : List ℕ = w.1.0 in
    let answers : Answers r limits text (Err (TooLarge what)) =
    of-file (λ t. Answers r limits t (Err (TooLarge what))) files name text Idle old new w.0 w.1.1 of in
    let first : Verdict = Accepted (header_of kind false DEFAULT_LIMIT (matter_of r w.1.2.0)) made in
    large≢verdict what first (one r limits text (Ok first) (Err (TooLarge what)) ordered w.1.2.2.0 answers tt tt)

-- ---- how many claims there are

abbrev pub WithinLaw : Type 0
WithinLaw = (r latest : PackageList) → IsLatestOf r latest → IsWithinSize r → IsWithinSize latest

-- no more than packages
pub few-claims : WithinLaw → (r : PackageList) (kind : CertKind) (essential : Bool) (made : List Claim) → IsWithinSize r → Means kind essential r made
    → length made ≤ MAX_PACKAGES
few-claims within r kinds.Strong essential made size means = omega (arith, means.are_claims.one_each, size.packages)
few-claims within r kinds.Outdated essential made size means = omega (arith, means.2.one_each, (within r means.0 means.1 size).packages)
few-claims within r kinds.Challenged essential made size means = omega (arith, means.3.one_each, (within r means.0.repository means.1 size).packages)
