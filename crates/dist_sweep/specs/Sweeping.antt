-- What is kept between the first line and the last one of a sweep, and what it leaves where it stops.
use Rattle.std.specs.Prelude.{◌≡◌, ◌⊎◌, ℕ, Bool, List, [], ◌∷◌, ◌++◌, Result, length}
use Rattle.dist_outside.specs.DeskView.{DeskView, FileGrew}
use Rattle.dist_outside.specs.declared.limits.Limits.{Limits}
use Rattle.dist_outside.specs.declared.trouble.WorkError.{WorkError}
use Rattle.dist_repo.specs.Order.{IsInOrder}
use Rattle.dist_repo.specs.PackageList.{PackageList}
use Rattle.dist_cert.specs.declared.records.CertKind.{CertKind}
use Rattle.dist_cert.specs.declared.records.CertRecord.{CertRecord}
use Rattle.dist_cert.specs.declared.records.CertRecord.TheVariants.{End}
use Rattle.dist_cert.specs.declared.records.Claim.{Claim}
use Rattle.dist_cert.specs.declared.records.Header.{Header}
use Rattle.dist_cert.specs.Accepted.{claims_in}
use Rattle.dist_cert.specs.Form.{header_text}
use Rattle.dist_cert.specs.Groups.{claim_count}
use Rattle.dist_cert.specs.PartByRecordsLaws.{IsHeaderOf}
use Rattle.dist_cert.specs.FileLines.{lines_text}
use Rattle.dist_cert.specs.Refusal.{certificate_text}
use Rattle.dist_subject.specs.Basis.{Basis, IsBasisOf, matter_of}
use Rattle.dist_subject.specs.Inputs.{AreInputsOf}
use Rattle.dist_subject.specs.Limited.{AreInputsWithin}
use Rattle.dist_line_write.specs.Asking.{AskerView, IsLogAt}
use Rattle.dist_line_write.specs.Script.{StopsIn, new_writer}
use Rattle.dist_subject.specs.Installed.{ModelsStand}
use Rattle.dist_sweep.specs.Script.{Setting, AreWritten, IsCutOff, Stops, StopsBy, matter_in, script_of}
use Rattle.dist_sweep.specs.Claiming.{Keeping, IsSwept}
use Rattle.dist_sweep.specs.Sweep.{SweepAnswers, header_of}
use Rattle.dist_sweep.specs.Window.{WindowView, IsWindowAt}
use Rattle.dist_sweep.specs.declared.sweep.SweepInputs.{SweepInputs}

-- ---- the claims

-- Nothing is claimed yet, and there are so many packages.
pub record StartsClaims {C : Type 0} (Keeps : Keeping C) (g : Setting) (packages : ℕ) (a : AskerView) (w : WindowView)
    (c : C) : Type 0 where
  pub swept : IsSwept g [] a w
  pub keeps : Keeps g [] c
  pub packages_are : packages ≡ (matter_in g).packages

-- The lines of these claims were written behind the first line.
pub record AreClaimed (g : Setting) (old new : DeskView) (a : AskerView) (w : WindowView)
    (Kept : List CertRecord → Type 0) (made : List Claim) : Type 0 where
  pub lines : List CertRecord
  pub grew : FileGrew (lines_text lines) old new
  pub swept : IsSwept g lines a w
  pub kept : Kept lines
  pub counted : claim_count lines ≡ length made
  pub claims : claims_in lines ≡ made

-- Where nothing is claimed yet, the lines of all claims were written.
abbrev pub ClaimsMore : {C : Type 0} → Keeping C → ℕ → DeskView → DeskView → AskerView → AskerView → WindowView
    → WindowView → C → C → List Claim → Type 0
ClaimsMore Keeps packages old new a b w v c d made = (g : Setting) → StartsClaims Keeps g packages a w c
    → AreClaimed g old new b v (λ lines. Keeps g lines d) made

-- or the writing stops at one of them
abbrev pub ClaimsStop : {C : Type 0} → Keeping C → ℕ → DeskView → DeskView → AskerView → WindowView → C → WorkError
    → Type 0
ClaimsStop Keeps packages old new a w c error = (g : Setting) → StartsClaims Keeps g packages a w c
    → Stops g [] old new error

-- ---- the whole

-- Nothing was written, and what is kept fits the first line and the limits.
pub record Begins {C : Type 0} (Keeps : Keeping C) (g : Setting) (header : Header) (a : AskerView) (w : WindowView)
    (c : C) : Type 0 where
  pub header_is : header ≡ g.header
  pub packages : g.header.packages ≡ (matter_in g).packages
  pub log : IsLogAt (script_of g) [] a.log a.limit
  pub stand : ModelsStand (matter_in g)
  pub writer : a.writer ≡ new_writer g.limits
  pub window : IsWindowAt [] w
  pub keeps : Keeps g [] c

-- All lines of these claims were written, from the first to the end.
pub record IsWhole (g : Setting) (old new : DeskView) (made : List Claim) : Type 0 where
  pub lines : List CertRecord
  pub written : AreWritten g (lines ++ End ∷ [])
  pub grew : FileGrew (certificate_text g.header (lines ++ End ∷ [])) old new
  pub claims : claims_in (lines ++ End ∷ []) ≡ made

-- The writing stopped behind the first line.
pub record StopsLater (g : Setting) (old new : DeskView) (error : WorkError) : Type 0 where
  pub lines : List CertRecord
  pub cut : List ℕ
  pub written : AreWritten g lines
  pub grew : FileGrew (certificate_text g.header lines ++ cut) old new
  pub cut_off : (cut ≡ []) ⊎ IsCutOff g lines cut
  pub by : StopsBy g lines cut old new error

-- Where nothing was written, all lines were, from the first to the end.
abbrev pub SweepMore : {C : Type 0} → Keeping C → Header → DeskView → DeskView → AskerView → WindowView → C
    → List Claim → Type 0
SweepMore Keeps header old new a w c made = (g : Setting) → Begins Keeps g header a w c → IsWhole g old new made

-- or the writing stops, in the first line or behind it
abbrev pub SweepStops : {C : Type 0} → Keeping C → Header → DeskView → DeskView → AskerView → WindowView → C
    → WorkError → Type 0
SweepStops Keeps header old new a w c error = (g : Setting) → Begins Keeps g header a w c
    → StopsIn (script_of g) (header_text g.header) [] old new error ⊎ StopsLater g old new error

-- ---- the file

-- the packages, what certificates on them are judged by, the first line of theirs, and the limits
abbrev pub setting_of : PackageList → CertKind → Bool → ℕ → Limits → Basis → Setting
setting_of r kind essential limit limits basis = record {
  repo = r;
  basis = basis;
  header = header_of kind essential limit (matter_of r basis);
  limits = limits;
}

-- no installations
abbrev pub new_window : ℕ → WindowView
new_window variables = record { kept = []; count = 0; variables = variables }

-- A sweep may begin, with a first line of a form.
pub record MayBegin {C : Type 0} (Keeps : Keeping C) (r : PackageList) (kind : CertKind) (essential : Bool) (limit : ℕ)
    (limits : Limits) (header : Header) (a : AskerView) (c : C) : Type 0 where
  pub basis : Basis
  pub is_basis : IsBasisOf r kind essential basis
  pub kept : AreInputsWithin limits r basis
  pub header_of : IsHeaderOf (matter_of r basis)
      (setting_of r kind essential limit limits basis).header
  pub begins : Begins Keeps (setting_of r kind essential limit limits basis) header a (new_window a.log.variables) c

-- Where a sweep may begin, the answer is as it is to be, and so is what it leaves of the file.
abbrev pub FileAnswers : {C : Type 0} → Keeping C → Header → AskerView → C → (name : List ℕ) → DeskView → DeskView
    → Result (List Claim) WorkError → Type 0
FileAnswers Keeps header a c name old new result =
    (r : PackageList) (kind : CertKind) (essential : Bool) (limit : ℕ) (limits : Limits)
    → MayBegin Keeps r kind essential limit limits header a c
    → SweepAnswers r kind essential limit limits name old new result

-- ---- the sweep

-- the first line
abbrev pub first_header : SweepInputs → Header
first_header over = record {
  kind = over.kind;
  limit = over.limit;
  packages = over.packages;
  variables = over.clauses.variables;
  clauses = length over.clauses.clauses;
  essential = over.essential;
}

-- Over the input clauses of what certificates of a kind and mode are judged by, and where the claimant keeps what no
-- lines hold, the answer is as it is to be, and so is what it leaves of the file.
abbrev pub SweepsOver : {C : Type 0} → Keeping C → SweepInputs → Limits → C → (name : List ℕ) → DeskView → DeskView
    → Result (List Claim) WorkError → Type 0
SweepsOver Keeps over limits c name old new result = (r : PackageList) (basis : Basis) → IsInOrder r.packages
    → AreInputsOf r over.kind over.essential limits basis over.clauses → over.packages ≡ (matter_of r basis).packages
    → Keeps (setting_of r over.kind over.essential over.limit limits basis) [] c
    → SweepAnswers r over.kind over.essential over.limit limits name old new result
