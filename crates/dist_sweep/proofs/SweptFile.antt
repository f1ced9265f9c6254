-- What a sweep leaves in its file, by its answer.
use Rattle.std.proofs.Common.{⊎_elim, inl, inr, ℕ, ◌≤◌, Bool, List, [], ◌∷◌, ◌++◌, ◌∙◌, Ok, Err, refl, ap, sym, subst, append-nil, arith}
use Rattle.dist_outside.specs.Counts.{Rose}
use Rattle.dist_outside.specs.DeskView.{Closed, DeskView, FileGrew, Holds, NotCreated, WriteCounts}
use Rattle.dist_outside.specs.Files.{Idle, IsNotWriting, Mode, Writing, where_told}
use Rattle.dist_outside.specs.Reading.{DeskWriteCause}
use Rattle.dist_outside.specs.declared.limits.Limits.{Limits}
use Rattle.dist_outside.specs.declared.trouble.What.TheVariants.{Variables, Clauses, Literals}
use Rattle.dist_outside.specs.declared.trouble.WorkError.{WorkError}
use Rattle.dist_outside.specs.declared.trouble.WorkError.TheVariants.{ReadFault, WriteFault, TooLarge, NoMemory}
use Rattle.dist_repo.specs.PackageList.{PackageList}
use Rattle.dist_subject.specs.Basis.{Basis}
use Rattle.dist_cert.specs.declared.records.CertKind.{CertKind}
use Rattle.dist_cert.specs.declared.records.CertRecord.TheVariants.{End}
use Rattle.dist_cert.specs.declared.records.Claim.{Claim}
use Rattle.dist_cert.specs.declared.records.Header.{Header}
use Rattle.dist_cert.specs.ClearFormsLaws.{FormsAreClear}
use Rattle.dist_cert.specs.Form.{header_text}
use Rattle.dist_cert.specs.Refusal.{certificate_text}
use Rattle.dist_line_write.specs.Script.{StopsIn}
use Rattle.dist_sweep.specs.Script.{script_of}
use Rattle.dist_sweep.specs.ScriptLaws.{passes-in}
use Rattle.dist_line_write.specs.Asking.{AskerView}
use Rattle.dist_line_write.specs.ScriptLaws.{rose-later}
use Rattle.dist_sweep.specs.Sweeping.{FileAnswers, MayBegin, StopsLater, SweepMore, SweepStops, new_window}
use Rattle.dist_sweep.specs.Sweeping.{setting_of}
use Rattle.dist_sweep.specs.Sweep.{IsCutSweep, IsSweep, LeavesPart, SweepAnswers}
use Rattle.dist_sweep.specs.Claiming.{Keeping}
use Rattle.dist_sweep.proofs.Parts.{IsSet, cut-behind, cut-first, cut-nothing, first-full, full, whole}

-- the laws of dist_outside
abbrev pub MoreLaw : Type 0
MoreLaw = (name first second : List ℕ) (old mid new : DeskView) → Holds name first (Writing (where_told old.files name)) old mid → FileGrew second mid new
    → Holds name (first ++ second) (Writing (where_told old.files name)) old new

abbrev pub ClosedLaw : Type 0
ClosedLaw = (name bytes : List ℕ) (mode : Mode) (old mid new : DeskView) → Holds name bytes mode old mid → Closed mid new → Holds name bytes Idle old new

-- A file was made, written and closed.
pub record IsDone (name : List ℕ) (old mid late new : DeskView) : Type 0 where
  pub more : MoreLaw
  pub closing : ClosedLaw
  pub created : Holds name [] (Writing (where_told old.files name)) old mid
  pub closed : Closed late new

holds : (name text : List ℕ) (old mid late new : DeskView) → IsDone name old mid late new → FileGrew text mid late → Holds name text Idle old new
holds name text old mid late new done grew = done.closing name text (Writing (where_told old.files name)) old late new
    (done.more name [] text old mid late done.created grew) done.closed

leaves : (r : PackageList) (kind : CertKind) (essential : Bool) (limit : ℕ) (limits : Limits) (name text : List ℕ) (old new : DeskView)
    → Holds name text Idle old new
    → IsCutSweep r kind essential limit limits text → LeavesPart r kind essential limit limits name old new
leaves r kind essential limit limits name text old new there cut = record {
  files = inr (text, cut, there.files);
  not_writing = subst IsNotWriting (sym there.mode_is) tt;
  counts = there.counts;
}

rose-earlier : (old mid new : ℕ) → mid ≤ new → Rose old mid → Rose old new
rose-earlier old mid new more (inl less) = inl (omega (arith, less, more))
rose-earlier old mid new more (inr stands) = inr stands

rose-within : (name text : List ℕ) (old mid late new : DeskView) → IsDone name old mid late new → FileGrew text mid late
    → Rose mid.write_faults late.write_faults → Rose old.write_faults new.write_faults
rose-within name text old mid late new done grew rose =
    rose-earlier old.write_faults late.write_faults new.write_faults done.closed.counts.write_faults_stand
    (rose-later old.write_faults mid.write_faults late.write_faults done.created.counts.write_faults_stand grew.counts.write_faults_stand rose)

-- ---- a refusal while lines are written

stopped-first : (r : PackageList) (kind : CertKind) (essential : Bool) (limit : ℕ) (limits : Limits) (basis : Basis) (name : List ℕ)
    (old mid late new : DeskView) (error : WorkError) → IsSet r kind essential limit limits basis
    → IsDone name old mid late new → StopsIn (script_of (setting_of r kind essential limit limits basis))
    (header_text (setting_of r kind essential limit limits basis).header) [] mid late error
    → SweepAnswers r kind essential limit limits name old new (Err error)
stopped-first r kind essential limit limits basis name old mid late new WriteFault is done stops = (
  rose-within name stops.cut old mid late new done stops.grew stops.by,
  leaves r kind essential limit limits name stops.cut old new (holds name stops.cut old mid late new done stops.grew)
      (cut-first r kind essential limit limits basis is stops.cut stops.is_front),
)
stopped-first r kind essential limit limits basis name old mid late new NoMemory is done stops =
    leaves r kind essential limit limits name stops.cut old new (holds name stops.cut old mid late new done stops.grew)
    (cut-first r kind essential limit limits basis is stops.cut stops.is_front)
stopped-first r kind essential limit limits basis name old mid late new ReadFault is done stops = stops.by
stopped-first r kind essential limit limits basis name old mid late new (TooLarge Variables) is done stops = absurd stops.by.1
stopped-first r kind essential limit limits basis name old mid late new (TooLarge Clauses) is done stops = absurd stops.by.1
stopped-first r kind essential limit limits basis name old mid late new (TooLarge Literals) is done stops = absurd stops.by.1
stopped-first r kind essential limit limits basis name old mid late new (TooLarge what) is done stops = (
  [],
  holds name [] old mid late new done (subst (λ (text : List ℕ). FileGrew text mid late) stops.by.0 stops.grew),
  first-full r kind essential limit limits basis is what (passes-in (setting_of r kind essential limit limits basis) [] what stops.by.1),
)

stopped-later : (r : PackageList) (kind : CertKind) (essential : Bool) (limit : ℕ) (limits : Limits) (basis : Basis) (name : List ℕ)
    (old mid late new : DeskView) (error : WorkError) → IsSet r kind essential limit limits basis
    → IsDone name old mid late new → StopsLater (setting_of r kind essential limit limits basis) mid late error
    → SweepAnswers r kind essential limit limits name old new (Err error)
stopped-later r kind essential limit limits basis name old mid late new WriteFault is done stops =
    let text : List ℕ = certificate_text (setting_of r kind essential limit limits basis).header stops.lines ++ stops.cut in (
      rose-within name text old mid late new done stops.grew stops.by,
      leaves r kind essential limit limits name text old new (holds name text old mid late new done stops.grew)
          (cut-behind r kind essential limit limits basis is stops.lines stops.cut stops.written stops.cut_off),
    )
stopped-later r kind essential limit limits basis name old mid late new NoMemory is done stops =
    let text : List ℕ = certificate_text (setting_of r kind essential limit limits basis).header stops.lines ++ stops.cut in
    leaves r kind essential limit limits name text old new (holds name text old mid late new done stops.grew)
    (cut-behind r kind essential limit limits basis is stops.lines stops.cut stops.written stops.cut_off)
stopped-later r kind essential limit limits basis name old mid late new ReadFault is done stops = stops.by
stopped-later r kind essential limit limits basis name old mid late new (TooLarge Variables) is done stops = absurd stops.by.1.2
stopped-later r kind essential limit limits basis name old mid late new (TooLarge Clauses) is done stops = absurd stops.by.1.2
stopped-later r kind essential limit limits basis name old mid late new (TooLarge Literals) is done stops = absurd stops.by.1.2
stopped-later r kind essential limit limits basis name old mid late new (TooLarge what) is done stops =
    let g = setting_of r kind essential limit limits basis in (
      certificate_text g.header stops.lines,
      holds name (certificate_text g.header stops.lines) old mid late new done
          (subst (λ (text : List ℕ). FileGrew text mid late) (ap (λ (cut : List ℕ). certificate_text g.header stops.lines ++ cut) stops.by.0
          ∙ append-nil (certificate_text g.header stops.lines)) stops.grew),
      full r kind essential limit limits basis is stops.lines what stops.written stops.by.1,
    )

set-of : {C : Type 0} (Keeps : Keeping C) → FormsAreClear → (r : PackageList) (kind : CertKind) (essential : Bool) (limit : ℕ) (limits : Limits)
    (header : Header)
    (a : AskerView) (c : C) → (may : MayBegin Keeps r kind essential limit limits header a c) → IsSet r kind essential limit limits may.basis
set-of Keeps clear r kind essential limit limits header a c may = record { clear = clear; is_basis = may.is_basis; header = may.header_of }

pub file-stopped : {C : Type 0} (Keeps : Keeping C) → FormsAreClear → (name : List ℕ) (old mid late new : DeskView) (header : Header) (a : AskerView)
    (c : C) (error : WorkError)
    → IsDone name old mid late new → SweepStops Keeps header mid late a (new_window a.log.variables) c error
    → FileAnswers Keeps header a c name old new (Err error)
file-stopped Keeps clear name old mid late new header a c error done stops r kind essential limit limits may =
    let is = set-of Keeps clear r kind essential limit limits header a c may in
    ⊎_elim (λ first. stopped-first r kind essential limit limits may.basis name old mid late new error is done first)
    (λ later. stopped-later r kind essential limit limits may.basis name old mid late new error is done later)
    (stops (setting_of r kind essential limit limits may.basis) may.begins)

-- ---- the other answers

not-made : (r : PackageList) (kind : CertKind) (essential : Bool) (limit : ℕ) (limits : Limits) (basis : Basis) (name : List ℕ) (old new : DeskView)
    → IsSet r kind essential limit limits basis → NotCreated name old new
    → LeavesPart r kind essential limit limits name old new
not-made r kind essential limit limits basis name old new is refused = record {
  files = ⊎_elim inl (λ empty. inr ([], cut-nothing r kind essential limit limits basis is, empty)) refused.as_before_or_empty;
  not_writing = subst IsNotWriting (sym refused.idle) tt;
  counts = refused.counts;
}

caused : (r : PackageList) (kind : CertKind) (essential : Bool) (limit : ℕ) (limits : Limits) (name : List ℕ) (old late new : DeskView) (error : WorkError)
    → old.write_faults ≤ late.write_faults → DeskWriteCause error late new
    → LeavesPart r kind essential limit limits name old new → late.write_faults ≤ new.write_faults → SweepAnswers r kind essential limit limits name old new
    (Err error)
caused r kind essential limit limits name old late new WriteFault before cause left after =
    (rose-later old.write_faults late.write_faults new.write_faults before after cause, left)
caused r kind essential limit limits name old late new NoMemory before cause left after = left
caused r kind essential limit limits name old late new error before cause left after = absurd cause

pub file-refused : {C : Type 0} (Keeps : Keeping C) → FormsAreClear → (name : List ℕ) (old new : DeskView) (header : Header) (a : AskerView) (c : C)
    (error : WorkError)
    → NotCreated name old new → DeskWriteCause error old new
    → FileAnswers Keeps header a c name old new (Err error)
file-refused Keeps clear name old new header a c error refused cause r kind essential limit limits may =
    caused r kind essential limit limits name old old new error (omega arith) cause
    (not-made r kind essential limit limits may.basis name old new (set-of Keeps clear r kind essential limit limits header a c may) refused)
    refused.counts.write_faults_stand

pub file-closed : {C : Type 0} (Keeps : Keeping C) → FormsAreClear → (name : List ℕ) (old mid late new : DeskView) (header : Header) (a : AskerView) (c : C)
    (made : List Claim)
    (error : WorkError) → IsDone name old mid late new → SweepMore Keeps header mid late a (new_window a.log.variables) c made
    → DeskWriteCause error late new → FileAnswers Keeps header a c name old new (Err error)
file-closed Keeps clear name old mid late new header a c made error done more cause r kind essential limit limits may =
    let g = setting_of r kind essential limit limits may.basis in
    let all = more g may.begins in
    let text : List ℕ = certificate_text g.header (all.lines ++ End ∷ []) in
    let there = holds name text old mid late new done all.grew in
    let cut = cut-behind r kind essential limit limits may.basis (set-of Keeps clear r kind essential limit limits header a c may) (all.lines ++ End ∷ [])
    [] all.written
    (inl refl) in
    caused r kind essential limit limits name old late new error (omega (arith, done.created.counts.write_faults_stand, all.grew.counts.write_faults_stand))
    cause
    (leaves r kind essential limit limits name text old new there (subst (λ (bytes : List ℕ). IsCutSweep r kind essential limit limits bytes)
    (append-nil text) cut))
    done.closed.counts.write_faults_stand

pub file-whole : {C : Type 0} (Keeps : Keeping C) → FormsAreClear → (name : List ℕ) (old mid late new : DeskView) (header : Header) (a : AskerView) (c : C)
    (made : List Claim)
    → IsDone name old mid late new → SweepMore Keeps header mid late a (new_window a.log.variables) c made
    → FileAnswers Keeps header a c name old new (Ok made)
file-whole Keeps clear name old mid late new header a c made done more r kind essential limit limits may =
    let g = setting_of r kind essential limit limits may.basis in
    let all = more g may.begins in
    let text : List ℕ = certificate_text g.header (all.lines ++ End ∷ []) in (
      text,
      holds name text old mid late new done all.grew,
      subst (λ (cs : List Claim). IsSweep r kind essential limit limits cs text) all.claims
          (whole r kind essential limit limits may.basis (set-of Keeps clear r kind essential limit limits header a c may) may.kept all.lines all.written),
    )

-- want of memory before the file was made
pub file-unmade : {C : Type 0} (Keeps : Keeping C) → (name : List ℕ) (old : DeskView) (header : Header) (a : AskerView) (c : C) → IsNotWriting old.mode
    → WriteCounts old old → FileAnswers Keeps header a c name old old (Err NoMemory)
file-unmade Keeps name old header a c idle counts r kind essential limit limits may = record { files = inl refl; not_writing = idle; counts = counts }
