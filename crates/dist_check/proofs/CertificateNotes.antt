-- Certificates as a kind of file that is checked line by line.
use Rattle.std.proofs.Common.{◌≡◌, true, false, List, [], ◌∷◌, ◌++◌, ℕ, Option, Result, Ok, Err, IfOk, OnOk, subst, sym}
use Rattle.dist_repo.specs.PackageList.{PackageList}
use Rattle.dist_cert.specs.declared.faults.CertCause.{CertCause}
use Rattle.dist_cert.specs.declared.records.CertRecord.{CertRecord}
use Rattle.dist_cert.specs.ClearFormsLaws.{FormsAreClear}
use Rattle.dist_cert.specs.Form.{KeepsRules, Word}
use Rattle.dist_check_state.specs.State.{Answers, Installs, StateView, Tells, after_line}
use Rattle.dist_line_check.specs.Kinds.{IsLineKind, NotesClaim, NotesInstalled, NotesRefuted, NotesUndecided, TellsOwn, is_common}
use Rattle.dist_subject.specs.Basis.{matter_of}
use Rattle.dist_check.specs.AtPrivate.{IsAt}
use Rattle.dist_check.specs.CertificateLines.{certificate_lines}
use Rattle.dist_check.proofs.ClearKind.{clear-kind}
use Rattle.dist_check.proofs.Next.{claimed-or-ended, first-fault, found-nothing, installed, left-undecided, own-verdict, refuted}

on-ok : {E P Q : Type 0} (result : Result (Unit {0}) E) → (P → Q) → OnOk result P → OnOk result Q
on-ok (Ok u) map holds = map holds
on-ok (Err error) map holds = tt

pub are-lines : FormsAreClear → (r : PackageList) → IsLineKind (certificate_lines r)
are-lines clear r = record {
  clear = clear-kind clear r;
  common = λ basis h before step cause is. ((λ fault. fault), (λ fault. fault));
  stays = λ basis h before step s nothing at. found-nothing (matter_of r basis) h before step s nothing at;
}

pub told-own : {E : Type 0} (r : PackageList) (s : StateView) (step : CertRecord) → KeepsRules step → is_common step ≡ false
    → (result : Result (Option CertCause) E) → IfOk result (Tells s step) → IfOk result (TellsOwn (certificate_lines r) s step)
told-own r s step rules own (Ok found) told = λ basis h before faultless forms at.
    first-fault (matter_of r basis) h before step found (own-verdict (matter_of r basis) h before s at faultless forms step rules own found told)
told-own r s step rules own (Err error) told = tt

pub notes-refuted : {E : Type 0} (r : PackageList) (s t : StateView) (question : List Word) (result : Result (Unit {0}) E)
    → OnOk result (Answers s question true t) → OnOk result (NotesRefuted (certificate_lines r) question s t)
notes-refuted r s t question result = on-ok result
    (λ is basis h before earlier since hints asked at. refuted (matter_of r basis) h s t question before earlier since hints is asked at)

pub notes-undecided : {E : Type 0} (r : PackageList) (s t : StateView) (question : List Word) (result : Result (Unit {0}) E)
    → OnOk result (Answers s question false t) → OnOk result (NotesUndecided (certificate_lines r) question s t)
notes-undecided r s t question result = on-ok result
    (λ is basis h before earlier since asked at. left-undecided (matter_of r basis) h s t question before earlier since is asked at)

pub notes-installed : {E : Type 0} (r : PackageList) (s t : StateView) (variables : List ℕ) (result : Result (Unit {0}) E)
    → OnOk result (Installs s variables t) → OnOk result (NotesInstalled (certificate_lines r) variables s t)
notes-installed r s t variables result = on-ok result
    (λ is basis h before at. installed (matter_of r basis) h s t variables before is at)

pub notes-claim : {E : Type 0} (r : PackageList) (s t : StateView) (step : CertRecord) → is_common step ≡ false → (result : Result (Unit {0}) E)
    → OnOk result (t ≡ after_line s step) → OnOk result (NotesClaim (certificate_lines r) step s t)
notes-claim r s t step own result = on-ok result
    (λ is basis h before faultless at. subst (IsAt (matter_of r basis) h (before ++ step ∷ [])) (sym is)
    (claimed-or-ended (matter_of r basis) h s before step own at))
