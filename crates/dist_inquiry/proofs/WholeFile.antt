-- Lines that were written to their end are a file of the kind.
use Rattle.std.proofs.Common.{◌≡◌, ◌≢◌, ⊎_elim, ℕ, ◌<◌, ◌≤◌, Bool, false, ◌||◌, List, []}
use Rattle.std.proofs.Common.{◌∷◌, ◌++◌, length, refl, ap, sym, subst, ◌∙◌, append-nil, arith}
use Rattle.std.proofs.Common.{length-append, get_or}
use Rattle.std.specs.List.{All, Contains, list_any}
use Rattle.std.proofs.lemmas.Bool.{false≢true, true≢false}
use Rattle.std.proofs.lemmas.List.{get_or_at}
use Rattle.std.proofs.lemmas.List.Elements.{All-cons, All-nil}
use Rattle.dist_base.specs.Ascii.{line_feed}
use Rattle.dist_outside.specs.declared.limits.Limits.{Limits}
use Rattle.dist_cert.specs.ByRecordsLaws.{line_to_record, no_end_in, whole_line, within}
use Rattle.dist_cert.specs.ClearFormsLaws.{FormsAreClear}
use Rattle.dist_cert.specs.FileLines.{AreRight, HasFaultBehind, HasHeadingFault, IsOneLine, file_text, lines_text}
use Rattle.dist_cert.specs.Form.{HasForm, IsSmall, is_end, record_text}
use Rattle.dist_cert.specs.OneVerdictLaws.{first_line_of, one_line}
use Rattle.dist_cert.specs.PartByRecordsLaws.{IsShortLine}
use Rattle.dist_cert.specs.SomeVerdictLaws.{split_push}
use Rattle.dist_cert.specs.declared.faults.CertCause.{CertCause}
use Rattle.dist_cert.specs.declared.faults.CertCause.TheVariants as causes
use Rattle.dist_cert.specs.declared.records.CertRecord.{CertRecord}
use Rattle.dist_cert.specs.declared.records.CertRecord.TheVariants as lines
use Rattle.dist_cert.specs.Groups.{is_claim}
use Rattle.dist_cert.specs.LineRules.{HasRecordFault}
use Rattle.dist_judge.specs.ClearKindLaws.{IsClear}
use Rattle.dist_judge.specs.FileKind.{FileKind, rules_of}
use Rattle.dist_findings.specs.AnswerFiles.{AnswerFile, Inputs, files_of}
use Rattle.dist_findings.specs.Answers.{IsAnswered}
use Rattle.dist_findings.specs.FilesClearLaws.{clear_files}
use Rattle.dist_findings.specs.Findings.{findings}
use Rattle.dist_findings.specs.Unclaimed.{EndsEarly, HasUnclaimedFault, clauses_alone, limit_alone}
use Rattle.dist_findings.specs.declared.finding.Finding.{Finding}
use Rattle.dist_line_write.specs.LineLaws.{keeps-same, none-in}
use Rattle.dist_line_write.specs.Script.{AllNext, IsLine, Script}
use Rattle.dist_line_write.specs.ScriptLaws.{next-at}
use Rattle.dist_line_write.specs.TrueOnesLaws.{true-ones}
use Rattle.dist_subject.specs.Installed.{AreTrueOf, ModelsStand}
use Rattle.dist_inquiry.specs.Written.{AreWritten}
use Rattle.dist_inquiry.specs.AnswerText.{IsRightBasis, setting_of, whole_text}
use Rattle.dist_inquiry.proofs.Found.{end-finds}

-- ---- files of any kind

-- The line of this record has no fault behind these lines.
record IsSound (kind : FileKind) (basis : kind.Basis) (h : kind.Heading) (limits : Limits) (before : List CertRecord) (step : CertRecord) : Type 0 where
  form : HasForm (record_text step) step
  short : IsShortLine limits step
  not_ended : list_any is_end before ≡ false
  faultless : (cause : CertCause) → ¬ kind.HasFault basis h before step cause

abbrev AreSound : (kind : FileKind) → kind.Basis → kind.Heading → Limits → List CertRecord → Type 0
AreSound kind basis h limits steps = (earlier : List CertRecord) (step : CertRecord) (others : List CertRecord)
    → steps ≡ earlier ++ step ∷ others → IsSound kind basis h limits earlier step

record IsSoundHeading (kind : FileKind) (basis : kind.Basis) (h : kind.Heading) (limits : Limits) : Type 0 where
  form : kind.HasHeadingForm (kind.heading_text h) h
  fits : kind.Fits basis h
  short : length (kind.heading_text h) < limits.record_line

first-sound : (kind : FileKind) → IsClear kind → (basis : kind.Basis) (h : kind.Heading) (limits : Limits) (more : List ℕ)
    → IsSoundHeading kind basis h limits → (cause : CertCause)
    → ¬ HasHeadingFault (rules_of kind basis) limits (kind.heading_text h ++ line_feed ∷ more) cause
first-sound kind clear basis h limits more sound causes.LineTooLong f = within limits.record_line (kind.heading_text h) more sound.short f.1
first-sound kind clear basis h limits more sound causes.Truncated f = whole_line (kind.heading_text h) more f
first-sound kind clear basis h limits more sound causes.BadHeader f =
    f.3 h (subst (λ l. kind.HasHeadingForm l h)
    (one_line (kind.heading_text h) f.0 more f.1 (clear.heading_line h sound.form) f.2.one_line f.2.ended).0 sound.form) sound.fits
first-sound kind clear basis h limits more sound cause f = f

forms-of : (steps : List CertRecord) → ((earlier : List CertRecord) (step : CertRecord) (others : List CertRecord)
    → steps ≡ earlier ++ step ∷ others → HasForm (record_text step) step) → All (λ step. HasForm (record_text step) step) steps
forms-of [] each = All-nil (λ step. HasForm (record_text step) step)
forms-of (s ∷ steps) each = All-cons (λ step. HasForm (record_text step) step) s steps (each [] s steps refl)
    (forms-of steps (λ earlier step others is. each (s ∷ earlier) step others (ap (λ (ls : List CertRecord). s ∷ ls) is)))

right-lines : (kind : FileKind) → IsClear kind → (basis : kind.Basis) (h : kind.Heading) (limits : Limits) (steps : List CertRecord)
    → IsSoundHeading kind basis h limits → AreSound kind basis h limits steps
    → AreRight (rules_of kind basis) limits (file_text (kind.heading_text h) steps) h steps []
right-lines kind clear basis h limits steps heading sound = record {
  reads = record {
    text_is = sym (append-nil (file_text (kind.heading_text h) steps));
    header = heading.form;
    records = forms-of steps (λ earlier step others is. (sound earlier step others is).form);
  };
  first = first-sound kind clear basis h limits (lines_text steps) heading;
  later = λ earlier step others is cause f.
      let one = sound earlier step others is in
      one.faultless cause (line_to_record clear.records (kind.HasFault basis h) limits earlier step (lines_text others ++ []) one.form
      (no_end_in earlier one.not_ended) one.short cause
      (subst (λ bytes. HasFaultBehind (kind.HasFault basis h) limits earlier bytes cause) (first_line_of step others []) f));
}

nothing-begins : (line more : List ℕ) → [] ≡ line ++ line_feed ∷ more → ⊥
nothing-begins line more e = let n = ap length e in omega (arith, n, length-append line (line_feed ∷ more))

end-sound : (kind : FileKind) (basis : kind.Basis) (h : kind.Heading) (limits : Limits) (steps : List CertRecord) → 0 < limits.record_line
    → Contains steps lines.End → (cause : CertCause) → ¬ HasFaultBehind (kind.HasFault basis h) limits steps [] cause
end-sound kind basis h limits steps some ended causes.LineTooLong f = omega (arith, some, f.0)
end-sound kind basis h limits steps some ended causes.Truncated f = ⊎_elim (λ other. other refl) (λ none. none ended) f.1
end-sound kind basis h limits steps some ended causes.BadRecord f = nothing-begins f.0 f.1 f.2.ended
end-sound kind basis h limits steps some ended cause f = nothing-begins f.0 f.1 f.3.ended

-- ---- files of one question

-- a record without a fault, that is no claim and ends nothing early, has none here
unclaimed : (g : Script) (Decided : List CertRecord → Type 0) (before : List CertRecord) (step : CertRecord) → is_claim step ≡ false
    → ¬ EndsEarly Decided before step
    → ((cause : CertCause) → cause ≢ causes.Incomplete → ¬ HasRecordFault (clauses_alone g.variables g.inputs) (limit_alone g.limit) before step cause)
    → (cause : CertCause) → ¬ HasUnclaimedFault Decided g.variables g.inputs g.limit before step cause
unclaimed g Decided before step none early faultless causes.Incomplete f = early f
unclaimed g Decided before step none early faultless causes.WrongClaim f = true≢false (sym f ∙ none)
unclaimed g Decided before step none early faultless causes.LineTooLong f = f.1
unclaimed g Decided before step none early faultless causes.Truncated f = f.1
unclaimed g Decided before step none early faultless causes.BadHeader f = f.1
unclaimed g Decided before step none early faultless causes.BadRecord f = f.1
unclaimed g Decided before step none early faultless causes.OutOfRange f = faultless causes.OutOfRange (λ e. cc) f.1
unclaimed g Decided before step none early faultless causes.OutOfOrder f = faultless causes.OutOfOrder (λ e. cc) f.1
unclaimed g Decided before step none early faultless causes.UnknownLine f = faultless causes.UnknownLine (λ e. cc) f.1
unclaimed g Decided before step none early faultless causes.BadLine f = faultless causes.BadLine (λ e. cc) f.1
unclaimed g Decided before step none early faultless causes.NotAFuture f = faultless causes.NotAFuture (λ e. cc) f.1
unclaimed g Decided before step none early faultless causes.NotAnInstallation f = faultless causes.NotAnInstallation (λ e. cc) f.1
unclaimed g Decided before step none early faultless causes.LimitNotReached f = faultless causes.LimitNotReached (λ e. cc) f.1
unclaimed g Decided before step none early faultless causes.NotNew f = faultless causes.NotNew (λ e. cc) f.1

-- a line of a question has no fault by the clauses alone
line-alone : (g : Script) (before : List CertRecord) (step : CertRecord) → ModelsStand (clauses_alone g.variables g.inputs) → IsLine g before step
    → (cause : CertCause) → ¬ HasRecordFault (clauses_alone g.variables g.inputs) (limit_alone g.limit) before step cause
line-alone g before (lines.Question question) stand line = none
  where
    none : (cause : CertCause) → ¬ HasRecordFault (clauses_alone g.variables g.inputs) (limit_alone g.limit) before (lines.Question question) cause
    none causes.NotAFuture f = f
    none cause f = line.faultless cause f
line-alone g before (lines.Derived literals hints) stand line = none
  where
    none : (cause : CertCause) → ¬ HasRecordFault (clauses_alone g.variables g.inputs) (limit_alone g.limit) before (lines.Derived literals hints) cause
    none causes.NotAFuture f = f
    none cause f = line.faultless cause f
line-alone g before (lines.Refuted hints) stand line = none
  where
    none : (cause : CertCause) → ¬ HasRecordFault (clauses_alone g.variables g.inputs) (limit_alone g.limit) before (lines.Refuted hints) cause
    none causes.NotAFuture f = f
    none cause f = line.faultless cause f
line-alone g before (lines.Installation variables) stand line = none
  where
    trues : AreTrueOf line.next.1.values variables
    trues = subst (AreTrueOf line.next.1.values) (sym line.next.1.are) (true-ones line.next.1.values)

    none : (cause : CertCause) → ¬ HasRecordFault (clauses_alone g.variables g.inputs) (limit_alone g.limit) before (lines.Installation variables) cause
    none causes.NotAFuture f = f tt
    none causes.NotAnInstallation f = f (stand line.next.1.values variables line.next.1.size line.next.1.model trues).1
    none cause f = line.faultless cause f
line-alone g before lines.Undecided stand line = none
  where
    none : (cause : CertCause) → ¬ HasRecordFault (clauses_alone g.variables g.inputs) (limit_alone g.limit) before lines.Undecided cause
    none causes.NotAFuture f = f
    none cause f = line.faultless cause f
line-alone g before step stand line = absurd line.next

line-unclaimed : (g : Script) (Decided : List CertRecord → Type 0) (before : List CertRecord) (step : CertRecord)
    → ModelsStand (clauses_alone g.variables g.inputs) → IsLine g before step
    → (cause : CertCause) → ¬ HasUnclaimedFault Decided g.variables g.inputs g.limit before step cause
line-unclaimed g Decided before (lines.Question question) stand line =
    unclaimed g Decided before (lines.Question question) refl (λ f. f) (λ cause other. line-alone g before (lines.Question question) stand line cause)
line-unclaimed g Decided before (lines.Derived literals hints) stand line =
    unclaimed g Decided before (lines.Derived literals hints) refl (λ f. f) (λ cause other. line-alone g before (lines.Derived literals hints) stand line cause)
line-unclaimed g Decided before (lines.Refuted hints) stand line =
    unclaimed g Decided before (lines.Refuted hints) refl (λ f. f) (λ cause other. line-alone g before (lines.Refuted hints) stand line cause)
line-unclaimed g Decided before (lines.Installation variables) stand line =
    unclaimed g Decided before (lines.Installation variables) refl (λ f. f) (λ cause other. line-alone g before (lines.Installation variables) stand line cause)
line-unclaimed g Decided before lines.Undecided stand line =
    unclaimed g Decided before lines.Undecided refl (λ f. f) (λ cause other. line-alone g before lines.Undecided stand line cause)
line-unclaimed g Decided before step stand line = absurd line.next

end-faultless : (g : Script) (before : List CertRecord) (cause : CertCause) → cause ≢ causes.Incomplete
    → ¬ HasRecordFault (clauses_alone g.variables g.inputs) (limit_alone g.limit) before lines.End cause
end-faultless g before causes.OutOfRange other f = none-in _ f
end-faultless g before causes.OutOfOrder other f = none-in _ f
end-faultless g before causes.UnknownLine other f = none-in _ f
end-faultless g before causes.WrongClaim other f = false≢true f.0
end-faultless g before causes.Incomplete other f = other refl
end-faultless g before cause other f = f

end-unclaimed : (g : Script) (Decided : List CertRecord → Type 0) (before : List CertRecord) → Decided before
    → (cause : CertCause) → ¬ HasUnclaimedFault Decided g.variables g.inputs g.limit before lines.End cause
end-unclaimed g Decided before decided =
    unclaimed g Decided before lines.End refl (λ early. early decided) (end-faultless g before)

-- a line that may come next is no end
not-end : (g : Script) (before : List CertRecord) (step : CertRecord) → IsLine g before step → is_end step ≡ false
not-end g before (lines.Question question) line = refl
not-end g before (lines.Derived literals hints) line = refl
not-end g before (lines.Refuted hints) line = refl
not-end g before (lines.Installation variables) line = refl
not-end g before lines.Undecided line = refl
not-end g before step line = absurd line.next

none-ends : (g : Script) (before steps : List CertRecord) → AllNext g before steps → list_any is_end steps ≡ false
none-ends g before [] all = refl
none-ends g before (step ∷ steps) all =
    ap (λ (b : Bool). b || list_any is_end steps) (not-end g before step all.0) ∙ none-ends g (before ++ step ∷ []) steps all.1

all-at : {X : Type 0} (P : X → Type 0) (xs earlier : List X) (x : X) (others : List X) → xs ≡ earlier ++ x ∷ others → All P xs → P x
all-at {X} P xs earlier x others is all =
    subst P (ap (λ (ys : List X). get_or ys (length earlier) x) is ∙ get_or_at earlier x others x (length earlier) refl)
    (all (length earlier) x (omega (arith, ap length is, length-append earlier (x ∷ others))))

-- what holds of each line and of the end behind them
with-end : (P : List CertRecord → CertRecord → Type 0) (before : List CertRecord)
    → ((earlier : List CertRecord) (step : CertRecord) (others : List CertRecord) → before ≡ earlier ++ step ∷ others → P earlier step)
    → P before lines.End
    → (earlier : List CertRecord) (step : CertRecord) (others : List CertRecord) → before ++ lines.End ∷ [] ≡ earlier ++ step ∷ others → P earlier step
with-end P before each last earlier step others is = ⊎_elim
    (λ here. subst (λ (s : CertRecord). P earlier s) (sym here.1) (subst (λ (ls : List CertRecord). P ls lines.End) (sym here.0) last))
    (λ inside. each earlier step inside.0 inside.1)
    (split_push before earlier others step lines.End is)

-- The lines are written, and the end behind them.
pub record IsEnded (g : Script) (steps : List CertRecord) : Type 0 where
  pub written : AreWritten g steps
  pub short : IsShortLine g.limits lines.End
  pub bytes : length (file_text g.first (steps ++ lines.End ∷ [])) ≤ g.limits.certificate

-- The lines with the end behind them are a file of the kind, and it holds what its findings tell.
pub ended-answered : FormsAreClear → (file : AnswerFile) → IsOneLine file.front → (limits : Limits) (numbers : List ℕ) (basis : Inputs)
    → IsRightBasis file limits numbers basis → ModelsStand (clauses_alone basis.variables basis.clauses)
    → (before : List CertRecord) → IsEnded (setting_of file limits basis numbers) before
    → file.IsDecided numbers (findings before) → (Holds : List Finding → Type 0) → Holds (findings before)
    → IsAnswered file limits (whole_text (setting_of file limits basis numbers) before) numbers Holds
ended-answered clear file one limits numbers basis right stand before is decided Holds holds =
    let g : Script = setting_of file limits basis numbers in
    let kind : FileKind = files_of file in
    let Decided : List CertRecord → Type 0 = λ lines. file.IsDecided numbers (findings lines) in
    let steps : List CertRecord = before ++ lines.End ∷ [] in
    let none : list_any is_end before ≡ false = none-ends g [] before is.written.next in
    let kept = keeps-same limits before lines.End refl is.written.within.kept in
    record {
      basis = basis;
      is_basis = right.is_basis;
      steps = steps;
      accepted = record {
        faultless = right-lines kind (clear_files clear file one) basis numbers limits steps
            (record { form = right.heading; fits = right.fits; short = is.written.within.first_short })
            (with-end (λ earlier step. IsSound kind basis numbers limits earlier step) before
            (λ earlier step others at.
            let line = next-at g [] before earlier step others at is.written.next in
            record {
              form = line.form;
              short = all-at (IsShortLine limits) before earlier step others at is.written.within.short;
              not_ended = line.not_ended;
              faultless = line-unclaimed g Decided earlier step stand line;
            })
            (record {
              form = record { text = refl; rules = tt; numbers = All-nil (λ w. IsSmall w.0) };
              short = is.short;
              not_ended = none;
              faultless = end-unclaimed g Decided before decided;
            }));
        ends = end-sound kind basis numbers limits steps (omega (arith, is.short))
            (length before, omega (arith, length-append before (lines.End ∷ [])), get_or_at before lines.End [] lines.End (length before) refl);
      };
      claims = subst Holds (sym (end-finds before)) holds;
      numbers = record {
        inputs = right.within;
        derived_lines = kept.count;
        line_literals = kept.literals;
        bytes = is.bytes;
      };
    }
