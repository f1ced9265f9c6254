-- Files whose lines answer one question, as a kind of file that is checked line by line.
use Rattle.std.proofs.Common.{◌≡◌, ◌↔◌, ℕ, ◌<◌, Bool, true, false, List, [], ◌∷◌, ◌++◌, Option, Some, None, Result, Ok, Err, OnOk, refl, sym, ap}
use Rattle.std.proofs.Common.{subst, ◌∙◌, arith}
use Rattle.std.specs.List.{Any}
use Rattle.std.proofs.lemmas.Bool.{true≢false, false≢true}
use Rattle.std.proofs.lemmas.List.{append-nil}
use Rattle.dist_clause.specs.Formula.{Literal}
use Rattle.dist_cert.specs.declared.faults.CertCause.{CertCause}
use Rattle.dist_cert.specs.declared.faults.CertCause.TheVariants as causes
use Rattle.dist_cert.specs.declared.records.CertRecord.{CertRecord}
use Rattle.dist_cert.specs.declared.records.CertRecord.TheVariants as lines
use Rattle.dist_cert.specs.ClearFormsLaws.{FormsAreClear}
use Rattle.dist_cert.specs.FileLines.{IsOneLine}
use Rattle.dist_cert.specs.Form.{Word}
use Rattle.dist_cert.specs.Groups.{is_claim}
use Rattle.dist_cert.specs.LineRules.{HasRecordFault, IsIncomplete}
use Rattle.dist_line_check.specs.FirstFaultLaws.{first_of, rank}
use Rattle.dist_line_check.specs.Kinds.{FirstFault, IsLineKind, NotesClaim, NotesInstalled, NotesRefuted, NotesUndecided, TellsOwn, finds_nothing, is_common}
use Rattle.dist_line_check.specs.LinesAt.{AreFuturesBy, JudgesMembers}
use Rattle.dist_findings.specs.AnswerFiles.{AnswerFile, limit_of}
use Rattle.dist_findings.specs.AnswerLines.{TellsDecided, answer_lines, any_future}
use Rattle.dist_findings.specs.FilesClearLaws.{clear_files}
use Rattle.dist_findings.specs.FindingLaws.{findings_push, open-is, open_after}
use Rattle.dist_findings.specs.Findings.{findings, found_at}
use Rattle.dist_findings.specs.Unclaimed.{EndsEarly, HasUnclaimedFault, clauses_alone, limit_alone}
use Rattle.dist_findings.specs.declared.finding.Finding.{Finding}
use Rattle.dist_findings.specs.declared.finding.Finding.TheVariants as finding

-- an installation is a model, and any set stands for a future
pub judges : (variables : ℕ) (inputs : List (List Literal)) → JudgesMembers (clauses_alone variables inputs)
judges variables inputs members = ((λ both. both.1), λ model. (tt, model))

pub futures : (variables : ℕ) (inputs : List (List Literal)) → AreFuturesBy (clauses_alone variables inputs) any_future
futures variables inputs members = ((λ unit. ((λ k d short. absurd (omega (arith, short))), λ k d short. absurd (omega (arith, short)))), λ both. tt)

no-number : (P : ℕ → Type 0) → ¬ Any P []
no-number P any = omega (arith, any.2)

-- ---- the faults of lines

module _ (IsDecided : List CertRecord → Type 0) (variables : ℕ) (inputs : List (List Literal)) (limit : ℕ) (before : List CertRecord) where
  abbrev pub Has : CertRecord → CertCause → Type 0
  Has step = HasUnclaimedFault IsDecided variables inputs limit before step

  abbrev pub HasPlain : CertRecord → CertCause → Type 0
  HasPlain step = HasRecordFault (clauses_alone variables inputs) (limit_alone limit) before step

  -- a common line has the faults of one of a certificate
  no-claim : (step : CertRecord) → is_common step ≡ true → is_claim step ≡ false
  no-claim (lines.Question literals) common = refl
  no-claim (lines.Derived literals hints) common = refl
  no-claim (lines.Refuted hints) common = refl
  no-claim (lines.Installation variables) common = refl
  no-claim lines.Undecided common = refl
  no-claim step common = absurd (let e = common in cc)

  not-early : (step : CertRecord) → is_common step ≡ true → ¬ EndsEarly IsDecided before step
  not-early lines.End common early = absurd (let e = common in cc)
  not-early step common early = early

  complete : (step : CertRecord) → is_common step ≡ true → ¬ IsIncomplete (clauses_alone variables inputs) before step
  complete (lines.Question literals) common fault = fault
  complete (lines.Derived literals hints) common fault = fault
  complete (lines.Refuted hints) common fault = fault
  complete (lines.Installation variables) common fault = fault
  complete lines.Undecided common fault = fault
  complete step common fault = absurd (let e = common in cc)

  to-plain : (step : CertRecord) → is_common step ≡ true → (cause : CertCause) → Has step cause → HasPlain step cause
  to-plain step common causes.Incomplete fault = absurd (not-early step common fault)
  to-plain step common causes.WrongClaim fault = absurd (true≢false (sym fault ∙ no-claim step common))
  to-plain step common cause fault = fault.1

  from-plain : (step : CertRecord) → is_common step ≡ true → (cause : CertCause) → HasPlain step cause → Has step cause
  from-plain step common causes.Incomplete fault = absurd (complete step common fault)
  from-plain step common causes.WrongClaim fault = absurd (true≢false (sym fault.0 ∙ no-claim step common))
  from-plain step common cause fault = (no-claim step common, fault)

  pub same-faults : (step : CertRecord) (cause : CertCause) → is_common step ≡ true → Has step cause ↔ HasPlain step cause
  same-faults step cause common = (to-plain step common cause, from-plain step common cause)

  -- a claim is wrong, and has no other fault
  pub claimed-wrong : (step : CertRecord) → is_claim step ≡ true → FirstFault (Has step) (Some causes.WrongClaim)
  claimed-wrong step claim = first_of (Has step) causes.WrongClaim claim none
    where
      none : (earlier : CertCause) → rank earlier < rank causes.WrongClaim → ¬ Has step earlier
      none causes.Incomplete less fault = omega (arith, less)
      none causes.WrongClaim less fault = omega (arith, less)
      none cause less fault = true≢false (sym claim ∙ fault.0)

  -- the end has no fault but that it comes early
  at-end : (cause : CertCause) → Has lines.End cause → ¬ IsDecided before
  at-end causes.Incomplete fault = fault
  at-end causes.WrongClaim fault = absurd (true≢false (sym fault))
  at-end causes.OutOfRange fault = absurd (no-number (λ n. variables < n) fault.1)
  at-end causes.OutOfOrder fault = absurd (omega (arith, fault.1.2))
  at-end causes.UnknownLine fault = absurd (omega (arith, fault.1.2))
  at-end cause fault = absurd fault.1

  end-early : (earlier : CertCause) → rank earlier < rank causes.Incomplete → ¬ Has lines.End earlier
  end-early causes.Incomplete less fault = omega (arith, less)
  end-early causes.WrongClaim less fault = true≢false (sym fault)
  end-early causes.OutOfRange less fault = no-number (λ n. variables < n) fault.1
  end-early causes.OutOfOrder less fault = omega (arith, fault.1.2)
  end-early causes.UnknownLine less fault = omega (arith, fault.1.2)
  end-early cause less fault = fault.1

  pub end-fault : (decided : Bool) → (decided ≡ true) ↔ IsDecided before → (found : Option CertCause) → TellsDecided decided found
      → FirstFault (Has lines.End) found
  end-fault true exact found told = subst (FirstFault (Has lines.End)) (sym told) (λ cause fault. at-end cause fault (exact.0 refl))
  end-fault false exact found told = subst (FirstFault (Has lines.End)) (sym told)
      (first_of (Has lines.End) causes.Incomplete (λ decided. false≢true (exact.1 decided)) end-early)

is-claimed : (step : CertRecord) → is_common step ≡ false → ¬ (step ≡ lines.End) → is_claim step ≡ true
is-claimed (lines.NotInstallable p) own other = refl
is-claimed (lines.Unknown p) own other = refl
is-claimed (lines.Strong p named on undecided) own other = refl
is-claimed (lines.Outdated p) own other = refl
is-claimed (lines.Alive p number) own other = refl
is-claimed (lines.Challenged p named by undecided) own other = refl
is-claimed lines.End own other = absurd (other refl)
is-claimed step own other = absurd (let e = own in cc)

-- ---- what is noted

module _ {N : Type 0} (file : AnswerFile) (noted : List ℕ → List Finding → N → Type 0) where
  -- with a line of these findings
  more : (before : List CertRecord) (step : CertRecord) (found : List Finding) → found_at (open_after None before) step ≡ found
      → findings (before ++ step ∷ []) ≡ findings before ++ found
  more before step found is = findings_push None before step ∙ ap (λ (fs : List Finding). findings before ++ fs) is

  finds-none : (asked : Option (List Word)) (step : CertRecord) → finds_nothing step ≡ true → found_at asked step ≡ []
  finds-none None (lines.Question literals) nothing = refl
  finds-none (Some question) (lines.Question literals) nothing = refl
  finds-none None (lines.Derived literals hints) nothing = refl
  finds-none (Some question) (lines.Derived literals hints) nothing = refl
  finds-none asked step nothing = absurd (let e = nothing in cc)

  own-none : (asked : Option (List Word)) (step : CertRecord) → is_common step ≡ false → found_at asked step ≡ []
  own-none asked (lines.Question literals) own = absurd (let e = own in cc)
  own-none asked (lines.Derived literals hints) own = absurd (let e = own in cc)
  own-none asked (lines.Refuted hints) own = absurd (let e = own in cc)
  own-none asked (lines.Installation members) own = absurd (let e = own in cc)
  own-none asked lines.Undecided own = absurd (let e = own in cc)
  own-none None step own = refl
  own-none (Some question) step own = refl

  stays : (numbers : List ℕ) (before : List CertRecord) (step : CertRecord) (notes : N) → found_at (open_after None before) step ≡ []
      → noted numbers (findings before) notes → noted numbers (findings (before ++ step ∷ [])) notes
  stays numbers before step notes none is =
      subst (λ fs. noted numbers fs notes) (sym (more before step [] none ∙ append-nil (findings before))) is

  pub are-lines : FormsAreClear → IsOneLine file.front → IsLineKind (answer_lines file noted)
  are-lines clear one = record {
    clear = clear_files clear file one;
    common = λ basis numbers before step cause common.
        same-faults (λ ls. file.IsDecided numbers (findings ls)) basis.variables basis.clauses (limit_of numbers) before step cause common;
    stays = λ basis numbers before step notes nothing is.
        stays numbers before step notes (finds-none (open_after None before) step nothing) is;
  }

  pub wrong-claim : (notes : N) (step : CertRecord) → is_common step ≡ false → ¬ (step ≡ lines.End)
      → TellsOwn (answer_lines file noted) notes step (Some causes.WrongClaim)
  wrong-claim notes step own other basis numbers before faultless forms is =
      claimed-wrong (λ ls. file.IsDecided numbers (findings ls)) basis.variables basis.clauses (limit_of numbers) before step
      (is-claimed step own other)

  pub at-the-end : (notes : N) (decided : Bool)
      → ((numbers : List ℕ) (found : List Finding) → noted numbers found notes → (decided ≡ true) ↔ file.IsDecided numbers found)
      → (found : Option CertCause) → TellsDecided decided found → TellsOwn (answer_lines file noted) notes lines.End found
  at-the-end notes decided exact found told basis numbers before faultless forms is =
      end-fault (λ ls. file.IsDecided numbers (findings ls)) basis.variables basis.clauses (limit_of numbers) before decided
      (exact numbers (findings before) is) found told

  -- a finding is noted
  abbrev pub NotesMore : Finding → N → N → Type 0
  NotesMore found old new = (numbers : List ℕ) (before : List Finding) → noted numbers before old → noted numbers (before ++ found ∷ []) new

  noted-more : (numbers : List ℕ) (before : List CertRecord) (step : CertRecord) (found : Finding) (old new : N)
      → found_at (open_after None before) step ≡ found ∷ [] → NotesMore found old new → noted numbers (findings before) old
      → noted numbers (findings (before ++ step ∷ [])) new
  noted-more numbers before step found old new is notes at =
      subst (λ fs. noted numbers fs new) (sym (more before step (found ∷ []) is)) (notes numbers (findings before) at)

  notes-refuted : (question : List Word) (old new : N) → NotesMore (finding.Refuted question) old new
      → NotesRefuted (answer_lines file noted) question old new
  notes-refuted question old new notes basis numbers before earlier since hints asked at =
      noted-more numbers before (lines.Refuted hints) (finding.Refuted question) old new
      (ap (λ (o : Option (List Word)). found_at o (lines.Refuted hints)) (open-is before earlier question since asked)) notes at

  notes-undecided : (question : List Word) (old new : N) → NotesMore (finding.LeftUndecided question) old new
      → NotesUndecided (answer_lines file noted) question old new
  notes-undecided question old new notes basis numbers before earlier since asked at =
      noted-more numbers before lines.Undecided (finding.LeftUndecided question) old new
      (ap (λ (o : Option (List Word)). found_at o lines.Undecided) (open-is before earlier question since asked)) notes at

  finds-installed : (asked : Option (List Word)) (members : List ℕ) → found_at asked (lines.Installation members) ≡ finding.Installed members ∷ []
  finds-installed None members = refl
  finds-installed (Some question) members = refl

  notes-installed : (members : List ℕ) (old new : N) → NotesMore (finding.Installed members) old new
      → NotesInstalled (answer_lines file noted) members old new
  notes-installed members old new notes basis numbers before at =
      noted-more numbers before (lines.Installation members) (finding.Installed members) old new (finds-installed (open_after None before) members)
      notes at

  pub notes-claim : (step : CertRecord) (notes : N) → is_common step ≡ false → NotesClaim (answer_lines file noted) step notes notes
  notes-claim step notes own basis numbers before faultless at =
      stays numbers before step notes (own-none (open_after None before) step own) at

  -- where a finding is noted, whatever was found before
  abbrev pub Notes : {E : Type 0} → Result (Unit {0}) E → Finding → N → N → Type 0
  Notes result found old new = (numbers : List ℕ) (before : List Finding) → noted numbers before old
      → OnOk result (noted numbers (before ++ found ∷ []) new)

  pub refuted-noted : {E : Type 0} (result : Result (Unit {0}) E) (question : List Word) (old new : N)
      → Notes result (finding.Refuted question) old new → OnOk result (NotesRefuted (answer_lines file noted) question old new)
  refuted-noted (Ok u) question old new notes = notes-refuted question old new notes
  refuted-noted (Err error) question old new notes = tt

  pub undecided-noted : {E : Type 0} (result : Result (Unit {0}) E) (question : List Word) (old new : N)
      → Notes result (finding.LeftUndecided question) old new → OnOk result (NotesUndecided (answer_lines file noted) question old new)
  undecided-noted (Ok u) question old new notes = notes-undecided question old new notes
  undecided-noted (Err error) question old new notes = tt

  pub installed-noted : {E : Type 0} (result : Result (Unit {0}) E) (members : List ℕ) (old new : N)
      → Notes result (finding.Installed members) old new → OnOk result (NotesInstalled (answer_lines file noted) members old new)
  installed-noted (Ok u) members old new notes = notes-installed members old new notes
  installed-noted (Err error) members old new notes = tt
