-- What the lines of an accepted file find decides the answer, and each finding is sound.
use Rattle.std.proofs.Common.{◌≡◌, inl, inr, ℕ, List, [], ◌∷◌, ◌++◌, Option, Some, None, refl, sym, ap, subst, ◌∙◌}
use Rattle.std.proofs.Common.{arith, append_assoc}
use Rattle.std.specs.Prelude.{All, Contains}
use Rattle.std.proofs.lemmas.List.{append-nil}
use Rattle.std.proofs.lemmas.List.Elements.{Contains-push}
use Rattle.dist_outside.specs.declared.limits.Limits.{Limits}
use Rattle.dist_cert.specs.declared.faults.CertCause.TheVariants as causes
use Rattle.dist_cert.specs.declared.records.CertRecord.{CertRecord}
use Rattle.dist_cert.specs.declared.records.CertRecord.TheVariants.{End}
use Rattle.dist_cert.specs.FileLines.{BeginsWith, IsWhole, lines_text}
use Rattle.dist_cert.specs.Form.{HasForm, Word, record_text}
use Rattle.dist_cert.specs.GroupLaws.{all-at}
use Rattle.dist_cert.specs.ListLaws.{contains-cases}
use Rattle.dist_cert.specs.OneVerdictLaws.{first_line_of}
use Rattle.dist_judge.specs.ClearKindLaws.{IsClear}
use Rattle.dist_judge.specs.FileKind.{rules_of}
use Rattle.dist_judge.specs.HeadingLaws.{heading_begins}
use Rattle.dist_judge.specs.WholeLaws.{whole_ended, whole_faultless}
use Rattle.dist_line_check.specs.ModelLaws.{IsSoundRule}
use Rattle.dist_findings.specs.AnswerFiles.{AnswerFile, Inputs, files_of, limit_of}
use Rattle.dist_findings.specs.FindingLaws.{findings_push, open_after}
use Rattle.dist_findings.specs.Findings.{findings, found_at}
use Rattle.dist_findings.specs.SoundLaws.{IsSound, NewLinesAreFew, findings_sound}
use Rattle.dist_findings.specs.declared.finding.Finding.{Finding}

-- a place where an element stands
record StandsIn {X : Type 0} (xs : List X) (x : X) : Type 0 where
  before : List X
  after : List X
  is : xs ≡ before ++ x ∷ after

stands-in : {X : Type 0} (xs : List X) (x : X) → Contains xs x → StandsIn xs x
stands-in [] x there = absurd (omega (arith, there.1))
stands-in {X} (y ∷ xs) x there = elim (contains-cases y xs x there) [
  | inl same ↦ record { before = []; after = xs; is = ap (λ (z : X). z ∷ xs) same }
  | inr later ↦ let rest = stands-in xs x later in record { before = y ∷ rest.before; after = rest.after; is = ap (λ (zs : List X). y ∷ zs) rest.is }
]

module _ (file : AnswerFile) (clear : IsClear (files_of file)) (limits : Limits) (text numbers : List ℕ) (basis : Inputs) (steps : List CertRecord)
    (whole : IsWhole (rules_of (files_of file) basis) limits text numbers steps) where
  -- no line stands behind the end
  none-behind : (before after : List CertRecord) → steps ≡ before ++ End ∷ after → after ≡ []
  none-behind before [] is = refl
  none-behind before (s ∷ after) is =
      let split : steps ≡ (before ++ End ∷ []) ++ s ∷ after = is ∙ sym (append_assoc before (End ∷ []) (s ∷ after)) in
      let form = all-at (λ x. HasForm (record_text x) x) steps (before ++ End ∷ []) s after split whole.faultless.reads.records in
      let begins : BeginsWith (lines_text (s ∷ after) ++ []) (record_text s) (lines_text after ++ []) = record {
        ended = first_line_of s after [];
        one_line = clear.records.record_line s form;
      } in
      absurd (whole.faultless.later (before ++ End ∷ []) s after split causes.BadRecord
      (record_text s, lines_text after ++ [], begins, inl (Contains-push before End)))

  -- the findings decide the answer
  pub whole-decided : ¬ ¬ file.IsDecided numbers (findings steps)
  whole-decided =
      let at = stands-in steps End (whole_ended (files_of file) basis limits text numbers steps whole) in
      let none = none-behind at.before at.after at.is in
      let right = whole_faultless (files_of file) clear basis limits text numbers steps whole in
      let all : steps ≡ at.before ++ End ∷ [] = at.is ∙ ap (λ (xs : List CertRecord). at.before ++ End ∷ xs) none in
      let same : findings steps ≡ findings at.before
      = ap findings all ∙ findings_push None at.before End ∙ ap (λ (fs : List Finding). findings at.before ++ fs) (end-finds (open_after None at.before))
      ∙ append-nil (findings at.before) in
      subst (λ fs. ¬ ¬ file.IsDecided numbers fs) (sym same) (right at.before End at.after at.is causes.Incomplete)
    where
      end-finds : (asked : Option (List Word)) → found_at asked End ≡ []
      end-finds (Some question) = refl
      end-finds None = refl

  -- the numbers fit
  pub whole-fits : ¬ ¬ file.Fits basis numbers
  whole-fits wrong =
      let reads = whole.faultless.reads in
      let begins = heading_begins (files_of file) clear text numbers steps [] reads in
      whole.faultless.first causes.BadHeader (
        (files_of file).heading_text numbers,
        lines_text steps ++ [],
        begins,
        λ other form fits. wrong (subst (file.Fits basis)
            (clear.one_heading ((files_of file).heading_text numbers) other numbers form reads.header) fits),
      )

  -- each finding is sound
  pub whole-sound : IsSoundRule → NewLinesAreFew → All (IsSound basis.clauses (limit_of numbers)) (findings steps)
  whole-sound sound few = findings_sound sound few (λ before. file.IsDecided numbers (findings before)) basis.variables basis.clauses (limit_of numbers)
      steps (whole_faultless (files_of file) clear basis limits text numbers steps whole)
