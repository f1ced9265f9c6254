-- What is known of an accepted file: its numbers, its findings, and what these answer.
use Rattle.std.proofs.Common.{◌≡◌, ◌≢◌, inl, inr, ℕ, ◌-◌, ◌≤◌, ◌^◌, ◌==◌, true, not, List, [], ◌∷◌, ◌++◌, Option, Some, None, length, refl, sym}
use Rattle.std.proofs.Common.{ap, subst, ◌∙◌, arith, slice_get, append_assoc}
use Rattle.std.specs.Prelude.{All, Contains, codes}
use Rattle.std.specs.List.{list_all}
use Rattle.std.proofs.lemmas.Bool.{and_parts, eq-eqb, true≢false}
use Rattle.std.proofs.lemmas.List.{append-nil}
use Rattle.std.proofs.lemmas.List.Elements.{All-cons, All-nil, Contains-push}
use Rattle.dist_base.specs.Ascii.{line_feed}
use Rattle.dist_base.specs.ListLaws.{ElementAt, element-at}
use Rattle.dist_clause.specs.Formula.{Literal}
use Rattle.dist_outside.specs.declared.limits.Limits.{Limits}
use Rattle.dist_cert.specs.declared.faults.CertCause.TheVariants as causes
use Rattle.dist_cert.specs.declared.records.CertRecord.{CertRecord}
use Rattle.dist_cert.specs.declared.records.CertRecord.TheVariants.{End}
use Rattle.dist_cert.specs.ClearFormsLaws.{FormsAreClear}
use Rattle.dist_cert.specs.FileLines.{IsOneLine, IsWhole, lines_text}
use Rattle.dist_cert.specs.Form.{HasForm, Word, record_text}
use Rattle.dist_cert.specs.GroupLaws.{all-at}
use Rattle.dist_cert.specs.ListLaws.{contains-cases}
use Rattle.dist_cert.specs.OneVerdictLaws.{first_line_of}
use Rattle.dist_judge.specs.ClearKindLaws.{IsClear}
use Rattle.dist_judge.specs.FileKind.{FileKind, rules_of}
use Rattle.dist_judge.specs.HeadingLaws.{heading_begins}
use Rattle.dist_judge.specs.WholeLaws.{whole_ended, whole_faultless}
use Rattle.dist_line_check.specs.ModelLaws.{WhatFollows, sound-rule}
use Rattle.dist_line_check.specs.ToldLaws.{most-told, stable}
use Rattle.dist_future.specs.Moved.{TellOfMoves}
use Rattle.dist_space.specs.Space.{IsSpace, SpaceView}
use Rattle.dist_space_clauses.specs.SpaceClauses.{AreSpaceClauses}
use Rattle.dist_findings.specs.AnswerFiles.{Inputs, files_of, limit_of, number_at}
use Rattle.dist_findings.specs.Answers.{IsAnswered}
use Rattle.dist_findings.specs.FilesClearLaws.{clear_files}
use Rattle.dist_findings.specs.FindingLaws.{findings_push, open_after}
use Rattle.dist_findings.specs.Findings.{findings, found_at}
use Rattle.dist_findings.specs.SoundLaws.{IsSound, NewLinesAreFew, findings_sound}
use Rattle.dist_findings.specs.declared.finding.Finding.{Finding}
use Rattle.dist_repair.specs.Answered.{Answers}
use Rattle.dist_repair.specs.Counters.{CountedModelsTell, ModelsTellMoves, counted_clauses, counted_variables, counter_of}
use Rattle.dist_repair.specs.Means.{Says}
use Rattle.dist_repair.specs.RepairFiles.{AreCountedInputs, Fits, IsDecided, asked_by, most_of, repair_files}
use Rattle.dist_repair.specs.Verdicts.{AcceptedSays, IsHeaderOf, IsOver, is_undecided}
use Rattle.dist_base.specs.declared.TheConstants.{MAX_MOST}
use Rattle.dist_repair.specs.declared.repair.Repair.{Repair}
use Rattle.dist_repair.specs.declared.verdict.RepairHeader.{RepairHeader}
use Rattle.dist_repair.proofs.OverLemmas.{space-over}
use Rattle.dist_repair.proofs.SoundLemmas.{answers-hard, answers-over, answers-say}

-- ---- the front

plain-bytes : (bytes : List ℕ) → list_all (λ byte. not (byte == line_feed)) bytes ≡ true → IsOneLine bytes
plain-bytes [] all = All-nil (λ byte. byte ≢ line_feed)
plain-bytes (byte ∷ bytes) all =
    let parts = and_parts (not (byte == line_feed)) (list_all (λ b. not (b == line_feed)) bytes) all in
    All-cons (λ b. b ≢ line_feed) byte bytes (λ same. true≢false (sym parts.0 ∙ ap not (eq-eqb byte line_feed same))) (plain-bytes bytes parts.1)

pub front-line : IsOneLine (codes "distfuture-repair 1")
front-line = plain-bytes (codes "distfuture-repair 1") refl

-- ---- the end

-- a list in which something stands
pub record IsCut {X : Type 0} (xs : List X) (x : X) : Type 0 where
  pub before : List X
  pub after : List X
  pub is : xs ≡ before ++ x ∷ after

cut : {X : Type 0} (xs : List X) (x : X) → Contains xs x → IsCut xs x
cut [] x there = absurd (omega (arith, there.1))
cut {X} (y ∷ xs) x there = elim (contains-cases y xs x there) [
  | inl here ↦ record { before = []; after = xs; is = ap (λ (z : X). z ∷ xs) here }
  | inr later ↦ let rest = cut xs x later in
      record { before = y ∷ rest.before; after = rest.after; is = ap (λ (zs : List X). y ∷ zs) rest.is }
]

module _ (kind : FileKind) (clear : IsClear kind) (basis : kind.Basis) (limits : Limits) (text : List ℕ) (h : kind.Heading)
    (steps : List CertRecord) (whole : IsWhole (rules_of kind basis) limits text h steps) where
  -- nothing stands behind the end
  nothing-behind : (before after : List CertRecord) → steps ≡ before ++ End ∷ after → after ≡ []
  nothing-behind before [] is = refl
  nothing-behind before (step ∷ rest) is =
      let split : steps ≡ (before ++ End ∷ []) ++ step ∷ rest = is ∙ sym (append_assoc before (End ∷ []) (step ∷ rest)) in
      let form = all-at (λ s. HasForm (record_text s) s) steps (before ++ End ∷ []) step rest split whole.faultless.reads.records in
      absurd (whole.faultless.later (before ++ End ∷ []) step rest split causes.BadRecord (
        record_text step,
        lines_text rest ++ [],
        record { ended = first_line_of step rest []; one_line = clear.records.record_line step form },
        inl (Contains-push before End),
      ))

  pub record IsEnded : Type 0 where
    pub before : List CertRecord
    pub is : steps ≡ before ++ End ∷ []

  pub ended : IsEnded
  ended =
      let at = cut steps End (whole_ended kind basis limits text h steps whole) in
      record {
        before = at.before;
        is = at.is ∙ ap (λ (xs : List CertRecord). at.before ++ End ∷ xs) (nothing-behind at.before at.after at.is);
      }

  -- the numbers of the first line fit
  pub fits-not-not : ¬ ¬ kind.Fits basis h
  fits-not-not wrong = whole.faultless.first causes.BadHeader (
    kind.heading_text h,
    lines_text steps ++ [],
    heading_begins kind clear text h steps [] whole.faultless.reads,
    λ k form fits. wrong (subst (kind.Fits basis) (clear.one_heading (kind.heading_text h) k h form whole.faultless.reads.header) fits),
  )

-- ---- files of repairs

module _ (s : SpaceView) (forms : FormsAreClear) where
  pub clear : IsClear (files_of (repair_files s))
  clear = clear_files forms (repair_files s) front-line

  none-at-end : (open_one : Option (List Word)) → found_at open_one End ≡ []
  none-at-end None = refl
  none-at-end (Some question) = refl

  -- the findings of an accepted file have an answer
  pub decided-not-not : (basis : Inputs) (limits : Limits) (text numbers : List ℕ) (steps : List CertRecord)
      → IsWhole (rules_of (files_of (repair_files s)) basis) limits text numbers steps → ¬ ¬ IsDecided s (asked_by numbers) (findings steps)
  decided-not-not basis limits text numbers steps whole =
      let at = ended (files_of (repair_files s)) clear basis limits text numbers steps whole in
      let same : findings steps ≡ findings at.before = ap (λ (xs : List CertRecord). findings xs) at.is ∙ findings_push None at.before End
      ∙ ap (λ (fs : List Finding). findings at.before ++ fs) (none-at-end (open_after None at.before)) ∙ append-nil (findings at.before) in
      subst (λ found. ¬ ¬ IsDecided s (asked_by numbers) found) (sym same)
      (whole_faultless (files_of (repair_files s)) clear basis limits text numbers steps whole at.before End [] at.is causes.Incomplete)

-- what the laws of the crates below say of a space
pub record SpaceLaws (s : SpaceView) : Type 0 where
  pub tell : (clauses : List (List Literal)) → AreSpaceClauses s clauses → TellOfMoves s clauses
  pub tells : (clauses : List (List Literal)) → AreSpaceClauses s clauses → ModelsTellMoves s clauses
  pub counted : (clauses : List (List Literal)) (most : ℕ) → AreSpaceClauses s clauses → CountedModelsTell s clauses most

module _ (s : SpaceView) (space : IsSpace s) (forms : FormsAreClear) (follows : WhatFollows) (few : NewLinesAreFew) (laws : SpaceLaws s) where
  pub accepted-say : (limits : Limits) (text numbers : List ℕ) (h : RepairHeader) (repair : Repair) → IsHeaderOf numbers h
      → IsAnswered (repair_files s) limits text numbers (λ found. Answers s (asked_by numbers) found repair) → AcceptedSays s h repair
  accepted-say limits text numbers h repair header answered = elim answered.is_basis [
    | inl (within, inputs) ↦ record {
      package_is = at.element;
      in_range = subst (λ (k : ℕ). slice_get s.repository.packages k ≡ Some at.element) (sym header.number) at.is;
      says = says inputs;
      over = subst (λ (k : ℕ). IsOver (counted_variables (counter_of s k)) repair) (sym header.most)
          (answers-over s (asked_by numbers) (findings answered.steps) repair answered.claims);
      hard = λ undecided. subst (λ (k : ℕ). h.limit ≤ 3 ^ counted_variables (counter_of s k)) (sym header.most)
          (subst (λ (l : ℕ). l ≤ 3 ^ counted_variables (counter_of s (most_of numbers))) (sym header.limit) (hard inputs undecided));
    }
    | inr (above, none) ↦ absurd (omega (arith, above, most))
  ]
    where
      fits : ¬ ¬ Fits s answered.basis numbers
      fits = fits-not-not (files_of (repair_files s)) (clear s forms) answered.basis limits text numbers answered.steps answered.accepted

      from : 1 ≤ number_at 4 numbers
      from = stable (most-told 1 (number_at 4 numbers)) (λ no. fits (λ f. no f.from_one))

      upto : number_at 4 numbers ≤ length s.repository.packages
      upto = stable (most-told (number_at 4 numbers) (length s.repository.packages)) (λ no. fits (λ f. no f.upto))

      most : most_of numbers ≤ MAX_MOST
      most = stable (most-told (most_of numbers) MAX_MOST) (λ no. fits (λ f. no f.most))

      at : ElementAt s.repository.packages (number_at 4 numbers - 1)
      at = element-at s.repository.packages (number_at 4 numbers - 1) (omega (arith, from, upto))

      sound : (inputs : AreCountedInputs s (most_of numbers) answered.basis)
          → All (IsSound (counted_clauses s inputs.clauses (most_of numbers)) (limit_of numbers)) (findings answered.steps)
      sound inputs = subst (λ (clauses : List (List Literal)). All (IsSound clauses (limit_of numbers)) (findings answered.steps)) inputs.counted
          (findings_sound (sound-rule follows) few (λ before. IsDecided s (asked_by numbers) (findings before)) answered.basis.variables
          answered.basis.clauses (limit_of numbers) answered.steps (λ before step after is cause.
          whole_faultless (files_of (repair_files s)) (clear s forms) answered.basis limits text numbers answered.steps answered.accepted
          before step after is cause))

      says : AreCountedInputs s (most_of numbers) answered.basis → Says s at.element repair
      says inputs =
          answers-say s space inputs.clauses (space-over s space inputs.clauses inputs.are_clauses) (asked_by numbers) at.element at.is
          (laws.tell inputs.clauses inputs.are_clauses) (laws.tells inputs.clauses inputs.are_clauses)
          (laws.counted inputs.clauses (most_of numbers) inputs.are_clauses) (limit_of numbers) (findings answered.steps) (sound inputs)
          repair answered.claims

      hard : AreCountedInputs s (most_of numbers) answered.basis → is_undecided repair ≡ true
          → limit_of numbers ≤ 3 ^ counted_variables (counter_of s (most_of numbers))
      hard inputs undecided =
          answers-hard s space inputs.clauses (space-over s space inputs.clauses inputs.are_clauses) (asked_by numbers) at.element at.is
          (laws.tell inputs.clauses inputs.are_clauses) (laws.tells inputs.clauses inputs.are_clauses)
          (laws.counted inputs.clauses (most_of numbers) inputs.are_clauses) (limit_of numbers) (findings answered.steps) (sound inputs)
          repair answered.claims undecided
