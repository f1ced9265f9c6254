-- What the search answers, and what it leaves of the file.
use Rattle.std.proofs.Common.{◌≡◌, inl, inr, ℕ, ◌+◌, ◌-◌, ◌<◌, ◌≤◌, List, [], ◌∷◌, length, Result, Ok, Err, refl, sym, ap, subst, ◌∙◌, arith}
use Rattle.std.specs.List.{All}
use Rattle.dist_base.specs.Answers.{IsExactly}
use Rattle.dist_base.specs.declared.TheConstants.{MAX_LIMIT}
use Rattle.dist_clause.specs.ClauseList.{ClauseList}
use Rattle.dist_clause.specs.Formula.{IsClauseOver}
use Rattle.dist_outside.specs.DeskView.{DeskView}
use Rattle.dist_outside.specs.declared.limits.Limits.{Limits}
use Rattle.dist_outside.specs.declared.trouble.What.{What}
use Rattle.dist_outside.specs.declared.trouble.What.TheVariants.{Variables, Clauses, Literals}
use Rattle.dist_outside.specs.declared.trouble.WorkError.{WorkError}
use Rattle.dist_outside.specs.declared.trouble.WorkError.TheVariants.{ReadFault, WriteFault, TooLarge, NoMemory}
use Rattle.dist_cert.specs.Form.{IsSmall}
use Rattle.dist_judge.specs.Causes.{IsLarge}
use Rattle.dist_repo.specs.PackageList.{PackageList}
use Rattle.dist_explain.specs.Answered.{Answers}
use Rattle.dist_explain.specs.ExplanationFiles.{AreSelectedInputs, PassesFirst, asked_by, explanation_files}
use Rattle.dist_explain.specs.NotesPrivate.{AreNotesOf, NotesView}
use Rattle.dist_explain.specs.declared.asked.Asked.{Asked}
use Rattle.dist_explain.specs.declared.explained.Explained.{Explained}
use Rattle.dist_findings.specs.AnswerFiles.{Inputs}
use Rattle.dist_findings.specs.Findings.{findings}
use Rattle.dist_line_write.specs.Asking.{AskerView}
use Rattle.dist_inquiry.specs.StartLaws.{alone-stand, heading-by, log-at-start, new_asker}
use Rattle.dist_explain_search.specs.ExplainAnswers.{ExplainAnswers, TellsFirst, first_numbers}
use Rattle.dist_explain_search.specs.SearchPrivate.{FitsAsked, Leaves, MayBegin, RunsSearch, TellsAnswer, TellsOf, WritesFile}

-- ---- before the file is made

pub answers-large : (r : PackageList) (number limit : ℕ) (limits : Limits) (name : List ℕ) (d : DeskView) (error : WorkError)
    → IsLarge (PassesFirst r limits) error → ExplainAnswers r number limit limits name d d (Err error)
answers-large r number limit limits name d (TooLarge Variables) passes = (refl, passes)
answers-large r number limit limits name d (TooLarge Clauses) passes = (refl, passes)
answers-large r number limit limits name d (TooLarge Literals) passes = (refl, passes)
answers-large r number limit limits name d (TooLarge what) passes = absurd (elim passes [
  | inl first ↦ first
  | inr x ↦ x.passes
])
answers-large r number limit limits name d NoMemory passes = inl refl
answers-large r number limit limits name d ReadFault passes = absurd passes
answers-large r number limit limits name d WriteFault passes = absurd passes

-- ---- what is written

-- numbers of the first line
back-one : (number : ℕ) → number ≡ number + 1 - 1
back-one number = omega arith

all-variables : (variables packages relations : ℕ) → variables ≡ packages + relations → packages + (variables - packages) ≡ variables
all-variables variables packages relations split = omega (arith, split)

above-zero : (number : ℕ) → 1 ≤ number + 1
above-zero number = omega arith

within-one : (number packages : ℕ) → number < packages → number + 1 ≤ packages
within-one number packages short = omega (arith, short)

-- what the set holds
abbrev pub basis_of : ClauseList → Inputs
basis_of set = record { variables = set.variables; clauses = set.clauses }

-- the numbers of the first line
abbrev pub numbers_of : PackageList → (number limit : ℕ) → ClauseList → List ℕ
numbers_of r number limit set = first_numbers r number limit (basis_of set)

module _ (r : PackageList) (number limit : ℕ) (set : ClauseList) (packages variables : ℕ) (first : packages ≡ length r.packages)
    (second : variables ≡ set.variables) where
  -- what is asked, and the numbers of the first line
  pub asked-is : record { packages = packages; relations = variables - packages; number = number + 1 } ≡ asked_by (numbers_of r number limit set)
  asked-is = ap (λ (p : ℕ). record { packages = p; relations = variables - p; number = number + 1 }) first
      ∙ ap (λ (v : ℕ). record { packages = length r.packages; relations = v - length r.packages; number = number + 1 }) second

  pub told-is : (told : List ℕ) → told ≡ limit ∷ packages ∷ (variables - packages) ∷ (number + 1) ∷ [] → told ≡ numbers_of r number limit set
  told-is told is = is ∙ ap (λ (p : ℕ). limit ∷ p ∷ (variables - p) ∷ (number + 1) ∷ []) first
      ∙ ap (λ (v : ℕ). limit ∷ length r.packages ∷ (v - length r.packages) ∷ (number + 1) ∷ []) second

module _ (r : PackageList) (number limit : ℕ) (limits : Limits) (set : ClauseList) (inputs : AreSelectedInputs r limits set)
    (short : number < length r.packages) where
  -- the variables are those of the packages and the relations
  pub fits-asked : (asked : Asked) → asked ≡ asked_by (numbers_of r number limit set) → FitsAsked asked set.variables
  fits-asked asked is = subst (λ (k : Asked). FitsAsked k set.variables) (sym is) (record {
    all = all-variables set.variables (length r.packages) (length inputs.is_basis.clauses) inputs.is_basis.variables;
    from_one = above-zero number;
    upto = within-one number (length r.packages) short;
  })

  module _ (from : 1 ≤ limit) (most : limit ≤ MAX_LIMIT) (over : All (IsClauseOver set.variables) set.clauses) (asked : Asked)
      (are : asked ≡ asked_by (numbers_of r number limit set)) (told : List ℕ) (is : told ≡ numbers_of r number limit set) (small : All IsSmall told) where
    -- the search may begin
    may-begin : (notes : NotesView) → AreNotesOf asked [] notes
        → MayBegin r asked notes limits (numbers_of r number limit set) (basis_of set) (new_asker set limit limits)
    may-begin notes noted =
        let all = all-variables set.variables (length r.packages) (length inputs.is_basis.clauses) inputs.is_basis.variables in
        let above = above-zero number in
        let within = within-one number (length r.packages) short in
        record {
          right = record {
            heading = heading-by (explanation_files r) (numbers_of r number limit set) refl from most (subst (All IsSmall) is small);
            is_basis = inputs.is_basis;
            within = inputs.within;
            fits = record { packages_are = refl; variables_are = all; from_one = above; upto = within };
          };
          log = log-at-start (explanation_files r) limits (numbers_of r number limit set) set limit refl;
          stand = alone-stand set.variables set.clauses over;
          writer = refl;
          keeps = (are, subst (λ (k : Asked). AreNotesOf k [] notes) are noted);
        }

    module _ (name : List ℕ) (old new : DeskView) where
      -- what is left, behind the numbers of the first line
      abbrev Left : Result Explained WorkError → Type 0
      Left result = Leaves r limits (numbers_of r number limit set) (basis_of set)
          (λ explained found. Answers (asked_by (numbers_of r number limit set)) found explained) name old new result

      by-result : (result : Result Explained WorkError) → Left result → ExplainAnswers r number limit limits name old new result
      by-result (Ok explained) (text, holds, whole, answered) = (
        text,
        holds,
        (numbers_of r number limit set, ap (λ (n : ℕ). record { limit = limit; «package» = n }) (back-one number), answered),
        (basis_of set, inputs.is_basis, whole),
      )
      by-result (Err (TooLarge Variables)) (text, holds, full) = absurd full.passes.3
      by-result (Err (TooLarge Clauses)) (text, holds, full) = absurd full.passes.3
      by-result (Err (TooLarge Literals)) (text, holds, full) = absurd full.passes.3
      by-result (Err (TooLarge what)) (text, holds, full) = (text, holds, (basis_of set, inputs.is_basis, full))
      by-result (Err WriteFault) (rose, leaves) = (rose, (basis_of set, inputs.is_basis, leaves))
      by-result (Err NoMemory) leaves = inr (basis_of set, inputs.is_basis, leaves)
      by-result (Err ReadFault) none = absurd none

      pub explain-answers : (result : Result Explained WorkError) → TellsAnswer r asked told (new_asker set limit limits) name old new result
          → ExplainAnswers r number limit limits name old new result
      explain-answers result (inl none) = subst (ExplainAnswers r number limit limits name old new) (sym none.0) (inl none.1)
      explain-answers result (inr tells) = by-result result
          (subst (λ (ns : List ℕ). Leaves r limits ns (basis_of set) (λ explained found. Answers (asked_by ns) found explained) name old new result) is
          (tells limits (basis_of set) (λ n noted.
          subst (λ (ns : List ℕ). MayBegin r asked n limits ns (basis_of set) (new_asker set limit limits)) (sym is) (may-begin n noted))))

-- ---- that a number is passed first

-- it is told exactly, but for want of memory
abbrev pub TellsExactly : PackageList → Limits → Result ClauseList WorkError → Type 0
TellsExactly r limits result = (told : What) → IsExactly NoMemory result (TooLarge told) (PassesFirst r limits told)

abbrev failed : WorkError → Result ClauseList WorkError
failed error = Err error

one-told : (first second : What) → failed (TooLarge first) ≡ failed (TooLarge second) → first ≡ second
one-told first second same = cc

pub first-err : (r : PackageList) (limits : Limits) (error : WorkError) → TellsExactly r limits (Err error) → TellsFirst r limits (Err error)
first-err r limits (TooLarge told) exact other passes =
    inl (ap (λ (w : What). Err (TooLarge w)) (one-told told other ((exact other (λ is. cc)).1 passes)))
first-err r limits NoMemory exact other passes = inr refl
first-err r limits ReadFault exact other passes =
    let is : failed ReadFault ≡ failed (TooLarge other) = (exact other (λ is. cc)).1 passes in cc
first-err r limits WriteFault exact other passes =
    let is : failed WriteFault ≡ failed (TooLarge other) = (exact other (λ is. cc)).1 passes in cc

pub first-ok : (r : PackageList) (limits : Limits) (set : ClauseList) → TellsExactly r limits (Ok set) → (result : Result Explained WorkError)
    → TellsFirst r limits result
first-ok r limits set exact result other passes =
    let is : Ok set ≡ Err (TooLarge other) = (exact other (λ is. cc)).1 passes in cc

-- ---- the answer of a search

abbrev unit-failed : WorkError → Result (Unit {0}) WorkError
unit-failed error = Err error

abbrev unit-done : Result (Unit {0}) WorkError
unit-done = Ok tt

one-failure : (first second : WorkError) → unit-failed first ≡ unit-failed second → first ≡ second
one-failure first second same = cc

module _ (r other : PackageList) (same : other ≡ r) (asked kept : Asked) (is_asked : kept ≡ asked) (n m : NotesView) (told : List ℕ) (a : AskerView)
    (name : List ℕ) (old new : DeskView) (noted : AreNotesOf asked [] n) where
  -- what was run, of this repository and package
  here : (result : Result (Unit {0}) WorkError) → WritesFile other kept n m told a name old new result → WritesFile r asked n m told a name old new result
  here result writes = subst (λ (k : Asked). WritesFile r k n m told a name old new result) is_asked
      (subst (λ (v : PackageList). WritesFile v kept n m told a name old new result) same writes)

  pub tells-answer : (explained : Explained) → TellsOf m explained → RunsSearch other kept n m told a name old new (Ok tt)
      → TellsAnswer r asked told a name old new (Ok explained)
  tells-answer explained tells (inl none) = let never : unit-done ≡ unit-failed NoMemory = none.0 in cc
  tells-answer explained tells (inr writes) = inr (λ limits basis may.
      let left = here (Ok tt) writes limits basis (may n noted) in
      let done = left.3 in (
        left.0,
        left.1,
        left.2,
        record {
          basis = done.basis;
          is_basis = done.is_basis;
          steps = done.steps;
          accepted = done.accepted;
          claims = tells (asked_by told) (findings done.steps) done.claims.0 (λ no. no done.claims.1);
          numbers = done.numbers;
        },
      ))

  pub tells-error : (error : WorkError) → RunsSearch other kept n m told a name old new (Err error) → TellsAnswer r asked told a name old new (Err error)
  tells-error error (inl none) = inl (ap (λ (e : WorkError). Err e) (one-failure error NoMemory none.0), none.1)
  tells-error (TooLarge what) (inr writes) = inr (λ limits basis may. here (Err (TooLarge what)) writes limits basis (may n noted))
  tells-error WriteFault (inr writes) = inr (λ limits basis may. here (Err WriteFault) writes limits basis (may n noted))
  tells-error NoMemory (inr writes) = inr (λ limits basis may. here (Err NoMemory) writes limits basis (may n noted))
  tells-error ReadFault (inr writes) = inr (λ limits basis may. here (Err ReadFault) writes limits basis (may n noted))
