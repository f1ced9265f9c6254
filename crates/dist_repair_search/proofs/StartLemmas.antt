-- What a search begins with, and what it answers.
use Rattle.std.proofs.Common.{◌≡◌, inl, inr, ℕ, ◌+◌, ◌-◌, ◌<◌, ◌≤◌, List, [], length, Result, Ok, Err, IfOk, refl, sym, ap, subst}
use Rattle.std.proofs.Common.{arith}
use Rattle.std.specs.Prelude.{All}
use Rattle.dist_base.specs.Answers.{IsExactly}
use Rattle.dist_base.specs.declared.TheConstants.{MAX_LIMIT}
use Rattle.dist_clause.specs.ClauseList.{ClauseList}
use Rattle.dist_clause.specs.Formula.{IsClauseOver}
use Rattle.dist_cert.specs.Form.{IsSmall}
use Rattle.dist_findings.specs.AnswerFiles.{Inputs}
use Rattle.dist_findings.specs.Answers.{IsAnswered}
use Rattle.dist_findings.specs.Start.{HasRightNumbers}
use Rattle.dist_inquiry.specs.AnswerText.{setting_of}
use Rattle.dist_inquiry.specs.Inquiring.{MayInquire, course_of}
use Rattle.dist_inquiry.specs.StartLaws.{alone-stand, heading-by, log-at-start, new_asker}
use Rattle.dist_inquiry.specs.Written.{WrittenAnswers}
use Rattle.dist_judge.specs.Causes.{IsLarge}
use Rattle.dist_outside.specs.DeskView.{DeskView}
use Rattle.dist_outside.specs.declared.limits.Limits.{Limits}
use Rattle.dist_outside.specs.declared.trouble.What.{What}
use Rattle.dist_outside.specs.declared.trouble.What.TheVariants as what
use Rattle.dist_outside.specs.declared.trouble.WorkError.{WorkError}
use Rattle.dist_outside.specs.declared.trouble.WorkError.TheVariants as work
use Rattle.dist_repair.specs.Answered.{Answers}
use Rattle.dist_repair.specs.InputsPrivate.{AreInputsWithin, inputs_of}
use Rattle.dist_repair.specs.NotesPrivate.{AreNotesOf, AreWordsOf, NotesView, WordsView, answer_of}
use Rattle.dist_repair.specs.RepairFiles.{Fits, IsBasisOf, PassesWith, asked_by, repair_files}
use Rattle.dist_repair.specs.Verdicts.{AcceptedSays, IsHeaderOf}
use Rattle.dist_base.specs.declared.TheConstants.{MAX_MOST}
use Rattle.dist_repair.specs.declared.repair.Repair.{Repair}
use Rattle.dist_repair.specs.declared.verdict.RepairHeader.{RepairHeader}
use Rattle.dist_space.specs.Space.{IsSpace, SpaceView}
use Rattle.dist_space.specs.VariableLaws.{variable-range}
use Rattle.dist_space.specs.declared.meaning.Meaning.TheVariants.{Present}
use Rattle.dist_line_write.specs.Asking.{AskerView}
use Rattle.dist_repair_search.specs.QuestionOrder.{repair_asks}
use Rattle.dist_repair_search.specs.SearchAnswers.{SearchAnswers, TellsFirst, first_numbers}
use Rattle.dist_repair_search.specs.SearchPrivate.{AreOver, RunsSearch, TellsAnswer, WritesFile}

module _ (s : SpaceView) (h : RepairHeader) (limits : Limits) (set : ClauseList) (inputs : AreInputsWithin limits s h.most set)
    (short : h.«package» < length s.repository.packages) (few : h.most ≤ MAX_MOST) where
  abbrev basis : Inputs
  basis = inputs_of set

  abbrev numbers : List ℕ
  numbers = first_numbers s h (inputs_of set)

  fits : Fits s (inputs_of set) (first_numbers s h (inputs_of set))
  fits = record {
    packages = refl;
    variables = refl;
    clauses = refl;
    from_one = omega arith;
    upto = omega (arith, short);
    most = few;
  }

  is-basis : IsBasisOf s (first_numbers s h (inputs_of set)) (inputs_of set)
  is-basis = inl (few, inputs.counted)

  -- the numbers are right
  pub right-numbers : (told : List ℕ) → told ≡ first_numbers s h (inputs_of set) → HasRightNumbers (repair_files s) told
  right-numbers told is = subst (HasRightNumbers (repair_files s)) (sym is) (inputs_of set, is-basis, fits)

  -- the questions are over the variables
  pub words-over : IsSpace s → (told : List ℕ) → told ≡ first_numbers s h (inputs_of set) → (w : WordsView) → AreWordsOf s (asked_by told) w
      → (n : ℕ) → n ≡ set.variables → AreOver n w
  words-over space told is w words n all =
      let are = subst (λ (ns : List ℕ). AreWordsOf s (asked_by ns) w) is words in
      let place : h.«package» + 1 - 1 < length s.repository.packages = omega (arith, short) in
      let range = variable-range s (Present (h.«package» + 1 - 1)) space place in
      let own_is = are.own_is in
      let first = are.first_is in
      let last = are.last_is in
      let counted = inputs.counted.variables in
      record {
        from_one = omega (arith, range.0, own_is);
        apart = omega (arith, range.1, own_is, first);
        upto = omega (arith, last, counted, all);
      }

  module _ (from : 1 ≤ h.limit) (upto : h.limit ≤ MAX_LIMIT) where
    header-of : IsHeaderOf (first_numbers s h (inputs_of set)) h
    header-of = record { limit = refl; number = omega arith; most = refl }

    pub may-inquire : (told : List ℕ) → told ≡ first_numbers s h (inputs_of set) → All IsSmall told → All (IsClauseOver set.variables) set.clauses
        → (a : AskerView) → a ≡ new_asker set h.limit limits → (w : WordsView) (n : NotesView) → AreWordsOf s (asked_by told) w
        → AreNotesOf s (asked_by told) [] n
        → MayInquire (repair_files s) (λ ns. AreWordsOf s (asked_by ns) w × AreNotesOf s (asked_by ns) [] n) limits told (inputs_of set) a
    may-inquire told is small over a a_is w n words noted =
        let Keeps : List ℕ → Type 0 = λ ns. AreWordsOf s (asked_by ns) w × AreNotesOf s (asked_by ns) [] n in
        subst (λ (ns : List ℕ). MayInquire (repair_files s) Keeps limits ns (inputs_of set) a) (sym is)
        (subst (λ (b : AskerView). MayInquire (repair_files s) Keeps limits (first_numbers s h (inputs_of set)) (inputs_of set) b) (sym a_is) (record {
          right = record {
            heading = heading-by (repair_files s) (first_numbers s h (inputs_of set)) refl from upto (subst (All IsSmall) is small);
            is_basis = is-basis;
            within = inputs.within;
            fits = fits;
          };
          log = log-at-start (repair_files s) limits (first_numbers s h (inputs_of set)) set h.limit refl;
          stand = alone-stand set.variables set.clauses over;
          writer = refl;
          keeps = subst Keeps is (words, noted);
        }))

    -- what the search wrote, with the numbers of the first line
    abbrev pub Writes : (name : List ℕ) → DeskView → DeskView → Result Repair WorkError → Type 0
    Writes name old new result = WrittenAnswers (setting_of (repair_files s) limits (inputs_of set) (first_numbers s h (inputs_of set)))
        (course_of (repair_files s) (repair_asks s) (first_numbers s h (inputs_of set)))
        (λ repair text. IsAnswered (repair_files s) limits text (first_numbers s h (inputs_of set))
        (λ found. Answers s (asked_by (first_numbers s h (inputs_of set))) found repair)) name old new result

    by-result : (name : List ℕ) (old new : DeskView) (result : Result Repair WorkError) → Writes name old new result
        → SearchAnswers s h limits name old new result
    by-result name old new (Ok repair) (text, holds, whole, answered) =
        (text, holds, (first_numbers s h (inputs_of set), header-of, answered), (inputs_of set, inputs.counted, whole))
    by-result name old new (Err (work.TooLarge what.Variables)) (text, holds, full) = absurd full.passes.3
    by-result name old new (Err (work.TooLarge what.Clauses)) (text, holds, full) = absurd full.passes.3
    by-result name old new (Err (work.TooLarge what.Literals)) (text, holds, full) = absurd full.passes.3
    by-result name old new (Err (work.TooLarge told)) (text, holds, full) = (text, holds, (inputs_of set, inputs.counted, full))
    by-result name old new (Err work.WriteFault) (rose, leaves) = (rose, (inputs_of set, inputs.counted, leaves))
    by-result name old new (Err work.NoMemory) leaves = inr (inputs_of set, inputs.counted, leaves)
    by-result name old new (Err work.ReadFault) none = absurd none

    module _ (told : List ℕ) (is : told ≡ first_numbers s h (inputs_of set)) (small : All IsSmall told)
        (over : All (IsClauseOver set.variables) set.clauses) (name : List ℕ) (old new : DeskView) where
      pub search-answers : (result : Result Repair WorkError) → TellsAnswer s told (new_asker set h.limit limits) name old new result
          → SearchAnswers s h limits name old new result
      search-answers result (inl none) = subst (SearchAnswers s h limits name old new) (sym none.0) (inl none.1)
      search-answers result (inr tells) = by-result name old new result
          (subst (λ (ns : List ℕ). WrittenAnswers (setting_of (repair_files s) limits (inputs_of set) ns) (course_of (repair_files s) (repair_asks s) ns)
          (λ repair text. IsAnswered (repair_files s) limits text ns (λ found. Answers s (asked_by ns) found repair)) name old new result) is
          (tells limits (inputs_of set) (λ w n words noted. may-inquire told is small over (new_asker set h.limit limits) refl w n words noted)))

-- ---- where the clauses pass a number

module _ (s : SpaceView) (h : RepairHeader) (limits : Limits) where
  pub inputs-err : (name : List ℕ) (desk : DeskView) (error : WorkError) → IsLarge (PassesWith s h.most limits) error
      → SearchAnswers s h limits name desk desk (Err error)
  inputs-err name desk (work.TooLarge what.Variables) passes = (refl, passes)
  inputs-err name desk (work.TooLarge what.Clauses) passes = (refl, passes)
  inputs-err name desk (work.TooLarge what.Literals) passes = (refl, passes)
  inputs-err name desk (work.TooLarge told) passes = absurd passes.passes
  inputs-err name desk work.NoMemory passes = inl refl
  inputs-err name desk error passes = absurd passes

-- that a number is passed first is told exactly, but for want of memory
abbrev pub TellsExactly : (s : SpaceView) (most : ℕ) → Limits → Result ClauseList WorkError → Type 0
TellsExactly s most limits result = (told : What) → IsExactly work.NoMemory result (work.TooLarge told) (PassesWith s most limits told)

abbrev failed : WorkError → Result ClauseList WorkError
failed error = Err error

one-told : (first second : What) → failed (work.TooLarge first) ≡ failed (work.TooLarge second) → first ≡ second
one-told first second same = cc

pub tells-err : (s : SpaceView) (most : ℕ) (limits : Limits) (error : WorkError) → TellsExactly s most limits (Err error)
    → TellsFirst s most limits (Err error)
tells-err s most limits (work.TooLarge told) exact other passes =
    inl (ap (λ (w : What). Err (work.TooLarge w)) (one-told told other ((exact other (λ is. cc)).1 passes)))
tells-err s most limits work.NoMemory exact other passes = inr refl
tells-err s most limits work.ReadFault exact other passes =
    let is : failed work.ReadFault ≡ failed (work.TooLarge other) = (exact other (λ is. cc)).1 passes in cc
tells-err s most limits work.WriteFault exact other passes =
    let is : failed work.WriteFault ≡ failed (work.TooLarge other) = (exact other (λ is. cc)).1 passes in cc

pub tells-ok : (s : SpaceView) (most : ℕ) (limits : Limits) (set : ClauseList) → TellsExactly s most limits (Ok set) → (result : Result Repair WorkError)
    → TellsFirst s most limits result
tells-ok s most limits set exact result other passes =
    let is : Ok set ≡ Err (work.TooLarge other) = (exact other (λ is. cc)).1 passes in cc

-- ---- the answer of a search

abbrev unit-failed : WorkError → Result (Unit {0}) WorkError
unit-failed error = Err error

abbrev unit-done : Result (Unit {0}) WorkError
unit-done = Ok tt

one-failure : (first second : WorkError) → unit-failed first ≡ unit-failed second → first ≡ second
one-failure first second same = cc

module _ (s other : SpaceView) (same : other ≡ s) (w : WordsView) (n m : NotesView) (told : List ℕ) (a : AskerView) (name : List ℕ) (old new : DeskView)
    (words : AreWordsOf s (asked_by told) w) (noted : AreNotesOf s (asked_by told) [] n) where
  pub tells-answer : (repair : Repair) → repair ≡ answer_of m → RunsSearch other w n m told a name old new (Ok tt)
      → TellsAnswer s told a name old new (Ok repair)
  tells-answer repair is (inl none) = let never : unit-done ≡ unit-failed work.NoMemory = none.0 in cc
  tells-answer repair is (inr writes) = inr (λ limits basis may.
      let here = subst (λ (v : SpaceView). WritesFile v w n m told a name old new (Ok tt)) same writes limits basis (may w n words noted) in
      let claims : IsAnswered (repair_files s) limits here.0 told (λ found. Answers s (asked_by told) found repair) =
      subst (λ (r : Repair). IsAnswered (repair_files s) limits here.0 told (λ found. Answers s (asked_by told) found r)) (sym is) here.3 in
      (here.0, here.1, here.2, claims))

  pub tells-error : (error : WorkError) → RunsSearch other w n m told a name old new (Err error) → TellsAnswer s told a name old new (Err error)
  tells-error error (inl none) =
      inl (ap (λ (e : WorkError). Err e) (one-failure error work.NoMemory none.0), none.1)
  tells-error (work.TooLarge over) (inr writes) = inr (λ limits basis may.
      subst (λ (v : SpaceView). WritesFile v w n m told a name old new (Err (work.TooLarge over))) same writes limits basis (may w n words noted))
  tells-error work.WriteFault (inr writes) = inr (λ limits basis may.
      subst (λ (v : SpaceView). WritesFile v w n m told a name old new (Err work.WriteFault)) same writes limits basis (may w n words noted))
  tells-error work.NoMemory (inr writes) = inr (λ limits basis may.
      subst (λ (v : SpaceView). WritesFile v w n m told a name old new (Err work.NoMemory)) same writes limits basis (may w n words noted))
  tells-error work.ReadFault (inr writes) = inr (λ limits basis may.
      subst (λ (v : SpaceView). WritesFile v w n m told a name old new (Err work.ReadFault)) same writes limits basis (may w n words noted))

-- what is answered is true
pub search-says : (s : SpaceView) (h : RepairHeader) (limits : Limits) (name : List ℕ) (old new : DeskView) (result : Result Repair WorkError)
    → SearchAnswers s h limits name old new result
    → ((text numbers : List ℕ) (repair : Repair) → IsHeaderOf numbers h
    → IsAnswered (repair_files s) limits text numbers (λ found. Answers s (asked_by numbers) found repair) → AcceptedSays s h repair)
    → IfOk result (AcceptedSays s h)
search-says s h limits name old new (Ok repair) (text, holds, accepted, whole) law = law text accepted.0 repair accepted.1 accepted.2
search-says s h limits name old new (Err error) answers law = tt
