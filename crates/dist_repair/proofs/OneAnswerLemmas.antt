-- A text has one answer.
use Rattle.std.proofs.Common.{◌≡◌, inl, inr, ℕ, ◌≤◌, List, length, Result, Ok, Err, IfErr, IfOk, refl, sym, ap, ap₂, subst, ◌∙◌, arith}
use Rattle.std.proofs.lemmas.List.{take_all}
use Rattle.dist_base.specs.Answers.{IsExactly}
use Rattle.dist_clause.specs.ClauseList.{ClauseList, literal_count}
use Rattle.dist_clause.specs.Formula.{Literal}
use Rattle.dist_outside.specs.declared.limits.Limits.{Limits}
use Rattle.dist_outside.specs.declared.trouble.What.{What}
use Rattle.dist_outside.specs.declared.trouble.What.TheVariants as what
use Rattle.dist_outside.specs.declared.trouble.WorkError.{WorkError}
use Rattle.dist_outside.specs.declared.trouble.WorkError.TheVariants as work
use Rattle.dist_cert.specs.declared.faults.CertFault.{CertFault}
use Rattle.dist_cert.specs.declared.faults.ReadCertError.TheVariants.{Bad, Work}
use Rattle.dist_cert.specs.ClearFormsLaws.{FormsAreClear}
use Rattle.dist_judge.specs.AnswerLaws as answers
use Rattle.dist_judge.specs.Causes.{IsLarge, IsOfText}
use Rattle.dist_space.specs.Space.{SpaceView}
use Rattle.dist_space_clauses.specs.SpaceClauses.{AreSpaceClauses}
use Rattle.dist_findings.specs.AnswerFiles.{AreWithin, Inputs, files_of}
use Rattle.dist_findings.specs.Findings.{findings}
use Rattle.dist_repair.specs.Answered.{Answers}
use Rattle.dist_repair.specs.Counters.{PassesCounted, counted_clauses, counted_variables, counter_of}
use Rattle.dist_repair.specs.InputsPrivate.{AreInputsWithin, inputs_of}
use Rattle.dist_repair.specs.RepairFiles.{AreCountedInputs, IsBasisOf, PassesWith, asked_by, most_of, repair_files}
use Rattle.dist_repair.specs.Verdicts.{IsHeaderOf, RepairAnswers}
use Rattle.dist_base.specs.declared.TheConstants.{MAX_MOST}
use Rattle.dist_repair.specs.declared.repair.Repair.{Repair}
use Rattle.dist_repair.specs.declared.verdict.RepairHeader.{RepairHeader}
use Rattle.dist_repair.specs.declared.verdict.RepairVerdict.{RepairVerdict}
use Rattle.dist_repair.specs.declared.verdict.RepairVerdict.TheVariants.{Accepted, Refused}
use Rattle.dist_repair.proofs.AcceptedLemmas.{clear}
use Rattle.dist_repair.proofs.AnswerLemmas.{one-answer}

-- a space has one list of clauses
abbrev pub ClausesAreOne : Type 0
ClausesAreOne = (s : SpaceView) (clauses other : List (List Literal)) → AreSpaceClauses s clauses → AreSpaceClauses s other → other ≡ clauses

module _ (one : ClausesAreOne) (s : SpaceView) where
  one-counted : (most : ℕ) (basis other : Inputs) → AreCountedInputs s most basis → AreCountedInputs s most other → other ≡ basis
  one-counted most basis other first second =
      let same = one s first.clauses second.clauses first.are_clauses second.are_clauses in
      ap₂ (λ (v : ℕ) (cs : List (List Literal)). record { variables = v; clauses = cs }) (second.variables ∙ sym first.variables)
      (second.counted ∙ ap (λ (cs : List (List Literal)). counted_clauses s cs most) same ∙ sym first.counted)

  pub one-basis : (numbers : List ℕ) (basis other : Inputs) → IsBasisOf s numbers basis → IsBasisOf s numbers other → other ≡ basis
  one-basis numbers basis other (inl first) (inl second) = one-counted (most_of numbers) basis other first.1 second.1
  one-basis numbers basis other (inl first) (inr second) = absurd (omega (arith, first.0, second.0))
  one-basis numbers basis other (inr first) (inl second) = absurd (omega (arith, first.0, second.0))
  one-basis numbers basis other (inr first) (inr second) = second.1 ∙ sym first.1

  -- clauses within the limits pass none of them
  passes-none : (limits : Limits) (most : ℕ) (basis : Inputs) (clauses : List (List Literal)) (what : What) → AreWithin limits basis
      → basis.clauses ≡ counted_clauses s clauses most → basis.variables ≡ counted_variables (counter_of s most)
      → ¬ PassesCounted limits s most clauses what
  passes-none limits most basis clauses what.Variables within counted variables passes = let kept = within.variables in omega (arith, passes, kept, variables)
  passes-none limits most basis clauses what.Clauses within counted variables passes =
      let kept = within.clauses in
      let size = ap (λ (cs : List (List Literal)). length cs) counted in
      let more = passes.1 in omega (arith, more, kept, size)
  passes-none limits most basis clauses what.Literals within counted variables passes =
      let kept = within.clauses in
      let size = ap (λ (cs : List (List Literal)). length cs) counted in
      let all = take_all limits.clauses (counted_clauses s clauses most) (omega (arith, kept, size)) in
      let literals = within.literals in
      let count = ap (λ (cs : List (List Literal)). literal_count cs) (counted ∙ sym all) in
      let more = passes.1 in omega (arith, more, literals, count)
  passes-none limits most basis clauses other within counted variables passes = passes

  kept-with : (limits : Limits) (most : ℕ) (basis : Inputs) (what : What) → AreCountedInputs s most basis → AreWithin limits basis
      → ¬ PassesWith s most limits what
  kept-with limits most basis what inputs within passes =
      let same = one s passes.clauses inputs.clauses passes.are_clauses inputs.are_clauses in
      passes-none limits most basis passes.clauses what within
      (inputs.counted ∙ ap (λ (cs : List (List Literal)). counted_clauses s cs most) same) inputs.variables passes.passes

  kept : (limits : Limits) (numbers : List ℕ) (basis : Inputs) (what : What) → IsBasisOf s numbers basis → AreWithin limits basis
      → ¬ ((most_of numbers ≤ MAX_MOST) × PassesWith s (most_of numbers) limits what)
  kept limits numbers basis what (inl first) within passes = kept-with limits (most_of numbers) basis what first.1 within passes.1
  kept limits numbers basis what (inr first) within passes = let few = passes.0 in omega (arith, first.0, few)

  -- only one number is passed first
  one-passed : (limits : Limits) (most : ℕ) (clauses : List (List Literal)) (first second : What) → PassesCounted limits s most clauses first
      → PassesCounted limits s most clauses second → second ≡ first
  one-passed limits most clauses what.Variables what.Variables x y = refl
  one-passed limits most clauses what.Clauses what.Clauses x y = refl
  one-passed limits most clauses what.Literals what.Literals x y = refl
  one-passed limits most clauses what.Variables what.Clauses x y = absurd (omega (arith, x, y.0))
  one-passed limits most clauses what.Variables what.Literals x y = absurd (omega (arith, x, y.0))
  one-passed limits most clauses what.Clauses what.Variables x y = absurd (omega (arith, x.0, y))
  one-passed limits most clauses what.Literals what.Variables x y = absurd (omega (arith, x.0, y))
  one-passed limits most clauses what.Clauses what.Literals x y = absurd (omega (arith, x.2, y.1))
  one-passed limits most clauses what.Literals what.Clauses x y = absurd (omega (arith, x.1, y.2))
  one-passed limits most clauses what.Variables second x y = absurd y
  one-passed limits most clauses what.Clauses second x y = absurd y
  one-passed limits most clauses what.Literals second x y = absurd y
  one-passed limits most clauses first second x y = absurd x

  one-with : (limits : Limits) (most : ℕ) (first second : What) → PassesWith s most limits first → PassesWith s most limits second → second ≡ first
  one-with limits most first second x y =
      let same = one s x.clauses y.clauses x.are_clauses y.are_clauses in
      one-passed limits most x.clauses first second x.passes
      (subst (λ (cs : List (List Literal)). PassesCounted limits s most cs second) same y.passes)

  one-number : (limits : Limits) (numbers : List ℕ) (first second : What) → (most_of numbers ≤ MAX_MOST) × PassesWith s (most_of numbers) limits first
      → (most_of numbers ≤ MAX_MOST) × PassesWith s (most_of numbers) limits second → second ≡ first
  one-number limits numbers first second x y = one-with limits (most_of numbers) first second x.1 y.1

  one-what : (first second : What) → work.TooLarge first ≡ work.TooLarge second → first ≡ second
  one-what first second same = cc

  abbrev failed : WorkError → Result ClauseList WorkError
  failed error = Err error

  one-error : (first second : WorkError) → failed first ≡ failed second → first ≡ second
  one-error first second same = cc

  -- the number that is passed first is told of the clauses, but for want of memory
  pub exact-inputs : (limits : Limits) (most : ℕ) (result : Result ClauseList WorkError) → IfOk result (AreInputsWithin limits s most)
      → IfErr result (IsLarge (PassesWith s most limits)) → (what : What)
      → IsExactly work.NoMemory result (work.TooLarge what) (PassesWith s most limits what)
  exact-inputs limits most (Ok set) ok err what some =
      ((λ is. cc), λ passes. absurd (kept-with limits most (inputs_of set) what ok.counted ok.within passes))
  exact-inputs limits most (Err (work.TooLarge told)) ok err what some = (
    (λ is. subst (PassesWith s most limits) (one-what told what (one-error (work.TooLarge told) (work.TooLarge what) is)) err),
    λ passes. ap (λ (w : What). Err (work.TooLarge w)) (one-with limits most what told passes err),
  )
  exact-inputs limits most (Err work.NoMemory) ok err what some = absurd (some refl)
  exact-inputs limits most (Err error) ok err what some = absurd err

  known : FormsAreClear → (limits : Limits) → answers.AreKnown (files_of (repair_files s)) limits
  known forms limits = record {
    clear = clear s forms;
    same = one-basis;
    kept = kept limits;
    one = one-number limits;
  }

  -- ---- answers of the check, by those of its file

  abbrev Answer : Type 0
  Answer = answers.Answer (files_of (repair_files s))

  -- the answer is that of a file
  abbrev IsOfFile : Answer → Result RepairVerdict WorkError → Type 0
  IsOfFile (Ok (numbers, steps)) (Ok (Accepted h repair)) = IsHeaderOf numbers h × Answers s (asked_by numbers) (findings steps) repair
  IsOfFile (Err (Bad fault)) (Ok (Refused other)) = other ≡ fault
  IsOfFile (Err (Work error)) (Err other) = other ≡ error
  IsOfFile answer result = ⊥

  record IsTold (limits : Limits) (text : List ℕ) (result : Result RepairVerdict WorkError) : Type 0 where
    answer : Answer
    of_file : IsOfFile answer result
    is : answers.IsAnswer (files_of (repair_files s)) limits text answer
    of_text : answers.IsOfText answer

  is-told : (limits : Limits) (text : List ℕ) (result : Result RepairVerdict WorkError) → RepairAnswers s limits text result → IsOfText result
      → IsTold limits text result
  is-told limits text (Ok (Accepted h repair)) (numbers, header, x) of = record {
    answer = Ok (numbers, x.steps);
    of_file = (header, x.claims);
    is = record { basis = x.basis; is_basis = x.is_basis; steps = x.steps; accepted = x.accepted; claims = refl; numbers = x.numbers };
    of_text = tt;
  }
  is-told limits text (Ok (Refused fault)) x of = record { answer = Err (Bad fault); of_file = refl; is = x; of_text = tt }
  is-told limits text (Err work.ReadFault) x of = absurd of
  is-told limits text (Err work.NoMemory) x of = absurd of
  is-told limits text (Err error) x of = record { answer = Err (Work error); of_file = refl; is = x; of_text = tt }

  pub same-header : (numbers : List ℕ) (h other : RepairHeader) → IsHeaderOf numbers h → IsHeaderOf numbers other → other ≡ h
  same-header numbers h other first second =
      ap (λ (l : ℕ). record other { limit = l }) (second.limit ∙ sym first.limit)
      ∙ ap (λ (n : ℕ). record other { limit = h.limit; «package» = n }) (second.number ∙ sym first.number)
      ∙ ap (λ (m : ℕ). record h { most = m }) (second.most ∙ sym first.most)

  -- one answer of a file is one of the check
  same-result : (answer : Answer) (result other : Result RepairVerdict WorkError) → IsOfFile answer result → IsOfFile answer other → other ≡ result
  same-result (Ok (numbers, steps)) (Ok (Accepted h repair)) (Ok (Accepted k answer)) (first, second) (also, answered) =
      ap₂ (λ (x : RepairHeader) (y : Repair). Ok (Accepted x y)) (same-header numbers h k first also)
      (one-answer s (asked_by numbers) (findings steps) answer repair answered second)
  same-result (Err (Bad fault)) (Ok (Refused one_fault)) (Ok (Refused another)) first second =
      ap (λ (f : CertFault). Ok (Refused f)) (second ∙ sym first)
  same-result (Err (Work error)) (Err one_error) (Err another) first second = ap (λ (e : WorkError). Err e) (second ∙ sym first)
  same-result (Ok done) (Ok (Refused fault)) other first second = absurd first
  same-result (Ok done) (Err error) other first second = absurd first
  same-result (Ok done) (Ok (Accepted h repair)) (Ok (Refused fault)) first second = absurd second
  same-result (Ok done) (Ok (Accepted h repair)) (Err error) first second = absurd second
  same-result (Err (Bad fault)) (Ok (Accepted h repair)) other first second = absurd first
  same-result (Err (Bad fault)) (Err error) other first second = absurd first
  same-result (Err (Bad fault)) (Ok (Refused one_fault)) (Ok (Accepted h repair)) first second = absurd second
  same-result (Err (Bad fault)) (Ok (Refused one_fault)) (Err error) first second = absurd second
  same-result (Err (Work error)) (Ok verdict) other first second = absurd first
  same-result (Err (Work error)) (Err one_error) (Ok verdict) first second = absurd second

  pub one-result : FormsAreClear → (limits : Limits) (text : List ℕ) (result other : Result RepairVerdict WorkError) → RepairAnswers s limits text result
      → RepairAnswers s limits text other → IsOfText result → IsOfText other → other ≡ result
  one-result forms limits text result other x y of of_other =
      let a = is-told limits text result x of in
      let b = is-told limits text other y of_other in
      let same = answers.one_answer (files_of (repair_files s)) limits text a.answer b.answer (known forms limits) a.is b.is a.of_text b.of_text in
      same-result a.answer result other a.of_file (subst (λ (answer : Answer). IsOfFile answer other) same b.of_file)
