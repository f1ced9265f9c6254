-- A text has one answer.
use Rattle.std.proofs.Common.{◌≡◌, inl, inr, ℕ, ◌+◌, ◌≤◌, Bool, false, List, length, Result, Ok, Err}
use Rattle.std.proofs.Common.{refl, sym, ap, ap₂, subst, ◌∙◌, arith}
use Rattle.dist_outside.specs.declared.limits.Limits.{Limits}
use Rattle.dist_outside.specs.declared.trouble.What.{What}
use Rattle.dist_outside.specs.declared.trouble.What.TheVariants.{Variables, Literals}
use Rattle.dist_outside.specs.declared.trouble.WorkError.{WorkError}
use Rattle.dist_outside.specs.declared.trouble.WorkError.TheVariants.{ReadFault, NoMemory}
use Rattle.dist_clause.specs.ClauseList.{literal_count}
use Rattle.dist_clause.specs.Formula.{Literal}
use Rattle.dist_cert.specs.ClearFormsLaws.{FormsAreClear}
use Rattle.dist_cert.specs.declared.faults.ReadCertError.TheVariants.{Bad, Work}
use Rattle.dist_cert.specs.declared.records.CertKind.{CertKind}
use Rattle.dist_cert.specs.declared.records.CertKind.TheVariants.{Strong}
use Rattle.dist_judge.specs.AnswerLaws as answers
use Rattle.dist_repo.specs.Order.{IsInOrder}
use Rattle.dist_repo.specs.PackageList.{PackageList}
use Rattle.dist_now.specs.PresentClauses.{ArePresentClauses}
use Rattle.dist_subject.specs.Basis.{Basis, IsBasisOf}
use Rattle.dist_subject.specs.Limited.{AreInputsWithin}
use Rattle.dist_subject.specs.Limited as subject
use Rattle.dist_explain.specs.Answered.{Answers, AreDecided}
use Rattle.dist_explain.specs.ExplanationFiles.{IsSelectedOf, PassesFirst}
use Rattle.dist_explain.specs.ExplanationFiles.{asked_by, explanation_files}
use Rattle.dist_explain.specs.Selectors.{PassesSelected, selected_clauses}
use Rattle.dist_explain.specs.Verdicts.{ExplanationAnswers, header_by}
use Rattle.dist_judge.specs.Causes.{IsOfText}
use Rattle.dist_explain.specs.declared.asked.Asked.{Asked}
use Rattle.dist_explain.specs.declared.explained.Explained.{Explained}
use Rattle.dist_explain.specs.declared.explained.Explained.TheVariants.{Installable, Undecided, Broken}
use Rattle.dist_explain.specs.declared.verdict.ExplainHeader.{ExplainHeader}
use Rattle.dist_explain.specs.declared.verdict.ExplainVerdict.{ExplainVerdict}
use Rattle.dist_explain.specs.declared.verdict.ExplainVerdict.TheVariants.{Accepted, Refused}
use Rattle.dist_explain.proofs.FileLemmas.{clear-explanations, fitting}
use Rattle.dist_explain.specs.AnsweredLaws.{one-rising}
use Rattle.dist_explain.proofs.InputLemmas.{Present, none-present}
use Rattle.dist_explain.proofs.NotesLemmas.{last-one, some-refuted}
use Rattle.dist_explain.proofs.SelectedLemmas.{count-selected, length-selected}
use Rattle.dist_explain.proofs.WholeLemmas.{whole-fits}
use Rattle.dist_findings.specs.AnswerFiles.{AreWithin, Inputs, files_of}
use Rattle.dist_findings.specs.Findings.{findings}
use Rattle.dist_findings.specs.declared.finding.Finding.{Finding}

-- ---- what findings answer is one

decided-same : (asked : Asked) (numbers : List ℕ) (later : List Finding) (needed undecided also left : List ℕ)
    → AreDecided asked numbers later needed undecided → AreDecided asked numbers later also left → (also ≡ needed) × (left ≡ undecided)
decided-same asked numbers later needed undecided also left first second = (
  one-rising needed also first.needed_rise second.needed_rise
      (λ k. (λ there. (second.needed_are k).1 ((first.needed_are k).0 there), λ there. (first.needed_are k).1 ((second.needed_are k).0 there))),
  one-rising undecided left first.undecided_rise second.undecided_rise
      (λ k. (λ there. (second.undecided_are k).1 ((first.undecided_are k).0 there), λ there. (first.undecided_are k).1 ((second.undecided_are k).0 there))),
)

pub one-found : (asked : Asked) (found : List Finding) (one other : Explained) → asked.number ≤ asked.packages → Answers asked found one
    → Answers asked found other → other ≡ one
one-found asked found Installable Installable upto x y = refl
one-found asked found Installable Undecided upto x y = absurd (y.1 x.1)
one-found asked found Installable (Broken needed undecided) upto x y = absurd (some-refuted asked found y.0 y.1 y.2 x.0)
one-found asked found Undecided Installable upto x y = absurd (x.1 y.1)
one-found asked found Undecided Undecided upto x y = refl
one-found asked found Undecided (Broken needed undecided) upto x y = absurd (some-refuted asked found y.0 y.1 y.2 x.0)
one-found asked found (Broken needed undecided) Installable upto x y = absurd (some-refuted asked found x.0 x.1 x.2 y.0)
one-found asked found (Broken needed undecided) Undecided upto x y = absurd (some-refuted asked found x.0 x.1 x.2 y.0)
one-found asked found (Broken needed undecided) (Broken also left) upto x y =
    let same = last-one asked found x.0 x.1 y.0 y.1 upto x.2 y.2 in
    let decided : AreDecided asked x.0 x.1 also left =
    subst (λ ns. AreDecided asked ns x.1 also left) same.0 (subst (λ fs. AreDecided asked y.0 fs also left) same.1 y.3) in
    let both = decided-same asked x.0 x.1 needed undecided also left x.3 decided in
    ap₂ (λ a b. Broken a b) both.0 both.1

-- ---- what files are judged by, and the number that it passes first, are one

pub record Numbers : Type 0 where
  pub clear : FormsAreClear
  pub present : (r : PackageList) (essential : Bool) (clauses other : List (List Literal)) → ArePresentClauses r essential clauses
      → ArePresentClauses r essential other → other ≡ clauses
  pub kept : (r : PackageList) (kind : CertKind) (essential : Bool) (limits : Limits) (basis : Basis) (what : What) → IsBasisOf r kind essential basis
      → AreInputsWithin limits r basis → ¬ subject.PassesFirst r kind essential limits what
  pub one : (r : PackageList) (kind : CertKind) (essential : Bool) (limits : Limits) (what other : What) → IsInOrder r.packages
      → subject.PassesFirst r kind essential limits what → subject.PassesFirst r kind essential limits other → other ≡ what

module _ (laws : Numbers) (r : PackageList) (ordered : IsInOrder r.packages) (limits : Limits) where
  present : Present
  present = record { same = laws.present; kept = laws.kept }

  pub one-basis : (basis other : Inputs) → IsSelectedOf r basis → IsSelectedOf r other → other ≡ basis
  one-basis basis other first second =
      let same = laws.present r false first.clauses second.clauses first.are_clauses second.are_clauses in
      ap₂ (λ (v : ℕ) (cs : List (List Literal)). record { variables = v; clauses = cs })
      (second.variables ∙ ap (λ (cs : List (List Literal)). length r.packages + length cs) same ∙ sym first.variables)
      (second.selected_ones ∙ ap (selected_clauses r) same ∙ sym first.selected_ones)

  none-passed : (basis : Inputs) (what : What) → IsSelectedOf r basis → AreWithin limits basis → ¬ PassesFirst r limits what
  none-passed basis what is within (inl passes) =
      let size = ap (λ (cs : List (List Literal)). length cs) is.selected_ones ∙ length-selected (length r.packages) is.clauses in
      let all = ap literal_count is.selected_ones ∙ count-selected (length r.packages) is.clauses in
      let clauses = within.clauses in
      let literals = within.literals in
      none-present present r limits is.clauses what is.are_clauses (omega (arith, size, clauses)) (omega (arith, all, literals)) passes
  none-passed basis what is within (inr x) = by what x.passes
    where
      same : x.plain.clauses ≡ is.clauses
      same = laws.present r false is.clauses x.plain.clauses is.are_clauses x.are_clauses

      size : length x.plain.clauses ≡ length is.clauses
      size = ap (λ (cs : List (List Literal)). length cs) same

      by : (w : What) → ¬ PassesSelected limits x.plain w
      by Variables passed =
          let kept = within.variables in
          let variables = is.variables in
          let plain = x.variables in
          let count = size in
          omega (arith, passed, kept, variables, plain, count)
      by Literals passed =
          let kept = within.literals in
          let all = ap literal_count is.selected_ones ∙ count-selected (length r.packages) is.clauses in
          let count = size in
          let literals = ap literal_count same in
          omega (arith, passed.1, kept, all, count, literals)
      by w passed = passed

  pub one-passed : (what other : What) → PassesFirst r limits what → PassesFirst r limits other → other ≡ what
  one-passed what other (inl first) (inl second) = laws.one r Strong false limits what other ordered first second
  one-passed what other (inl first) (inr y) = absurd (none-present present r limits y.plain.clauses what y.are_clauses y.clauses_kept y.literals_kept first)
  one-passed what other (inr x) (inl second) = absurd (none-present present r limits x.plain.clauses other x.are_clauses x.clauses_kept x.literals_kept second)
  one-passed what other (inr x) (inr y) = by what other x.passes y.passes
    where
      size : length y.plain.clauses ≡ length x.plain.clauses
      size = ap (λ (cs : List (List Literal)). length cs) (laws.present r false x.plain.clauses y.plain.clauses x.are_clauses y.are_clauses)

      by : (w v : What) → PassesSelected limits x.plain w → PassesSelected limits y.plain v → v ≡ w
      by Variables Variables passed also = refl
      by Literals Literals passed also = refl
      by Variables Literals passed also =
          let count = size in let one = x.variables in let two = y.variables in absurd (omega (arith, passed, also.0, count, one, two))
      by Literals Variables passed also =
          let count = size in let one = x.variables in let two = y.variables in absurd (omega (arith, passed.0, also, count, one, two))
      by Variables v passed also = absurd also
      by Literals v passed also = absurd also
      by w v passed also = absurd passed

  known : answers.AreKnown (files_of (explanation_files r)) limits
  known = record {
    clear = clear-explanations laws.clear r;
    same = λ numbers basis other first second. one-basis basis other first second;
    kept = λ numbers basis what is within. none-passed basis what is within;
    one = λ numbers what other first second. one-passed what other first second;
  }

  -- ---- one answer

  -- an answer of the check is told by one of its file
  abbrev Tells : answers.Answer (files_of (explanation_files r)) → Result ExplainVerdict WorkError → Type 0
  Tells (Ok (numbers, steps)) (Ok (Accepted h explained)) = (h ≡ header_by numbers) × Answers (asked_by numbers) (findings steps) explained
      × ((asked_by numbers).number ≤ (asked_by numbers).packages)
  Tells (Err (Bad fault)) (Ok (Refused told)) = told ≡ fault
  Tells (Err (Work error)) (Err told) = told ≡ error
  Tells answer result = ⊥

  record IsTold (text : List ℕ) (result : Result ExplainVerdict WorkError) : Type 0 where
    answer : answers.Answer (files_of (explanation_files r))
    tells : Tells answer result
    of : answers.IsAnswer (files_of (explanation_files r)) limits text answer
    of_text : answers.IsOfText answer

  is-told : (text : List ℕ) (result : Result ExplainVerdict WorkError) → ExplanationAnswers r limits text result → IsOfText result → IsTold text result
  is-told text (Ok (Accepted h explained)) (numbers, same, x) of =
      let fits = fitting (length r.packages) x.basis.variables numbers
      (whole-fits (explanation_files r) (clear-explanations laws.clear r) limits text numbers x.basis x.steps x.accepted) in record {
        answer = Ok (numbers, x.steps);
        tells = (same, x.claims, (let upto = fits.upto in let packages = fits.packages_are in omega (arith, upto, packages)));
        of = record { basis = x.basis; is_basis = x.is_basis; steps = x.steps; accepted = x.accepted; claims = refl; numbers = x.numbers };
        of_text = tt;
      }
  is-told text (Ok (Refused fault)) x of = record { answer = Err (Bad fault); tells = refl; of = x; of_text = tt }
  is-told text (Err ReadFault) x of = absurd of
  is-told text (Err NoMemory) x of = absurd of
  is-told text (Err error) x of = record { answer = Err (Work error); tells = refl; of = x; of_text = tt }

  one-told : (answer : answers.Answer (files_of (explanation_files r))) (result other : Result ExplainVerdict WorkError) → Tells answer result
      → Tells answer other → other ≡ result
  one-told (Ok (numbers, steps)) (Ok (Accepted h explained)) (Ok (Accepted k told)) x y =
      ap₂ (λ (a : ExplainHeader) (b : Explained). Ok (Accepted a b)) (y.0 ∙ sym x.0)
      (one-found (asked_by numbers) (findings steps) explained told x.2 x.1 y.1)
  one-told (Err (Bad fault)) (Ok (Refused first)) (Ok (Refused second)) x y = ap (λ f. Ok (Refused f)) (y ∙ sym x)
  one-told (Err (Work error)) (Err first) (Err second) x y = ap (λ e. Err e) (y ∙ sym x)
  one-told (Ok (numbers, steps)) (Ok (Accepted h explained)) (Ok (Refused told)) x y = absurd y
  one-told (Ok (numbers, steps)) (Ok (Accepted h explained)) (Err told) x y = absurd y
  one-told (Err (Bad fault)) (Ok (Refused first)) (Ok (Accepted h explained)) x y = absurd y
  one-told (Err (Bad fault)) (Ok (Refused first)) (Err told) x y = absurd y
  one-told (Err (Work error)) (Err first) (Ok told) x y = absurd y
  one-told (Ok (numbers, steps)) (Ok (Refused told)) other x y = absurd x
  one-told (Ok (numbers, steps)) (Err told) other x y = absurd x
  one-told (Err (Bad fault)) (Ok (Accepted h explained)) other x y = absurd x
  one-told (Err (Bad fault)) (Err told) other x y = absurd x
  one-told (Err (Work error)) (Ok told) other x y = absurd x

  pub one-answer : (text : List ℕ) (result other : Result ExplainVerdict WorkError) → ExplanationAnswers r limits text result
      → ExplanationAnswers r limits text other → IsOfText result → IsOfText other → other ≡ result
  one-answer text result other x y of of_other =
      let a = is-told text result x of in
      let b = is-told text other y of_other in
      let same = answers.one_answer (files_of (explanation_files r)) limits text a.answer b.answer known a.of b.of a.of_text b.of_text in
      one-told a.answer result other a.tells (subst (λ (w : answers.Answer (files_of (explanation_files r))). Tells w other) same b.tells)
