-- The files of explanations: what an accepted one proves, and what is answered of it.
use Rattle.std.proofs.Common.{◌≡◌, ◌≢◌, ℕ, ◌+◌, ◌-◌, ◌<◌, ◌==◌, true, false, not, List, [], ◌∷◌, length, refl, sym, ap}
use Rattle.std.proofs.Common.{subst, ◌∙◌, arith}
use Rattle.std.proofs.Common.{slice_get, Option, None, Some, codes, ◌↔◌}
use Rattle.std.specs.Prelude.{All}
use Rattle.std.specs.List.{list_all}
use Rattle.std.proofs.lemmas.Bool.{and_parts, cases_eq, eq-eqb, false≢true}
use Rattle.std.proofs.lemmas.List.Elements.{All-cons, All-nil}
use Rattle.dist_base.specs.Ascii.{line_feed}
use Rattle.dist_base.specs.ListLaws.{at-has, element-at}
use Rattle.dist_outside.specs.declared.limits.Limits.{Limits}
use Rattle.dist_clause.specs.ClauseList.{ClauseList}
use Rattle.dist_clause.specs.Formula.{Literal}
use Rattle.dist_cert.specs.ClearFormsLaws.{FormsAreClear}
use Rattle.dist_cert.specs.FileLines.{IsOneLine}
use Rattle.dist_cert.specs.declared.records.CertKind.TheVariants.{Strong}
use Rattle.dist_judge.specs.ClearKindLaws.{IsClear}
use Rattle.dist_judge.specs.Judging.{OfText}
use Rattle.dist_repo.specs.Order.{IsInOrder}
use Rattle.dist_repo.specs.PackageList.{PackageList}
use Rattle.dist_repo.specs.declared.package.Package.{Package}
use Rattle.dist_subject.specs.Basis.{Today}
use Rattle.dist_subject.specs.Inputs.{AreInputsOf}
use Rattle.dist_now.specs.PresentClauses.{ArePresentClauses, Demand}
use Rattle.dist_now.specs.Relations.{AreRelations}
use Rattle.dist_line_check.specs.ModelLaws.{WhatFollows, sound-rule}
use Rattle.dist_line_check.specs.ToldLaws.{most-told, stable}
use Rattle.dist_explain.specs.Answered.{Answers, AreAnswered}
use Rattle.dist_explain.specs.ExplanationFiles.{AreNumbersFor, AreSelectedInputs, asked_by, explanation_files}
use Rattle.dist_explain.specs.NotesPrivate.{AreNotesOf, NotesView}
use Rattle.dist_explain.specs.Selectors.{IsSelectedSet, selected, selected_clauses}
use Rattle.dist_explain.specs.Verdicts.{AcceptedMeans, IsExplanation, IsTrueOf, header_by}
use Rattle.dist_explain.specs.declared.asked.Asked.{Asked}
use Rattle.dist_explain.specs.declared.explained.Explained.{Explained}
use Rattle.dist_explain.specs.declared.verdict.ExplainHeader.{ExplainHeader}
use Rattle.dist_explain.proofs.AcceptedLemmas.{answer-decided, answer-true}
use Rattle.dist_explain.proofs.MeaningLemmas.{IsAsked, Known}
use Rattle.dist_explain.proofs.SelectedLemmas.{length-selected}
use Rattle.dist_explain.proofs.WholeLemmas.{whole-decided, whole-fits, whole-sound}
use Rattle.dist_findings.specs.AnswerFiles.{files_of, limit_of, number_at}
use Rattle.dist_findings.specs.Answers.{IsAnswered}
use Rattle.dist_findings.specs.FilesClearLaws.{clear_files}
use Rattle.dist_findings.specs.Findings.{findings}
use Rattle.dist_findings.specs.SoundLaws.{IsSound, NewLinesAreFew}
use Rattle.dist_findings.specs.Start.{AreRightInputs, AreWrongNumbers}
use Rattle.dist_findings.specs.declared.finding.Finding.{Finding}

-- ---- the front

one-line-by : (bytes : List ℕ) → list_all (λ byte. not (byte == 10)) bytes ≡ true → IsOneLine bytes
one-line-by [] all = All-nil (λ byte. byte ≢ line_feed)
one-line-by (b ∷ bytes) all =
    let parts = and_parts (not (b == 10)) (list_all (λ byte. not (byte == 10)) bytes) all in
    All-cons (λ byte. byte ≢ line_feed) b bytes (λ same. false≢true (sym (ap not (eq-eqb b 10 same)) ∙ parts.0)) (one-line-by bytes parts.1)

pub front-line : IsOneLine (codes "distfuture-explain 1")
front-line = one-line-by (codes "distfuture-explain 1") refl

pub clear-explanations : FormsAreClear → (r : PackageList) → IsClear (files_of (explanation_files r))
clear-explanations clear r = clear_files clear (explanation_files r) front-line

-- ---- numbers that fit

pub fitting : (packages variables : ℕ) (numbers : List ℕ) → ¬ ¬ AreNumbersFor packages variables numbers → AreNumbersFor packages variables numbers
fitting packages variables numbers twice = record {
  packages_are = stable (cases_eq (number_at 1 numbers) packages) (λ none. twice (λ fits. none fits.packages_are));
  variables_are = stable (cases_eq (number_at 1 numbers + number_at 2 numbers) variables) (λ none. twice (λ fits. none fits.variables_are));
  from_one = stable (most-told 1 (number_at 3 numbers)) (λ none. twice (λ fits. none fits.from_one));
  upto = stable (most-told (number_at 3 numbers) packages) (λ none. twice (λ fits. none fits.upto));
}

-- ---- what an accepted file proves

pub record Laws : Type 0 where
  pub clear : FormsAreClear
  pub follows : WhatFollows
  pub few : NewLinesAreFew
  pub known : (r : PackageList) (relations : List Demand) (clauses : List (List Literal)) → IsInOrder r.packages → AreRelations r relations
      → ArePresentClauses r false clauses → Known r relations clauses

module _ (laws : Laws) (r : PackageList) (limits : Limits) (text : List ℕ) (explained : Explained) (ordered : IsInOrder r.packages) (numbers : List ℕ)
    (x : IsAnswered (explanation_files r) limits text numbers (λ found. Answers (asked_by numbers) found explained)) where
  fits : AreNumbersFor (length r.packages) x.basis.variables numbers
  fits = fitting (length r.packages) x.basis.variables numbers
      (whole-fits (explanation_files r) (clear-explanations laws.clear r) limits text numbers x.basis x.steps x.accepted)

  sound : All (IsSound (selected_clauses r x.is_basis.clauses) (limit_of numbers)) (findings x.steps)
  sound = subst (λ inputs. All (IsSound inputs (limit_of numbers)) (findings x.steps)) x.is_basis.selected_ones
      (whole-sound (explanation_files r) (clear-explanations laws.clear r) limits text numbers x.basis x.steps x.accepted (sound-rule laws.follows) laws.few)

  asks : (relations : List Demand) (known : Known r relations x.is_basis.clauses) (p : Package) → slice_get r.packages (number_at 3 numbers - 1) ≡ Some p
      → IsAsked r relations (asked_by numbers) p
  asks relations known p is = record {
    packages = fits.packages_are;
    relation_count =
        let all = fits.variables_are in
        let packages = fits.packages_are in
        let variables = x.is_basis.variables in
        let same = known.have.one_each in
        let e : number_at 2 numbers ≡ length relations = omega (arith, all, packages, variables, same) in
        e;
    from_one = fits.from_one;
    is = is;
  }

  package-short : number_at 3 numbers - 1 < length r.packages
  package-short = let from = fits.from_one in let upto = fits.upto in omega (arith, from, upto)

  pub means : AcceptedMeans r (header_by numbers) explained
  means =
      let at = element-at r.packages (number_at 3 numbers - 1) package-short in
      let counted = x.accepted.faultless.reads.header.counted in record {
        limit_from = counted.1;
        limit_upto = counted.2;
        means = at-has (λ p. (relations : List Demand) → AreRelations r relations → IsTrueOf r relations p explained) r.packages
            (number_at 3 numbers - 1) at.element at.is (λ relations are.
            let known = laws.known r relations x.is_basis.clauses ordered are x.is_basis.are_clauses in
            answer-true r relations x.is_basis.clauses known (asked_by numbers) at.element (asks relations known at.element at.is) (limit_of numbers)
            (findings x.steps) sound explained x.claims);
        decided = λ relations are beyond.
            let known = laws.known r relations x.is_basis.clauses ordered are x.is_basis.are_clauses in
            answer-decided r relations x.is_basis.clauses known (asked_by numbers) at.element (asks relations known at.element at.is) (limit_of numbers)
            (findings x.steps) sound beyond explained x.claims;
      }

pub explanation-means : Laws → (r : PackageList) (limits : Limits) (text : List ℕ) (h : ExplainHeader) (explained : Explained) → IsInOrder r.packages
    → IsExplanation r limits text h explained → AcceptedMeans r h explained
explanation-means laws r limits text h explained ordered (numbers, same, x) =
    subst (λ (k : ExplainHeader). AcceptedMeans r k explained) (sym same) (means laws r limits text explained ordered numbers x)

-- ---- what is answered

-- of an accepted text the findings decide the answer
pub completed-decided : FormsAreClear → (r : PackageList) (limits : Limits) (text numbers : List ℕ) (Noted Told : List Finding → Type 0)
    → ((found : List Finding) → Noted found → ¬ ¬ AreAnswered (asked_by numbers) found → Told found)
    → IsAnswered (explanation_files r) limits text numbers Noted → IsAnswered (explanation_files r) limits text numbers Told
completed-decided clear r limits text numbers Noted Told tells x = record {
  basis = x.basis;
  is_basis = x.is_basis;
  steps = x.steps;
  accepted = x.accepted;
  claims = tells (findings x.steps) x.claims
      (whole-decided (explanation_files r) (clear-explanations clear r) limits text numbers x.basis x.steps x.accepted);
  numbers = x.numbers;
}

-- with what its notes answer
pub accepted-answers : FormsAreClear → (r : PackageList) (limits : Limits) (text numbers : List ℕ) (h : ExplainHeader) (notes : NotesView)
    (explained : Explained) → h ≡ header_by numbers
    → ((asked : Asked) (found : List Finding) → AreNotesOf asked found notes → ¬ ¬ AreAnswered asked found → Answers asked found explained)
    → IsAnswered (explanation_files r) limits text numbers (λ found. AreNotesOf (asked_by numbers) found notes)
    → IsExplanation r limits text h explained
accepted-answers clear r limits text numbers h notes explained same tells x = (
  numbers,
  same,
  completed-decided clear r limits text numbers (λ found. AreNotesOf (asked_by numbers) found notes)
      (λ found. Answers (asked_by numbers) found explained) (λ found. tells (asked_by numbers) found) x,
)

pub of-text-more : (P Q : List ℕ → Type 0) → ((text : List ℕ) → P text → Q text) → (told : Option (List ℕ)) → OfText told P → OfText told Q
of-text-more P Q more None holds = tt
of-text-more P Q more (Some text) holds = more text holds

-- ---- what a file is judged by

pub selected-inputs : (r : PackageList) (limits : Limits) (plain set : ClauseList) → AreInputsOf r Strong false limits (Today false plain.clauses) plain
    → IsSelectedSet limits plain set → AreSelectedInputs r limits set
selected-inputs r limits plain set inputs made = record {
  is_basis = record {
    clauses = plain.clauses;
    are_clauses = inputs.is_basis.1;
    selected_ones = made.selected_ones ∙ ap (λ (n : ℕ). selected n plain.clauses) inputs.variables;
    variables = made.variables ∙ ap (λ (n : ℕ). n + length plain.clauses) inputs.variables;
  };
  within = record {
    variables = made.variables_kept;
    clauses =
        let count : length set.clauses ≡ length plain.clauses
        = ap (λ (cs : List (List Literal)). length cs) made.selected_ones ∙ length-selected plain.variables plain.clauses in
        let kept = inputs.kept.clauses in
        omega (arith, count, kept);
    literals = made.literals_kept;
  };
}

module _ (r : PackageList) (limits : Limits) (numbers : List ℕ) (set : ClauseList) (packages variables : ℕ) (inputs : AreSelectedInputs r limits set)
    (packages_are : packages ≡ length r.packages) (variables_are : variables ≡ set.variables) where
  judged-by : AreNumbersFor packages variables numbers ↔ AreNumbersFor (length r.packages) set.variables numbers
  judged-by = (
    (λ fits. subst (λ (n : ℕ). AreNumbersFor n set.variables numbers) packages_are (subst (λ (v : ℕ). AreNumbersFor packages v numbers) variables_are fits)),
    (λ fits. subst (λ (v : ℕ). AreNumbersFor packages v numbers) (sym variables_are)
        (subst (λ (n : ℕ). AreNumbersFor n set.variables numbers) (sym packages_are) fits)),
  )

  pub right-inputs : AreNumbersFor packages variables numbers → AreRightInputs (explanation_files r) numbers limits set
  right-inputs fits = record {
    basis = record { variables = set.variables; clauses = set.clauses };
    is_basis = inputs.is_basis;
    within = inputs.within;
    fits = judged-by.0 fits;
    variables = refl;
    clauses = refl;
  }

  pub wrong-inputs : ¬ AreNumbersFor packages variables numbers → AreWrongNumbers (explanation_files r) numbers limits
  wrong-inputs none = record {
    basis = record { variables = set.variables; clauses = set.clauses };
    is_basis = inputs.is_basis;
    within = inputs.within;
    wrong = λ fits. none (judged-by.1 fits);
  }
