-- The number that what files are judged by passes first.
use Rattle.std.proofs.Common.{◌≡◌, inl, inr, ◌≤◌, Bool, false, List, length, Result, Ok, Err, refl, sym, ap, subst, ◌∙◌, arith}
use Rattle.std.specs.Result.{IsErrAnd}
use Rattle.dist_base.specs.Answers.{IsExactly}
use Rattle.dist_outside.specs.declared.limits.Limits.{Limits}
use Rattle.dist_outside.specs.declared.trouble.What.{What}
use Rattle.dist_outside.specs.declared.trouble.What.TheVariants.{Variables, Literals}
use Rattle.dist_outside.specs.declared.trouble.WorkError.{WorkError}
use Rattle.dist_outside.specs.declared.trouble.WorkError.TheVariants.{ReadFault, WriteFault, TooLarge, NoMemory}
use Rattle.dist_clause.specs.ClauseList.{ClauseList, literal_count}
use Rattle.dist_clause.specs.Formula.{Literal}
use Rattle.dist_cert.specs.declared.records.CertKind.{CertKind}
use Rattle.dist_cert.specs.declared.records.CertKind.TheVariants.{Strong}
use Rattle.dist_judge.specs.Causes.{IsLarge}
use Rattle.dist_repo.specs.PackageList.{PackageList}
use Rattle.dist_now.specs.PresentClauses.{ArePresentClauses}
use Rattle.dist_subject.specs.Basis.{Basis, IsBasisOf, Today}
use Rattle.dist_subject.specs.Inputs.{AreInputsOf}
use Rattle.dist_subject.specs.Limited.{AreInputsWithin, PassesPresent}
use Rattle.dist_subject.specs.Limited as subject
use Rattle.dist_explain.specs.ExplanationFiles.{PassesFirst}
use Rattle.dist_explain.specs.Selectors.{PassesSelected}

-- the laws of the clauses of the present that this stands on
pub record Present : Type 0 where
  pub same : (r : PackageList) (essential : Bool) (clauses other : List (List Literal)) → ArePresentClauses r essential clauses
      → ArePresentClauses r essential other → other ≡ clauses
  pub kept : (r : PackageList) (kind : CertKind) (essential : Bool) (limits : Limits) (basis : Basis) (what : What) → IsBasisOf r kind essential basis
      → AreInputsWithin limits r basis → ¬ subject.PassesFirst r kind essential limits what

-- clauses that keep the numbers of the present
pub none-present : Present → (r : PackageList) (limits : Limits) (clauses : List (List Literal)) (what : What) → ArePresentClauses r false clauses
    → length clauses ≤ limits.clauses → literal_count clauses ≤ limits.literals → ¬ PassesPresent r false limits what
none-present laws r limits clauses what are count literals =
    laws.kept r Strong false limits (Today false clauses) what (refl, are) (record { variables = tt; clauses = count; literals = literals })

same-passes : (limits : Limits) (one other : ClauseList) (what : What) → one.clauses ≡ other.clauses → one.variables ≡ other.variables
    → PassesSelected limits other what → PassesSelected limits one what
same-passes limits one other Variables clauses variables passed =
    let count = ap (λ (cs : List (List Literal)). length cs) clauses in omega (arith, passed, count, variables)
same-passes limits one other Literals clauses variables passed =
    let count = ap (λ (cs : List (List Literal)). length cs) clauses in
    let literals = ap literal_count clauses in
    (omega (arith, passed.0, count, variables), omega (arith, passed.1, count, literals))
same-passes limits one other what clauses variables passed = passed

-- what the clauses of the present are not, where too many of them were told
none-by : (r : PackageList) (limits : Limits) (error : WorkError) → IsLarge (PassesPresent r false limits) error → ¬ (error ≡ NoMemory)
    → ((what : What) → ¬ PassesPresent r false limits what) → ⊥
none-by r limits (TooLarge what) passes not none = none what passes
none-by r limits NoMemory passes not none = not refl
none-by r limits ReadFault passes not none = passes
none-by r limits WriteFault passes not none = passes

module _ (laws : Present) (r : PackageList) (limits : Limits) where
  -- too many clauses of the present
  pub exact-early : {X : Type 0} (error : WorkError) (what : What) → IsLarge (PassesPresent r false limits) error
      → IsExactly {X = X} NoMemory (Err error) (TooLarge what) (PassesPresent r false limits what)
      → IsExactly {X = X} NoMemory (Err error) (TooLarge what) (PassesFirst r limits what)
  exact-early error what cause exact not = (
    (λ is. inl ((exact not).0 is)),
    (λ passes. elim passes [
      | inl first ↦ (exact not).1 first
      | inr x ↦ absurd (none-by r limits error cause (λ is. not (ap (λ e. Err e) is))
          (λ w. none-present laws r limits x.plain.clauses w x.are_clauses x.clauses_kept x.literals_kept))
    ]),
  )

  module _ (plain : ClauseList) (inputs : AreInputsOf r Strong false limits (Today false plain.clauses) plain) where
    none-first : (what : What) → ¬ PassesPresent r false limits what
    none-first what = none-present laws r limits plain.clauses what inputs.is_basis.1 inputs.kept.clauses inputs.kept.literals

    pub with-selectors : (what : What) → PassesSelected limits plain what → PassesFirst r limits what
    with-selectors what passes = inr (record {
      plain = plain;
      are_clauses = inputs.is_basis.1;
      variables = inputs.variables;
      clauses_kept = inputs.kept.clauses;
      literals_kept = inputs.kept.literals;
      passes = passes;
    })

    selected-passes : (what : What) → PassesFirst r limits what → PassesSelected limits plain what
    selected-passes what (inl first) = absurd (none-first what first)
    selected-passes what (inr x) =
        let same : plain.clauses ≡ x.plain.clauses = laws.same r false x.plain.clauses plain.clauses x.are_clauses inputs.is_basis.1 in
        let variables : plain.variables ≡ x.plain.variables = inputs.variables ∙ sym x.variables in
        same-passes limits plain x.plain what same variables x.passes

    pub exact-late : {X : Type 0} (result : Result X WorkError) (what : What) → IsExactly NoMemory result (TooLarge what) (PassesSelected limits plain what)
        → IsExactly NoMemory result (TooLarge what) (PassesFirst r limits what)
    exact-late result what exact not = (
      (λ is. with-selectors what ((exact not).0 is)),
      (λ passes. (exact not).1 (selected-passes what passes)),
    )

-- the error that a `?` hands on
pub handed-on : {X : Type 0} (P : Result X WorkError → Type 0) (result : Result X WorkError) (error : WorkError) → IsErrAnd result (λ e. e ≡ error)
    → P (Err error) → P result
handed-on P (Ok x) error is holds = absurd is
handed-on P (Err e) error is holds = subst (λ y. P (Err y)) (sym is) holds
