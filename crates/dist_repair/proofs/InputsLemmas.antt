-- What files are judged by, and why there is none.
use Rattle.std.proofs.Common.{◌≡◌, inl, inr, ℕ, zero, suc, ◌+◌, ◌-◌, ◌*◌, ◌<◌, ◌≤◌, List, [], ◌∷◌, ◌++◌, Some, None, length}
use Rattle.std.proofs.Common.{refl, sym, ap, subst, ◌∙◌, arith, append_assoc, Result, Err, suc-mul}
use Rattle.dist_base.specs.Answers.{IsExactly}
use Rattle.dist_clause.specs.ClauseList.{ClauseList}
use Rattle.dist_clause.specs.Demands.{IsRefused}
use Rattle.dist_clause.specs.Formula.{Literal}
use Rattle.dist_clause.specs.declared.clause_set.PushError.{PushError}
use Rattle.dist_clause.specs.declared.clause_set.PushError.TheVariants as push
use Rattle.dist_judge.specs.Causes.{IsLarge}
use Rattle.dist_outside.specs.declared.limits.Limits.{Limits}
use Rattle.dist_outside.specs.declared.trouble.What.TheVariants as what
use Rattle.dist_outside.specs.declared.trouble.WorkError.{WorkError}
use Rattle.dist_outside.specs.declared.trouble.WorkError.TheVariants as work
use Rattle.dist_space.specs.ClusterLaws.{has-cluster}
use Rattle.dist_space.specs.Space.{IsSpace, SpaceView}
use Rattle.dist_space_clauses.specs.ClauseLaws.{GoesOn}
use Rattle.dist_space_clauses.specs.SpaceClauses.{AreClausesBefore, AreSpaceClauses, Demand, IsClauseFor, IsDemand}
use Rattle.dist_space_clauses.specs.SpaceSet.{IsSetOf, PassesClauses, PassesLiterals}
use Rattle.dist_subject.specs.Inputs.{large_by}
use Rattle.dist_findings.specs.Start.{GivesInputs, HasRightNumbers, IsLargeInput}
use Rattle.dist_repair.specs.Answered.{beyond, own}
use Rattle.dist_repair.specs.CountedPrivate.{IsStoppedIn}
use Rattle.dist_repair.specs.Counters.{Counter, IsCountedSet, PassesCounted, counted_clauses, counted_variables, counter_clauses, counter_of, more}
use Rattle.dist_repair.specs.InputsPrivate.{AreInputsWithin, inputs_of}
use Rattle.dist_repair.specs.NotesPrivate.{AreWordsOf, WordsView}
use Rattle.dist_repair.specs.RepairFiles.{Fits, PassesWith, asked_by, most_of, repair_files}
use Rattle.dist_findings.specs.AnswerFiles.{number_at}
use Rattle.dist_base.specs.declared.TheConstants.{MAX_MOST}
use Rattle.dist_repair.proofs.StopLemmas.{stops-at}

-- ---- too many clauses or literals

-- where the clauses of a space stop, those with a counter behind them do
stopped-in : (s : SpaceView) (most clause_limit literal_limit : ℕ) (whole front : List (List Literal)) (clause : List Literal) (error : PushError)
    → GoesOn whole front clause
    → IsRefused (record { clauses = front; variables = 0; clause_limit = clause_limit; literal_limit = literal_limit }) clause error
    → IsStoppedIn clause_limit literal_limit (counted_clauses s whole most) error
stopped-in s most clause_limit literal_limit whole front clause error goes refused =
    let behind = counter_clauses s (counter_of s most) in
    let split : whole ++ counter_clauses s (counter_of s most) ≡ front ++ clause ∷ (goes.rest ++ counter_clauses s (counter_of s most)) =
    ap (λ (xs : List (List Literal)). xs ++ counter_clauses s (counter_of s most)) goes.is
    ∙ append_assoc front (clause ∷ goes.rest) (counter_clauses s (counter_of s most)) in
    subst (λ (xs : List (List Literal)). IsStoppedIn clause_limit literal_limit xs error) (sym split)
    (stops-at (record { clauses = front; variables = 0; clause_limit = clause_limit; literal_limit = literal_limit }) clause error refused
    (goes.rest ++ counter_clauses s (counter_of s most)))

-- the laws of the clauses of a space
abbrev pub ClausesAreThere : Type 0
ClausesAreThere = (s : SpaceView) → IsSpace s → (clauses : List (List Literal)) × AreSpaceClauses s clauses

abbrev pub ClausesGoOn : Type 0
ClausesGoOn = (s : SpaceView) (d : Demand) (whole front : List (List Literal)) (clause : List Literal) → AreSpaceClauses s whole
    → AreClausesBefore s d front → IsDemand s d → IsClauseFor s d clause → GoesOn whole front clause

module _ (there : ClausesAreThere) (on : ClausesGoOn) (s : SpaceView) (space : IsSpace s) (most : ℕ) (limits : Limits)
    (kept : counted_variables (counter_of s most) ≤ limits.variables) where
  many-clauses : PassesClauses s limits.clauses limits.literals → PassesWith s most limits what.Clauses
  many-clauses x =
      let whole = there s space in
      let goes = on s x.demand whole.0 x.front x.clause whole.1 x.before x.is_demand x.is_clause in
      let stops = stopped-in s most limits.clauses limits.literals whole.0 x.front x.clause push.TooManyClauses goes (x.literals_kept, x.passes) in
      record { clauses = whole.0; are_clauses = whole.1; passes = (kept, stops.0, stops.1) }

  many-literals : PassesLiterals s limits.clauses limits.literals → PassesWith s most limits what.Literals
  many-literals x =
      let whole = there s space in
      let goes = on s x.demand whole.0 x.front x.clause whole.1 x.before x.is_demand x.is_clause in
      let stops = stopped-in s most limits.clauses limits.literals whole.0 x.front x.clause push.TooManyLiterals goes
      (x.literals_kept, x.passes.0, x.passes.1) in
      record { clauses = whole.0; are_clauses = whole.1; passes = (kept, stops) }

  pub clauses-large : (result : Result ClauseList PushError) (error : PushError) → result ≡ Err error
      → IsExactly push.NoMemory result push.TooManyClauses (PassesClauses s limits.clauses limits.literals)
      → IsExactly push.NoMemory result push.TooManyLiterals (PassesLiterals s limits.clauses limits.literals)
      → IsLarge (PassesWith s most limits) (large_by error)
  clauses-large result push.TooManyClauses is clauses literals = many-clauses ((clauses (λ no. cc)).0 is)
  clauses-large result push.TooManyLiterals is clauses literals = many-literals ((literals (λ no. cc)).0 is)
  clauses-large result push.NoMemory is clauses literals = tt

-- too many variables
pub variables-large : ClausesAreThere → (s : SpaceView) → IsSpace s → (most : ℕ) (limits : Limits)
    → limits.variables < counted_variables (counter_of s most) → PassesWith s most limits what.Variables
variables-large there s space most limits more =
    let whole = there s space in record { clauses = whole.0; are_clauses = whole.1; passes = more }

-- what the counter passes
pub counted-large : (s : SpaceView) (most : ℕ) (limits : Limits) (clauses : List (List Literal)) → AreSpaceClauses s clauses → (error : WorkError)
    → IsLarge (PassesCounted limits s most clauses) error → IsLarge (PassesWith s most limits) error
counted-large s most limits clauses are (work.TooLarge what) passes = record { clauses = clauses; are_clauses = are; passes = passes }
counted-large s most limits clauses are work.NoMemory passes = tt
counted-large s most limits clauses are error passes = passes

pub counted-inputs : (s : SpaceView) (most : ℕ) (limits : Limits) (clauses set : ClauseList)
    → IsSetOf s (IsDemand s) limits.clauses limits.literals clauses → IsCountedSet limits s most clauses set → AreInputsWithin limits s most set
counted-inputs s most limits clauses set of_space counted = record {
  counted = record {
    clauses = clauses.clauses;
    are_clauses = of_space.clauses;
    counted = counted.counted;
    variables = counted.variables;
  };
  within = record { variables = counted.variables_kept; clauses = counted.clauses_kept; literals = counted.literals_kept };
}

-- ---- what a kind of file is given

module _ (s : SpaceView) (limits : Limits) (numbers : List ℕ) where
  pub too-much : MAX_MOST < most_of numbers → GivesInputs (repair_files s) numbers limits None
  too-much above = record {
    basis = record { variables = 0; clauses = [] };
    is_basis = inr (above, refl);
    within = record { variables = omega arith; clauses = omega arith; literals = omega arith };
    wrong = λ fits. let few = fits.most in omega (arith, above, few);
  }

  pub right-set : (set : ClauseList) → most_of numbers ≤ MAX_MOST → AreInputsWithin limits s (most_of numbers) set → Fits s (inputs_of set) numbers
      → GivesInputs (repair_files s) numbers limits (Some set)
  right-set set few inputs fits = record {
    basis = inputs_of set;
    is_basis = inl (few, inputs.counted);
    within = inputs.within;
    fits = fits;
    variables = refl;
    clauses = refl;
  }

  pub wrong-set : (set : ClauseList) → most_of numbers ≤ MAX_MOST → AreInputsWithin limits s (most_of numbers) set → ¬ Fits s (inputs_of set) numbers
      → GivesInputs (repair_files s) numbers limits None
  wrong-set set few inputs wrong = record {
    basis = inputs_of set;
    is_basis = inl (few, inputs.counted);
    within = inputs.within;
    wrong = wrong;
  }

  pub large-input : most_of numbers ≤ MAX_MOST → (error : WorkError) → IsLarge (PassesWith s (most_of numbers) limits) error
      → IsLargeInput (λ what. (most_of numbers ≤ MAX_MOST) × PassesWith s (most_of numbers) limits what) error
  large-input few (work.TooLarge what.Variables) passes = (few, passes)
  large-input few (work.TooLarge what.Clauses) passes = (few, passes)
  large-input few (work.TooLarge what.Literals) passes = (few, passes)
  large-input few (work.TooLarge other) passes = passes.passes
  large-input few work.NoMemory passes = tt
  large-input few error passes = passes

-- ---- the variables of the questions

-- the clusters are some where there is a package
some-clusters : (s : SpaceView) → IsSpace s → (r : ℕ) → r < length s.repository.packages → 1 ≤ length s.clusters.members
some-clusters s space r short = let has = has-cluster s space.frame r short in let within = has.within in omega (arith, within)

-- the last variable is that of the greatest number, at the last cluster
last-variable : (t : Counter) (n : ℕ) → t.clusters ≡ n → 1 ≤ n → more t (n - 1) 0 + t.most ≡ counted_variables t
last-variable t zero same some = absurd (omega (arith, some))
last-variable t (suc n) same some =
    let product = suc-mul n (t.most + 1) in
    let back : suc n - 1 ≡ n = omega arith in
    let place : (suc n - 1) * (t.most + 1) ≡ n * (t.most + 1) = ap (λ (k : ℕ). k * (t.most + 1)) back in
    let whole : t.clusters * (t.most + 1) ≡ suc n * (t.most + 1) = ap (λ (k : ℕ). k * (t.most + 1)) same in
    omega (arith, product, place, whole, same)

module _ (s : SpaceView) (space : IsSpace s) (numbers : List ℕ) (right : HasRightNumbers (repair_files s) numbers) where
  pub few-numbers : most_of numbers ≤ MAX_MOST
  few-numbers = right.2.most

  pub in-packages : number_at 4 numbers - 1 < length s.repository.packages
  in-packages =
      let from = right.2.from_one in
      let upto = right.2.upto in omega (arith, from, upto)

  variables-are : number_at 2 numbers ≡ counted_variables (counter_of s (most_of numbers))
  variables-are = elim right.1 [
    | inl (within, inputs) ↦ right.2.variables ∙ inputs.variables
    | inr (above, none) ↦ let few = right.2.most in absurd (omega (arith, above, few))
  ]

  last-is : beyond s (asked_by numbers) 0 + most_of numbers ≡ number_at 2 numbers
  last-is = last-variable (counter_of s (most_of numbers)) (length s.clusters.members) refl
      (some-clusters s space (number_at 4 numbers - 1) in-packages) ∙ sym variables-are

  pub most-within : most_of numbers ≤ number_at 2 numbers
  most-within = let last = last-is in omega (arith, last)

  pub words-right : (w : WordsView) → w.own ≡ own s (asked_by numbers) → w.first ≡ number_at 2 numbers - most_of numbers → w.most ≡ most_of numbers
      → AreWordsOf s (asked_by numbers) w
  words-right w own_is first_is most_is =
      let last = last-is in
      record {
        own_is = own_is;
        first_is = omega (arith, last, first_is);
        most_is = most_is;
        last_is =
            let within = most-within in
            let sum : w.first + w.most ≡ number_at 2 numbers = omega (arith, first_is, most_is, within) in sum ∙ variables-are;
      }
