-- The input clauses as they are made, and why there are none.
use Rattle.std.proofs.Common.{◌≡◌, ◌≢◌, ◌≤◌, Bool, List, Result, Ok, Err, length, refl, subst, ap, arith}
use Rattle.std.specs.Prelude.{IfErr, IfOk}
use Rattle.dist_base.specs.Answers.{IsExactly}
use Rattle.dist_clause.specs.ClauseList.{ClauseList, IsWithinLimits, literal_count}
use Rattle.dist_clause.specs.Formula.{Literal}
use Rattle.dist_clause.specs.declared.clause_set.PushError.{PushError}
use Rattle.dist_clause.specs.declared.clause_set.PushError.TheVariants as push
use Rattle.dist_outside.specs.declared.limits.Limits.{Limits}
use Rattle.dist_outside.specs.declared.trouble.What.{What}
use Rattle.dist_outside.specs.declared.trouble.What.TheVariants.{Clauses, Literals}
use Rattle.dist_outside.specs.declared.trouble.WorkError.{WorkError}
use Rattle.dist_outside.specs.declared.trouble.WorkError.TheVariants.{NoMemory, TooLarge}
use Rattle.dist_repo.specs.PackageList.{PackageList}
use Rattle.dist_now.specs.PresentClauses as now
use Rattle.dist_now.specs.PresentSet as present
use Rattle.dist_space.specs.Space.{SpaceView}
use Rattle.dist_space_clauses.specs.SpaceClauses as space
use Rattle.dist_space_clauses.specs.SpaceSet as futures
use Rattle.dist_cert.specs.declared.records.CertKind.{CertKind}
use Rattle.dist_cert.specs.declared.records.CertKind.TheVariants as kinds
use Rattle.dist_subject.specs.Basis.{IsBasisOf, IsLaterOf, Later, Today}
use Rattle.dist_judge.specs.Causes.{IsLarge}
use Rattle.dist_subject.specs.Inputs.{AreInputsOf, large_by}
use Rattle.dist_subject.specs.InputsPrivate.{IsSpaceWithin, PassesSpace}
use Rattle.dist_subject.specs.Limited.{PassesLater, PassesPresent}

-- ---- the sets

pub present-made : (r : PackageList) (essential : Bool) (limits : Limits) (set : ClauseList)
    → present.IsSetOf r (now.IsDemand r essential) limits.clauses limits.literals set → IsWithinLimits set
    → AreInputsOf r kinds.Strong essential limits (Today essential set.clauses) set
present-made r essential limits set is_set within =
    let clause_limit : set.clause_limit ≡ limits.clauses = is_set.clause_limit_is in
    let literal_limit : set.literal_limit ≡ limits.literals = is_set.literal_limit_is in
    let few : length set.clauses ≤ set.clause_limit = within.clauses_within in
    let short : literal_count set.clauses ≤ set.literal_limit = within.literals_within in
    record {
      is_basis = (refl, is_set.clauses);
      kept = record { variables = tt; clauses = omega (arith, few, clause_limit); literals = omega (arith, short, literal_limit) };
      clauses = refl;
      variables = is_set.variables;
    }

later-basis : (r : PackageList) (kind : CertKind) (essential : Bool) (s : SpaceView) (inputs : List (List Literal)) → kind ≢ kinds.Strong
    → IsLaterOf r essential s inputs → IsBasisOf r kind essential (Later s inputs)
later-basis r kinds.Strong essential s inputs later is = absurd (later refl)
later-basis r kinds.Outdated essential s inputs later is = is
later-basis r kinds.Challenged essential s inputs later is = is

pub later-made : (r : PackageList) (essential : Bool) (limits : Limits) (s : SpaceView) (set : ClauseList) → IsSpaceWithin r essential limits s
    → futures.IsSetOf s (space.IsDemand s) limits.clauses limits.literals set → IsWithinLimits set
    → (kind : CertKind) → kind ≢ kinds.Strong → AreInputsOf r kind essential limits (Later s set.clauses) set
later-made r essential limits s set within_space is_set within kind later =
    let clause_limit : set.clause_limit ≡ limits.clauses = is_set.clause_limit_is in
    let literal_limit : set.literal_limit ≡ limits.literals = is_set.literal_limit_is in
    let few : length set.clauses ≤ set.clause_limit = within.clauses_within in
    let short : literal_count set.clauses ≤ set.literal_limit = within.literals_within in
    record {
      is_basis = later-basis r kind essential s set.clauses later
          (record { newest = within_space.newest; is_space = within_space.is_space; are_clauses = is_set.clauses });
      kept = record {
        variables = within_space.variables;
        clauses = omega (arith, few, clause_limit);
        literals = omega (arith, short, literal_limit);
      };
      clauses = refl;
      variables = is_set.variables;
    }

-- ---- numbers that are passed

pub present-large : {X : Type 0} (r : PackageList) (essential : Bool) (limits : Limits) (error : PushError)
    → IsExactly {X = X} push.NoMemory (Err error) push.TooManyClauses (present.PassesClauses r essential limits.clauses limits.literals)
    → IsExactly {X = X} push.NoMemory (Err error) push.TooManyLiterals (present.PassesLiterals r essential limits.clauses limits.literals)
    → IsLarge (PassesPresent r essential limits) (large_by error)
present-large r essential limits push.TooManyClauses clauses literals = (clauses (λ e. cc)).0 refl
present-large r essential limits push.TooManyLiterals clauses literals = (literals (λ e. cc)).0 refl
present-large r essential limits push.NoMemory clauses literals = tt

pub space-large : {X : Type 0} (s : SpaceView) (limits : Limits) (error : PushError)
    → IsExactly {X = X} push.NoMemory (Err error) push.TooManyClauses (futures.PassesClauses s limits.clauses limits.literals)
    → IsExactly {X = X} push.NoMemory (Err error) push.TooManyLiterals (futures.PassesLiterals s limits.clauses limits.literals)
    → IsLarge (PassesSpace s limits) (large_by error)
space-large s limits push.TooManyClauses clauses literals = (clauses (λ e. cc)).0 refl
space-large s limits push.TooManyLiterals clauses literals = (literals (λ e. cc)).0 refl
space-large s limits push.NoMemory clauses literals = tt

pub later-large : (r : PackageList) (essential : Bool) (limits : Limits) (s : SpaceView) → IsSpaceWithin r essential limits s
    → (e : WorkError) → IsLarge (PassesSpace s limits) e → IsLarge (PassesLater r essential limits) e
later-large r essential limits s within (TooLarge Clauses) large = (s, within.newest, within.is_space, (within.variables, large))
later-large r essential limits s within (TooLarge Literals) large = (s, within.newest, within.is_space, (within.variables, large))
later-large r essential limits s within (TooLarge what) large = absurd large
later-large r essential limits s within NoMemory large = tt
later-large r essential limits s within error large = absurd large

-- ---- each number is told exactly where it is passed first

pub exact : {X : Type 0} (Passes : What → Type 0) → ((what other : What) → Passes what → Passes other → other ≡ what)
    → (result : Result X WorkError) → IfErr result (IsLarge Passes) → ((what : What) → IfOk result (λ x. ¬ Passes what))
    → (what : What) → IsExactly NoMemory result (TooLarge what) (Passes what)
exact Passes one (Ok x) cause kept what = λ other. ((λ e. cc), λ passes. absurd (kept what passes))
exact Passes one (Err (TooLarge number)) cause kept what = λ other. (
  (λ e. let same : number ≡ what = cc in subst Passes same cause),
  λ passes. ap (λ (w : What). Err (TooLarge w)) (one what number passes cause),
)
exact Passes one (Err NoMemory) cause kept what = λ other. absurd (other refl)
exact Passes one (Err error) cause kept what = absurd cause
