-- Which number is passed first.
use Rattle.std.proofs.Common.{◌≡◌, ℕ, ◌<◌, ◌≤◌, Bool, List, [], ◌∷◌, ◌++◌, length, refl, sym, ap, subst, ◌∙◌, arith, length-append}
use Rattle.std.proofs.lemmas.List.Sums.{sum_by-append, sum_by-cons}
use Rattle.dist_base.specs.RowLaws.{Continues}
use Rattle.dist_clause.specs.ClauseList.{literal_count}
use Rattle.dist_clause.specs.Demands.{Demands, AreClausesBefore, PassesClauseLimit, PassesLiteralLimit}
use Rattle.dist_clause.specs.Formula.{Literal}
use Rattle.dist_outside.specs.declared.limits.Limits.{Limits}
use Rattle.dist_outside.specs.declared.trouble.What.{What}
use Rattle.dist_outside.specs.declared.trouble.What.TheVariants.{Variables, Clauses, Literals}
use Rattle.dist_repo.specs.Order.{IsInOrder, IsLatestOf}
use Rattle.dist_repo.specs.PackageList.{PackageList}
use Rattle.dist_now.specs.PresentClauses as now
use Rattle.dist_now.specs.PresentClauses.{ArePresentClauses, present_demands}
use Rattle.dist_now.specs.PresentLaws as now_laws
use Rattle.dist_space.specs.Space.{SpaceView, IsSpace}
use Rattle.dist_space.specs.SpaceOf.{IsSpaceOf}
use Rattle.dist_space_clauses.specs.SpaceClauses as space
use Rattle.dist_space_clauses.specs.SpaceClauses.{AreSpaceClauses, space_demands}
use Rattle.dist_space_clauses.specs.ClauseLaws as space_laws
use Rattle.dist_space_clauses.specs.SpaceSet as futures
use Rattle.dist_cert.specs.declared.records.CertKind.{CertKind}
use Rattle.dist_cert.specs.declared.records.CertKind.TheVariants.{Strong, Outdated, Challenged}
use Rattle.dist_subject.specs.Basis.{Basis, Today, Later, IsBasisOf, IsLaterOf}
use Rattle.dist_subject.specs.Limited.{AreInputsWithin, OfSpace, PassesFirst, PassesLater, PassesPresent}

-- ---- clauses of any demands

-- the list of clauses goes on behind each front
abbrev GoesOn : {D : Type 0} → Demands D → (D → Type 0) → List (List Literal) → Type 0
GoesOn {D} demands P whole = (d : D) (front : List (List Literal)) (clause : List Literal) → AreClausesBefore demands P d front → P d
    → demands.IsClauseFor d clause → Continues whole front clause

clauses-kept : {D : Type 0} (demands : Demands D) (P : D → Type 0) (whole : List (List Literal)) (clauses literals : ℕ) → GoesOn demands P whole
    → length whole ≤ clauses → ¬ PassesClauseLimit demands P clauses literals
clauses-kept demands P whole clauses literals on kept passes =
    let more = on passes.demand passes.front passes.clause passes.before passes.is_demand passes.is_clause in
    let n = ap length more.is in
    omega (arith, n, kept, passes.passes, length-append passes.front (passes.clause ∷ more.rest))

literals-kept : {D : Type 0} (demands : Demands D) (P : D → Type 0) (whole : List (List Literal)) (clauses literals : ℕ) → GoesOn demands P whole
    → literal_count whole ≤ literals → ¬ PassesLiteralLimit demands P clauses literals
literals-kept demands P whole clauses literals on kept passes =
    let more = on passes.demand passes.front passes.clause passes.before passes.is_demand passes.is_clause in
    let n = ap literal_count more.is in
    let sum = sum_by-append (λ (c : List Literal). length c) passes.front (passes.clause ∷ more.rest) in
    let one = sum_by-cons (λ (c : List Literal). length c) passes.clause more.rest in
    omega (arith, n, kept, passes.passes.1, sum, one)

head-or : List Literal → List (List Literal) → List Literal
head-or d [] = d
head-or d (x ∷ xs) = x

tail-of : List (List Literal) → List (List Literal)
tail-of [] = []
tail-of (x ∷ xs) = xs

-- of two fronts of one list the longer one has the next clause of the shorter
longer-front : (few many : List (List Literal)) (a b : List Literal) (later more : List (List Literal)) → few ++ a ∷ later ≡ many ++ b ∷ more
    → length few < length many
    → (middle : List (List Literal)) × (many ≡ few ++ a ∷ middle)
unfolding head-or tail-of
longer-front few [] a b later more is below = absurd (omega (arith, below))
longer-front [] (c ∷ many) a b later more is below = (many, ap (λ (x : List Literal). x ∷ many) (sym (ap (head-or a) is)))
longer-front (d ∷ few) (c ∷ many) a b later more is below =
    let rest = longer-front few many a b later more (ap tail-of is) (omega (arith, below)) in
    (rest.0, ap (λ (x : List Literal). x ∷ many) (sym (ap (head-or d) is)) ∙ ap (λ (xs : List (List Literal)). d ∷ xs) rest.1)

not-both : {D : Type 0} (demands : Demands D) (P : D → Type 0) (whole : List (List Literal)) (clauses literals : ℕ) → GoesOn demands P whole
    → PassesClauseLimit demands P clauses literals → ¬ PassesLiteralLimit demands P clauses literals
not-both demands P whole clauses literals on many few =
    let all = on many.demand many.front many.clause many.before many.is_demand many.is_clause in
    let some = on few.demand few.front few.clause few.before few.is_demand few.is_clause in
    let front = longer-front few.front many.front few.clause many.clause some.rest all.rest (sym some.is ∙ all.is) (omega (arith, many.passes, few.passes.0)) in
    let n = ap literal_count front.1 in
    let sum = sum_by-append (λ (c : List Literal). length c) few.front (few.clause ∷ front.0) in
    let one = sum_by-cons (λ (c : List Literal). length c) few.clause front.0 in
    omega (arith, n, sum, one, few.passes.1, many.literals_kept)

-- ---- the laws of the crates below

pub record LimitLaws : Type 0 where
  pub latest : (r latest other : PackageList) → IsLatestOf r latest → IsLatestOf r other → other ≡ latest
  pub spaces : (r : PackageList) (essential : Bool) (s other : SpaceView) → IsSpaceOf r essential s → IsSpaceOf r essential other → other ≡ s
  pub present : (r : PackageList) (essential : Bool) (d : now.Demand) (whole front : List (List Literal)) (clause : List Literal)
      → ArePresentClauses r essential whole → now.AreClausesBefore r essential d front → now.IsDemand r essential d → now.IsClauseFor r d clause
      → now_laws.GoesOn whole front clause
  pub later : (s : SpaceView) (d : space.Demand) (whole front : List (List Literal)) (clause : List Literal) → AreSpaceClauses s whole
      → space.AreClausesBefore s d front → space.IsDemand s d → space.IsClauseFor s d clause → space_laws.GoesOn whole front clause
  pub there : (r : PackageList) (essential : Bool) → IsInOrder r.packages → (clauses : List (List Literal)) × ArePresentClauses r essential clauses
  pub apart : (s : SpaceView) (clause_limit literal_limit : ℕ) → IsSpace s → futures.PassesClauses s clause_limit literal_limit
      → ¬ futures.PassesLiterals s clause_limit literal_limit

-- two spaces of the newest packages are one
same-space : LimitLaws → (r : PackageList) (essential : Bool) (s t : SpaceView) → IsLatestOf r s.repository → IsSpaceOf s.repository essential s
    → IsLatestOf r t.repository → IsSpaceOf t.repository essential t → t ≡ s
same-space laws r essential s t newest is other also =
    laws.spaces s.repository essential s t is (subst (λ l. IsSpaceOf l essential t) (laws.latest r s.repository t.repository newest other) also)

-- ---- what keeps the numbers passes none

present-kept : LimitLaws → (r : PackageList) (essential : Bool) (limits : Limits) (inputs : List (List Literal)) → ArePresentClauses r essential inputs
    → length inputs ≤ limits.clauses → literal_count inputs ≤ limits.literals → (what : What) → ¬ PassesPresent r essential limits what
present-kept laws r essential limits inputs are clauses literals Clauses passes =
    clauses-kept (present_demands r) (now.IsDemand r essential) inputs limits.clauses limits.literals
    (λ d front clause before holds is. laws.present r essential d inputs front clause are before holds is) clauses passes
present-kept laws r essential limits inputs are clauses literals Literals passes =
    literals-kept (present_demands r) (now.IsDemand r essential) inputs limits.clauses limits.literals
    (λ d front clause before holds is. laws.present r essential d inputs front clause are before holds is) literals passes
present-kept laws r essential limits inputs are clauses literals what passes = passes

later-kept : LimitLaws → (r : PackageList) (essential : Bool) (limits : Limits) (s : SpaceView) (inputs : List (List Literal))
    → IsLaterOf r essential s inputs → length s.meanings ≤ limits.variables → length inputs ≤ limits.clauses → literal_count inputs ≤ limits.literals
    → (what : What) → ¬ PassesLater r essential limits what
later-kept laws r essential limits s inputs is variables clauses literals Variables (other, newest, space_of, passes) =
    let same = same-space laws r essential s other is.newest is.is_space newest space_of in
    omega (arith, passes, variables, ap (λ (t : SpaceView). length t.meanings) same)
later-kept laws r essential limits s inputs is variables clauses literals Clauses (other, newest, space_of, passes) =
    let same = same-space laws r essential s other is.newest is.is_space newest space_of in
    clauses-kept (space_demands s) (space.IsDemand s) inputs limits.clauses limits.literals
    (λ d front clause before holds has. laws.later s d inputs front clause is.are_clauses before holds has) clauses
    (subst (λ t. futures.PassesClauses t limits.clauses limits.literals) same passes.1)
later-kept laws r essential limits s inputs is variables clauses literals Literals (other, newest, space_of, passes) =
    let same = same-space laws r essential s other is.newest is.is_space newest space_of in
    literals-kept (space_demands s) (space.IsDemand s) inputs limits.clauses limits.literals
    (λ d front clause before holds has. laws.later s d inputs front clause is.are_clauses before holds has) literals
    (subst (λ t. futures.PassesLiterals t limits.clauses limits.literals) same passes.1)
later-kept laws r essential limits s inputs is variables clauses literals what passes = passes

pub kept : LimitLaws → (r : PackageList) (kind : CertKind) (essential : Bool) (limits : Limits) (basis : Basis) (what : What)
    → IsBasisOf r kind essential basis → AreInputsWithin limits r basis → ¬ PassesFirst r kind essential limits what
kept laws r Strong essential limits (Today mode inputs) what is within passes =
    present-kept laws r essential limits inputs is.1 within.clauses within.literals what passes
kept laws r Strong essential limits (Later s inputs) what is within passes = is
kept laws r Outdated essential limits (Later s inputs) what is within passes =
    later-kept laws r essential limits s inputs is within.variables within.clauses within.literals what passes
kept laws r Outdated essential limits (Today mode inputs) what is within passes = is
kept laws r Challenged essential limits (Later s inputs) what is within passes =
    later-kept laws r essential limits s inputs is within.variables within.clauses within.literals what passes
kept laws r Challenged essential limits (Today mode inputs) what is within passes = is

-- ---- no two are passed first

present-apart : LimitLaws → (r : PackageList) (essential : Bool) (limits : Limits) → IsInOrder r.packages → PassesPresent r essential limits Clauses
    → ¬ PassesPresent r essential limits Literals
present-apart laws r essential limits ordered clauses literals =
    let some = laws.there r essential ordered in
    not-both (present_demands r) (now.IsDemand r essential) some.0 limits.clauses limits.literals
    (λ d front clause before holds is. laws.present r essential d some.0 front clause some.1 before holds is) clauses literals

one-present : LimitLaws → (r : PackageList) (essential : Bool) (limits : Limits) (what other : What) → IsInOrder r.packages
    → PassesPresent r essential limits what → PassesPresent r essential limits other → other ≡ what
one-present laws r essential limits Clauses Clauses ordered first second = refl
one-present laws r essential limits Clauses Literals ordered first second = absurd (present-apart laws r essential limits ordered first second)
one-present laws r essential limits Literals Clauses ordered first second = absurd (present-apart laws r essential limits ordered second first)
one-present laws r essential limits Literals Literals ordered first second = refl
one-present laws r essential limits Clauses other ordered first second = absurd second
one-present laws r essential limits Literals other ordered first second = absurd second
one-present laws r essential limits what other ordered first second = absurd first

variables-apart : LimitLaws → (r : PackageList) (essential : Bool) (limits : Limits) (P : SpaceView → Type 0)
    → PassesLater r essential limits Variables → ¬ OfSpace r essential (λ s. (length s.meanings ≤ limits.variables) × P s)
variables-apart laws r essential limits P (s, newest, space_of, passes) (other, also, is, holds) =
    let same = same-space laws r essential s other newest space_of also is in
    omega (arith, passes, holds.0, ap (λ (t : SpaceView). length t.meanings) same)

later-apart : LimitLaws → (r : PackageList) (essential : Bool) (limits : Limits) → PassesLater r essential limits Clauses
    → ¬ PassesLater r essential limits Literals
later-apart laws r essential limits (s, newest, space_of, passes) (other, also, is, holds) =
    let same = same-space laws r essential s other newest space_of also is in
    laws.apart s limits.clauses limits.literals space_of.space passes.1
    (subst (λ t. futures.PassesLiterals t limits.clauses limits.literals) same holds.1)

one-later : LimitLaws → (r : PackageList) (essential : Bool) (limits : Limits) (what other : What)
    → PassesLater r essential limits what → PassesLater r essential limits other → other ≡ what
one-later laws r essential limits Variables Variables first second = refl
one-later laws r essential limits Clauses Clauses first second = refl
one-later laws r essential limits Literals Literals first second = refl
one-later laws r essential limits Variables Clauses first second =
    absurd (variables-apart laws r essential limits (λ s. futures.PassesClauses s limits.clauses limits.literals) first second)
one-later laws r essential limits Variables Literals first second =
    absurd (variables-apart laws r essential limits (λ s. futures.PassesLiterals s limits.clauses limits.literals) first second)
one-later laws r essential limits Clauses Variables first second =
    absurd (variables-apart laws r essential limits (λ s. futures.PassesClauses s limits.clauses limits.literals) second first)
one-later laws r essential limits Literals Variables first second =
    absurd (variables-apart laws r essential limits (λ s. futures.PassesLiterals s limits.clauses limits.literals) second first)
one-later laws r essential limits Clauses Literals first second = absurd (later-apart laws r essential limits first second)
one-later laws r essential limits Literals Clauses first second = absurd (later-apart laws r essential limits second first)
one-later laws r essential limits Variables other first second = absurd second
one-later laws r essential limits Clauses other first second = absurd second
one-later laws r essential limits Literals other first second = absurd second
one-later laws r essential limits what other first second = absurd first

pub one : LimitLaws → (r : PackageList) (kind : CertKind) (essential : Bool) (limits : Limits) (what other : What) → IsInOrder r.packages
    → PassesFirst r kind essential limits what → PassesFirst r kind essential limits other → other ≡ what
one laws r Strong essential limits what other ordered first second = one-present laws r essential limits what other ordered first second
one laws r Outdated essential limits what other ordered first second = one-later laws r essential limits what other first second
one laws r Challenged essential limits what other ordered first second = one-later laws r essential limits what other first second
