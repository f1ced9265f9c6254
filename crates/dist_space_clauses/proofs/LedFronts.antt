-- What the clauses that one variable leads do to a front.
use Rattle.std.proofs.Common.{◌≡◌, ◌≢◌, ℕ, ◌+◌, ◌<◌, ◌≤◌, Bool, true, false, List, [], ◌∷◌, ◌++◌, length, slice_get, refl, sym, ap, subst, ◌∙◌, arith}
use Rattle.std.specs.Prelude.{IsSomeAnd, slice_index}
use Rattle.dist_base.specs.ListLaws.{within-from}
use Rattle.dist_clause.specs.ClauseList.{ClauseList}
use Rattle.dist_clause.specs.Demands.{IsRefused}
use Rattle.dist_clause.specs.Formula.{IsClauseOver, Literal, literal}
use Rattle.dist_clause.specs.declared.clause_set.PushError.{PushError}
use Rattle.dist_repo.specs.Match.{IsUsable}
use Rattle.dist_repo.specs.declared.package.Package.{Package}
use Rattle.dist_space_clauses.specs.GatheringPrivate.{IsCauseAt, IsFront}
use Rattle.dist_space_clauses.specs.GroupsPrivate.{apart_of, class_of, classes_of, group_for}
use Rattle.dist_space_clauses.specs.declared.classed.Classed.{Classed}
use Rattle.dist_space_clauses.specs.declared.classed.Classed.TheVariants.{Cluster, Name}
use Rattle.dist_space.specs.Space.{IsChange, IsMeaningOf, IsMeaning, IsSpace, SpaceView, cluster_classes, fresh_classes, variable_of}
use Rattle.dist_space_clauses.specs.SpaceClauses.{Demand, OneClass, Gone, Moved, Carried, OneFresh, StaysNow, AbsentNow, Required, IsClauseFor, IsDemand}
use Rattle.dist_space_clauses.specs.SpaceClauses.{group_of, leading, second_of}
use Rattle.dist_space.specs.declared.meaning.Meaning.{Meaning}
use Rattle.dist_space.specs.declared.meaning.Meaning.TheVariants.{Now, Present, At, New, Kept, Fresh}
use Rattle.dist_space_clauses.proofs.Fronts.{first-number, front-more, front-skip, front-stops, front-variable, leads}
use Rattle.dist_space_clauses.proofs.PairClauses.{meanings-over}

-- what one more clause at a place does to a front
pub record Steps (s : SpaceView) (limits : ClauseList) (g v b : ℕ) (set : ClauseList) (clause : List Literal) : Type 0 where
  pub over : IsClauseOver set.variables clause
  pub more : (new : ClauseList) → new ≡ record set { clauses = set.clauses ++ clause ∷ [] } → IsFront s g v (b + 1) limits new
  pub stops : (error : PushError) → IsRefused set clause error → IsCauseAt s limits error

-- the clause of a demand at that place
pub steps : (s : SpaceView) (limits : ClauseList) (g v b : ℕ) (set : ClauseList) (d : Demand) (clause : List Literal) → IsSpace s → g < 7 → IsDemand s d
    → group_of d ≡ g → variable_of s (leading d) ≡ v → second_of s d ≡ b ∷ [] → IsClauseFor s d clause → IsClauseOver (length s.meanings) clause
    → IsFront s g v b limits set → Steps s limits g v b set clause
steps s limits g v b set d clause space few is group variable second is_clause over front = record {
  over = subst (λ (n : ℕ). IsClauseOver n clause) (sym front.variables) over;
  more = λ new is_new. subst (IsFront s g v (b + 1) limits) (sym is_new)
      (front-more s space limits g v b set d clause few is group variable second is_clause front);
  stops = λ error. front-stops s space limits g v b set d clause error is group variable second is_clause front;
}

-- ---- a demand whose clause has two literals

pub record IsPairAt (s : SpaceView) (g v b : ℕ) (d : Demand) (x y : Meaning) (p q : Bool) : Type 0 where
  pub few : g < 7
  pub is : IsDemand s d
  pub group : group_of d ≡ g
  pub variable : variable_of s (leading d) ≡ v
  pub second : second_of s d ≡ b ∷ []
  pub is_clause : IsClauseFor s d (literal (variable_of s x) p ∷ literal (variable_of s y) q ∷ [])
  pub is_x : IsMeaning s x
  pub is_y : IsMeaning s y
  pub apart : x ≢ y

-- a literal of a variable, as it was written
pub written : (first : Literal) (v w : ℕ) (p : Bool) → first ≡ literal v p → v ≡ w → first ≡ literal w p
written first v w p is same = is ∙ ap (λ (i : ℕ). literal i p) same

pub pair-steps : (s : SpaceView) (limits : ClauseList) (g v b : ℕ) (set : ClauseList) (d : Demand) (x y : Meaning) (p q : Bool) (first second : Literal)
    → IsSpace s → IsPairAt s g v b d x y p q → first ≡ literal (variable_of s x) p → second ≡ literal (variable_of s y) q
    → IsFront s g v b limits set → Steps s limits g v b set (first ∷ second ∷ [])
pair-steps s limits g v b set d x y p q first second space pair is_first is_second front =
    let same : first ∷ second ∷ [] ≡ literal (variable_of s x) p ∷ literal (variable_of s y) q ∷ [] =
    ap (λ (l : Literal). l ∷ second ∷ []) is_first ∙ ap (λ (l : Literal). literal (variable_of s x) p ∷ l ∷ []) is_second in
    steps s limits g v b set d (first ∷ second ∷ []) space pair.few pair.is pair.group pair.variable pair.second
    (subst (IsClauseFor s d) (sym same) pair.is_clause)
    (subst (IsClauseOver (length s.meanings)) (sym same) (meanings-over s (length s.meanings) x y p q space refl pair.is_x pair.is_y pair.apart)) front

-- ---- one class of a cluster, or of a new name

pub class-short : (s : SpaceView) (kind : Classed) (n k : ℕ) → IsMeaning s (class_of kind n k) → k < length (classes_of s kind n)
class-short s Cluster n k is = is
class-short s Name n k is = is

pub few-classed : (kind : Classed) → group_for kind < 7
few-classed Cluster = omega arith
few-classed Name = omega arith

pub later-of : (s : SpaceView) (kind : Classed) (d : Demand) (n k l : ℕ) → IsDemand s d → group_of d ≡ group_for kind → leading d ≡ class_of kind n k
    → second_of s d ≡ l ∷ [] → (k < l) × (l < length (classes_of s kind n))
later-of s Cluster (OneClass c' k' l') c k l is group lead second =
    let cluster : c' ≡ c = cc in
    let class : k' ≡ k = cc in
    let other = first-number l' l second in
    (omega (arith, is.0, class, other), subst (λ (x : ℕ). l < length (cluster_classes s x)) cluster (omega (arith, is.1, other)))
later-of s Name (OneFresh x' k' l') x k l is group lead second =
    let name : x' ≡ x = cc in
    let class : k' ≡ k = cc in
    let other = first-number l' l second in
    (omega (arith, is.0, class, other), subst (λ (y : ℕ). l < length (fresh_classes s y)) name (omega (arith, is.1, other)))
later-of s Cluster d n k l is group lead second = absurd (omega (arith, group))
later-of s Name d n k l is group lead second = absurd (omega (arith, group))

pub later-start : (s : SpaceView) (limits set : ClauseList) (kind : Classed) (v n k : ℕ) → IsMeaningOf s v (class_of kind n k)
    → IsFront s (group_for kind) v 0 limits set → IsFront s (group_for kind) v (k + 1) limits set
later-start s limits set kind v n k of front =
    front-skip s of.space limits (group_for kind) v 0 (k + 1) set (omega arith)
    (λ d is group variable l second short. absurd (let less = later-of s kind d n k l is group
    (leads s d v (class_of kind n k) of.space is of.is_meaning of.variable_is variable) second in omega (arith, less.0, short)))
    (few-classed kind) front

pub later-end : (s : SpaceView) (limits set : ClauseList) (kind : Classed) (v n k l : ℕ) → IsMeaningOf s v (class_of kind n k)
    → length (classes_of s kind n) ≤ l → IsFront s (group_for kind) v l limits set → IsFront s (group_for kind) (v + 1) 0 limits set
later-end s limits set kind v n k l of past front =
    front-variable s of.space limits (group_for kind) v l set
    (λ d is group variable i second. let less = later-of s kind d n k i is group
    (leads s d v (class_of kind n k) of.space is of.is_meaning of.variable_is variable) second in omega (arith, less.1, past))
    (few-classed kind) front

later-pair : (s : SpaceView) (kind : Classed) (v n k l : ℕ) → IsMeaningOf s v (class_of kind n k) → k < l → l < length (classes_of s kind n)
    → IsPairAt s (group_for kind) v l (apart_of kind n k l) (class_of kind n k) (class_of kind n l) false false
later-pair s Cluster v c k l of less short = record {
  few = omega arith;
  is = (less, short);
  group = refl;
  variable = of.variable_is;
  second = refl;
  is_clause = refl;
  is_x = of.is_meaning;
  is_y = short;
  apart = λ same. let equal : k ≡ l = cc in omega (arith, less, equal);
}
later-pair s Name v x k l of less short = record {
  few = omega arith;
  is = (less, short);
  group = refl;
  variable = of.variable_is;
  second = refl;
  is_clause = refl;
  is_x = of.is_meaning;
  is_y = short;
  apart = λ same. let equal : k ≡ l = cc in omega (arith, less, equal);
}

pub later-steps : (s : SpaceView) (limits set : ClauseList) (kind : Classed) (v n k l w : ℕ) (first second : Literal) → IsMeaningOf s v (class_of kind n k)
    → k < l → l < length (classes_of s kind n) → first ≡ literal v false → second ≡ literal w false → w ≡ variable_of s (class_of kind n l)
    → IsFront s (group_for kind) v l limits set → Steps s limits (group_for kind) v l set (first ∷ second ∷ [])
later-steps s limits set kind v n k l w first second of less short is_first is_second is_other =
    pair-steps s limits (group_for kind) v l set (apart_of kind n k l) (class_of kind n k) (class_of kind n l) false false first second of.space
    (later-pair s kind v n k l of less short) (written first v (variable_of s (class_of kind n k)) false is_first (sym of.variable_is))
    (written second w (variable_of s (class_of kind n l)) false is_second is_other)

-- a variable that leads nothing of a group
pub leads-none : (s : SpaceView) (limits set : ClauseList) (g v : ℕ) (m : Meaning) → g < 7 → IsMeaningOf s v m
    → ((d : Demand) → IsDemand s d → group_of d ≡ g → leading d ≡ m → ⊥) → IsFront s g v 0 limits set → IsFront s g (v + 1) 0 limits set
leads-none s limits set g v m few of none front =
    front-variable s of.space limits g v 0 set (λ d is group variable n second. absurd
    (none d is group (leads s d v m of.space is of.is_meaning of.variable_is variable))) few front

pub no-later : (s : SpaceView) (kind : Classed) (m : Meaning) → ((n k : ℕ) → m ≢ class_of kind n k) → (d : Demand) → IsDemand s d
    → group_of d ≡ group_for kind → leading d ≡ m → ⊥
no-later s Cluster m other (OneClass c k l) is group lead = other c k (sym lead)
no-later s Name m other (OneFresh x k l) is group lead = other x k (sym lead)
no-later s Cluster m other d is group lead = omega (arith, group)
no-later s Name m other d is group lead = omega (arith, group)

-- ---- new versions

-- the variable of a member's cluster at a class
at-variable : (s : SpaceView) (r k cluster v : ℕ) → cluster ≡ slice_index s.cluster_of r → v ≡ variable_of s (At cluster k)
    → v ≡ variable_of s (At (slice_index s.cluster_of r) k)
at-variable s r k cluster v is value = value ∙ ap (λ (x : ℕ). variable_of s (At x k)) is

gone-pair : (s : SpaceView) (v r k : ℕ) → IsMeaningOf s v (New r k)
    → IsPairAt s 2 v 0 (Gone r k) (Present r) (At (slice_index s.cluster_of r) k) false false
gone-pair s v r k of = record {
  few = omega arith;
  is = of.is_meaning;
  group = refl;
  variable = of.variable_is;
  second = refl;
  is_clause = refl;
  is_x = of.is_meaning.0;
  is_y = of.is_meaning.1;
  apart = λ same. cc;
}

moved-pair : (s : SpaceView) (v r k : ℕ) → IsMeaningOf s v (New r k) → IsPairAt s 2 v 1 (Moved r k) (New r k) (At (slice_index s.cluster_of r) k) false true
moved-pair s v r k of = record {
  few = omega arith;
  is = of.is_meaning;
  group = refl;
  variable = of.variable_is;
  second = refl;
  is_clause = refl;
  is_x = of.is_meaning;
  is_y = of.is_meaning.1;
  apart = λ same. cc;
}

kept-new : (s : SpaceView) (r k j : ℕ) → IsMeaning s (Kept r k j) → IsMeaning s (New r k)
kept-new s r k j is = (
  within-from (λ (p : Package). IsSomeAnd (slice_get p.provides j) (λ entry. IsUsable s.repository.architecture entry.qualifier))
      s.repository.packages r is.0,
  is.1,
)

carried-pair : (s : SpaceView) (v r k j : ℕ) → IsMeaningOf s v (Kept r k j) → IsPairAt s 2 v 0 (Carried r k j) (Kept r k j) (New r k) false true
carried-pair s v r k j of = record {
  few = omega arith;
  is = of.is_meaning;
  group = refl;
  variable = of.variable_is;
  second = refl;
  is_clause = refl;
  is_x = of.is_meaning;
  is_y = kept-new s r k j of.is_meaning;
  apart = λ same. cc;
}

-- their clauses, as they are written
module _ (s : SpaceView) (limits set : ClauseList) (v r k : ℕ) (first second : Literal) where
  pub gone-steps : (present cluster at : ℕ) → IsMeaningOf s v (New r k) → first ≡ literal present false → present ≡ variable_of s (Present r)
      → second ≡ literal at false → cluster ≡ slice_index s.cluster_of r → at ≡ variable_of s (At cluster k)
      → IsFront s 2 v 0 limits set → Steps s limits 2 v 0 set (first ∷ second ∷ [])
  gone-steps present cluster at of is_first is_present is_second is_cluster is_at =
      pair-steps s limits 2 v 0 set (Gone r k) (Present r) (At (slice_index s.cluster_of r) k) false false first second of.space (gone-pair s v r k of)
      (written first present (variable_of s (Present r)) false is_first is_present)
      (written second at (variable_of s (At (slice_index s.cluster_of r) k)) false is_second (at-variable s r k cluster at is_cluster is_at))

  pub moved-steps : (cluster at : ℕ) → IsMeaningOf s v (New r k) → first ≡ literal v false
      → second ≡ literal at true → cluster ≡ slice_index s.cluster_of r → at ≡ variable_of s (At cluster k)
      → IsFront s 2 v 1 limits set → Steps s limits 2 v 1 set (first ∷ second ∷ [])
  moved-steps cluster at of is_first is_second is_cluster is_at =
      pair-steps s limits 2 v 1 set (Moved r k) (New r k) (At (slice_index s.cluster_of r) k) false true first second of.space (moved-pair s v r k of)
      (written first v (variable_of s (New r k)) false is_first (sym of.variable_is))
      (written second at (variable_of s (At (slice_index s.cluster_of r) k)) true is_second (at-variable s r k cluster at is_cluster is_at))

  pub carried-steps : (j new : ℕ) → IsMeaningOf s v (Kept r k j) → first ≡ literal v false → second ≡ literal new true → new ≡ variable_of s (New r k)
      → IsFront s 2 v 0 limits set → Steps s limits 2 v 0 set (first ∷ second ∷ [])
  carried-steps j new of is_first is_second is_new =
      pair-steps s limits 2 v 0 set (Carried r k j) (Kept r k j) (New r k) false true first second of.space (carried-pair s v r k j of)
      (written first v (variable_of s (Kept r k j)) false is_first (sym of.variable_is))
      (written second new (variable_of s (New r k)) true is_second is_new)

pub moves-of : (s : SpaceView) (d : Demand) (r k n : ℕ) → IsDemand s d → group_of d ≡ 2 → leading d ≡ New r k → second_of s d ≡ n ∷ [] → n < 2
moves-of s (Gone r' k') r k n is group lead second = omega (arith, first-number 0 n second)
moves-of s (Moved r' k') r k n is group lead second = omega (arith, first-number 1 n second)
moves-of s (Carried r' k' j) r k n is group lead second = cc
moves-of s d r k n is group lead second = absurd (omega (arith, group))

pub moves-end : (s : SpaceView) (limits set : ClauseList) (v r k : ℕ) → IsMeaningOf s v (New r k) → IsFront s 2 v 2 limits set
    → IsFront s 2 (v + 1) 0 limits set
moves-end s limits set v r k of front =
    front-variable s of.space limits 2 v 2 set (λ d is group variable n second. moves-of s d r k n is group
    (leads s d v (New r k) of.space is of.is_meaning of.variable_is variable) second) (omega arith) front

pub carried-of : (s : SpaceView) (d : Demand) (r k j n : ℕ) → IsDemand s d → group_of d ≡ 2 → leading d ≡ Kept r k j → second_of s d ≡ n ∷ [] → n < 1
carried-of s (Gone r' k') r k j n is group lead second = cc
carried-of s (Moved r' k') r k j n is group lead second = cc
carried-of s (Carried r' k' i) r k j n is group lead second = omega (arith, first-number 0 n second)
carried-of s d r k j n is group lead second = absurd (omega (arith, group))

pub carried-end : (s : SpaceView) (limits set : ClauseList) (v r k j : ℕ) → IsMeaningOf s v (Kept r k j) → IsFront s 2 v 1 limits set
    → IsFront s 2 (v + 1) 0 limits set
carried-end s limits set v r k j of front =
    front-variable s of.space limits 2 v 1 set (λ d is group variable n second. carried-of s d r k j n is group
    (leads s d v (Kept r k j) of.space is of.is_meaning of.variable_is variable) second) (omega arith) front

pub no-moves : (s : SpaceView) (m : Meaning) → ((r k : ℕ) → m ≢ New r k) → ((r k j : ℕ) → m ≢ Kept r k j) → (d : Demand) → IsDemand s d → group_of d ≡ 2
    → leading d ≡ m → ⊥
no-moves s m new kept (Gone r k) is group lead = new r k (sym lead)
no-moves s m new kept (Moved r k) is group lead = new r k (sym lead)
no-moves s m new kept (Carried r k j) is group lead = kept r k j (sym lead)
no-moves s m new kept d is group lead = omega (arith, group)

-- ---- today

stays-pair : (s : SpaceView) (v c k : ℕ) → IsMeaningOf s v (At c k) → IsPairAt s 6 v 0 (StaysNow c k) Now (At c k) false false
stays-pair s v c k of = record {
  few = omega arith;
  is = of.is_meaning;
  group = refl;
  variable = of.variable_is;
  second = refl;
  is_clause = refl;
  is_x = tt;
  is_y = of.is_meaning;
  apart = λ same. cc;
}

absent-pair : (s : SpaceView) (v x k : ℕ) → IsMeaningOf s v (Fresh x k) → IsPairAt s 6 v 0 (AbsentNow x k) Now (Fresh x k) false false
absent-pair s v x k of = record {
  few = omega arith;
  is = of.is_meaning;
  group = refl;
  variable = of.variable_is;
  second = refl;
  is_clause = refl;
  is_x = tt;
  is_y = of.is_meaning;
  apart = λ same. cc;
}

-- the demand that a class of a cluster or of a new name leads
abbrev today_demand : Meaning → Demand
today_demand (At c k) = StaysNow c k
today_demand (Fresh x k) = AbsentNow x k
today_demand m = Required []

today-pair : (s : SpaceView) (v : ℕ) (m : Meaning) → IsChange m → IsMeaningOf s v m → IsPairAt s 6 v 0 (today_demand m) Now m false false
today-pair s v (At c k) change of = stays-pair s v c k of
today-pair s v (Fresh x k) change of = absent-pair s v x k of
today-pair s v Now change of = absurd change
today-pair s v (Present r) change of = absurd change
today-pair s v (New r k) change of = absurd change
today-pair s v (Kept r k j) change of = absurd change

pub today-steps : (s : SpaceView) (limits set : ClauseList) (v now : ℕ) (m : Meaning) (first second : Literal) → IsChange m → IsMeaningOf s v m
    → first ≡ literal now false → now ≡ variable_of s Now → second ≡ literal v false
    → IsFront s 6 v 0 limits set → Steps s limits 6 v 0 set (first ∷ second ∷ [])
today-steps s limits set v now m first second change of is_first is_now is_second =
    pair-steps s limits 6 v 0 set (today_demand m) Now m false false first second of.space (today-pair s v m change of)
    (written first now (variable_of s Now) false is_first is_now) (written second v (variable_of s m) false is_second (sym of.variable_is))

pub today-of : (s : SpaceView) (d : Demand) (n : ℕ) → IsDemand s d → group_of d ≡ 6 → second_of s d ≡ n ∷ [] → n < 1
today-of s (StaysNow c k) n is group second = omega (arith, first-number 0 n second)
today-of s (AbsentNow x k) n is group second = omega (arith, first-number 0 n second)
today-of s d n is group second = absurd (omega (arith, group))

pub today-end : (s : SpaceView) (limits set : ClauseList) (v : ℕ) (m : Meaning) → IsMeaningOf s v m → IsFront s 6 v 1 limits set
    → IsFront s 6 (v + 1) 0 limits set
today-end s limits set v m of front = front-variable s of.space limits 6 v 1 set (λ d is group variable n second. today-of s d n is group second) (omega arith)
    front

pub no-today : (s : SpaceView) (m : Meaning) → ¬ IsChange m → (d : Demand) → IsDemand s d → group_of d ≡ 6 → leading d ≡ m → ⊥
no-today s m none (StaysNow c k) is group lead = none (subst IsChange lead tt)
no-today s m none (AbsentNow x k) is group lead = none (subst IsChange lead tt)
no-today s m none d is group lead = omega (arith, group)
