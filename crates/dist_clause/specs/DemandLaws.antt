-- Laws of clauses made from demands: there is one list of them, fronts of it, and the limit that they pass first. No
-- public clause cites them; proofs of the crates above do.
use Rattle.std.proofs.Common.{◌≡◌, ◌⊎◌, ◌<◌, ◌≤◌, ◌+◌, ℕ, List, [], ◌∷◌, ◌++◌, length, length-append, get_or, refl}
use Rattle.std.proofs.Common.{sym, ap, subst, ◌∙◌, arith, inl, inr}
use Rattle.std.specs.Prelude.{Any, IfErr, IfOk, OnOk, Result, Ok, Err}
use Rattle.std.proofs.lemmas.List.{get_or_default, map-append}
use Rattle.std.proofs.lemmas.List.Elements.{All-nil, All-push}
use Rattle.std.proofs.lemmas.List.Quantifiers.{all_pairs_push, Any-push}
use Rattle.std.proofs.lemmas.List.Sums.{sum_by-append, sum_by-cons}
use Rattle.std.proofs.lemmas.Result.{IfErr-weaker, on_ok_weaker}
use Rattle.dist_base.specs.Answers.{IsExactly}
use Rattle.dist_base.specs.ListLaws.{any-cases, any-head, any-later}
use Rattle.dist_base.specs.RowLaws.{Continues, HasOneImage, IsAsymmetric, rows-front, rows-same}
use Rattle.dist_clause.specs.ClauseList.{ClauseList, IsWithinLimits, literal_count}
use Rattle.dist_clause.specs.Demands.{Demands, AreClausesFor, AreClausesBefore, IsCause, IsCauseAt, IsRefused}
use Rattle.dist_clause.specs.Demands.{IsSetLike}
use Rattle.dist_clause.specs.Demands.{IsSetOf, IsStopped, PassesClauseLimit, PassesLiteralLimit}
use Rattle.dist_clause.specs.Formula.{Literal}
use Rattle.dist_clause.specs.declared.clause_set.PushError.{PushError}
use Rattle.dist_clause.specs.declared.clause_set.PushError.TheVariants.{TooManyClauses, TooManyLiterals, NoMemory}

-- the order of demands is one, and each has one clause
pub record IsOrderly {D : Type 0} (demands : Demands D) : Type 0 where
  pub asymmetric : IsAsymmetric demands.IsBefore
  pub transitive : (x e d : D) → demands.IsBefore x e → demands.IsBefore e d → demands.IsBefore x d
  pub one_clause : (d : D) (clause other : List Literal) → demands.IsClauseFor d clause → demands.IsClauseFor d other
      → clause ≡ other

-- the first of two is before the other, or the other way round, or they are one
pub data Compared {D : Type 0} (demands : Demands D) (d e : D) : Type 0 where
  is_before : demands.IsBefore d e → Compared demands d e
  is_same : d ≡ e → Compared demands d e
  is_behind : demands.IsBefore e d → Compared demands d e

-- ---- the same clauses, none, and one more

-- the same clauses, of demands with a property that comes to the same
pub clauses-shift : {D : Type 0} (demands : Demands D) (P Q : D → Type 0) (clauses : List (List Literal))
    → ((d : D) → P d → Q d) → ((d : D) → Q d → P d) → AreClausesFor demands P clauses → AreClausesFor demands Q clauses
clauses-shift demands P Q clauses to from of = record {
  rows = of.rows;
  rising = of.rising;
  exact = λ d. ((λ has. to d ((of.exact d).0 has)), λ q. (of.exact d).1 (from d q));
  each = of.each;
  are = of.are;
}

pub clauses-none : {D : Type 0} (demands : Demands D) (P : D → Type 0) → ((d : D) → ¬ P d) → AreClausesFor demands P []
clauses-none demands P none = record {
  rows = [];
  rising = λ i j x before short. absurd (omega arith);
  exact = λ d. ((λ has. absurd (omega (arith, has.2))), λ p. absurd (none d p));
  each = All-nil (λ a. demands.IsClauseFor a.0 a.1);
  are = refl;
}

any-push-cases : {X : Type 0} (P : X → Type 0) (xs : List X) (y : X) → Any P (xs ++ y ∷ []) → Any P xs ⊎ P y
any-push-cases P [] y any = elim (any-cases P y [] any) [
  | inl here ↦ inr here
  | inr later ↦ inl later
]
any-push-cases P (x ∷ xs) y any = elim (any-cases P x (xs ++ y ∷ []) any) [
  | inl here ↦ inl (any-head P x xs here)
  | inr later ↦ elim (any-push-cases P xs y later) [
    | inl there ↦ inl (any-later P x xs there)
    | inr last ↦ inr last
  ]
]

any-push-left : {X : Type 0} (P : X → Type 0) (xs : List X) (y : X) → Any P xs → Any P (xs ++ y ∷ [])
any-push-left P [] y any = absurd (omega (arith, any.2))
any-push-left P (x ∷ xs) y any = elim (any-cases P x xs any) [
  | inl here ↦ any-head P x (xs ++ y ∷ []) here
  | inr later ↦ any-later P x (xs ++ y ∷ []) (any-push-left P xs y later)
]

-- one more clause behind the others, of a demand that is behind theirs
pub clauses-more : {D : Type 0} (demands : Demands D) (P Q : D → Type 0) (clauses : List (List Literal)) (d : D)
    (clause : List Literal) → AreClausesFor demands P clauses → demands.IsClauseFor d clause
    → ((e : D) → P e → demands.IsBefore e d) → ((e : D) → Q e → P e ⊎ (d ≡ e)) → ((e : D) → P e → Q e) → Q d
    → AreClausesFor demands Q (clauses ++ clause ∷ [])
clauses-more {D} demands P Q clauses d clause of is below cases wider here =
    let row : D × List Literal = (d, clause) in
    record {
      rows = of.rows ++ row ∷ [];
      rising = all_pairs_push (λ (a b : D × List Literal). demands.IsBefore a.0 b.0) of.rows row of.rising
          (λ k e short. below (get_or of.rows k e).0
          ((of.exact (get_or of.rows k e).0).0 (has-itself of.rows k e short)));
      exact = λ e. (
        (λ has. elim (any-push-cases (λ (a : D × List Literal). a.0 ≡ e) of.rows row has) [
          | inl there ↦ wider e ((of.exact e).0 there)
          | inr same ↦ subst Q same here
        ]),
        λ q. elim (cases e q) [
          | inl p ↦ any-push-left (λ (a : D × List Literal). a.0 ≡ e) of.rows row ((of.exact e).1 p)
          | inr same ↦ Any-push (λ (a : D × List Literal). a.0 ≡ e) of.rows row same
        ],
      );
      each = All-push (λ (a : D × List Literal). demands.IsClauseFor a.0 a.1) of.rows row of.each is;
      are = ap (λ (xs : List (List Literal)). xs ++ clause ∷ []) of.are
          ∙ sym (map-append (λ (a : D × List Literal). a.1) of.rows (row ∷ []));
    }
  where
    has-itself : (rows : List (D × List Literal)) (k : ℕ) (e : D × List Literal) → k < length rows
        → Any (λ a. a.0 ≡ (get_or rows k e).0) rows
    has-itself rows k e short = (k, get_or rows k e, short, get_or_default rows k (get_or rows k e) e short, refl)

-- ---- sets of clauses

pub set-shift : {D : Type 0} (demands : Demands D) (P Q : D → Type 0) (c l : ℕ) (set : ClauseList)
    → ((d : D) → P d → Q d) → ((d : D) → Q d → P d) → IsSetOf demands P c l set → IsSetOf demands Q c l set
set-shift demands P Q c l set to from of = record {
  clauses = clauses-shift demands P Q set.clauses to from of.clauses;
  variables = of.variables;
  clause_limit_is = of.clause_limit_is;
  literal_limit_is = of.literal_limit_is;
}

pub set-more : {D : Type 0} (demands : Demands D) (P Q : D → Type 0) (c l : ℕ) (set : ClauseList) (d : D)
    (clause : List Literal) → IsSetOf demands P c l set → demands.IsClauseFor d clause
    → ((e : D) → P e → demands.IsBefore e d) → ((e : D) → Q e → P e ⊎ (d ≡ e)) → ((e : D) → P e → Q e) → Q d
    → IsSetOf demands Q c l (record set { clauses = set.clauses ++ clause ∷ [] })
set-more demands P Q c l set d clause of is below cases wider here = record {
  clauses = clauses-more demands P Q set.clauses d clause of.clauses is below cases wider here;
  variables = of.variables;
  clause_limit_is = of.clause_limit_is;
  literal_limit_is = of.literal_limit_is;
}

-- by its own limits
pub set-own : {D : Type 0} (demands : Demands D) (P : D → Type 0) (c l : ℕ) (set : ClauseList)
    → IsSetOf demands P c l set → IsSetLike demands P set set
set-own demands P c l set of = record {
  clauses = of.clauses;
  variables = of.variables;
  clause_limit_is = refl;
  literal_limit_is = refl;
}

-- one set behind another
pub set-chain : {D : Type 0} (demands : Demands D) (P Q : D → Type 0) (c l : ℕ) (set new : ClauseList)
    → IsSetOf demands P c l set → IsSetLike demands Q set new → IsSetOf demands Q c l new
set-chain demands P Q c l set new of then = record {
  clauses = then.clauses;
  variables = then.variables;
  clause_limit_is = then.clause_limit_is ∙ of.clause_limit_is;
  literal_limit_is = then.literal_limit_is ∙ of.literal_limit_is;
}

pub cause-chain : {D : Type 0} (demands : Demands D) (P Q : D → Type 0) (c l : ℕ) (set : ClauseList) (error : PushError)
    → IsSetOf demands P c l set → IsCauseAt demands Q set error → IsCause demands Q c l error
cause-chain demands P Q c l set error of cause =
    let First : ℕ → Type 0 = λ n. IsCause demands Q n set.literal_limit error in
    let Second : ℕ → Type 0 = λ n. IsCause demands Q c n error in
    subst Second of.literal_limit_is (subst First of.clause_limit_is cause)

-- ---- what a call does that adds a clause

-- a set stops at a clause
pub stops : {D : Type 0} (demands : Demands D) (P : D → Type 0) (set limits : ClauseList) (d : D)
    (clause : List Literal) (error : PushError) → IsSetLike demands (λ e. P e × demands.IsBefore e d) limits set
    → P d → demands.IsClauseFor d clause → IsRefused set clause error → IsCauseAt demands P limits error
stops demands P set limits d clause TooManyClauses of demand is refused =
    let c = of.clause_limit_is in let l = of.literal_limit_is in
    record {
      demand = d;
      is_demand = demand;
      clause = clause;
      is_clause = is;
      front = set.clauses;
      before = of.clauses;
      clauses_kept = omega (arith, refused.1, c);
      literals_kept = omega (arith, refused.0, l);
      passes = refused.1 ∙ c;
    }
stops demands P set limits d clause TooManyLiterals of demand is refused =
    let c = of.clause_limit_is in let l = of.literal_limit_is in
    record {
      demand = d;
      is_demand = demand;
      clause = clause;
      is_clause = is;
      front = set.clauses;
      before = of.clauses;
      clauses_kept = omega (arith, refused.1, c);
      literals_kept = omega (arith, refused.0, l);
      passes = (omega (arith, refused.1, c), omega (arith, refused.2, l));
    }
stops demands P set limits d clause NoMemory of demand is refused = tt

pub pushed-ok : (result : Result (Unit {0}) PushError) (set new : ClauseList) (clause : List Literal)
    (After : ClauseList → Type 0) → OnOk result (new ≡ record set { clauses = set.clauses ++ clause ∷ [] })
    → After (record set { clauses = set.clauses ++ clause ∷ [] }) → OnOk result (After new)
pushed-ok result set new clause After ok holds = on_ok_weaker result (λ is. subst After (sym is) holds) ok

pub pushed-err : {D : Type 0} (demands : Demands D) (P : D → Type 0) (result : Result (Unit {0}) PushError)
    (set limits : ClauseList) (d : D) (clause : List Literal)
    → IsSetLike demands (λ e. P e × demands.IsBefore e d) limits set → P d → demands.IsClauseFor d clause
    → IfErr result (IsRefused set clause) → IfErr result (IsCauseAt demands P limits)
pushed-err demands P result set limits d clause of demand is err =
    IfErr-weaker result (IsRefused set clause) (IsCauseAt demands P limits)
    (λ error refused. stops demands P set limits d clause error of demand is refused) err

-- ---- there is one list

one-image : {D : Type 0} (demands : Demands D) → IsOrderly demands
    → HasOneImage (λ (a : D × List Literal). a.0) (λ a. demands.IsClauseFor a.0 a.1) (λ a. a.1)
one-image {D} demands orderly x y same first second =
    let Of : D → Type 0 = λ d. demands.IsClauseFor d x.1 in orderly.one_clause y.0 x.1 y.1 (subst Of same first) second

pub one-list : {D : Type 0} (demands : Demands D) → IsOrderly demands → (P : D → Type 0)
    (clauses other : List (List Literal)) → AreClausesFor demands P clauses → AreClausesFor demands P other
    → other ≡ clauses
one-list {D} demands orderly P clauses other are also =
    also.are ∙ rows-same (λ (a : D × List Literal). a.0) demands.IsBefore (λ a. demands.IsClauseFor a.0 a.1) (λ a. a.1)
    orderly.asymmetric (one-image demands orderly) are.rows also.rows are.rising also.rising are.each also.each
    (λ d has. (also.exact d).1 ((are.exact d).0 has)) (λ d has. (are.exact d).1 ((also.exact d).0 has))
    ∙ sym are.are

-- the clauses go on behind those of the demands before one, with the clause of that one
pub goes-on : {D : Type 0} (demands : Demands D) → IsOrderly demands → (P : D → Type 0) (d : D)
    (whole front : List (List Literal)) (clause : List Literal) → AreClausesFor demands P whole
    → AreClausesBefore demands P d front → P d → demands.IsClauseFor d clause → Continues whole front clause
goes-on {D} demands orderly P d whole front clause are those here is_clause =
    let on = rows-front (λ (a : D × List Literal). a.0) demands.IsBefore (λ a. demands.IsClauseFor a.0 a.1) (λ a. a.1)
    orderly.asymmetric (one-image demands orderly) (d, clause) is_clause
    are.rows those.rows are.rising those.rising are.each those.each
    ((are.exact d).1 here) (λ e has below. (those.exact e).1 ((are.exact e).0 has, below))
    (λ e has. (are.exact e).1 ((those.exact e).0 has).0) (λ e has. ((those.exact e).0 has).1) in
    record {
      rest = on.rest;
      is = are.are ∙ on.is ∙ ap (λ (xs : List (List Literal)). xs ++ clause ∷ on.rest) (sym those.are);
    }

-- a list that goes on is longer
longer : (whole front : List (List Literal)) (clause : List Literal) → Continues whole front clause
    → length front < length whole
longer whole front clause on =
    let e = ap length on.is in let f = length-append front (clause ∷ on.rest) in omega (arith, e, f)

fuller : (whole front : List (List Literal)) (clause : List Literal) → Continues whole front clause
    → literal_count front + length clause ≤ literal_count whole
fuller whole front clause on =
    let e = ap literal_count on.is in
    let f : literal_count (front ++ clause ∷ on.rest) ≡ literal_count front + literal_count (clause ∷ on.rest) =
    sum_by-append (λ c. length c) front (clause ∷ on.rest) in
    let g : literal_count (clause ∷ on.rest) ≡ length clause + literal_count on.rest =
    sum_by-cons (λ c. length c) clause on.rest in
    omega (arith, e, f, g)

-- the clauses before a later demand go on behind those before an earlier one
front-goes-on : {D : Type 0} (demands : Demands D) → IsOrderly demands → (P : D → Type 0) (d e : D)
    (whole front : List (List Literal)) (clause : List Literal) → demands.IsBefore d e
    → AreClausesBefore demands P e whole → AreClausesBefore demands P d front → P d → demands.IsClauseFor d clause
    → Continues whole front clause
front-goes-on {D} demands orderly P d e whole front clause less are those demand is =
    let Below : D → D → Type 0 = λ y x. P x × demands.IsBefore x y in
    goes-on demands orderly (Below e) d whole front clause are
    (clauses-shift demands (Below d) (λ x. Below e x × demands.IsBefore x d) front
    (λ x h. ((h.0, orderly.transitive x d e h.1 less), h.1)) (λ x h. (h.0.0, h.1)) those)
    (demand, less) is

-- ---- only one limit is passed first

never-both : {D : Type 0} (demands : Demands D) → IsOrderly demands → (P : D → Type 0)
    → ((d e : D) → P d → P e → Compared demands d e) → (c l : ℕ) → PassesClauseLimit demands P c l
    → PassesLiteralLimit demands P c l → ⊥
never-both {D} demands orderly P compared c l first second =
    by (compared first.demand second.demand first.is_demand second.is_demand)
  where
    by : Compared demands first.demand second.demand → ⊥
    by (is_before less) =
        let on = front-goes-on demands orderly P first.demand second.demand second.front first.front first.clause less
        second.before first.before first.is_demand first.is_clause in
        let h = longer second.front first.front first.clause on in omega (arith, h, first.passes, second.passes.0)
    by (is_same is) =
        let Of : D → Type 0 = λ d. AreClausesBefore demands P d first.front in
        let one = one-list demands orderly (λ x. P x × demands.IsBefore x second.demand) first.front second.front
        (subst Of is first.before) second.before in
        let h = ap length one in omega (arith, h, first.passes, second.passes.0)
    by (is_behind less) =
        let on = front-goes-on demands orderly P second.demand first.demand first.front second.front second.clause less
        first.before second.before second.is_demand second.is_clause in
        let h = fuller first.front second.front second.clause on in
        omega (arith, h, first.literals_kept, second.passes.1)

-- a whole list that keeps both limits passes none
stop-goes-on : {D : Type 0} (demands : Demands D) → IsOrderly demands → (P : D → Type 0) (c l : ℕ)
    (Passes : List (List Literal) → List Literal → Type 0) (set : ClauseList) → IsSetOf demands P c l set
    → (stop : IsStopped demands P c l Passes) → Continues set.clauses stop.front stop.clause
stop-goes-on demands orderly P c l Passes set of stop = goes-on demands orderly P stop.demand set.clauses stop.front
    stop.clause of.clauses stop.before stop.is_demand stop.is_clause

none-clauses : {D : Type 0} (demands : Demands D) → IsOrderly demands → (P : D → Type 0) (c l : ℕ) (set : ClauseList)
    → IsSetOf demands P c l set → IsWithinLimits set → ¬ PassesClauseLimit demands P c l
none-clauses demands orderly P c l set of within stop =
    let h = longer set.clauses stop.front stop.clause (stop-goes-on demands orderly P c l _ set of stop) in
    omega (arith, h, stop.passes, within.clauses_within, of.clause_limit_is)

none-literals : {D : Type 0} (demands : Demands D) → IsOrderly demands → (P : D → Type 0) (c l : ℕ) (set : ClauseList)
    → IsSetOf demands P c l set → IsWithinLimits set → ¬ PassesLiteralLimit demands P c l
none-literals demands orderly P c l set of within stop =
    let h = fuller set.clauses stop.front stop.clause (stop-goes-on demands orderly P c l _ set of stop) in
    omega (arith, h, stop.passes.1, within.literals_within, of.literal_limit_is)

-- Each refusal comes exactly where its cause is there, for demands of which one is before the other.
module _ {D X : Type 0} (demands : Demands D) (orderly : IsOrderly demands) (P : D → Type 0)
    (compared : (d e : D) → P d → P e → Compared demands d e) (c l : ℕ) (view : X → ClauseList) where
  pub exactly-clauses : (result : Result X PushError) → IfOk result (λ x. IsSetOf demands P c l (view x))
      → IfOk result (λ x. IsWithinLimits (view x)) → IfErr result (IsCause demands P c l)
      → IsExactly NoMemory result TooManyClauses (PassesClauseLimit demands P c l)
  exactly-clauses (Ok x) ok within err = λ memory.
      ((λ is. cc), λ passes. absurd (none-clauses demands orderly P c l (view x) ok within passes))
  exactly-clauses (Err TooManyClauses) ok within err = λ memory. ((λ is. err), λ passes. refl)
  exactly-clauses (Err TooManyLiterals) ok within err = λ memory.
      ((λ is. cc), λ passes. absurd (never-both demands orderly P compared c l passes err))
  exactly-clauses (Err NoMemory) ok within err = λ memory. absurd (memory refl)

  pub exactly-literals : (result : Result X PushError) → IfOk result (λ x. IsSetOf demands P c l (view x))
      → IfOk result (λ x. IsWithinLimits (view x)) → IfErr result (IsCause demands P c l)
      → IsExactly NoMemory result TooManyLiterals (PassesLiteralLimit demands P c l)
  exactly-literals (Ok x) ok within err = λ memory.
      ((λ is. cc), λ passes. absurd (none-literals demands orderly P c l (view x) ok within passes))
  exactly-literals (Err TooManyClauses) ok within err = λ memory.
      ((λ is. cc), λ passes. absurd (never-both demands orderly P compared c l err passes))
  exactly-literals (Err TooManyLiterals) ok within err = λ memory. ((λ is. err), λ passes. refl)
  exactly-literals (Err NoMemory) ok within err = λ memory. absurd (memory refl)
