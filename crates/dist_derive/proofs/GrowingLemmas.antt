-- A set of variables that grows under the clauses.
use Rattle.std.proofs.Common.{◌≡◌, ℕ, zero, suc, ◌↔◌, ⊎_elim, eqb, ◌<◌, ◌≤◌, Bool, true, false, ◌||◌, List, [], ◌∷◌, ◌++◌, length, get_or, take, refl}
use Rattle.std.proofs.Common.{ap, sym, subst, ◌∙◌, arith}
use Rattle.std.specs.List.{All, Contains}
use Rattle.std.proofs.lemmas.Bool.{false≢true, true≢false, or_cases, or_left, or_right, eq-eqb, eqb-true}
use Rattle.std.proofs.lemmas.List.{length_push, take-append-le}
use Rattle.std.proofs.lemmas.List.Elements.{All-nil, All-head, All-push, All-weaker, All-contains, All-contains_itself, Contains-append_left}
use Rattle.std.proofs.lemmas.List.Elements.{Contains-push}
use Rattle.dist_clause.specs.Formula.{Literal}
use Rattle.dist_derive.proofs.ValuedLemmas.{All-front, All-last}
use Rattle.dist_derive.specs.VariableSet.{VariableList}
use Rattle.dist_derive.specs.Marking.{HasAll, Includes, Grows, IsClosedAt}
use Rattle.dist_derive.specs.Cone.{IsClosedUnder, InCone}
use Rattle.dist_derive.specs.ContainmentPrivate.{ContainsAll}
use Rattle.dist_derive.specs.ConePrivate.{Reaches}

pub Grows-none : (s : VariableList) → Grows s s false
Grows-none s = record {
  same_variables = refl;
  kept = All-contains_itself s.members;
  front = λ count within. refl;
  still = λ _. refl;
  more = λ e. absurd (false≢true e);
}

pub Grows-longer : (a b : VariableList) (grown : Bool) → Grows a b grown → length a.members ≤ length b.members
Grows-longer a b false h = let same = ap (λ (s : VariableList). length s.members) (h.still refl) in omega arith
Grows-longer a b true h = let more = (h.more refl).0 in omega arith

-- grown in one of two steps
pub Grows-then : (a b c : VariableList) (g h : Bool) → Grows a b g → Grows b c h → Grows a c (g || h)
Grows-then a b c g h first second = record {
  same_variables = second.same_variables ∙ first.same_variables;
  kept = All-weaker (Contains b.members) (Contains c.members) (λ v e. All-contains (Contains c.members) b.members v second.kept e) a.members first.kept;
  front = λ count within. second.front count (omega (arith, Grows-longer a b g first)) ∙ first.front count within;
  still = λ e. still-then g h first second e;
  more = λ e. more-then g h first second e;
}
  where
    still-then : {a b c : VariableList} (g h : Bool) → Grows a b g → Grows b c h → (g || h) ≡ false → c ≡ a
    still-then true h first second e = absurd (true≢false e)
    still-then false h first second e = second.still e ∙ first.still refl

    more-then : {a b c : VariableList} (g h : Bool) → Grows a b g → Grows b c h → (g || h) ≡ true → (length a.members < length c.members)
        × (length c.members ≤ c.variables)
    more-then false h first second e =
        let same = ap (λ (s : VariableList). length s.members) (first.still refl) in
        let grown = second.more e in
        (omega (arith, grown.0), grown.1)
    more-then true true first second e =
        let one = first.more refl in
        let two = second.more refl in
        (omega (arith, one.0, two.0), two.1)
    more-then true false first second e =
        let one = first.more refl in
        let same = second.still refl in
        let members = ap (λ (s : VariableList). length s.members) same in
        let variables = ap (λ (s : VariableList). s.variables) same in
        (omega (arith, one.0), omega (arith, one.1))

pub Grows-included : (a b : VariableList) (v : ℕ) (grown : Bool) → Includes a b v grown → Grows a b grown
Grows-included a b v false h = subst (λ s. Grows a s false) (sym h.0) (Grows-none a)
Grows-included a b v true h =
    let members : b.members ≡ a.members ++ v ∷ [] = ap (λ (s : VariableList). s.members) h.0 in
    record {
      same_variables = ap (λ (s : VariableList). s.variables) h.0;
      kept = subst (λ ms. ContainsAll ms a.members) (sym members)
          (All-weaker (Contains a.members) (Contains (a.members ++ v ∷ [])) (λ w e. Contains-append_left a.members (v ∷ []) w e) a.members
          (All-contains_itself a.members));
      front = λ count within. ap (λ ms. take count ms) members ∙ take-append-le count a.members (v ∷ []) within;
      still = λ e. absurd (true≢false e);
      more = λ _. (omega (arith, ap length members, length_push a.members v), h.1);
    }

pub Contains-included : (a b : VariableList) (v : ℕ) (grown : Bool) → Includes a b v grown → Contains b.members v
Contains-included a b v false h = subst (λ (s : VariableList). Contains s.members v) (sym h.0) h.1
Contains-included a b v true h = subst (λ ms. Contains ms v) (sym (ap (λ (s : VariableList). s.members) h.0)) (Contains-push a.members v)

pub HasAll-included : (has : ℕ → Bool) (a b : VariableList) (v : ℕ) (grown : Bool) → Includes a b v grown → HasAll has a.members → has v ≡ true
    → HasAll has b.members
HasAll-included has a b v false h all this = subst (λ (s : VariableList). HasAll has s.members) (sym h.0) all
HasAll-included has a b v true h all this = subst (λ ms. HasAll has ms) (sym (ap (λ (s : VariableList). s.members) h.0))
    (All-push (λ w. has w ≡ true) a.members v all this)

-- the variables of a clause's first literals have been put in
pub record IncludesSoFar (start now : VariableList) (grown : Bool) (clause : List Literal) : Type 0 where
  pub grows : Grows start now grown
  pub included : All (λ l. Contains now.members l.variable) clause
  pub least : (has : ℕ → Bool) → HasAll has start.members → All (λ l. has l.variable ≡ true) clause → HasAll has now.members

pub includes_none : (s : VariableList) → IncludesSoFar s s false []
includes_none s = record { grows = Grows-none s; included = All-nil (λ l. Contains s.members l.variable); least = λ has all _. all }

pub includes_more : (start now next : VariableList) (grown more : Bool) (clause : List Literal) (l : Literal) → IncludesSoFar start now grown clause
    → Includes now next l.variable more → IncludesSoFar start next (grown || more) (clause ++ l ∷ [])
includes_more start now next grown more clause l h step =
    let growth = Grows-included now next l.variable more step in
    record {
      grows = Grows-then start now next grown more h.grows growth;
      included = All-push (λ m. Contains next.members m.variable) clause l
          (All-weaker (λ m. Contains now.members m.variable) (λ m. Contains next.members m.variable)
          (λ m e. All-contains (Contains next.members) now.members m.variable growth.kept e) clause h.included)
          (Contains-included now next l.variable more step);
      least = λ has all in_clause. HasAll-included has now next l.variable more step
          (h.least has all (All-front (λ m. has m.variable ≡ true) clause (l ∷ []) in_clause)) (All-last (λ m. has m.variable ≡ true) clause l in_clause);
    }

-- a closed set that contains the members has the variables of a clause of which the members have those of the negative literals
pub closed_has : (has : ℕ → Bool) (members : List ℕ) (clause : List Literal) → HasAll has members → IsClosedUnder has (clause ∷ [])
    → All (λ l. l.positive ≡ false → Contains members l.variable) clause → All (λ l. has l.variable ≡ true) clause
closed_has has members clause all closed negatives =
    All-head (λ c. All (λ l. l.positive ≡ false → has l.variable ≡ true) c → All (λ l. has l.variable ≡ true) c) clause [] closed
    (All-weaker (λ l. l.positive ≡ false → Contains members l.variable) (λ l. l.positive ≡ false → has l.variable ≡ true)
    (λ l h e. All-contains (λ v. has v ≡ true) members l.variable all (h e)) clause negatives)

-- what is in before and after each walk
pub record ReachesSoFar (clauses : List (List Literal)) (assumptions : List Literal) (now : VariableList) : Type 0 where
  pub assumed : All (λ l. Contains now.members l.variable) assumptions
  pub least : (has : ℕ → Bool) → All (λ l. has l.variable ≡ true) assumptions → IsClosedUnder has clauses → HasAll has now.members

pub reaches_more : (clauses : List (List Literal)) (assumptions : List Literal) (now next : VariableList) → ReachesSoFar clauses assumptions now
    → Reaches clauses now next → ReachesSoFar clauses assumptions next
reaches_more clauses assumptions now next h step = record {
  assumed = All-weaker (λ l. Contains now.members l.variable) (λ l. Contains next.members l.variable)
      (λ l e. All-contains (Contains next.members) now.members l.variable step.kept e) assumptions h.assumed;
  least = λ has assumed under. step.least has (h.least has assumed under) under;
}

-- whether a variable is a member, as a test
pub is_member : List ℕ → ℕ → Bool
is_member [] v = false
is_member (m ∷ ms) v = eqb m v || is_member ms v

pub is_member-true : (members : List ℕ) (v : ℕ) → is_member members v ≡ true → Contains members v
unfolding is_member
is_member-true [] v e = absurd (false≢true e)
is_member-true (m ∷ ms) v e = ⊎_elim (λ h. (0, omega arith, eqb-true m v h)) (λ h. let r = is_member-true ms v h in (suc r.0, omega (arith, r.1), r.2))
    (or_cases (eqb m v) (is_member ms v) e)

pub is_member-at : (members : List ℕ) (v k : ℕ) → k < length members → get_or members k v ≡ v → is_member members v ≡ true
unfolding is_member
is_member-at [] v k within at = absurd (omega arith)
is_member-at (m ∷ ms) v zero within at = or_left (eqb m v) (is_member ms v) (eq-eqb m v at)
is_member-at (m ∷ ms) v (suc k) within at = or_right (eqb m v) (is_member ms v) (is_member-at ms v k (omega arith) at)

-- at the end the members are the cone
pub InCone-members : (clauses : List (List Literal)) (assumptions : List Literal) (s : VariableList) (v : ℕ) → ReachesSoFar clauses assumptions s
    → All (IsClosedAt s.members) clauses → InCone clauses assumptions v ↔ Contains s.members v
InCone-members clauses assumptions s v h closed = (
  λ cone. is_member-true s.members v (cone (is_member s.members)
      (All-weaker (λ l. Contains s.members l.variable) (λ l. is_member s.members l.variable ≡ true) (λ l e. is_member-at s.members l.variable e.0 e.1 e.2)
      assumptions h.assumed)
      (All-weaker (IsClosedAt s.members) (λ c. All (λ l. l.positive ≡ false → is_member s.members l.variable ≡ true) c
      → All (λ l. is_member s.members l.variable ≡ true) c)
      (λ c at negatives. All-weaker (λ l. Contains s.members l.variable) (λ l. is_member s.members l.variable ≡ true)
      (λ l e. is_member-at s.members l.variable e.0 e.1 e.2) c
      (at (All-weaker (λ l. l.positive ≡ false → is_member s.members l.variable ≡ true) (λ l. l.positive ≡ false → Contains s.members l.variable)
      (λ l g e. is_member-true s.members l.variable (g e)) c negatives)))
      clauses closed)),
  λ e has assumed under. All-contains (λ w. has w ≡ true) s.members v (h.least has assumed under) e,
)
