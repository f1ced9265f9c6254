-- What a conflict teaches at the first implication point, and where the search goes back to.
use Rattle.std.proofs.Common.{◌≡◌, ◌≢◌, ℕ, false, ◌<◌, ◌≤◌, inl, inr, List, [], ◌∷◌, length, get_or, take, refl, ap, sym, subst, ◌∙◌, arith, length-take}
use Rattle.std.specs.List.{All, AllPairs, Contains, slice_index}
use Rattle.std.proofs.lemmas.Bool.{cases_lt}
use Rattle.std.proofs.lemmas.List.{get_or-take, get_or_default}
use Rattle.std.proofs.lemmas.List.Elements.{All-contains, All-nil, All-cons}
use Rattle.dist_clause.specs.Formula.{Literal, literal, negation, IsClauseOver}
use Rattle.dist_clause.specs.ClauseList.{clause_at}
use Rattle.dist_derive.specs.Propagation.{IsFalse, AllFalse, IsConsistent}
use Rattle.dist_derive.specs.Watches.{WatchLists, AreWatchesOf}
use Rattle.dist_search.specs.Trail.{literal_at, IsOrdered}
use Rattle.dist_search.specs.Guard.{AreGuarded}
use Rattle.dist_search.specs.Search.{SearchState, Gives}
use Rattle.dist_search.specs.StepsPrivate.{IsPointAtLast, IsLevel, gone_back}
use Rattle.dist_search.proofs.PrefixLemmas.{of_front, of_longer, take_of_take}
use Rattle.dist_search.proofs.GuardedLaws.{TrueLiteralSettles, TwoLiteralsSettle, guarded_settles}

-- a false literal of a trail within the cone is within it
pub false_in_cone : (trues : List Literal) (cone : List ℕ) (clause : List Literal) → All (λ l. Contains cone l.variable) trues → AllFalse trues clause
    → All (λ l. Contains cone l.variable) clause
false_in_cone trues cone clause within is_false k d inside =
    All-contains (λ (l : Literal). Contains cone l.variable) trues (negation (get_or clause k d)) within (is_false k d inside)

-- a clause that is guarded by what stood before is not all false there
pub behind_start : TrueLiteralSettles → TwoLiteralsSettle → (n : ℕ) (watches : WatchLists) (clauses : List (List Literal)) (cone : List ℕ)
    (trues : List Literal) (number : ℕ) → AreWatchesOf watches clauses → IsConsistent trues → IsClauseOver n (clause_at clauses number) → 1 ≤ number
    → number ≤ length clauses → All (λ l. Contains cone l.variable) (clause_at clauses number) → AreGuarded watches clauses cone trues trues
    → ¬ AllFalse trues (clause_at clauses number)
behind_start by_true by_two n watches clauses cone trues number are consistent over from to within guarded =
    (guarded_settles by_true by_two n watches clauses trues number are consistent over from (guarded number from to within)).0

-- a literal stands at one place
pub one_place : (n : ℕ) (literals : List Literal) (i j : ℕ) → IsClauseOver n literals → i < length literals → j < length literals
    → (literal_at literals i).variable ≡ (literal_at literals j).variable → i ≡ j
one_place n literals i j over i_in j_in e = elim (cases_lt i j) [
  | inl below ↦ absurd (over.distinct i j (literal 0 false) below j_in e)
  | inr past ↦ elim (cases_lt j i) [
    | inl below ↦ absurd (over.distinct j i (literal 0 false) below i_in (sym e))
    | inr same ↦ omega (arith, past, same)
  ]
]

-- the place of a literal by its variable
pub place_of : (n : ℕ) (literals : List Literal) (l : Literal) (place : ℕ) → IsClauseOver n literals → Contains literals l → place < length literals
    → (literal_at literals place).variable ≡ l.variable → literal_at literals place ≡ l
place_of n literals l place over here within e =
    let at : literal_at literals here.0 ≡ l = get_or_default literals here.0 (literal 0 false) l here.1 ∙ here.2 in
    ap (λ k. literal_at literals k) (one_place n literals place here.0 over within here.1 (e ∙ sym (ap (λ (x : Literal). x.variable) at))) ∙ at

-- it is among the first ones exactly where its place is
pub in_front : (literals : List Literal) (l : Literal) (place s : ℕ) → place < length literals → literal_at literals place ≡ l → place < s
    → Contains (take s literals) l
in_front literals l place s within at below = (
  place,
  omega (arith, within, below, length-take s literals),
  get_or-take s literals place l below ∙ (get_or_default literals place l (literal 0 false) within ∙ at),
)

pub not_in_front : (n : ℕ) (literals : List Literal) (l : Literal) (place s : ℕ) → IsClauseOver n literals → place < length literals
    → literal_at literals place ≡ l → s ≤ place → ¬ Contains (take s literals) l
not_in_front n literals l place s over within at past here =
    let below : here.0 < s = omega (arith, here.1, length-take s literals) in
    let inside : here.0 < length literals = omega (arith, here.1, length-take s literals) in
    let same : literal_at literals here.0 ≡ l = get_or_default literals here.0 (literal 0 false) l inside
    ∙ (sym (get_or-take s literals here.0 l below) ∙ here.2) in
    let equal = one_place n literals here.0 place over inside within (ap (λ (x : Literal). x.variable) (same ∙ sym at)) in
    omega (arith, equal, below, past)

none_taken : (xs : List ℕ) → take 0 xs ≡ []
none_taken xs = refl

-- where the search has gone back, what was taught gives its first literal
module _ (cone : List ℕ) (search : SearchState) (level : ℕ) (ordered : IsOrdered search.trail) (consistent : IsConsistent search.trail.literals)
    (p : IsPointAtLast search.trail search.learned.clause) (h : IsLevel search.trail search.learned.clause level) where
  abbrev first : Literal
  first = p.point.first

  abbrev rest : List Literal
  rest = p.point.rest

  abbrev literals : List Literal
  literals = search.trail.literals

  abbrev start : ℕ
  start = slice_index search.trail.starts level

  abbrev last : ℕ
  last = slice_index search.trail.starts p.level

  few : start ≤ last
  few = elim (cases_lt level p.level) [
    | inl below ↦ omega (arith, ordered.rising level p.level 0 below (omega (arith, p.last)))
    | inr past ↦
        let equal : level ≡ p.level = omega (arith, past, h.within, p.last) in
        omega (arith, ap (λ k. slice_index search.trail.starts k) equal)
  ]

  first_false : IsFalse literals first
  first_false = All-contains (IsFalse literals) search.learned.clause first p.is_false (subst (λ c. Contains c first) (sym p.point.is) (0, omega arith, refl))

  of_taken : (s : ℕ) (l : Literal) → Contains (take s (take start literals)) l → Contains (take s literals) l
  of_taken s l here = elim (cases_lt start s) [
    | inl above ↦ of_longer start s literals l (omega (arith, above)) (of_front s (take start literals) l here)
    | inr past ↦ subst (λ ts. Contains ts l) (take_of_take s start literals (omega (arith, past))) here
  ]

  denied : (ls : List Literal) → rest ≡ ls → AllFalse (take start literals) ls
  denied [] e = All-nil (IsFalse (take start literals))
  denied (second ∷ more) e =
      let found = (h.second first second more (p.point.is ∙ ap (λ ls. first ∷ ls) e)).0 in
      All-cons (IsFalse (take start literals)) second more found (p.point.latest second more e start found)

  pub gives : All (λ l. Contains cone l.variable) search.learned.clause → AllPairs (λ l m. l.variable ≢ m.variable) search.learned.clause
      → Gives cone (gone_back search level)
  gives within_cone distinct = record {
    first = first;
    rest = rest;
    is = p.point.is;
    unset = (
      λ here. consistent first (of_front start literals first here) first_false,
      λ here. p.point.late (of_longer start last literals (negation first) few here),
    );
    denied = denied rest refl;
    latest = λ second more e k d inside here.
        (h.second first second more (p.point.is ∙ ap (λ ls. first ∷ ls) e)).1 k d inside
        (of_taken (get_or (take level search.trail.starts) k d) (negation second) here);
    alone = λ e. ap (λ n. take n search.trail.starts) (h.alone first (p.point.is ∙ ap (λ ls. first ∷ ls) e)) ∙ none_taken search.trail.starts;
    within_cone = within_cone;
    distinct = distinct;
  }
