-- Clauses that are added one after another, and where they stop.
use Rattle.std.proofs.Common.{◌≡◌, ℕ, zero, suc, ◌+◌, ◌-◌, ◌<◌, ◌≤◌, true, false, List, [], ◌∷◌, ◌++◌, length, length-append, append_assoc, drop, get_or}
use Rattle.std.proofs.Common.{take, refl, sym, ap, subst, ◌∙◌, arith, inl, inr, ap₂, Result, Ok, Err}
use Rattle.std.specs.Prelude.{IfErr}
use Rattle.std.proofs.lemmas.Bool.{cases_lt}
use Rattle.std.proofs.lemmas.List.{append-nil, take-append-drop, take_at, take_more}
use Rattle.std.proofs.lemmas.List.Sums.{sum_by-append, sum_by-cons}
use Rattle.dist_clause.specs.ClauseList.{ClauseList, clause_at, literal_count}
use Rattle.dist_clause.specs.Demands.{IsRefused}
use Rattle.dist_clause.specs.Formula.{Literal, literal}
use Rattle.dist_clause.specs.declared.clause_set.PushError.{PushError}
use Rattle.dist_clause.specs.declared.clause_set.PushError.TheVariants.{TooManyClauses, TooManyLiterals, NoMemory}
use Rattle.dist_repair.specs.CountedPrivate.{HasMore, IsStoppedIn, StopsWith}
use Rattle.dist_repair.specs.Counters.{Counter, count_clauses, each_below, more, moved, no, yes}

-- ---- one clause

count-append : (xs ys : List (List Literal)) → literal_count (xs ++ ys) ≡ literal_count xs + literal_count ys
count-append xs ys = sum_by-append (λ (c : List Literal). length c) xs ys

-- a front has no more literals than a longer one
front-counts : (n : ℕ) (xs ys : List (List Literal)) → length xs ≤ n → literal_count xs ≤ literal_count (take n (xs ++ ys))
front-counts n [] ys within = omega arith
front-counts zero (x ∷ xs) ys within = absurd (omega (arith, within))
front-counts (suc n) (x ∷ xs) ys within =
    let all = sum_by-cons (λ (c : List Literal). length c) x xs in
    let more = sum_by-cons (λ (c : List Literal). length c) x (take n (xs ++ ys)) in
    let rest = front-counts n xs ys (omega (arith, within)) in
    omega (arith, all, more, rest)

pub stops-at : (set : ClauseList) (clause : List Literal) (error : PushError) → IsRefused set clause error → StopsWith set (clause ∷ []) error
stops-at set clause TooManyClauses refused rest =
    let total = length-append set.clauses (clause ∷ rest) in
    let front : take set.clause_limit (set.clauses ++ clause ∷ rest) ≡ set.clauses = take_at set.clauses (clause ∷ rest) set.clause_limit refused.1 in
    (omega (arith, total, refused.1), subst (λ (xs : List (List Literal)). literal_count xs ≤ set.literal_limit) (sym front) refused.0)
stops-at set clause TooManyLiterals refused rest =
    let whole : (set.clauses ++ clause ∷ []) ++ rest ≡ set.clauses ++ clause ∷ rest = append_assoc set.clauses (clause ∷ []) rest in
    let short = length-append set.clauses (clause ∷ []) in
    let own = count-append set.clauses (clause ∷ []) in
    let one = sum_by-cons (λ (c : List Literal). length c) clause [] in
    let front = front-counts set.clause_limit (set.clauses ++ clause ∷ []) rest (omega (arith, short, refused.1)) in
    subst (λ (xs : List (List Literal)). set.literal_limit < literal_count (take set.clause_limit xs)) whole
    (omega (arith, front, own, one, refused.2))
stops-at set clause NoMemory refused rest = tt

-- ---- one list behind another

pub more-again : (old mid new : ClauseList) (first second : List (List Literal)) → HasMore old mid first → HasMore mid new second
    → HasMore old new (first ++ second)
more-again old mid new first second a b =
    b ∙ ap (λ (s : ClauseList). record s { clauses = s.clauses ++ second }) a
    ∙ ap (λ (xs : List (List Literal)). record old { clauses = xs }) (append_assoc old.clauses first second)

pub more-none : (set : ClauseList) → HasMore set set []
more-none set = ap (λ (xs : List (List Literal)). record set { clauses = xs }) (sym (append-nil set.clauses))

pub stops-first : (set : ClauseList) (first second : List (List Literal)) (error : PushError) → StopsWith set first error
    → StopsWith set (first ++ second) error
stops-first set first second error stops rest =
    subst (λ (xs : List (List Literal)). IsStoppedIn set.clause_limit set.literal_limit (set.clauses ++ xs) error)
    (sym (append_assoc first second rest)) (stops (second ++ rest))

pub stops-later : (old mid : ClauseList) (first second : List (List Literal)) (error : PushError) → HasMore old mid first → StopsWith mid second error
    → StopsWith old (first ++ second) error
stops-later old mid first second error more stops rest =
    let here : IsStoppedIn old.clause_limit old.literal_limit ((old.clauses ++ first) ++ (second ++ rest)) error =
    subst (λ (s : ClauseList). IsStoppedIn s.clause_limit s.literal_limit (s.clauses ++ (second ++ rest)) error) more (stops rest) in
    subst (λ (xs : List (List Literal)). IsStoppedIn old.clause_limit old.literal_limit xs error)
    (append_assoc old.clauses first (second ++ rest) ∙ ap (λ (xs : List (List Literal)). old.clauses ++ xs) (sym (append_assoc first second rest))) here

-- ---- lists that are given number by number

record BelowSplit {X : Type 0} (i n : ℕ) (given : ℕ → List X) : Type 0 where
  rest : List X
  is : each_below n given ≡ (each_below i given ++ given i) ++ rest

below-split : {X : Type 0} (i n : ℕ) (given : ℕ → List X) → i < n → BelowSplit i n given
unfolding each_below
below-split i zero given short = absurd (omega (arith, short))
below-split {X} i (suc n) given short = elim (cases_lt i n) [
  | inl less ↦ let before = below-split i n given less in
      record {
        rest = before.rest ++ given n;
        is = ap (λ (xs : List X). xs ++ given n) before.is ∙ append_assoc (each_below i given ++ given i) before.rest (given n);
      }
  | inr most ↦
      let same : n ≡ i = omega (arith, short, most) in
      record {
        rest = [];
        is = ap (λ (k : ℕ). each_below k given ++ given k) same ∙ sym (append-nil (each_below i given ++ given i));
      }
]

pub more-below : (old mid new : ClauseList) (i : ℕ) (given : ℕ → List (List Literal)) → HasMore old mid (each_below i given) → HasMore mid new (given i)
    → HasMore old new (each_below (suc i) given)
unfolding each_below
more-below old mid new i given before more = more-again old mid new (each_below i given) (given i) before more

pub none-below : (set : ClauseList) (given : ℕ → List (List Literal)) → HasMore set set (each_below 0 given)
unfolding each_below
none-below set given = more-none set

pub stops-below : (old mid : ClauseList) (i n : ℕ) (given : ℕ → List (List Literal)) (error : PushError) → i < n → HasMore old mid (each_below i given)
    → StopsWith mid (given i) error → StopsWith old (each_below n given) error
stops-below old mid i n given error short before stops =
    let split = below-split i n given short in
    subst (λ (xs : List (List Literal)). StopsWith old xs error) (sym split.is)
    (stops-first old (each_below i given ++ given i) split.rest error (stops-later old mid (each_below i given) (given i) error before stops))

-- ---- what a call does that adds a clause

pub pushed-stops : (result : Result (Unit {0}) PushError) (set : ClauseList) (given clause : List Literal) → given ≡ clause
    → IfErr result (IsRefused set given) → IfErr result (StopsWith set (clause ∷ []))
pushed-stops (Ok done) set given clause same refused = tt
pushed-stops (Err error) set given clause same refused =
    subst (λ (c : List Literal). StopsWith set (c ∷ []) error) same (stops-at set given error refused)

pub two-same : (l m : Literal) (v w a b : ℕ) → l ≡ literal v false → m ≡ literal w true → v ≡ a → w ≡ b → (l ∷ m ∷ []) ≡ (no a ∷ yes b ∷ [])
two-same l m v w a b first second at also =
    ap₂ (λ (x y : Literal). x ∷ y ∷ []) (first ∙ ap (λ (x : ℕ). no x) at) (second ∙ ap (λ (x : ℕ). yes x) also)

pub three-same : (l k m : Literal) (v u w a b c : ℕ) → l ≡ literal v false → k ≡ literal u false → m ≡ literal w true → v ≡ a → u ≡ b → w ≡ c
    → (l ∷ k ∷ m ∷ []) ≡ (no a ∷ no b ∷ yes c ∷ [])
three-same l k m v u w a b c first second third at also last =
    ap₂ (λ (x : Literal) (ys : List Literal). x ∷ ys) (first ∙ ap (λ (x : ℕ). no x) at)
    (ap₂ (λ (x y : Literal). x ∷ y ∷ []) (second ∙ ap (λ (x : ℕ). no x) also) (third ∙ ap (λ (x : ℕ). yes x) last))

-- a clause of a list, behind those before it
pub stops-in-list : (old mid : ClauseList) (clauses : List (List Literal)) (k : ℕ) (error : PushError) → k < length clauses
    → HasMore old mid (take k clauses) → IsRefused mid (clause_at clauses (k + 1)) error → StopsWith old clauses error
stops-in-list old mid clauses k error short more refused =
    let clause = clause_at clauses (k + 1) in
    let same : k + 1 - 1 ≡ k = omega arith in
    let next : take (k + 1) clauses ≡ take k clauses ++ clause ∷ [] =
    take_more clauses k [] short ∙ ap (λ (n : ℕ). take k clauses ++ get_or clauses n [] ∷ []) (sym same) in
    let whole : (take k clauses ++ clause ∷ []) ++ drop (k + 1) clauses ≡ clauses =
    ap (λ (xs : List (List Literal)). xs ++ drop (k + 1) clauses) (sym next) ∙ take-append-drop (k + 1) clauses in
    subst (λ (xs : List (List Literal)). StopsWith old xs error) whole
    (stops-first old (take k clauses ++ clause ∷ []) (drop (k + 1) clauses) error
    (stops-later old mid (take k clauses) (clause ∷ []) error more (stops-at mid clause error refused)))

-- ---- the clauses that count, by the cluster and the number

abbrev pub carried : Counter → ℕ → ℕ → List (List Literal)
carried t c j = (no (more t c j) ∷ yes (more t (c + 1) j) ∷ []) ∷ []

abbrev pub alone : Counter → ℕ → List (List Literal)
alone t c = (no (moved t (c + 1)) ∷ yes (more t (c + 1) 0) ∷ []) ∷ []

abbrev pub behind : Counter → ℕ → ℕ → List (List Literal)
behind t c j = (no (moved t (c + 1)) ∷ no (more t c (j - 1)) ∷ yes (more t (c + 1) (j - 1 + 1)) ∷ []) ∷ []

pub counts-first : (t : Counter) (c j : ℕ) → c ≡ 0 → j ≡ 0 → count_clauses t c j ≡ (no (moved t 0) ∷ yes (more t 0 0) ∷ []) ∷ []
unfolding count_clauses
counts-first t c j first none = ap₂ (count_clauses t) first none

pub counts-none : (t : Counter) (c j : ℕ) → c ≡ 0 → 1 ≤ j → count_clauses t c j ≡ []
unfolding count_clauses
counts-none t c zero first some = absurd (omega (arith, some))
counts-none t c (suc j) first some = ap (λ (x : ℕ). count_clauses t x (suc j)) first

alone-at : (t : Counter) (c : ℕ) → count_clauses t (suc c) 0
    ≡ ((no (more t c 0) ∷ yes (more t (suc c) 0) ∷ []) ∷ []) ++ ((no (moved t (suc c)) ∷ yes (more t (suc c) 0) ∷ []) ∷ [])
unfolding count_clauses
alone-at t c = refl

next-at : (t : Counter) (c j : ℕ) → count_clauses t (suc c) (suc j)
    ≡ ((no (more t c (suc j)) ∷ yes (more t (suc c) (suc j)) ∷ []) ∷ []) ++ ((no (moved t (suc c)) ∷ no (more t c j) ∷ yes (more t (suc c) (suc j)) ∷ []) ∷ [])
unfolding count_clauses
next-at t c j = refl

pub counts-alone : (t : Counter) (c j : ℕ) → j ≡ 0 → count_clauses t (c + 1) j
    ≡ ((no (more t c j) ∷ yes (more t (c + 1) j) ∷ []) ∷ []) ++ ((no (moved t (c + 1)) ∷ yes (more t (c + 1) 0) ∷ []) ∷ [])
counts-alone t c j none =
    let next : suc c ≡ c + 1 = omega arith in
    subst (λ (k : ℕ). count_clauses t (c + 1) k
    ≡ ((no (more t c k) ∷ yes (more t (c + 1) k) ∷ []) ∷ []) ++ ((no (moved t (c + 1)) ∷ yes (more t (c + 1) 0) ∷ []) ∷ [])) (sym none)
    (subst (λ (x : ℕ). count_clauses t x 0
    ≡ ((no (more t c 0) ∷ yes (more t x 0) ∷ []) ∷ []) ++ ((no (moved t x) ∷ yes (more t x 0) ∷ []) ∷ [])) next (alone-at t c))

pub counts-next : (t : Counter) (c j : ℕ) → 1 ≤ j → count_clauses t (c + 1) j
    ≡ ((no (more t c j) ∷ yes (more t (c + 1) j) ∷ []) ∷ [])
    ++ ((no (moved t (c + 1)) ∷ no (more t c (j - 1)) ∷ yes (more t (c + 1) (j - 1 + 1)) ∷ []) ∷ [])
counts-next t c zero some = absurd (omega (arith, some))
counts-next t c (suc j) some =
    let next : suc c ≡ c + 1 = omega arith in
    let back : j ≡ suc j - 1 = omega arith in
    let again : suc j ≡ suc j - 1 + 1 = omega arith in
    subst (λ (x : ℕ). count_clauses t x (suc j) ≡ ((no (more t c (suc j)) ∷ yes (more t x (suc j)) ∷ []) ∷ [])
    ++ ((no (moved t x) ∷ no (more t c (suc j - 1)) ∷ yes (more t x (suc j - 1 + 1)) ∷ []) ∷ [])) next
    (next-at t c j ∙ ap₂ (λ (k l : ℕ). ((no (more t c (suc j)) ∷ yes (more t (suc c) (suc j)) ∷ []) ∷ [])
    ++ ((no (moved t (suc c)) ∷ no (more t c k) ∷ yes (more t (suc c) l) ∷ []) ∷ [])) back again)

-- what is carried comes first
pub counts-begin : (t : Counter) (c j : ℕ) (set : ClauseList) (error : PushError) → StopsWith set ((no (more t c j) ∷ yes (more t (c + 1) j) ∷ []) ∷ []) error
    → StopsWith set (count_clauses t (c + 1) j) error
counts-begin t c zero set error stops =
    subst (λ (xs : List (List Literal)). StopsWith set xs error) (sym (counts-alone t c 0 refl))
    (stops-first set (carried t c 0) (alone t c) error stops)
counts-begin t c (suc j) set error stops =
    subst (λ (xs : List (List Literal)). StopsWith set xs error) (sym (counts-next t c (suc j) (omega arith)))
    (stops-first set (carried t c (suc j)) (behind t c (suc j)) error stops)

-- into a set that has none
pub stops-whole : (set : ClauseList) (clauses : List (List Literal)) (error : PushError) → set.clauses ≡ [] → StopsWith set clauses error
    → IsStoppedIn set.clause_limit set.literal_limit clauses error
stops-whole set clauses error none stops =
    let whole : set.clauses ++ (clauses ++ []) ≡ clauses = ap (λ (xs : List (List Literal)). xs ++ (clauses ++ [])) none ∙ append-nil clauses in
    subst (λ (xs : List (List Literal)). IsStoppedIn set.clause_limit set.literal_limit xs error) whole (stops [])
