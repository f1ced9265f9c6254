-- Tests that compute, and what they show of the conditions of a worked example.
use Rattle.std.proofs.Common.{◌≡◌, inl, inr, ℕ, ◌&&◌, ◌||◌, Bool, true, false, not, List, [], ◌∷◌, ◌++◌, length, get_or, map, refl, ap, sym, subst, ◌∙◌, eqb}
use Rattle.std.proofs.Common.{leb, arith}
use Rattle.std.specs.List.{All, AllPairs, Contains, list_all, list_any}
use Rattle.std.proofs.lemmas.Bool.{true≢false, and_parts, eqb-true, eq-eqb, leb-true}
use Rattle.std.proofs.lemmas.List.Sums.{AllPass-from_list_all}
use Rattle.std.proofs.lemmas.List.Folds.{Any-from_list_any, list_any_at}
use Rattle.std.proofs.lemmas.List.Kept.{AllPairs-cons}
use Rattle.dist_clause.specs.ClauseList.{clause_at}
use Rattle.dist_clause.specs.Formula.{Literal, literal, negation, MakesTrue, IsModel}
use Rattle.dist_derive.specs.Follows.{IsNumberOf, EndsFalse, Step}
use Rattle.dist_derive.specs.Propagation.{IsFalse, IsUnit}
use Rattle.dist_cert.specs.Rising.{is_among}

-- ---- lists

pub all-by : {X : Type 0} (test : X → Bool) (P : X → Type 0) → ((x : X) → test x ≡ true → P x) → (xs : List X) → list_all test xs ≡ true → All P xs
all-by test P says xs e k d within = says (get_or xs k d) (AllPass-from_list_all test xs e k d within)

abbrev pub all_pairs : {X : Type 0} → (X → X → Bool) → List X → Bool
all_pairs test [] = true
all_pairs test (x ∷ xs) = list_all (test x) xs && all_pairs test xs

pub pairs-by : {X : Type 0} (test : X → X → Bool) (R : X → X → Type 0) → ((x y : X) → test x y ≡ true → R x y) → (xs : List X) → all_pairs test xs ≡ true
    → AllPairs R xs
pairs-by test R says [] e = λ i j d before within. absurd (omega (arith, within))
pairs-by test R says (x ∷ xs) e =
    let parts = and_parts (list_all (test x) xs) (all_pairs test xs) e in
    AllPairs-cons R x xs (all-by (test x) (R x) (says x) xs parts.0) (pairs-by test R says xs parts.1)

pub lacks-by : {X : Type 0} (same : X → X → Bool) → ((x y : X) → x ≡ y → same x y ≡ true) → (xs : List X) (x : X) → list_any (same x) xs ≡ false
    → ¬ Contains xs x
lacks-by same says xs x e there = true≢false (sym (list_any_at (same x) xs there.0 x there.1 (says x (get_or xs there.0 x) (sym there.2))) ∙ e)

pub contains-by : {X : Type 0} (same : X → X → Bool) → ((x y : X) → same x y ≡ true → x ≡ y) → (xs : List X) (x : X) → list_any (same x) xs ≡ true
    → Contains xs x
contains-by same says xs x e =
    let some = Any-from_list_any (same x) xs e in
    (some.0, some.2, subst (λ y. get_or xs some.0 y ≡ y) (sym (says x some.1 some.4)) some.3)

-- ---- numbers

pub has : (xs : List ℕ) (x : ℕ) → is_among xs x ≡ true → Contains xs x
has xs x e = contains-by eqb (λ m n. eqb-true m n) xs x e

pub lacks : (xs : List ℕ) (x : ℕ) → is_among xs x ≡ false → ¬ Contains xs x
lacks xs x e = lacks-by eqb (λ m n. eq-eqb m n) xs x e

-- ---- literals

abbrev same_sign : Bool → Bool → Bool
same_sign true b = b
same_sign false b = not b

same-sign : (a b : Bool) → same_sign a b ≡ true → a ≡ b
same-sign true true e = refl
same-sign true false e = absurd (true≢false (sym e))
same-sign false true e = absurd (true≢false (sym e))
same-sign false false e = refl

sign-itself : (a b : Bool) → a ≡ b → same_sign a b ≡ true
sign-itself true true e = refl
sign-itself true false e = sym e
sign-itself false true e = e
sign-itself false false e = refl

abbrev same : Literal → Literal → Bool
same l m = eqb l.variable m.variable && same_sign l.positive m.positive

same-true : (l m : Literal) → same l m ≡ true → l ≡ m
same-true l m e =
    let parts = and_parts (eqb l.variable m.variable) (same_sign l.positive m.positive) e in
    let v = eqb-true l.variable m.variable parts.0 in
    let s = same-sign l.positive m.positive parts.1 in
    λ i. literal (v i) (s i)

same-itself : (l m : Literal) → l ≡ m → same l m ≡ true
same-itself l m e =
    ap (λ b. b && same_sign l.positive m.positive) (eq-eqb l.variable m.variable (ap (λ (x : Literal). x.variable) e))
    ∙ sign-itself l.positive m.positive (ap (λ (x : Literal). x.positive) e)

-- ---- hints

abbrev holds : List Literal → Literal → Bool
holds trues l = list_any (same l) trues

abbrev fails : List Literal → Literal → Bool
fails trues l = holds trues (negation l)

fails-so : (trues : List Literal) (l : Literal) → fails trues l ≡ true → IsFalse trues l
fails-so trues l e = contains-by same same-true trues (negation l) e

abbrev is_number : List (List Literal) → ℕ → Bool
is_number clauses n = leb 1 n && leb n (length clauses)

number-so : (clauses : List (List Literal)) (n : ℕ) → is_number clauses n ≡ true → IsNumberOf clauses n
number-so clauses n e = let parts = and_parts (leb 1 n) (leb n (length clauses)) e in (leb-true 1 n parts.0, leb-true n (length clauses) parts.1)

abbrev is_unit : List Literal → List Literal → Literal → Bool
is_unit trues clause l = holds clause l && (not (holds trues l) && (not (fails trues l) && list_all (λ m. same m l || fails trues m) clause))

not-so : (b : Bool) → not b ≡ true → b ≡ false
not-so true e = sym e
not-so false e = refl

unit-so : (trues clause : List Literal) (l : Literal) → is_unit trues clause l ≡ true → IsUnit trues clause l
unit-so trues clause l e =
    let a = and_parts (holds clause l) _ e in
    let b = and_parts (not (holds trues l)) _ a.1 in
    let c = and_parts (not (fails trues l)) _ b.1 in
    record {
      member = contains-by same same-true clause l a.0;
      unset = (lacks-by same same-itself trues l (not-so _ b.0), lacks-by same same-itself trues (negation l) (not-so _ c.0));
      others = all-by (λ m. same m l || fails trues m) (λ m. (m ≡ l → ⊥) → IsFalse trues m) (λ m t other. one m other (same m l) refl t) clause c.1;
    }
  where
    one : (m : Literal) → (m ≡ l → ⊥) → (b : Bool) → same m l ≡ b → (b || fails trues m) ≡ true → IsFalse trues m
    one m other true is t = absurd (other (same-true m l is))
    one m other false is t = fails-so trues m t

-- the clauses of the steps are unit one after another, and then the last one is false
abbrev pub refutes : List (List Literal) → List Literal → List Step → ℕ → Bool
refutes clauses trues [] last = is_number clauses last && list_all (fails trues) (clause_at clauses last)
refutes clauses trues (step ∷ steps) last =
    is_number clauses step.number && (is_unit trues (clause_at clauses step.number) step.made_true && refutes clauses (trues ++ step.made_true ∷ []) steps last)

pub ends-false : (clauses : List (List Literal)) (trues : List Literal) (steps : List Step) (last : ℕ) → refutes clauses trues steps last ≡ true
    → EndsFalse clauses trues (map (λ (step : Step). step.number) steps ++ last ∷ [])
ends-false clauses trues [] last e =
    let parts = and_parts (is_number clauses last) _ e in
    (number-so clauses last parts.0, inl (all-by (fails trues) (IsFalse trues) (fails-so trues) (clause_at clauses last) parts.1, inl refl))
ends-false clauses trues (step ∷ steps) last e =
    let a = and_parts (is_number clauses step.number) _ e in
    let b = and_parts (is_unit trues (clause_at clauses step.number) step.made_true) _ a.1 in
    let later = ends-false clauses (trues ++ step.made_true ∷ []) steps last b.1 in
    (number-so clauses step.number a.0, inr (step.made_true, unit-so trues (clause_at clauses step.number) step.made_true b.0, later))

-- ---- models

abbrev pub makes_true : List ℕ → List Literal → Bool
makes_true members clause = list_any (λ (l : Literal). same_sign (is_among members l.variable) l.positive) clause

pub is-model : (members : List ℕ) (clauses : List (List Literal)) → list_all (makes_true members) clauses ≡ true → IsModel (is_among members) clauses
is-model members clauses e = all-by (makes_true members) (MakesTrue (is_among members)) one clauses e
  where
    one : (clause : List Literal) → makes_true members clause ≡ true → MakesTrue (is_among members) clause
    one clause t =
        let some = Any-from_list_any (λ (l : Literal). same_sign (is_among members l.variable) l.positive) clause t in
        (some.0, some.1, some.2, some.3, same-sign (is_among members some.1.variable) some.1.positive some.4)
