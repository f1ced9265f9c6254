-- Literals and lists of them, as far as guarded clauses ask.
use mathlib.Core.Bool.{beq}
use Rattle.std.proofs.Common.{◌≡◌, ◌≢◌, suc, ◌⊎◌, ⊎_elim, inl, inr, ◌+◌, ◌<◌, ◌≤◌, ℕ, Bool, true, false, not, List, [], ◌∷◌, ◌++◌, length, get_or, take}
use Rattle.std.proofs.Common.{refl, ap, sym, subst, ◌∙◌, arith}
use Rattle.std.specs.List.{All, Contains}
use Rattle.std.proofs.lemmas.Bool.{cases_Bool, cases_eq, false≢true, true≢false}
use Rattle.std.proofs.lemmas.List.{take_all, take-take, take-append-le, take_more}
use Rattle.std.proofs.lemmas.List.Elements.{All-weaker, All-contains, All-contains_itself, All-take}
use Rattle.std.proofs.lemmas.Map.Made.{Contains-tail}
use Rattle.dist_clause.specs.Formula.{Literal, literal, negation}
use Rattle.dist_derive.specs.Propagation.{IsFalse, IsUnset, AllFalse, OthersFalse}
use Rattle.dist_derive.specs.TrueLiterals.{HasTruth}
use Rattle.dist_derive.specs.declared.true_literals.Truth.{Truth}
use Rattle.dist_derive.specs.declared.true_literals.Truth.TheVariants.{True, False, Unset}

beq-true : (a b : Bool) → beq a b ≡ true → a ≡ b
beq-true true true e = refl
beq-true true false e = absurd (false≢true e)
beq-true false true e = absurd (false≢true e)
beq-true false false e = refl

beq-false : (a b : Bool) → beq a b ≡ false → a ≢ b
beq-false true true e h = true≢false e
beq-false true false e h = true≢false h
beq-false false true e h = false≢true h
beq-false false false e h = true≢false e

pub same_or_not : (l m : Literal) → (l ≡ m) ⊎ (l ≢ m)
same_or_not l m = elim (cases_eq l.variable m.variable) [
  | inl v ↦ elim (cases_Bool (beq l.positive m.positive)) [
    | inl p ↦ inl (ap (λ n. literal n l.positive) v ∙ ap (λ b. literal m.variable b) (beq-true l.positive m.positive p))
    | inr p ↦ inr (λ e. beq-false l.positive m.positive p (ap (λ (x : Literal). x.positive) e))
  ]
  | inr v ↦ inr (λ e. v (ap (λ (x : Literal). x.variable) e))
]

pub contains_or_not : (trues : List Literal) (l : Literal) → Contains trues l ⊎ (¬ Contains trues l)
contains_or_not [] l = inr (λ h. absurd (omega (arith, h.1)))
contains_or_not (m ∷ ms) l = elim (same_or_not m l) [
  | inl same ↦ inl (0, omega arith, same)
  | inr other ↦ ⊎_elim (λ h. inl (suc h.0, omega (arith, h.1), h.2)) (λ h. inr (λ g. h (Contains-tail m ms l other g))) (contains_or_not ms l)
]

not-twice : (b : Bool) → not (not b) ≡ b
not-twice true = refl
not-twice false = refl

pub negation-twice : (l : Literal) → negation (negation l) ≡ l
negation-twice l = ap (literal l.variable) (not-twice l.positive)

-- lists that begin with others
pub front-itself : {X : Type 0} (xs : List X) → take (length xs) xs ≡ xs
front-itself xs = take_all (length xs) xs (omega arith)

pub front-push : {X : Type 0} (xs : List X) (x : X) → take (length xs) (xs ++ x ∷ []) ≡ xs
front-push xs x = let within : length xs ≤ length xs = omega arith in take-append-le (length xs) xs (x ∷ []) within ∙ front-itself xs

pub front-then : {X : Type 0} (n m : ℕ) (xs ys zs : List X) → take n ys ≡ xs → take m zs ≡ ys → n ≤ m → take n zs ≡ xs
front-then n m xs ys zs first second longer = sym (take-take n m zs longer) ∙ (ap (take n) second ∙ first)

-- the first ones of a longer list
pub take-front : {X : Type 0} (n : ℕ) (xs ys : List X) → n ≤ length xs → take (length xs) ys ≡ xs → take n ys ≡ take n xs
take-front n xs ys within front = sym (take-take n (length xs) ys within) ∙ ap (take n) front

pub take_item : {X : Type 0} (xs : List X) (i : ℕ) (x d : X) → i < length xs → x ≡ get_or xs i d → take (i + 1) xs ≡ take i xs ++ x ∷ []
take_item xs i x d within is = take_more xs i d within ∙ ap (λ y. take i xs ++ y ∷ []) (sym is)

-- lists that have all of others
pub all_of_first : {X : Type 0} (n : ℕ) (xs : List X) → All (Contains xs) (take n xs)
all_of_first n xs = All-take (Contains xs) n xs (All-contains_itself xs)

pub all_of_front : {X : Type 0} (xs ys : List X) → take (length xs) ys ≡ xs → All (Contains ys) xs
all_of_front xs ys front = subst (λ zs. All (Contains ys) zs) front (all_of_first (length xs) ys)

pub all_of-then : {X : Type 0} (xs ys zs : List X) → All (Contains ys) xs → All (Contains zs) ys → All (Contains zs) xs
all_of-then xs ys zs first second = All-weaker (Contains ys) (Contains zs) (λ x e. All-contains (Contains zs) ys x second e) xs first

-- all literals of a clause are false where one is, and the others are
pub all_false_with : (trues clause : List Literal) (one : Literal) → IsFalse trues one → OthersFalse trues clause one → AllFalse trues clause
all_false_with trues clause one false_one others = All-weaker (λ m. m ≢ one → IsFalse trues m) (IsFalse trues) (λ m other. elim (same_or_not m one) [
  | inl same ↦ subst (λ (l : Literal). IsFalse trues l) (sym same) false_one
  | inr apart ↦ other apart
]) clause others

-- a literal that is neither true nor false is unset
pub unset_by : (trues : List Literal) (l : Literal) (truth : Truth) → HasTruth trues l truth → truth ≢ True → truth ≢ False → IsUnset trues l
unset_by trues l True h not_true not_false = absurd (not_true refl)
unset_by trues l False h not_true not_false = absurd (not_false refl)
unset_by trues l Unset h not_true not_false = h
