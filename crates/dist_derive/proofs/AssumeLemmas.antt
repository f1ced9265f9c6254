-- Lists that contain others, and clauses under more true literals.
use Rattle.std.proofs.Common.{◌≡◌, ◌≢◌, ◌≤◌, List, [], ◌∷◌, ◌++◌, length, take, ap, sym, ◌∙◌, arith}
use Rattle.std.proofs.lemmas.List.{take_all, take-take, take-append-le}
use Rattle.std.specs.List.{Contains}
use Rattle.std.proofs.lemmas.List.Elements.{All-weaker, All-contains, All-contains_itself, Contains-append_left, Contains-append_right}
use Rattle.dist_clause.specs.Formula.{Literal, negation}
use Rattle.dist_derive.specs.Propagation.{IsFalse, AllFalse, OthersFalse}
use Rattle.dist_derive.specs.ContainmentPrivate.{ContainsAll}

pub ContainsAll-itself : {X : Type 0} (xs : List X) → ContainsAll xs xs
ContainsAll-itself xs = All-contains_itself xs

pub ContainsAll-then : {X : Type 0} (xs ys zs : List X) → ContainsAll ys xs → ContainsAll zs ys → ContainsAll zs xs
ContainsAll-then xs ys zs first second = All-weaker (Contains ys) (Contains zs) (λ x e. All-contains (Contains zs) ys x second e) xs first

-- what has two lists one behind the other has both
pub ContainsAll-first : {X : Type 0} (xs ys zs : List X) → ContainsAll zs (xs ++ ys) → ContainsAll zs xs
ContainsAll-first xs ys zs h = ContainsAll-then xs (xs ++ ys) zs
    (All-weaker (Contains xs) (Contains (xs ++ ys)) (λ x e. Contains-append_left xs ys x e) xs (All-contains_itself xs)) h

pub ContainsAll-second : {X : Type 0} (xs ys zs : List X) → ContainsAll zs (xs ++ ys) → ContainsAll zs ys
ContainsAll-second xs ys zs h = ContainsAll-then ys (xs ++ ys) zs
    (All-weaker (Contains ys) (Contains (xs ++ ys)) (λ x e. Contains-append_right xs ys x e) ys (All-contains_itself ys)) h

pub ContainsAll-push : {X : Type 0} (xs : List X) (x : X) → ContainsAll (xs ++ x ∷ []) xs
ContainsAll-push xs x = All-weaker (Contains xs) (Contains (xs ++ x ∷ [])) (λ y e. Contains-append_left xs (x ∷ []) y e) xs (All-contains_itself xs)

-- under more true literals, what is false stays false
pub AllFalse-more : (trues more clause : List Literal) → ContainsAll more trues → AllFalse trues clause → AllFalse more clause
AllFalse-more trues more clause kept all = All-weaker (IsFalse trues) (IsFalse more) (λ l e. All-contains (Contains more) trues (negation l) kept e) clause all

pub OthersFalse-more : (trues more clause : List Literal) (l : Literal) → ContainsAll more trues → OthersFalse trues clause l → OthersFalse more clause l
OthersFalse-more trues more clause l kept others = All-weaker (λ m. m ≢ l → IsFalse trues m) (λ m. m ≢ l → IsFalse more m)
    (λ m h other. All-contains (Contains more) trues (negation m) kept (h other)) clause others

-- lists that begin with others
pub take-all : {X : Type 0} (xs : List X) → take (length xs) xs ≡ xs
take-all xs = take_all (length xs) xs (omega arith)

pub front-push : {X : Type 0} (xs : List X) (x : X) → take (length xs) (xs ++ x ∷ []) ≡ xs
front-push xs x = let within : length xs ≤ length xs = omega arith in take-append-le (length xs) xs (x ∷ []) within ∙ take-all xs

pub front-then : {X : Type 0} (xs ys zs : List X) → take (length xs) ys ≡ xs → take (length ys) zs ≡ ys → length xs ≤ length ys → take (length xs) zs ≡ xs
front-then xs ys zs first second longer = sym (take-take (length xs) (length ys) zs longer) ∙ (ap (take (length xs)) second ∙ first)
