-- Listed variables that are put into a set.
use Rattle.std.proofs.Common.{◌≡◌, ◌↔◌, inl, inr, ℕ, ◌+◌, ◌<◌, Bool, true, false, List, [], ◌∷◌, ◌++◌, length, get_or, take, sym, ap, subst}
use Rattle.std.specs.List.{Contains}
use Rattle.std.proofs.lemmas.List.{take_more}
use Rattle.std.proofs.lemmas.List.Elements.{Contains-append_left, Contains-push, Contains-push_cases}
use Rattle.dist_cert.specs.ListLaws.{any-from, from-any}
use Rattle.dist_cert.specs.Rising.{is_among}
use Rattle.dist_derive.specs.Marking.{Includes}
use Rattle.dist_derive.specs.VariableSet.{GivesTrue, VariableList}

-- the same numbers
abbrev pub AreSame : List ℕ → List ℕ → Type 0
AreSame xs ys = (v : ℕ) → Contains xs v ↔ Contains ys v

pub none-yet : (members : List ℕ) → members ≡ [] → AreSame members []
none-yet members empty = λ v. subst (λ (ms : List ℕ). Contains ms v ↔ Contains [] v) (sym empty) ((λ h. h), (λ h. h))

push-both : (xs ys : List ℕ) (x : ℕ) → AreSame xs ys → (v : ℕ) → Contains (xs ++ x ∷ []) v → Contains (ys ++ x ∷ []) v
push-both xs ys x same v h = elim (Contains-push_cases xs x v h) [
  | inl earlier ↦ Contains-append_left ys (x ∷ []) v ((same v).0 earlier)
  | inr here ↦ subst (λ u. Contains (ys ++ x ∷ []) u) here (Contains-push ys x)
]

push-one : (xs ys : List ℕ) (x : ℕ) → AreSame xs ys → Contains xs x → AreSame xs (ys ++ x ∷ [])
push-one xs ys x same there = λ v. (
  (λ h. Contains-append_left ys (x ∷ []) v ((same v).0 h)),
  λ h. elim (Contains-push_cases ys x v h) [
    | inl earlier ↦ (same v).1 earlier
    | inr here ↦ subst (λ u. Contains xs u) here there
  ],
)

included : (old new : VariableList) (listed : List ℕ) (x : ℕ) (fresh : Bool) → AreSame old.members listed → Includes old new x fresh
    → AreSame new.members (listed ++ x ∷ [])
included old new listed x true same is =
    subst (λ (ms : List ℕ). AreSame ms (listed ++ x ∷ [])) (sym (ap (λ (s : VariableList). s.members) is.0))
    (λ v. (push-both old.members listed x same v, push-both listed old.members x (λ u. ((same u).1, (same u).0)) v))
included old new listed x false same is =
    subst (λ (ms : List ℕ). AreSame ms (listed ++ x ∷ [])) (sym (ap (λ (s : VariableList). s.members) is.0))
    (push-one old.members listed x same is.1)

-- one more of the listed ones
pub included-more : (old new : VariableList) (listed : List ℕ) (i : ℕ) (fresh : Bool) → i < length listed → AreSame old.members (take i listed)
    → Includes old new (get_or listed i 0) fresh → AreSame new.members (take (i + 1) listed)
included-more old new listed i fresh within same is =
    subst (λ (xs : List ℕ). AreSame new.members xs) (sym (take_more listed i 0 within))
    (included old new (take i listed) (get_or listed i 0) fresh same is)

pub included-variables : (old new : VariableList) (x : ℕ) (fresh : Bool) → Includes old new x fresh → new.variables ≡ old.variables
included-variables old new x true is = ap (λ (s : VariableList). s.variables) is.0
included-variables old new x false is = ap (λ (s : VariableList). s.variables) is.0

-- the assignment in which exactly the listed ones are true
pub gives-listed : (members listed : List ℕ) → AreSame members listed → GivesTrue (is_among listed) members
gives-listed members listed same = λ v one. ((λ e. (same v).1 (from-any v listed e)), λ h. any-from v listed ((same v).0 h))
