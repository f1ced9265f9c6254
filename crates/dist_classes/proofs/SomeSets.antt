-- Each finite set of texts has a list in order: it is found text by text, and no memory is asked for.
use Rattle.std.proofs.Common.{◌≡◌, ◌⊎◌, ◌↔◌, List, [], ◌∷◌, ◌++◌, ℕ, suc, Ordering, Less, Equal, Greater, nat_cmp, refl, sym, ap, ◌∙◌, inl, inr, arith}
use Rattle.std.specs.Prelude.{Any, Contains}
use Rattle.std.specs.Cmp.{IsTotalOrder}
use Rattle.std.specs.Cmp.Lexicographic.{slice_cmp}
use Rattle.std.specs.List.{AllByRecursion}
use Rattle.std.specs.List.Sorted.{IsStrictlySortedBy}
use Rattle.std.specs.Ordering.{ordering_reverse, ordering_then}
use Rattle.std.proofs.lemmas.List.Elements.{Contains-append_cases, Contains-append_left, Contains-append_right}
use Rattle.dist_base.specs.ListLaws.{any-cases}
use Rattle.dist_version.specs.Order.{version_cmp}
use Rattle.dist_classes.specs.SortedPrivate.{text_cmp}
use Rattle.dist_classes.specs.Table.{Adds}
use Rattle.dist_classes.proofs.FoundCuts.{adds-iff, adds-nothing}
use Rattle.dist_classes.proofs.FreshLemmas.{contains-cases, contains-here, contains-later, same_names}

-- ---- texts in order

-- each text is below all later ones
abbrev pub AreStrict : (List ℕ → List ℕ → Ordering) → List (List ℕ) → Type 0
AreStrict cmp [] = Unit {0}
AreStrict cmp (x ∷ xs) = ((v : List ℕ) → Contains xs v → cmp x v ≡ Less) × AreStrict cmp xs

-- the texts of a set in order
pub record InOrder (cmp : List ℕ → List ℕ → Ordering) (Has : List ℕ → Type 0) : Type 0 where
  pub sorted : List (List ℕ)
  pub strict : AreStrict cmp sorted
  pub same : (v : List ℕ) → Has v ↔ Contains sorted v

abbrev With : List (List ℕ) → List ℕ → List ℕ → Type 0
With xs k v = Contains xs v ⊎ (k ≡ v)

module _ (cmp : List ℕ → List ℕ → Ordering) (total : IsTotalOrder cmp) (equal : (a b : List ℕ) → cmp a b ≡ Equal → a ≡ b) where
  put : (k x : List ℕ) (xs : List (List ℕ)) (o : Ordering) → cmp k x ≡ o → AreStrict cmp (x ∷ xs) → InOrder cmp (With xs k) → InOrder cmp (With (x ∷ xs) k)
  put k x xs Less is strict later = record {
    sorted = k ∷ x ∷ xs;
    strict = (
      (λ v there. elim (contains-cases x v xs there) [
        | inl h ↦ ap (cmp k) (sym h) ∙ is
        | inr h ↦ total.trans k x v is (strict.0 v h)
      ]),
      strict,
    );
    same = λ v. (
      (λ either. elim either [ inl h ↦ contains-later k v (x ∷ xs) h | inr h ↦ contains-here k v (x ∷ xs) h ]),
      λ there. elim (contains-cases k v (x ∷ xs) there) [ inl h ↦ inr h | inr h ↦ inl h ],
    );
  }
  put k x xs Equal is strict later = record {
    sorted = x ∷ xs;
    strict = strict;
    same = λ v. (
      (λ either. elim either [ inl h ↦ h | inr h ↦ contains-here x v xs (sym (equal k x is) ∙ h) ]),
      λ there. inl there,
    );
  }
  put k x xs Greater is strict later = record {
    sorted = x ∷ later.sorted;
    strict = (
      (λ v there. elim ((later.same v).1 there) [
        | inl h ↦ strict.0 v h
        | inr h ↦ ap (cmp x) (sym h) ∙ total.antisymm x k ∙ ap ordering_reverse is
      ]),
      later.strict,
    );
    same = λ v. (
      (λ either. elim either [
        | inl h ↦ elim (contains-cases x v xs h) [
          | inl g ↦ contains-here x v later.sorted g
          | inr g ↦ contains-later x v later.sorted ((later.same v).0 (inl g))
        ]
        | inr h ↦ contains-later x v later.sorted ((later.same v).0 (inr h))
      ]),
      λ there. elim (contains-cases x v later.sorted there) [
        | inl h ↦ inl (contains-here x v xs h)
        | inr h ↦ elim ((later.same v).1 h) [ inl g ↦ inl (contains-later x v xs g) | inr g ↦ inr g ]
      ],
    );
  }

  put-all : (k : List ℕ) (xs : List (List ℕ)) → AreStrict cmp xs → InOrder cmp (With xs k)
  put-all k [] strict = record {
    sorted = k ∷ [];
    strict = ((λ v there. absurd (omega (arith, there.1))), tt);
    same = λ v. (
      (λ either. elim either [ inl h ↦ absurd (omega (arith, h.1)) | inr h ↦ contains-here k v [] h ]),
      λ there. elim (contains-cases k v [] there) [ inl h ↦ inr h | inr h ↦ inl h ],
    );
  }
  put-all k (x ∷ xs) strict = put k x xs (cmp k x) refl strict (put-all k xs strict.1)

  ordered-list : (found : List (List ℕ)) → InOrder cmp (Contains found)
  ordered-list [] = record { sorted = []; strict = tt; same = λ v. ((λ h. h), λ h. h) }
  ordered-list (x ∷ found) =
      let rest = ordered-list found in
      let all = put-all x rest.sorted rest.strict in
      record {
        sorted = all.sorted;
        strict = all.strict;
        same = λ v. (
          (λ there. (all.same v).0 (elim (contains-cases x v found there) [ inl h ↦ inr h | inr h ↦ inl ((rest.same v).0 h) ])),
          λ inside. elim ((all.same v).1 inside) [ inl h ↦ contains-later x v found ((rest.same v).1 h) | inr h ↦ contains-here x v found h ],
        );
      }

  pub in-order : (Has : List ℕ → Type 0) (found : List (List ℕ)) → Adds [] found Has → InOrder cmp Has
  in-order Has found adds =
      let list = ordered-list found in
      record {
        sorted = list.sorted;
        strict = list.strict;
        same = λ v. (
          (λ has. (list.same v).0 ((adds v).1 (inr has))),
          λ inside. elim ((adds v).0 ((list.same v).1 inside)) [ inl h ↦ absurd (omega (arith, h.1)) | inr h ↦ h ],
        );
      }

by-recursion : (P : List ℕ → Type 0) (xs : List (List ℕ)) → ((v : List ℕ) → Contains xs v → P v) → AllByRecursion P xs
by-recursion P [] each = tt
by-recursion P (x ∷ xs) each = (each x (contains-here x x xs refl), by-recursion P xs (λ v there. each v (contains-later x v xs there)))

pub strictly-sorted : (cmp : List ℕ → List ℕ → Ordering) (xs : List (List ℕ)) → AreStrict cmp xs → IsStrictlySortedBy cmp xs
unfolding IsStrictlySortedBy
strictly-sorted cmp [] strict = tt
strictly-sorted cmp (x ∷ xs) strict = (by-recursion (λ v. cmp x v ≡ Less) xs strict.0, strictly-sorted cmp xs strict.1)

second-equal : (a b : Ordering) → ordering_then a b ≡ Equal → b ≡ Equal
second-equal Less b is = cc
second-equal Equal b is = is
second-equal Greater b is = cc

pub same-texts : (a b : List ℕ) → text_cmp a b ≡ Equal → a ≡ b
same-texts a b is = same_names a b (second-equal (version_cmp a b) (slice_cmp nat_cmp a b) is)

-- ---- what is found

pub record Found (Has : List ℕ → Type 0) : Type 0 where
  pub found : List (List ℕ)
  pub adds : Adds [] found Has

pub found-iff : (P Q : List ℕ → Type 0) → ((v : List ℕ) → P v ↔ Q v) → Found P → Found Q
found-iff P Q same some = record { found = some.found; adds = adds-iff [] some.found P Q same some.adds }

pub found-none : (P : List ℕ → Type 0) → ((v : List ℕ) → ¬ P v) → Found P
found-none P none = record { found = []; adds = adds-nothing [] P none }

pub found-one : (w : List ℕ) → Found (λ v. w ≡ v)
found-one w = record {
  found = w ∷ [];
  adds = λ v. (
    (λ there. elim (contains-cases w v [] there) [ inl h ↦ inr h | inr h ↦ inl h ]),
    λ either. elim either [ inl h ↦ absurd (omega (arith, h.1)) | inr h ↦ contains-here w v [] h ],
  );
}

pub found-either : (P Q : List ℕ → Type 0) → Found P → Found Q → Found (λ v. P v ⊎ Q v)
found-either P Q first second = record {
  found = first.found ++ second.found;
  adds = λ v. (
    (λ there. inr (elim (Contains-append_cases first.found second.found v there) [
      | inl h ↦ elim ((first.adds v).0 h) [ inl g ↦ absurd (omega (arith, g.1)) | inr g ↦ inl g ]
      | inr h ↦ elim ((second.adds v).0 h) [ inl g ↦ absurd (omega (arith, g.1)) | inr g ↦ inr g ]
    ])),
    λ either. elim either [
      | inl h ↦ absurd (omega (arith, h.1))
      | inr h ↦ elim h [
        | inl g ↦ Contains-append_left first.found second.found v ((first.adds v).1 (inr g))
        | inr g ↦ Contains-append_right first.found second.found v ((second.adds v).1 (inr g))
      ]
    ],
  );
}

any-head : {X : Type 0} (P : X → Type 0) (x : X) (xs : List X) → (P x ⊎ Any P xs) → Any P (x ∷ xs)
any-head P x xs (inl holds) = (0, x, omega arith, refl, holds)
any-head P x xs (inr any) = (suc any.0, any.1, omega (arith, any.2), any.3, any.4)

pub found-any : {X : Type 0} (P : List ℕ → X → Type 0) → ((x : X) → Found (λ v. P v x)) → (xs : List X) → Found (λ v. Any (P v) xs)
found-any P each [] = found-none (λ v. Any (P v) []) (λ v any. omega (arith, any.2))
found-any P each (x ∷ xs) =
    found-iff (λ v. P v x ⊎ Any (P v) xs) (λ v. Any (P v) (x ∷ xs)) (λ v. (any-head (P v) x xs, any-cases (P v) x xs))
    (found-either (λ v. P v x) (λ v. Any (P v) xs) (each x) (found-any P each xs))
