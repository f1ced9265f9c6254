-- That the test of use is the relation. No public clause cites it; proofs do, those of the crates above too.
use Rattle.std.proofs.Common.{◌≡◌, ◌⊎◌, ℕ, Bool, true, false, List, Option, Some, None, refl, ap, inl, inr}
use Rattle.std.specs.Prelude.{bytes_eq, codes, ◌||◌}
use Rattle.std.proofs.lemmas.Bool.{false≢true}
use Rattle.std.proofs.lemmas.Slice.Eq.{bytes_eq-Decides}
use Rattle.dist_relation.specs.declared.atom.Qualifier.{Qualifier}
use Rattle.dist_relation.specs.declared.atom.Qualifier.TheVariants.{Plain, Named}
use Rattle.dist_repo.specs.Match.{IsUsable}
use Rattle.dist_space.specs.Usable.{is_architecture, is_usable}

or-cases : (a b : Bool) → (a || b) ≡ true → (a ≡ true) ⊎ (b ≡ true)
or-cases true b is = inl refl
or-cases false b is = inr is

or-left : (a b : Bool) → a ≡ true → (a || b) ≡ true
or-left true b is = refl
or-left false b is = absurd (false≢true is)

or-right : (a b : Bool) → b ≡ true → (a || b) ≡ true
or-right true b is = refl
or-right false b is = is

architecture-from : (architecture : Option (List ℕ)) (name : List ℕ) → is_architecture architecture name ≡ true
    → architecture ≡ Some name
architecture-from None name is = absurd (false≢true is)
architecture-from (Some here) name is = ap (λ (x : List ℕ). Some x) ((bytes_eq-Decides here name).0 is)

architecture-is : (architecture : Option (List ℕ)) (name : List ℕ) → architecture ≡ Some name
    → is_architecture architecture name ≡ true
architecture-is None name is = cc
architecture-is (Some here) name is = (bytes_eq-Decides here name).1 (let same : here ≡ name = cc in same)

pub usable-is : (architecture : Option (List ℕ)) (q : Qualifier) → IsUsable architecture q
    → is_usable architecture q ≡ true
usable-is architecture Plain is = refl
usable-is architecture (Named name) (inl any) =
    or-left (bytes_eq name (codes "any")) (bytes_eq name (codes "native") || is_architecture architecture name)
    ((bytes_eq-Decides name (codes "any")).1 any)
usable-is architecture (Named name) (inr (inl native)) =
    or-right (bytes_eq name (codes "any")) (bytes_eq name (codes "native") || is_architecture architecture name)
    (or-left (bytes_eq name (codes "native")) (is_architecture architecture name)
    ((bytes_eq-Decides name (codes "native")).1 native))
usable-is architecture (Named name) (inr (inr own)) =
    or-right (bytes_eq name (codes "any")) (bytes_eq name (codes "native") || is_architecture architecture name)
    (or-right (bytes_eq name (codes "native")) (is_architecture architecture name)
    (architecture-is architecture name own))

pub is-usable : (architecture : Option (List ℕ)) (q : Qualifier) → is_usable architecture q ≡ true
    → IsUsable architecture q
is-usable architecture Plain is = tt
is-usable architecture (Named name) is = elim
    (or-cases (bytes_eq name (codes "any")) (bytes_eq name (codes "native") || is_architecture architecture name) is) [
      | inl any ↦ inl ((bytes_eq-Decides name (codes "any")).0 any)
      | inr other ↦ elim (or-cases (bytes_eq name (codes "native")) (is_architecture architecture name) other) [
        | inl native ↦ inr (inl ((bytes_eq-Decides name (codes "native")).0 native))
        | inr own ↦ inr (inr (architecture-from architecture name own))
      ]
    ]
