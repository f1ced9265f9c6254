-- What is asked of packages and atoms is decided: one way holds or the other. No public clause cites these laws; proofs
-- of the crates above do.
use Rattle.std.proofs.Common.{◌≡◌, ◌⊎◌, ℕ, zero, suc, Bool, true, false, List, [], ◌∷◌, Some, None, Option, refl, ap}
use Rattle.std.proofs.Common.{arith, inl, inr, slice_get}
use Rattle.std.specs.Prelude.{Any, IfSome, IsSomeAnd, bytes_eq, codes}
use Rattle.std.specs.declared.cmp.Ordering.{Ordering}
use Rattle.std.specs.declared.cmp.Ordering.TheVariants.{Less, Equal, Greater}
use Rattle.std.proofs.lemmas.Slice.Eq.{bytes_eq-Decides}
use Rattle.dist_base.specs.ListLaws.{any-cases, any-head, any-later}
use Rattle.dist_version.specs.Order.{version_cmp}
use Rattle.dist_relation.specs.Satisfies.{AllowsOrder, Satisfies}
use Rattle.dist_relation.specs.declared.atom.Atom.{Atom}
use Rattle.dist_relation.specs.declared.atom.Bound.{Bound}
use Rattle.dist_relation.specs.declared.atom.Op.{Op}
use Rattle.dist_relation.specs.declared.atom.Op.TheVariants.{Lt, Le, Eq, Ge, Gt}
use Rattle.dist_relation.specs.declared.atom.Provide.{Provide}
use Rattle.dist_relation.specs.declared.atom.Qualifier.{Qualifier}
use Rattle.dist_relation.specs.declared.atom.Qualifier.TheVariants.{Plain, Named}
use Rattle.dist_repo.specs.Conflict.{AreInConflict}
use Rattle.dist_repo.specs.Healthy.{IsMet}
use Rattle.dist_repo.specs.Match.{IsUsable, Matches, MatchesByEntry, MatchesByName}
use Rattle.dist_repo.specs.Order.{IsSamePackage}
use Rattle.dist_repo.specs.declared.package.Package.{Package}

abbrev pub IsDecided : Type 0 → Type 0
IsDecided P = P ⊎ (¬ P)

pub any-decided : {X : Type 0} (P : X → Type 0) → ((x : X) → IsDecided (P x)) → (xs : List X) → IsDecided (Any P xs)
any-decided P each [] = inr (λ any. omega (arith, any.2))
any-decided P each (x ∷ xs) = elim (each x) [
  | inl here ↦ inl (any-head P x xs here)
  | inr none ↦ elim (any-decided P each xs) [
    | inl later ↦ inl (any-later P x xs later)
    | inr never ↦ inr (λ any. elim (any-cases P x xs any) [
      | inl h ↦ none h
      | inr h ↦ never h
    ])
  ]
]

-- both, where each is decided
pub both-decided : {P Q : Type 0} → IsDecided P → IsDecided Q → IsDecided (P × Q)
both-decided (inl p) (inl q) = inl (p, q)
both-decided (inl p) (inr q) = inr (λ h. q h.1)
both-decided (inr p) second = inr (λ h. p h.0)

pub either-decided : {P Q : Type 0} → IsDecided P → IsDecided Q → IsDecided (P ⊎ Q)
either-decided (inl p) second = inl (inl p)
either-decided (inr p) (inl q) = inl (inr q)
either-decided (inr p) (inr q) = inr (λ h. elim h [
  | inl x ↦ p x
  | inr x ↦ q x
])

-- one for the other, where each follows from the other
pub same-as : {P Q : Type 0} → (P → Q) → (Q → P) → IsDecided P → IsDecided Q
same-as to back (inl p) = inl (to p)
same-as to back (inr p) = inr (λ q. p (back q))

pub text-decided : (a b : List ℕ) → IsDecided (a ≡ b)
text-decided a b = by (bytes_eq a b) refl
  where
    by : (answer : Bool) → bytes_eq a b ≡ answer → IsDecided (a ≡ b)
    by true is = inl ((bytes_eq-Decides a b).0 is)
    by false is = inr (λ h. let other = (bytes_eq-Decides a b).1 h in cc)

pub at-decided : {X : Type 0} (P : X → Type 0) → ((x : X) → IsDecided (P x)) → (xs : List X) (k : ℕ)
    → IsDecided (IsSomeAnd (slice_get xs k) P)
at-decided P each [] k = inr (λ h. h)
at-decided P each (x ∷ xs) zero = each x
at-decided P each (x ∷ xs) (suc k) = at-decided P each xs k

pub some-decided : {X : Type 0} (P : X → Type 0) → ((x : X) → IsDecided (P x)) → (o : Option X)
    → IsDecided (IsSomeAnd o P)
some-decided P each None = inr (λ h. h)
some-decided P each (Some x) = each x

pub not-decided : {P : Type 0} → IsDecided P → IsDecided (¬ P)
not-decided (inl p) = inr (λ none. none p)
not-decided (inr none) = inl none

pub equal-decided : (o : Ordering) → IsDecided (o ≡ Equal)
equal-decided Less = inr (λ h. cc)
equal-decided Equal = inl refl
equal-decided Greater = inr (λ h. cc)

-- ---- what atoms match, and what is in conflict

order-decided : (op : Op) (order : Ordering) → IsDecided (AllowsOrder op order)
order-decided Lt Less = inl refl
order-decided Lt Equal = inr (λ h. cc)
order-decided Lt Greater = inr (λ h. cc)
order-decided Le Less = inl (λ h. cc)
order-decided Le Equal = inl (λ h. cc)
order-decided Le Greater = inr (λ h. h refl)
order-decided Eq Less = inr (λ h. cc)
order-decided Eq Equal = inl refl
order-decided Eq Greater = inr (λ h. cc)
order-decided Ge Less = inr (λ h. h refl)
order-decided Ge Equal = inl (λ h. cc)
order-decided Ge Greater = inl (λ h. cc)
order-decided Gt Less = inr (λ h. cc)
order-decided Gt Equal = inr (λ h. cc)
order-decided Gt Greater = inl refl

satisfies-decided : (version : List ℕ) (bound : Bound) → IsDecided (Satisfies version bound)
satisfies-decided version bound = order-decided bound.op (version_cmp version bound.version)

architecture-decided : (architecture : Option (List ℕ)) (name : List ℕ) → IsDecided (architecture ≡ Some name)
architecture-decided None name = inr (λ h. cc)
architecture-decided (Some here) name = same-as (λ h. ap (λ (x : List ℕ). Some x) h) (λ h. cc) (text-decided here name)

pub usable-decided : (architecture : Option (List ℕ)) (qualifier : Qualifier)
    → IsDecided (IsUsable architecture qualifier)
usable-decided architecture Plain = inl tt
usable-decided architecture (Named name) =
    either-decided (text-decided name (codes "any"))
    (either-decided (text-decided name (codes "native")) (architecture-decided architecture name))

pub bound-decided : (version : List ℕ) (bound : Option Bound) → IsDecided (IfSome bound (λ b. Satisfies version b))
bound-decided version None = inl tt
bound-decided version (Some bound) = satisfies-decided version bound

entry-bound-decided : (version : Option (List ℕ)) (bound : Option Bound)
    → IsDecided (IfSome bound (λ b. IsSomeAnd version (λ v. Satisfies v b)))
entry-bound-decided version None = inl tt
entry-bound-decided None (Some bound) = inr (λ h. h)
entry-bound-decided (Some version) (Some bound) = satisfies-decided version bound

name-decided : (atom : Atom) (p : Package) → IsDecided (MatchesByName atom p)
name-decided atom p =
    same-as (λ h. record { name = h.0; bound = h.1 }) (λ h. (h.name, h.bound))
    (both-decided (text-decided p.name atom.name) (bound-decided p.version atom.bound))

pub entry-decided : (architecture : Option (List ℕ)) (atom : Atom) (entry : Provide)
    → IsDecided (MatchesByEntry architecture atom entry)
entry-decided architecture atom entry =
    same-as (λ h. record { usable = h.0; name = h.1.0; bound = h.1.1 }) (λ h. (h.usable, (h.name, h.bound)))
    (both-decided (usable-decided architecture entry.qualifier)
    (both-decided (text-decided entry.name atom.name) (entry-bound-decided entry.version atom.bound)))

pub matches-decided : (architecture : Option (List ℕ)) (atom : Atom) (p : Package)
    → IsDecided (Matches architecture atom p)
matches-decided architecture atom p =
    same-as (λ h. record { usable = h.0; matched = h.1 }) (λ h. (h.usable, h.matched))
    (both-decided (usable-decided architecture atom.qualifier)
    (either-decided (name-decided atom p) (any-decided (MatchesByEntry architecture atom)
    (entry-decided architecture atom) p.provides)))

pub met-decided : (architecture : Option (List ℕ)) (members : List Package) (item : List Atom)
    → IsDecided (IsMet architecture members item)
met-decided architecture members item =
    any-decided (λ atom. Any (Matches architecture atom) members)
    (λ atom. any-decided (Matches architecture atom) (matches-decided architecture atom) members) item

same-decided : (p q : Package) → IsDecided (IsSamePackage p q)
same-decided p q = both-decided (text-decided p.name q.name) (equal-decided (version_cmp p.version q.version))

rejects-decided : (architecture : Option (List ℕ)) (p q : Package)
    → IsDecided (Any (λ atom. Matches architecture atom q) p.conflicts)
rejects-decided architecture p q = any-decided (λ atom. Matches architecture atom q)
    (λ atom. matches-decided architecture atom q) p.conflicts

pub conflict-decided : (architecture : Option (List ℕ)) (p q : Package) → IsDecided (AreInConflict architecture p q)
conflict-decided architecture p q = elim (both-decided (not-decided (same-decided p q))
    (either-decided (rejects-decided architecture p q) (rejects-decided architecture q p))) [
      | inl both ↦ inl (record { different = both.0; matched = both.1 })
      | inr none ↦ inr (λ conflict. none (conflict.different, conflict.matched))
    ]
