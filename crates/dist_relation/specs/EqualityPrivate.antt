-- Equality of what relations have: names and versions by their texts as bytes. Each test holds of a value and itself
-- alone.
use Rattle.std.specs.Prelude.{◌≡◌, Bool, true, false, ◌&&◌, Option, None, Some, bytes_eq}
use Rattle.std.specs.Bool.{Decides}
use Rattle.std.specs.Cmp.{IsEquivalence, first_so, second_so, both_ways}
use Rattle.std.specs.Cmp.Lexicographic.{pointwise, pointwise_decides, bytes_decides}
use Rattle.std.specs.Option.{option_eq}
use Rattle.std.proofs.Common.{refl, sym, ap, ap₂, ◌∙◌, subst, true≢false}
use Rattle.dist_relation.specs.declared.atom.Atom.{Atom}
use Rattle.dist_relation.specs.declared.atom.Bound.{Bound}
use Rattle.dist_relation.specs.declared.atom.Op.{Op}
use Rattle.dist_relation.specs.declared.atom.Op.TheVariants.{Lt, Le, Eq, Ge, Gt}
use Rattle.dist_relation.specs.declared.atom.Provide.{Provide}
use Rattle.dist_relation.specs.declared.atom.Qualifier.{Qualifier}
use Rattle.dist_relation.specs.declared.atom.Qualifier.TheVariants.{Plain, Named}

-- the same operator
abbrev pub op_eq : Op → Op → Bool
op_eq Lt Lt = true
op_eq Le Le = true
op_eq Eq Eq = true
op_eq Ge Ge = true
op_eq Gt Gt = true
op_eq op other = false

-- no qualifier, or the same one
abbrev pub qualifier_eq : Qualifier → Qualifier → Bool
qualifier_eq Plain Plain = true
qualifier_eq (Named name) (Named other) = bytes_eq name other
qualifier_eq qualifier other = false

-- the same operator and version text
abbrev pub bound_eq : Bound → Bound → Bool
bound_eq bound other = op_eq bound.op other.op && bytes_eq bound.version other.version

abbrev pub atom_eq : Atom → Atom → Bool
atom_eq atom other = bytes_eq atom.name other.name
    && (qualifier_eq atom.qualifier other.qualifier && option_eq bound_eq atom.bound other.bound)

abbrev pub provide_eq : Provide → Provide → Bool
provide_eq provide other = bytes_eq provide.name other.name
    && (qualifier_eq provide.qualifier other.qualifier && option_eq bytes_eq provide.version other.version)

-- ---- each of these tests holds exactly of a value and itself

abbrev pub DecidesEquality : {X : Type 0} → (X → X → Bool) → Type 0
DecidesEquality {X} E = (a b : X) → Decides (E a b) (a ≡ b)

abbrev pub decides : {X : Type 0} → (E : X → X → Bool) → ((a b : X) → E a b ≡ true → a ≡ b) → ((a : X) → E a a ≡ true)
    → DecidesEquality E
decides E same itself a b = (same a b, λ e. subst (λ x. E a x ≡ true) e (itself a))

pub equivalence : {X : Type 0} {E : X → X → Bool} → DecidesEquality E → IsEquivalence E
equivalence {X} {E} d = record {
  refl = λ x. (d x x).1 refl;
  symm = λ x y. both_ways (E x y) (E y x) (λ h. (d y x).1 (sym ((d x y).0 h))) (λ h. (d x y).1 (sym ((d y x).0 h)));
  congr = λ x y z h. ap (λ w. E w z) ((d x y).0 h);
}

-- what such a test answers of two values, which contracts see as x and y
pub answers_equality : {X : Type 0} {E : X → X → Bool} → DecidesEquality E → (answer : Bool) (a b x y : X)
    → answer ≡ E a b → a ≡ x → b ≡ y → Decides answer (x ≡ y)
answers_equality d answer a b x y is p q =
    (λ h. sym p ∙ (d a b).0 (sym is ∙ h) ∙ q, λ h. is ∙ (d a b).1 (p ∙ h ∙ sym q))

option_same : {X : Type 0} {E : X → X → Bool} → DecidesEquality E → (a b : Option X) → option_eq E a b ≡ true → a ≡ b
option_same d None None h = refl
option_same d (Some x) (Some y) h = ap Some ((d x y).0 h)
option_same d None (Some y) h = absurd (true≢false (sym h))
option_same d (Some x) None h = absurd (true≢false (sym h))

option_itself : {X : Type 0} {E : X → X → Bool} → DecidesEquality E → (a : Option X) → option_eq E a a ≡ true
option_itself d None = refl
option_itself d (Some x) = (d x x).1 refl

pub option_decides : {X : Type 0} {E : X → X → Bool} → DecidesEquality E → DecidesEquality (option_eq E)
option_decides {X} {E} d = decides (option_eq E) (option_same d) (option_itself d)

op_same : (a b : Op) → op_eq a b ≡ true → a ≡ b
op_same Lt Lt h = refl
op_same Le Le h = refl
op_same Eq Eq h = refl
op_same Ge Ge h = refl
op_same Gt Gt h = refl
op_same op other h = absurd (true≢false (sym h))

op_itself : (op : Op) → op_eq op op ≡ true
op_itself Lt = refl
op_itself Le = refl
op_itself Eq = refl
op_itself Ge = refl
op_itself Gt = refl

pub op_decides : DecidesEquality op_eq
op_decides = decides op_eq op_same op_itself

qualifier_same : (a b : Qualifier) → qualifier_eq a b ≡ true → a ≡ b
qualifier_same Plain Plain h = refl
qualifier_same (Named name) (Named other) h = ap Named ((bytes_decides name other).0 h)
qualifier_same qualifier other h = absurd (true≢false (sym h))

qualifier_itself : (qualifier : Qualifier) → qualifier_eq qualifier qualifier ≡ true
qualifier_itself Plain = refl
qualifier_itself (Named name) = (bytes_decides name name).1 refl

pub qualifier_decides : DecidesEquality qualifier_eq
qualifier_decides = decides qualifier_eq qualifier_same qualifier_itself

bound_same : (a b : Bound) → bound_eq a b ≡ true → a ≡ b
bound_same a b h =
    let op = (op_decides a.op b.op).0 (first_so (op_eq a.op b.op) (bytes_eq a.version b.version) h) in
    let version = (bytes_decides a.version b.version).0 (second_so (op_eq a.op b.op) (bytes_eq a.version b.version) h)
    in
    λ i. record { op = op i; version = version i }

bound_itself : (bound : Bound) → bound_eq bound bound ≡ true
bound_itself bound = ap₂ ◌&&◌ (op_itself bound.op) ((bytes_decides bound.version bound.version).1 refl)

pub bound_decides : DecidesEquality bound_eq
bound_decides = decides bound_eq bound_same bound_itself

atom_same : (a b : Atom) → atom_eq a b ≡ true → a ≡ b
atom_same a b h =
    let rest = second_so (bytes_eq a.name b.name)
    (qualifier_eq a.qualifier b.qualifier && option_eq bound_eq a.bound b.bound) h in
    let name = (bytes_decides a.name b.name).0
    (first_so (bytes_eq a.name b.name) (qualifier_eq a.qualifier b.qualifier && option_eq bound_eq a.bound b.bound)
    h) in
    let qualifier = (qualifier_decides a.qualifier b.qualifier).0
    (first_so (qualifier_eq a.qualifier b.qualifier) (option_eq bound_eq a.bound b.bound) rest) in
    let bound = (option_decides bound_decides a.bound b.bound).0
    (second_so (qualifier_eq a.qualifier b.qualifier) (option_eq bound_eq a.bound b.bound) rest) in
    λ i. record { name = name i; qualifier = qualifier i; bound = bound i }

atom_itself : (atom : Atom) → atom_eq atom atom ≡ true
atom_itself atom = ap₂ ◌&&◌ ((bytes_decides atom.name atom.name).1 refl)
    (ap₂ ◌&&◌ (qualifier_itself atom.qualifier) (option_itself bound_decides atom.bound))

pub atom_decides : DecidesEquality atom_eq
atom_decides = decides atom_eq atom_same atom_itself

provide_same : (a b : Provide) → provide_eq a b ≡ true → a ≡ b
provide_same a b h =
    let rest = second_so (bytes_eq a.name b.name)
    (qualifier_eq a.qualifier b.qualifier && option_eq bytes_eq a.version b.version) h in
    let name = (bytes_decides a.name b.name).0
    (first_so (bytes_eq a.name b.name) (qualifier_eq a.qualifier b.qualifier
    && option_eq bytes_eq a.version b.version) h) in
    let qualifier = (qualifier_decides a.qualifier b.qualifier).0
    (first_so (qualifier_eq a.qualifier b.qualifier) (option_eq bytes_eq a.version b.version) rest) in
    let version = (option_decides bytes_decides a.version b.version).0
    (second_so (qualifier_eq a.qualifier b.qualifier) (option_eq bytes_eq a.version b.version) rest) in
    λ i. record { name = name i; qualifier = qualifier i; version = version i }

provide_itself : (provide : Provide) → provide_eq provide provide ≡ true
provide_itself provide = ap₂ ◌&&◌ ((bytes_decides provide.name provide.name).1 refl)
    (ap₂ ◌&&◌ (qualifier_itself provide.qualifier) (option_itself bytes_decides provide.version))

pub provide_decides : DecidesEquality provide_eq
provide_decides = decides provide_eq provide_same provide_itself

pub atoms_decide : DecidesEquality (pointwise atom_eq)
atoms_decide = pointwise_decides atom_decides

pub items_decide : DecidesEquality (pointwise (pointwise atom_eq))
items_decide = pointwise_decides atoms_decide

pub provides_decide : DecidesEquality (pointwise provide_eq)
provides_decide = pointwise_decides provide_decides
