-- Laws of the variables of pairs: what they mean, and their order, which is that of the pairs. Proofs cite them, those
-- of the crates above too.
use Rattle.std.proofs.Common.{◌≡◌, inl, inr, ℕ, ◌+◌, ◌-◌, ◌<◌, ◌≤◌, List, [], ◌∷◌, length, get_or, Some, ap, sym, subst}
use Rattle.std.proofs.Common.{arith, slice_get}
use Rattle.std.specs.List.{Contains, All}
use Rattle.std.specs.Prelude.{slice_index}
use Rattle.std.proofs.lemmas.Bool.{cases_eq, cases_lt}
use Rattle.std.proofs.lemmas.Option.{get_or_from_slice_get, slice_get_within}
use Rattle.dist_base.specs.ListLaws.{at-has, contains-at, element-at}
use Rattle.dist_cluster.specs.Partition.{IsIn}
use Rattle.dist_space.specs.ClusterLaws.{has-cluster}
use Rattle.dist_space.specs.Space.{IsMeaning, IsSpace, SpaceView, variable_of, StandsBefore}
use Rattle.dist_space.specs.VariableLaws.{variable-back}
use Rattle.dist_space.specs.declared.meaning.Meaning.{Meaning}
use Rattle.dist_space.specs.declared.meaning.Meaning.TheVariants.{Now, At}
use Rattle.dist_covering.specs.Used.{cluster_at, cluster_meant, pair_at, pair_meant}
use Rattle.dist_covering.specs.OpenPairs.{IsPairVariable}
use Rattle.dist_cert.specs.ClaimRules.{IsPairBelow}
use Rattle.dist_space.specs.KeyLaws.{IsLess, cmp-less}

-- the meaning of a variable
pub record Means (s : SpaceView) (variable : ℕ) (m : Meaning) : Type 0 where
  pub is : slice_get s.meanings (variable - 1) ≡ Some m
  pub is_meaning : IsMeaning s m
  pub back : variable_of s m ≡ variable

pub means : (s : SpaceView) (variable : ℕ) (m : Meaning) → IsSpace s → 1 ≤ variable
    → slice_get s.meanings (variable - 1) ≡ Some m
    → Means s variable m
means s variable m space from is = record {
  is = is;
  is_meaning = ((space.meanings.exact m).0 (contains-at s.meanings (variable - 1) m is)).0;
  back = variable-back s m variable space from is;
}

pub cluster-is : (s : SpaceView) (variable : ℕ) (m : Meaning) → slice_get s.meanings (variable - 1) ≡ Some m
    → cluster_at s variable ≡ cluster_meant s m
cluster-is s variable m is = ap (λ (x : Meaning). cluster_meant s x)
    (get_or_from_slice_get s.meanings (variable - 1) m Now is)

pair-is : (s : SpaceView) (variable : ℕ) (m : Meaning) → slice_get s.meanings (variable - 1) ≡ Some m
    → pair_at s variable ≡ pair_meant m
pair-is s variable m is = ap (λ (x : Meaning). pair_meant x) (get_or_from_slice_get s.meanings (variable - 1) m Now is)

-- the package is in its cluster
pub in-own : (s : SpaceView) (r cluster : ℕ) → IsSpace s → r < length s.repository.packages
    → slice_index s.cluster_of r ≡ cluster
    → IsIn s.clusters.members cluster r
in-own s r cluster space short is =
    let has = has-cluster s space.frame r short in
    let at = element-at s.clusters.members (slice_index s.cluster_of r) has.within in
    subst (λ (c : ℕ). IsIn s.clusters.members c r) is
    (at-has (λ (members : List ℕ). Contains members r) s.clusters.members (slice_index s.cluster_of r) at.element at.is
    (subst (λ (members : List ℕ). Contains members r) (get_or_from_slice_get s.clusters.members (slice_index
    s.cluster_of r) at.element [] at.is) has.there))

pub own-within : (s : SpaceView) (r : ℕ) → IsSpace s → r < length s.repository.packages
    → slice_index s.cluster_of r < length s.clusters.members
own-within s r space short = (has-cluster s space.frame r short).within

pub variable-inside : (s : SpaceView) (own at : ℕ) → IsPairVariable s own at → (1 ≤ at) × (at ≤ length s.meanings)
variable-inside s own at v =
    let within = slice_get_within s.meanings (at - 1) (At v.cluster v.class) v.is in (
      v.from_one,
      omega (
        arith,
        within,
        v.from_one,
      ),
    )

pub all-inside : (s : SpaceView) (own : ℕ) (ats : List ℕ) → All (IsPairVariable s own) ats
    → All (λ at. (1 ≤ at) × (at ≤ length s.meanings)) ats
all-inside s own ats all k d within = variable-inside s own (get_or ats k d) (all k d within)

less-below : (c k d l : ℕ) → IsLess (2 ∷ c ∷ k ∷ []) (2 ∷ d ∷ l ∷ []) → IsPairBelow (c + 1, k + 1) (d + 1, l + 1)
less-below c k d l (inl less) = absurd (omega (arith, less))
less-below c k d l (inr rest) = by rest.1
  where
    by : IsLess (c ∷ k ∷ []) (d ∷ l ∷ []) → IsPairBelow (c + 1, k + 1) (d + 1, l + 1)
    by (inl less) = inl (omega (arith, less))
    by (inr later) = last later.0 later.1
      where
        last : c ≡ d → IsLess (k ∷ []) (l ∷ []) → IsPairBelow (c + 1, k + 1) (d + 1, l + 1)
        last same (inl less) = inr (omega (arith, same), omega (arith, less))
        last same (inr none) = absurd none.1

places-below : (s : SpaceView) (a b c k d l : ℕ) → IsSpace s → 1 ≤ a → a < b
    → slice_get s.meanings (a - 1) ≡ Some (At c k)
    → slice_get s.meanings (b - 1) ≡ Some (At d l) → IsPairBelow (c + 1, k + 1) (d + 1, l + 1)
places-below s a b c k d l space from less first second =
    let within = slice_get_within s.meanings (b - 1) (At d l) second in
    let stands : StandsBefore s (get_or s.meanings (a - 1) Now) (get_or s.meanings (b - 1) Now) =
    space.meanings.rising (a - 1) (b - 1) Now (omega (arith, from, less)) within in
    let one : StandsBefore s (At c k) (get_or s.meanings (b - 1) Now) =
    subst (λ (m : Meaning). StandsBefore s m (get_or s.meanings (b - 1) Now)) (get_or_from_slice_get s.meanings (a - 1)
    (At c k) Now first) stands in
    let two : StandsBefore s (At c k) (At d l) =
    subst (λ (m : Meaning). StandsBefore s (At c k) m) (get_or_from_slice_get s.meanings (b - 1) (At d l) Now second)
    one in
    less-below c k d l (cmp-less (2 ∷ c ∷ k ∷ []) (2 ∷ d ∷ l ∷ []) two)

not-both : (p q : ℕ × ℕ) → IsPairBelow p q → IsPairBelow q p → ⊥
not-both p q (inl x) (inl y) = omega (arith, x, y)
not-both p q (inl x) (inr y) = omega (arith, x, y.0)
not-both p q (inr x) (inl y) = omega (arith, x.0, y)
not-both p q (inr x) (inr y) = omega (arith, x.1, y.1)

not-itself : (p : ℕ × ℕ) → IsPairBelow p p → ⊥
not-itself p (inl x) = omega (arith, x)
not-itself p (inr x) = omega (arith, x.1)

pub variable-pair : (s : SpaceView) (own at : ℕ) (v : IsPairVariable s own at)
    → pair_at s at ≡ (v.cluster + 1, v.class + 1)
variable-pair s own at v = pair-is s at (At v.cluster v.class) v.is

pub pair-below : (s : SpaceView) (own a b : ℕ) → IsSpace s → IsPairVariable s own a → IsPairVariable s own b → a < b
    → IsPairBelow (pair_at s a) (pair_at s b)
pair-below s own a b space v u less =
    subst (λ (p : ℕ × ℕ). IsPairBelow p (pair_at s b)) (sym (variable-pair s own a v))
    (subst (λ (q : ℕ × ℕ). IsPairBelow (v.cluster + 1, v.class + 1) q) (sym (variable-pair s own b u))
    (places-below s a b v.cluster v.class u.cluster u.class space v.from_one less v.is u.is))

pub variable-below : (s : SpaceView) (own a b : ℕ) → IsSpace s → IsPairVariable s own a → IsPairVariable s own b
    → IsPairBelow (pair_at s a) (pair_at s b) → a < b
variable-below s own a b space v u below = elim (cases_lt a b) [
  | inl less ↦ less
  | inr past ↦ elim (cases_eq a b) [
    | inl same ↦ absurd (not-itself (pair_at s b) (subst (λ (n : ℕ). IsPairBelow (pair_at s n) (pair_at s b)) same
        below))
    | inr other ↦ absurd (not-both (pair_at s a) (pair_at s b) below (pair-below s own b a space u v (omega (
      arith,
      past,
      other,
    ))))
  ]
]
