-- Worked examples: a package and a rebuild of another one of the same source, and one of another version.
use Rattle.std.proofs.Common.{◌≡◌, ◌⊎◌, ℕ, zero, suc, ◌<◌, List, [], ◌∷◌, length, slice_get, lit<, inl, inr, nat_cmp}
use Rattle.std.proofs.Common.{refl, sym, ap, subst, ◌∙◌, arith}
use Rattle.std.specs.Prelude.{All, Any, Contains, IsSomeAnd, codes, slice_index_or}
use Rattle.std.specs.Cmp.Lexicographic.{slice_cmp}
use Rattle.std.specs.List.Sorted.{IsStrictlyIncreasing}
use Rattle.std.specs.declared.cmp.Ordering.TheVariants.{Less, Equal, Greater}
use Rattle.std.proofs.lemmas.List.Elements.{All-cons, All-nil}
use Rattle.dist_version.specs.Between.{without_rebuild_text}
use Rattle.dist_version.specs.Faults.{fault_of}
use Rattle.dist_version.specs.Order.{version_cmp, part_cmp, weights_of}
use Rattle.dist_version.specs.Spelling.{epoch_of, epoch_digits, after_epoch, upstream_of, revision_of}
use Rattle.dist_cluster.specs.Partition.{IsClusterOf, IsPartition}
use Rattle.dist_cluster.specs.Relation.{Member, AreClustered}
use Rattle.dist_cluster.specs.Top.{IsTop, IsVersionIn}

abbrev library : Member
library = record { source = codes "s"; source_version = codes "1"; version = codes "1" }

abbrev rebuilt : Member
rebuilt = record { source = codes "s"; source_version = codes "0:1"; version = codes "1+b2" }

abbrev newer : Member
newer = record { source = codes "s"; source_version = codes "2"; version = codes "2" }

-- a rebuild stays in its cluster, whatever the text of the source's version
rebuild_example : AreClustered library rebuilt
unfolding without_rebuild_text fault_of epoch_digits after_epoch upstream_of revision_of version_cmp part_cmp weights_of
    epoch_of
rebuild_example = record { source = refl; source_version = refl; version = refl }

-- another version of the source is another cluster
newer_example : ¬ AreClustered library newer
unfolding version_cmp part_cmp weights_of epoch_of epoch_digits after_epoch upstream_of revision_of
newer_example clustered = let no : Less ≡ Equal = clustered.source_version in cc

-- ---- the two that are clustered are one cluster

abbrev both : List Member
both = library ∷ rebuilt ∷ []

abbrev numbers : List ℕ
numbers = 0 ∷ 1 ∷ []

-- a number of the cluster is 0 or 1
number_cases : (n k : ℕ) → k < length numbers → slice_index_or numbers k n ≡ n → (0 ≡ n) ⊎ (1 ≡ n)
number_cases n zero short is = inl is
number_cases n (suc zero) short is = inr is
number_cases n (suc (suc k)) short is = absurd (omega arith)

library_itself : AreClustered library library
unfolding without_rebuild_text fault_of epoch_digits after_epoch upstream_of revision_of version_cmp part_cmp weights_of
    epoch_of
library_itself = record { source = refl; source_version = refl; version = refl }

rebuilt_itself : AreClustered rebuilt rebuilt
unfolding without_rebuild_text fault_of epoch_digits after_epoch upstream_of revision_of version_cmp part_cmp weights_of
    epoch_of
rebuilt_itself = record { source = refl; source_version = refl; version = refl }

rebuild_back : AreClustered rebuilt library
unfolding without_rebuild_text fault_of epoch_digits after_epoch upstream_of revision_of version_cmp part_cmp weights_of
    epoch_of
rebuild_back = record { source = refl; source_version = refl; version = refl }

first_whole : IsClusterOf both numbers 0
first_whole zero = ((λ _. library_itself), λ _. (0, lit< tt, refl))
first_whole (suc zero) = ((λ _. rebuild_example), λ _. (1, lit< tt, refl))
first_whole (suc (suc n)) = (
  (λ there. absurd
      (elim (number_cases (suc (suc n)) there.0 there.1 there.2) [ inl h ↦ omega arith | inr h ↦ omega arith ])),
  λ h. absurd h,
)

second_whole : IsClusterOf both numbers 1
second_whole zero = ((λ _. rebuild_back), λ _. (0, lit< tt, refl))
second_whole (suc zero) = ((λ _. rebuilt_itself), λ _. (1, lit< tt, refl))
second_whole (suc (suc n)) = (
  (λ there. absurd
      (elim (number_cases (suc (suc n)) there.0 there.1 there.2) [ inl h ↦ omega arith | inr h ↦ omega arith ])),
  λ h. absurd h,
)

every_number : (m : ℕ) → m < length both → Any (λ cluster. Contains cluster m) (numbers ∷ [])
every_number zero short = (0, numbers, lit< tt, refl, (0, lit< tt, refl))
every_number (suc zero) short = (0, numbers, lit< tt, refl, (1, lit< tt, refl))
every_number (suc (suc m)) short = absurd (omega arith)

rises : IsStrictlyIncreasing numbers
rises zero short = lit< tt
rises (suc k) short = absurd (omega arith)

partition_example : IsPartition both (numbers ∷ [])
partition_example = record {
  every = every_number;
  some = All-cons (λ (cluster : List ℕ). 0 < length cluster) numbers [] (lit< tt)
      (All-nil (λ (cluster : List ℕ). 0 < length cluster));
  whole = All-cons (λ (cluster : List ℕ). All (IsClusterOf both cluster) cluster) numbers []
      (All-cons (IsClusterOf both numbers) 0 (1 ∷ []) first_whole
      (All-cons (IsClusterOf both numbers) 1 [] second_whole (All-nil (IsClusterOf both numbers))))
      (All-nil (λ (cluster : List ℕ). All (IsClusterOf both cluster) cluster));
  rising = All-cons IsStrictlyIncreasing numbers [] rises (All-nil IsStrictlyIncreasing);
  in_order = λ i j d before short. absurd (omega arith);
}

-- ---- the rebuild is the greatest version of the two

version_cases : (v : List ℕ) → IsVersionIn both numbers v → (codes "1" ≡ v) ⊎ (codes "1+b2" ≡ v)
version_cases v (k, n, short, is, at) =
    let At : ℕ → Type 0 = λ j. IsSomeAnd (slice_get both j) (λ m. m.version ≡ v) in
    elim (number_cases n k short is) [ inl h ↦ inl (subst At (sym h) at) | inr h ↦ inr (subst At (sym h) at) ]

above_first : version_cmp (codes "1+b2") (codes "1") ≡ Greater
unfolding version_cmp part_cmp weights_of epoch_of epoch_digits after_epoch upstream_of revision_of
above_first = refl

as_itself : version_cmp (codes "1+b2") (codes "1+b2") ≡ Equal
unfolding version_cmp part_cmp weights_of epoch_of epoch_digits after_epoch upstream_of revision_of
as_itself = refl

top_example : IsTop both numbers (codes "1+b2")
top_example = record {
  there = (1, 1, lit< tt, refl, refl);
  greatest = λ v is below. elim (version_cases v is) [
    | inl h ↦ let no : Greater ≡ Less = sym above_first ∙ ap (version_cmp (codes "1+b2")) h ∙ below in cc
    | inr h ↦ let no : Equal ≡ Less = sym as_itself ∙ ap (version_cmp (codes "1+b2")) h ∙ below in cc
  ];
  least_text = λ v is equal less. elim (version_cases v is) [
    | inl h ↦ let no : Greater ≡ Equal = sym above_first ∙ ap (version_cmp (codes "1+b2")) h ∙ equal in cc
    | inr h ↦ let no : Equal ≡ Less = ap (λ w. slice_cmp nat_cmp w (codes "1+b2")) h ∙ less in cc
  ];
}
