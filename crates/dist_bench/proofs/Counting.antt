-- What is counted of a repository, one after another.
use Rattle.std.proofs.Common.{◌≡◌, ◌∙◌, ℕ, ◌+◌, List, [], ◌∷◌, ◌++◌, inl, inr, length, refl, sym, ap, subst, arith, length-append}
use Rattle.std.specs.Prelude.{◌⊎◌, slice_index_or}
use Rattle.std.proofs.lemmas.Bool.{cases_lt}
use Rattle.std.proofs.lemmas.List.{get_or_append_left, get_or_push}
use Rattle.std.proofs.lemmas.List.Sums.{sum_by_push}
use Rattle.dist_base.specs.declared.TheConstants.{MAX_STANZAS}
use Rattle.dist_cluster.specs.Top.{ClusterList}
use Rattle.dist_control.specs.RawStanza.{raw_stanzas}
use Rattle.dist_repo.specs.PackageList.{PackageList}
use Rattle.dist_classes.specs.Answers.{AreClassesOf}
use Rattle.dist_classes.specs.declared.class_value.Class.{Class}
use Rattle.dist_package.specs.FirstFault.{IsRefused}
use Rattle.dist_package.specs.OneAnswer.{HasOneAnswer}
use Rattle.dist_package.specs.declared.error.Fault.{Fault}
use Rattle.dist_package.specs.declared.error.PackagesError.{PackagesError}
use Rattle.dist_package.specs.declared.error.PackagesError.TheVariants.{Bad, TooMany, NoMemory}
use Rattle.dist_bench.specs.Counted.{counted}
use Rattle.dist_bench.specs.Packages.{HasNoPackages, HaveClasses}
use Rattle.dist_bench.specs.declared.error.JobError.TheVariants.{NoPackages}

-- a file that is refused has no repository
pub refused : ((text : List ℕ) (limit : ℕ) → HasOneAnswer text limit) → (text : List ℕ) (error : PackagesError) → IsRefused (raw_stanzas text) MAX_STANZAS error
    → HasNoPackages text NoPackages
refused exact text error is = (refl, λ r file. (exact text MAX_STANZAS).never_both r error file.repository is)

pub refused-bad : ((text : List ℕ) (limit : ℕ) → HasOneAnswer text limit) → (text : List ℕ) (error : PackagesError) (fault : Fault) → error ≡ Bad fault
    → (error ≡ NoMemory) ⊎ IsRefused (raw_stanzas text) MAX_STANZAS error → HasNoPackages text NoPackages
refused-bad exact text error fault is (inl none) = let both : Bad fault ≡ NoMemory = sym is ∙ none in cc
refused-bad exact text error fault is (inr has) = refused exact text error has

pub refused-many : ((text : List ℕ) (limit : ℕ) → HasOneAnswer text limit) → (text : List ℕ) (error : PackagesError) → error ≡ TooMany
    → (error ≡ NoMemory) ⊎ IsRefused (raw_stanzas text) MAX_STANZAS error → HasNoPackages text NoPackages
refused-many exact text error is (inl none) = let both : TooMany ≡ NoMemory = sym is ∙ none in cc
refused-many exact text error is (inr has) = refused exact text error has

-- ---- classes

pub have-none : (r : PackageList) (clusters : ClusterList) → HaveClasses r clusters 0 0
have-none r clusters = record { lists = []; one_each = refl; are = λ place within. absurd (omega arith); is = refl }

pub have-more : (r : PackageList) (clusters : ClusterList) (first number : ℕ) (list : List Class) → HaveClasses r clusters first number
    → AreClassesOf r (slice_index_or clusters.members first []) (slice_index_or clusters.tops first []) list
    → HaveClasses r clusters (first + 1) (number + length list)
have-more r clusters first number list before here = record {
  lists = before.lists ++ list ∷ [];
  one_each = omega (arith, length-append before.lists (list ∷ []), before.one_each);
  are = λ place within. elim (cases_lt place first) [
    | inl earlier ↦ subst (λ (classes : List Class). AreClassesOf r (slice_index_or clusters.members place []) (slice_index_or clusters.tops place []) classes)
        (sym (get_or_append_left before.lists (list ∷ []) [] place (omega (arith, before.one_each)))) (before.are place earlier)
    | inr later ↦ subst (λ (n : ℕ). AreClassesOf r (slice_index_or clusters.members n []) (slice_index_or clusters.tops n [])
        (slice_index_or (before.lists ++ list ∷ []) n []))
        (omega arith)
        (subst (λ (classes : List Class). AreClassesOf r (slice_index_or clusters.members first []) (slice_index_or clusters.tops first []) classes)
        (sym (get_or_push before.lists list [] first before.one_each)) here)
  ];
  is = ap (λ (n : ℕ). n + length list) before.is ∙ sym (sum_by_push (λ (l : List Class). length l) before.lists list);
}

-- three counts, one behind the other
pub three-counts : (first second third : List ℕ) (a b d a-told d-told : ℕ) (one two three : List ℕ) → one ≡ counted a-told first → a-told ≡ a →
    two ≡ one ++ counted b second → three ≡ two ++ counted d-told third → d-told ≡ d →
    three ≡ (counted a first ++ counted b second) ++ counted d third
three-counts first second third a b d a-told d-told one two three is-one is-a is-two is-three is-d =
    is-three
    ∙ ap (λ (text : List ℕ). text ++ counted d-told third) (is-two
    ∙ ap (λ (text : List ℕ). text ++ counted b second) (is-one ∙ ap (λ (n : ℕ). counted n first) is-a))
    ∙ ap (λ (n : ℕ). (counted a first ++ counted b second) ++ counted n third) is-d
