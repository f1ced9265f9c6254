-- What is spoken of has a variable for each package, and one for each pair of a cluster and a class.
use Rattle.std.proofs.Common.{◌≡◌, ◌≢◌, ℕ, ◌-◌, ◌<◌, ◌≤◌, Bool, List, [], length, get_or, map, ap, subst, ◌∙◌, arith}
use Rattle.std.specs.List.{All, AllPairs, Contains, range_with_len}
use Rattle.std.proofs.lemmas.List.{length-map}
use Rattle.std.proofs.lemmas.List.Elements.{All-map, Contains-get_or}
use Rattle.std.proofs.lemmas.List.FromFn.{get_or-map-range_with_len, length-range_with_len}
use Rattle.dist_clause.specs.Formula.{Literal}
use Rattle.dist_repo.specs.PackageList.{PackageList}
use Rattle.dist_space.specs.RisingLaws.{in-below, pairs-below, pairs-map}
use Rattle.dist_space.specs.Space.{IsMeaning, IsSpace, SpaceView, cluster_classes}
use Rattle.dist_space.specs.declared.meaning.Meaning.{Meaning}
use Rattle.dist_space.specs.declared.meaning.Meaning.TheVariants.{At, Present}
use Rattle.dist_cert.specs.declared.records.CertKind.{CertKind}
use Rattle.dist_cert.specs.declared.records.CertKind.TheVariants as kinds
use Rattle.dist_cert.specs.Subject.{Cluster, Matter}
use Rattle.dist_subject.specs.Basis.{Basis, Today, Later, IsBasisOf, matter_of}
use Rattle.dist_subject.specs.Later.{cluster_of, later_matter}
use Rattle.dist_budget.specs.Budget.{pair_count}
use Rattle.dist_budget.proofs.FewNumbers.{few-of}
use Rattle.dist_budget.proofs.Pairs.{all_pairs, comes-at, length-pairs, pairs-apart}

-- There are at least as many variables as packages, and as pairs. For kind strong there are no others.
pub record HasEnoughVariables (matter : Matter) (kind : CertKind) : Type 0 where
  pub packages : matter.packages ≤ matter.variables
  pub pairs : pair_count matter ≤ matter.variables
  pub no_others : kind ≡ kinds.Strong → matter.variables ≤ matter.packages

abbrev joined : ℕ → ℕ → ℕ × ℕ
joined c k = (c, k)

module _ (s : SpaceView) (inputs : List (List Literal)) (space : IsSpace s) where
  abbrev matter : Matter
  matter = later_matter s inputs

  -- different meanings are at most as many as there are variables
  few-meanings : (meanings : List Meaning) → AllPairs (λ m n. m ≢ n) meanings → All (IsMeaning s) meanings → length meanings ≤ length s.meanings
  few-meanings meanings apart are = few-of meanings s.meanings apart
      (λ k d short. (space.meanings.exact (get_or meanings k d)).1 (are k d short, tt))

  few-packages : matter.packages ≤ matter.variables
  few-packages =
      let packages : List ℕ = range_with_len 0 (length s.repository.packages) in
      let few = few-meanings (map Present packages)
      (pairs-map (λ m n. m ≢ n) Present packages (pairs-below (λ i j. Present i ≢ Present j) (length s.repository.packages)
      (λ i j less same. let number : i ≡ j = cc in omega (arith, less, number))))
      (All-map (IsMeaning s) Present packages
      (λ k d short. in-below (length s.repository.packages) (get_or packages k d) (Contains-get_or packages k d short))) in
      omega (arith, few, length-map packages Present, length-range_with_len 0 (length s.repository.packages))

  abbrev meaning_of : ℕ × ℕ → Meaning
  meaning_of pair = At (pair.0 - 1) (pair.1 - 1)

  -- a pair of what is spoken of has a meaning
  record HasMeaning (pair : ℕ × ℕ) : Type 0 where
    from_one : (1 ≤ pair.0) × (1 ≤ pair.1)
    means : IsMeaning s (meaning_of pair)

  has-meaning : (pair : ℕ × ℕ) → Contains (all_pairs matter) pair → HasMeaning pair
  has-meaning pair there =
      let at = comes-at 1 matter.clusters pair there in
      let clusters = length s.clusters.members in
      let within : at.cluster < clusters =
      omega (arith, at.within, length-map (range_with_len 0 clusters) (cluster_of s), length-range_with_len 0 clusters) in
      let cluster = get_or-map-range_with_len (cluster_of s) 0 clusters at.cluster at.cluster (record { members = []; classes = 0 }) within (omega arith) in
      let short : at.class < length (cluster_classes s at.cluster) = subst (λ (c : Cluster). at.class < c.classes) cluster at.short in
      let left : at.cluster ≡ pair.0 - 1 = omega (arith, at.is.0) in
      let right : at.class ≡ pair.1 - 1 = omega (arith, at.is.1) in
      record {
        from_one = (omega (arith, at.is.0), omega (arith, at.is.1));
        means = subst (λ (c : ℕ). pair.1 - 1 < length (cluster_classes s c)) left
            (subst (λ (k : ℕ). k < length (cluster_classes s at.cluster)) right short);
      }

  same-pair : (p q : ℕ × ℕ) → HasMeaning p → HasMeaning q → meaning_of p ≡ meaning_of q → p ≡ q
  same-pair p q first second same =
      let cluster : p.0 - 1 ≡ q.0 - 1 = cc in
      let class : p.1 - 1 ≡ q.1 - 1 = cc in
      let left : p.0 ≡ q.0 = omega (arith, cluster, first.from_one.0, second.from_one.0) in
      let right : p.1 ≡ q.1 = omega (arith, class, first.from_one.1, second.from_one.1) in
      ap (λ (n : ℕ). joined n p.1) left ∙ ap (λ (n : ℕ). joined q.0 n) right

  few-pairs : pair_count matter ≤ matter.variables
  few-pairs =
      let pairs = all_pairs matter in
      let few = few-meanings (map meaning_of pairs)
      (pairs-map (λ m n. m ≢ n) meaning_of pairs (λ i j d before inside same.
      let early : i < length pairs = omega (arith, before, inside) in
      pairs-apart matter i j d before inside (same-pair (get_or pairs i d) (get_or pairs j d)
      (has-meaning (get_or pairs i d) (Contains-get_or pairs i d early)) (has-meaning (get_or pairs j d) (Contains-get_or pairs j d inside)) same)))
      (All-map (IsMeaning s) meaning_of pairs (λ k d short. (has-meaning (get_or pairs k d) (Contains-get_or pairs k d short)).means)) in
      omega (arith, few, length-map pairs meaning_of, length-pairs matter)

  later-enough : (kind : CertKind) → kind ≢ kinds.Strong → HasEnoughVariables matter kind
  later-enough kind later = record { packages = few-packages; pairs = few-pairs; no_others = λ strong. absurd (later strong) }

pub enough : (r : PackageList) (kind : CertKind) (essential : Bool) (basis : Basis) → IsBasisOf r kind essential basis
    → HasEnoughVariables (matter_of r basis) kind
enough r kinds.Strong essential (Today mode inputs) is = record { packages = omega arith; pairs = omega arith; no_others = λ strong. omega arith }
enough r kinds.Strong essential (Later space inputs) is = absurd is
enough r kinds.Outdated essential (Today mode inputs) is = absurd is
enough r kinds.Outdated essential (Later space inputs) is = later-enough space inputs is.is_space.space kinds.Outdated (λ same. cc)
enough r kinds.Challenged essential (Today mode inputs) is = absurd is
enough r kinds.Challenged essential (Later space inputs) is = later-enough space inputs is.is_space.space kinds.Challenged (λ same. cc)
