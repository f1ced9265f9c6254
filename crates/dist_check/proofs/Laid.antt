-- The layout that is made of a space lays out its variables.
use Rattle.std.proofs.Common.{◌≡◌, ◌≢◌, ◌⊎◌, ◌↔◌, inl, inr, ℕ, zero, suc, ◌+◌, ◌-◌, ◌<◌, ◌≤◌, List, [], ◌∷◌, ◌++◌}
use Rattle.std.proofs.Common.{length, get_or, map, take, Some}
use Rattle.std.proofs.Common.{refl, sym, ap, subst, zero-add, ◌∙◌, arith, slice_get}
use Rattle.std.specs.List.{Any, Contains, range_with_len}
use Rattle.std.specs.Option.{option_map}
use Rattle.std.specs.Prelude.{slice_index}
use Rattle.std.proofs.lemmas.Bool.{cases_lt}
use Rattle.std.proofs.lemmas.List.{get_or-map, get_or_past, length-map, map_more}
use Rattle.std.proofs.lemmas.List.FromFn.{get_or-map-range_with_len, length-range_with_len, map-range_with_len_more}
use Rattle.std.proofs.lemmas.Option.{get_or_from_slice_get, slice_get-map, slice_get_within}
use Rattle.dist_base.specs.ListLaws.{any-contained, at-has, element-at, here-at}
use Rattle.dist_clause.specs.Formula.{Literal}
use Rattle.dist_cert.specs.Subject.{Cluster, Matter, cluster_at}
use Rattle.dist_cert.specs.declared.records.CertKind.{CertKind}
use Rattle.dist_cert.specs.declared.records.CertKind.TheVariants as kinds
use Rattle.dist_check_group.specs.Layout.{LayoutView, at_class, classes_of, present}
use Rattle.dist_cluster.specs.Partition.{IsIn}
use Rattle.dist_space.specs.ClusterLaws.{in-package, placed-in, has-cluster}
use Rattle.dist_space.specs.Space.{IsMeaning, IsSpace, SpaceView, cluster_classes, variable_of}
use Rattle.dist_space.specs.VariableLaws.{one-meaning, place-at, variable-back, variable-range}
use Rattle.dist_space.specs.declared.meaning.Meaning.{Meaning}
use Rattle.dist_space.specs.declared.meaning.Meaning.TheVariants.{At, Fresh, Kept, New, Now, Present}
use Rattle.dist_subject.specs.Later.{cluster_of, later_matter}
use Rattle.dist_check.specs.LaysOut.{IsCluster, IsPackageIn, IsPair, LaysOut}
use Rattle.dist_check.specs.LayoutPrivate.{HasOwner, class_variables, owner_of}

-- ---- numbers from 1

one-less : (n : ℕ) → n + 1 - 1 ≡ n
one-less n = omega arith

one-more : (n : ℕ) → 1 ≤ n → n - 1 + 1 ≡ n
one-more n from = omega (arith, from)

among-next : (numbers : List ℕ) (n : ℕ) → Contains (map (λ m. m + 1) numbers) (n + 1) ↔ Contains numbers n
among-next numbers n = (
  (λ there.
      let short : there.0 < length numbers = omega (arith, there.1, length-map numbers (λ (m : ℕ). m + 1)) in
      let here : get_or (map (λ (m : ℕ). m + 1) numbers) there.0 (n + 1) ≡ get_or numbers there.0 n + 1 =
      get_or-map (λ (m : ℕ). m + 1) numbers there.0 n (n + 1) short in
      let same : get_or (map (λ (m : ℕ). m + 1) numbers) there.0 (n + 1) ≡ n + 1 = there.2 in
      (there.0, short, omega (arith, here, same))),
  λ there.
      let here : get_or (map (λ (m : ℕ). m + 1) numbers) there.0 (n + 1) ≡ get_or numbers there.0 n + 1 =
      get_or-map (λ (m : ℕ). m + 1) numbers there.0 n (n + 1) there.1 in
      let same : get_or numbers there.0 n ≡ n = there.2 in
      (there.0, omega (arith, there.1, length-map numbers (λ (m : ℕ). m + 1)), omega (arith, here, same)),
)

-- a number in the list of numbers one above is one above a number
from-next : (numbers : List ℕ) (r : ℕ) → Contains (map (λ m. m + 1) numbers) r → (m : ℕ) × Contains numbers m × (m + 1 ≡ r)
from-next numbers r there =
    let short : there.0 < length numbers = omega (arith, there.1, length-map numbers (λ (m : ℕ). m + 1)) in
    let here : get_or (map (λ (m : ℕ). m + 1) numbers) there.0 r ≡ get_or numbers there.0 0 + 1 =
    get_or-map (λ (m : ℕ). m + 1) numbers there.0 0 r short in
    let same : get_or numbers there.0 0 + 1 ≡ r = sym here ∙ there.2 in
    let next : Contains (map (λ m. m + 1) numbers) (get_or numbers there.0 0 + 1) =
    subst (λ (x : ℕ). Contains (map (λ m. m + 1) numbers) x) (sym same) there in
    (get_or numbers there.0 0, (among-next numbers (get_or numbers there.0 0)).0 next, same)

abbrev joined : ℕ → ℕ → ℕ × ℕ
joined c k = (c, k)

-- ---- the layout

-- one more variable
pub owners-more : (s : SpaceView) (place number : ℕ) → HasOwner s (place + 1) number
    → (0 ∷ map (owner_of s) (take place s.meanings)) ++ number ∷ [] ≡ 0 ∷ map (owner_of s) (take (place + 1) s.meanings)
owners-more s place number has =
    let is : slice_get s.meanings place ≡ Some has.0 = ap (λ (k : ℕ). slice_get s.meanings k) (sym (one-less place)) ∙ has.1 in
    let here : get_or s.meanings place has.0 ≡ has.0 = get_or_from_slice_get s.meanings place has.0 has.0 is in
    let front = map (owner_of s) (take place s.meanings) in
    ap (λ (xs : List ℕ). 0 ∷ xs) (sym (map_more (owner_of s) s.meanings place has.0 (slice_get_within s.meanings place has.0 is)
    ∙ ap (λ (m : Meaning). front ++ owner_of s m ∷ []) here ∙ ap (λ (n : ℕ). front ++ n ∷ []) has.2))

-- one more class
pub variables-more : (s : SpaceView) (cluster class number : ℕ) → number ≡ variable_of s (At cluster class)
    → map (λ k. variable_of s (At cluster k)) (range_with_len 0 class) ++ number ∷ []
    ≡ map (λ k. variable_of s (At cluster k)) (range_with_len 0 (class + 1))
variables-more s cluster class number same =
    ap (λ (n : ℕ). map (λ k. variable_of s (At cluster k)) (range_with_len 0 class) ++ n ∷ []) same
    ∙ sym (map-range_with_len_more (λ k. variable_of s (At cluster k)) 0 class class (zero-add class))

abbrev pub laid : CertKind → SpaceView → LayoutView
laid kind s = record {
  kind = kind;
  cluster_of = 0 ∷ map (owner_of s) s.meanings;
  classes = map (class_variables s) (range_with_len 0 (length s.clusters.members));
}

module _ (s : SpaceView) (inputs : List (List Literal)) (space : IsSpace s) where
  abbrev matter : Matter
  matter = later_matter s inputs

  abbrev none_there : Cluster
  none_there = record { members = []; classes = 0 }

  abbrev clusters : ℕ
  clusters = length s.clusters.members

  abbrev owners : List ℕ
  owners = 0 ∷ map (owner_of s) s.meanings

  -- ---- clusters

  cluster-count : length matter.clusters ≡ clusters
  cluster-count = length-map (range_with_len 0 clusters) (cluster_of s) ∙ length-range_with_len 0 clusters

  before : (c : ℕ) → IsCluster matter c → c - 1 < clusters
  before c is = omega (arith, is.0, is.1, cluster-count)

  cluster-is : (c : ℕ) → IsCluster matter c → cluster_at matter c ≡ cluster_of s (c - 1)
  cluster-is c is = get_or-map-range_with_len (cluster_of s) 0 clusters (c - 1) (c - 1) none_there (before c is) (omega arith)

  members-are : (c : ℕ) → IsCluster matter c → (cluster_at matter c).members ≡ map (λ m. m + 1) (get_or s.clusters.members (c - 1) [])
  members-are c is = ap (λ (cluster : Cluster). cluster.members) (cluster-is c is)

  class-count : (c : ℕ) → IsCluster matter c → (cluster_at matter c).classes ≡ length (cluster_classes s (c - 1))
  class-count c is = ap (λ (cluster : Cluster). cluster.classes) (cluster-is c is)

  in-cluster : (c m : ℕ) → c < clusters → Contains (get_or s.clusters.members c []) m ↔ IsIn s.clusters.members c m
  in-cluster c m within =
      let In : List ℕ → Type 0 = λ cluster. Contains cluster m in (
        (λ there.
            let at = element-at s.clusters.members c within in
            at-has In s.clusters.members c at.element at.is
            (subst In (get_or_from_slice_get s.clusters.members c at.element [] at.is) there)),
        λ is_in.
            let at = here-at In s.clusters.members c is_in in
            subst In (sym (get_or_from_slice_get s.clusters.members c at.element [] at.is)) at.holds,
      )

  -- a package is in a cluster exactly where it is placed there
  placed-at : (c m : ℕ) → c < clusters → Contains (get_or s.clusters.members c []) m → slice_index s.cluster_of m ≡ c
  placed-at c m within there = placed-in s space.frame c m ((in-cluster c m within).0 there)

  placed-there : (c m : ℕ) → m < length s.repository.packages → slice_index s.cluster_of m ≡ c
      → Contains (get_or s.clusters.members c []) m
  placed-there c m short same =
      subst (λ (x : ℕ). Contains (get_or s.clusters.members x []) m) same (has-cluster s space.frame m short).there

  is-package : (c m : ℕ) → c < clusters → Contains (get_or s.clusters.members c []) m → m < length s.repository.packages
  is-package c m within there =
      let own = in-package s space.frame c m within there in
      slice_get_within s.repository.packages m own.package_is own.is

  -- ---- owners

  owner-at : (m : Meaning) → IsMeaning s m → get_or owners (variable_of s m) 0 ≡ owner_of s m
  owner-at m is =
      let from = (variable-range s m space is).0 in
      let place : suc (variable_of s m - 1) ≡ variable_of s m = omega (arith, from) in
      ap (λ (v : ℕ). get_or owners v 0) (sym place)
      ∙ get_or_from_slice_get (map (owner_of s) s.meanings) (variable_of s m - 1) (owner_of s m) 0
      (slice_get-map (owner_of s) s.meanings (variable_of s m - 1) ∙ ap (option_map (owner_of s)) (place-at s m space is))

  -- the meaning of a variable that has an owner
  record OwnedAt (v c : ℕ) : Type 0 where
    meaning : Meaning
    is : IsMeaning s meaning
    variable : variable_of s meaning ≡ v
    owner : owner_of s meaning ≡ c

  owned-within : (v : ℕ) → v < length s.meanings → (c : ℕ) → get_or owners (suc v) 0 ≡ c → OwnedAt (suc v) c
  owned-within v short c same =
      let at = element-at s.meanings v short in
      let less : suc v - 1 ≡ v = omega arith in
      let is : slice_get s.meanings (suc v - 1) ≡ Some at.element = ap (λ (k : ℕ). slice_get s.meanings k) less ∙ at.is in
      record {
        meaning = at.element;
        is = ((space.meanings.exact at.element).0 (contained s.meanings v at.element at.is)).0;
        variable = variable-back s at.element (suc v) space (omega arith) is;
        owner = sym (get_or_from_slice_get (map (owner_of s) s.meanings) v (owner_of s at.element) 0
            (slice_get-map (owner_of s) s.meanings v ∙ ap (option_map (owner_of s)) at.is)) ∙ same;
      }
    where
      contained : (xs : List Meaning) (k : ℕ) (x : Meaning) → slice_get xs k ≡ Some x → Contains xs x
      contained xs k x at = (k, slice_get_within xs k x at, get_or_from_slice_get xs k x x at)

  owned : (v c : ℕ) → 1 ≤ c → get_or owners v 0 ≡ c → OwnedAt v c
  owned zero c from same = absurd (let none : 0 ≡ c = same in omega (arith, none, from))
  owned (suc v) c from same = elim (cases_lt v (length s.meanings)) [
    | inl less ↦ owned-within v less c same
    | inr past ↦
        let none : get_or owners (suc v) 0 ≡ 0 = get_or_past (map (owner_of s) s.meanings) v 0 (omega (arith, past, length-map s.meanings (owner_of s))) in
        absurd (omega (arith, none, same, from))
  ]

  -- ---- packages

  present-is : (m : ℕ) → matter.present (m + 1) ≡ variable_of s (Present m)
  present-is m = ap (λ (k : ℕ). variable_of s (Present k)) (one-less m)

  new-is : (m k : ℕ) → matter.new (m + 1) (k + 1) ≡ variable_of s (New m k)
  new-is m k = ap (λ (i : ℕ). variable_of s (New i (k + 1 - 1))) (one-less m) ∙ ap (λ (j : ℕ). variable_of s (New m j)) (one-less k)

  abbrev IsOf : ℕ → ℕ → ℕ → Type 0
  IsOf c v r = (v ≡ matter.present r)
      ⊎ ((class : ℕ) × (1 ≤ class) × (class ≤ (cluster_at matter c).classes) × (v ≡ matter.new r class))

  listed : (c m : ℕ) → IsCluster matter c → Contains (get_or s.clusters.members (c - 1) []) m → Contains (cluster_at matter c).members (m + 1)
  listed c m is there = subst (λ (xs : List ℕ). Contains xs (m + 1)) (sym (members-are c is))
      ((among-next (get_or s.clusters.members (c - 1) []) m).1 there)

  package-from : (c v : ℕ) → IsCluster matter c → (m : Meaning) → IsMeaning s m → variable_of s m ≡ v → owner_of s m ≡ c → IsPackageIn matter c v
  package-from c v is Now means same owner = absurd (let none : 0 ≡ c = owner in omega (arith, none, is.0))
  package-from c v is (Present r) means same owner =
      let place : slice_index s.cluster_of r ≡ c - 1 = omega (arith, owner) in
      any-contained (IsOf c v) (cluster_at matter c).members (r + 1) (listed c r is (placed-there (c - 1) r means place))
      (inl (sym same ∙ sym (present-is r)))
  package-from c v is (At d k) means same owner = absurd (let none : 0 ≡ c = owner in omega (arith, none, is.0))
  package-from c v is (New r k) means same owner =
      let place : slice_index s.cluster_of r ≡ c - 1 = omega (arith, owner) in
      let short : k < length (cluster_classes s (c - 1)) = subst (λ (x : ℕ). k < length (cluster_classes s x)) place means.1 in
      any-contained (IsOf c v) (cluster_at matter c).members (r + 1) (listed c r is (placed-there (c - 1) r means.0 place))
      (inr (k + 1, omega arith, omega (arith, short, class-count c is), sym same ∙ sym (new-is r k)))
  package-from c v is (Kept r k j) means same owner = absurd (let none : 0 ≡ c = owner in omega (arith, none, is.0))
  package-from c v is (Fresh x k) means same owner = absurd (let none : 0 ≡ c = owner in omega (arith, none, is.0))

  package-to : (c v m : ℕ) → IsCluster matter c → Contains (get_or s.clusters.members (c - 1) []) m → IsOf c v (m + 1) → get_or owners v 0 ≡ c
  package-to c v m is there (inl now) =
      let placed : slice_index s.cluster_of m ≡ c - 1 = placed-at (c - 1) m (before c is) there in
      let at : get_or owners (variable_of s (Present m)) 0 ≡ slice_index s.cluster_of m + 1 =
      owner-at (Present m) (is-package (c - 1) m (before c is) there) in
      ap (λ (x : ℕ). get_or owners x 0) (now ∙ present-is m) ∙ at ∙ ap (λ (x : ℕ). x + 1) placed ∙ one-more c is.0
  package-to c v m is there (inr (class, from, upto, new)) =
      let placed : slice_index s.cluster_of m ≡ c - 1 = placed-at (c - 1) m (before c is) there in
      let short : class - 1 < length (cluster_classes s (c - 1)) = omega (arith, from, upto, class-count c is) in
      let means : IsMeaning s (New m (class - 1)) = (
        is-package (c - 1) m (before c is) there,
        subst (λ (x : ℕ). class - 1 < length (cluster_classes s x)) (sym placed) short,
      ) in
      let variable : v ≡ variable_of s (New m (class - 1)) =
      new ∙ ap (λ (i : ℕ). variable_of s (New i (class - 1))) (one-less m) in
      let at : get_or owners (variable_of s (New m (class - 1))) 0 ≡ slice_index s.cluster_of m + 1 = owner-at (New m (class - 1)) means in
      ap (λ (x : ℕ). get_or owners x 0) variable ∙ at ∙ ap (λ (x : ℕ). x + 1) placed ∙ one-more c is.0

  -- some number of the cluster has the property
  record SomeOf (c v : ℕ) : Type 0 where
    number : ℕ
    there : Contains (get_or s.clusters.members (c - 1) []) number
    is_of : IsOf c v (number + 1)

  some-of : (c v : ℕ) → IsCluster matter c → IsPackageIn matter c v → SomeOf c v
  some-of c v is any =
      let found : Any (IsOf c v) (map (λ m. m + 1) (get_or s.clusters.members (c - 1) [])) =
      subst (λ (xs : List ℕ). Any (IsOf c v) xs) (members-are c is) any in
      let from = from-next (get_or s.clusters.members (c - 1) []) found.1 (found.0, found.2, found.3) in
      record { number = from.0; there = from.1; is_of = subst (IsOf c v) (sym from.2) found.4 }

  packages-are : (c v : ℕ) → IsCluster matter c → (get_or owners v 0 ≡ c) ↔ IsPackageIn matter c v
  packages-are c v is = (
    (λ same. let at = owned v c is.0 same in package-from c v is at.meaning at.is at.variable at.owner),
    λ any. let some = some-of c v is any in package-to c v some.number is some.there some.is_of,
  )

  own-is : (p c : ℕ) → 1 ≤ p → p ≤ length s.repository.packages → IsCluster matter c
      → (get_or owners (matter.present p) 0 ≡ c) ↔ Contains (cluster_at matter c).members p
  own-is p c from upto is =
      let short : p - 1 < length s.repository.packages = omega (arith, from, upto) in
      let at : get_or owners (matter.present p) 0 ≡ slice_index s.cluster_of (p - 1) + 1 = owner-at (Present (p - 1)) short in
      let back : p - 1 + 1 ≡ p = one-more p from in (
        (λ same.
            let place : slice_index s.cluster_of (p - 1) ≡ c - 1 = omega (arith, at, same) in
            subst (λ (x : ℕ). Contains (cluster_at matter c).members x) back (listed c (p - 1) is (placed-there (c - 1) (p - 1) short place))),
        λ there.
            let next : Contains (map (λ m. m + 1) (get_or s.clusters.members (c - 1) [])) (p - 1 + 1) =
            subst (λ (x : ℕ). Contains (map (λ m. m + 1) (get_or s.clusters.members (c - 1) [])) x) (sym back)
            (subst (λ (xs : List ℕ). Contains xs p) (members-are c is) there) in
            let placed = placed-at (c - 1) (p - 1) (before c is) ((among-next (get_or s.clusters.members (c - 1) []) (p - 1)).0 next) in
            let first : 1 ≤ c = is.0 in
            omega (arith, at, placed, first),
      )

  -- ---- classes

  classes-at : (kind : CertKind) (c : ℕ) → IsCluster matter c → classes_of (laid kind s) c ≡ class_variables s (c - 1)
  classes-at kind c is = get_or-map-range_with_len (class_variables s) 0 clusters (c - 1) (c - 1) [] (before c is) (omega arith)

  count-at : (kind : CertKind) (c : ℕ) → IsCluster matter c → length (classes_of (laid kind s) c) ≡ (cluster_at matter c).classes
  count-at kind c is = ap (λ (xs : List ℕ). length xs) (classes-at kind c is)
      ∙ length-map (range_with_len 0 (length (cluster_classes s (c - 1)))) (λ class. variable_of s (At (c - 1) class))
      ∙ length-range_with_len 0 (length (cluster_classes s (c - 1))) ∙ sym (class-count c is)

  class-within : (c k : ℕ) → IsPair matter (c, k) → k - 1 < length (cluster_classes s (c - 1))
  class-within c k is =
      let from : 1 ≤ k = is.1 in
      let upto : k ≤ (cluster_at matter c).classes = is.2 in
      omega (arith, from, upto, class-count c is.0)

  at-class : (kind : CertKind) (c k : ℕ) → IsPair matter (c, k) → at_class (laid kind s) (c, k) ≡ matter.at c k
  at-class kind c k is =
      ap (λ (xs : List ℕ). get_or xs (k - 1) 0) (classes-at kind c is.0)
      ∙ get_or-map-range_with_len (λ class. variable_of s (At (c - 1) class)) 0 (length (cluster_classes s (c - 1))) (k - 1) (k - 1) 0
      (class-within c k is) (omega arith)

  apart-at : (c k d l : ℕ) → IsPair matter (c, k) → IsPair matter (d, l) → matter.at c k ≡ matter.at d l → (c ≡ d) × (k ≡ l)
  apart-at c k d l is other same =
      let one = one-meaning s (At (c - 1) (k - 1)) (At (d - 1) (l - 1)) space (class-within c k is) (class-within d l other) same in
      let cluster : c - 1 ≡ d - 1 = cc in
      let class : k - 1 ≡ l - 1 = cc in
      let first : 1 ≤ c = is.0.0 in
      let second : 1 ≤ d = other.0.0 in
      let third : 1 ≤ k = is.1 in
      let fourth : 1 ≤ l = other.1 in
      (omega (arith, cluster, first, second), omega (arith, class, third, fourth))

  -- ---- all of it

  pub lays-out : ((variable_of s Now ≡ 1)) → ((number : ℕ) → number < length s.repository.packages → variable_of s (Present number) ≡ number + 2)
      → (kind : CertKind) → kind ≢ kinds.Strong → LaysOut matter (laid kind s)
  lays-out now places kind later = record {
    present_is = λ p from upto. present-at kind later p from (places (p - 1) (omega (arith, from, upto)));
    clusters = length-map (range_with_len 0 clusters) (class_variables s) ∙ length-range_with_len 0 clusters ∙ sym cluster-count;
    classes = count-at kind;
    at_is = λ pair is. at-class kind pair.0 pair.1 is;
    apart = λ pair other is is_other same.
        let both = apart-at pair.0 pair.1 other.0 other.1 is is_other same in
        ap (λ (n : ℕ). joined n pair.1) both.0 ∙ ap (λ (n : ℕ). joined other.0 n) both.1;
    no_package = λ pair is. owner-at (At (pair.0 - 1) (pair.1 - 1)) (class-within pair.0 pair.1 is);
    today = ap (λ (v : ℕ). get_or owners v 0) (sym now) ∙ owner-at Now tt;
    packages = packages-are;
    own = own-is;
  }
    where
      present-at : (kind : CertKind) → kind ≢ kinds.Strong → (p : ℕ) → 1 ≤ p → variable_of s (Present (p - 1)) ≡ p - 1 + 2
          → present kind p ≡ variable_of s (Present (p - 1))
      present-at kinds.Strong later p from at = absurd (later refl)
      present-at kinds.Outdated later p from at = let e : p + 1 ≡ p - 1 + 2 = omega (arith, from) in e ∙ sym at
      present-at kinds.Challenged later p from at = let e : p + 1 ≡ p - 1 + 2 = omega (arith, from) in e ∙ sym at
