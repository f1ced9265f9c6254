-- Lists that are gathered beside other ones, and members of clusters.
use Rattle.std.proofs.Common.{◌≡◌, ◌↔◌, ℕ, zero, suc, ◌+◌, ◌<◌, Bool, List, [], ◌∷◌, ◌++◌, Some, length, get_or, map, refl, sym, ap, subst, ◌∙◌, inl, inr}
use Rattle.std.proofs.Common.{arith, slice_get}
use Rattle.std.specs.Prelude.{All, Any, Contains, IsSomeAnd}
use Rattle.std.proofs.lemmas.Bool.{cases_lt}
use Rattle.std.proofs.lemmas.List.{get_or_past, length-map, length_push}
use Rattle.std.proofs.lemmas.List.Elements.{All-contains}
use Rattle.std.proofs.lemmas.Option.{get_or_from_slice_get, same_Some, slice_get-get_or, slice_get_within}
use Rattle.dist_base.specs.ListLaws.{all-contained, at-has, here-at, within-from}
use Rattle.dist_cluster.specs.Partition.{IsClusterOf, IsIn}
use Rattle.dist_cluster.specs.Relation.{Member, AreClustered}
use Rattle.dist_cluster.specs.Top.{ClusterList}
use Rattle.dist_repo.specs.Order.{IsFlat}
use Rattle.dist_repo.specs.PackageList.{PackageList}
use Rattle.dist_classes.specs.Answers.{AreClustersOf, member_of}
use Rattle.dist_classes.specs.NewNames.{AreNewNames}
use Rattle.dist_classes.specs.declared.class_value.Class.{Class}
use Rattle.dist_space.specs.Kept.{AreClassesBeside, AreExampled, AreNameClassesBeside}
use Rattle.dist_space.specs.Space.{IsFrame, SpaceView}

-- one more element, and those before it
pub push-old : {X : Type 0} (xs : List X) (x d : X) (k : ℕ) → k < length xs → get_or (xs ++ x ∷ []) k d ≡ get_or xs k d
push-old [] x d k short = absurd (omega (arith, short))
push-old (y ∷ xs) x d zero short = refl
push-old (y ∷ xs) x d (suc k) short = push-old xs x d k (omega (arith, short))

pub push-last : {X : Type 0} (xs : List X) (x d : X) → get_or (xs ++ x ∷ []) (length xs) d ≡ x
push-last [] x d = refl
push-last (y ∷ xs) x d = push-last xs x d

pub each-push : {X : Type 0} (P : ℕ → X → Type 0) (xs : List X) (x d : X) (n : ℕ) → length xs ≡ n → ((k : ℕ) → k < n → P k (get_or xs k d)) → P n x → (k : ℕ)
    → k < n + 1 → P k (get_or (xs ++ x ∷ []) k d)
each-push P xs x d n same each last k short = elim (cases_lt k n) [
  | inl less ↦ subst (P k) (sym (push-old xs x d k (omega (arith, less, same)))) (each k less)
  | inr more ↦
      let is : length xs ≡ k = omega (arith, more, short, same) in
      let at : get_or (xs ++ x ∷ []) k d ≡ x = ap (λ (i : ℕ). get_or (xs ++ x ∷ []) i d) (sym is) ∙ push-last xs x d in
      let number : n ≡ k = omega (arith, is, same) in
      subst (λ (i : ℕ). P i (get_or (xs ++ x ∷ []) k d)) number (subst (P n) (sym at) last)
]

-- past the end there is the default
pub each-past : {X : Type 0} (P : X → Type 0) (xs : List X) (d : X) → P d → ((k : ℕ) → k < length xs → P (get_or xs k d)) → (k : ℕ) → P (get_or xs k d)
each-past P xs d at_d each k = elim (cases_lt k (length xs)) [
  | inl less ↦ each k less
  | inr more ↦ subst P (sym (get_or_past xs k d more)) at_d
]

pub none-exampled : AreExampled []
none-exampled k short = absurd (omega (arith, short))

-- the same of what stands at a place
pub get-old : {X : Type 0} (xs : List X) (x : X) (k : ℕ) → k < length xs → slice_get (xs ++ x ∷ []) k ≡ slice_get xs k
get-old [] x k short = absurd (omega (arith, short))
get-old (y ∷ xs) x zero short = refl
get-old (y ∷ xs) x (suc k) short = get-old xs x k (omega (arith, short))

pub get-last : {X : Type 0} (xs : List X) (x : X) → slice_get (xs ++ x ∷ []) (length xs) ≡ Some x
get-last [] x = refl
get-last (y ∷ xs) x = get-last xs x

-- ---- the numbers of clusters

abbrev pub AreNumbers : List (List ℕ) → List ℕ → ℕ → Type 0
AreNumbers clusters numbers n = (c m : ℕ) → m < n → IsIn clusters c m ↔ (slice_get numbers m ≡ Some c)

pub numbers-more : (clusters : List (List ℕ)) (numbers : List ℕ) (n cluster : ℕ) → length numbers ≡ n → AreNumbers clusters numbers n
    → ((c : ℕ) → IsIn clusters c n ↔ (c ≡ cluster)) → AreNumbers clusters (numbers ++ cluster ∷ []) (n + 1)
numbers-more clusters numbers n cluster same are one c m short = elim (cases_lt m n) [
  | inl less ↦
      let old = get-old numbers cluster m (omega (arith, less, same)) in
      (λ is_in. old ∙ (are c m less).0 is_in, λ at. (are c m less).1 (sym old ∙ at))
  | inr more ↦
      let is : length numbers ≡ m = omega (arith, more, short, same) in
      let last : slice_get (numbers ++ cluster ∷ []) m ≡ Some cluster = ap (λ (i : ℕ). slice_get (numbers ++ cluster ∷ []) i) (sym is)
      ∙ get-last numbers cluster in
      let number : n ≡ m = omega (arith, is, same) in (
        λ is_in. last ∙ ap (λ (x : ℕ). Some x) (sym ((one c).0 (subst (IsIn clusters c) (sym number) is_in))),
        λ at. subst (IsIn clusters c) number ((one c).1 (same_Some c cluster (sym at ∙ last))),
      )
]

pub numbers-all : (clusters : List (List ℕ)) (numbers : List ℕ) (n : ℕ) → length numbers ≡ n → ((c m : ℕ) → IsIn clusters c m → m < n)
    → AreNumbers clusters numbers n → (c m : ℕ) → IsIn clusters c m ↔ (slice_get numbers m ≡ Some c)
numbers-all clusters numbers n same within are c m =
    (λ is_in. (are c m (within c m is_in)).0 is_in, λ at. (are c m (omega (arith, slice_get_within numbers m c at, same))).1 at)

-- ---- clusters of a repository

pub member-within : (r : PackageList) (clusters : ClusterList) → AreClustersOf r clusters → (c m : ℕ) → IsIn clusters.members c m → m < length r.packages
member-within r clusters are c m is_in =
    let members = map member_of r.packages in
    let at = here-at (λ (cluster : List ℕ). Contains cluster m) clusters.members c is_in in
    let short = slice_get_within clusters.members c at.element at.is in
    let cluster = get_or clusters.members c [] in
    let there : Contains cluster m = subst (λ (xs : List ℕ). Contains xs m) (sym (get_or_from_slice_get clusters.members c at.element [] at.is)) at.holds in
    let whole = All-contains (IsClusterOf members cluster) cluster m (are.partition.whole c [] short) there in
    let together = (whole m).0 there in
    let inside = within-from (λ (a : Member). IsSomeAnd (slice_get members m) (λ b. AreClustered a b)) members m together in
    omega (arith, inside, length-map r.packages member_of)

pub every-member : (r : PackageList) (clusters : ClusterList) → AreClustersOf r clusters → (m : ℕ) → m < length r.packages
    → Any (λ cluster. Contains cluster m) clusters.members
every-member r clusters are m short = are.partition.every m (omega (arith, short, length-map r.packages member_of))

-- the same of a list that is another one with an element more
pub each-pushed : {X : Type 0} (P : ℕ → X → Type 0) (xs pushed : List X) (x d : X) (n : ℕ) → pushed ≡ xs ++ x ∷ [] → length xs ≡ n
    → ((k : ℕ) → k < n → P k (get_or xs k d)) → P n x → (k : ℕ) → k < n + 1 → P k (get_or pushed k d)
each-pushed {X} P xs pushed x d n is same each last k short = let Q : List X → Type 0 = λ ys. P k (get_or ys k d) in
    subst Q (sym is) (each-push P xs x d n same each last k short)

pub count-pushed : {X : Type 0} (xs pushed : List X) (x : X) (n : ℕ) → pushed ≡ xs ++ x ∷ [] → length xs ≡ n → length pushed ≡ n + 1
count-pushed {X} xs pushed x n is same = let e : length pushed ≡ length (xs ++ x ∷ []) = ap (λ (ys : List X). length ys) is in
    omega (arith, e, length_push xs x, same)

-- ---- a frame

pub framed : (r : PackageList) (essential : Bool) (clusters : ClusterList) (cluster_of : List ℕ) (classes : List (List Class)) (names : List (List ℕ))
    (name_classes : List (List Class)) → IsFlat r.packages → AreClustersOf r clusters
    → ((c m : ℕ) → IsIn clusters.members c m ↔ (slice_get cluster_of m ≡ Some c)) → AreClassesBeside r clusters classes → AreNewNames r names
    → AreNameClassesBeside r names name_classes
    → IsFrame (record {
      repository = r;
      essential = essential;
      clusters = clusters;
      cluster_of = cluster_of;
      classes = classes;
      names = names;
      name_classes = name_classes;
      meanings = [];
    })
framed r essential clusters cluster_of classes names name_classes flat are placed beside are_names names_beside = record {
  flat = flat;
  clusters = are;
  placed = placed;
  classes_beside = beside.beside;
  classes = beside.are;
  examples = beside.examples;
  names = are_names;
  name_classes_beside = names_beside.beside;
  name_classes = names_beside.are;
  name_examples = names_beside.examples;
}

pub members-within : (s : SpaceView) → IsFrame s → (c : ℕ) → c < length s.clusters.members
    → All (λ (m : ℕ). m < length s.repository.packages) (get_or s.clusters.members c [])
members-within s frame c short =
    all-contained (λ (m : ℕ). m < length s.repository.packages) (get_or s.clusters.members c [])
    (λ m there. member-within s.repository s.clusters frame.clusters c m
    (at-has (λ (cluster : List ℕ). Contains cluster m) s.clusters.members c (get_or s.clusters.members c [])
    (slice_get-get_or s.clusters.members c [] short) there))
