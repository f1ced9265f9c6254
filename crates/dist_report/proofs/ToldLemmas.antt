-- What is told of the clusters and new names so far, and of all.
use Rattle.std.proofs.Common.{◌≡◌, ℕ, zero, suc, ◌+◌, ◌<◌, ◌≤◌, List, [], ◌∷◌, ◌++◌, append_assoc, append-nil, codes, length, map, get_or, take, Option, None}
use Rattle.std.proofs.Common.{Some, refl, sym, ap, subst, ◌∙◌, arith, slice_get}
use Rattle.std.specs.Prelude.{◌==◌, All, Contains, IsSomeAnd}
use Rattle.std.specs.List.{flat_map}
use Rattle.std.proofs.lemmas.List.{flat_map_more, get_or_default, length-map, map-append, take_more}
use Rattle.std.proofs.lemmas.List.Elements.{All-nil, All-push}
use Rattle.std.proofs.lemmas.Option.{get_or_from_slice_get, slice_get_within}
use Rattle.dist_cluster.specs.Partition.{IsClusterOf}
use Rattle.dist_cluster.specs.Relation.{Member, AreClustered, AreTogether}
use Rattle.dist_cluster.specs.Top.{ClusterList}
use Rattle.dist_repo.specs.PackageList.{PackageList}
use Rattle.dist_classes.specs.Answers.{AreClassesOf, AreClassesOfName, AreClustersOf, member_of}
use Rattle.dist_classes.specs.ClassList.{HasExample}
use Rattle.dist_classes.specs.NewNames.{AreNewNames}
use Rattle.dist_classes.specs.declared.class_value.Class.{Class}
use Rattle.dist_report.specs.ClassesReport.{AreToldClusters, ToldCluster, ToldName, cluster_lines, name_lines}
use Rattle.dist_report.specs.Lines.{key_line}
use Rattle.dist_report.specs.WrittenPrivate.{TellsClusters, TellsNames}

pub take-past : {X : Type 0} (xs : List X) (k : ℕ) → length xs ≤ k → take k xs ≡ xs
take-past [] zero past = refl
take-past [] (suc k) past = refl
take-past (x ∷ xs) zero past = absurd (omega arith)
take-past (x ∷ xs) (suc k) past = ap (λ list. x ∷ list) (take-past xs k (omega arith))

pub all-more : {X : Type 0} (P : X → Type 0) (xs : List X) (k : ℕ) (x : X) → slice_get xs k ≡ Some x → All P (take k xs) → P x → All P (take (k + 1) xs)
all-more {X} P xs k x is all here =
    let Every : List X → Type 0 = All P in
    let one : get_or xs k x ≡ x = get_or_from_slice_get xs k x x is in
    let more : take (k + 1) xs ≡ take k xs ++ x ∷ [] = take_more xs k x (slice_get_within xs k x is) ∙ ap (λ y. take k xs ++ y ∷ []) one in
    subst Every (sym more) (All-push P (take k xs) x all here)

-- ---- the members of a cluster are packages

standing-within : {X : Type 0} (P : X → Type 0) (xs : List X) (k : ℕ) (o : Option X) → slice_get xs k ≡ o → IsSomeAnd o P → k < length xs
standing-within P xs k None is h = absurd h
standing-within P xs k (Some x) is h = slice_get_within xs k x is

together-within : (r : PackageList) (m n : ℕ) → AreTogether (map member_of r.packages) m n → m < length r.packages
together-within r m n together =
    let keys : List Member = map member_of r.packages in
    let short = standing-within (λ (a : Member). IsSomeAnd (slice_get keys n) (λ b. AreClustered a b)) keys m (slice_get keys m) refl together in
    omega (arith, length-map r.packages member_of)

pub members-within : (r : PackageList) (clusters : ClusterList) → AreClustersOf r clusters → (c : ℕ) (members : List ℕ)
    → slice_get clusters.members c ≡ Some members →
    All (λ n. n < length r.packages) members
members-within r clusters are c members is k d short =
    let inside = slice_get_within clusters.members c members is in
    let same : get_or clusters.members c [] ≡ members = get_or_from_slice_get clusters.members c members [] is in
    let Whole : List ℕ → Type 0 = λ list. All (IsClusterOf (map member_of r.packages) list) list in
    let whole = subst Whole same (are.partition.whole c [] inside) in
    let m = get_or members k d in
    let there : Contains members m = (k, short, get_or_default members k m d short) in
    together-within r m m ((whole k d short m).0 there)

pub some-members : (r : PackageList) (clusters : ClusterList) → AreClustersOf r clusters → (c : ℕ) (members : List ℕ)
    → slice_get clusters.members c ≡ Some members → 0 < length members
some-members r clusters are c members is =
    let inside = slice_get_within clusters.members c members is in
    let same : get_or clusters.members c [] ≡ members = get_or_from_slice_get clusters.members c members [] is in
    let Has : List ℕ → Type 0 = λ list. 0 < length list in
    subst Has same (are.partition.some c [] inside)

-- ---- clusters that are told so far, of which something holds

pub record AreToldSoFar (r : PackageList) (clusters : ClusterList) (k : ℕ) (Holds : List ToldCluster → Type 0) : Type 0 where
  pub told : List ToldCluster
  pub members : map (λ t. t.members) told ≡ take k clusters.members
  pub tops : map (λ t. t.top) told ≡ take k clusters.tops
  pub classes : All (λ t. AreClassesOf r t.members t.top t.classes) told
  pub examples : All (λ t. All HasExample t.classes) told
  pub holds : Holds told

pub told-none : (r : PackageList) (clusters : ClusterList) (Holds : List ToldCluster → Type 0) → Holds [] → AreToldSoFar r clusters 0 Holds
told-none r clusters Holds holds = record {
  told = [];
  members = refl;
  tops = refl;
  classes = All-nil (λ (t : ToldCluster). AreClassesOf r t.members t.top t.classes);
  examples = All-nil (λ (t : ToldCluster). All HasExample t.classes);
  holds = holds;
}

map-push : (f : ToldCluster → List ℕ) (told : List ToldCluster) (t : ToldCluster) (whole : List (List ℕ)) (k : ℕ) → k < length whole → map f told ≡ take k whole
    → f t ≡ get_or whole k [] →
    map f (told ++ t ∷ []) ≡ take (k + 1) whole
map-push f told t whole k short so_far here =
    map-append f told (t ∷ []) ∙ ap (λ list. list ++ f t ∷ []) so_far ∙ ap (λ (x : List ℕ). take k whole ++ x ∷ []) here ∙ sym (take_more whole k [] short)

-- the cluster of a number with these classes
abbrev pub told-at : ClusterList → ℕ → List Class → ToldCluster
told-at clusters k classes = record { members = get_or clusters.members k []; top = get_or clusters.tops k []; classes = classes }

pub told-more : (r : PackageList) (clusters : ClusterList) (k : ℕ) (classes : List Class) (Holds Later : List ToldCluster → Type 0)
    → k < length clusters.members → length clusters.tops ≡ length clusters.members → AreToldSoFar r clusters k Holds
    → AreClassesOf r (get_or clusters.members k []) (get_or clusters.tops k []) classes → All HasExample classes
    → ((told : List ToldCluster) → Holds told → Later (told ++ told-at clusters k classes ∷ []))
    → AreToldSoFar r clusters (k + 1) Later
told-more r clusters k classes Holds Later short aligned so_far are examples later =
    let t = told-at clusters k classes in
    record {
      told = so_far.told ++ t ∷ [];
      members = map-push (λ (c : ToldCluster). c.members) so_far.told t clusters.members k short so_far.members refl;
      tops = map-push (λ (c : ToldCluster). c.top) so_far.told t clusters.tops k (omega arith) so_far.tops refl;
      classes = All-push (λ (c : ToldCluster). AreClassesOf r c.members c.top c.classes) so_far.told t so_far.classes are;
      examples = All-push (λ (c : ToldCluster). All HasExample c.classes) so_far.told t so_far.examples examples;
      holds = later so_far.told so_far.holds;
    }

-- all of them
pub record AreAllTold (r : PackageList) (clusters : ClusterList) (told : List ToldCluster) : Type 0 where
  pub are : AreToldClusters r told
  pub members : map (λ t. t.members) told ≡ clusters.members

pub told-all : (r : PackageList) (clusters : ClusterList) (k : ℕ) (Holds : List ToldCluster → Type 0) → length clusters.members ≤ k → AreClustersOf r clusters
    → (so_far : AreToldSoFar r clusters k Holds) → AreAllTold r clusters so_far.told
told-all r clusters k Holds past are so_far =
    let members : clusters.members ≡ map (λ (c : ToldCluster). c.members) so_far.told = sym (so_far.members ∙ take-past clusters.members k past) in
    let aligned = are.tops.aligned in
    let tops : clusters.tops ≡ map (λ (c : ToldCluster). c.top) so_far.told = sym (so_far.tops ∙ take-past clusters.tops k (omega arith)) in
    let Members : List (List ℕ) → Type 0 = λ list. AreClustersOf r (record { members = list; tops = clusters.tops }) in
    let Tops : List (List ℕ) → Type 0 = λ list. AreClustersOf r (record { members = map (λ (c : ToldCluster). c.members) so_far.told; tops = list }) in
    record {
      are = record { are = subst Tops tops (subst Members members are); classes = so_far.classes; examples = so_far.examples };
      members = sym members;
    }

-- ---- the lines of clusters

-- the text ends with the lines of the clusters
abbrev pub EndsWithLines : PackageList → (before now : List ℕ) → List ToldCluster → Type 0
EndsWithLines r before now told = now ≡ before ++ flat_map (cluster_lines r.packages) told

pub lines-told : (r : PackageList) (before now after : List ℕ) (t : ToldCluster) → after ≡ now ++ cluster_lines r.packages t → (told : List ToldCluster)
    → EndsWithLines r before now told → EndsWithLines r before after (told ++ t ∷ [])
lines-told r before now after t text told so_far =
    text ∙ ap (λ (w : List ℕ). w ++ cluster_lines r.packages t) so_far ∙ flat_map_more (cluster_lines r.packages) before told t

pub lines-all-told : (r : PackageList) (clusters : ClusterList) (k : ℕ) (old now : List ℕ) → length clusters.members ≤ k → AreClustersOf r clusters
    → AreToldSoFar r clusters k (EndsWithLines r (old ++ key_line (codes "clusters:") (length clusters.members == 0)) now) → TellsClusters r old now
lines-all-told r clusters k old now past are so_far =
    let before = old ++ key_line (codes "clusters:") (length clusters.members == 0) in
    let all = told-all r clusters k (EndsWithLines r before now) past are so_far in
    let count : length clusters.members ≡ length so_far.told = sym (ap length all.members) ∙ length-map so_far.told (λ (c : ToldCluster). c.members) in
    let lines = flat_map (cluster_lines r.packages) so_far.told in
    record {
      clusters = so_far.told;
      are = all.are;
      text = so_far.holds ∙ append_assoc old (key_line (codes "clusters:") (length clusters.members == 0)) lines
          ∙ ap (λ n. old ++ (key_line (codes "clusters:") (n == 0) ++ lines)) count;
    }

-- ---- new names that are told so far

pub record AreNamesSoFar (r : PackageList) (names : List (List ℕ)) (k : ℕ) (before now : List ℕ) : Type 0 where
  pub told : List ToldName
  pub first : map (λ t. t.name) told ≡ take k names
  pub classes : All (λ t. AreClassesOfName r t.name t.classes) told
  pub examples : All (λ t. All HasExample t.classes) told
  pub text : now ≡ before ++ flat_map name_lines told

pub names-none : (r : PackageList) (names : List (List ℕ)) (before : List ℕ) → AreNamesSoFar r names 0 before before
names-none r names before = record {
  told = [];
  first = refl;
  classes = All-nil (λ (t : ToldName). AreClassesOfName r t.name t.classes);
  examples = All-nil (λ (t : ToldName). All HasExample t.classes);
  text = sym (append-nil before);
}

pub names-more : (r : PackageList) (names : List (List ℕ)) (k : ℕ) (before now after name : List ℕ) (classes : List Class) → slice_get names k ≡ Some name →
    AreNamesSoFar r names k before now → AreClassesOfName r name classes → All HasExample classes
    → after ≡ now ++ name_lines (record { name = name; classes = classes }) → AreNamesSoFar r names (k + 1) before after
names-more r names k before now after name classes is so_far are examples text =
    let t : ToldName = record { name = name; classes = classes } in
    let short = slice_get_within names k name is in
    let here : get_or names k [] ≡ name = get_or_from_slice_get names k name [] is in
    record {
      told = so_far.told ++ t ∷ [];
      first = map-append (λ (n : ToldName). n.name) so_far.told (t ∷ []) ∙ ap (λ list. list ++ name ∷ []) so_far.first
          ∙ ap (λ (x : List ℕ). take k names ++ x ∷ []) (sym here)
          ∙ sym (take_more names k [] short);
      classes = All-push (λ (n : ToldName). AreClassesOfName r n.name n.classes) so_far.told t so_far.classes are;
      examples = All-push (λ (n : ToldName). All HasExample n.classes) so_far.told t so_far.examples examples;
      text = text ∙ ap (λ (w : List ℕ). w ++ name_lines t) so_far.text ∙ flat_map_more name_lines before so_far.told t;
    }

pub names-all : (r : PackageList) (names : List (List ℕ)) (k : ℕ) (old now : List ℕ) → length names ≤ k → AreNewNames r names →
    AreNamesSoFar r names k (old ++ key_line (codes "names:") (length names == 0)) now → TellsNames r old now
names-all r names k old now past are so_far =
    let all : names ≡ map (λ (n : ToldName). n.name) so_far.told = sym (so_far.first ∙ take-past names k past) in
    let count : length names ≡ length so_far.told = ap length all ∙ length-map so_far.told (λ (n : ToldName). n.name) in
    let lines = flat_map name_lines so_far.told in
    record {
      names = so_far.told;
      are = record { are = subst (AreNewNames r) all are; classes = so_far.classes; examples = so_far.examples };
      text = so_far.text ∙ append_assoc old (key_line (codes "names:") (length names == 0)) lines
          ∙ ap (λ n. old ++ (key_line (codes "names:") (n == 0) ++ lines)) count;
    }
