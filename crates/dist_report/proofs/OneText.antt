-- A repository has one report: one partition into clusters, one top of each, one list of cuts of each, and one list of new names.
use Rattle.std.proofs.Common.{◌≡◌, ℕ, suc, ◌<◌, List, [], ◌∷◌, length, map, get_or, refl, sym, ap, subst, ◌∙◌, arith}
use Rattle.std.specs.Prelude.{All}
use Rattle.std.proofs.lemmas.List.{get_or_default, same_lists}
use Rattle.dist_cluster.specs.Partition.{IsPartition}
use Rattle.dist_cluster.specs.Relation.{Member}
use Rattle.dist_cluster.specs.Top.{ClusterList, IsTop}
use Rattle.dist_repo.specs.PackageList.{PackageList}
use Rattle.dist_classes.specs.Answers.{AreClassesOf, AreClassesOfName, AreClustersOf, member_of}
use Rattle.dist_classes.specs.ClassList.{classes_above, classes_of_all}
use Rattle.dist_classes.specs.Cuts.{AreCuts, IsClusterCut, IsNameCut}
use Rattle.dist_classes.specs.NewNames.{AreNewNames}
use Rattle.dist_classes.specs.declared.class_value.Class.{Class}
use Rattle.dist_report.specs.ClassesReport.{AreToldClusters, IsClassesText, ToldCluster, ToldName, classes_lines}

same-cluster : (x y : ToldCluster) → x.members ≡ y.members → x.top ≡ y.top → x.classes ≡ y.classes → x ≡ y
same-cluster x y members top classes =
    ap (λ (m : List ℕ). record { members = m; top = x.top; classes = x.classes }) members
    ∙ ap (λ (t : List ℕ). record { members = y.members; top = t; classes = x.classes }) top
    ∙ ap (λ (k : List Class). record { members = y.members; top = y.top; classes = k }) classes

same-name : (x y : ToldName) → x.name ≡ y.name → x.classes ≡ y.classes → x ≡ y
same-name x y name classes =
    ap (λ (n : List ℕ). record { name = n; classes = x.classes }) name ∙ ap (λ (k : List Class). record { name = y.name; classes = k }) classes

head-same : (x y : List ℕ) (xs ys : List (List ℕ)) → x ∷ xs ≡ y ∷ ys → x ≡ y
head-same x y xs ys is = cc

tail-same : (x y : List ℕ) (xs ys : List (List ℕ)) → x ∷ xs ≡ y ∷ ys → xs ≡ ys
tail-same x y xs ys is = cc

first-of : {X : Type 0} (P : X → Type 0) (x : X) (xs : List X) → All P (x ∷ xs) → P x
first-of P x xs all = all 0 x (omega arith)

rest-of : {X : Type 0} (P : X → Type 0) (x : X) (xs : List X) → All P (x ∷ xs) → All P xs
rest-of P x xs all k d short = all (suc k) d (omega arith)

abbrev members_of : List ToldCluster → List (List ℕ)
members_of clusters = map (λ (c : ToldCluster). c.members) clusters

abbrev tops_of : List ToldCluster → List (List ℕ)
tops_of clusters = map (λ (c : ToldCluster). c.top) clusters

abbrev names_of : List ToldName → List (List ℕ)
names_of names = map (λ (n : ToldName). n.name) names

module _ (one_partition : (members : List Member) (a b : List (List ℕ)) → IsPartition members a → IsPartition members b → a ≡ b)
    (one_top : (members : List Member) (cluster a b : List ℕ) → IsTop members cluster a → IsTop members cluster b → a ≡ b)
    (one_cuts : (r : PackageList) (members top : List ℕ) (a b : List (List ℕ)) → AreCuts (IsClusterCut r members top) a → AreCuts (IsClusterCut r members top) b
    → a ≡ b) where
  one-members : (r : PackageList) (a b : ClusterList) → AreClustersOf r a → AreClustersOf r b → a.members ≡ b.members
  one-members r a b first second = one_partition (map member_of r.packages) a.members b.members first.partition second.partition

  one-tops : (r : PackageList) (a b : ClusterList) → AreClustersOf r a → AreClustersOf r b → a.tops ≡ b.tops
  one-tops r a b first second =
      let keys : List Member = map member_of r.packages in
      let members = one-members r a b first second in
      let lengths : length a.tops ≡ length b.tops = first.tops.aligned ∙ ap length members ∙ sym second.tops.aligned in
      same_lists a.tops b.tops lengths (λ k d short.
      let inside : k < length a.members = omega (arith, first.tops.aligned) in
      let other : k < length b.members = omega (arith, second.tops.aligned) in
      let Top : List (List ℕ) → Type 0 = λ list. IsTop keys (get_or list k []) (get_or a.tops k []) in
      let own : IsTop keys (get_or b.members k []) (get_or a.tops k []) = subst Top members (first.tops.each k inside) in
      get_or_default a.tops k d [] short ∙ one_top keys (get_or b.members k []) (get_or a.tops k []) (get_or b.tops k []) own (second.tops.each k other)
      ∙ get_or_default b.tops k [] d (omega arith))

  one-classes : (r : PackageList) (members top : List ℕ) (a b : List Class) → AreClassesOf r members top a → AreClassesOf r members top b → a ≡ b
  one-classes r members top a b first second =
      first.are ∙ ap (classes_above top) (one_cuts r members top first.cuts second.cuts first.are_cuts second.are_cuts) ∙ sym second.are

  same-clusters : (r : PackageList) (xs ys : List ToldCluster) → members_of xs ≡ members_of ys → tops_of xs ≡ tops_of ys →
      All (λ c. AreClassesOf r c.members c.top c.classes) xs → All (λ c. AreClassesOf r c.members c.top c.classes) ys → xs ≡ ys
  same-clusters r [] [] members tops first second = refl
  same-clusters r [] (y ∷ ys) members tops first second = cc
  same-clusters r (x ∷ xs) [] members tops first second = cc
  same-clusters r (x ∷ xs) (y ∷ ys) members tops first second =
      let Of : ToldCluster → Type 0 = λ c. AreClassesOf r c.members c.top c.classes in
      let own_members = head-same x.members y.members (members_of xs) (members_of ys) members in
      let own_top = head-same x.top y.top (tops_of xs) (tops_of ys) tops in
      let Members : List ℕ → Type 0 = λ m. AreClassesOf r m x.top x.classes in
      let Top : List ℕ → Type 0 = λ t. AreClassesOf r y.members t x.classes in
      let moved = subst Top own_top (subst Members own_members (first-of Of x xs first)) in
      let own = same-cluster x y own_members own_top (one-classes r y.members y.top x.classes y.classes moved (first-of Of y ys second)) in
      let rest = same-clusters r xs ys (tail-same x.members y.members (members_of xs) (members_of ys) members)
      (tail-same x.top y.top (tops_of xs) (tops_of ys) tops)
      (rest-of Of x xs first) (rest-of Of y ys second) in
      ap (λ (list : List ToldCluster). x ∷ list) rest ∙ ap (λ (head : ToldCluster). head ∷ ys) own

  pub one-clusters : (r : PackageList) (a b : List ToldCluster) → AreToldClusters r a → AreToldClusters r b → a ≡ b
  one-clusters r a b first second =
      let left : ClusterList = record { members = members_of a; tops = tops_of a } in
      let right : ClusterList = record { members = members_of b; tops = tops_of b } in
      same-clusters r a b (one-members r left right first.are second.are) (one-tops r left right first.are second.are) first.classes second.classes

module _ (one_clusters : (r : PackageList) (a b : List ToldCluster) → AreToldClusters r a → AreToldClusters r b → a ≡ b)
    (one_name_cuts : (r : PackageList) (name : List ℕ) (a b : List (List ℕ)) → AreCuts (IsNameCut r name) a → AreCuts (IsNameCut r name) b → a ≡ b)
    (one_names : (r : PackageList) (names others : List (List ℕ)) → AreNewNames r names → AreNewNames r others → names ≡ others) where
  one-name_classes : (r : PackageList) (name : List ℕ) (a b : List Class) → AreClassesOfName r name a → AreClassesOfName r name b → a ≡ b
  one-name_classes r name a b first second = first.are ∙ ap classes_of_all (one_name_cuts r name first.cuts second.cuts first.are_cuts second.are_cuts)
      ∙ sym second.are

  same-names : (r : PackageList) (xs ys : List ToldName) → names_of xs ≡ names_of ys → All (λ n. AreClassesOfName r n.name n.classes) xs
      → All (λ n. AreClassesOfName r n.name n.classes) ys → xs ≡ ys
  same-names r [] [] names first second = refl
  same-names r [] (y ∷ ys) names first second = cc
  same-names r (x ∷ xs) [] names first second = cc
  same-names r (x ∷ xs) (y ∷ ys) names first second =
      let Of : ToldName → Type 0 = λ n. AreClassesOfName r n.name n.classes in
      let own_name = head-same x.name y.name (names_of xs) (names_of ys) names in
      let Name : List ℕ → Type 0 = λ n. AreClassesOfName r n x.classes in
      let own = same-name x y own_name (one-name_classes r y.name x.classes y.classes (subst Name own_name (first-of Of x xs first)) (first-of Of y ys second))
      in
      let rest = same-names r xs ys (tail-same x.name y.name (names_of xs) (names_of ys) names) (rest-of Of x xs first) (rest-of Of y ys second) in
      ap (λ (list : List ToldName). x ∷ list) rest ∙ ap (λ (head : ToldName). head ∷ ys) own

  pub one-text : (r : PackageList) (text other : List ℕ) → IsClassesText r text → IsClassesText r other → text ≡ other
  one-text r text other a b =
      let clusters = one_clusters r a.clusters b.clusters a.are_clusters b.are_clusters in
      let names = same-names r a.names b.names (one_names r (names_of a.names) (names_of b.names) a.are_names.are b.are_names.are) a.are_names.classes
      b.are_names.classes in
      a.is ∙ ap (λ (list : List ToldCluster). classes_lines r.packages list a.names) clusters
      ∙ ap (λ (list : List ToldName). classes_lines r.packages b.clusters list) names ∙ sym b.is
