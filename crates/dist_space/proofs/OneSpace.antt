-- A repository has one space at a mode: one partition into clusters with one top of each, one list of cuts of each, one list of
-- new names with theirs, and one numbering of the variables.
use Rattle.std.proofs.Common.{◌≡◌, ℕ, suc, ◌<◌, Bool, List, [], ◌∷◌, Option, Some, None, length, map, map-id, get_or, refl, sym, ap, subst, ◌∙◌, arith}
use Rattle.std.proofs.Common.{slice_get}
use Rattle.std.specs.Prelude.{All, Any, Contains}
use Rattle.std.proofs.lemmas.Cmp.{nat_list_cmp_total, tied_itself}
use Rattle.std.proofs.lemmas.List.{get_or_default, same_lists}
use Rattle.dist_base.specs.RowLaws.{IsAsymmetric, rows-same}
use Rattle.dist_cluster.specs.Partition.{IsIn, IsPartition}
use Rattle.dist_cluster.specs.Relation.{Member}
use Rattle.dist_cluster.specs.Top.{ClusterList, IsTop}
use Rattle.dist_repo.specs.PackageList.{PackageList}
use Rattle.dist_classes.specs.Answers.{AreClassesOf, AreClassesOfName, AreClustersOf, member_of}
use Rattle.dist_classes.specs.ClassList.{classes_above, classes_of_all}
use Rattle.dist_classes.specs.Cuts.{AreCuts, IsClusterCut, IsNameCut}
use Rattle.dist_classes.specs.NewNames.{AreNewNames}
use Rattle.dist_classes.specs.declared.class_value.Class.{Class}
use Rattle.dist_space.specs.Space.{AreMeaningsOf, SpaceView, StandsBefore, cluster_classes, fresh_classes, key_of}
use Rattle.dist_space.specs.SpaceOf.{IsSpaceOf}
use Rattle.dist_space.specs.declared.meaning.Meaning.{Meaning}

-- ---- lists by their elements

same-options : {X : Type 0} (a b : Option X) → ((x : X) → a ≡ Some x → b ≡ Some x) → ((x : X) → b ≡ Some x → a ≡ Some x) → a ≡ b
same-options None None to back = refl
same-options None (Some x) to back = back x refl
same-options (Some x) b to back = sym (to x refl)

same-at : {X : Type 0} (xs ys : List X) → ((k : ℕ) → slice_get xs k ≡ slice_get ys k) → xs ≡ ys
same-at [] [] each = refl
same-at [] (y ∷ ys) each = absurd (let no : None ≡ Some y = each 0 in cc)
same-at (x ∷ xs) [] each = absurd (let no : Some x ≡ None = each 0 in cc)
same-at {X} (x ∷ xs) (y ∷ ys) each =
    let head : Some x ≡ Some y = each 0 in
    let first : x ≡ y = cc in
    let rest = same-at xs ys (λ k. each (suc k)) in
    ap (λ (z : X). z ∷ xs) first ∙ ap (λ (zs : List X). y ∷ zs) rest

-- ---- what is one below

pub record OneLaws : Type 0 where
  pub partition : (members : List Member) (a b : List (List ℕ)) → IsPartition members a → IsPartition members b → a ≡ b
  pub top : (members : List Member) (cluster a b : List ℕ) → IsTop members cluster a → IsTop members cluster b → a ≡ b
  pub cuts : (r : PackageList) (members top : List ℕ) (a b : List (List ℕ)) → AreCuts (IsClusterCut r members top) a → AreCuts (IsClusterCut r members top) b
      → a ≡ b
  pub name_cuts : (r : PackageList) (name : List ℕ) (a b : List (List ℕ)) → AreCuts (IsNameCut r name) a → AreCuts (IsNameCut r name) b → a ≡ b
  pub names : (r : PackageList) (names others : List (List ℕ)) → AreNewNames r names → AreNewNames r others → names ≡ others

-- ---- meanings

never-back : (s : SpaceView) → IsAsymmetric (StandsBefore s)
never-back s a b first second =
    let loop = nat_list_cmp_total.trans (key_of s a) (key_of s b) (key_of s a) first second in
    let tied = tied_itself nat_list_cmp_total (key_of s a) in cc

pub one-meanings : (s : SpaceView) (first second : List Meaning) → AreMeaningsOf s (λ m. Unit {0}) first → AreMeaningsOf s (λ m. Unit {0}) second
    → second ≡ first
one-meanings s first second a b =
    let same = rows-same (λ (m : Meaning). m) (StandsBefore s) (λ m. Unit {0}) (λ (m : Meaning). m) (never-back s) (λ x y is p q. is) first second a.rising
    b.rising (each-one first) (each-one second)
    (λ m has. has-from second m ((b.exact m).1 ((a.exact m).0 (from-has first m has))))
    (λ m has. has-from first m ((a.exact m).1 ((b.exact m).0 (from-has second m has)))) in
    sym (map-id second) ∙ same ∙ map-id first
  where
    each-one : (ms : List Meaning) → All (λ (m : Meaning). Unit {0}) ms
    each-one ms = λ k d short. tt

    from-has : (ms : List Meaning) (m : Meaning) → Any (λ (a' : Meaning). a' ≡ m) ms → Contains ms m
    from-has ms m any = subst (λ (x : Meaning). Contains ms x) any.4 (any.0, any.2, any.3)

    has-from : (ms : List Meaning) (m : Meaning) → Contains ms m → Any (λ (a' : Meaning). a' ≡ m) ms
    has-from ms m there = (there.0, m, there.1, there.2, refl)

module _ (laws : OneLaws) (r : PackageList) where
  one-members : (a b : ClusterList) → AreClustersOf r a → AreClustersOf r b → a.members ≡ b.members
  one-members a b first second = laws.partition (map member_of r.packages) a.members b.members first.partition second.partition

  one-tops : (a b : ClusterList) → AreClustersOf r a → AreClustersOf r b → a.tops ≡ b.tops
  one-tops a b first second =
      let keys : List Member = map member_of r.packages in
      let members = one-members a b first second in
      let lengths : length a.tops ≡ length b.tops = first.tops.aligned ∙ ap length members ∙ sym second.tops.aligned in
      same_lists a.tops b.tops lengths (λ k d short.
      let inside : k < length a.members = omega (arith, short, first.tops.aligned) in
      let other : k < length b.members = omega (arith, short, lengths, second.tops.aligned) in
      let Top : List (List ℕ) → Type 0 = λ list. IsTop keys (get_or list k []) (get_or a.tops k []) in
      let own : IsTop keys (get_or b.members k []) (get_or a.tops k []) = subst Top members (first.tops.each k inside) in
      get_or_default a.tops k d [] short ∙ laws.top keys (get_or b.members k []) (get_or a.tops k []) (get_or b.tops k []) own (second.tops.each k other)
      ∙ get_or_default b.tops k [] d (omega (arith, short, lengths)))

  one-clusters : (a b : ClusterList) → AreClustersOf r a → AreClustersOf r b → a ≡ b
  one-clusters a b first second =
      ap (λ (m : List (List ℕ)). record { members = m; tops = a.tops }) (one-members a b first second)
      ∙ ap (λ (t : List (List ℕ)). record { members = b.members; tops = t }) (one-tops a b first second)

  one-classes : (members top : List ℕ) (a b : List Class) → AreClassesOf r members top a → AreClassesOf r members top b → a ≡ b
  one-classes members top a b first second = first.are ∙ ap (classes_above top) (laws.cuts r members top first.cuts second.cuts first.are_cuts second.are_cuts)
      ∙ sym second.are

  one-name_classes : (name : List ℕ) (a b : List Class) → AreClassesOfName r name a → AreClassesOfName r name b → a ≡ b
  one-name_classes name a b first second = first.are ∙ ap classes_of_all (laws.name_cuts r name first.cuts second.cuts first.are_cuts second.are_cuts)
      ∙ sym second.are

-- the same views with the same parts
abbrev view : PackageList → Bool → ClusterList → List ℕ → List (List Class) → List (List ℕ) → List (List Class) → List Meaning → SpaceView
view repository essential clusters cluster_of classes names name_classes meanings = record {
  repository = repository;
  essential = essential;
  clusters = clusters;
  cluster_of = cluster_of;
  classes = classes;
  names = names;
  name_classes = name_classes;
  meanings = meanings;
}

module _ (laws : OneLaws) (r : PackageList) (essential : Bool) (a b : SpaceView) (is_a : IsSpaceOf r essential a) (is_b : IsSpaceOf r essential b) where
  clusters-a : AreClustersOf r a.clusters
  clusters-a = subst (λ (x : PackageList). AreClustersOf x a.clusters) is_a.repository is_a.space.frame.clusters

  clusters-b : AreClustersOf r b.clusters
  clusters-b = subst (λ (x : PackageList). AreClustersOf x b.clusters) is_b.repository is_b.space.frame.clusters

  same-clusters : a.clusters ≡ b.clusters
  same-clusters = one-clusters laws r a.clusters b.clusters clusters-a clusters-b

  same-numbers : a.cluster_of ≡ b.cluster_of
  same-numbers =
      let members : a.clusters.members ≡ b.clusters.members = ap (λ (c : ClusterList). c.members) same-clusters in
      same-at a.cluster_of b.cluster_of (λ m.
      same-options (slice_get a.cluster_of m) (slice_get b.cluster_of m)
      (λ c is. (is_b.space.frame.placed c m).0 (subst (λ (xs : List (List ℕ)). IsIn xs c m) members ((is_a.space.frame.placed c m).1 is)))
      (λ c is. (is_a.space.frame.placed c m).0 (subst (λ (xs : List (List ℕ)). IsIn xs c m) (sym members) ((is_b.space.frame.placed c m).1 is))))

  same-classes : a.classes ≡ b.classes
  same-classes =
      let fa = is_a.space.frame in
      let fb = is_b.space.frame in
      let count : length a.clusters.members ≡ length b.clusters.members = ap (λ (c : ClusterList). length c.members) same-clusters in
      let lengths : length a.classes ≡ length b.classes = fa.classes_beside ∙ count ∙ sym fb.classes_beside in
      same_lists a.classes b.classes lengths (λ k d short.
      let inside : k < length a.clusters.members = omega (arith, short, fa.classes_beside) in
      let other : k < length b.clusters.members = omega (arith, inside, count) in
      let Of : PackageList → Type 0 = λ x. AreClassesOf x (get_or a.clusters.members k []) (get_or a.clusters.tops k []) (cluster_classes a k) in
      let There : ClusterList → Type 0 = λ c. AreClassesOf r (get_or c.members k []) (get_or c.tops k []) (cluster_classes a k) in
      let first : AreClassesOf r (get_or b.clusters.members k []) (get_or b.clusters.tops k []) (cluster_classes a k) =
      subst There same-clusters (subst Of is_a.repository (fa.classes k inside)) in
      let Second : PackageList → Type 0 = λ x. AreClassesOf x (get_or b.clusters.members k []) (get_or b.clusters.tops k []) (cluster_classes b k) in
      get_or_default a.classes k d [] short
      ∙ one-classes laws r (get_or b.clusters.members k []) (get_or b.clusters.tops k []) (cluster_classes a k) (cluster_classes b k) first
      (subst Second is_b.repository (fb.classes k other))
      ∙ get_or_default b.classes k [] d (omega (arith, short, lengths)))

  same-names : a.names ≡ b.names
  same-names = laws.names r a.names b.names (subst (λ (x : PackageList). AreNewNames x a.names) is_a.repository is_a.space.frame.names)
      (subst (λ (x : PackageList). AreNewNames x b.names) is_b.repository is_b.space.frame.names)

  same-name_classes : a.name_classes ≡ b.name_classes
  same-name_classes =
      let fa = is_a.space.frame in
      let fb = is_b.space.frame in
      let lengths : length a.name_classes ≡ length b.name_classes = fa.name_classes_beside ∙ ap (λ (xs : List (List ℕ)). length xs) same-names
      ∙ sym fb.name_classes_beside in
      same_lists a.name_classes b.name_classes lengths (λ k d short.
      let inside : k < length a.names = omega (arith, short, fa.name_classes_beside) in
      let other : k < length b.names = omega (arith, short, lengths, fb.name_classes_beside) in
      let Of : PackageList → Type 0 = λ x. AreClassesOfName x (get_or a.names k []) (fresh_classes a k) in
      let There : List (List ℕ) → Type 0 = λ xs. AreClassesOfName r (get_or xs k []) (fresh_classes a k) in
      let Second : PackageList → Type 0 = λ x. AreClassesOfName x (get_or b.names k []) (fresh_classes b k) in
      get_or_default a.name_classes k d [] short
      ∙ one-name_classes laws r (get_or b.names k []) (fresh_classes a k) (fresh_classes b k)
      (subst There same-names (subst Of is_a.repository (fa.name_classes k inside))) (subst Second is_b.repository (fb.name_classes k other))
      ∙ get_or_default b.name_classes k [] d (omega (arith, short, lengths)))

  same-frame : (ms : List Meaning) → view a.repository a.essential a.clusters a.cluster_of a.classes a.names a.name_classes ms
      ≡ view b.repository b.essential b.clusters b.cluster_of b.classes b.names b.name_classes ms
  same-frame ms =
      let one : a.repository ≡ b.repository = is_a.repository ∙ sym is_b.repository in
      let two : a.essential ≡ b.essential = is_a.essential_is ∙ sym is_b.essential_is in
      ap (λ (x : PackageList). view x a.essential a.clusters a.cluster_of a.classes a.names a.name_classes ms) one
      ∙ ap (λ (x : Bool). view b.repository x a.clusters a.cluster_of a.classes a.names a.name_classes ms) two
      ∙ ap (λ (x : ClusterList). view b.repository b.essential x a.cluster_of a.classes a.names a.name_classes ms) same-clusters
      ∙ ap (λ (x : List ℕ). view b.repository b.essential b.clusters x a.classes a.names a.name_classes ms) same-numbers
      ∙ ap (λ (x : List (List Class)). view b.repository b.essential b.clusters b.cluster_of x a.names a.name_classes ms) same-classes
      ∙ ap (λ (x : List (List ℕ)). view b.repository b.essential b.clusters b.cluster_of b.classes x a.name_classes ms) same-names
      ∙ ap (λ (x : List (List Class)). view b.repository b.essential b.clusters b.cluster_of b.classes b.names x ms) same-name_classes

  same-meanings : b.meanings ≡ a.meanings
  same-meanings =
      let own : AreMeaningsOf (view a.repository a.essential a.clusters a.cluster_of a.classes a.names a.name_classes []) (λ m. Unit {0}) a.meanings =
      record { rising = is_a.space.meanings.rising; exact = is_a.space.meanings.exact } in
      let moved = subst (λ (x : SpaceView). AreMeaningsOf x (λ m. Unit {0}) a.meanings) (same-frame []) own in
      one-meanings b a.meanings b.meanings (record { rising = moved.rising; exact = moved.exact }) is_b.space.meanings

  pub one-space : b ≡ a
  one-space =
      sym (same-frame b.meanings) ∙ ap (λ (x : List Meaning). view a.repository a.essential a.clusters a.cluster_of a.classes a.names a.name_classes x)
      same-meanings
