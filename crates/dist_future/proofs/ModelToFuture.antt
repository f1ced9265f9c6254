-- What meets the demands of a space stands for a future and a healthy installation in it.
use Rattle.std.proofs.Common.{◌≡◌, ◌≢◌, ℕ, ◌<◌, Bool, true, List, [], Option, Some, None, Equal, Less, nat_cmp, length, get_or, refl, sym, ap, subst, ◌∙◌, inl}
use Rattle.std.proofs.Common.{inr, arith, slice_get}
use Rattle.std.specs.Prelude.{All, Any, Contains, IsSomeAnd, slice_index, if◌then◌else◌}
use Rattle.std.specs.Cmp.Lexicographic.{slice_cmp}
use Rattle.std.specs.List.Sorted.{IsStrictlySortedBy}
use Rattle.std.specs.Option.{option_map}
use Rattle.std.proofs.lemmas.Map.Keys.{Less-from_sorted}
use Rattle.std.proofs.lemmas.Bool.{cases_lt, false≢true}
use Rattle.std.proofs.lemmas.Cmp.{nat_list_cmp_total, tied_itself}
use Rattle.std.proofs.lemmas.List.Elements.{All-nil}
use Rattle.std.proofs.lemmas.Option.{get_or_from_slice_get, same_Some, slice_get_within}
use Rattle.dist_base.specs.ListLaws.{all-contained, any-at, any-contained, at-has, contains-at, element-at, found-at, has-at, here-at, place-of, PlaceOf}
use Rattle.dist_base.specs.ListLaws.{within-from}
use Rattle.dist_version.specs.Order.{version_cmp, IsBelow}
use Rattle.dist_version.specs.Spelling.{IsVersion}
use Rattle.dist_relation.specs.declared.atom.Atom.{Atom}
use Rattle.dist_relation.specs.declared.atom.Provide.{Provide}
use Rattle.dist_repo.specs.Conflict.{AreInConflict}
use Rattle.dist_repo.specs.Healthy.{IsMet, required_names}
use Rattle.dist_repo.specs.Match.{IsUsable, Matches}
use Rattle.dist_repo.specs.Order.{IsFlat}
use Rattle.dist_repo.specs.Strong.{IsInstallation}
use Rattle.dist_repo.specs.declared.package.Package.{Package}
use Rattle.dist_classes.specs.Atoms.{IsAtomOf, IsDependencyAtom}
use Rattle.dist_classes.specs.ClassList.{IsOfClassAt}
use Rattle.dist_classes.specs.NewVersion.{IsNewOf, IsNewVersionOf, IsOfNewName}
use Rattle.dist_future.specs.Future.{IsFuture, IsInClusterOf, IsProvided, IsTaken, Moves, Stays}
use Rattle.dist_future.specs.Outdated.{HoldsCluster, IsInstallationOf}
use Rattle.dist_space.specs.Space.{IsMatched, IsMeaning, IsSpace, MeetsBound, SpaceView, StandsBefore, cluster_classes, example_at, fresh_classes, key_of}
use Rattle.dist_space.specs.Space.{member_classes}
use Rattle.dist_space_clauses.specs.SpaceClauses.{IsBearer}
use Rattle.dist_future.specs.Stands.{class_chosen, flags_from, fresh_package, future_of, installation_of, installed_package, later_package, moved_package}
use Rattle.dist_future.specs.Stands.{new_version}
use Rattle.dist_space.specs.declared.meaning.Meaning.{Meaning}
use Rattle.dist_space.specs.declared.meaning.Meaning.TheVariants.{Now, Present, At, New, Kept, Fresh}
use Rattle.dist_future.proofs.ClassMatch.{ClassLaws, fresh-at, fresh-new, from-fresh, from-kept, from-new, to-fresh, to-new}
use Rattle.dist_future.proofs.DemandLemmas.{AreFutureMet, AreMet}
use Rattle.dist_future.proofs.FutureToModel.{conflict-back, option-cases}
use Rattle.dist_space.specs.UsableLaws.{usable-is}
use Rattle.dist_future.proofs.Parts.{first-none, first-some, flag-at, flag-is, if-some, if-true, kept-carried, length-flags, made, made-of, made-pairs}
use Rattle.dist_future.proofs.Parts.{map-some}
use Rattle.dist_space.specs.RisingLaws.{pairs-more}
use Rattle.dist_future.proofs.SpaceLemmas.{above-top, class-above, clustered-same}
use Rattle.dist_future.proofs.SpaceParts.{conflict-atom, member-of-class, never-taken}
use Rattle.dist_space.specs.ClusterLaws.{has-cluster, names-apart}
use Rattle.dist_classes.specs.VersionOrderLaws.{equal-itself}

-- a name stands once among names in order
one-place : (names : List (List ℕ)) (m n : ℕ) (a b : List ℕ) → IsStrictlySortedBy (slice_cmp nat_cmp) names → slice_get names m ≡ Some a
    → slice_get names n ≡ Some b → a ≡ b → m ≡ n
one-place names m n a b sorted first second same =
    let Never : List ℕ → List ℕ → Type 0 = λ x y. slice_cmp nat_cmp x y ≡ Less in
    let never : ¬ (slice_cmp nat_cmp a a ≡ Less) = λ less. let tied = tied_itself nat_list_cmp_total a in cc in
    let at_m = get_or_from_slice_get names m a a first in
    let at_n : get_or names n a ≡ a = get_or_from_slice_get names n b a second ∙ sym same in
    elim (cases_lt m n) [
      | inl less ↦ absurd (never (subst (λ x. Never x a) at_m
          (subst (λ x. Never (get_or names m a) x) at_n (Less-from_sorted (slice_cmp nat_cmp) names m n a sorted less (slice_get_within names n b second)))))
      | inr more ↦ elim (cases_lt n m) [
        | inl less ↦ absurd (never (subst (λ x. Never x a) at_n
            (subst (λ x. Never (get_or names n a) x) at_m (Less-from_sorted (slice_cmp nat_cmp) names n m a sorted less (slice_get_within names m a first)))))
        | inr also ↦ omega (arith, more, also)
      ]
    ]

-- the versions that are taken: one of each class
abbrev pub AreVersions : SpaceView → (ℕ → ℕ → List ℕ) → Type 0
AreVersions s version = (c k : ℕ) → k < length (cluster_classes s c) → IsVersion (version c k) × IsOfClassAt (cluster_classes s c) k (version c k)

module _ (laws : ClassLaws) (s : SpaceView) (space : IsSpace s) (holds : Meaning → Bool) (version : ℕ → ℕ → List ℕ) (versions : AreVersions s version)
    (futures : AreFutureMet s (λ m. holds m ≡ true)) where
  abbrev future : List Package
  future = future_of s holds version

  abbrev members : List Package
  members = installation_of s holds version

  abbrev cluster : ℕ → ℕ
  cluster r = slice_index s.cluster_of r

  -- ---- new versions

  pub chosen-short : (c k : ℕ) → class_chosen s holds c ≡ Some k → (k < length (cluster_classes s c)) × (holds (At c k) ≡ true)
  chosen-short c k is = first-some (λ k. holds (At c k)) (length (cluster_classes s c)) k is

  -- where a class holds, it is the one that is chosen
  pub chosen-is : (c k : ℕ) → k < length (cluster_classes s c) → holds (At c k) ≡ true → class_chosen s holds c ≡ Some k
  chosen-is c k short at = elim (option-cases (class_chosen s holds c)) [
    | inl none ↦ absurd (false≢true (sym (first-none (λ k. holds (At c k)) (length (cluster_classes s c)) none k short) ∙ at))
    | inr some ↦
        let l = some.0 in
        let first = chosen-short c l some.1 in
        let same : l ≡ k = elim (cases_lt l k) [
          | inl less ↦ absurd (futures.one_class c l k less short first.1 at)
          | inr more ↦ elim (cases_lt k l) [
            | inl less ↦ absurd (futures.one_class c k l less first.0 at first.1)
            | inr also ↦ omega (arith, more, also)
          ]
        ] in
        some.1 ∙ ap (λ (n : ℕ). Some n) same
  ]

  abbrev kept_of : ℕ → ℕ → Package → List Bool
  kept_of r k p = flags_from s.repository.architecture (λ j. holds (Kept r k j)) p.provides

  new-of : (r k : ℕ) (p : Package) → k < length (member_classes s r) → IsNewVersionOf p (kept_of r k p) (new_version s holds version r k p)
  new-of r k p short =
      let is = (versions (slice_index s.cluster_of r) k short).0 in
      record {
        name = refl;
        version = is;
        provides = kept-carried p.version (version (slice_index s.cluster_of r) k) (kept_of r k p) p.provides is
            (length-flags s.repository.architecture (λ j. holds (Kept r k j)) p.provides);
      }

  pub class-of-new : (r k : ℕ) (p : Package) → k < length (member_classes s r) → IsOfClassAt (member_classes s r) k (new_version s holds version r k p).version
  class-of-new r k p short = (versions (slice_index s.cluster_of r) k short).1

  unprovided : (x : ℕ) (name : List ℕ) → slice_get s.names x ≡ Some name → ¬ IsProvided s.repository name
  unprovided x name is provided =
      let new = (space.frame.names.exact name).0 (contains-at s.names x name is) in
      new.unprovided (provided.0, provided.1, provided.2, provided.3, inr provided.4)

  -- ---- what is in the future

  -- a package of the repository, or its new version
  record IsLater (r : ℕ) (n : Package) : Type 0 where
    q : Package
    is : slice_get s.repository.packages r ≡ Some q
    same : n ≡ moved_package s holds version r q (class_chosen s holds (slice_index s.cluster_of r))

  -- a package of a new name
  record IsFreshPackage (x k : ℕ) (n : Package) : Type 0 where
    name : List ℕ
    is : slice_get s.names x ≡ Some name
    holds_is : holds (Fresh x k) ≡ true
    same : n ≡ fresh_package name (example_at (fresh_classes s x) k)

  moved-name : (r : ℕ) (q : Package) (o : Option ℕ) → (moved_package s holds version r q o).name ≡ q.name
  moved-name r q None = refl
  moved-name r q (Some k) = refl

  later-name : (r : ℕ) (n : Package) (l : IsLater r n) → n.name ≡ l.q.name
  later-name r n l = ap (λ (x : Package). x.name) l.same ∙ moved-name r l.q (class_chosen s holds (slice_index s.cluster_of r))

  fresh-given : (x k : ℕ) (n : Package) → (if holds (Fresh x k) then option_map (λ name. fresh_package name (example_at (fresh_classes s x) k))
      (slice_get s.names x) else None) ≡ Some n → IsFreshPackage x k n
  fresh-given x k n gives =
      let at = if-some (holds (Fresh x k)) (option_map (λ name. fresh_package name (example_at (fresh_classes s x) k)) (slice_get s.names x)) n gives in
      let name = map-some (λ (name : List ℕ). fresh_package name (example_at (fresh_classes s x) k)) (slice_get s.names x) n at.1 in
      record { name = name.0; is = name.1; holds_is = at.0; same = sym name.2 }

  -- what a meaning gives
  data Given (n : Package) : Meaning → Type 0 where
    given_later : (r : ℕ) → IsLater r n → Given n (Present r)
    given_fresh : (x k : ℕ) → IsFreshPackage x k n → Given n (Fresh x k)

  later-given : (m : Meaning) (n : Package) → later_package s holds version m ≡ Some n → Given n m
  later-given Now n gives = absurd (let none : None ≡ Some n = gives in cc)
  later-given (Present r) n gives =
      let at = map-some (λ (p : Package). moved_package s holds version r p (class_chosen s holds (slice_index s.cluster_of r)))
      (slice_get s.repository.packages r) n gives in
      given_later r (record { q = at.0; is = at.1; same = sym at.2 })
  later-given (At c k) n gives = absurd (let none : None ≡ Some n = gives in cc)
  later-given (New r k) n gives = absurd (let none : None ≡ Some n = gives in cc)
  later-given (Kept r k j) n gives = absurd (let none : None ≡ Some n = gives in cc)
  later-given (Fresh x k) n gives = given_fresh x k (fresh-given x k n gives)

  -- a meaning of the space that gives a package
  record GivenBy (P : Package → Meaning → Type 0) (n : Package) : Type 0 where
    meaning : Meaning
    is_meaning : IsMeaning s meaning
    given : P n meaning

  future-given : (n : Package) → Contains (future_of s holds version) n → GivenBy Given n
  future-given n there =
      let at = made-of (later_package s holds version) s.meanings n there in
      record {
        meaning = at.source;
        is_meaning = ((space.meanings.exact at.source).0 (contains-at s.meanings at.place at.source at.is)).0;
        given = later-given at.source n at.gives;
      }

  place-of-meaning : (m : Meaning) → IsMeaning s m → PlaceOf s.meanings m
  place-of-meaning m is_meaning = place-of s.meanings m ((space.meanings.exact m).1 (is_meaning, tt))

  pub in-future : (r : ℕ) (q : Package) → slice_get s.repository.packages r ≡ Some q
      → Contains (future_of s holds version) (moved_package s holds version r q (class_chosen s holds (slice_index s.cluster_of r)))
  in-future r q is =
      let at = place-of-meaning (Present r) (slice_get_within s.repository.packages r q is) in
      made (later_package s holds version) s.meanings at.place (Present r)
      (moved_package s holds version r q (class_chosen s holds (slice_index s.cluster_of r))) at.is
      (ap (option_map (λ p. moved_package s holds version r p (class_chosen s holds (slice_index s.cluster_of r)))) is)

  fresh-gives : (x k : ℕ) (name : List ℕ) → slice_get s.names x ≡ Some name → holds (Fresh x k) ≡ true
      → (if holds (Fresh x k) then option_map (λ name. fresh_package name (example_at (fresh_classes s x) k)) (slice_get s.names x) else None)
      ≡ Some (fresh_package name (example_at (fresh_classes s x) k))
  fresh-gives x k name is true_is =
      if-true (holds (Fresh x k)) (option_map (λ name. fresh_package name (example_at (fresh_classes s x) k)) (slice_get s.names x)) None true_is
      ∙ ap (option_map (λ name. fresh_package name (example_at (fresh_classes s x) k))) is

  fresh-in-future : (x k : ℕ) (name : List ℕ) → slice_get s.names x ≡ Some name → IsMeaning s (Fresh x k) → holds (Fresh x k) ≡ true
      → Contains (future_of s holds version) (fresh_package name (example_at (fresh_classes s x) k))
  fresh-in-future x k name is is_meaning true_is =
      let at = place-of-meaning (Fresh x k) is_meaning in
      made (later_package s holds version) s.meanings at.place (Fresh x k) (fresh_package name (example_at (fresh_classes s x) k)) at.is
      (fresh-gives x k name is true_is)

  -- ---- one package of a name

  fresh-apart : (r x k : ℕ) (p n : Package) (q : Package) → slice_get s.repository.packages r ≡ Some q → p.name ≡ q.name → IsFreshPackage x k n
      → p.name ≢ n.name
  fresh-apart r x k p n q is name fresh same =
      never-taken s space x fresh.name fresh.is (any-at (λ (y : Package). y.name ≡ fresh.name) s.repository.packages r q is
      (sym name ∙ same ∙ ap (λ (y : Package). y.name) fresh.same))

  one-fresh : (x k y l : ℕ) (p n : Package) → IsMeaning s (Fresh x k) → IsMeaning s (Fresh y l) → Fresh x k ≢ Fresh y l → IsFreshPackage x k p
      → IsFreshPackage y l n → p.name ≢ n.name
  one-fresh x k y l p n first second apart a b same =
      let name : a.name ≡ b.name = sym (ap (λ (z : Package). z.name) a.same) ∙ same ∙ ap (λ (z : Package). z.name) b.same in
      let one : x ≡ y = one-place s.names x y a.name b.name space.frame.names.rising a.is b.is name in
      let also : holds (Fresh x l) ≡ true = subst (λ (z : ℕ). holds (Fresh z l) ≡ true) (sym one) b.holds_is in
      let short : l < length (fresh_classes s x) = subst (λ (z : ℕ). IsMeaning s (Fresh z l)) (sym one) second in
      elim (cases_lt k l) [
        | inl less ↦ futures.one_fresh x k l less short a.holds_is also
        | inr more ↦ elim (cases_lt l k) [
          | inl less ↦ futures.one_fresh x l k less first also a.holds_is
          | inr equal ↦ let k_is : k ≡ l = omega (arith, more, equal) in apart (ap (λ (z : ℕ). Fresh z k) one ∙ ap (λ (z : ℕ). Fresh y z) k_is)
        ]
      ]

  given-apart : (p n : Package) (a b : Meaning) → Given p a → Given n b → IsMeaning s a → IsMeaning s b → a ≢ b → p.name ≢ n.name
  given-apart p n _ _ (given_later r l) (given_later o m) first second apart same =
      apart (ap (λ (k : ℕ). Present k) (names-apart s.repository.packages r o l.q m.q space.frame.flat l.is m.is
      (sym (later-name r p l) ∙ same ∙ later-name o n m)))
  given-apart p n _ _ (given_later r l) (given_fresh x k f) first second apart same = fresh-apart r x k p n l.q l.is (later-name r p l) f same
  given-apart p n _ _ (given_fresh x k f) (given_later r l) first second apart same = fresh-apart r x k n p l.q l.is (later-name r n l) f (sym same)
  given-apart p n _ _ (given_fresh x k f) (given_fresh y l g) first second apart same = one-fresh x k y l p n first second apart f g same

  -- two meanings at different places are two
  meanings-apart : (i j : ℕ) (a b : Meaning) → i < j → slice_get s.meanings i ≡ Some a → slice_get s.meanings j ≡ Some b → a ≢ b
  meanings-apart i j a b less first second same =
      let before : StandsBefore s (get_or s.meanings i a) (get_or s.meanings j a) = space.meanings.rising i j a less (slice_get_within s.meanings j b second) in
      let at_i = get_or_from_slice_get s.meanings i a a first in
      let at_j : get_or s.meanings j a ≡ a = get_or_from_slice_get s.meanings j b a second ∙ sym same in
      let self : StandsBefore s a a = subst (λ x. StandsBefore s x a) at_i (subst (λ x. StandsBefore s (get_or s.meanings i a) x) at_j before) in
      let tied = tied_itself nat_list_cmp_total (key_of s a) in cc

  future-flat : IsFlat (future_of s holds version)
  future-flat =
      made-pairs (later_package s holds version) (λ (p q : Package). p.name ≢ q.name) s.meanings
      (λ i j a b p q less first second gives also. given-apart p q a b (later-given a p gives) (later-given b q also)
      ((space.meanings.exact a).0 (contains-at s.meanings i a first)).0 ((space.meanings.exact b).0 (contains-at s.meanings j b second)).0
      (meanings-apart i j a b less first second))

  -- ---- clusters of the future

  -- a package of the future that has the name of a package of the repository
  pub named-later : (j : ℕ) (q n : Package) → slice_get s.repository.packages j ≡ Some q → Contains (future_of s holds version) n → n.name ≡ q.name
      → n ≡ moved_package s holds version j q (class_chosen s holds (slice_index s.cluster_of j))
  named-later j q n is there name = let g = future-given n there in at g.meaning g.given
    where
      at : (m : Meaning) → Given n m → n ≡ moved_package s holds version j q (class_chosen s holds (slice_index s.cluster_of j))
      at _ (given_later r l) =
          let one : r ≡ j = names-apart s.repository.packages r j l.q q space.frame.flat l.is is (sym (later-name r n l) ∙ name) in
          let same : l.q ≡ q = let here : slice_get s.repository.packages j ≡ Some l.q = ap (λ (k : ℕ). slice_get s.repository.packages k) (sym one) ∙ l.is in
          cc in
          l.same ∙ ap (λ (k : ℕ). moved_package s holds version k l.q (class_chosen s holds (slice_index s.cluster_of k))) one
          ∙ ap (λ (p : Package). moved_package s holds version j p (class_chosen s holds (slice_index s.cluster_of j))) same
      at _ (given_fresh x k f) = absurd (fresh-apart j x k q n q is refl f (sym name))

  same-cluster : (i j : ℕ) (c q : Package) → slice_get s.repository.packages i ≡ Some c → IsInClusterOf s.repository c q
      → slice_get s.repository.packages j ≡ Some q → slice_index s.cluster_of j ≡ slice_index s.cluster_of i
  same-cluster i j c q is_c in_cluster is_q = clustered-same s space.frame i j c q is_c is_q in_cluster.clustered

  cluster-stays : (i : ℕ) (c : Package) → slice_get s.repository.packages i ≡ Some c → class_chosen s holds (slice_index s.cluster_of i) ≡ None
      → Stays s.repository (future_of s holds version) c
  cluster-stays i c is none q n in_cluster there name =
      let at = place-of s.repository.packages q in_cluster.there in
      let same = same-cluster i at.place c q is in_cluster at.is in
      named-later at.place q n at.is there name ∙ ap (moved_package s holds version at.place q) (ap (class_chosen s holds) same ∙ none)

  cluster-moves : (i k : ℕ) (c : Package) → slice_get s.repository.packages i ≡ Some c → class_chosen s holds (slice_index s.cluster_of i) ≡ Some k
      → Moves s.repository (future_of s holds version) c
  cluster-moves i k c is some =
      let own = slice_index s.cluster_of i in
      let short = (chosen-short own k some).0 in
      let has = has-cluster s space.frame i (slice_get_within s.repository.packages i c is) in
      let class = versions own k short in
      record {
        version = version own k;
        above = record {
          is_version = class.0;
          above = λ q in_cluster.
              let at = place-of s.repository.packages q in_cluster.there in
              let same = same-cluster i at.place c q is in_cluster at.is in
              above-top s space.frame at.place q (version own k) at.is
              (subst (λ (x : ℕ). IsBelow (get_or s.clusters.tops x []) (version own k)) (sym same)
              (class-above laws s space.frame own k (version own k) has.within class.1));
        };
        moved = λ q n in_cluster there name.
            let at = place-of s.repository.packages q in_cluster.there in
            let same = same-cluster i at.place c q is in_cluster at.is in
            let n_is : n ≡ new_version s holds version at.place k q = named-later at.place q n at.is there name
            ∙ ap (moved_package s holds version at.place q) (ap (class_chosen s holds) same ∙ some) in
            let here : k < length (member_classes s at.place) = subst (λ (x : ℕ). k < length (cluster_classes s x)) (sym same) short in
            let new : IsNewOf q (new_version s holds version at.place k q) = (kept_of at.place k q, new-of at.place k q here) in (
              subst (λ (x : Package). IsNewOf q x) (sym n_is) new,
              subst (λ (x : Package). version_cmp x.version (version own k) ≡ Equal) (sym n_is)
                  (subst (λ (x : ℕ). version_cmp (version x k) (version own k) ≡ Equal) (sym same) (equal-itself (version own k))),
            );
      }

  pub future-is : IsFuture s.repository (future_of s holds version)
  future-is = record {
    one_of_a_name = future-flat;
    clusters = λ c there.
        let at = place-of s.repository.packages c there in
        elim (option-cases (class_chosen s holds (slice_index s.cluster_of at.place))) [
          | inl none ↦ inl (cluster-stays at.place c at.is none)
          | inr some ↦ inr (cluster-moves at.place some.0 c at.is some.1)
        ];
    fresh = λ n there not_taken. let g = future-given n there in fresh-new-of n not_taken g.meaning g.is_meaning g.given;
  }
    where
      fresh-new-of : (n : Package) → ¬ IsTaken s.repository n.name → (m : Meaning) → IsMeaning s m → Given n m → IsOfNewName n.name n
          × (¬ IsProvided s.repository n.name)
      fresh-new-of n not_taken _ is_meaning (given_later r l) =
          absurd (not_taken (any-at (λ (y : Package). y.name ≡ n.name) s.repository.packages r l.q l.is (sym (later-name r n l))))
      fresh-new-of n not_taken _ is_meaning (given_fresh x k f) =
          let name : fresh_package f.name (example_at (fresh_classes s x) k) ≡ n = sym f.same in
          subst (λ (y : Package). IsOfNewName y.name y × (¬ IsProvided s.repository y.name)) name
          (fresh-new f.name (example_at (fresh_classes s x) k) (space.frame.name_examples x k is_meaning).0, unprovided x f.name f.is)

  -- ---- what is installed

  record IsOld (r : ℕ) (n : Package) : Type 0 where
    is : slice_get s.repository.packages r ≡ Some n
    holds_is : holds (Present r) ≡ true

  record IsNew (r k : ℕ) (n : Package) : Type 0 where
    q : Package
    is : slice_get s.repository.packages r ≡ Some q
    holds_is : holds (New r k) ≡ true
    same : n ≡ new_version s holds version r k q

  data Installed (n : Package) : Meaning → Type 0 where
    installed_old : (r : ℕ) → IsOld r n → Installed n (Present r)
    installed_new : (r k : ℕ) → IsNew r k n → Installed n (New r k)
    installed_fresh : (x k : ℕ) → IsFreshPackage x k n → Installed n (Fresh x k)

  installed-given : (m : Meaning) (n : Package) → installed_package s holds version m ≡ Some n → Installed n m
  installed-given Now n gives = absurd (let none : None ≡ Some n = gives in cc)
  installed-given (Present r) n gives =
      let at = if-some (holds (Present r)) (slice_get s.repository.packages r) n gives in installed_old r (record { is = at.1; holds_is = at.0 })
  installed-given (At c k) n gives = absurd (let none : None ≡ Some n = gives in cc)
  installed-given (New r k) n gives =
      let at = if-some (holds (New r k)) (option_map (λ (p : Package). new_version s holds version r k p) (slice_get s.repository.packages r)) n gives in
      let q = map-some (λ (p : Package). new_version s holds version r k p) (slice_get s.repository.packages r) n at.1 in
      installed_new r k (record { q = q.0; is = q.1; holds_is = at.0; same = sym q.2 })
  installed-given (Kept r k j) n gives = absurd (let none : None ≡ Some n = gives in cc)
  installed-given (Fresh x k) n gives = installed_fresh x k (fresh-given x k n gives)

  member-given : (n : Package) → Contains (installation_of s holds version) n → GivenBy Installed n
  member-given n there =
      let at = made-of (installed_package s holds version) s.meanings n there in
      record {
        meaning = at.source;
        is_meaning = ((space.meanings.exact at.source).0 (contains-at s.meanings at.place at.source at.is)).0;
        given = installed-given at.source n at.gives;
      }

  pub old-member : (r : ℕ) (q : Package) → slice_get s.repository.packages r ≡ Some q → holds (Present r) ≡ true → Contains (installation_of s holds version) q
  old-member r q is true_is =
      let at = place-of-meaning (Present r) (slice_get_within s.repository.packages r q is) in
      made (installed_package s holds version) s.meanings at.place (Present r) q at.is
      (if-true (holds (Present r)) (slice_get s.repository.packages r) None true_is ∙ is)

  new-member : (r k : ℕ) (q : Package) → slice_get s.repository.packages r ≡ Some q → IsMeaning s (New r k) → holds (New r k) ≡ true
      → Contains (installation_of s holds version) (new_version s holds version r k q)
  new-member r k q is is_meaning true_is =
      let at = place-of-meaning (New r k) is_meaning in
      made (installed_package s holds version) s.meanings at.place (New r k) (new_version s holds version r k q) at.is
      (if-true (holds (New r k)) (option_map (λ (p : Package). new_version s holds version r k p) (slice_get s.repository.packages r)) None true_is
      ∙ ap (option_map (λ (p : Package). new_version s holds version r k p)) is)

  fresh-member : (x k : ℕ) (name : List ℕ) → slice_get s.names x ≡ Some name → IsMeaning s (Fresh x k) → holds (Fresh x k) ≡ true
      → Contains (installation_of s holds version) (fresh_package name (example_at (fresh_classes s x) k))
  fresh-member x k name is is_meaning true_is =
      let at = place-of-meaning (Fresh x k) is_meaning in
      made (installed_package s holds version) s.meanings at.place (Fresh x k) (fresh_package name (example_at (fresh_classes s x) k)) at.is
      (fresh-gives x k name is true_is)

  -- a member whose package is installed as it is today stays
  old-stays : (r : ℕ) → r < length s.repository.packages → holds (Present r) ≡ true → class_chosen s holds (slice_index s.cluster_of r) ≡ None
  old-stays r within true_is = elim (option-cases (class_chosen s holds (slice_index s.cluster_of r))) [
    | inl none ↦ none
    | inr some ↦ let at = chosen-short (slice_index s.cluster_of r) some.0 some.1 in absurd (futures.gone r some.0 (within, at.0) true_is at.1)
  ]

  new-moves : (r k : ℕ) → IsMeaning s (New r k) → holds (New r k) ≡ true → class_chosen s holds (slice_index s.cluster_of r) ≡ Some k
  new-moves r k is_meaning true_is = chosen-is (slice_index s.cluster_of r) k is_meaning.1 (futures.moved r k is_meaning true_is)

  member-in-future : (n : Package) → Contains (installation_of s holds version) n → Contains (future_of s holds version) n
  member-in-future n there = let g = member-given n there in at g.meaning g.is_meaning g.given
    where
      at : (m : Meaning) → IsMeaning s m → Installed n m → Contains (future_of s holds version) n
      at _ is_meaning (installed_old r o) =
          subst (λ (x : Package). Contains (future_of s holds version) x) (ap (moved_package s holds version r n) (old-stays r is_meaning o.holds_is))
          (in-future r n o.is)
      at _ is_meaning (installed_new r k w) =
          subst (λ (x : Package). Contains (future_of s holds version) x)
          (ap (moved_package s holds version r w.q) (new-moves r k is_meaning w.holds_is) ∙ sym w.same) (in-future r w.q w.is)
      at _ is_meaning (installed_fresh x k f) =
          subst (λ (y : Package). Contains (future_of s holds version) y) (sym f.same) (fresh-in-future x k f.name f.is is_meaning f.holds_is)

  -- ---- the installation has one package of a name

  old-new-apart : (r o k : ℕ) (p n : Package) → IsMeaning s (New o k) → IsOld r p → IsNew o k n → p.name ≢ n.name
  old-new-apart r o k p n is_meaning a b same =
      let one : r ≡ o = names-apart s.repository.packages r o p b.q space.frame.flat a.is b.is (same ∙ ap (λ (x : Package). x.name) b.same) in
      futures.gone o k is_meaning (subst (λ (x : ℕ). holds (Present x) ≡ true) one a.holds_is) (futures.moved o k is_meaning b.holds_is)

  new-new-apart : (r k o l : ℕ) (p n : Package) → IsMeaning s (New r k) → IsMeaning s (New o l) → New r k ≢ New o l → IsNew r k p → IsNew o l n
      → p.name ≢ n.name
  new-new-apart r k o l p n first second apart a b same =
      let one : r ≡ o = names-apart s.repository.packages r o a.q b.q space.frame.flat a.is b.is
      (sym (ap (λ (x : Package). x.name) a.same) ∙ same ∙ ap (λ (x : Package). x.name) b.same) in
      let k_is = new-moves r k first a.holds_is in
      let l_is : class_chosen s holds (slice_index s.cluster_of r) ≡ Some l = ap (λ (x : ℕ). class_chosen s holds (slice_index s.cluster_of x)) one
      ∙ new-moves o l second b.holds_is in
      let equal : k ≡ l = same_Some k l (sym k_is ∙ l_is) in
      apart (ap (λ (z : ℕ). New z k) one ∙ ap (λ (z : ℕ). New o z) equal)

  new-fresh-apart : (r k x l : ℕ) (p n : Package) → IsNew r k p → IsFreshPackage x l n → p.name ≢ n.name
  new-fresh-apart r k x l p n a f = fresh-apart r x l p n a.q a.is (ap (λ (y : Package). y.name) a.same) f

  installed-apart : (p n : Package) (a b : Meaning) → Installed p a → Installed n b → IsMeaning s a → IsMeaning s b → a ≢ b → p.name ≢ n.name
  installed-apart p n _ _ (installed_old r u) (installed_old o v) first second apart same =
      apart (ap (λ (k : ℕ). Present k) (names-apart s.repository.packages r o p n space.frame.flat u.is v.is same))
  installed-apart p n _ _ (installed_old r u) (installed_new o k v) first second apart same = old-new-apart r o k p n second u v same
  installed-apart p n _ _ (installed_old r u) (installed_fresh x k f) first second apart same = fresh-apart r x k p n p u.is refl f same
  installed-apart p n _ _ (installed_new r k u) (installed_old o v) first second apart same = old-new-apart o r k n p first v u (sym same)
  installed-apart p n _ _ (installed_new r k u) (installed_new o l v) first second apart same = new-new-apart r k o l p n first second apart u v same
  installed-apart p n _ _ (installed_new r k u) (installed_fresh x l f) first second apart same = new-fresh-apart r k x l p n u f same
  installed-apart p n _ _ (installed_fresh x k f) (installed_old o v) first second apart same = fresh-apart o x k n p n v.is refl f (sym same)
  installed-apart p n _ _ (installed_fresh x k f) (installed_new o l v) first second apart same = new-fresh-apart o l x k n p v f (sym same)
  installed-apart p n _ _ (installed_fresh x k f) (installed_fresh y l g) first second apart same = one-fresh x k y l p n first second apart f g same

  members-flat : IsFlat (installation_of s holds version)
  members-flat =
      made-pairs (installed_package s holds version) (λ (p q : Package). p.name ≢ q.name) s.meanings
      (λ i j a b p q less first second gives also. installed-apart p q a b (installed-given a p gives) (installed-given b q also)
      ((space.meanings.exact a).0 (contains-at s.meanings i a first)).0 ((space.meanings.exact b).0 (contains-at s.meanings j b second)).0
      (meanings-apart i j a b less first second))

  -- ---- what meets items

  abbrev architecture : Option (List ℕ)
  architecture = s.repository.architecture

  new-matches : (r k : ℕ) (q : Package) (atom : Atom) → IsAtomOf s.repository atom → slice_get s.repository.packages r ≡ Some q → IsMeaning s (New r k)
      → IsMatched s atom (New r k) → Matches s.repository.architecture atom (new_version s holds version r k q)
  new-matches r k q atom of is is_meaning matched =
      from-new s r k q (member-of-class laws s space r k q is is_meaning.1) atom of (new_version s holds version r k q) (kept_of r k q)
      (new-of r k q is_meaning.1) (class-of-new r k q is_meaning.1) matched

  kept-matches : (r k j : ℕ) (q : Package) (atom : Atom) → IsAtomOf s.repository atom → slice_get s.repository.packages r ≡ Some q → IsMeaning s (Kept r k j)
      → holds (Kept r k j) ≡ true → IsMatched s atom (Kept r k j)
      → Matches s.repository.architecture atom (new_version s holds version r k q)
  kept-matches r k j q atom of is is_meaning true_is matched =
      let here = has-at (λ (p : Package). IsSomeAnd (slice_get p.provides j) (λ entry. IsUsable s.repository.architecture entry.qualifier))
      s.repository.packages r q is is_meaning.0 in
      let entry = here-at (λ (e : Provide). IsUsable s.repository.architecture e.qualifier) q.provides j here in
      from-kept s r k q (member-of-class laws s space r k q is is_meaning.1) atom of (new_version s holds version r k q) (kept_of r k q) j
      (new-of r k q is_meaning.1) (class-of-new r k q is_meaning.1)
      (flag-is s.repository.architecture (λ i. holds (Kept r k i)) q.provides j entry.element entry.is
      (usable-is s.repository.architecture entry.element.qualifier entry.holds) true_is) matched

  kept-within : (r k j : ℕ) → IsMeaning s (Kept r k j) → IsMeaning s (New r k)
  kept-within r k j is_meaning = (
    within-from (λ (p : Package). IsSomeAnd (slice_get p.provides j)
        (λ entry. IsUsable s.repository.architecture entry.qualifier)) s.repository.packages r is_meaning.0,
    is_meaning.1,
  )

  member-for : (m : Meaning) → IsMeaning s m → holds m ≡ true → (atom : Atom) → IsAtomOf s.repository atom → IsMatched s atom m
      → Any (Matches s.repository.architecture atom) (installation_of s holds version)
  member-for Now is_meaning true_is atom of matched = absurd matched.1
  member-for (At c k) is_meaning true_is atom of matched = absurd matched.1
  member-for (Present r) is_meaning true_is atom of matched =
      let q = here-at (Matches s.repository.architecture atom) s.repository.packages r matched.1 in
      any-contained (Matches s.repository.architecture atom) (installation_of s holds version) q.element (old-member r q.element q.is true_is) q.holds
  member-for (New r k) is_meaning true_is atom of matched =
      let q = element-at s.repository.packages r is_meaning.0 in
      any-contained (Matches s.repository.architecture atom) (installation_of s holds version) (new_version s holds version r k q.element)
      (new-member r k q.element q.is is_meaning true_is)
      (new-matches r k q.element atom of q.is is_meaning matched)
  member-for (Kept r k j) is_meaning true_is atom of matched =
      let within = kept-within r k j is_meaning in
      let q = element-at s.repository.packages r within.0 in
      any-contained (Matches s.repository.architecture atom) (installation_of s holds version) (new_version s holds version r k q.element)
      (new-member r k q.element q.is within (futures.carried r k j is_meaning true_is))
      (kept-matches r k j q.element atom of q.is is_meaning true_is matched)
  member-for (Fresh x k) is_meaning true_is atom of matched =
      let name = here-at (λ (n : List ℕ). (n ≡ atom.name) × MeetsBound atom (example_at (fresh_classes s x) k)) s.names x matched.1 in
      let example = space.frame.name_examples x k is_meaning in
      any-contained (Matches s.repository.architecture atom) (installation_of s holds version) (fresh_package name.element (example_at (fresh_classes s x) k))
      (fresh-member x k name.element name.is is_meaning true_is)
      (from-fresh s x k name.element (fresh-at laws s space.frame x k name.element name.is is_meaning) atom of
      (fresh_package name.element (example_at (fresh_classes s x) k)) (fresh-new name.element (example_at (fresh_classes s x) k) example.0) example.1
      matched)

  -- ---- a cluster at a version

  pub holds-cluster : (c k m : ℕ) (q : Package) → slice_index s.cluster_of m ≡ c → slice_get s.repository.packages m ≡ Some q → k < length (cluster_classes s c)
      → holds (At c k) ≡ true → HoldsCluster s.repository (future_of s holds version) q (version c k)
  holds-cluster c k m q cluster_is is short at p in_cluster =
      let place = place-of s.repository.packages p in_cluster.there in
      let same : slice_index s.cluster_of place.place ≡ c = same-cluster m place.place q p is in_cluster place.is ∙ cluster_is in
      let chosen : class_chosen s holds (slice_index s.cluster_of place.place) ≡ Some k = ap (class_chosen s holds) same ∙ chosen-is c k short at in
      let there : Contains (future_of s holds version) (new_version s holds version place.place k p) =
      subst (λ (x : Package). Contains (future_of s holds version) x) (ap (moved_package s holds version place.place p) chosen)
      (in-future place.place p place.is) in
      any-contained (λ (n : Package). (n.name ≡ p.name) × (version_cmp n.version (version c k) ≡ Equal)) (future_of s holds version)
      (new_version s holds version place.place k p) there
      (refl, subst (λ (x : ℕ). version_cmp (version x k) (version c k) ≡ Equal) (sym same) (equal-itself (version c k)))

  -- ---- what needs all demands

  module _ (met : AreMet s (λ m. holds m ≡ true)) where
    item-met : (r place : ℕ) (p : Package) (item : List Atom) → slice_get s.repository.packages r ≡ Some p → slice_get p.depends place ≡ Some item
        → holds (Present r) ≡ true → IsMet s.repository.architecture (installation_of s holds version) item
    item-met r place p item is is_item true_is =
        let some = met.met r place p item is is_item true_is in
        let at = found-at (λ atom. IsMatched s atom some.meaning) item some.has in
        let dependency : IsDependencyAtom s.repository.packages at.element =
        any-at (λ (q : Package). Any (λ i. Contains i at.element) q.depends) s.repository.packages r p is
        (any-at (λ i. Contains i at.element) p.depends place item is_item (contains-at item at.place at.element at.is)) in
        any-at (λ atom. Any (Matches s.repository.architecture atom) (installation_of s holds version)) item at.place at.element at.is
        (member-for some.meaning some.is_meaning some.holds at.element (record { usable = at.holds.0; there = inl dependency }) at.holds)

    all-met : All (λ p. All (IsMet s.repository.architecture (installation_of s holds version)) p.depends) (installation_of s holds version)
    all-met = all-contained (λ p. All (IsMet s.repository.architecture (installation_of s holds version)) p.depends) (installation_of s holds version)
        (λ n there. let g = member-given n there in at n g.meaning g.given)
      where
        at : (n : Package) (m : Meaning) → Installed n m → All (IsMet s.repository.architecture (installation_of s holds version)) n.depends
        at n _ (installed_old r o) =
            all-contained (IsMet s.repository.architecture (installation_of s holds version)) n.depends
            (λ item there. let place = place-of n.depends item there in item-met r place.place n item o.is place.is o.holds_is)
        at n _ (installed_new r k w) =
            subst (λ (x : Package). All (IsMet s.repository.architecture (installation_of s holds version)) x.depends) (sym w.same)
            (All-nil (IsMet s.repository.architecture (installation_of s holds version)))
        at n _ (installed_fresh x k f) =
            subst (λ (x : Package). All (IsMet s.repository.architecture (installation_of s holds version)) x.depends) (sym f.same)
            (All-nil (IsMet s.repository.architecture (installation_of s holds version)))

    -- ---- conflicts

    other-name : (o : ℕ) (q : Package) (name : List ℕ) → slice_get s.repository.packages o ≡ Some q → q.name ≢ name
        → IsSomeAnd (option_map (λ (x : Package). x.name) (slice_get s.repository.packages o)) (λ n. n ≢ name)
    other-name o q name is other =
        let Differs : Option Package → Type 0 = λ x. IsSomeAnd (option_map (λ (y : Package). y.name) x) (λ n. n ≢ name) in
        subst Differs (sym is) other

    abbrev Rejects : Package → Package → Type 0
    Rejects p n = Any (λ atom. Matches s.repository.architecture atom n) p.conflicts

    old-rejects-old : (r o : ℕ) (p n : Package) → IsOld r p → IsOld o n → p.name ≢ n.name → ¬ Rejects p n
    old-rejects-old r o p n a b names any =
        let conflict : AreInConflict s.repository.architecture p n = record { different = λ same. names same.0; matched = inl any } in
        elim (cases_lt r o) [
          | inl less ↦ met.apart r p (Present o) a.is (slice_get_within s.repository.packages o n b.is)
              (less, at-has (AreInConflict s.repository.architecture p) s.repository.packages o n b.is conflict) a.holds_is b.holds_is
          | inr more ↦ elim (cases_lt o r) [
            | inl less ↦
                met.apart o n (Present r) b.is (slice_get_within s.repository.packages r p a.is)
                (less, at-has (AreInConflict s.repository.architecture n) s.repository.packages r p a.is (conflict-back s.repository.architecture p n conflict))
                b.holds_is a.holds_is
            | inr also ↦
                let one : r ≡ o = omega (arith, more, also) in
                let here : slice_get s.repository.packages o ≡ Some p = ap (λ (k : ℕ). slice_get s.repository.packages k) (sym one) ∙ a.is in
                let there = b.is in
                let same : p ≡ n = cc in names (ap (λ (x : Package). x.name) same)
          ]
        ]

    old-rejects-new : (r o k : ℕ) (p n : Package) → IsOld r p → IsNew o k n → IsMeaning s (New o k) → p.name ≢ n.name → ¬ Rejects p n
    old-rejects-new r o k p n a b is_meaning names any =
        let at = found-at (λ atom. Matches s.repository.architecture atom n) p.conflicts any in
        let of = conflict-atom s r p at.place at.element a.is at.is at.holds.usable in
        let other : b.q.name ≢ p.name = λ same. names (sym same ∙ sym (ap (λ (x : Package). x.name) b.same)) in
        let matches : Matches s.repository.architecture at.element (new_version s holds version o k b.q) =
        subst (λ (x : Package). Matches s.repository.architecture at.element x) b.same at.holds in
        elim (to-new s o k b.q (member-of-class laws s space o k b.q b.is is_meaning.1) at.element of (new_version s holds version o k b.q) (kept_of o k b.q)
        (new-of o k b.q is_meaning.1) (class-of-new o k b.q is_meaning.1) matches) [
          | inl matched ↦
              met.apart r p (New o k) a.is is_meaning (
                other-name o b.q p.name b.is other,
                any-at (λ atom. IsMatched s atom (New o k)) p.conflicts at.place at.element at.is matched,
              ) a.holds_is b.holds_is
          | inr kept ↦
              let j = kept.0 in
              met.apart r p (Kept o k j) a.is kept.1.1 (
                other-name o b.q p.name b.is other,
                any-at (λ atom. IsMatched s atom (Kept o k j)) p.conflicts at.place at.element at.is kept.1.2,
              ) a.holds_is
              (flag-at s.repository.architecture (λ i. holds (Kept o k i)) b.q.provides j kept.1.0)
        ]

    old-rejects-fresh : (r x k : ℕ) (p n : Package) → IsOld r p → IsFreshPackage x k n → IsMeaning s (Fresh x k) → p.name ≢ n.name → ¬ Rejects p n
    old-rejects-fresh r x k p n a f is_meaning names any =
        let at = found-at (λ atom. Matches s.repository.architecture atom n) p.conflicts any in
        let of = conflict-atom s r p at.place at.element a.is at.is at.holds.usable in
        let example = space.frame.name_examples x k is_meaning in
        let matches : Matches s.repository.architecture at.element (fresh_package f.name (example_at (fresh_classes s x) k)) =
        subst (λ (y : Package). Matches s.repository.architecture at.element y) f.same at.holds in
        let matched = to-fresh s x k f.name (fresh-at laws s space.frame x k f.name f.is is_meaning) at.element of
        (fresh_package f.name (example_at (fresh_classes s x) k)) (fresh-new f.name (example_at (fresh_classes s x) k) example.0) example.1 matches in
        let other : f.name ≢ p.name = λ same. names (sym same ∙ sym (ap (λ (y : Package). y.name) f.same)) in
        met.apart r p (Fresh x k) a.is is_meaning (
          at-has (λ (n : List ℕ). n ≢ p.name) s.names x f.name f.is other,
          any-at (λ atom. IsMatched s atom (Fresh x k)) p.conflicts at.place at.element at.is matched,
        ) a.holds_is f.holds_is

    nothing-rejected : (p n : Package) → p.conflicts ≡ [] → ¬ Rejects p n
    nothing-rejected p n none any = let there = subst (λ (xs : List Atom). Any (λ atom. Matches s.repository.architecture atom n) xs) none any in
        omega (arith, there.2)

    never-rejects : (p n : Package) (a b : Meaning) → Installed p a → Installed n b → IsMeaning s b → p.name ≢ n.name → ¬ Rejects p n
    never-rejects p n _ _ (installed_old r u) (installed_old o v) is_meaning names = old-rejects-old r o p n u v names
    never-rejects p n _ _ (installed_old r u) (installed_new o k v) is_meaning names = old-rejects-new r o k p n u v is_meaning names
    never-rejects p n _ _ (installed_old r u) (installed_fresh x k f) is_meaning names = old-rejects-fresh r x k p n u f is_meaning names
    never-rejects p n _ b (installed_new r k u) other is_meaning names = nothing-rejected p n (ap (λ (x : Package). x.conflicts) u.same)
    never-rejects p n _ b (installed_fresh x k f) other is_meaning names = nothing-rejected p n (ap (λ (x : Package). x.conflicts) f.same)

    no-conflict : (p n : Package) → Contains (installation_of s holds version) p → Contains (installation_of s holds version) n → p.name ≢ n.name
        → ¬ AreInConflict s.repository.architecture p n
    no-conflict p n first second names conflict =
        let a = member-given p first in
        let b = member-given n second in
        elim conflict.matched [
          | inl any ↦ never-rejects p n a.meaning b.meaning a.given b.given b.is_meaning names any
          | inr any ↦ never-rejects n p b.meaning a.meaning b.given a.given a.is_meaning (λ same. names (sym same)) any
        ]

    -- ---- required names

    bears : (name : List ℕ) (m : Meaning) → IsMeaning s m → holds m ≡ true → IsBearer s name m
        → Any (λ (p : Package). p.name ≡ name) (installation_of s holds version)
    bears name Now is_meaning true_is bearer = absurd bearer
    bears name (At c k) is_meaning true_is bearer = absurd bearer
    bears name (Kept r k j) is_meaning true_is bearer = absurd bearer
    bears name (Fresh x k) is_meaning true_is bearer = absurd bearer
    bears name (Present r) is_meaning true_is bearer =
        let q = here-at (λ (p : Package). p.name ≡ name) s.repository.packages r bearer in
        any-contained (λ (p : Package). p.name ≡ name) (installation_of s holds version) q.element (old-member r q.element q.is true_is) q.holds
    bears name (New r k) is_meaning true_is bearer =
        let q = here-at (λ (p : Package). p.name ≡ name) s.repository.packages r bearer in
        any-contained (λ (p : Package). p.name ≡ name) (installation_of s holds version) (new_version s holds version r k q.element)
        (new-member r k q.element q.is is_meaning true_is) q.holds

    pub healthy-is : IsInstallationOf s.essential s.repository (future_of s holds version) (installation_of s holds version)
    healthy-is = record {
      chosen = all-contained (Contains (future_of s holds version)) (installation_of s holds version) member-in-future;
      one_of_a_name = members-flat;
      met = all-met;
      no_conflict = pairs-more (λ (p q : Package). p.name ≢ q.name) (λ p q. ¬ AreInConflict s.repository.architecture p q) (installation_of s holds version)
          no-conflict members-flat;
      has_required = all-contained (λ name. Any (λ (p : Package). p.name ≡ name) (installation_of s holds version))
          (required_names s.essential s.repository.packages)
          (λ name there. let some = met.required name there in bears name some.meaning some.is_meaning some.holds some.has);
    }

    -- ---- the archive of today

    pub today-is : holds Now ≡ true → IsInstallation s.essential s.repository (installation_of s holds version)
    today-is now = record {
      chosen = all-contained (Contains s.repository.packages) (installation_of s holds version)
          (λ n there. let g = member-given n there in at n g.meaning g.is_meaning g.given);
      one_of_a_name = healthy-is.one_of_a_name;
      met = healthy-is.met;
      no_conflict = healthy-is.no_conflict;
      has_required = healthy-is.has_required;
    }
      where
        at : (n : Package) (m : Meaning) → IsMeaning s m → Installed n m → Contains s.repository.packages n
        at n _ is_meaning (installed_old r o) = contains-at s.repository.packages r n o.is
        at n _ is_meaning (installed_new r k w) =
            absurd (futures.stays (slice_index s.cluster_of r) k is_meaning.1 now (futures.moved r k is_meaning w.holds_is))
        at n _ is_meaning (installed_fresh x k f) = absurd (futures.absent x k is_meaning now f.holds_is)
