-- A plan leads from the repository to its later archive: after the steps for so many first clusters the archive has what
-- the later archive has of their names, and what the repository has of the other ones.
use Rattle.std.proofs.Common.{◌≡◌, ◌≢◌, ◌⊎◌, ◌↔◌, ℕ, zero, suc, ◌<◌, ◌≤◌, List, [], ◌∷◌, ◌++◌, None, Some, length, slice_get}
use Rattle.std.proofs.Common.{refl, sym, ap, subst, ◌∙◌, inl, inr, arith}
use Rattle.std.specs.Prelude.{AllPairs, Contains}
use Rattle.std.specs.declared.cmp.Ordering.TheVariants.{Equal}
use Rattle.std.specs.List.Sorted.{IsStrictlyIncreasing}
use Rattle.std.proofs.lemmas.Bool.{cases_eq}
use Rattle.std.proofs.lemmas.List.{length-map}
use Rattle.std.proofs.lemmas.List.Elements.{All-contains, Contains-append_cases, Contains-append_left, Contains-append_right}
use Rattle.std.proofs.lemmas.List.Kept.{AllPairs-from_increasing}
use Rattle.std.proofs.lemmas.Option.{slice_get_within}
use Rattle.dist_base.specs.ListLaws.{all-contained, any-contained, at-has, contains-at, found-at, has-at, here-at, pairs-head, pairs-tail, place-of, same-at}
use Rattle.dist_base.specs.ListLaws.{within-from}
use Rattle.dist_version.specs.Order.{version_cmp}
use Rattle.dist_cluster.specs.Partition.{IsIn}
use Rattle.dist_repo.specs.DecidedLaws.{not-decided, text-decided}
use Rattle.dist_repo.specs.Order.{IsFlat}
use Rattle.dist_repo.specs.PackageList.{IsPackageAnd}
use Rattle.dist_repo.specs.declared.package.Package.{Package}
use Rattle.dist_classes.specs.Answers.{member_of}
use Rattle.dist_classes.specs.VersionOrderLaws.{alike-left, equal-back}
use Rattle.dist_space.specs.ClusterLaws.{names-apart}
use Rattle.dist_space.specs.Space.{IsFrame, SpaceView}
use Rattle.dist_future.specs.Future.{IsAboveCluster, IsFuture, IsInClusterOf, IsTaken, Moves, Stays}
use Rattle.dist_archive.specs.Reach.{AreNewNames, AreParts, AreRemovals, HasLater, IsLater, IsPart, IsPlan, IsUploadOf}
use Rattle.dist_archive.specs.Steps.{BringsName, HasExactly, IsAboveAll, IsClusterName, IsHeld, IsOfCluster, IsUploaded, Lead, Makes}
use Rattle.dist_archive.specs.declared.step.Step.{Step}
use Rattle.dist_archive.specs.declared.step.Step.TheVariants.{Upload, Removal, NewName}
use Rattle.dist_archive.proofs.ClusterLemmas.{in-cluster, in-member, member-in}
use Rattle.dist_archive.proofs.FitLemmas.{above-same, cluster-name-decided, held-decided, kept-not_later, later-of, moved-later, taken-decided}
use Rattle.dist_archive.proofs.FutureLemmas.{clustered-back, one-named}
use Rattle.dist_archive.proofs.HeldLemmas.{pairs-append}
use Rattle.dist_archive.proofs.LeadLemmas.{cons-cases, cons-head, cons-later, exactly-itself, exactly-same, flat-cons, lead-append, lead-one, lead-to, those}

-- some archive has exactly the packages with a property, and steps lead to it
pub record IsLedTo (s : SpaceView) (steps : List Step) (old : List Package) (P : Package → Type 0) : Type 0 where
  pub archive : List Package
  pub exactly : HasExactly archive P
  pub lead : Lead s steps old archive

-- the name is that of a package of the cluster of a number
abbrev pub IsNameOf : SpaceView → (cluster : ℕ) → (name : List ℕ) → Type 0
IsNameOf s cluster name = (m : ℕ) × IsIn s.clusters.members cluster m × IsPackageAnd s.repository.packages m (λ q. q.name ≡ name)

-- what the archive has after the steps for so many clusters
abbrev pub IsAtStage : SpaceView → (later : List Package) → (count : ℕ) → Package → Type 0
IsAtStage s later count n = (cluster : ℕ) × IsNameOf s cluster n.name
    × (((cluster < count) × Contains later n) ⊎ ((count ≤ cluster) × Contains s.repository.packages n))

-- what is left of an archive once those of some members are gone that the later archive does not have
abbrev pub IsLeft : SpaceView → (later archive : List Package) → (members : List ℕ) → Package → Type 0
IsLeft s later archive members n = Contains archive n × ((m : ℕ) (q : Package) → Contains members m
    → slice_get s.repository.packages m ≡ Some q → ¬ IsHeld later q.name → n.name ≢ q.name)

module _ (s : SpaceView) (frame : IsFrame s) (later : List Package) where
  pub removals-led : (members : List ℕ) (steps : List Step) (archive : List Package) → AllPairs (λ a b. a < b) members
      → AreRemovals s.repository later members steps → IsFlat archive
      → ((m : ℕ) (q : Package) → Contains members m → slice_get s.repository.packages m ≡ Some q → IsHeld archive q.name)
      → IsLedTo s steps archive (IsLeft s later archive members)
  removals-led [] steps archive rising are flat held = record {
    archive = archive;
    exactly = record {
      one_of_a_name = flat;
      exact = λ n. ((λ there. (there, λ m q none is missing same. omega (arith, none.1))), λ left. left.0);
    };
    lead = subst (λ (x : List Step). Lead s x archive archive) (sym are) (exactly-itself archive flat);
  }
  removals-led (m ∷ members) steps archive rising (inl skip) flat held =
      let rest = removals-led members steps archive (pairs-tail (λ a b. a < b) m members rising) skip.1 flat
      (λ k q there is. held k q (cons-later m k members there) is) in
      record {
        archive = rest.archive;
        exactly = exactly-same rest.archive (IsLeft s later archive members) (IsLeft s later archive (m ∷ members))
            (λ n. (
              (λ left. (
                left.0,
                λ k q there is missing. elim (cons-cases m k members there) [
                  | inl same ↦ absurd (skip.0 (at-has (λ (x : Package). ¬ IsHeld later x.name) s.repository.packages m q
                      (subst (λ (j : ℕ). slice_get s.repository.packages j ≡ Some q) (sym same) is) missing))
                  | inr more ↦ left.1 k q more is missing
                ],
              )),
              λ left. (left.0, λ k q there is missing. left.1 k q (cons-later m k members there) is missing),
            )) rest.exactly;
        lead = rest.lead;
      }
  removals-led (m ∷ members) steps archive rising (inr take) flat held =
      let q = here-at (λ (x : Package). ¬ IsHeld later x.name) s.repository.packages m take.0 in
      let does : take.1.0 ≡ Removal q.element.name =
      has-at (λ (x : Package). take.1.0 ≡ Removal x.name) s.repository.packages m q.element q.is take.1.3 in
      let left = those (λ n. n.name ≢ q.element.name) (λ n. not-decided (text-decided n.name q.element.name)) archive in
      let makes : Makes s (Removal q.element.name) archive left.some = record {
        there = held m q.element (cons-head m members) q.is;
        made = record { one_of_a_name = left.flat flat; exact = left.exact };
      } in
      let rest = removals-led members take.1.1 left.some (pairs-tail (λ a b. a < b) m members rising) take.1.4 (left.flat flat)
      (λ k p there is.
      let at = found-at (λ (x : Package). x.name ≡ p.name) archive (held k p (cons-later m k members there) is) in
      any-contained (λ (x : Package). x.name ≡ p.name) left.some at.element ((left.exact at.element).1 (
        contains-at archive at.place at.element at.is,
        λ same.
            let at_m : k ≡ m = names-apart s.repository.packages k m p q.element frame.flat is q.is (sym at.holds ∙ same) in
            omega (arith, at_m, pairs-head (λ a b. a < b) m members rising k there),
      )) at.holds) in
      record {
        archive = rest.archive;
        exactly = exactly-same rest.archive (IsLeft s later left.some members) (IsLeft s later archive (m ∷ members))
            (λ n. (
              (λ gone. let both = (left.exact n).0 gone.0 in (
                both.0,
                λ k p there is missing. elim (cons-cases m k members there) [
                  | inl same ↦ subst (λ (x : Package). n.name ≢ x.name)
                      (same-at s.repository.packages m q.element p q.is (subst (λ (j : ℕ). slice_get s.repository.packages j ≡ Some p) (sym same) is)) both.1
                  | inr more ↦ gone.1 k p more is missing
                ],
              )),
              λ gone. (
                (left.exact n).1 (gone.0, gone.1 m q.element (cons-head m members) q.is q.holds),
                λ k p there is missing. gone.1 k p (cons-later m k members there) is missing,
              ),
            )) rest.exactly;
        lead = subst (λ (x : List Step). Lead s x archive rest.archive) (sym take.1.2)
            (left.some, subst (λ (x : Step). Makes s x archive left.some) (sym does) makes, rest.lead);
      }

module _ (s : SpaceView) (frame : IsFrame s) where
  -- ---- clusters by their numbers

  pub name-of : (cluster : ℕ) (c : Package) (name : List ℕ) → IsOfCluster s cluster c → IsClusterName s.repository c name → IsNameOf s cluster name
  name-of cluster c name of named =
      let at = place-of s.repository.packages named.0 named.1.there in (
        at.place,
        (in-cluster s frame cluster c of at.place named.0 at.is).1 named.1,
        at-has (λ (q : Package). q.name ≡ name) s.repository.packages at.place named.0 at.is named.2,
      )

  pub of-name : (cluster : ℕ) (c : Package) (name : List ℕ) → IsOfCluster s cluster c → IsNameOf s cluster name → IsClusterName s.repository c name
  of-name cluster c name of named =
      let at = here-at (λ (q : Package). q.name ≡ name) s.repository.packages named.0 named.2 in
      (at.element, (in-cluster s frame cluster c of named.0 at.element at.is).0 named.1, at.holds)

  -- a name is one of one cluster at most
  pub one-cluster : (a b : ℕ) (name : List ℕ) → IsNameOf s a name → IsNameOf s b name → a ≡ b
  one-cluster a b name first second =
      let p = here-at (λ (q : Package). q.name ≡ name) s.repository.packages first.0 first.2 in
      let q = here-at (λ (q : Package). q.name ≡ name) s.repository.packages second.0 second.2 in
      let same : first.0 ≡ second.0 =
      names-apart s.repository.packages first.0 second.0 p.element q.element frame.flat p.is q.is (p.holds ∙ sym q.holds) in
      let here : slice_get s.cluster_of first.0 ≡ Some a = (frame.placed a first.0).0 first.1 in
      let there : slice_get s.cluster_of second.0 ≡ Some b = (frame.placed b second.0).0 second.1 in
      let both : Some a ≡ Some b = sym here ∙ ap (slice_get s.cluster_of) same ∙ there in cc

  pub record HasNumber (name : List ℕ) : Type 0 where
    pub cluster : ℕ
    pub within : cluster < length s.clusters.members
    pub named : IsNameOf s cluster name

  pub taken-number : (name : List ℕ) → IsTaken s.repository name → HasNumber name
  taken-number name taken =
      let own = found-at (λ (q : Package). q.name ≡ name) s.repository.packages taken in
      let short = slice_get_within s.repository.packages own.place own.element own.is in
      let at = found-at (λ (cluster : List ℕ). Contains cluster own.place) s.clusters.members
      (frame.clusters.partition.every own.place (omega (arith, short, length-map s.repository.packages member_of))) in
      record {
        cluster = at.place;
        within = slice_get_within s.clusters.members at.place at.element at.is;
        named = (
          own.place,
          at-has (λ (cluster : List ℕ). Contains cluster own.place) s.clusters.members at.place at.element at.is at.holds,
          at-has (λ (q : Package). q.name ≡ name) s.repository.packages own.place own.element own.is own.holds,
        );
      }

  own-taken : (n : Package) → Contains s.repository.packages n → IsTaken s.repository n.name
  own-taken n there = any-contained (λ (q : Package). q.name ≡ n.name) s.repository.packages n there refl

  -- a package of the repository is in the cluster whose name it has
  own-in : (c n : Package) → Contains s.repository.packages n → IsClusterName s.repository c n.name → IsInClusterOf s.repository c n
  own-in c n there named = subst (λ (x : Package). IsInClusterOf s.repository c x)
      (one-named s.repository.packages named.0 n frame.flat named.1.there there named.2) named.1

  module _ (later : List Package) (future : IsFuture s.repository later) where
    stage-start : HasExactly s.repository.packages (λ n. IsAtStage s later 0 n)
    stage-start = record {
      one_of_a_name = frame.flat;
      exact = λ n. (
        (λ there. let at = taken-number n.name (own-taken n there) in (at.cluster, at.named, inr (omega arith, there))),
        λ at. elim at.2 [
          | inl done ↦ absurd (omega (arith, done.0))
          | inr left ↦ left.1
        ],
      );
    }

    -- ---- what a cluster has in the later archive

    stay-there : (c n : Package) → Stays s.repository later c → Contains later n → IsClusterName s.repository c n.name
        → Contains s.repository.packages n
    stay-there c n stays there named =
        subst (λ (x : Package). Contains s.repository.packages x) (sym (stays named.0 n named.1 there (sym named.2))) named.1.there

    -- without later packages all that it has is kept
    kept-there : (c n : Package) → Contains s.repository.packages c → (¬ HasLater s.repository later c) → Contains later n
        → IsClusterName s.repository c n.name → Contains s.repository.packages n
    kept-there c n own none there named = elim (future.clusters c own) [
      | inl stays ↦ stay-there c n stays there named
      | inr moves ↦ absurd (none (any-contained (λ (x : Package). IsClusterName s.repository c x.name × IsLater s.repository x) later n there (
        named,
        moved-later s.repository frame.flat later c named.0 n moves named.1 there (sym named.2),
      )))
    ]

    -- with one of them it moves
    later-moves : (c : Package) → Contains s.repository.packages c → HasLater s.repository later c → Moves s.repository later c
    later-moves c own some =
        let at = found-at (λ (x : Package). IsClusterName s.repository c x.name × IsLater s.repository x) later some in
        elim (future.clusters c own) [
          | inl stays ↦ absurd (kept-not_later s.repository frame.flat at.element
              (stay-there c at.element stays (contains-at later at.place at.element at.is) at.holds.0) at.holds.1)
          | inr moves ↦ moves
        ]

    -- ---- the upload of a cluster

    module _ (cluster : ℕ) (c : Package) (of : IsOfCluster s cluster c) (archive : List Package)
        (exactly : HasExactly archive (λ n. IsAtStage s later cluster n)) where
      own-c : Contains s.repository.packages c
      own-c = contains-at s.repository.packages of.member c of.is

      -- what the archive has of its names is the repository's
      old-own : (n : Package) → Contains archive n → IsClusterName s.repository c n.name → Contains s.repository.packages n
      old-own n there named =
          let at = (exactly.exact n).0 there in
          let same : at.0 ≡ cluster = one-cluster at.0 cluster n.name at.1 (name-of cluster c n.name of named) in
          elim at.2 [
            | inl done ↦ absurd (omega (arith, done.0, same))
            | inr left ↦ left.1
          ]

      -- what the next stage has: the later packages of its names, and the archive's packages of other names
      stage-more : (n : Package) → (Contains later n × IsClusterName s.repository c n.name)
          ⊎ (Contains archive n × (¬ IsClusterName s.repository c n.name)) → IsAtStage s later (suc cluster) n
      stage-more n (inl come) = (cluster, name-of cluster c n.name of come.1, inl (omega arith, come.0))
      stage-more n (inr stays) =
          let at = (exactly.exact n).0 stays.0 in
          let other : at.0 ≢ cluster = λ same. stays.1 (of-name cluster c n.name of (subst (λ (k : ℕ). IsNameOf s k n.name) same at.1)) in (
            at.0,
            at.1,
            elim at.2 [
              | inl done ↦ inl (omega (arith, done.0), done.1)
              | inr left ↦ inr (above at.0 left.0 other, left.1)
            ],
          )
        where
          above : (k : ℕ) → cluster ≤ k → k ≢ cluster → suc cluster ≤ k
          above k least other = elim (cases_eq k cluster) [
            | inl same ↦ absurd (other same)
            | inr apart ↦ omega (arith, least, apart)
          ]

      stage-less : (n : Package) → IsAtStage s later (suc cluster) n → (Contains later n × IsClusterName s.repository c n.name)
          ⊎ (Contains archive n × (¬ IsClusterName s.repository c n.name))
      stage-less n at = elim (cases_eq at.0 cluster) [
        | inl same ↦
            let named = of-name cluster c n.name of (subst (λ (k : ℕ). IsNameOf s k n.name) same at.1) in
            elim at.2 [
              | inl done ↦ inl (done.1, named)
              | inr left ↦ absurd (omega (arith, left.0, same))
            ]
        | inr other ↦
            let stranger : ¬ IsClusterName s.repository c n.name =
            λ named. other (one-cluster at.0 cluster n.name at.1 (name-of cluster c n.name of named)) in
            elim at.2 [
              | inl done ↦ inr ((exactly.exact n).1 (at.0, at.1, inl (omega (arith, done.0, other), done.1)), stranger)
              | inr left ↦ inr ((exactly.exact n).1 (at.0, at.1, inr (omega (arith, left.0), left.1)), stranger)
            ]
      ]

      module _ (some : HasLater s.repository later c) (step : Step) (upload : IsUploadOf s.repository later cluster c step) where
        moves : Moves s.repository later c
        moves = later-moves c own-c some

        first-there : Contains later upload.first × IsClusterName s.repository c upload.first.name
        first-there = (upload.brings upload.first).0 (contains-at upload.block.packages 0 upload.first upload.is_first)

        first-version : version_cmp upload.first.version moves.version ≡ Equal
        first-version =
            let named = first-there.1 in
            (moves.moved named.0 upload.first named.1 first-there.0 (sym named.2)).1

        first-above : IsAboveCluster s.repository c upload.first.version
        first-above =
            let named = first-there.1 in
            let new = moved-later s.repository frame.flat later c named.0 upload.first moves named.1 first-there.0 (sym named.2) in
            above-same s.repository named.0 c upload.first.version (clustered-back (member_of c) (member_of named.0) named.1.clustered)
            (later-of s.repository frame.flat named.0 upload.first named.1.there (sym named.2) new).1

        above-all : IsAboveAll s.repository archive c upload.first.version
        above-all = record {
          top = first-above;
          held = λ n there named. first-above.above n (own-in c n (old-own n there named) named);
        }

        uploaded : (n : Package) → Contains upload.block.packages n → IsUploaded s.repository c upload.first.version n
        uploaded n there =
            let come = (upload.brings n).0 there in
            let named = come.1 in
            let moved = moves.moved named.0 n named.1 come.0 (sym named.2) in (
              (named.0, named.1, moved.0),
              alike-left n.version moves.version upload.first.version moved.1 ∙ equal-back upload.first.version moves.version first-version,
            )

        pub upload-led : IsLedTo s (step ∷ []) archive (λ n. IsAtStage s later (suc cluster) n)
        upload-led =
            let come = those (λ n. IsClusterName s.repository c n.name) (λ n. cluster-name-decided s.repository c n.name) later in
            let stay = those (λ n. ¬ IsClusterName s.repository c n.name)
            (λ n. not-decided (cluster-name-decided s.repository c n.name)) archive in
            let next : List Package = come.some ++ stay.some in
            let flat : IsFlat next =
            pairs-append (λ (x y : Package). x.name ≢ y.name) come.some stay.some (come.flat future.one_of_a_name) (stay.flat exactly.one_of_a_name)
            (λ x y first second same. ((stay.exact y).0 second).1
            (subst (λ (name : List ℕ). IsClusterName s.repository c name) same ((come.exact x).0 first).1)) in
            let split : (n : Package) → Contains next n ↔ ((Contains later n × IsClusterName s.repository c n.name)
            ⊎ (Contains archive n × (¬ IsClusterName s.repository c n.name))) = λ n. (
              (λ there. elim (Contains-append_cases come.some stay.some n there) [
                | inl first ↦ inl ((come.exact n).0 first)
                | inr second ↦ inr ((stay.exact n).0 second)
              ]),
              λ either. elim either [
                | inl comes ↦ Contains-append_left come.some stay.some n ((come.exact n).1 comes)
                | inr stays ↦ Contains-append_right come.some stay.some n ((stay.exact n).1 stays)
              ],
            ) in
            let made : HasExactly next (λ n. Contains upload.block.packages n ⊎ (Contains archive n × (¬ IsClusterName s.repository c n.name))) = record {
              one_of_a_name = flat;
              exact = λ n. (
                (λ there. elim ((split n).0 there) [
                  | inl comes ↦ inl ((upload.brings n).1 comes)
                  | inr stays ↦ inr stays
                ]),
                λ either. elim either [
                  | inl comes ↦ (split n).1 (inl ((upload.brings n).0 comes))
                  | inr stays ↦ (split n).1 (inr stays)
                ],
              );
            } in
            let makes : Makes s (Upload cluster upload.first.version upload.block) archive next = (
              c,
              of,
              record {
                cluster = own-c;
                above = above-all;
                uploaded = all-contained (IsUploaded s.repository c upload.first.version) upload.block.packages uploaded;
                made = made;
              },
            ) in
            record {
              archive = next;
              exactly = record {
                one_of_a_name = flat;
                exact = λ n. ((λ there. stage-more n ((split n).0 there)), λ at. (split n).1 (stage-less n at));
              };
              lead = lead-one s step archive next (subst (λ (x : Step). Makes s x archive next) (sym upload.is) makes) flat;
            }

      -- ---- the removals of a cluster

      module _ (none : ¬ HasLater s.repository later c) (members : List ℕ) (are : slice_get s.clusters.members cluster ≡ Some members) where
        member-held : (m : ℕ) (q : Package) → Contains members m → slice_get s.repository.packages m ≡ Some q → IsHeld archive q.name
        member-held m q there is =
            any-contained (λ (n : Package). n.name ≡ q.name) archive q ((exactly.exact q).1 (
              cluster,
              (
                m,
                at-has (λ (l : List ℕ). Contains l m) s.clusters.members cluster members are there,
                at-has (λ (x : Package). x.name ≡ q.name) s.repository.packages m q is refl,
              ),
              inr (omega arith, contains-at s.repository.packages m q is),
            )) refl

        -- what is left of the cluster is held later
        left-later : (n : Package) → IsLeft s later archive members n → IsClusterName s.repository c n.name → Contains later n
        left-later n left named =
            let own = old-own n left.0 named in
            elim (held-decided later n.name) [
              | inl held ↦
                  let at = found-at (λ (x : Package). x.name ≡ n.name) later held in
                  let there = contains-at later at.place at.element at.is in
                  let kept = kept-there c at.element own-c none there (subst (λ (name : List ℕ). IsClusterName s.repository c name) (sym at.holds) named) in
                  subst (λ (x : Package). Contains later x) (one-named s.repository.packages at.element n frame.flat kept own at.holds) there
              | inr missing ↦
                  let at = place-of s.repository.packages n own in
                  absurd (left.1 at.place n (in-member s frame cluster c of members are at.place n at.is (own-in c n own named)) at.is missing refl)
            ]

        left-stage : (n : Package) → IsLeft s later archive members n → IsAtStage s later (suc cluster) n
        left-stage n left = elim (cluster-name-decided s.repository c n.name) [
          | inl named ↦ stage-more n (inl (left-later n left named, named))
          | inr stranger ↦ stage-more n (inr (left.0, stranger))
        ]

        stage-left : (n : Package) → IsAtStage s later (suc cluster) n → IsLeft s later archive members n
        stage-left n at = elim (stage-less n at) [
          | inl comes ↦ (
            (exactly.exact n).1 (cluster, name-of cluster c n.name of comes.1, inr (omega arith, kept-there c n own-c none comes.0 comes.1)),
            λ m q there is missing same. missing (any-contained (λ (x : Package). x.name ≡ q.name) later n comes.0 same),
          )
          | inr stays ↦ (
            stays.0,
            λ m q there is missing same. stays.1 (q, member-in s frame cluster c of members are m q is there, sym same),
          )
        ]

        pub removals-next : (steps : List Step) → AreRemovals s.repository later members steps
            → IsLedTo s steps archive (λ n. IsAtStage s later (suc cluster) n)
        removals-next steps removals =
            let rising = AllPairs-from_increasing members (All-contains IsStrictlyIncreasing s.clusters.members members frame.clusters.partition.rising
            (contains-at s.clusters.members cluster members are)) in
            let led = removals-led s frame later members steps archive rising removals exactly.one_of_a_name member-held in
            record {
              archive = led.archive;
              exactly = exactly-same led.archive (IsLeft s later archive members) (λ n. IsAtStage s later (suc cluster) n)
                  (λ n. (left-stage n, stage-left n)) led.exactly;
              lead = led.lead;
            }

    -- ---- all clusters

    part-led : (cluster : ℕ) (archive : List Package) → HasExactly archive (λ n. IsAtStage s later cluster n) → (part : List Step)
        → IsPart s later cluster part → IsLedTo s part archive (λ n. IsAtStage s later (suc cluster) n)
    part-led cluster archive exactly part is = elim is.2 [
      | inl upload ↦ subst (λ (x : List Step). IsLedTo s x archive (λ n. IsAtStage s later (suc cluster) n)) (sym upload.1.1)
          (upload-led cluster is.0 is.1 archive exactly upload.0 upload.1.0 upload.1.2)
      | inr removals ↦
          let at = here-at (λ members. AreRemovals s.repository later members part) s.clusters.members cluster removals.1 in
          removals-next cluster is.0 is.1 archive exactly removals.0 at.element at.is part at.holds
    ]

    parts-led : (count : ℕ) (steps : List Step) → AreParts s later count steps
        → IsLedTo s steps s.repository.packages (λ n. IsAtStage s later count n)
    parts-led zero steps are = record {
      archive = s.repository.packages;
      exactly = stage-start;
      lead = subst (λ (x : List Step). Lead s x s.repository.packages s.repository.packages) (sym are)
          (exactly-itself s.repository.packages frame.flat);
    }
    parts-led (suc count) steps are =
        let led = parts-led count are.0 are.3 in
        let next = part-led count led.archive led.exactly are.1 are.4 in
        record {
          archive = next.archive;
          exactly = next.exactly;
          lead = subst (λ (x : List Step). Lead s x s.repository.packages next.archive) (sym are.2)
              (lead-append s are.0 are.1 s.repository.packages led.archive next.archive led.lead next.lead);
        }

    -- ---- new names

    names-led : (xs : List Package) (steps : List Step) (archive : List Package) → AreNewNames s.repository xs steps → IsFlat xs
        → ((n : Package) → Contains xs n → Contains later n) → IsFlat archive
        → ((n : Package) → Contains xs n → ¬ IsTaken s.repository n.name → ¬ IsHeld archive n.name)
        → IsLedTo s steps archive (λ n. Contains archive n ⊎ (Contains xs n × (¬ IsTaken s.repository n.name)))
    names-led [] steps archive are one within flat unheld = record {
      archive = archive;
      exactly = record {
        one_of_a_name = flat;
        exact = λ n. ((λ there. inl there), λ either. elim either [ inl there ↦ there | inr none ↦ absurd (omega (arith, none.0.1)) ]);
      };
      lead = subst (λ (x : List Step). Lead s x archive archive) (sym are) (exactly-itself archive flat);
    }
    names-led (x ∷ xs) steps archive (inl skip) one within flat unheld =
        let rest = names-led xs steps archive skip.1 (pairs-tail (λ (a b : Package). a.name ≢ b.name) x xs one)
        (λ n there. within n (cons-later x n xs there)) flat (λ n there. unheld n (cons-later x n xs there)) in
        record {
          archive = rest.archive;
          exactly = exactly-same rest.archive (λ n. Contains archive n ⊎ (Contains xs n × (¬ IsTaken s.repository n.name)))
              (λ n. Contains archive n ⊎ (Contains (x ∷ xs) n × (¬ IsTaken s.repository n.name)))
              (λ n. (
                (λ either. elim either [ inl there ↦ inl there | inr new ↦ inr (cons-later x n xs new.0, new.1) ]),
                λ either. elim either [
                  | inl there ↦ inl there
                  | inr new ↦ elim (cons-cases x n xs new.0) [
                    | inl is ↦ absurd (skip.0 (subst (λ (z : Package). ¬ IsTaken s.repository z.name) (sym is) new.1))
                    | inr more ↦ inr (more, new.1)
                  ]
                ],
              )) rest.exactly;
          lead = rest.lead;
        }
    names-led (x ∷ xs) steps archive (inr take) one within flat unheld =
        let free = take.0 in
        let there : Contains (x ∷ xs) x = cons-head x xs in
        let middle : List Package = x ∷ archive in
        let flat_middle : IsFlat middle = flat-cons x archive
        (λ q old same. unheld x there free (any-contained (λ (n : Package). n.name ≡ x.name) archive q old (sym same))) flat in
        let brings : BringsName s.repository x archive middle = record {
          untaken = free;
          unheld = unheld x there free;
          unprovided = (future.fresh x (within x there) free).1;
          of_new_name = (future.fresh x (within x there) free).0;
          made = record {
            one_of_a_name = flat_middle;
            exact = λ n. (
              (λ here. elim (cons-cases x n archive here) [ inl is ↦ inr is | inr old ↦ inl old ]),
              λ either. elim either [
                | inl old ↦ cons-later x n archive old
                | inr is ↦ subst (λ (z : Package). Contains middle z) is (cons-head x archive)
              ],
            );
          };
        } in
        let makes : Makes s (NewName (record { architecture = None; packages = x ∷ [] })) archive middle = (x, refl, brings) in
        let rest = names-led xs take.1.1 middle take.1.4 (pairs-tail (λ (a b : Package). a.name ≢ b.name) x xs one)
        (λ n later_one. within n (cons-later x n xs later_one)) flat_middle
        (λ n later_one free_n held.
        let at = found-at (λ (y : Package). y.name ≡ n.name) middle held in
        elim (cons-cases x at.element archive (contains-at middle at.place at.element at.is)) [
          | inl is ↦ pairs-head (λ (a b : Package). a.name ≢ b.name) x xs one n later_one (ap (λ (z : Package). z.name) is ∙ at.holds)
          | inr old ↦ unheld n (cons-later x n xs later_one) free_n (any-contained (λ (y : Package). y.name ≡ n.name) archive at.element old at.holds)
        ]) in
        record {
          archive = rest.archive;
          exactly = exactly-same rest.archive (λ n. Contains middle n ⊎ (Contains xs n × (¬ IsTaken s.repository n.name)))
              (λ n. Contains archive n ⊎ (Contains (x ∷ xs) n × (¬ IsTaken s.repository n.name)))
              (λ n. (
                (λ either. elim either [
                  | inl here ↦ elim (cons-cases x n archive here) [
                    | inl is ↦ inr (subst (λ (z : Package). Contains (x ∷ xs) z × (¬ IsTaken s.repository z.name)) is (there, free))
                    | inr old ↦ inl old
                  ]
                  | inr new ↦ inr (cons-later x n xs new.0, new.1)
                ]),
                λ either. elim either [
                  | inl old ↦ inl (cons-later x n archive old)
                  | inr new ↦ elim (cons-cases x n xs new.0) [
                    | inl is ↦ inl (subst (λ (z : Package). Contains middle z) is (cons-head x archive))
                    | inr more ↦ inr (more, new.1)
                  ]
                ],
              )) rest.exactly;
          lead = subst (λ (z : List Step). Lead s z archive rest.archive) (sym take.1.2)
              (middle, subst (λ (z : Step). Makes s z archive middle) (sym take.1.3) makes, rest.lead);
        }

    -- ---- the whole plan

    name-taken : (cluster : ℕ) (name : List ℕ) → IsNameOf s cluster name → IsTaken s.repository name
    name-taken cluster name named =
        let at = here-at (λ (q : Package). q.name ≡ name) s.repository.packages named.0 named.2 in
        any-contained (λ (q : Package). q.name ≡ name) s.repository.packages at.element
        (contains-at s.repository.packages named.0 at.element at.is) at.holds

    pub plan-leads : (steps : List Step) → IsPlan s later steps → Lead s steps s.repository.packages later
    plan-leads steps plan =
        let count = length s.clusters.members in
        let led = parts-led count plan.parts plan.are_parts in
        let named = names-led later plan.names led.archive plan.are_names future.one_of_a_name (λ n there. there) led.exactly.one_of_a_name
        (λ n there free held.
        let at = found-at (λ (y : Package). y.name ≡ n.name) led.archive held in
        let stage = (led.exactly.exact at.element).0 (contains-at led.archive at.place at.element at.is) in
        free (subst (λ (name : List ℕ). IsTaken s.repository name) at.holds (name-taken stage.0 at.element.name stage.1))) in
        let end : HasExactly later (Contains named.archive) = record {
          one_of_a_name = future.one_of_a_name;
          exact = λ n. (
            (λ there. (named.exactly.exact n).1 (elim (taken-decided s.repository n.name) [
              | inl taken ↦ let at = taken-number n.name taken in
                  inl ((led.exactly.exact n).1 (at.cluster, at.named, inl (at.within, there)))
              | inr free ↦ inr (there, free)
            ])),
            λ there. elim ((named.exactly.exact n).0 there) [
              | inl old ↦ let stage = (led.exactly.exact n).0 old in elim stage.2 [
                | inl done ↦ done.1
                | inr left ↦ absurd (omega (
                  arith,
                  left.0,
                  within-from (λ (l : List ℕ). Contains l stage.1.0) s.clusters.members stage.0 stage.1.1,
                ))
              ]
              | inr new ↦ new.0
            ],
          );
        } in
        subst (λ (x : List Step). Lead s x s.repository.packages later) (sym plan.whole)
        (lead-append s plan.parts plan.names s.repository.packages led.archive later led.lead
        (lead-to s plan.names led.archive named.archive later end named.lead))
