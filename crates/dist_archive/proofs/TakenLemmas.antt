-- An archive takes the steps of a plan: none of them is refused where it comes.
use Rattle.std.proofs.Common.{◌≡◌, ◌≢◌, ◌⊎◌, ◌↔◌, ℕ, zero, suc, List, [], ◌∷◌, ◌++◌, Option, None, Some, length, slice_get, refl, sym, ap, subst, ◌∙◌, inl, inr}
use Rattle.std.specs.Prelude.{All, Contains, IsSomeAnd}
use Rattle.std.proofs.lemmas.List.Elements.{All-append, All-cons, All-contains, All-head, All-nil, All-same, All-tail}
use Rattle.dist_base.specs.ListLaws.{all-contained, here-at}
use Rattle.dist_cluster.specs.Relation.{AreClustered}
use Rattle.dist_repo.specs.PackageList.{IsPackageAnd, PackageList}
use Rattle.dist_repo.specs.declared.package.Package.{Package}
use Rattle.dist_classes.specs.Answers.{member_of}
use Rattle.dist_space.specs.Space.{IsFrame, SpaceView}
use Rattle.dist_future.specs.Future.{IsFuture, IsTaken}
use Rattle.dist_archive.specs.BringingPrivate.{IsFreeBlock}
use Rattle.dist_archive.specs.Reach.{AreParts, AreStepsFor, AreTaken, IsPart, IsPlan}
use Rattle.dist_archive.specs.Refusals.{IsOfOtherArchitecture, Refuses}
use Rattle.dist_archive.specs.Same.{AreSame}
use Rattle.dist_archive.specs.Steps.{HasExactly, IsAboveAll, IsClusterName, IsHeld, IsOfCluster, IsUploaded, Lead, Makes}
use Rattle.dist_archive.specs.UploadsPrivate.{IsChecked}
use Rattle.dist_archive.specs.declared.step.Step.{Step}
use Rattle.dist_archive.specs.declared.step.Step.TheVariants.{Upload, Removal, NewName}
use Rattle.dist_archive.specs.declared.step.StepError.{StepError}
use Rattle.dist_archive.proofs.ClusterLemmas.{in-cluster}
use Rattle.dist_archive.proofs.FitLemmas.{above-same, name-same}
use Rattle.dist_archive.proofs.FutureLemmas.{clustered-back, in-same}
use Rattle.dist_archive.proofs.LeadLemmas.{lead-from}
use Rattle.dist_archive.proofs.RefusalLemmas.{checked-none, free-none, removal-one}
use Rattle.dist_archive.proofs.StageLemmas.{plan-leads}

-- the block of the step, if it has one, is for no architecture
abbrev pub IsForNone : Step → Type 0
IsForNone (Upload cluster version block) = block.architecture ≡ None
IsForNone (Removal name) = Unit {0}
IsForNone (NewName block) = block.architecture ≡ None

not-other : (r block : PackageList) → block.architecture ≡ None → ¬ IsOfOtherArchitecture r block
not-other r block none other =
    let no : IsSomeAnd None (λ (name : List ℕ). r.architecture ≢ Some name) =
    subst (λ (o : Option (List ℕ)). IsSomeAnd o (λ name. r.architecture ≢ Some name)) none other in no

module _ (s : SpaceView) (frame : IsFrame s) where
  -- two packages of one cluster
  pub of-both : (cluster : ℕ) (c d : Package) → IsOfCluster s cluster c → IsOfCluster s cluster d → AreClustered (member_of c) (member_of d)
  of-both cluster c d first second =
      ((in-cluster s frame cluster c first second.member d second.is).0 second.in_cluster).clustered

  pub above-all_same : (c d : Package) (archive : List Package) (version : List ℕ) → AreClustered (member_of c) (member_of d)
      → IsAboveAll s.repository archive c version → IsAboveAll s.repository archive d version
  above-all_same c d archive version same above = record {
    top = above-same s.repository c d version same above.top;
    held = λ n there named. above.held n there (name-same s.repository d c n.name (clustered-back (member_of c) (member_of d) same) named);
  }

  pub uploaded-same : (c d : Package) (version : List ℕ) (n : Package) → AreClustered (member_of c) (member_of d) → IsUploaded s.repository c version n
      → IsUploaded s.repository d version n
  uploaded-same c d version n same made =
      ((made.0.0, in-same s.repository d c made.0.0 (clustered-back (member_of c) (member_of d) same) made.0.1, made.0.2), made.1)

  -- ---- what can be made is not refused

  pub makes-unrefused : (step : Step) (old new : List Package) → IsForNone step → Makes s step old new → (error : StepError) → ¬ Refuses s old step error
  makes-unrefused (Upload cluster version block) old new none makes error refused =
      let c : Package = makes.0 in
      let d : Package = refused.0 in
      let up = makes.2 in
      let same = of-both cluster c d makes.1 refused.1 in
      let checked : IsChecked s.repository old d version block = record {
        architecture = not-other s.repository block none;
        above = above-all_same c d old version same up.above;
        uploaded = all-contained (IsUploaded s.repository d version) block.packages
            (λ n there. uploaded-same c d version n same (All-contains (IsUploaded s.repository c version) block.packages n up.uploaded there));
      } in
      checked-none s.repository d version old block checked error refused.2
  makes-unrefused (Removal name) old new none makes error refused = (removal-one old name error refused).1 makes.there
  makes-unrefused (NewName block) old new none makes error refused =
      let p : Package = makes.0 in
      let brings = makes.2 in
      let free : IsFreeBlock s.repository old block = record {
        architecture = not-other s.repository block none;
        fresh = p;
        one = makes.1;
        free = record {
          untaken = brings.untaken;
          unheld = brings.unheld;
          unprovided = brings.unprovided;
          version = brings.of_new_name.version;
          provides = brings.of_new_name.provides;
        };
      } in
      free-none s.repository old block free error refused

  -- ---- a step makes one archive, but for the order

  exactly-both : (P Q : Package → Type 0) (new other : List Package) → ((n : Package) → P n ↔ Q n) → HasExactly new P → HasExactly other Q
      → AreSame new other
  exactly-both P Q new other same first second n = (
    (λ there. (second.exact n).1 ((same n).0 ((first.exact n).0 there))),
    λ there. (first.exact n).1 ((same n).1 ((second.exact n).0 there)),
  )

  pub made-same : (step : Step) (old new other : List Package) → Makes s step old new → Makes s step old other → AreSame new other
  made-same (Upload cluster version block) old new other first second =
      let c : Package = first.0 in
      let d : Package = second.0 in
      let same = of-both cluster c d first.1 second.1 in
      exactly-both (λ n. Contains block.packages n ⊎ (Contains old n × (¬ IsClusterName s.repository c n.name)))
      (λ n. Contains block.packages n ⊎ (Contains old n × (¬ IsClusterName s.repository d n.name))) new other
      (λ n. (
        (λ either. elim either [
          | inl come ↦ inl come
          | inr stays ↦ inr (stays.0, λ named. stays.1 (name-same s.repository d c n.name (clustered-back (member_of c) (member_of d) same) named))
        ]),
        λ either. elim either [
          | inl come ↦ inl come
          | inr stays ↦ inr (stays.0, λ named. stays.1 (name-same s.repository c d n.name same named))
        ],
      )) first.2.made second.2.made
  made-same (Removal name) old new other first second =
      exactly-both (λ n. Contains old n × (n.name ≢ name)) (λ n. Contains old n × (n.name ≢ name)) new other
      (λ n. ((λ held. held), λ held. held)) first.made second.made
  made-same (NewName block) old new other first second =
      let p : Package = first.0 in
      let q : Package = second.0 in
      let here : Some p ≡ Some q = sym (ap (λ (l : List Package). slice_get l 0) first.1) ∙ ap (λ (l : List Package). slice_get l 0) second.1 in
      let same : p ≡ q = cc in
      exactly-both (λ n. Contains old n ⊎ (p ≡ n)) (λ n. Contains old n ⊎ (q ≡ n)) new other
      (λ n. (
        (λ either. elim either [ inl there ↦ inl there | inr is ↦ inr (sym same ∙ is) ]),
        λ either. elim either [ inl there ↦ inl there | inr is ↦ inr (same ∙ is) ],
      )) first.2.made second.2.made

  lead-taken : (steps : List Step) (old new : List Package) → All IsForNone steps → Lead s steps old new → AreTaken s steps old new
  lead-taken [] old new none lead = lead
  lead-taken (step ∷ steps) old new none lead = (
    makes-unrefused step old lead.0 (All-head IsForNone step steps none) lead.1,
    λ next makes. lead-taken steps next new (All-tail IsForNone step steps none)
        (lead-from s steps lead.0 next new (made-same step old lead.0 next lead.1 makes) lead.2),
  )

  -- ---- the blocks of a plan are for no architecture

  steps-none : {X : Type 0} (P : X → Type 0) (Does : X → Step → Type 0) (xs : List X) (steps : List Step)
      → ((x : X) (step : Step) → P x → Does x step → IsForNone step) → AreStepsFor P Does xs steps → All IsForNone steps
  steps-none P Does [] steps each are = All-same IsForNone steps [] are (All-nil IsForNone)
  steps-none P Does (x ∷ xs) steps each (inl skip) = steps-none P Does xs steps each skip.1
  steps-none P Does (x ∷ xs) steps each (inr got) =
      All-same IsForNone steps (got.1.0 ∷ got.1.1) got.1.2
      (All-cons IsForNone got.1.0 got.1.1 (each x got.1.0 got.0 got.1.3) (steps-none P Does xs got.1.1 each got.1.4))

  module _ (later : List Package) where
    part-none : (cluster : ℕ) (steps : List Step) → IsPart s later cluster steps → All IsForNone steps
    part-none cluster steps part = elim part.2 [
      | inl upload ↦ All-same IsForNone steps (upload.1.0 ∷ []) upload.1.1 (All-cons IsForNone upload.1.0 []
          (subst IsForNone (sym upload.1.2.is) upload.1.2.architecture) (All-nil IsForNone))
      | inr removals ↦
          let at = here-at (λ members. AreStepsFor (λ m. IsPackageAnd s.repository.packages m (λ q. ¬ IsHeld later q.name))
          (λ m step. IsPackageAnd s.repository.packages m (λ q. step ≡ Removal q.name)) members steps) s.clusters.members cluster removals.1 in
          steps-none (λ m. IsPackageAnd s.repository.packages m (λ q. ¬ IsHeld later q.name))
          (λ m step. IsPackageAnd s.repository.packages m (λ q. step ≡ Removal q.name)) at.element steps
          (λ m step missing does.
          let q = here-at (λ (x : Package). step ≡ Removal x.name) s.repository.packages m does in
          subst IsForNone (sym q.holds) tt) at.holds
    ]

    parts-none : (count : ℕ) (steps : List Step) → AreParts s later count steps → All IsForNone steps
    parts-none zero steps are = All-same IsForNone steps [] are (All-nil IsForNone)
    parts-none (suc count) steps are =
        All-same IsForNone steps (are.0 ++ are.1) are.2
        (All-append IsForNone are.0 are.1 (parts-none count are.0 are.3) (part-none count are.1 are.4))

    pub plan-taken : IsFuture s.repository later → (steps : List Step) → IsPlan s later steps → AreTaken s steps s.repository.packages later
    plan-taken future steps plan =
        let names : All IsForNone plan.names =
        steps-none (λ (n : Package). ¬ IsTaken s.repository n.name) (λ n step. step ≡ NewName (record { architecture = None; packages = n ∷ [] })) later
        plan.names (λ n step free does. subst IsForNone (sym does) refl) plan.are_names in
        let all : All IsForNone steps = All-same IsForNone steps (plan.parts ++ plan.names) plan.whole
        (All-append IsForNone plan.parts plan.names (parts-none (length s.clusters.members) plan.parts plan.are_parts) names) in
        lead-taken steps s.repository.packages later all (plan-leads s frame later future steps plan)
