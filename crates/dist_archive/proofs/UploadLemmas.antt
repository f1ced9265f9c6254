-- What is found of uploads.
use Rattle.std.proofs.Common.{◌≡◌, ◌⊎◌, ℕ, zero, suc, ◌+◌, ◌<◌, List, [], ◌∷◌, ◌++◌, Some, None, Result, Ok, Err, length, get_or, take}
use Rattle.std.proofs.Common.{refl, sym, ap, subst, ◌∙◌, inl, inr, arith, slice_get}
use Rattle.std.specs.Prelude.{All, IsErrAnd}
use Rattle.std.proofs.lemmas.List.{length-append, length-take, take_more}
use Rattle.std.proofs.lemmas.List.Elements.{All-contains}
use Rattle.std.proofs.lemmas.Option.{slice_get_within}
use Rattle.dist_base.specs.ListLaws.{all-contained, here-at, place-of, same-at}
use Rattle.dist_repo.specs.PackageList.{PackageList}
use Rattle.dist_repo.specs.declared.package.Package.{Package}
use Rattle.dist_classes.specs.NewVersion.{IsNewOf}
use Rattle.dist_space.specs.Space.{IsFrame, SpaceView}
use Rattle.dist_future.specs.Future.{IsAboveCluster, IsInClusterOf}
use Rattle.dist_archive.specs.Archive.{ArchiveView}
use Rattle.dist_archive.specs.Refusals.{IsFirstFault, IsOfOtherArchitecture, IsUploadFault, RefusesUpload}
use Rattle.dist_archive.specs.SlotsPrivate.{AreReplacements, Replaces}
use Rattle.dist_archive.specs.Steps.{IsAboveAll, IsClusterName, IsOfCluster, IsUploaded}
use Rattle.dist_archive.specs.UploadsPrivate.{IsAboveHeld, IsMemberFault, IsMemberNamed, IsMemberNew}
use Rattle.dist_archive.specs.declared.slots.Slot.{Slot}
use Rattle.dist_archive.specs.declared.step.StepError.{StepError}
use Rattle.dist_archive.specs.declared.step.StepError.TheVariants.{OtherArchitecture, NotAbove, NotMember, NotAtVersion, WrongProvides, NotHeld}
use Rattle.dist_archive.specs.declared.step.StepError.TheVariants.{NotOne, NameTaken, NameVirtual, HasProvides, NoMemory}
use Rattle.dist_archive.proofs.ClusterLemmas.{cluster-some, in-member, member-in, member-package}

pub by-exit : (P : Result (Unit {0}) StepError → Type 0) (r : Result (Unit {0}) StepError) (error : StepError) → IsErrAnd r (λ e. e ≡ error)
    → P (Err error) → P r
by-exit P (Ok x) error is holds = absurd is
by-exit P (Err e) error is holds = subst (λ y. P (Err y)) (sym is) holds

-- ---- one package of an upload

module _ (r : PackageList) (c : Package) (version : List ℕ) (number at : ℕ) (m n : Package) (named : IsMemberNamed r c n.name at)
    (is : slice_get r.packages at ≡ Some m) where
  same-member : named.member ≡ m
  same-member = same-at r.packages at named.member m named.is is

  pub member-uploaded : IsMemberNew version m n → IsUploaded r c version n
  member-uploaded new =
      ((m, subst (λ (x : Package). IsInClusterOf r c x) same-member named.in_cluster, new.0), new.1)

  cluster-name : IsClusterName r c n.name
  cluster-name = (named.member, named.in_cluster, named.named)

  pub member-fault : (e : StepError) → IsMemberFault version number m n e → IsUploadFault r c version number n e
  member-fault OtherArchitecture fault = absurd fault
  member-fault NotAbove fault = absurd fault
  member-fault (NotMember k) fault = absurd fault
  member-fault (NotAtVersion k) fault = (fault.0, cluster-name, fault.1)
  member-fault (WrongProvides k) fault = (
    fault.0,
    cluster-name,
    fault.1,
    λ new.
        let fresh : IsNewOf new.0 n = new.2 in
        fault.2 (subst (λ (x : Package). IsNewOf x n) (named.only new.0 new.1 (sym fresh.1.name) ∙ same-member) fresh),
  )
  member-fault NotHeld fault = absurd fault
  member-fault NotOne fault = absurd fault
  member-fault NameTaken fault = absurd fault
  member-fault NameVirtual fault = absurd fault
  member-fault HasProvides fault = absurd fault
  member-fault NoMemory fault = absurd fault

-- ---- versions above all

pub members-within : (s : SpaceView) (frame : IsFrame s) (cluster : ℕ) (members : List ℕ) → cluster < length s.clusters.members
    → slice_get s.clusters.members cluster ≡ Some members → All (λ m. m < length s.repository.packages) members
members-within s frame cluster members short are =
    let some = cluster-some s frame cluster short in
    all-contained (λ m. m < length s.repository.packages) members
    (λ m there. member-package s frame cluster some.0 some.1 members are m there)

module _ (v : ArchiveView) (frame : IsFrame v.space) (cluster : ℕ) (c : Package) (of : IsOfCluster v.space cluster c) (members : List ℕ)
    (are : slice_get v.space.clusters.members cluster ≡ Some members) (version : List ℕ) where
  pub above-all : IsAboveCluster v.space.repository c version → All (λ m. IsAboveHeld v m version) members
      → IsAboveAll v.space.repository v.packages c version
  above-all top each = record {
    top = top;
    held = λ n there name.
        let at = place-of v.space.repository.packages name.0 name.1.there in
        let member = in-member v.space frame cluster c of members are at.place name.0 at.is name.1 in
        All-contains (λ m. IsAboveHeld v m version) members at.place each member name.0 n at.is (there, sym name.2);
  }

  pub all-above : IsAboveAll v.space.repository v.packages c version → All (λ m. IsAboveHeld v m version) members
  all-above above = all-contained (λ m. IsAboveHeld v m version) members
      (λ m there p n is held. above.held n held.0 (p, member-in v.space frame cluster c of members are m p is there, sym held.1))

-- ---- replacements

pub pushed : {X : Type 0} (xs : List X) (y z : X) (j : ℕ) → slice_get (xs ++ y ∷ []) j ≡ Some z → (slice_get xs j ≡ Some z) ⊎ ((j ≡ length xs) × (y ≡ z))
pushed [] y z zero is = inr (refl, let same : y ≡ z = cc in same)
pushed [] y z (suc j) is = absurd (let no-one : None ≡ Some z = is in cc)
pushed (x ∷ xs) y z zero is = inl is
pushed (x ∷ xs) y z (suc j) is = elim (pushed xs y z j is) [
  | inl earlier ↦ inl earlier
  | inr last ↦ inr (ap suc last.0, last.1)
]

pub replaced-none : (packages block : List Package) → AreReplacements packages block [] []
replaced-none packages block = record {
  beside = refl;
  each = λ i m q slot is own here. absurd (let no-one : None ≡ Some m = is in cc);
}

pub replaced-more : (packages block : List Package) (members : List ℕ) (slots : List Slot) (slot : Slot) (i : ℕ) (q : Package)
    → i < length members → slice_get packages (get_or members i 0) ≡ Some q → Replaces block q slot
    → AreReplacements packages block (take i members) slots → AreReplacements packages block (take (i + 1) members) (slots ++ slot ∷ [])
replaced-more packages block members slots slot i q short own replaces before =
    let whole : take (i + 1) members ≡ take i members ++ get_or members i 0 ∷ [] = take_more members i 0 short in
    let count = length-take i members in
    subst (λ (l : List ℕ). AreReplacements packages block l (slots ++ slot ∷ [])) (sym whole) (record {
      beside = length-append slots (slot ∷ []) ∙ ap (λ (n : ℕ). n + 1) before.beside ∙ sym (length-append (take i members) (get_or members i 0 ∷ []));
      each = λ j m p other is own_p here. elim (pushed (take i members) (get_or members i 0) m j is) [
        | inl earlier ↦ elim (pushed slots slot other j here) [
          | inl there ↦ before.each j m p other earlier own_p there
          | inr last ↦ absurd (omega (arith, last.0, before.beside, slice_get_within (take i members) j m earlier))
        ]
        | inr here_m ↦ elim (pushed slots slot other j here) [
          | inl there ↦ absurd (omega (arith, here_m.0, before.beside, slice_get_within slots j other there))
          | inr last ↦
              let same : q ≡ p = same-at packages m q p (subst (λ (k : ℕ). slice_get packages k ≡ Some q) here_m.1 own) own_p in
              subst (λ (x : Slot). Replaces block p x) last.1 (subst (λ (x : Package). Replaces block x slot) same replaces)
        ]
      ];
    })

-- ---- refusals

pub upload-refused : (r : PackageList) (archive : List Package) (c : Package) (version : List ℕ) (block : PackageList) → (¬ IsOfOtherArchitecture r block)
    → IsAboveAll r archive c version → (e : StepError) → IsFirstFault r c version block.packages e → RefusesUpload r archive c version block e
upload-refused r archive c version block own above OtherArchitecture fault = absurd (here-at (λ (n : Package). ⊥) block.packages fault.number fault.here).holds
upload-refused r archive c version block own above NotAbove fault = absurd (here-at (λ (n : Package). ⊥) block.packages fault.number fault.here).holds
upload-refused r archive c version block own above (NotMember k) fault = (own, above, fault)
upload-refused r archive c version block own above (NotAtVersion k) fault = (own, above, fault)
upload-refused r archive c version block own above (WrongProvides k) fault = (own, above, fault)
upload-refused r archive c version block own above NotHeld fault = (own, above, fault)
upload-refused r archive c version block own above NotOne fault = (own, above, fault)
upload-refused r archive c version block own above NameTaken fault = (own, above, fault)
upload-refused r archive c version block own above NameVirtual fault = (own, above, fault)
upload-refused r archive c version block own above HasProvides fault = (own, above, fault)
upload-refused r archive c version block own above NoMemory fault = (own, above, fault)
