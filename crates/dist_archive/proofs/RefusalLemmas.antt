-- A step has one refusal at most, and none where nothing is wrong with it.
use Rattle.std.proofs.Common.{◌≡◌, ◌≢◌, ◌⊎◌, ℕ, ◌<◌, List, [], ◌∷◌, Some, length, slice_get, refl, sym, ap, subst, ◌∙◌, inl, inr, arith}
use Rattle.std.specs.Prelude.{Err, IfErr, Ok, OnOk, Result}
use Rattle.std.specs.declared.cmp.Ordering.TheVariants.{Equal}
use Rattle.std.proofs.lemmas.Bool.{cases_lt}
use Rattle.std.proofs.lemmas.List.Elements.{All-contains}
use Rattle.dist_base.specs.ListLaws.{contains-at, here-at, same-at}
use Rattle.dist_base.specs.Answers.{IsExactly}
use Rattle.dist_version.specs.Order.{version_cmp}
use Rattle.dist_repo.specs.PackageList.{PackageList}
use Rattle.dist_repo.specs.declared.package.Package.{Package}
use Rattle.dist_classes.specs.NewVersion.{IsNewOf}
use Rattle.dist_future.specs.Future.{IsProvided, IsTaken}
use Rattle.dist_archive.specs.AnswersPrivate.{IsNeverRefused, IsOnlyRefusal}
use Rattle.dist_archive.specs.BringingPrivate.{IsFreeBlock}
use Rattle.dist_archive.specs.Refusals.{IsFirstFault, IsNameFault, IsOfOtherArchitecture, IsUploadFault, RefusesName, RefusesRemoval, RefusesUpload}
use Rattle.dist_archive.specs.Steps.{IsAboveAll, IsClusterName, IsHeld, IsNewIn, IsUploaded}
use Rattle.dist_archive.specs.UploadsPrivate.{IsChecked}
use Rattle.dist_archive.specs.declared.step.StepError.{StepError}
use Rattle.dist_archive.specs.declared.step.StepError.TheVariants.{OtherArchitecture, NotAbove, NotMember, NotAtVersion, WrongProvides, NotHeld}
use Rattle.dist_archive.specs.declared.step.StepError.TheVariants.{NotOne, NameTaken, NameVirtual, HasProvides, NoMemory}

-- ---- uploads

module _ (r : PackageList) (c : Package) (version : List ℕ) where
  fault-kind : (number : ℕ) (n : Package) (e : StepError) → IsUploadFault r c version number n e
      → ((e ≡ NotMember number) × (¬ IsClusterName r c n.name))
      ⊎ (((e ≡ NotAtVersion number) × IsClusterName r c n.name × (version_cmp n.version version ≢ Equal))
      ⊎ ((e ≡ WrongProvides number) × IsClusterName r c n.name × (version_cmp n.version version ≡ Equal) × (¬ IsNewIn r c n)))
  fault-kind number n OtherArchitecture fault = absurd fault
  fault-kind number n NotAbove fault = absurd fault
  fault-kind number n (NotMember k) fault = inl (ap (λ (i : ℕ). NotMember i) fault.0, fault.1)
  fault-kind number n (NotAtVersion k) fault = inr (inl (ap (λ (i : ℕ). NotAtVersion i) fault.0, fault.1, fault.2))
  fault-kind number n (WrongProvides k) fault = inr (inr (ap (λ (i : ℕ). WrongProvides i) fault.0, fault.1, fault.2, fault.3))
  fault-kind number n NotHeld fault = absurd fault
  fault-kind number n NotOne fault = absurd fault
  fault-kind number n NameTaken fault = absurd fault
  fault-kind number n NameVirtual fault = absurd fault
  fault-kind number n HasProvides fault = absurd fault
  fault-kind number n NoMemory fault = absurd fault

  no-fault : (number : ℕ) (n : Package) (e : StepError) → IsUploaded r c version n → IsUploadFault r c version number n e → ⊥
  no-fault number n e good fault =
      let fresh : IsNewOf good.0.0 n = good.0.2 in
      elim (fault-kind number n e fault) [
        | inl stranger ↦ stranger.1 (good.0.0, good.0.1, sym fresh.1.name)
        | inr rest ↦ elim rest [
          | inl other ↦ other.2 good.1
          | inr old ↦ old.3 good.0
        ]
      ]

  one-fault : (number : ℕ) (n : Package) (e other : StepError) → IsUploadFault r c version number n e → IsUploadFault r c version number n other → other ≡ e
  one-fault number n e other first second = elim (fault-kind number n e first) [
    | inl a ↦ elim (fault-kind number n other second) [
      | inl b ↦ b.0 ∙ sym a.0
      | inr rest ↦ elim rest [
        | inl b ↦ absurd (a.1 b.1)
        | inr b ↦ absurd (a.1 b.1)
      ]
    ]
    | inr later ↦ elim later [
      | inl a ↦ elim (fault-kind number n other second) [
        | inl b ↦ absurd (b.1 a.1)
        | inr rest ↦ elim rest [
          | inl b ↦ b.0 ∙ sym a.0
          | inr b ↦ absurd (a.2 b.2)
        ]
      ]
      | inr a ↦ elim (fault-kind number n other second) [
        | inl b ↦ absurd (b.1 a.1)
        | inr rest ↦ elim rest [
          | inl b ↦ absurd (b.2 a.2)
          | inr b ↦ b.0 ∙ sym a.0
        ]
      ]
    ]
  ]

  earlier : (packages : List Package) (e other : StepError) (first : IsFirstFault r c version packages e) (second : IsFirstFault r c version packages other)
      → first.number < second.number → ⊥
  earlier packages e other first second less =
      let good = here-at (IsUploaded r c version) packages first.number (second.before first.number less) in
      let bad = here-at (λ (n : Package). IsUploadFault r c version first.number n e) packages first.number first.here in
      no-fault first.number bad.element e
      (subst (λ (n : Package). IsUploaded r c version n) (same-at packages first.number good.element bad.element good.is bad.is) good.holds) bad.holds

  one-first : (packages : List Package) (e other : StepError) → IsFirstFault r c version packages e → IsFirstFault r c version packages other → other ≡ e
  one-first packages e other first second = elim (cases_lt first.number second.number) [
    | inl less ↦ absurd (earlier packages e other first second less)
    | inr more ↦ elim (cases_lt second.number first.number) [
      | inl less ↦ absurd (earlier packages other e second first less)
      | inr also ↦
          let same : second.number ≡ first.number = omega (arith, more, also) in
          let a = here-at (λ (n : Package). IsUploadFault r c version first.number n e) packages first.number first.here in
          let b = here-at (λ (n : Package). IsUploadFault r c version second.number n other) packages second.number second.here in
          let there : slice_get packages first.number ≡ Some b.element = subst (λ (i : ℕ). slice_get packages i ≡ Some b.element) same b.is in
          let fault : IsUploadFault r c version first.number b.element other =
          subst (λ (i : ℕ). IsUploadFault r c version i b.element other) same b.holds in
          one-fault first.number a.element e other a.holds
          (subst (λ (n : Package). IsUploadFault r c version first.number n other) (same-at packages first.number b.element a.element there a.is) fault)
    ]
  ]

  module _ (archive : List Package) (block : PackageList) where
    upload-kind : (e : StepError) → RefusesUpload r archive c version block e → ((e ≡ OtherArchitecture) × IsOfOtherArchitecture r block)
        ⊎ (((e ≡ NotAbove) × (¬ IsOfOtherArchitecture r block) × (¬ IsAboveAll r archive c version))
        ⊎ ((¬ IsOfOtherArchitecture r block) × IsAboveAll r archive c version × IsFirstFault r c version block.packages e))
    upload-kind OtherArchitecture is = inl (refl, is)
    upload-kind NotAbove is = inr (inl (refl, is.0, is.1))
    upload-kind (NotMember k) is = inr (inr is)
    upload-kind (NotAtVersion k) is = inr (inr is)
    upload-kind (WrongProvides k) is = inr (inr is)
    upload-kind NotHeld is = inr (inr is)
    upload-kind NotOne is = inr (inr is)
    upload-kind NameTaken is = inr (inr is)
    upload-kind NameVirtual is = inr (inr is)
    upload-kind HasProvides is = inr (inr is)
    upload-kind NoMemory is = inr (inr is)

    pub upload-one : (e other : StepError) → RefusesUpload r archive c version block e → RefusesUpload r archive c version block other → other ≡ e
    upload-one e other first second = elim (upload-kind e first) [
      | inl a ↦ elim (upload-kind other second) [
        | inl b ↦ b.0 ∙ sym a.0
        | inr rest ↦ elim rest [
          | inl b ↦ absurd (b.1 a.1)
          | inr b ↦ absurd (b.0 a.1)
        ]
      ]
      | inr later ↦ elim later [
        | inl a ↦ elim (upload-kind other second) [
          | inl b ↦ absurd (a.1 b.1)
          | inr rest ↦ elim rest [
            | inl b ↦ b.0 ∙ sym a.0
            | inr b ↦ absurd (a.2 b.1)
          ]
        ]
        | inr a ↦ elim (upload-kind other second) [
          | inl b ↦ absurd (a.0 b.1)
          | inr rest ↦ elim rest [
            | inl b ↦ absurd (b.2 a.1)
            | inr b ↦ one-first block.packages e other a.2 b.2
          ]
        ]
      ]
    ]

    pub checked-none : IsChecked r archive c version block → (e : StepError) → ¬ RefusesUpload r archive c version block e
    checked-none checked e is = elim (upload-kind e is) [
      | inl a ↦ checked.architecture a.1
      | inr rest ↦ elim rest [
        | inl a ↦ a.2 checked.above
        | inr a ↦
            let bad = here-at (λ (n : Package). IsUploadFault r c version a.2.number n e) block.packages a.2.number a.2.here in
            no-fault a.2.number bad.element e
            (All-contains (IsUploaded r c version) block.packages bad.element checked.uploaded (contains-at block.packages a.2.number bad.element bad.is))
            bad.holds
      ]
    ]

-- ---- removals

pub removal-one : (archive : List Package) (name : List ℕ) (e : StepError) → RefusesRemoval archive name e → (e ≡ NotHeld) × (¬ IsHeld archive name)
removal-one archive name OtherArchitecture is = absurd is
removal-one archive name NotAbove is = absurd is
removal-one archive name (NotMember k) is = absurd is
removal-one archive name (NotAtVersion k) is = absurd is
removal-one archive name (WrongProvides k) is = absurd is
removal-one archive name NotHeld is = (refl, is)
removal-one archive name NotOne is = absurd is
removal-one archive name NameTaken is = absurd is
removal-one archive name NameVirtual is = absurd is
removal-one archive name HasProvides is = absurd is
removal-one archive name NoMemory is = absurd is

-- ---- new names

module _ (r : PackageList) (archive : List Package) where
  abbrev IsUnused : Package → Type 0
  IsUnused p = (¬ IsTaken r p.name) × (¬ IsHeld archive p.name)

  name-kind : (p : Package) (e : StepError) → IsNameFault r archive p e → ((e ≡ NameTaken) × (IsTaken r p.name ⊎ IsHeld archive p.name))
      ⊎ (((e ≡ NameVirtual) × IsUnused p × IsProvided r p.name) ⊎ ((e ≡ HasProvides) × IsUnused p × (¬ IsProvided r p.name) × (p.provides ≢ [])))
  name-kind p OtherArchitecture fault = absurd fault
  name-kind p NotAbove fault = absurd fault
  name-kind p (NotMember k) fault = absurd fault
  name-kind p (NotAtVersion k) fault = absurd fault
  name-kind p (WrongProvides k) fault = absurd fault
  name-kind p NotHeld fault = absurd fault
  name-kind p NotOne fault = absurd fault
  name-kind p NameTaken fault = inl (refl, fault)
  name-kind p NameVirtual fault = inr (inl (refl, (fault.0, fault.1), fault.2))
  name-kind p HasProvides fault = inr (inr (refl, (fault.0, fault.1), fault.2, fault.3))
  name-kind p NoMemory fault = absurd fault

  in-use : (p : Package) → IsTaken r p.name ⊎ IsHeld archive p.name → IsUnused p → ⊥
  in-use p (inl taken) unused = unused.0 taken
  in-use p (inr held) unused = unused.1 held

  one-name-fault : (p : Package) (e other : StepError) → IsNameFault r archive p e → IsNameFault r archive p other → other ≡ e
  one-name-fault p e other first second = elim (name-kind p e first) [
    | inl a ↦ elim (name-kind p other second) [
      | inl b ↦ b.0 ∙ sym a.0
      | inr rest ↦ elim rest [
        | inl b ↦ absurd (in-use p a.1 b.1)
        | inr b ↦ absurd (in-use p a.1 b.1)
      ]
    ]
    | inr later ↦ elim later [
      | inl a ↦ elim (name-kind p other second) [
        | inl b ↦ absurd (in-use p b.1 a.1)
        | inr rest ↦ elim rest [
          | inl b ↦ b.0 ∙ sym a.0
          | inr b ↦ absurd (b.2 a.2)
        ]
      ]
      | inr a ↦ elim (name-kind p other second) [
        | inl b ↦ absurd (in-use p b.1 a.1)
        | inr rest ↦ elim rest [
          | inl b ↦ absurd (a.2 b.2)
          | inr b ↦ b.0 ∙ sym a.0
        ]
      ]
    ]
  ]

  module _ (block : PackageList) where
    block-kind : (e : StepError) → RefusesName r archive block e → ((e ≡ OtherArchitecture) × IsOfOtherArchitecture r block)
        ⊎ (((e ≡ NotOne) × (¬ IsOfOtherArchitecture r block) × (length block.packages ≢ 1))
        ⊎ ((¬ IsOfOtherArchitecture r block) × ((p : Package) × (block.packages ≡ p ∷ []) × IsNameFault r archive p e)))
    block-kind OtherArchitecture is = inl (refl, is)
    block-kind NotAbove is = inr (inr is)
    block-kind (NotMember k) is = inr (inr is)
    block-kind (NotAtVersion k) is = inr (inr is)
    block-kind (WrongProvides k) is = inr (inr is)
    block-kind NotHeld is = inr (inr is)
    block-kind NotOne is = inr (inl (refl, is.0, is.1))
    block-kind NameTaken is = inr (inr is)
    block-kind NameVirtual is = inr (inr is)
    block-kind HasProvides is = inr (inr is)
    block-kind NoMemory is = inr (inr is)

    only-package : (p q : Package) → block.packages ≡ p ∷ [] → block.packages ≡ q ∷ [] → p ≡ q
    only-package p q first second =
        let here : Some p ≡ Some q = sym (ap (λ (l : List Package). slice_get l 0) first) ∙ ap (λ (l : List Package). slice_get l 0) second in cc

    pub name-one : (e other : StepError) → RefusesName r archive block e → RefusesName r archive block other → other ≡ e
    name-one e other first second = elim (block-kind e first) [
      | inl a ↦ elim (block-kind other second) [
        | inl b ↦ b.0 ∙ sym a.0
        | inr rest ↦ elim rest [
          | inl b ↦ absurd (b.1 a.1)
          | inr b ↦ absurd (b.0 a.1)
        ]
      ]
      | inr later ↦ elim later [
        | inl a ↦ elim (block-kind other second) [
          | inl b ↦ absurd (a.1 b.1)
          | inr rest ↦ elim rest [
            | inl b ↦ b.0 ∙ sym a.0
            | inr b ↦ absurd (a.2 (ap (λ (l : List Package). length l) b.1.1))
          ]
        ]
        | inr a ↦ elim (block-kind other second) [
          | inl b ↦ absurd (a.0 b.1)
          | inr rest ↦ elim rest [
            | inl b ↦ absurd (b.2 (ap (λ (l : List Package). length l) a.1.1))
            | inr b ↦ one-name-fault a.1.0 e other a.1.2 (subst (λ (p : Package). IsNameFault r archive p other)
                (only-package b.1.0 a.1.0 b.1.1 a.1.1) b.1.2)
          ]
        ]
      ]
    ]

    pub free-none : IsFreeBlock r archive block → (e : StepError) → ¬ RefusesName r archive block e
    free-none free e is = elim (block-kind e is) [
      | inl a ↦ free.architecture a.1
      | inr rest ↦ elim rest [
        | inl a ↦ a.2 (ap (λ (l : List Package). length l) free.one)
        | inr a ↦
            let p : Package = free.fresh in
            let fault = subst (λ (x : Package). IsNameFault r archive x e) (only-package a.1.0 p a.1.1 free.one) a.1.2 in
            elim (name-kind p e fault) [
              | inl b ↦ in-use p b.1 (free.free.untaken, free.free.unheld)
              | inr more ↦ elim more [
                | inl b ↦ free.free.unprovided b.2
                | inr b ↦ b.3 free.free.provides
              ]
            ]
      ]
    ]

-- ---- the answer

pub exact-answer : (R : StepError → Type 0) (result : Result (Unit {0}) StepError) → OnOk result (IsNeverRefused R)
    → IfErr result (λ e. e ≢ NoMemory → IsOnlyRefusal R e) → (error : StepError) → IsExactly NoMemory result error (R error)
exact-answer R (Ok x) never only error ample = (
  (λ is. absurd (let no-one : ◌≡◌ {A = Result (Unit {0}) StepError} (Ok x) (Err error) = is in cc)),
  λ at. absurd (never error at),
)
exact-answer R (Err e) never only error ample =
    let both = only (λ same. ample (ap (λ (y : StepError). Err y) same)) in (
      (λ is. let one : e ≡ error = cc in subst R one both.0),
      λ at. ap (λ (y : StepError). Err y) (sym (both.1 error at)),
    )
