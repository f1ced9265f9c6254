-- Which members of a cluster an archive may hold: at its start, after a removal, and after an upload.
use Rattle.std.proofs.Common.{◌≡◌, ◌≢◌, ℕ, zero, suc, ◌+◌, ◌<◌, List, [], ◌∷◌, ◌++◌, Some, None, length, get_or, replicate, set}
use Rattle.std.proofs.Common.{refl, sym, ap, subst, ◌∙◌, inl, inr, arith, below_more, slice_get}
use Rattle.std.specs.Prelude.{All, Any, Contains, IsTrue}
use Rattle.std.proofs.lemmas.Bool.{cases_eq, false≢true}
use Rattle.std.proofs.lemmas.List.{length-replicate, length-set}
use Rattle.std.proofs.lemmas.List.Elements.{All-contains, Contains-append_cases, Contains-append_left, Contains-append_right}
use Rattle.std.proofs.lemmas.Option.{slice_get_within}
use Rattle.dist_base.specs.ListLaws.{all-contained, any-contained, any-there, at-has, at-weaker, contains-at, element-at, here-at, same-at}
use Rattle.dist_repo.specs.Order.{IsInOrder}
use Rattle.dist_repo.specs.PackageList.{IsPackageAnd, PackageList}
use Rattle.dist_repo.specs.declared.package.Package.{Package}
use Rattle.dist_space.specs.ClusterLaws.{names-apart}
use Rattle.dist_space.specs.Space.{IsFrame, SpaceView}
use Rattle.dist_future.specs.Future.{IsAboveCluster, IsInClusterOf}
use Rattle.dist_archive.specs.MembersPrivate.{AreLeft, AreNumbersOf, IsArchive, IsChange, IsLeft, IsNamedBehind, may_hold}
use Rattle.dist_archive.specs.SlotsPrivate.{AreReplacements, Replaces, is_filled, puts, standing}
use Rattle.dist_archive.specs.Steps.{IsAboveAll, IsHeld, IsOfCluster, IsUploaded, Uploads}
use Rattle.dist_archive.specs.UploadsPrivate.{IsAboveHeld, IsChecked}
use Rattle.dist_archive.specs.Archive.{ArchiveView}
use Rattle.dist_archive.specs.declared.members.Members.{Members}
use Rattle.dist_archive.specs.declared.members.Members.TheVariants.{Every, Brought}
use Rattle.dist_archive.specs.declared.uploads.Change.{Change}
use Rattle.dist_archive.specs.declared.slots.Slot.{Slot}
use Rattle.dist_archive.specs.declared.slots.Slot.TheVariants.{Gone}
use Rattle.dist_archive.proofs.ChangeLemmas.{Filled, held-in-slot, set-other, set-same, slot-filled}
use Rattle.dist_archive.proofs.ClusterLemmas.{in-member, member-package}
use Rattle.dist_archive.proofs.FutureLemmas.{one-named}
use Rattle.dist_archive.proofs.MadeLemmas.{puts-cases, replaced-by, upload-kept, upload-made}
use Rattle.dist_archive.proofs.UploadLemmas.{above-all, all-above, members-within}

-- ---- the start

every-one : (n k : ℕ) (m : Members) → slice_get (replicate n Every) k ≡ Some m → m ≡ Every
every-one zero k m is = absurd (let no-one : None ≡ Some m = is in cc)
every-one (suc n) zero m is = let same : Every ≡ m = cc in sym same
every-one (suc n) (suc k) m is = every-one n k m is

pub left-first : (clusters : List (List ℕ)) (slots : List Slot) (held : List Members) → held ≡ replicate (length clusters) Every → AreLeft clusters slots held
left-first clusters slots held all = record {
  beside = ap (λ (x : List Members). length x) all ∙ length-replicate (length clusters) Every;
  each = λ c members m are is.
      let one : m ≡ Every = every-one (length clusters) c m (ap (λ (x : List Members). slice_get x c) (sym all) ∙ is) in
      subst (λ (x : Members). IsLeft members slots (may_hold members x)) (sym one) (record {
        within = λ k there. there;
        others = λ k slot there own filled. there;
      });
}

-- ---- a removal

pub left-removed : (clusters : List (List ℕ)) (slots : List Slot) (held : List Members) (number : ℕ) → AreLeft clusters slots held
    → AreLeft clusters (set slots number Gone) held
left-removed clusters slots held number left = record {
  beside = left.beside;
  each = λ c members m are is.
      let before = left.each c members m are is in record {
        within = before.within;
        others = λ k slot there own filled. elim (cases_eq k number) [
          | inl same ↦
              let count = length-set slots number Gone in
              let short = slice_get_within (set slots number Gone) k slot own in
              let gone : Some Gone ≡ Some slot = sym (set-same slots number Gone (omega (arith, short, count, same)))
              ∙ ap (slice_get (set slots number Gone)) (sym same) ∙ own in
              let one : Gone ≡ slot = cc in
              absurd (false≢true (ap is_filled one ∙ filled))
          | inr other ↦ before.others k slot there (sym (set-other slots number k Gone other) ∙ own) filled
        ];
      };
}

-- ---- the numbers of a block

one-there : (x k : ℕ) → Contains (x ∷ []) k → x ≡ k
one-there x k there = by there.0 there.1 there.2
  where
    by : (i : ℕ) → i < 1 → get_or (x ∷ []) i k ≡ k → x ≡ k
    by zero short is = is
    by (suc i) short is = absurd (omega (arith, short))

any-grown : {X : Type 0} (P : X → Type 0) (xs ys : List X) → Any P xs → Any P (xs ++ ys)
any-grown P xs ys any = any-contained P (xs ++ ys) any.1 (Contains-append_left xs ys any.1 (any-there P xs any)) any.4

module _ (packages block : List Package) where
  abbrev pub IsOfBlock : ℕ → Type 0
  IsOfBlock k = IsPackageAnd packages k (λ p. IsHeld block p.name)

  abbrev pub IsNumbered : List ℕ → Package → Type 0
  IsNumbered numbers n = IsHeld packages n.name → Any (λ k. IsPackageAnd packages k (λ p. p.name ≡ n.name)) numbers

  -- the numbers of the first packages of the block
  pub record AreNumbersSoFar (number : ℕ) (numbers : List ℕ) : Type 0 where
    pub each : All IsOfBlock numbers
    pub all : (j : ℕ) → j < number → IsPackageAnd block j (IsNumbered numbers)

  pub numbered-none : AreNumbersSoFar 0 []
  numbered-none = record {
    each = λ k d short. absurd (omega (arith, short));
    all = λ j short. absurd (omega (arith, short));
  }

  each-more : (n : Package) (old new : List ℕ) → Contains block n → IsNamedBehind packages n.name old new → All IsOfBlock old → All IsOfBlock new
  each-more n old new there (inl found) each =
      subst (λ (l : List ℕ). All IsOfBlock l) (sym found.1) (all-contained IsOfBlock (old ++ found.0 ∷ []) (λ k inside.
      elim (Contains-append_cases old (found.0 ∷ []) k inside) [
        | inl before ↦ All-contains IsOfBlock old k each before
        | inr last ↦ subst IsOfBlock (one-there found.0 k last) (at-weaker (λ (p : Package). p.name ≡ n.name) (λ (p : Package). IsHeld block p.name)
            packages found.0 (λ p name. any-contained (λ (x : Package). x.name ≡ p.name) block n there (sym name)) found.2)
      ]))
  each-more n old new there (inr none) each = subst (λ (l : List ℕ). All IsOfBlock l) (sym none.0) each

  numbered-still : (n : Package) (name old new : List ℕ) → IsNamedBehind packages name old new → IsNumbered old n → IsNumbered new n
  numbered-still n name old new (inl found) before held =
      subst (λ (l : List ℕ). Any (λ k. IsPackageAnd packages k (λ p. p.name ≡ n.name)) l) (sym found.1)
      (any-grown (λ k. IsPackageAnd packages k (λ p. p.name ≡ n.name)) old (found.0 ∷ []) (before held))
  numbered-still n name old new (inr none) before held =
      subst (λ (l : List ℕ). Any (λ k. IsPackageAnd packages k (λ p. p.name ≡ n.name)) l) (sym none.0) (before held)

  numbered-here : (n : Package) (old new : List ℕ) → IsNamedBehind packages n.name old new → IsNumbered new n
  numbered-here n old new (inl found) held =
      subst (λ (l : List ℕ). Any (λ k. IsPackageAnd packages k (λ p. p.name ≡ n.name)) l) (sym found.1)
      (any-contained (λ k. IsPackageAnd packages k (λ p. p.name ≡ n.name)) (old ++ found.0 ∷ []) found.0
      (Contains-append_right old (found.0 ∷ []) found.0 (0, omega arith, refl)) found.2)
  numbered-here n old new (inr none) held = absurd (none.1 held)

  pub numbered-more : (number : ℕ) (n : Package) (old new : List ℕ) → slice_get block number ≡ Some n → IsNamedBehind packages n.name old new
      → AreNumbersSoFar number old → AreNumbersSoFar (number + 1) new
  numbered-more number n old new is behind so_far = record {
    each = each-more n old new (contains-at block number n is) behind so_far.each;
    all = below_more (λ j. IsPackageAnd block j (IsNumbered new)) number
        (λ j short. at-weaker (IsNumbered old) (IsNumbered new) block j (λ p before. numbered-still p n.name old new behind before) (so_far.all j short))
        (at-has (IsNumbered new) block number n is (numbered-here n old new behind));
  }

-- ---- an upload

module _ (s : SpaceView) (frame : IsFrame s) (cluster : ℕ) (c : Package) (of : IsOfCluster s cluster c) (members : List ℕ)
    (are : slice_get s.clusters.members cluster ≡ Some members) (version : List ℕ) (block : List Package)
    (uploaded : All (IsUploaded s.repository c version) block) (brought : List ℕ) (numbers : AreNumbersOf s.repository.packages block brought) where
  brought-within : (k : ℕ) → Contains brought k → Contains members k
  brought-within k there =
      let at = here-at (λ (p : Package). IsHeld block p.name) s.repository.packages k
      (All-contains (λ j. IsPackageAnd s.repository.packages j (λ p. IsHeld block p.name)) brought k numbers.each there) in
      let n : Package = at.holds.1 in
      let made = All-contains (IsUploaded s.repository c version) block n uploaded (any-there (λ (x : Package). x.name ≡ at.element.name) block at.holds) in
      let name : n.name ≡ at.element.name = at.holds.4 in
      let same : made.0.0 ≡ at.element = one-named s.repository.packages made.0.0 at.element frame.flat made.0.1.there
      (contains-at s.repository.packages k at.element at.is) (sym made.0.2.1.name ∙ name) in
      in-member s frame cluster c of members are k at.element at.is
      (subst (λ (x : Package). IsInClusterOf s.repository c x) same made.0.1)

  brought-all : (k : ℕ) (q : Package) → slice_get s.repository.packages k ≡ Some q → IsHeld block q.name → Contains brought k
  brought-all k q own held =
      let n : Package = held.1 in
      let name : n.name ≡ q.name = held.4 in
      let some = All-contains (λ (x : Package). IsHeld s.repository.packages x.name
      → Any (λ j. IsPackageAnd s.repository.packages j (λ p. p.name ≡ x.name)) brought)
      block n numbers.all (any-there (λ (x : Package). x.name ≡ q.name) block held)
      (any-contained (λ (x : Package). x.name ≡ n.name) s.repository.packages q (contains-at s.repository.packages k q own) (sym name)) in
      let at = here-at (λ (p : Package). p.name ≡ n.name) s.repository.packages some.1 some.4 in
      let same : some.1 ≡ k = names-apart s.repository.packages some.1 k at.element q frame.flat at.is own (at.holds ∙ name) in
      subst (λ j. Contains brought j) same (any-there (λ j. IsPackageAnd s.repository.packages j (λ p. p.name ≡ n.name)) brought some)

  module _ (slots : List Slot) (former touched : List ℕ) (left : IsLeft members slots former) (joined : touched ≡ former ++ brought) where
    pub touched-within : (k : ℕ) → Contains touched k → Contains members k
    touched-within k there = elim (Contains-append_cases former brought k (subst (λ (l : List ℕ). Contains l k) joined there)) [
      | inl before ↦ left.within k before
      | inr new ↦ brought-within k new
    ]

    pub touched-brings : (k : ℕ) (q : Package) → slice_get s.repository.packages k ≡ Some q → IsHeld block q.name → Contains touched k
    touched-brings k q own held =
        subst (λ (l : List ℕ). Contains l k) (sym joined) (Contains-append_right former brought k (brought-all k q own held))

    pub touched-others : (k : ℕ) (slot : Slot) → Contains members k → slice_get slots k ≡ Some slot → IsTrue (is_filled slot) → Contains touched k
    touched-others k slot there own filled =
        subst (λ (l : List ℕ). Contains l k) (sym joined) (Contains-append_left former brought k (left.others k slot there own filled))

    module _ (put : List Slot) (replaced : AreReplacements s.repository.packages block touched put) where
      left-here : IsLeft members (puts touched put slots) brought
      left-here = record {
        within = brought-within;
        others = λ k slot there own filled. elim (puts-cases touched put slots k slot replaced.beside own) [
          | inl at ↦
              let count = member-in-packages k there in
              let p = element-at s.repository.packages k count in
              let holds = slot-filled p.element slot filled in
              brought-all k p.element p.is (by-replaced p.element slot holds (replaced.each at.place k p.element slot at.number p.is at.is))
          | inr before ↦ absurd (before.0 (touched-others k slot there before.1 filled))
        ];
      }
        where
          member-in-packages : (k : ℕ) → Contains members k → k < length s.repository.packages
          member-in-packages k there = member-package s frame cluster c of members are k there

          by-replaced : (p : Package) (slot : Slot) (holds : Filled p slot) → Replaces block p slot → IsHeld block p.name
          by-replaced p slot holds replaces =
              let named = replaced-by block p slot holds.held replaces holds.is in
              any-contained (λ (x : Package). x.name ≡ p.name) block holds.held named.0 named.1

      left-there : (other : ℕ) (its : List ℕ) → slice_get s.clusters.members other ≡ Some its → other ≢ cluster → (numbers : List ℕ)
          → IsLeft its slots numbers → IsLeft its (puts touched put slots) numbers
      left-there other its at apart numbers before = record {
        within = before.within;
        others = λ k slot there own filled. elim (puts-cases touched put slots k slot replaced.beside own) [
          | inl here ↦
              let mine = touched-within k (contains-at touched here.place k here.number) in
              let first : Some other ≡ Some cluster = sym ((frame.placed other k).0 (at-has (λ (l : List ℕ). Contains l k) s.clusters.members other its at
              there))
              ∙ (frame.placed cluster k).0 (at-has (λ (l : List ℕ). Contains l k) s.clusters.members cluster members are mine) in
              absurd (apart (let same : other ≡ cluster = cc in same))
          | inr stays ↦ before.others k slot there stays.1 filled
        ];
      }

      pub left-uploaded : (held : List Members) (numbers : Members) → may_hold members numbers ≡ brought → AreLeft s.clusters.members slots held
          → AreLeft s.clusters.members (puts touched put slots) (set held cluster numbers)
      left-uploaded held numbers now all = record {
        beside = length-set held cluster numbers ∙ all.beside;
        each = λ other its m at is. elim (cases_eq other cluster) [
          | inl same ↦
              let count = length-set held cluster numbers in
              let short = slice_get_within (set held cluster numbers) other m is in
              let here : Some numbers ≡ Some m = sym (set-same held cluster numbers (omega (arith, short, count, same)))
              ∙ ap (slice_get (set held cluster numbers)) (sym same) ∙ is in
              let one : numbers ≡ m = cc in
              let mine : members ≡ its = same-at s.clusters.members cluster members its are (subst (λ i. slice_get s.clusters.members i ≡ Some its) same at) in
              subst (λ (x : Members). IsLeft its (puts touched put slots) (may_hold its x)) one
              (subst (λ (l : List ℕ). IsLeft l (puts touched put slots) (may_hold l numbers)) mine
              (subst (λ (l : List ℕ). IsLeft members (puts touched put slots) l) (sym now) left-here))
          | inr apart ↦ left-there other its at apart (may_hold its m) (all.each other its m at (sym (set-other held cluster other numbers apart) ∙ is))
        ];
      }

-- ---- what an upload is to be above

-- what is said of the members that may be held is said of the cluster
abbrev pub AreEnough : (held : List Members) (cluster : ℕ) (version : List ℕ) → ArchiveView → Type 0
AreEnough held cluster version v = (members numbers : List ℕ) → slice_get v.space.clusters.members cluster ≡ Some members
    → ((m : Members) → slice_get held cluster ≡ Some m → numbers ≡ may_hold members m)
    → All (λ k. k < length v.space.repository.packages) numbers × ((c : Package) → IsOfCluster v.space cluster c
    → (IsAboveCluster v.space.repository c version → All (λ k. IsAboveHeld v k version) numbers → IsAboveAll v.space.repository v.packages c version)
    × (IsAboveAll v.space.repository v.packages c version → All (λ k. IsAboveHeld v k version) numbers))

module _ (s : SpaceView) (slots : List Slot) (names : List Package) (held : List Members) (archive : IsArchive s slots names held) where
  abbrev view : ArchiveView
  view = record { space = s; packages = standing s.repository.packages slots ++ names }

  pub left-of : (cluster : ℕ) (members numbers : List ℕ) → slice_get s.clusters.members cluster ≡ Some members
      → ((m : Members) → slice_get held cluster ≡ Some m → numbers ≡ may_hold members m) → IsLeft members slots numbers
  left-of cluster members numbers are is =
      let at = element-at held cluster (omega (arith, archive.left.beside, slice_get_within s.clusters.members cluster members are)) in
      subst (λ (l : List ℕ). IsLeft members slots l) (sym (is at.element at.is)) (archive.left.each cluster members at.element are at.is)

  pub are-enough : (cluster : ℕ) (version : List ℕ) → AreEnough held cluster version view
  are-enough cluster version members numbers are is =
      let left = left-of cluster members numbers are is in
      let frame = archive.kept.space.frame in
      let within = members-within s frame cluster members (slice_get_within s.clusters.members cluster members are) are in (
        all-contained (λ k. k < length s.repository.packages) numbers
            (λ k there. All-contains (λ j. j < length s.repository.packages) members k within (left.within k there)),
        λ c of. (
          (λ top each. above-all view frame cluster c of members are version top (all-contained (λ k. IsAboveHeld view k version) members
              (λ k there p n own holds.
              let slot = element-at slots k (omega (arith, archive.kept.beside, slice_get_within s.repository.packages k p own)) in
              let filled = (held-in-slot s slots names archive.kept k p slot.element own slot.is).1
              (any-contained (λ (x : Package). x.name ≡ p.name) view.packages n holds.0 holds.1) in
              All-contains (λ j. IsAboveHeld view j version) numbers k each (left.others k slot.element there slot.is filled) p n own holds))),
          λ above. all-contained (λ k. IsAboveHeld view k version) numbers
              (λ k there. All-contains (λ j. IsAboveHeld view j version) members k (all-above view frame cluster c of members are version above) (left.within k
              there)),
        ),
      )

-- ---- the whole upload

pub record IsUploadMade (s : SpaceView) (names : List Package) (c : Package) (version : List ℕ) (block all : List Package) (slots : List Slot)
    (held : List Members) : Type 0 where
  pub archive : IsArchive s slots names held
  pub made : Uploads s.repository c version block all (standing s.repository.packages slots ++ names)

module _ (s : SpaceView) (slots : List Slot) (names : List Package) (held : List Members) (archive : IsArchive s slots names held) (cluster : ℕ)
    (members former : List ℕ) (are : slice_get s.clusters.members cluster ≡ Some members)
    (is_former : (m : Members) → slice_get held cluster ≡ Some m → former ≡ may_hold members m) where
  pub upload-changed : (c : Package) → IsOfCluster s cluster c → (version : List ℕ) (block : PackageList)
      → IsChecked s.repository (standing s.repository.packages slots ++ names) c version block → IsInOrder block.packages
      → length (standing s.repository.packages slots ++ names) + length block.packages < 4294967295
      → (change : Change) → IsChange s.repository.packages block.packages former change
      → IsUploadMade s names c version block.packages (standing s.repository.packages slots ++ names) (puts change.touched.items change.slots.items slots)
      (set held cluster (Brought change.brought))
  upload-changed c of version block checked ordered few change is =
      let frame = archive.kept.space.frame in
      let left = left-of s slots names held archive cluster members former are is_former in
      let within = touched-within s frame cluster c of members are version block.packages checked.uploaded change.brought.items is.brought slots former
      change.touched.items left is.touched in
      let brings = touched-brings s frame cluster c of members are version block.packages checked.uploaded change.brought.items is.brought slots former
      change.touched.items left is.touched in
      let others = touched-others s frame cluster c of members are version block.packages checked.uploaded change.brought.items is.brought slots former
      change.touched.items left is.touched in
      record {
        archive = record {
          kept = upload-kept s slots names archive.kept cluster c of members are version block checked ordered change.touched.items within brings others
              change.slots.items is.replaced few;
          left = left-uploaded s frame cluster c of members are version block.packages checked.uploaded change.brought.items is.brought slots former
              change.touched.items left is.touched change.slots.items is.replaced held (Brought change.brought) refl archive.left;
        };
        made = upload-made s slots names archive.kept cluster c of members are version block checked ordered change.touched.items within brings others
            change.slots.items is.replaced;
      }

  pub change-within : (c : Package) → IsOfCluster s cluster c → (version : List ℕ) (block : PackageList)
      → IsChecked s.repository (standing s.repository.packages slots ++ names) c version block → (change : Change)
      → IsChange s.repository.packages block.packages former change → All (λ k. k < length slots) change.touched.items
  change-within c of version block checked change is =
      let frame = archive.kept.space.frame in
      let left = left-of s slots names held archive cluster members former are is_former in
      all-contained (λ k. k < length slots) change.touched.items (λ k there.
      let inside = touched-within s frame cluster c of members are version block.packages checked.uploaded change.brought.items is.brought slots former
      change.touched.items left is.touched k there in
      omega (arith, archive.kept.beside, member-package s frame cluster c of members are k inside))
