-- What an upload leaves.
use Rattle.std.proofs.Common.{◌≡◌, ◌≢◌, ◌⊎◌, ℕ, zero, suc, ◌+◌, ◌<◌, List, [], ◌∷◌, ◌++◌, true, Some, None, Ordering, Less, Equal, length, get_or, set}
use Rattle.std.proofs.Common.{refl, sym, ap, subst, ◌∙◌, inl, inr, arith, nat_cmp, slice_get}
use Rattle.std.specs.Prelude.{Contains, IsTrue}
use Rattle.std.specs.Cmp.Lexicographic.{slice_cmp}
use Rattle.std.specs.Ordering.{ordering_then}
use Rattle.std.proofs.lemmas.Bool.{cases_eq, cases_lt}
use Rattle.std.proofs.lemmas.Cmp.{nat_list_cmp_total, tied_itself}
use Rattle.std.proofs.lemmas.List.{length-append, length-set}
use Rattle.std.proofs.lemmas.List.Elements.{All-contains, Contains-append_cases, Contains-append_left, Contains-append_right}
use Rattle.std.proofs.lemmas.Option.{get_or_from_slice_get, slice_get_within}
use Rattle.dist_base.specs.ListLaws.{any-contained, contains-at, element-at, place-of, same-at}
use Rattle.dist_version.specs.Order.{version_cmp}
use Rattle.dist_repo.specs.Order.{IsFlat, IsInOrder, package_cmp}
use Rattle.dist_repo.specs.PackageList.{PackageList}
use Rattle.dist_repo.specs.declared.package.Package.{Package}
use Rattle.dist_classes.specs.NewVersion.{IsNewOf}
use Rattle.dist_classes.specs.VersionOrderLaws.{alike-left, equal-back}
use Rattle.dist_space.specs.Space.{SpaceView}
use Rattle.dist_future.specs.Future.{IsInClusterOf}
use Rattle.dist_archive.specs.SlotsPrivate.{AreReplacements, IsKept, Replaces, is_filled, puts, slot_package, standing}
use Rattle.dist_archive.specs.Steps.{IsClusterName, IsHeld, IsOfCluster, IsUploaded, Uploads}
use Rattle.dist_archive.specs.UploadsPrivate.{IsChecked}
use Rattle.dist_archive.specs.declared.slots.Slot.{Slot}
use Rattle.dist_archive.specs.declared.slots.Slot.TheVariants.{Kept, Gone, New}
use Rattle.dist_archive.proofs.ChangeLemmas.{set-other, set-same}
use Rattle.dist_archive.proofs.ClusterLemmas.{in-member, member-in}
use Rattle.dist_archive.proofs.FutureLemmas.{one-named, upload-future}
use Rattle.dist_archive.proofs.HeldLemmas.{AreNamed, flat-within, held-flat, name-untaken, stands, stands-from}

-- ---- several slots

pub length-puts : (numbers : List ℕ) (slots old : List Slot) → length (puts numbers slots old) ≡ length old
length-puts [] slots old = refl
length-puts (n ∷ numbers) [] old = refl
length-puts (n ∷ numbers) (slot ∷ slots) old = length-set (puts numbers slots old) n slot ∙ length-puts numbers slots old

-- the slot was put, or is as before
pub record IsPut (numbers : List ℕ) (slots : List Slot) (k : ℕ) (slot : Slot) : Type 0 where
  pub place : ℕ
  pub number : slice_get numbers place ≡ Some k
  pub is : slice_get slots place ≡ Some slot

put-first : (n : ℕ) (numbers : List ℕ) (x : Slot) (xs rest : List Slot) (k : ℕ) (slot : Slot)
    → IsPut numbers xs k slot ⊎ ((¬ Contains numbers k) × (slice_get rest k ≡ Some slot)) → k ≢ n
    → IsPut (n ∷ numbers) (x ∷ xs) k slot ⊎ ((¬ Contains (n ∷ numbers) k) × (slice_get rest k ≡ Some slot))
put-first n numbers x xs rest k slot (inl later) apart = inl (record { place = suc later.place; number = later.number; is = later.is })
put-first n numbers x xs rest k slot (inr before) apart = inr (
  (λ there. by there.0 there.1 there.2),
  before.1,
)
  where
    by : (i : ℕ) → i < length (n ∷ numbers) → get_or (n ∷ numbers) i k ≡ k → ⊥
    by zero short is = apart (sym is)
    by (suc i) short is = before.0 (i, omega (arith, short), is)

pub puts-cases : (numbers : List ℕ) (slots old : List Slot) (k : ℕ) (slot : Slot) → length slots ≡ length numbers
    → slice_get (puts numbers slots old) k ≡ Some slot → IsPut numbers slots k slot ⊎ ((¬ Contains numbers k) × (slice_get old k ≡ Some slot))
puts-cases [] slots old k slot beside is = inr ((λ there. absurd (omega (arith, there.1))), is)
puts-cases (n ∷ numbers) [] old k slot beside is = absurd (omega (arith, beside))
puts-cases (n ∷ numbers) (x ∷ slots) old k slot beside is = elim (cases_eq k n) [
  | inl same ↦
      let short = slice_get_within (set (puts numbers slots old) n x) k slot is in
      let count = length-set (puts numbers slots old) n x in
      let here : Some x ≡ Some slot = sym (set-same (puts numbers slots old) n x (omega (arith, short, count, same)))
      ∙ ap (slice_get (set (puts numbers slots old) n x)) (sym same) ∙ is in
      let one : x ≡ slot = cc in
      inl (record { place = 0; number = ap (λ (j : ℕ). Some j) (sym same); is = ap (λ (y : Slot). Some y) one })
  | inr apart ↦ put-first n numbers x slots old k slot
      (puts-cases numbers slots old k slot (omega (arith, beside)) (sym (set-other (puts numbers slots old) n k x apart) ∙ is)) apart
]

-- what a replacement holds is of the block, under the same name
pub replaced-by : (block : List Package) (q : Package) (slot : Slot) (n : Package) → Replaces block q slot → slot_package q slot ≡ Some n
    → Contains block n × (n.name ≡ q.name)
replaced-by block q Kept n replaces is = absurd replaces
replaced-by block q Gone n replaces is = absurd (let no-one : None ≡ Some n = is in cc)
replaced-by block q (New copy) n replaces is =
    let same : copy.value ≡ n = cc in
    subst (λ (x : Package). Contains block x × (x.name ≡ q.name)) same replaces

-- a package of the block with the name is held
pub replaced-holds : (block : List Package) (q : Package) (slot : Slot) (n : Package) → Replaces block q slot → Contains block n → n.name ≡ q.name
    → ((x : Package) → Contains block x → x.name ≡ n.name → x ≡ n) → slot_package q slot ≡ Some n
replaced-holds block q Kept n replaces there name one = absurd replaces
replaced-holds block q Gone n replaces there name one = absurd (replaces (any-contained (λ (x : Package). x.name ≡ q.name) block n there name))
replaced-holds block q (New copy) n replaces there name one = ap (λ (x : Package). Some x) (one copy.value replaces.0 (replaces.1 ∙ sym name))

-- what holds something is filled
pub holds-filled : (q : Package) (slot : Slot) (n : Package) → slot_package q slot ≡ Some n → is_filled slot ≡ true
holds-filled q Kept n is = refl
holds-filled q Gone n is = absurd (let no-one : None ≡ Some n = is in cc)
holds-filled q (New copy) n is = refl

-- ---- one package of a name in a block at one version

same-version : (a b v : List ℕ) → version_cmp a v ≡ Equal → version_cmp b v ≡ Equal → version_cmp a b ≡ Equal
same-version a b v first second = alike-left a v b first ∙ equal-back b v second

not-before : (packages : List Package) → IsInOrder packages → (i j : ℕ) (p q : Package) → i < j → slice_get packages i ≡ Some p
    → slice_get packages j ≡ Some q → p.name ≡ q.name → version_cmp p.version q.version ≡ Equal → ⊥
not-before packages ordered i j p q less first second name version =
    let a : get_or packages i p ≡ p = get_or_from_slice_get packages i p p first in
    let b : get_or packages j p ≡ q = get_or_from_slice_get packages j q p second in
    let below : package_cmp (get_or packages i p) (get_or packages j p) ≡ Less = ordered i j p less (slice_get_within packages j q second) in
    let is : package_cmp p q ≡ Less =
    subst (λ (x : Package). package_cmp p x ≡ Less) b (subst (λ (x : Package). package_cmp x (get_or packages j p) ≡ Less) a below) in
    let tied : slice_cmp nat_cmp p.name q.name ≡ Equal =
    subst (λ (x : List ℕ). slice_cmp nat_cmp p.name x ≡ Equal) name (tied_itself nat_list_cmp_total p.name) in
    let no : Equal ≡ Less = sym version ∙ sym (ap (λ (o : Ordering). ordering_then o (version_cmp p.version q.version)) tied) ∙ is in cc

pub one-at-version : (packages : List Package) (version : List ℕ) → IsInOrder packages → (p q : Package) → Contains packages p → Contains packages q
    → p.name ≡ q.name → version_cmp p.version version ≡ Equal → version_cmp q.version version ≡ Equal → p ≡ q
one-at-version packages version ordered p q first second name at_p at_q =
    let a = place-of packages p first in
    let b = place-of packages q second in
    elim (cases_lt a.place b.place) [
      | inl less ↦ absurd (not-before packages ordered a.place b.place p q less a.is b.is name (same-version p.version q.version version at_p at_q))
      | inr more ↦ elim (cases_lt b.place a.place) [
        | inl less ↦ absurd (not-before packages ordered b.place a.place q p less b.is a.is (sym name) (same-version q.version p.version version at_q at_p))
        | inr also ↦
            let same : a.place ≡ b.place = omega (arith, more, also) in
            same-at packages b.place p q (subst (λ (i : ℕ). slice_get packages i ≡ Some p) same a.is) b.is
      ]
    ]

-- ---- the upload

module _ (s : SpaceView) (slots : List Slot) (names : List Package) (kept : IsKept s slots names) (cluster : ℕ) (c : Package) (of : IsOfCluster s cluster c)
    (members : List ℕ) (are : slice_get s.clusters.members cluster ≡ Some members) (version : List ℕ) (block : PackageList)
    (checked : IsChecked s.repository (standing s.repository.packages slots ++ names) c version block) (ordered : IsInOrder block.packages)
    (numbers : List ℕ) (within : (k : ℕ) → Contains numbers k → Contains members k)
    (brings : (k : ℕ) (q : Package) → slice_get s.repository.packages k ≡ Some q → IsHeld block.packages q.name → Contains numbers k)
    (others : (k : ℕ) (slot : Slot) → Contains members k → slice_get slots k ≡ Some slot → IsTrue (is_filled slot) → Contains numbers k)
    (put : List Slot) (replaced : AreReplacements s.repository.packages block.packages numbers put) where
  abbrev all : List Package
  all = standing s.repository.packages slots ++ names

  abbrev left : List Slot
  left = puts numbers put slots

  abbrev rest : List Package
  rest = standing s.repository.packages left ++ names

  flat : IsFlat s.repository.packages
  flat = kept.space.frame.flat

  replaced-at : (k : ℕ) (q : Package) (slot : Slot) → slice_get s.repository.packages k ≡ Some q → IsPut numbers put k slot → Replaces block.packages q slot
  replaced-at k q slot own at = replaced.each at.place k q slot at.number own at.is

  put-there : (k : ℕ) (slot : Slot) → IsPut numbers put k slot → Contains members k
  put-there k slot at = within k (contains-at numbers at.place k at.number)

  left-named : AreNamed s.repository.packages left
  left-named k p slot n own is holds = elim (puts-cases numbers put slots k slot replaced.beside is) [
    | inl at ↦ (replaced-by block.packages p slot n (replaced-at k p slot own at) holds).1
    | inr before ↦ kept.named k p slot n own before.1 holds
  ]

  uploaded : (n : Package) → Contains block.packages n → IsUploaded s.repository c version n
  uploaded n there = All-contains (IsUploaded s.repository c version) block.packages n checked.uploaded there

  -- a package of the block stands in the slot of its name
  block-stands : (n : Package) → Contains block.packages n → Contains rest n
  block-stands n there =
      let made = uploaded n there in
      let q : Package = made.0.0 in
      let fresh : IsNewOf q n = made.0.2 in
      let at = place-of s.repository.packages q made.0.1.there in
      let there_too = brings at.place q at.is (any-contained (λ (x : Package). x.name ≡ q.name) block.packages n there fresh.1.name) in
      let count = length-puts numbers put slots in
      let slot = element-at left at.place
      (omega (arith, count, kept.beside, slice_get_within s.repository.packages at.place q at.is)) in
      let one : (x : Package) → Contains block.packages x → x.name ≡ n.name → x ≡ n = λ x inside name.
      one-at-version block.packages version ordered x n inside there name (uploaded x inside).1 made.1 in
      let holds : slot_package q slot.element ≡ Some n =
      elim (puts-cases numbers put slots at.place slot.element replaced.beside slot.is) [
        | inl here ↦ replaced-holds block.packages q slot.element n (replaced-at at.place q slot.element at.is here) there fresh.1.name one
        | inr before ↦ absurd (before.0 there_too)
      ] in
      Contains-append_left (standing s.repository.packages left) names n
      (stands s.repository.packages left at.place q slot.element n at.is slot.is holds)

  -- what has no name of the cluster stays
  others-stay : (n : Package) → Contains all n → ¬ IsClusterName s.repository c n.name → Contains rest n
  others-stay n there other = elim (Contains-append_cases (standing s.repository.packages slots) names n there) [
    | inl stood ↦
        let at = stands-from s.repository.packages slots n stood in
        let name : n.name ≡ at.own.name = kept.named at.number at.own at.slot n at.is_own at.is_slot at.holds in
        let no_member : ¬ Contains members at.number = λ member. other (
          at.own,
          member-in s kept.space.frame cluster c of members are at.number at.own at.is_own member,
          sym name,
        ) in
        let count = length-puts numbers put slots in
        let slot = element-at left at.number (omega (arith, count, slice_get_within slots at.number at.slot at.is_slot)) in
        let holds : slot_package at.own slot.element ≡ Some n =
        elim (puts-cases numbers put slots at.number slot.element replaced.beside slot.is) [
          | inl here ↦ absurd (no_member (put-there at.number slot.element here))
          | inr before ↦ ap (slot_package at.own) (same-at slots at.number slot.element at.slot before.1 at.is_slot) ∙ at.holds
        ] in
        Contains-append_left (standing s.repository.packages left) names n
        (stands s.repository.packages left at.number at.own slot.element n at.is_own slot.is holds)
    | inr new ↦ Contains-append_right (standing s.repository.packages left) names n new
  ]

  -- and nothing else is there
  was-there : (n : Package) → Contains rest n → Contains block.packages n ⊎ (Contains all n × (¬ IsClusterName s.repository c n.name))
  was-there n there = elim (Contains-append_cases (standing s.repository.packages left) names n there) [
    | inl stood ↦
        let at = stands-from s.repository.packages left n stood in
        let name : n.name ≡ at.own.name = left-named at.number at.own at.slot n at.is_own at.is_slot at.holds in
        elim (puts-cases numbers put slots at.number at.slot replaced.beside at.is_slot) [
          | inl here ↦ inl (replaced-by block.packages at.own at.slot n (replaced-at at.number at.own at.slot at.is_own here) at.holds).0
          | inr before ↦ inr (
            Contains-append_left (standing s.repository.packages slots) names n
                (stands s.repository.packages slots at.number at.own at.slot n at.is_own before.1 at.holds),
            λ of_cluster.
                let same : of_cluster.0 ≡ at.own = one-named s.repository.packages of_cluster.0 at.own flat of_cluster.1.there
                (contains-at s.repository.packages at.number at.own at.is_own) (of_cluster.2 ∙ name) in
                before.0 (others at.number at.slot (in-member s kept.space.frame cluster c of members are at.number at.own at.is_own
                (subst (λ (x : Package). IsInClusterOf s.repository c x) same of_cluster.1)) before.1 (holds-filled at.own at.slot n at.holds)),
          )
        ]
    | inr new ↦ inr (
      Contains-append_right (standing s.repository.packages slots) names n new,
      λ of_cluster. name-untaken s.repository flat slots names kept.named kept.untaken n new
          (any-contained (λ (q : Package). q.name ≡ n.name) s.repository.packages of_cluster.0 of_cluster.1.there of_cluster.2),
    )
  ]

  pub upload-made : Uploads s.repository c version block.packages all rest
  upload-made = record {
    cluster = contains-at s.repository.packages of.member c of.is;
    above = checked.above;
    uploaded = checked.uploaded;
    made = record {
      one_of_a_name = held-flat s.repository flat left names left-named kept.untaken kept.flat;
      exact = λ n. (
        was-there n,
        λ either. elim either [
          | inl there ↦ block-stands n there
          | inr stays ↦ others-stay n stays.0 stays.1
        ],
      );
    };
  }

  pub upload-kept : length all + length block.packages < 4294967295 → IsKept s left names
  upload-kept few =
      let fewer = flat-within rest (block.packages ++ all) upload-made.made.one_of_a_name (λ n there. elim (was-there n there) [
        | inl of_block ↦ Contains-append_left block.packages all n of_block
        | inr stays ↦ Contains-append_right block.packages all n stays.0
      ]) in
      let count = length-append block.packages all in
      record {
        space = kept.space;
        beside = length-puts numbers put slots ∙ kept.beside;
        named = left-named;
        flat = kept.flat;
        untaken = kept.untaken;
        future = upload-future s.repository flat c version block.packages all rest upload-made kept.future;
        few = omega (arith, fewer, count, few);
      }
