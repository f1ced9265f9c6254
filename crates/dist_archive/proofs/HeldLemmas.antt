-- What slots and new names hold together.
use Rattle.std.proofs.Common.{◌≡◌, ◌≢◌, ◌↔◌, ℕ, zero, suc, ◌<◌, ◌≤◌, ◌-◌, Bool, true, false, List, [], ◌∷◌, ◌++◌, Option, Some, None}
use Rattle.std.proofs.Common.{length, get_or, replicate, cond, refl, sym, ap, subst, ◌∙◌, slice_get, arith, inl, inr}
use Rattle.std.specs.Prelude.{All, AllPairs, Contains, option_to_list}
use Rattle.std.specs.List.{IsDistinct}
use Rattle.std.proofs.lemmas.Bool.{cases_lt}
use Rattle.std.proofs.lemmas.List.{get_or_append_left, get_or-append_right, length-append}
use Rattle.std.proofs.lemmas.List.Elements.{All-contains, Contains-append_cases, Contains-append_left, Contains-append_right, recursion_from_All}
use Rattle.std.proofs.lemmas.List.Sums.{sum_by-cons}
use Rattle.std.proofs.lemmas.Map.Made.{is_member-Decides, length-le_from_is_member}
use Rattle.std.proofs.lemmas.Option.{slice_get-get_or}
use Rattle.dist_base.specs.ListLaws.{all-contained, any-contained, contains-at, pairs-head, pairs-tail, same-at}
use Rattle.dist_relation.specs.EqualityPrivate.{equivalence}
use Rattle.dist_repo.specs.EqualityPrivate.{package_eq, packages_decide}
use Rattle.dist_repo.specs.Order.{IsFlat}
use Rattle.dist_repo.specs.PackageList.{PackageList}
use Rattle.dist_repo.specs.declared.package.Package.{Package}
use Rattle.dist_space.specs.ClusterLaws.{names-apart}
use Rattle.dist_future.specs.Future.{IsTaken}
use Rattle.dist_archive.specs.Archive.{IsHeldAs}
use Rattle.dist_archive.specs.SlotsPrivate.{filled_count, is_filled, slot_package, standing}
use Rattle.dist_archive.specs.declared.slots.Slot.{Slot}
use Rattle.dist_archive.specs.declared.slots.Slot.TheVariants.{Kept, Gone, New}

-- ---- lists in general

differs : (p q : Package) → p.name ≢ q.name → package_eq p q ≡ false
differs p q apart = by (package_eq p q) refl
  where
    by : (b : Bool) → package_eq p q ≡ b → package_eq p q ≡ false
    by false is = is
    by true is = absurd (apart (ap (λ (x : Package). x.name) ((packages_decide p q).0 is)))

flat-distinct : (packages : List Package) → IsFlat packages → IsDistinct package_eq packages
unfolding IsDistinct
flat-distinct [] flat = tt
flat-distinct (p ∷ packages) flat = (
  recursion_from_All (λ q. package_eq p q ≡ false) packages (all-contained (λ q. package_eq p q ≡ false) packages
      (λ q there. differs p q (pairs-head (λ (x y : Package). x.name ≢ y.name) p packages flat q there))),
  flat-distinct packages (pairs-tail (λ (x y : Package). x.name ≢ y.name) p packages flat),
)

-- packages of different names that all stand in a list are no more than it has
pub flat-within : (packages whole : List Package) → IsFlat packages → ((n : Package) → Contains packages n → Contains whole n)
    → length packages ≤ length whole
flat-within packages whole flat within =
    length-le_from_is_member (equivalence packages_decide) packages whole (flat-distinct packages flat)
    (λ q member. (is_member-Decides packages_decide whole q).1 (within q ((is_member-Decides packages_decide packages q).0 member)))

pub pairs-append : {X : Type 0} (R : X → X → Type 0) (xs ys : List X) → AllPairs R xs → AllPairs R ys
    → ((x y : X) → Contains xs x → Contains ys y → R x y) → AllPairs R (xs ++ ys)
pairs-append {X} R xs ys first second between i j d less short =
    let all = length-append xs ys in
    elim (cases_lt j (length xs)) [
      | inl early ↦ subst (λ (z : X). R z (get_or (xs ++ ys) j d)) (sym (get_or_append_left xs ys d i (omega (arith, less, early))))
          (subst (λ (z : X). R (get_or xs i d) z) (sym (get_or_append_left xs ys d j early)) (first i j d less early))
      | inr late ↦
          let q : get_or (xs ++ ys) j d ≡ get_or ys (j - length xs) d = get_or-append_right xs ys (length xs) j d refl late in
          let within : j - length xs < length ys = omega (arith, short, late, all) in
          elim (cases_lt i (length xs)) [
            | inl early ↦
                let a : Contains xs (get_or xs i d) = contains-at xs i (get_or xs i d) (slice_get-get_or xs i d early) in
                let b : Contains ys (get_or ys (j - length xs) d) =
                contains-at ys (j - length xs) (get_or ys (j - length xs) d) (slice_get-get_or ys (j - length xs) d within) in
                subst (λ (z : X). R z (get_or (xs ++ ys) j d)) (sym (get_or_append_left xs ys d i early))
                (subst (λ (z : X). R (get_or xs i d) z) (sym q) (between (get_or xs i d) (get_or ys (j - length xs) d) a b))
            | inr also ↦
                let p : get_or (xs ++ ys) i d ≡ get_or ys (i - length xs) d = get_or-append_right xs ys (length xs) i d refl also in
                subst (λ (z : X). R z (get_or (xs ++ ys) j d)) (sym p)
                (subst (λ (z : X). R (get_or ys (i - length xs) d) z) (sym q)
                (second (i - length xs) (j - length xs) d (omega (arith, less, also, late)) within))
          ]
    ]

-- ---- what slots hold

-- the package of a number has this in its slot
pub record StandsAt (packages : List Package) (slots : List Slot) (n : Package) : Type 0 where
  pub number : ℕ
  pub own : Package
  pub slot : Slot
  pub is_own : slice_get packages number ≡ Some own
  pub is_slot : slice_get slots number ≡ Some slot
  pub holds : slot_package own slot ≡ Some n

in-option : (o : Option Package) (n : Package) → Contains (option_to_list o) n → o ≡ Some n
in-option None n there = absurd (omega (arith, there.1))
in-option (Some p) n (zero, short, is) = ap (λ (x : Package). Some x) is
in-option (Some p) n (suc k, short, is) = absurd (omega (arith, short))

option-in : (o : Option Package) (n : Package) → o ≡ Some n → Contains (option_to_list o) n
option-in None n is = cc
option-in (Some p) n is = (0, omega arith, let same : p ≡ n = cc in same)

pub stands-from : (packages : List Package) (slots : List Slot) (n : Package) → Contains (standing packages slots) n → StandsAt packages slots n
stands-from [] slots n there = absurd (omega (arith, there.1))
stands-from (p ∷ packages) [] n there = absurd (omega (arith, there.1))
stands-from (p ∷ packages) (slot ∷ slots) n there =
    elim (Contains-append_cases (option_to_list (slot_package p slot)) (standing packages slots) n there) [
      | inl here ↦ record {
        number = 0;
        own = p;
        slot = slot;
        is_own = refl;
        is_slot = refl;
        holds = in-option (slot_package p slot) n here;
      }
      | inr later ↦ let at = stands-from packages slots n later in record {
        number = suc at.number;
        own = at.own;
        slot = at.slot;
        is_own = at.is_own;
        is_slot = at.is_slot;
        holds = at.holds;
      }
    ]

pub stands : (packages : List Package) (slots : List Slot) (k : ℕ) (p : Package) (slot : Slot) (n : Package) → slice_get packages k ≡ Some p
    → slice_get slots k ≡ Some slot → slot_package p slot ≡ Some n → Contains (standing packages slots) n
stands [] slots k p slot n own is holds = cc
stands (q ∷ packages) [] k p slot n own is holds = cc
stands (q ∷ packages) (other ∷ slots) zero p slot n own is holds =
    let same : q ≡ p = cc in
    let one : other ≡ slot = cc in
    Contains-append_left (option_to_list (slot_package q other)) (standing packages slots) n (option-in (slot_package q other) n
    (ap (λ (x : Package). slot_package x other) same ∙ ap (slot_package p) one ∙ holds))
stands (q ∷ packages) (other ∷ slots) (suc k) p slot n own is holds =
    Contains-append_right (option_to_list (slot_package q other)) (standing packages slots) n (stands packages slots k p slot n own is holds)

pub standing-kept : (packages : List Package) → standing packages (replicate (length packages) Kept) ≡ packages
standing-kept [] = refl
standing-kept (p ∷ packages) = ap (λ (rest : List Package). p ∷ rest) (standing-kept packages)

option-length : (p : Package) (slot : Slot) → length (option_to_list (slot_package p slot)) ≡ cond (is_filled slot) 1 0
option-length p Kept = refl
option-length p Gone = refl
option-length p (New copy) = refl

pub standing-length : (packages : List Package) (slots : List Slot) → length slots ≡ length packages
    → length (standing packages slots) ≡ filled_count slots
standing-length [] [] beside = refl
standing-length [] (slot ∷ slots) beside = absurd (omega (arith, beside))
standing-length (p ∷ packages) [] beside = absurd (omega (arith, beside))
standing-length (p ∷ packages) (slot ∷ slots) beside =
    let rest = standing-length packages slots (omega (arith, beside)) in
    let first = option-length p slot in
    let all = length-append (option_to_list (slot_package p slot)) (standing packages slots) in
    let sum = sum_by-cons (λ (x : Slot). cond (is_filled x) 1 0) slot slots in
    omega (arith, rest, first, all, sum)

-- new versions have the names of their packages
abbrev pub AreNamed : List Package → List Slot → Type 0
AreNamed packages slots = (k : ℕ) (p : Package) (slot : Slot) (n : Package) → slice_get packages k ≡ Some p → slice_get slots k ≡ Some slot
    → slot_package p slot ≡ Some n → n.name ≡ p.name

pub standing-flat : (packages : List Package) (slots : List Slot) → IsFlat packages → AreNamed packages slots → IsFlat (standing packages slots)
standing-flat [] slots flat named = λ i j d less short. absurd (omega (arith, short))
standing-flat (p ∷ packages) [] flat named = λ i j d less short. absurd (omega (arith, short))
standing-flat (p ∷ packages) (slot ∷ slots) flat named =
    pairs-append (λ (x y : Package). x.name ≢ y.name) (option_to_list (slot_package p slot)) (standing packages slots)
    (one-flat (slot_package p slot))
    (standing-flat packages slots (pairs-tail (λ (x y : Package). x.name ≢ y.name) p packages flat)
    (λ k q other n own is holds. named (suc k) q other n own is holds))
    (λ x y first second same.
    let at = stands-from packages slots y second in
    let a : x.name ≡ p.name = named 0 p slot x refl refl (in-option (slot_package p slot) x first) in
    let b : y.name ≡ at.own.name = named (suc at.number) at.own at.slot y at.is_own at.is_slot at.holds in
    pairs-head (λ (u v : Package). u.name ≢ v.name) p packages flat at.own (contains-at packages at.number at.own at.is_own)
    (sym a ∙ same ∙ b))
  where
    one-flat : (o : Option Package) → IsFlat (option_to_list o)
    one-flat None = λ i j d less short. absurd (omega (arith, short))
    one-flat (Some q) = λ i j d less short. absurd (omega (arith, less, short))

module _ (r : PackageList) (flat : IsFlat r.packages) (slots : List Slot) (names : List Package) (named : AreNamed r.packages slots)
    (untaken : All (λ n. ¬ IsTaken r n.name) names) where
  abbrev pub held : List Package
  held = standing r.packages slots ++ names

  -- what slots hold has names that are taken
  pub standing-taken : (n : Package) → StandsAt r.packages slots n → IsTaken r n.name
  standing-taken n at =
      any-contained (λ (q : Package). q.name ≡ n.name) r.packages at.own (contains-at r.packages at.number at.own at.is_own)
      (sym (named at.number at.own at.slot n at.is_own at.is_slot at.holds))

  pub name-untaken : (n : Package) → Contains names n → ¬ IsTaken r n.name
  name-untaken n there = All-contains (λ (x : Package). ¬ IsTaken r x.name) names n untaken there

  pub held-flat : IsFlat names → IsFlat held
  held-flat flat_names =
      pairs-append (λ (x y : Package). x.name ≢ y.name) (standing r.packages slots) names (standing-flat r.packages slots flat named) flat_names
      (λ x y first second same. name-untaken y second (subst (λ (name : List ℕ). IsTaken r name) same
      (standing-taken x (stands-from r.packages slots x first))))

  -- what is held of the name of a package of the repository stands in its slot
  pub in-slot : (k : ℕ) (p n : Package) (slot : Slot) → slice_get r.packages k ≡ Some p → slice_get slots k ≡ Some slot
      → IsHeldAs held p.name n → slot_package p slot ≡ Some n
  in-slot k p n slot own is there = elim (Contains-append_cases (standing r.packages slots) names n there.0) [
    | inl stood ↦
        let at = stands-from r.packages slots n stood in
        let same : at.number ≡ k = names-apart r.packages at.number k at.own p flat at.is_own own
        (sym (named at.number at.own at.slot n at.is_own at.is_slot at.holds) ∙ there.1) in
        let one : at.own ≡ p = same-at r.packages k at.own p (subst (λ (i : ℕ). slice_get r.packages i ≡ Some at.own) same at.is_own) own in
        let here : at.slot ≡ slot = same-at slots k at.slot slot (subst (λ (i : ℕ). slice_get slots i ≡ Some at.slot) same at.is_slot) is in
        sym (ap (λ (x : Package). slot_package x slot) one) ∙ sym (ap (slot_package at.own) here) ∙ at.holds
    | inr new ↦ absurd (name-untaken n new (any-contained (λ (q : Package). q.name ≡ n.name) r.packages p (contains-at r.packages k p own) (sym there.1)))
  ]

  pub from-slot : (k : ℕ) (p n : Package) (slot : Slot) → slice_get r.packages k ≡ Some p → slice_get slots k ≡ Some slot
      → slot_package p slot ≡ Some n → IsHeldAs held p.name n
  from-slot k p n slot own is holds = (
    Contains-append_left (standing r.packages slots) names n (stands r.packages slots k p slot n own is holds),
    named k p slot n own is holds,
  )

  pub slot-answer : (k : ℕ) (p : Package) (slot : Slot) (answer : Option Package) → slice_get r.packages k ≡ Some p → slice_get slots k ≡ Some slot
      → answer ≡ slot_package p slot → (n : Package) → (answer ≡ Some n) ↔ IsHeldAs held p.name n
  slot-answer k p slot answer own is same n = (
    (λ at. from-slot k p n slot own is (sym same ∙ at)),
    λ there. same ∙ in-slot k p n slot own is there,
  )

  -- what is held of other names is held of new ones
  pub new-answer : (name : List ℕ) (answer : Option Package) → ¬ IsTaken r name
      → ((n : Package) → (answer ≡ Some n) ↔ IsHeldAs names name n) → (n : Package) → (answer ≡ Some n) ↔ IsHeldAs held name n
  new-answer name answer free here n = (
    (λ at. let there = (here n).0 at in (Contains-append_right (standing r.packages slots) names n there.0, there.1)),
    λ there. elim (Contains-append_cases (standing r.packages slots) names n there.0) [
      | inl stood ↦ absurd (free (subst (λ (x : List ℕ). IsTaken r x) there.1 (standing-taken n (stands-from r.packages slots n stood))))
      | inr new ↦ (here n).1 (new, there.1)
    ],
  )
