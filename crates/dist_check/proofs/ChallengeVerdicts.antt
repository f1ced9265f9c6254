-- The tests of a claim on challenges say what its rules say, where the variables are laid out as the matter numbers them.
use Rattle.std.proofs.Common.{◌≡◌, ◌⊎◌, inl, inr, ℕ, ◌<◌, ◌≤◌, ◌↔◌, ◌==◌, ◌&&◌, ◌||◌, Bool, true, false, not, List, [], ◌∷◌, ◌++◌, Option, Some}
use Rattle.std.proofs.Common.{None, filter, length, get_or, map, refl, sym, ap, subst, ◌∙◌, arith, nat_le, unwrap_or, if◌then◌else◌}
use Rattle.std.specs.List.{All, Any, Contains, list_all, list_any}
use Rattle.std.proofs.lemmas.Bool.{true≢false, false≢true, and_parts, and_from, or_cases, or_left, or_right, eqb-true, eqb-false, eq-eqb, ne_eqb}
use Rattle.std.proofs.lemmas.Bool.{not-true, not_from_false, le-leb, leb-true, false_from_ne_true}
use Rattle.std.proofs.lemmas.List.Elements.{All-append, All-contains, All-cons, All-head, All-tail, All-nil, Contains-append_left, Contains-append_right}
use Rattle.std.proofs.lemmas.List.Elements.{Contains-append_cases}
use Rattle.std.proofs.lemmas.List.Folds.{Any-from_list_any, list_any-from_Any}
use Rattle.dist_base.specs.ListLaws.{all-contained, any-contained, any-more}
use Rattle.dist_cert.specs.declared.faults.CertCause.{CertCause}
use Rattle.dist_cert.specs.declared.faults.CertCause.TheVariants as causes
use Rattle.dist_cert.specs.declared.records.CertRecord.{CertRecord}
use Rattle.dist_cert.specs.Groups.{installations, installation_at, IsRecent, group, IsRefutedIn, IsUndecidedIn}
use Rattle.dist_cert.specs.Subject.{Matter, cluster_at}
use Rattle.dist_cert.specs.ClaimRules.{yes, IsNamed, SomeInstallation, IsPairFor, HasNone, Covers, IsCovered, challenge_question, HoldsChallenged}
use Rattle.dist_cert.specs.ClaimRules.{OmitsPair as Omits}
use Rattle.dist_cert.specs.Rising.{is_among}
use Rattle.dist_cert.specs.ListLaws.{any-from, contains-cases, contains-later, from-any}
use Rattle.dist_check_group.specs.Layout.{LayoutView, at_class, classes_of, cluster_of, is_package, non_packages, used}
use Rattle.dist_check_group.specs.Window.{WindowView, has_member, kept_at, members_at}
use Rattle.dist_check_group.specs.Cover.{CoverView}
use Rattle.dist_check_group.specs.Group.{GroupView, in_each}
use Rattle.dist_check_group.specs.Challenge.{OmitsPair, PassesChallenge, TellsChallenge, first_used, is_covered, is_held, is_listed, is_pair_for}
use Rattle.dist_check_group.specs.Challenge.{is_used, use_each}
use Rattle.dist_check.specs.LaysOut.{IsCluster, IsPair, LaysOut}
use Rattle.dist_check.specs.CoverPrivate.{IsCoverOf, IsUsedOf}
use Rattle.dist_check.proofs.TestLemmas.{Tests, all-tested, any-tested}
use Rattle.dist_line_check.specs.ToldLaws.{IsTold, any-told, bool-told, number-told}

-- What is known where a claim on challenges is looked at: what the variables stand for, which installations are kept, and
-- what is kept of the group.
pub record IsChallenge (matter : Matter) (layout : LayoutView) (before : List CertRecord) (w : WindowView) (kept : GroupView) (p : ℕ)
    (named : List ℕ) : Type 0 where
  pub lays : LaysOut matter layout
  pub members : (v : ℕ) → Tests (λ number. has_member (kept_at w number) v) (IsNamed before v) named
  pub recent : (number : ℕ) → IsRecent before number → kept_at w number ≡ Some (installation_at before number)
  pub some : 0 < length named
  pub from_one : 1 ≤ p
  pub upto : p ≤ matter.packages
  pub refuted : (v : ℕ) → (is_among kept.refuted.together v ≡ true) ↔ IsRefutedIn (group before) (yes (matter.present p) ∷ yes v ∷ [])
  pub undecided : (v : ℕ) → (is_among kept.undecided.together v ≡ true) ↔ IsUndecidedIn (group before) (yes (matter.present p) ∷ yes v ∷ [])
  pub cover : IsCoverOf layout (installations (group before)) (matter.present p) kept.cover

-- ---- what an installation uses and holds

used-test : (layout : LayoutView) (members : List ℕ) (c : ℕ)
    → is_among (used layout members) c ≡ list_any (λ v. is_package layout v && (c == cluster_of layout v)) members
used-test layout [] c = refl
used-test layout (v ∷ members) c = by (is_package layout v) (used-test layout members c)
  where
    by : (b : Bool) → is_among (used layout members) c ≡ list_any (λ u. is_package layout u && (c == cluster_of layout u)) members
        → is_among (map (cluster_of layout) (if b then v ∷ filter (is_package layout) members else filter (is_package layout) members)) c
        ≡ ((b && (c == cluster_of layout v)) || list_any (λ u. is_package layout u && (c == cluster_of layout u)) members)
    by true rest = ap (λ (d : Bool). (c == cluster_of layout v) || d) rest
    by false rest = rest

uses-one : (layout : LayoutView) (members : List ℕ) (c : ℕ) → is_among (used layout members) c ≡ true → Any (λ v. cluster_of layout v ≡ c) members
uses-one layout members c e =
    any-more (λ v. (is_package layout v && (c == cluster_of layout v)) ≡ true) (λ v. cluster_of layout v ≡ c)
    (λ v holds. sym (eqb-true c (cluster_of layout v) (and_parts (is_package layout v) (c == cluster_of layout v) holds).1)) members
    (Any-from_list_any (λ v. is_package layout v && (c == cluster_of layout v)) members (sym (used-test layout members c) ∙ e))

one-uses : (layout : LayoutView) (members : List ℕ) (c v : ℕ) → 1 ≤ c → Contains members v → cluster_of layout v ≡ c
    → is_among (used layout members) c ≡ true
one-uses layout members c v from there is =
    used-test layout members c
    ∙ list_any-from_Any (λ u. is_package layout u && (c == cluster_of layout u)) members (
      there.0,
      v,
      there.1,
      there.2,
      and_from (is_package layout v) (c == cluster_of layout v)
          (not_from_false (cluster_of layout v == 0) (ne_eqb (cluster_of layout v) 0 (λ e. omega (arith, e, is, from))))
          (eq-eqb c (cluster_of layout v) (sym is)),
    )

none-from : (matter : Matter) (layout : LayoutView) → LaysOut matter layout → (c : ℕ) → IsCluster matter c → (members : List ℕ)
    → is_among (used layout members) c ≡ false → HasNone matter (cluster_at matter c) members
none-from matter layout lays c is members none =
    let Has : ℕ → ℕ → Type 0 = λ v r. (v ≡ matter.present r)
    ⊎ ((class : ℕ) × (1 ≤ class) × (class ≤ (cluster_at matter c).classes) × (v ≡ matter.new r class)) in
    let never : (v r : ℕ) → Contains (cluster_at matter c).members r → Has v r → ¬ Contains members v = λ v r there has among.
    false≢true (sym none ∙ one-uses layout members c v is.0 among
    ((lays.packages c v is).1 (any-contained (Has v) (cluster_at matter c).members r there has))) in
    all-contained (λ r. (¬ Contains members (matter.present r))
    × ((class : ℕ) → 1 ≤ class → class ≤ (cluster_at matter c).classes → ¬ Contains members (matter.new r class))) (cluster_at matter c).members
    (λ r there. (
      never (matter.present r) r there (inl refl),
      λ class low high. never (matter.new r class) r there (inr (class, low, high, refl)),
    ))

-- no package of a cluster is among the members: neither as it is nor new
abbrev IsFree : Matter → ℕ → List ℕ → ℕ → Type 0
IsFree matter c members r = (¬ Contains members (matter.present r))
    × ((class : ℕ) → 1 ≤ class → class ≤ (cluster_at matter c).classes → ¬ Contains members (matter.new r class))

from-none : (matter : Matter) (layout : LayoutView) → LaysOut matter layout → (c : ℕ) → IsCluster matter c → (members : List ℕ)
    → HasNone matter (cluster_at matter c) members → is_among (used layout members) c ≡ false
from-none matter layout lays c is members none = false_from_ne_true (is_among (used layout members) c) (λ e.
    let any = uses-one layout members c e in
    let v : ℕ = any.1 in
    let there : Contains members v = (any.0, any.2, any.3) in
    let pack = (lays.packages c v is).0 any.4 in
    let r : ℕ = pack.1 in
    let free : IsFree matter c members r = All-contains (IsFree matter c members) (cluster_at matter c).members r none (pack.0, pack.2, pack.3) in
    elim pack.4 [
      | inl same ↦ free.0 (subst (Contains members) same there)
      | inr new ↦ free.1 new.0 new.1 new.2 (subst (Contains members) new.3 there)
    ])

kept-has : (f : ℕ → Bool) (xs : List ℕ) (q : ℕ) → f q ≡ true → is_among (filter f xs) q ≡ is_among xs q
kept-has f [] q is = refl
kept-has f (x ∷ xs) q is = by (f x) refl (q == x) refl (kept-has f xs q is)
  where
    by : (b : Bool) → f x ≡ b → (c : Bool) → (q == x) ≡ c → is_among (filter f xs) q ≡ is_among xs q
        → is_among (if b then x ∷ filter f xs else filter f xs) q ≡ (c || is_among xs q)
    by true kept c same rest = ap (λ (d : Bool). d || is_among (filter f xs) q) same ∙ ap (λ (d : Bool). c || d) rest
    by false left true same rest = absurd (false≢true (sym left ∙ ap f (sym (eqb-true q x same)) ∙ is))
    by false left false same rest = rest

-- a variable that is no package
holds-is : (layout : LayoutView) (members : List ℕ) (v : ℕ) → cluster_of layout v ≡ 0
    → is_among (non_packages layout members) v ≡ is_among members v
holds-is layout members v none =
    kept-has (λ u. not (is_package layout u)) members v
    (ap (λ (n : ℕ). not (not (n == 0))) none)

-- ---- the named installations

names-are : (matter : Matter) (layout : LayoutView) (before : List CertRecord) (w : WindowView) (kept : GroupView) (p : ℕ) (named : List ℕ)
    → IsChallenge matter layout before w kept p named → (v : ℕ) → (in_each w named v ≡ true) ↔ All (IsNamed before v) named
names-are matter layout before w kept p named x v = all-tested (λ number. has_member (kept_at w number) v) (IsNamed before v) named (x.members v)

-- the installations that are named, where they have the claim's variable
AreMembers : List CertRecord → WindowView → List ℕ → Type 0
AreMembers before w named = (number : ℕ) → Contains named number → members_at w number ≡ installation_at before number

members-are : (matter : Matter) (layout : LayoutView) (before : List CertRecord) (w : WindowView) (kept : GroupView) (p : ℕ) (named : List ℕ)
    → IsChallenge matter layout before w kept p named → (v : ℕ) → All (IsNamed before v) named → AreMembers before w named
unfolding AreMembers
members-are matter layout before w kept p named x v names number there =
    ap (λ (o : Option (List ℕ)). unwrap_or o []) (x.recent number (All-contains (IsNamed before v) named number names there).0)

-- all that are named use the cluster
abbrev AllUse : LayoutView → List CertRecord → List ℕ → ℕ → Type 0
AllUse layout before named c = All (λ number. is_among (used layout (installation_at before number)) c ≡ true) named

abbrev GroupUses : LayoutView → List CertRecord → ℕ → ℕ → Type 0
GroupUses layout before variable c = All (λ m. Contains m variable → Contains (used layout m) c) (installations (group before))

named-use : (layout : LayoutView) (before : List CertRecord) (w : WindowView) (named : List ℕ) → AreMembers before w named → (c : ℕ)
    → (use_each layout w named c ≡ true) ↔ AllUse layout before named c
unfolding AreMembers
named-use layout before w named are c =
    all-tested (λ number. is_among (used layout (members_at w number)) c) (λ number. is_among (used layout (installation_at before number)) c ≡ true) named
    (λ number there.
    let same = ap (λ (m : List ℕ). is_among (used layout m) c) (are number there) in ((λ e. sym same ∙ e), λ h. same ∙ h))

-- the first list that is looked at
first-is : (layout : LayoutView) (before : List CertRecord) (w : WindowView) (variable : ℕ) (named : List ℕ) → AreMembers before w named
    → 0 < length named → (clusters : Option (List ℕ)) → IsUsedOf layout (installations (group before)) variable clusters → (c : ℕ)
    → AllUse layout before named c
    → (is_among (first_used layout w clusters named) c ≡ true) ↔ GroupUses layout before variable c
unfolding AreMembers
first-is layout before w variable named are some (Some clusters) is c all =
    ((λ e. (is.1 c).0 (from-any c clusters e)), λ each. any-from c clusters ((is.1 c).1 each))
first-is layout before w variable [] are some None is c all = absurd (omega (arith, some))
first-is layout before w variable (number ∷ named) are some None is c all = (
  (λ e k d within holds. absurd (is k d within holds)),
  λ each. ap (λ (m : List ℕ). is_among (used layout m) c) (are number (0, omega arith, refl))
      ∙ All-head (λ n. is_among (used layout (installation_at before n)) c ≡ true) number named all,
)

used-is : (layout : LayoutView) (before : List CertRecord) (w : WindowView) (variable : ℕ) (named : List ℕ) → AreMembers before w named
    → 0 < length named → (cover : CoverView) → IsCoverOf layout (installations (group before)) variable cover → (c : ℕ)
    → (is_used layout w cover named c ≡ true) ↔ (AllUse layout before named c × GroupUses layout before variable c)
used-is layout before w variable named are some cover is c =
    let first : Bool = is_among (first_used layout w cover.used named) c in
    let each = named-use layout before w named are c in (
      (λ e.
          let parts = and_parts first (use_each layout w named c) e in
          let all = each.0 parts.1 in
          (all, (first-is layout before w variable named are some cover.used is.used c all).0 parts.0)),
      λ both. and_from first (use_each layout w named c)
          ((first-is layout before w variable named are some cover.used is.used c both.0).1 both.1) (each.1 both.0),
    )

-- one that is named, or of the group with the variable, holds what is no package
held-is : (layout : LayoutView) (before : List CertRecord) (w : WindowView) (variable : ℕ) (named : List ℕ) → AreMembers before w named
    → (cover : CoverView) → IsCoverOf layout (installations (group before)) variable cover → (v : ℕ) → cluster_of layout v ≡ 0
    → (is_held layout w cover named v ≡ true) ↔ SomeInstallation before named variable (λ members. Contains members v)
unfolding AreMembers
held-is layout before w variable named are cover is v none =
    let test : ℕ → Bool = λ number. is_among (non_packages layout (members_at w number)) v in
    let tested = any-tested test (λ number. Contains (installation_at before number) v) named (λ number there.
    let same = holds-is layout (members_at w number) v none ∙ ap (λ (m : List ℕ). is_among m v) (are number there) in
    ((λ e. from-any v (installation_at before number) (sym same ∙ e)), λ h. same ∙ any-from v (installation_at before number) h)) in
    let HasBoth : List ℕ → Type 0 = λ m. Contains m variable × Contains (non_packages layout m) v in
    let Has : List ℕ → Type 0 = λ m. Contains m variable × Contains m v in
    let all = installations (group before) in (
      (λ e. elim (or_cases (is_among cover.held v) (list_any test named) e) [
        | inl of_group ↦ inr (any-more HasBoth Has
            (λ m h. (h.0, from-any v m (sym (holds-is layout m v none) ∙ any-from v (non_packages layout m) h.1))) all ((is.held v).0 of_group))
        | inr of_named ↦ inl (tested.0 of_named)
      ]),
      λ some. elim some [
        | inl of_named ↦ or_right (is_among cover.held v) (list_any test named) (tested.1 of_named)
        | inr of_group ↦ or_left (is_among cover.held v) (list_any test named) ((is.held v).1 (any-more Has HasBoth
            (λ m h. (h.0, from-any v (non_packages layout m) (holds-is layout m v none ∙ any-from v m h.1))) all of_group))
      ],
    )

-- ---- pairs

both-told : {P Q : Type 0} → IsTold P → IsTold Q → IsTold (P × Q)
both-told (inl p) (inl q) = inl (p, q)
both-told (inl p) (inr q) = inr (λ h. q h.1)
both-told (inr p) told = inr (λ h. p h.0)

-- an installation that does not use the cluster, where not all of them do
unused-some : (layout : LayoutView) (before : List CertRecord) (w : WindowView) (variable : ℕ) (named : List ℕ) → AreMembers before w named
    → 0 < length named → (cover : CoverView) → IsCoverOf layout (installations (group before)) variable cover → (c : ℕ)
    → is_used layout w cover named c ≡ false
    → SomeInstallation before named variable (λ members. is_among (used layout members) c ≡ false)
unused-some layout before w variable named are some cover is c unused =
    let all = installations (group before) in
    elim (any-told (λ number. is_among (used layout (installation_at before number)) c ≡ false)
    (λ number. bool-told (is_among (used layout (installation_at before number)) c) false) named) [
      | inl of_named ↦ inl of_named
      | inr no_named ↦ elim (any-told (λ m. Contains m variable × (is_among (used layout m) c ≡ false))
          (λ m. both-told (number-told m variable) (bool-told (is_among (used layout m) c) false)) all) [
            | inl of_group ↦ inr of_group
            | inr no_group ↦ absurd (false≢true (sym unused ∙ (used-is layout before w variable named are some cover is c).1 (
              all-contained (λ number. is_among (used layout (installation_at before number)) c ≡ true) named
                  (λ number there. yes-from (is_among (used layout (installation_at before number)) c) (λ no. no_named
                  (any-contained (λ n. is_among (used layout (installation_at before n)) c ≡ false) named number there no))),
              all-contained (λ m. Contains m variable → Contains (used layout m) c) all
                  (λ m there has. from-any c (used layout m) (yes-from (is_among (used layout m) c) (λ no. no_group
                  (any-contained (λ n. Contains n variable × (is_among (used layout n) c ≡ false)) all m there (has, no))))),
            )))
          ]
    ]
  where
    yes-from : (b : Bool) → ¬ (b ≡ false) → b ≡ true
    yes-from true never = refl
    yes-from false never = absurd (never refl)

covered-is : (matter : Matter) (layout : LayoutView) (before : List CertRecord) (w : WindowView) (kept : GroupView) (p : ℕ) (named : List ℕ)
    → IsChallenge matter layout before w kept p named → AreMembers before w named → (pair : ℕ × ℕ) → IsPair matter pair
    → (is_covered layout w kept.cover named pair ≡ true) ↔ IsCovered matter before p named pair
covered-is matter layout before w kept p named x are pair valid =
    let variable : ℕ = matter.present p in
    let c : ℕ = pair.0 in
    let v : ℕ = matter.at pair.0 pair.1 in
    let same : at_class layout pair ≡ v = x.lays.at_is pair valid in
    let is_c : IsCluster matter c = valid.0 in
    let all = installations (group before) in
    let uses : Bool = is_used layout w kept.cover named c in
    let holds : Bool = is_held layout w kept.cover named (at_class layout pair) in
    let held = held-is layout before w variable named are kept.cover x.cover v (x.lays.no_package pair valid) in
    let same_held : holds ≡ is_held layout w kept.cover named v = ap (λ (n : ℕ). is_held layout w kept.cover named n) same in
    let used_all = used-is layout before w variable named are x.some kept.cover x.cover c in
    let IsFree : List ℕ → Type 0 = λ m. is_among (used layout m) c ≡ false in
    let free : (m : List ℕ) → IsFree m → Covers matter pair m = λ m no. inl (none-from matter layout x.lays c is_c m no) in
    let unused : uses ≡ false → not uses ≡ true = λ no. not_from_false uses no in (
      (λ e. elim (or_cases (not uses) holds e) [
        | inl no_use ↦ elim (unused-some layout before w variable named are x.some kept.cover x.cover c (not-true uses no_use)) [
          | inl of_named ↦ inl (any-more (λ number. IsFree (installation_at before number)) (λ number. Covers matter pair (installation_at before number))
              (λ number no. free (installation_at before number) no) named of_named)
          | inr of_group ↦ inr (any-more (λ m. Contains m variable × IsFree m) (λ m. Contains m variable × Covers matter pair m)
              (λ m h. (h.0, free m h.1)) all of_group)
        ]
        | inr hold ↦ elim (held.0 (sym same_held ∙ hold)) [
          | inl of_named ↦ inl (any-more (λ number. Contains (installation_at before number) v) (λ number. Covers matter pair (installation_at before number))
              (λ number has. inr has) named of_named)
          | inr of_group ↦ inr (any-more (λ m. Contains m variable × Contains m v) (λ m. Contains m variable × Covers matter pair m)
              (λ m h. (h.0, inr h.1)) all of_group)
        ]
      ]),
      λ some. elim some [
        | inl of_named ↦ elim of_named.4 [
          | inl none ↦ or_left (not uses) holds (unused (false_from_ne_true uses (λ yes. false≢true
              (sym (from-none matter layout x.lays c is_c (installation_at before of_named.1) none)
              ∙ All-contains (λ n. is_among (used layout (installation_at before n)) c ≡ true) named of_named.1 (used_all.0 yes).0
              (of_named.0, of_named.2, of_named.3)))))
          | inr has ↦ or_right (not uses) holds (same_held ∙ held.1 (inl (of_named.0, of_named.1, of_named.2, of_named.3, has)))
        ]
        | inr of_group ↦ elim of_group.4.1 [
          | inl none ↦ or_left (not uses) holds (unused (false_from_ne_true uses (λ yes. false≢true
              (sym (from-none matter layout x.lays c is_c of_group.1 none)
              ∙ any-from c (used layout of_group.1) (All-contains (λ m. Contains m variable → Contains (used layout m) c) all of_group.1 (used_all.0 yes).1
              (of_group.0, of_group.2, of_group.3) of_group.4.0)))))
          | inr has ↦ or_right (not uses) holds (same_held ∙ held.1
              (inr (of_group.0, of_group.1, of_group.2, of_group.3, (of_group.4.0, has))))
        ]
      ],
    )

-- a pair of another cluster than the package's
pair-is : (matter : Matter) (layout : LayoutView) (p : ℕ) → LaysOut matter layout → 1 ≤ p → p ≤ matter.packages → (pair : ℕ × ℕ)
    → (is_pair_for layout (matter.present p) pair ≡ true) ↔ IsPairFor matter p pair
pair-is matter layout p lays from upto pair =
    let variable : ℕ = matter.present p in
    let a : Bool = nat_le 1 pair.0 in
    let b : Bool = nat_le pair.0 (length layout.classes) in
    let d : Bool = nat_le 1 pair.1 in
    let e : Bool = nat_le pair.1 (length (classes_of layout pair.0)) in
    let f : Bool = not (pair.0 == cluster_of layout variable) in (
      (λ yes.
          let last = and_parts (a && b && d && e) f yes in
          let four = and_parts (a && b && d) e last.0 in
          let three = and_parts (a && b) d four.0 in
          let two = and_parts a b three.0 in
          let low = leb-true 1 pair.0 two.0 in
          let high = leb-true pair.0 (length layout.classes) two.1 in
          let is : IsCluster matter pair.0 = (low, omega (arith, high, lays.clusters)) in
          let class = leb-true pair.1 (length (classes_of layout pair.0)) four.1 in (
            low,
            is.1,
            leb-true 1 pair.1 three.1,
            omega (arith, class, lays.classes pair.0 is),
            (λ there. eqb-false pair.0 (cluster_of layout variable) (not-true (pair.0 == cluster_of layout variable) last.1)
                (sym ((lays.own p pair.0 from upto is).1 there))),
          )),
      λ h.
          let is : IsCluster matter pair.0 = (h.0, h.1) in
          and_from (a && b && d && e) f
          (and_from (a && b && d) e
          (and_from (a && b) d
          (and_from a b (le-leb 1 pair.0 h.0) (le-leb pair.0 (length layout.classes) (omega (arith, h.1, lays.clusters))))
          (le-leb 1 pair.1 h.2))
          (le-leb pair.1 (length (classes_of layout pair.0)) (omega (arith, h.3, lays.classes pair.0 is))))
          (not_from_false (pair.0 == cluster_of layout variable)
          (ne_eqb pair.0 (cluster_of layout variable) (λ same. h.4 ((lays.own p pair.0 from upto is).0 (sym same))))),
    )

pair-valid : (matter : Matter) (p : ℕ) (pair : ℕ × ℕ) → IsPairFor matter p pair → IsPair matter pair
pair-valid matter p pair h = ((h.0, h.1), h.2, h.3)

-- the variable of a pair is listed where the pair is
listed-is : (matter : Matter) (layout : LayoutView) → LaysOut matter layout → (pairs : List (ℕ × ℕ)) → All (IsPair matter) pairs
    → (pair : ℕ × ℕ) → IsPair matter pair
    → (is_listed layout pairs pair ≡ true) ↔ Contains pairs pair
listed-is matter layout lays [] valid pair is = ((λ e. absurd (false≢true e)), λ there. absurd (omega (arith, there.1)))
listed-is matter layout lays (first ∷ pairs) valid pair is =
    let rest = listed-is matter layout lays pairs (All-tail (IsPair matter) first pairs valid) pair is in
    let valid_first = All-head (IsPair matter) first pairs valid in
    let here : Bool = at_class layout pair == at_class layout first in (
      (λ e. elim (or_cases here (is_listed layout pairs pair) e) [
        | inl same ↦
            let equal = lays.apart first pair valid_first is (sym (lays.at_is first valid_first)
            ∙ sym (eqb-true (at_class layout pair) (at_class layout first) same) ∙ lays.at_is pair is) in
            (0, omega arith, equal)
        | inr later ↦ contains-later first pairs pair (rest.0 later)
      ]),
      λ there. elim (cases first pairs there) [
        | inl same ↦ or_left here (is_listed layout pairs pair)
            (eq-eqb (at_class layout pair) (at_class layout first) (ap (λ (q : ℕ × ℕ). at_class layout q) (sym same)))
        | inr later ↦ or_right here (is_listed layout pairs pair) (rest.1 later)
      ],
    )
  where
    cases : (y : ℕ × ℕ) (ys : List (ℕ × ℕ)) → Contains (y ∷ ys) pair → (y ≡ pair) ⊎ Contains ys pair
    cases y ys there = contains-cases y ys pair there

-- ---- tests of all or some pairs

all-pairs : (test : ℕ × ℕ → Bool) (P : ℕ × ℕ → Type 0) (pairs : List (ℕ × ℕ)) → ((pair : ℕ × ℕ) → Contains pairs pair → (test pair ≡ true) ↔ P pair)
    → (list_all test pairs ≡ true) ↔ All P pairs
all-pairs test P [] tests = ((λ e. All-nil P), λ all. refl)
all-pairs test P (pair ∷ pairs) tests =
    let rest = all-pairs test P pairs (λ q there. tests q (contains-later pair pairs q there)) in
    let here = tests pair (0, omega arith, refl) in (
      (λ e. let parts = and_parts (test pair) (list_all test pairs) e in All-cons P pair pairs (here.0 parts.0) (rest.0 parts.1)),
      λ all. and_from (test pair) (list_all test pairs) (here.1 (All-head P pair pairs all)) (rest.1 (All-tail P pair pairs all)),
    )

none-pairs : (test : ℕ × ℕ → Bool) (P : ℕ × ℕ → Type 0) (pairs : List (ℕ × ℕ)) → ((pair : ℕ × ℕ) → Contains pairs pair → (test pair ≡ true) ↔ P pair)
    → (list_any test pairs ≡ false) ↔ All (λ pair. ¬ P pair) pairs
none-pairs test P pairs tests = (
  (λ e. all-contained (λ pair. ¬ P pair) pairs (λ pair there holds. false≢true
      (sym e ∙ list_any-from_Any test pairs (there.0, pair, there.1, there.2, (tests pair there).1 holds)))),
  λ all. false_from_ne_true (list_any test pairs) (λ e.
      let any = Any-from_list_any test pairs e in
      let there : Contains pairs any.1 = (any.0, any.2, any.3) in
      All-contains (λ pair. ¬ P pair) pairs any.1 all there ((tests any.1 there).0 any.4)),
)

-- ---- the rules

for-pairs : (matter : Matter) (layout : LayoutView) (before : List CertRecord) (w : WindowView) (kept : GroupView) (p : ℕ) (named : List ℕ)
    → IsChallenge matter layout before w kept p named → (pairs : List (ℕ × ℕ))
    → (list_all (is_pair_for layout (matter.present p)) pairs ≡ true) ↔ All (IsPairFor matter p) pairs
for-pairs matter layout before w kept p named x pairs =
    all-pairs (is_pair_for layout (matter.present p)) (IsPairFor matter p) pairs (λ pair there. pair-is matter layout p x.lays x.from_one x.upto pair)

valid-pairs : (matter : Matter) (p : ℕ) (pairs : List (ℕ × ℕ)) → All (IsPairFor matter p) pairs → All (IsPair matter) pairs
valid-pairs matter p pairs all = λ k d within. pair-valid matter p (get_or pairs k d) (all k d within)

apart-is : (matter : Matter) (layout : LayoutView) → LaysOut matter layout → (by undecided : List (ℕ × ℕ)) → All (IsPair matter) by
    → All (IsPair matter) undecided
    → (list_any (is_listed layout undecided) by ≡ false) ↔ All (λ pair. ¬ Contains undecided pair) by
apart-is matter layout lays by undecided valid undecided_valid =
    none-pairs (is_listed layout undecided) (λ pair. Contains undecided pair) by
    (λ pair there. listed-is matter layout lays undecided undecided_valid pair (All-contains (IsPair matter) by pair valid there))

refuted-is : (matter : Matter) (layout : LayoutView) (before : List CertRecord) (w : WindowView) (kept : GroupView) (p : ℕ) (named : List ℕ)
    → IsChallenge matter layout before w kept p named → (pairs : List (ℕ × ℕ)) → All (IsPair matter) pairs
    → (list_all (λ pair. is_among kept.refuted.together (at_class layout pair)) pairs ≡ true)
    ↔ All (λ pair. IsRefutedIn (group before) (challenge_question matter p pair)) pairs
refuted-is matter layout before w kept p named x pairs valid =
    all-pairs (λ pair. is_among kept.refuted.together (at_class layout pair)) (λ pair. IsRefutedIn (group before) (challenge_question matter p pair)) pairs
    (λ pair there. subst (λ n. (is_among kept.refuted.together n ≡ true) ↔ IsRefutedIn (group before) (challenge_question matter p pair))
    (sym (x.lays.at_is pair (All-contains (IsPair matter) pairs pair valid there))) (x.refuted (matter.at pair.0 pair.1)))

undecided-is : (matter : Matter) (layout : LayoutView) (before : List CertRecord) (w : WindowView) (kept : GroupView) (p : ℕ) (named : List ℕ)
    → IsChallenge matter layout before w kept p named → (pairs : List (ℕ × ℕ)) → All (IsPair matter) pairs
    → (list_all (λ pair. is_among kept.undecided.together (at_class layout pair)) pairs ≡ true)
    ↔ All (λ pair. IsUndecidedIn (group before) (challenge_question matter p pair)) pairs
undecided-is matter layout before w kept p named x pairs valid =
    all-pairs (λ pair. is_among kept.undecided.together (at_class layout pair)) (λ pair. IsUndecidedIn (group before) (challenge_question matter p pair)) pairs
    (λ pair there. subst (λ n. (is_among kept.undecided.together n ≡ true) ↔ IsUndecidedIn (group before) (challenge_question matter p pair))
    (sym (x.lays.at_is pair (All-contains (IsPair matter) pairs pair valid there))) (x.undecided (matter.at pair.0 pair.1)))

uncovered-is : (matter : Matter) (layout : LayoutView) (before : List CertRecord) (w : WindowView) (kept : GroupView) (p : ℕ) (named : List ℕ)
    → IsChallenge matter layout before w kept p named → AreMembers before w named → (pairs : List (ℕ × ℕ)) → All (IsPair matter) pairs
    → (list_any (is_covered layout w kept.cover named) pairs ≡ false) ↔ All (λ pair. ¬ IsCovered matter before p named pair) pairs
uncovered-is matter layout before w kept p named x are pairs valid =
    none-pairs (is_covered layout w kept.cover named) (λ pair. IsCovered matter before p named pair) pairs
    (λ pair there. covered-is matter layout before w kept p named x are pair (All-contains (IsPair matter) pairs pair valid there))

pub holds-from : (matter : Matter) (layout : LayoutView) (before : List CertRecord) (w : WindowView) (kept : GroupView) (p : ℕ) (named : List ℕ)
    (by undecided : List (ℕ × ℕ)) → IsChallenge matter layout before w kept p named
    → PassesChallenge layout w kept (matter.present p) named by undecided → HoldsChallenged matter before p named by undecided
holds-from matter layout before w kept p named by undecided x passes =
    let variable : ℕ = matter.present p in
    let names = (names-are matter layout before w kept p named x variable).0 passes.lists.names in
    let are = members-are matter layout before w kept p named x variable names in
    let for_by = (for-pairs matter layout before w kept p named x by).0 passes.lists.pairs in
    let for_undecided = (for-pairs matter layout before w kept p named x undecided).0 passes.lists.undecided_pairs in
    let valid = valid-pairs matter p by for_by in
    let undecided_valid = valid-pairs matter p undecided for_undecided in
    let closed = (undecided-is matter layout before w kept p named x undecided undecided_valid).0 passes.lists.open_still in
    let uncovered = (uncovered-is matter layout before w kept p named x are undecided undecided_valid).0 passes.uncovered in
    record {
      names = names;
      today = (held-is layout before w variable named are kept.cover x.cover 1 x.lays.today).0 passes.lists.today;
      rising = (passes.lists.rising, passes.lists.undecided_rising);
      apart = (apart-is matter layout x.lays by undecided valid undecided_valid).0 passes.lists.apart;
      pairs = All-append (IsPairFor matter p) by undecided for_by for_undecided;
      refuted = (refuted-is matter layout before w kept p named x by valid).0 passes.lists.refuted;
      open_still = λ k d within. (closed k d within, uncovered k d within);
    }

front-pairs : (matter : Matter) (p : ℕ) (by undecided : List (ℕ × ℕ)) → All (IsPairFor matter p) (by ++ undecided) → All (IsPairFor matter p) by
front-pairs matter p by undecided all = all-contained (IsPairFor matter p) by
    (λ pair there. All-contains (IsPairFor matter p) (by ++ undecided) pair all (Contains-append_left by undecided pair there))

back-pairs : (matter : Matter) (p : ℕ) (by undecided : List (ℕ × ℕ)) → All (IsPairFor matter p) (by ++ undecided) → All (IsPairFor matter p) undecided
back-pairs matter p by undecided all = all-contained (IsPairFor matter p) undecided
    (λ pair there. All-contains (IsPairFor matter p) (by ++ undecided) pair all (Contains-append_right by undecided pair there))

pub passes-from : (matter : Matter) (layout : LayoutView) (before : List CertRecord) (w : WindowView) (kept : GroupView) (p : ℕ) (named : List ℕ)
    (by undecided : List (ℕ × ℕ)) → IsChallenge matter layout before w kept p named
    → HoldsChallenged matter before p named by undecided → PassesChallenge layout w kept (matter.present p) named by undecided
passes-from matter layout before w kept p named by undecided x holds =
    let variable : ℕ = matter.present p in
    let are = members-are matter layout before w kept p named x variable holds.names in
    let for_by = front-pairs matter p by undecided holds.pairs in
    let for_undecided = back-pairs matter p by undecided holds.pairs in
    let valid = valid-pairs matter p by for_by in
    let undecided_valid = valid-pairs matter p undecided for_undecided in
    record {
      lists = record {
        names = (names-are matter layout before w kept p named x variable).1 holds.names;
        today = (held-is layout before w variable named are kept.cover x.cover 1 x.lays.today).1 holds.today;
        rising = holds.rising.0;
        undecided_rising = holds.rising.1;
        apart = (apart-is matter layout x.lays by undecided valid undecided_valid).1 holds.apart;
        pairs = (for-pairs matter layout before w kept p named x by).1 for_by;
        undecided_pairs = (for-pairs matter layout before w kept p named x undecided).1 for_undecided;
        refuted = (refuted-is matter layout before w kept p named x by valid).1 holds.refuted;
        open_still = (undecided-is matter layout before w kept p named x undecided undecided_valid).1
            (λ k d within. (holds.open_still k d within).0);
      };
      uncovered = (uncovered-is matter layout before w kept p named x are undecided undecided_valid).1
          (λ k d within. (holds.open_still k d within).1);
    }

-- ---- what is left out

pub omits-is : (matter : Matter) (layout : LayoutView) (before : List CertRecord) (w : WindowView) (kept : GroupView) (p : ℕ) (named : List ℕ)
    (by undecided : List (ℕ × ℕ)) → IsChallenge matter layout before w kept p named → HoldsChallenged matter before p named by undecided
    → OmitsPair layout w kept (matter.present p) named by undecided ↔ Omits matter before p named (by ++ undecided)
omits-is matter layout before w kept p named by undecided x holds =
    let variable : ℕ = matter.present p in
    let are = members-are matter layout before w kept p named x variable holds.names in
    let valid = valid-pairs matter p by (front-pairs matter p by undecided holds.pairs) in
    let undecided_valid = valid-pairs matter p undecided (back-pairs matter p by undecided holds.pairs) in (
      (λ omits.
          let pair : ℕ × ℕ = omits.pair in
          let is = (pair-is matter layout p x.lays x.from_one x.upto pair).0 omits.is_pair in
          let pair_valid = pair-valid matter p pair is in (
            pair,
            is,
            (λ there. elim (Contains-append_cases by undecided pair there) [
              | inl listed ↦ true≢false (sym ((listed-is matter layout x.lays by valid pair pair_valid).1 listed) ∙ omits.unlisted)
              | inr listed ↦ true≢false (sym ((listed-is matter layout x.lays undecided undecided_valid pair pair_valid).1 listed) ∙ omits.decided)
            ]),
            (λ covered. true≢false (sym ((covered-is matter layout before w kept p named x are pair pair_valid).1 covered) ∙ omits.uncovered)),
          )),
      λ omits.
          let pair : ℕ × ℕ = omits.0 in
          let pair_valid = pair-valid matter p pair omits.1 in record {
            pair = pair;
            is_pair = (pair-is matter layout p x.lays x.from_one x.upto pair).1 omits.1;
            unlisted = false_from_ne_true (is_listed layout by pair)
                (λ e. omits.2 (Contains-append_left by undecided pair ((listed-is matter layout x.lays by valid pair pair_valid).0 e)));
            decided = false_from_ne_true (is_listed layout undecided pair)
                (λ e. omits.2 (Contains-append_right by undecided pair ((listed-is matter layout x.lays undecided undecided_valid pair pair_valid).0 e)));
            uncovered = false_from_ne_true (is_covered layout w kept.cover named pair)
                (λ e. omits.3 ((covered-is matter layout before w kept p named x are pair pair_valid).0 e));
          },
    )

-- ---- what is told

-- the first fault by the rules of challenges, or none
abbrev pub IsFirstByRules : Matter → List CertRecord → ℕ → List ℕ → List (ℕ × ℕ) → List (ℕ × ℕ) → Option CertCause → Type 0
IsFirstByRules matter before p named by undecided None = HoldsChallenged matter before p named by undecided
    × (¬ Omits matter before p named (by ++ undecided))
IsFirstByRules matter before p named by undecided (Some causes.WrongClaim) = ¬ HoldsChallenged matter before p named by undecided
IsFirstByRules matter before p named by undecided (Some causes.Incomplete) = HoldsChallenged matter before p named by undecided
    × Omits matter before p named (by ++ undecided)
IsFirstByRules matter before p named by undecided (Some cause) = ⊥

pub challenge-told : (matter : Matter) (layout : LayoutView) (before : List CertRecord) (w : WindowView) (kept : GroupView) (p : ℕ) (named : List ℕ)
    (by undecided : List (ℕ × ℕ)) → IsChallenge matter layout before w kept p named → (found : Option CertCause)
    → TellsChallenge layout w kept (matter.present p) named by undecided found → IsFirstByRules matter before p named by undecided found
challenge-told matter layout before w kept p named by undecided x None told =
    let holds = holds-from matter layout before w kept p named by undecided x told.0 in
    (holds, λ omits. told.1 ((omits-is matter layout before w kept p named by undecided x holds).1 omits))
challenge-told matter layout before w kept p named by undecided x (Some causes.WrongClaim) told = λ holds.
    told (passes-from matter layout before w kept p named by undecided x holds)
challenge-told matter layout before w kept p named by undecided x (Some causes.Incomplete) told =
    let holds = holds-from matter layout before w kept p named by undecided x told.0 in
    (holds, (omits-is matter layout before w kept p named by undecided x holds).0 told.1)
challenge-told matter layout before w kept p named by undecided x (Some cause) told = absurd told
