-- What is noted of claims, and what it says of packages that are broken.
use Rattle.std.proofs.Common.{◌≡◌, ◌⊎◌, ◌↔◌, ℕ, zero, suc, ◌+◌, ◌<◌, ◌≤◌, List, [], ◌∷◌, ◌++◌, Option, Some, length, slice_get, refl, sym, ap, subst}
use Rattle.std.proofs.Common.{◌∙◌, inl, inr, arith}
use Rattle.std.specs.Prelude.{Contains, IsSomeAnd}
use Rattle.std.proofs.lemmas.Bool.{cases_eq}
use Rattle.std.proofs.lemmas.Option.{slice_get_within}
use Rattle.dist_base.specs.ListLaws.{at-has, contains-at, has-at, here-at, place-of, within-from}
use Rattle.dist_version.specs.Order.{version_cmp}
use Rattle.std.specs.declared.cmp.Ordering.TheVariants.{Equal}
use Rattle.dist_repo.specs.PackageList.{IsPackageAnd}
use Rattle.dist_classes.specs.ClassList.{IsOfClass, IsOfClassAt}
use Rattle.dist_classes.specs.VersionOrderLaws.{alike-left, alike-right}
use Rattle.dist_classes.specs.declared.class_value.Class.{Class}
use Rattle.dist_classes.specs.declared.class_value.Class.TheVariants.{Point, Between, Above, Below, Any}
use Rattle.dist_archive.specs.Archive.{ArchiveView}
use Rattle.dist_cert.specs.declared.records.Claim.{Claim}
use Rattle.dist_cert.specs.declared.records.Claim.TheVariants.{Uninstallable, Unknown, Strong, Outdated, Alive, Challenged}
use Rattle.dist_journal.specs.BreakingPrivate.{AreMoved, AreNoted, IsMovedAt, IsNoted, IsNotedPair, IsNotedUpTo}
use Rattle.dist_journal.specs.Broken.{IsBroken, IsMovedInto, Lists}
use Rattle.dist_journal.specs.PairsPrivate.{Adds, pair_of}
use Rattle.dist_journal.specs.declared.broken_list.Broken.{Broken}

-- ---- classes

class-like : (class : Class) (v w : List ℕ) → version_cmp v w ≡ Equal → IsOfClass class v → IsOfClass class w
class-like (Point c) v w same of = sym (alike-left v w c same) ∙ of
class-like (Between a b) v w same of = (sym (alike-right v w a same) ∙ of.0, sym (alike-left v w b same) ∙ of.1)
class-like (Above a) v w same of = sym (alike-right v w a same) ∙ of
class-like (Below b) v w same of = sym (alike-left v w b same) ∙ of
class-like Any v w same of = tt

-- versions that are equal are of the same classes
pub class-at-like : (classes : List Class) (number : ℕ) (v w : List ℕ) → version_cmp v w ≡ Equal → IsOfClassAt classes number v
    → IsOfClassAt classes number w
class-at-like classes number v w same of =
    let at = here-at (λ (class : Class). IsOfClass class v) classes number of in
    at-has (λ (class : Class). IsOfClass class w) classes number at.element at.is (class-like at.element v w same at.holds)

-- ---- sets of pairs

pub adds-none : (old : List (ℕ × ℕ)) (P : ℕ × ℕ → Type 0) → ((pair : ℕ × ℕ) → ¬ P pair) → Adds old old P
adds-none old P none pair = ((λ there. inl there), λ either. elim either [ inl there ↦ there | inr is ↦ absurd (none pair is) ])

pub adds-same : (old new : List (ℕ × ℕ)) (P Q : ℕ × ℕ → Type 0) → ((pair : ℕ × ℕ) → P pair ↔ Q pair) → Adds old new P → Adds old new Q
adds-same old new P Q same adds pair = (
  (λ there. elim ((adds pair).0 there) [ inl before ↦ inl before | inr is ↦ inr ((same pair).0 is) ]),
  λ either. elim either [ inl before ↦ (adds pair).1 (inl before) | inr is ↦ (adds pair).1 (inr ((same pair).1 is)) ],
)

module _ (moved : List (Option ℕ)) (number : ℕ) where
  pub pair-noted : (old new : List (ℕ × ℕ)) (pair : ℕ × ℕ) → IsMovedAt moved pair → Adds old new (λ noted. (pair.0, number) ≡ noted)
      → Adds old new (IsNotedPair moved number pair)
  pair-noted old new pair is adds =
      adds-same old new (λ noted. (pair.0, number) ≡ noted) (IsNotedPair moved number pair) (λ noted. ((λ same. (is, same)), λ both. both.1)) adds

  pub pair-passed : (old : List (ℕ × ℕ)) (pair : ℕ × ℕ) → ¬ IsMovedAt moved pair → Adds old old (IsNotedPair moved number pair)
  pair-passed old pair other = adds-none old (IsNotedPair moved number pair) (λ noted both. other both.0)

  module _ (pairs : List (ℕ × ℕ)) where
    pub none-noted : (old : List (ℕ × ℕ)) → Adds old old (IsNotedUpTo moved number pairs 0)
    none-noted old = adds-none old (IsNotedUpTo moved number pairs 0) (λ noted some. omega (arith, some.1))

    up-to-more : (place : ℕ) (pair noted : ℕ × ℕ) → slice_get pairs place ≡ Some pair
        → (IsNotedUpTo moved number pairs place noted ⊎ IsNotedPair moved number pair noted) ↔ IsNotedUpTo moved number pairs (place + 1) noted
    up-to-more place pair noted is = (
      (λ either. elim either [
        | inl some ↦ (some.0, omega (arith, some.1), some.2)
        | inr both ↦ (place, omega arith, at-has (λ (p : ℕ × ℕ). IsNotedPair moved number p noted) pairs place pair is both)
      ]),
      λ some. elim (cases_eq some.0 place) [
        | inl same ↦ inr (has-at (λ (p : ℕ × ℕ). IsNotedPair moved number p noted) pairs place pair is
            (subst (λ (k : ℕ). IsSomeAnd (slice_get pairs k) (λ (p : ℕ × ℕ). IsNotedPair moved number p noted)) same some.2))
        | inr other ↦ inl (some.0, omega (arith, some.1, other), some.2)
      ],
    )

    pub pairs-noted : (old middle new : List (ℕ × ℕ)) (place : ℕ) (pair : ℕ × ℕ) → slice_get pairs place ≡ Some pair
        → Adds old middle (IsNotedUpTo moved number pairs place) → Adds middle new (IsNotedPair moved number pair)
        → Adds old new (IsNotedUpTo moved number pairs (place + 1))
    pairs-noted old middle new place pair is first second =
        adds-same old new (λ noted. IsNotedUpTo moved number pairs place noted ⊎ IsNotedPair moved number pair noted)
        (IsNotedUpTo moved number pairs (place + 1)) (λ noted. up-to-more place pair noted is)
        (λ noted. (
          (λ there. elim ((second noted).0 there) [
            | inl before ↦ elim ((first noted).0 before) [ inl oldest ↦ inl oldest | inr some ↦ inr (inl some) ]
            | inr here ↦ inr (inr here)
          ]),
          λ either. elim either [
            | inl oldest ↦ (second noted).1 (inl ((first noted).1 (inl oldest)))
            | inr later ↦ elim later [
              | inl some ↦ (second noted).1 (inl ((first noted).1 (inr some)))
              | inr here ↦ (second noted).1 (inr here)
            ]
          ],
        ))

-- ---- one claim

listed-pair : (moved : List (Option ℕ)) (number : ℕ) (by : List (ℕ × ℕ)) (noted : ℕ × ℕ) → IsNotedUpTo moved number by (length by) noted
    ↔ ((noted.1 ≡ number) × ((class : ℕ) × IsMovedAt moved (noted.0, class) × Contains by (noted.0, class)))
listed-pair moved number by noted = (
  (λ some.
      let at = here-at (λ (pair : ℕ × ℕ). IsNotedPair moved number pair noted) by some.0 some.2 in
      let pair = at.element in
      let cluster : pair.0 ≡ noted.0 = ap (λ (p : ℕ × ℕ). p.0) at.holds.1 in (
        sym (ap (λ (p : ℕ × ℕ). p.1) at.holds.1),
        (
          pair.1,
          subst (λ (n : ℕ). IsMovedAt moved (n, pair.1)) cluster at.holds.0,
          subst (λ (n : ℕ). Contains by (n, pair.1)) cluster (contains-at by some.0 pair at.is),
        ),
      )),
  λ both.
      let class : ℕ = both.1.0 in
      let at = place-of by (noted.0, class) both.1.2 in (
        at.place,
        slice_get_within by at.place (noted.0, class) at.is,
        at-has (λ (pair : ℕ × ℕ). IsNotedPair moved number pair noted) by at.place (noted.0, class) at.is
            (both.1.1, ap (λ (n : ℕ). (noted.0, n)) (sym both.0)),
      ),
)

module _ (v : ArchiveView) (moved : List (Option ℕ)) (number : ℕ) where
  pub claim-noted : (old new by undecided : List (ℕ × ℕ)) → IsPackageAnd v.space.repository.packages number (Contains v.packages)
      → Adds old new (IsNotedUpTo moved number by (length by)) → Adds old new (IsNoted v moved number (Challenged by undecided))
  claim-noted old new by undecided held adds =
      adds-same old new (IsNotedUpTo moved number by (length by)) (IsNoted v moved number (Challenged by undecided))
      (λ noted. (
        (λ some. let both = (listed-pair moved number by noted).0 some in (both.0, held, both.1)),
        λ is. (listed-pair moved number by noted).1 (is.0, is.2),
      )) adds

  pub claim-passed : (old : List (ℕ × ℕ)) (claim : Claim) → ¬ IsPackageAnd v.space.repository.packages number (Contains v.packages)
      → Adds old old (IsNoted v moved number claim)
  claim-passed old claim gone = adds-none old (IsNoted v moved number claim) (λ noted is. gone is.1)

  -- a claim of another form lists no pair
  pub other-claim : (old : List (ℕ × ℕ)) (claim : Claim) → ((cluster class : ℕ) → ¬ Lists claim cluster class) → Adds old old (IsNoted v moved number claim)
  other-claim old claim none = adds-none old (IsNoted v moved number claim) (λ noted is. none noted.0 is.2.0 is.2.2)

-- ---- all claims

module _ (v : ArchiveView) (moved : List (Option ℕ)) (made : List Claim) where
  pub noted-none : AreNoted v moved made 0 []
  noted-none pair = ((λ there. absurd (omega (arith, there.1))), λ is. absurd (omega (arith, is.0)))

  pub noted-more : (number : ℕ) (claim : Claim) (old new : List (ℕ × ℕ)) → slice_get made number ≡ Some claim → AreNoted v moved made number old
      → Adds old new (IsNoted v moved number claim) → AreNoted v moved made (number + 1) new
  noted-more number claim old new is first adds pair = (
    (λ there. elim ((adds pair).0 there) [
      | inl before ↦ let earlier = (first pair).0 before in (omega (arith, earlier.0), earlier.1)
      | inr here ↦ (
        omega (arith, here.0),
        subst (λ (k : ℕ). IsSomeAnd (slice_get made k) (λ (c : Claim). IsNoted v moved k c pair)) (sym here.0)
            (at-has (λ (c : Claim). IsNoted v moved number c pair) made number claim is here),
      )
    ]),
    λ both. elim (cases_eq pair.1 number) [
      | inl same ↦ (adds pair).1 (inr (has-at (λ (c : Claim). IsNoted v moved number c pair) made number claim is
          (subst (λ (k : ℕ). IsSomeAnd (slice_get made k) (λ (c : Claim). IsNoted v moved k c pair)) same both.1)))
      | inr other ↦ (adds pair).1 (inl ((first pair).1 (omega (arith, both.0, other), both.1)))
    ],
  )

  pub noted-broken : (number : ℕ) (noted : List (ℕ × ℕ)) (b : Broken) → length made ≤ number → AreMoved v moved → AreNoted v moved made number noted
      → Contains noted (pair_of b) ↔ IsBroken v.space v.packages made b
  noted-broken number noted b past are_moved all = (
    (λ there.
        let both = (all (pair_of b)).0 there in
        let at = here-at (λ (c : Claim). IsNoted v moved b.package_ c (pair_of b)) made b.package_ both.1 in
        let class : ℕ = at.holds.2.0 in
        record {
          held = at.holds.1;
          class = class;
          moved = (are_moved b.cluster class).0 at.holds.2.1;
          listed = at-has (λ (c : Claim). Lists c b.cluster class) made b.package_ at.element at.is at.holds.2.2;
        }),
    λ broken.
        let at = here-at (λ (c : Claim). Lists c b.cluster broken.class) made b.package_ broken.listed in
        (all (pair_of b)).1 (
          (let short = slice_get_within made b.package_ at.element at.is in omega (arith, short, past)),
          at-has (λ (c : Claim). IsNoted v moved b.package_ c (pair_of b)) made b.package_ at.element at.is
              (refl, broken.held, (broken.class, (are_moved b.cluster broken.class).1 broken.moved, at.holds)),
        ),
  )

-- a claim of another form lists nothing
pub lists-none : (claim : Claim) → ((by undecided : List (ℕ × ℕ)) → claim ≡ Challenged by undecided → ⊥) → (cluster class : ℕ)
    → ¬ Lists claim cluster class
lists-none (Challenged by undecided) other cluster class listed = other by undecided refl
lists-none Uninstallable other cluster class listed = listed
lists-none Unknown other cluster class listed = listed
lists-none (Strong on undecided) other cluster class listed = listed
lists-none Outdated other cluster class listed = listed
lists-none Alive other cluster class listed = listed

-- ---- the table of clusters

get-left : {X : Type 0} (xs : List X) (y : X) (k : ℕ) → k < length xs → slice_get (xs ++ y ∷ []) k ≡ slice_get xs k
get-left [] y k short = absurd (omega (arith, short))
get-left (x ∷ xs) y zero short = refl
get-left (x ∷ xs) y (suc k) short = get-left xs y k (omega (arith, short))

get-last : {X : Type 0} (xs : List X) (y : X) (k : ℕ) → k ≡ length xs → slice_get (xs ++ y ∷ []) k ≡ Some y
get-last [] y zero is = refl
get-last [] y (suc k) is = absurd (omega (arith, is))
get-last (x ∷ xs) y zero is = absurd (omega (arith, is))
get-last (x ∷ xs) y (suc k) is = get-last xs y k (omega (arith, is))

inner : (a b : Option ℕ) → ◌≡◌ {A = Option (Option ℕ)} (Some a) (Some b) → a ≡ b
inner a b same = cc

pub moved-push : (P : ℕ → ℕ → Type 0) (moved : List (Option ℕ)) (cluster : ℕ) (last : Option ℕ) → length moved ≡ cluster
    → ((k class : ℕ) → k < cluster → IsMovedAt moved (k, class) ↔ P k class) → ((class : ℕ) → (last ≡ Some class) ↔ P cluster class)
    → (k class : ℕ) → k < cluster + 1 → IsMovedAt (moved ++ last ∷ []) (k, class) ↔ P k class
moved-push P moved cluster last many each here k class short = elim (cases_eq k cluster) [
  | inl same ↦
      let at : slice_get (moved ++ last ∷ []) k ≡ Some last = get-last moved last k (omega (arith, same, many)) in (
        (λ is. subst (λ (n : ℕ). P n class) (sym same) ((here class).0 (inner last (Some class) (sym at ∙ is)))),
        λ holds. at ∙ ap (λ (o : Option ℕ). Some o) ((here class).1 (subst (λ (n : ℕ). P n class) same holds)),
      )
  | inr other ↦
      let before : k < cluster = omega (arith, short, other) in
      let at : slice_get (moved ++ last ∷ []) k ≡ slice_get moved k = get-left moved last k (omega (arith, before, many)) in (
        (λ is. (each k class before).0 (sym at ∙ is)),
        λ holds. at ∙ (each k class before).1 holds,
      )
]

pub all-moved : (v : ArchiveView) (moved : List (Option ℕ)) → length moved ≡ length v.space.clusters.members
    → ((k class : ℕ) → k < length v.space.clusters.members → IsMovedAt moved (k, class) ↔ IsMovedInto v.space v.packages k class) → AreMoved v moved
all-moved v moved many each cluster class = (
  (λ is. (each cluster class (let short = slice_get_within moved cluster (Some class) is in omega (arith, short, many))).0 is),
  λ into.
      let of = into.1.1 in
      (each cluster class (within-from (λ (l : List ℕ). Contains l of.member) v.space.clusters.members cluster of.in_cluster)).1 into,
)
