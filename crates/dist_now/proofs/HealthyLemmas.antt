-- An installation is healthy exactly where it has none of the four kinds of fault.
use Rattle.std.proofs.Common.{◌≡◌, ℕ, zero, suc, ◌<◌, Bool, true, false, cond, List, [], ◌∷◌, get_or, Some, None, Option, refl, subst, arith, inl, inr}
use Rattle.std.proofs.Common.{slice_get}
use Rattle.std.specs.Prelude.{All, AllPairs, Any, Contains, IsSomeAnd, filter, map}
use Rattle.std.proofs.lemmas.List.Elements.{All-cons, All-contains, All-map, All-nil, All-tail}
use Rattle.std.proofs.lemmas.List.Kept.{AllPairs-cons}
use Rattle.std.proofs.lemmas.Option.{slice_get-get_or}
use Rattle.dist_base.specs.Least.{IsNoPair}
use Rattle.dist_base.specs.ListLaws.{all-contained, at-has, contains-at, pairs-head, pairs-tail}
use Rattle.dist_repo.specs.Conflict.{AreInConflict}
use Rattle.dist_repo.specs.DecidedLaws.{any-decided, met-decided, text-decided}
use Rattle.dist_repo.specs.Healthy.{Healthy, IsMet, required_names}
use Rattle.dist_repo.specs.PackageList.{PackageList, IsPackageAnd}
use Rattle.dist_repo.specs.declared.package.Package.{Package}
use Rattle.dist_now.specs.Health.{AreMembers, AreTwoVersions, AreConflicting, IsUnmetAt, IsMissing}
use Rattle.dist_now.specs.Members.{members_of}

-- ---- lists

-- the element that has a property
pub record Found {X : Type 0} (P : X → Type 0) (o : Option X) : Type 0 where
  pub value : X
  pub is_value : o ≡ Some value
  pub holds : P value

pub found : {X : Type 0} (P : X → Type 0) (o : Option X) → IsSomeAnd o P → Found P o
found P None here = absurd here
found P (Some x) here = record { value = x; is_value = refl; holds = here }

pub all-at : {X : Type 0} (P : X → Type 0) (xs : List X) → All P xs → (k : ℕ) (x : X) → slice_get xs k ≡ Some x → P x
all-at P xs all k x is = All-contains P xs x all (contains-at xs k x is)

pub all-from : {X : Type 0} (P : X → Type 0) (xs : List X) → ((k : ℕ) (x : X) → slice_get xs k ≡ Some x → P x) → All P xs
all-from P xs each k d short = each k (get_or xs k d) (slice_get-get_or xs k d short)

pub pairs-none : {X : Type 0} (R : X → X → Type 0) → AllPairs R []
pairs-none R i j d in_order short = absurd (omega arith)

-- ---- the elements that pass a test

-- each element that passes has the property
abbrev pub EachPassed : {X : Type 0} → (X → Bool) → (X → Type 0) → List X → Type 0
EachPassed {X} test P xs = (k : ℕ) (x : X) → slice_get xs k ≡ Some x → test x ≡ true → P x

passed-more : {X : Type 0} (test : X → Bool) (P : X → Type 0) (x : X) (xs : List X) (answer : Bool) → test x ≡ answer → (test x ≡ true → P x)
    → All P (filter test xs) → All P (cond answer (x ∷ filter test xs) (filter test xs))
passed-more test P x xs true passes here later = All-cons P x (filter test xs) (here passes) later
passed-more test P x xs false fails here later = later

pub all-passed : {X : Type 0} (test : X → Bool) (P : X → Type 0) (xs : List X) → EachPassed test P xs → All P (filter test xs)
all-passed test P [] each = All-nil P
all-passed test P (x ∷ xs) each =
    passed-more test P x xs (test x) refl (each 0 x refl) (all-passed test P xs (λ k y is. each (suc k) y is))

passed-head : {X : Type 0} (test : X → Bool) (P : X → Type 0) (x : X) (xs : List X) (answer : Bool) → test x ≡ answer
    → All P (cond answer (x ∷ filter test xs) (filter test xs)) → test x ≡ true → P x
passed-head test P x xs true told all passes = all 0 x (omega arith)
passed-head test P x xs false told all passes = cc

passed-later : {X : Type 0} (test : X → Bool) (P : X → Type 0) (x : X) (xs : List X) (answer : Bool) → All P (cond answer (x ∷ filter test xs) (filter test xs))
    → All P (filter test xs)
passed-later test P x xs true all = All-tail P x (filter test xs) all
passed-later test P x xs false all = all

pub passed-at : {X : Type 0} (test : X → Bool) (P : X → Type 0) (xs : List X) → All P (filter test xs) → EachPassed test P xs
passed-at test P [] all k x is passes = cc
passed-at {X} test P (y ∷ ys) all zero x is passes =
    let same : y ≡ x = cc in
    let Q : X → Type 0 = λ z. test z ≡ true → P z in
    subst Q same (passed-head test P y ys (test y) refl all) passes
passed-at test P (y ∷ ys) all (suc k) x is passes =
    passed-at test P ys (passed-later test P y ys (test y) all) k x is passes

-- ---- members, by their numbers

-- the package of a number is a member
pub record IsMember (packages : List Package) (flags : List Bool) (number : ℕ) (p : Package) : Type 0 where
  pub member : slice_get flags number ≡ Some true
  pub there : slice_get packages number ≡ Some p

abbrev pub EachMember : (Package → Type 0) → List Package → List Bool → Type 0
EachMember P packages flags = (k : ℕ) (p : Package) → IsMember packages flags k p → P p

abbrev pub EachTwoMembers : (Package → Package → Type 0) → List Package → List Bool → Type 0
EachTwoMembers R packages flags = (i j : ℕ) (p q : Package) → i < j → IsMember packages flags i p → IsMember packages flags j q → R p q

pub all-members : (P : Package → Type 0) (packages : List Package) (flags : List Bool) → EachMember P packages flags → All P (members_of packages flags)
all-members P [] flags each = All-nil P
all-members P (p ∷ packages) [] each = All-nil P
all-members P (p ∷ packages) (true ∷ flags) each =
    All-cons P p (members_of packages flags) (each 0 p (record { member = refl; there = refl }))
    (all-members P packages flags (λ k q m. each (suc k) q (record { member = m.member; there = m.there })))
all-members P (p ∷ packages) (false ∷ flags) each =
    all-members P packages flags (λ k q m. each (suc k) q (record { member = m.member; there = m.there }))

pub each-member : (P : Package → Type 0) (packages : List Package) (flags : List Bool) → All P (members_of packages flags) → EachMember P packages flags
each-member P [] flags all k q m = let there = m.there in cc
each-member P (p ∷ packages) [] all k q m = let member = m.member in cc
each-member P (p ∷ packages) (true ∷ flags) all zero q m =
    let there : Some p ≡ Some q = m.there in let same : p ≡ q = cc in subst P same (all 0 p (omega arith))
each-member P (p ∷ packages) (false ∷ flags) all zero q m = let member : Some false ≡ Some true = m.member in cc
each-member P (p ∷ packages) (true ∷ flags) all (suc k) q m =
    each-member P packages flags (All-tail P p (members_of packages flags) all) k q (record { member = m.member; there = m.there })
each-member P (p ∷ packages) (false ∷ flags) all (suc k) q m =
    each-member P packages flags all k q (record { member = m.member; there = m.there })

pub all-two : (R : Package → Package → Type 0) (packages : List Package) (flags : List Bool) → EachTwoMembers R packages flags
    → AllPairs R (members_of packages flags)
all-two R [] flags each = pairs-none R
all-two R (p ∷ packages) [] each = pairs-none R
all-two R (p ∷ packages) (true ∷ flags) each =
    AllPairs-cons R p (members_of packages flags)
    (all-members (R p) packages flags
    (λ k q m. each 0 (suc k) p q (omega arith) (record { member = refl; there = refl }) (record { member = m.member; there = m.there })))
    (all-two R packages flags
    (λ i j q s in_order m n. each (suc i) (suc j) q s (omega arith) (record { member = m.member; there = m.there })
    (record { member = n.member; there = n.there })))
all-two R (p ∷ packages) (false ∷ flags) each =
    all-two R packages flags
    (λ i j q s in_order m n. each (suc i) (suc j) q s (omega arith) (record { member = m.member; there = m.there })
    (record { member = n.member; there = n.there }))

pub each-two : (R : Package → Package → Type 0) (packages : List Package) (flags : List Bool) → AllPairs R (members_of packages flags)
    → EachTwoMembers R packages flags
each-two R [] flags pairs i j p q in_order m n = let there = m.there in cc
each-two R (y ∷ packages) [] pairs i j p q in_order m n = let member = m.member in cc
each-two R (y ∷ packages) (b ∷ flags) pairs i zero p q in_order m n = absurd (omega arith)
each-two R (y ∷ packages) (true ∷ flags) pairs zero (suc j) p q in_order m n =
    let there : Some y ≡ Some p = m.there in let same : y ≡ p = cc in
    let first : Package → Type 0 = λ x. R x q in
    subst first same (each-member (R y) packages flags (all-contained (R y) (members_of packages flags) (pairs-head R y (members_of packages flags) pairs)) j q
    (record { member = n.member; there = n.there }))
each-two R (y ∷ packages) (false ∷ flags) pairs zero (suc j) p q in_order m n = let member : Some false ≡ Some true = m.member in cc
each-two R (y ∷ packages) (true ∷ flags) pairs (suc i) (suc j) p q in_order m n =
    each-two R packages flags (pairs-tail R y (members_of packages flags) pairs) i j p q (omega arith)
    (record { member = m.member; there = m.there }) (record { member = n.member; there = n.there })
each-two R (y ∷ packages) (false ∷ flags) pairs (suc i) (suc j) p q in_order m n =
    each-two R packages flags pairs i j p q (omega arith)
    (record { member = m.member; there = m.there }) (record { member = n.member; there = n.there })

-- ---- pairs of members in a relation

pub two-from : (r : PackageList) (flags : List Bool) (R : Package → Package → Type 0) → IsNoPair (AreMembers r flags R)
    → AllPairs (λ p q. ¬ R p q) (members_of r.packages flags)
two-from r flags R none = all-two (λ p q. ¬ R p q) r.packages flags
    (λ i j p q in_order m n related. none i j (record {
      in_order = in_order;
      second_member = n.member;
      related = record {
        member = m.member;
        has = at-has (λ x. IsPackageAnd r.packages j (R x)) r.packages i p m.there
            (at-has (R p) r.packages j q n.there related);
      };
    }))

pub no-two : (r : PackageList) (flags : List Bool) (R : Package → Package → Type 0) → AllPairs (λ p q. ¬ R p q) (members_of r.packages flags)
    → IsNoPair (AreMembers r flags R)
no-two r flags R pairs i j are =
    let first = found (λ x. IsPackageAnd r.packages j (R x)) (slice_get r.packages i) are.related.has in
    let second = found (R first.value) (slice_get r.packages j) first.holds in
    each-two (λ p q. ¬ R p q) r.packages flags pairs i j first.value second.value are.in_order
    (record { member = are.related.member; there = first.is_value }) (record { member = are.second_member; there = second.is_value }) second.holds

-- ---- dependencies

met-from : (r : PackageList) (flags : List Bool) → IsNoPair (IsUnmetAt r flags)
    → All (λ p. All (IsMet r.architecture (members_of r.packages flags)) p.depends) (members_of r.packages flags)
met-from r flags none = all-members (λ p. All (IsMet r.architecture (members_of r.packages flags)) p.depends) r.packages flags
    (λ n p m. all-from (IsMet r.architecture (members_of r.packages flags)) p.depends
    (λ k item is. elim (met-decided r.architecture (members_of r.packages flags) item) [
      | inl met ↦ met
      | inr unmet ↦ absurd (none n k (record {
        member = m.member;
        has = at-has (λ q. IsSomeAnd (slice_get q.depends k) (λ x. ¬ IsMet r.architecture (members_of r.packages flags) x)) r.packages n p m.there
            (at-has (λ x. ¬ IsMet r.architecture (members_of r.packages flags) x) p.depends k item is unmet);
      }))
    ]))

-- ---- essential packages

-- some member has the name
abbrev pub HasName : PackageList → List Bool → List ℕ → Type 0
HasName r flags name = Any (λ q. q.name ≡ name) (members_of r.packages flags)

pub names-from : (r : PackageList) (flags : List Bool) (essential : Bool) → (essential ≡ true → (n : ℕ) → ¬ IsMissing r flags n)
    → All (HasName r flags) (required_names essential r.packages)
names-from r flags false none = All-nil (HasName r flags)
names-from r flags true none =
    All-map (HasName r flags) (λ p. p.name) (filter (λ p. p.essential) r.packages)
    (all-passed (λ p. p.essential) (λ p. HasName r flags p.name) r.packages
    (λ n p is essential. elim (any-decided (λ q. q.name ≡ p.name) (λ q. text-decided q.name p.name) (members_of r.packages flags)) [
      | inl has ↦ has
      | inr missing ↦ absurd (none refl n (at-has (λ x. (x.essential ≡ true) × (¬ HasName r flags x.name)) r.packages n p is (essential, missing)))
    ]))

-- ---- from none of the four, and back

pub healthy-from : (r : PackageList) (flags : List Bool) (essential : Bool) → IsNoPair (AreTwoVersions r flags) → IsNoPair (IsUnmetAt r flags)
    → IsNoPair (AreConflicting r flags) → (essential ≡ true → (n : ℕ) → ¬ IsMissing r flags n) →
    Healthy r.architecture (required_names essential r.packages) r.packages (members_of r.packages flags)
healthy-from r flags essential versions unmet conflict missing = record {
  chosen = all-members (Contains r.packages) r.packages flags (λ k p m. contains-at r.packages k p m.there);
  one_of_a_name = two-from r flags (λ p q. p.name ≡ q.name) versions;
  met = met-from r flags unmet;
  no_conflict = two-from r flags (AreInConflict r.architecture) conflict;
  has_required = names-from r flags essential missing;
}

pub no-two_versions : (r : PackageList) (flags : List Bool) (essential : Bool)
    → Healthy r.architecture (required_names essential r.packages) r.packages (members_of r.packages flags) → IsNoPair (AreTwoVersions r flags)
no-two_versions r flags essential healthy = no-two r flags (λ p q. p.name ≡ q.name) healthy.one_of_a_name

pub no-conflict : (r : PackageList) (flags : List Bool) (essential : Bool)
    → Healthy r.architecture (required_names essential r.packages) r.packages (members_of r.packages flags) → IsNoPair (AreConflicting r flags)
no-conflict r flags essential healthy = no-two r flags (AreInConflict r.architecture) healthy.no_conflict

pub no-unmet : (r : PackageList) (flags : List Bool) (essential : Bool)
    → Healthy r.architecture (required_names essential r.packages) r.packages (members_of r.packages flags) → IsNoPair (IsUnmetAt r flags)
no-unmet r flags essential healthy n k unmet =
    let holder = found (λ q. IsSomeAnd (slice_get q.depends k) (λ x. ¬ IsMet r.architecture (members_of r.packages flags) x)) (slice_get r.packages n)
    unmet.has in
    let item = found (λ x. ¬ IsMet r.architecture (members_of r.packages flags) x) (slice_get holder.value.depends k) holder.holds in
    let each : All (IsMet r.architecture (members_of r.packages flags)) holder.value.depends =
    each-member (λ p. All (IsMet r.architecture (members_of r.packages flags)) p.depends) r.packages flags healthy.met n holder.value
    (record { member = unmet.member; there = holder.is_value }) in
    item.holds (all-at (IsMet r.architecture (members_of r.packages flags)) holder.value.depends each k item.value item.is_value)

-- what holds of each image holds of each element's
pub all-before_map : {X Y : Type 0} (P : Y → Type 0) (f : X → Y) (xs : List X) → All P (map f xs) → All (λ x. P (f x)) xs
all-before_map P f [] all = All-nil (λ x. P (f x))
all-before_map P f (x ∷ xs) all =
    All-cons (λ y. P (f y)) x xs (all 0 (f x) (omega arith)) (all-before_map P f xs (All-tail P (f x) (map f xs) all))

pub no-missing : (r : PackageList) (flags : List Bool) (essential : Bool)
    → Healthy r.architecture (required_names essential r.packages) r.packages (members_of r.packages flags) → essential ≡ true → (n : ℕ) → ¬ IsMissing r flags n
no-missing r flags false healthy is n missing = cc
no-missing r flags true healthy is n missing =
    let lost = found (λ p. (p.essential ≡ true) × (¬ HasName r flags p.name)) (slice_get r.packages n) missing in
    let each = all-before_map (HasName r flags) (λ p. p.name) (filter (λ p. p.essential) r.packages) healthy.has_required in
    lost.holds.1 (passed-at (λ p. p.essential) (λ p. HasName r flags p.name) r.packages each n lost.value lost.is_value lost.holds.0)
