-- Laws of the packages of listed variables. No public clause cites them; proofs do, those of the crate above too.
use Rattle.std.proofs.Common.{◌≡◌, ◌↔◌, inl, inr, ℕ, zero, suc, ◌+◌, ◌-◌, ◌<◌, ◌≤◌, Bool, true, false, List, [], ◌∷◌}
use Rattle.std.proofs.Common.{length, get_or, Some, Less, refl, sym, ap}
use Rattle.std.proofs.Common.{subst, ◌∙◌, arith, slice_get}
use Rattle.std.specs.List.{All, Contains}
use Rattle.std.proofs.lemmas.List.Elements.{All-contains}
use Rattle.std.specs.Ordering.{ordering_then}
use Rattle.std.proofs.lemmas.Bool.{cases_order}
use Rattle.std.proofs.lemmas.Cmp.{tied_itself, nat_cmp_total, lists_total}
use Rattle.std.proofs.lemmas.List.{ext_get_or}
use Rattle.std.proofs.lemmas.Option.{get_or_from_slice_get, slice_get_within}
use Rattle.dist_version.specs.Order.{version_cmp}
use Rattle.dist_version.specs.OrderLaws.{version_total}
use Rattle.dist_clause.specs.Formula.{Literal, value_of, IsClauseOver, MakesTrue, IsModel}
use Rattle.dist_repo.specs.Order.{IsInOrder, package_cmp}
use Rattle.dist_repo.specs.PackageList.{PackageList}
use Rattle.dist_repo.specs.Strong.{IsInstallation}
use Rattle.dist_repo.specs.declared.package.Package.{Package}
use Rattle.dist_now.specs.Members.{members_of}
use Rattle.dist_now.specs.PresentLaws.{AreModelsInstallations, AreSamePackages}
use Rattle.dist_subject.specs.TruthLaws.{truth-at, truth-length}
use Rattle.dist_subject.specs.Present.{truth_of, packages_of}
use Rattle.dist_cert.specs.ListLaws.{any-from, both-flags, contains-cases, contains-later, from-any}
use Rattle.dist_cert.specs.Rising.{is_among}

-- ---- truth values

-- the value of a variable
pub value-among : (n : ℕ) (variables : List ℕ) (v : ℕ) → 1 ≤ v → v ≤ n
    → value_of (truth_of n variables) v ≡ is_among variables v
value-among n variables v from upto =
    truth-at n (v - 1) variables (omega (arith, from, upto))
    ∙ ap (λ (k : ℕ). is_among variables k) (let e : v - 1 + 1 ≡ v = omega (arith, from) in e)

true-alike : (value other : ℕ → Bool) (n : ℕ) → ((v : ℕ) → 1 ≤ v → v ≤ n → value v ≡ other v)
    → (clause : List Literal) → IsClauseOver n clause
    → MakesTrue value clause → MakesTrue other clause
true-alike value other n same clause over made =
    let l = made.1 in
    let range = All-contains (λ (m : Literal). (1 ≤ m.variable)
    × (m.variable ≤ n)) clause l over.in_range (made.0, made.2, made.3) in
    (made.0, l, made.2, made.3, sym (same l.variable range.0 range.1) ∙ made.4)

pub model-alike : (value other : ℕ → Bool) (n : ℕ) → ((v : ℕ) → 1 ≤ v → v ≤ n → value v ≡ other v)
    → (clauses : List (List Literal)) → All (IsClauseOver n) clauses
    → IsModel value clauses → IsModel other clauses
model-alike value other n same clauses over model k d within = true-alike value other n same (get_or clauses k d)
    (over k d within) (model k d within)

-- ---- members

pub member-from : (packages : List Package) (flags : List Bool) (k : ℕ) (p : Package) → slice_get packages k ≡ Some p
    → get_or flags k false ≡ true
    → Contains (members_of packages flags) p
member-from [] flags k p is holds = cc
member-from (q ∷ packages) [] k p is holds = cc
member-from (q ∷ packages) (true ∷ flags) zero p is holds = (0, omega arith, cc)
member-from (q ∷ packages) (false ∷ flags) zero p is holds = cc
member-from (q ∷ packages) (true ∷ flags) (suc k) p is holds = contains-later q (members_of packages flags) p
    (member-from packages flags k p is holds)
member-from (q ∷ packages) (false ∷ flags) (suc k) p is holds = member-from packages flags k p is holds

pub record IsMemberAt (packages : List Package) (flags : List Bool) (p : Package) : Type 0 where
  pub place : ℕ
  pub is : slice_get packages place ≡ Some p
  pub holds : get_or flags place false ≡ true

next-member : (q : Package) (packages : List Package) (b : Bool) (flags : List Bool) (p : Package)
    → IsMemberAt packages flags p
    → IsMemberAt (q ∷ packages) (b ∷ flags) p
next-member q packages b flags p m = record { place = suc m.place; is = m.is; holds = m.holds }

pub member-place : (packages : List Package) (flags : List Bool) (p : Package)
    → Contains (members_of packages flags) p → IsMemberAt packages flags p
member-place [] flags p there = absurd (omega (arith, there.1))
member-place (q ∷ packages) [] p there = absurd (omega (arith, there.1))
member-place (q ∷ packages) (true ∷ flags) p there = elim (contains-cases q (members_of packages flags) p there) [
  | inl here ↦ record { place = 0; is = ap (λ (x : Package). Some x) here; holds = refl }
  | inr later ↦ next-member q packages true flags p (member-place packages flags p later)
]
member-place (q ∷ packages) (false ∷ flags) p there = next-member q packages false flags p
    (member-place packages flags p there)

never-less : (p : Package) → ¬ (package_cmp p p ≡ Less)
never-less p less =
    let name = tied_itself (lists_total nat_cmp_total) p.name in
    let version = tied_itself version_total p.version in
    let both = ap (λ o. ordering_then o (version_cmp p.version p.version)) name ∙ version in
    cc

-- no package stands twice
pub one-place : (packages : List Package) (i j : ℕ) (p : Package) → IsInOrder packages
    → slice_get packages i ≡ Some p → slice_get packages j ≡ Some p → i ≡ j
one-place packages i j p ordered at_i at_j = elim (cases_order i j) [
  | inl same ↦ same
  | inr (inl less) ↦ absurd (apart i j less at_i at_j)
  | inr (inr more) ↦ absurd (apart j i more at_j at_i)
]
  where
    apart : (a b : ℕ) → a < b → slice_get packages a ≡ Some p → slice_get packages b ≡ Some p → ⊥
    apart a b less at_a at_b =
        let below : package_cmp (get_or packages a p) (get_or packages b p) ≡ Less = ordered a b p less
        (slice_get_within packages b p at_b) in
        never-less p (subst (λ x. package_cmp p x ≡ Less) (get_or_from_slice_get packages b p p at_b)
        (subst (λ x. package_cmp x (get_or packages b p) ≡ Less) (get_or_from_slice_get packages a p p at_a) below))

pub member-at : (packages : List Package) (flags : List Bool) (k : ℕ) (p : Package) → IsInOrder packages
    → slice_get packages k ≡ Some p
    → Contains (members_of packages flags) p → get_or flags k false ≡ true
member-at packages flags k p ordered is there =
    let m = member-place packages flags p there in
    subst (λ n. get_or flags n false ≡ true) (one-place packages m.place k p ordered m.is is) m.holds

-- ---- the packages of variables

pub package-there : (packages : List Package) (variables : List ℕ) (k : ℕ) (p : Package)
    → slice_get packages k ≡ Some p → Contains variables (k + 1)
    → Contains (packages_of packages variables) p
package-there packages variables k p is there =
    member-from packages (truth_of (length packages) variables) k p is
    (truth-at (length packages) k variables (slice_get_within packages k p is) ∙ any-from (k + 1) variables there)

pub variable-there : (packages : List Package) (variables : List ℕ) (k : ℕ) (p : Package) → IsInOrder packages
    → slice_get packages k ≡ Some p
    → Contains (packages_of packages variables) p → Contains variables (k + 1)
variable-there packages variables k p ordered is there =
    from-any (k + 1) variables (sym (truth-at (length packages) k variables (slice_get_within packages k p is))
    ∙ member-at packages (truth_of (length packages) variables) k p ordered is there)

-- ---- truth values of members

-- one truth value each, with the same members
pub same-flags : (packages : List Package) (a b : List Bool) → IsInOrder packages → length a ≡ length packages
    → length b ≡ length packages
    → AreSamePackages (members_of packages a) (members_of packages b) → a ≡ b
same-flags packages a b ordered size_a size_b same = ext_get_or false a b (size_a ∙ sym size_b)
    (λ k within. at k (slice_get-some k (omega (arith, within, size_a))))
  where
    slice_get-some : (k : ℕ) → k < length packages → (p : Package) × (slice_get packages k ≡ Some p)
    slice_get-some k within = some packages k within
      where
        some : (xs : List Package) (n : ℕ) → n < length xs → (p : Package) × (slice_get xs n ≡ Some p)
        some [] n short = absurd (omega (arith, short))
        some (x ∷ xs) zero short = (x, refl)
        some (x ∷ xs) (suc n) short = some xs n (omega (arith, short))

    at : (k : ℕ) → (p : Package) × (slice_get packages k ≡ Some p) → get_or a k false ≡ get_or b k false
    at k here = both-flags (get_or a k false) (get_or b k false)
        (λ holds. member-at packages b k here.0 ordered here.1 ((same here.0).0
        (member-from packages a k here.0 here.1 holds)))
        (λ holds. member-at packages a k here.0 ordered here.1 ((same here.0).1
        (member-from packages b k here.0 here.1 holds)))

-- ---- healthy installations

-- the packages of listed variables are a healthy installation exactly where the truth values are a model of the clauses
pub installed-exactly : (r : PackageList) (essential : Bool) (clauses : List (List Literal)) (variables : List ℕ)
    → IsInOrder r.packages → AreModelsInstallations r essential clauses
    → IsInstallation essential r (packages_of r.packages variables)
    ↔ IsModel (value_of (truth_of (length r.packages) variables)) clauses
installed-exactly r essential clauses variables ordered models =
    let n = length r.packages in
    let flags = truth_of n variables in
    let size = truth-length n variables in (
      (λ healthy.
          let w = models.all (packages_of r.packages variables) healthy in
          subst (λ f. IsModel (value_of f) clauses)
          (sym (same-flags r.packages flags w.0 ordered size w.1.one_each w.2)) w.1.model),
      λ model. models.healthy flags (record { one_each = size; model = model }),
    )
