-- What one call that adds a clause does to a front.
use Rattle.std.proofs.Common.{◌≡◌, ℕ, ◌<◌, ◌≤◌, true, false, List, ◌∷◌, length, get_or, map, sym, subst, ◌∙◌, arith, slice_get, eqb, eqb-true}
use Rattle.std.proofs.Common.{eq-eqb}
use Rattle.std.specs.Prelude.{Contains, IsSomeAnd}
use Rattle.std.proofs.lemmas.Bool.{false≢true}
use Rattle.std.proofs.lemmas.Option.{slice_get_within}
use Rattle.dist_base.specs.ListLaws.{at-has, has-at}
use Rattle.dist_clause.specs.Formula.{Literal, IsClauseOver}
use Rattle.dist_relation.specs.declared.atom.Atom.{Atom}
use Rattle.dist_repo.specs.PackageList.{PackageList, IsPackageAnd}
use Rattle.dist_repo.specs.declared.package.Package.{Package}
use Rattle.dist_now.specs.Members.{IsItemAt}
use Rattle.dist_now.specs.PresentClauses.{Item, AreNumbersOf, IsClauseFor, IsDemand, IsMetBy, installed, not_installed}

-- ---- a test whether a number is there

pub contains-true : (xs : List ℕ) (x : ℕ) → ((k : ℕ) × (k < length xs) × ((d : ℕ) → eqb (get_or xs k d) x ≡ true)) → Contains xs x
contains-true xs x here = (here.0, here.1, eqb-true (get_or xs here.0 x) x (here.2 x))

pub contains-false : (xs : List ℕ) (x : ℕ) → ((k d : ℕ) → 0 ≤ k → k < length xs → eqb (get_or xs k d) x ≡ false) → ¬ Contains xs x
contains-false xs x none there = false≢true (sym (none there.0 x (omega arith) there.1) ∙ eq-eqb (get_or xs there.0 x) x there.2)

-- ---- items

pub itself-meets : (r : PackageList) (n k : ℕ) (item : List Atom) → IsItemAt r.packages n k item → IsPackageAnd r.packages n (IsMetBy r.architecture item)
    → ¬ IsDemand r false (Item n k)
itself-meets r n k item at here demand =
    let Other : Package → List Atom → Type 0 = λ p i. ¬ IsMetBy r.architecture i p in
    let inner : IsSomeAnd (slice_get at.holder.depends k) (Other at.holder) =
    has-at (λ (p : Package). IsSomeAnd (slice_get p.depends k) (Other p)) r.packages n at.holder at.is_holder demand in
    has-at (Other at.holder) at.holder.depends k item at.is_item inner (has-at (IsMetBy r.architecture item) r.packages n at.holder at.is_holder here)

pub item-demand : (r : PackageList) (n k : ℕ) (item : List Atom) → IsItemAt r.packages n k item → ¬ IsPackageAnd r.packages n (IsMetBy r.architecture item)
    → IsDemand r false (Item n k)
item-demand r n k item at none =
    let Other : Package → List Atom → Type 0 = λ p i. ¬ IsMetBy r.architecture i p in
    at-has (λ (p : Package). IsSomeAnd (slice_get p.depends k) (Other p)) r.packages n at.holder at.is_holder
    (at-has (Other at.holder) at.holder.depends k item at.is_item
    (λ meets. none (at-has (IsMetBy r.architecture item) r.packages n at.holder at.is_holder meets)))

pub item-is-clause : (r : PackageList) (n k : ℕ) (item : List Atom) (numbers : List ℕ) (clause : List Literal) → IsItemAt r.packages n k item
    → AreNumbersOf r (IsMetBy r.architecture item) numbers
    → clause ≡ not_installed n ∷ map installed numbers → IsClauseFor r (Item n k) clause
item-is-clause r n k item numbers clause at are is =
    let Numbers : Package → List Atom → Type 0 = λ p i. AreNumbersOf r (IsMetBy r.architecture i) numbers in (
      numbers,
      at-has (λ (p : Package). IsSomeAnd (slice_get p.depends k) (Numbers p)) r.packages n at.holder at.is_holder
          (at-has (Numbers at.holder) at.holder.depends k item at.is_item are),
      is,
    )

pub item-within : (r : PackageList) (n k : ℕ) (item : List Atom) → IsItemAt r.packages n k item → n < length r.packages
item-within r n k item at = slice_get_within r.packages n at.holder at.is_holder

-- a clause over the variables of a set
pub over-set : (variables n : ℕ) (clause made : List Literal) → variables ≡ n → clause ≡ made → IsClauseOver n made → IsClauseOver variables clause
over-set variables n clause made same is over =
    let First : ℕ → Type 0 = λ k. IsClauseOver k clause in subst First (sym same) (subst (IsClauseOver n) (sym is) over)
