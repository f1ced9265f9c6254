-- The clauses of demands are clauses over the packages: no variable stands twice, and each is one of a package.
use Rattle.std.proofs.Common.{◌≡◌, ◌≢◌, ℕ, ◌+◌, ◌<◌, ◌≤◌, List, [], ◌∷◌, length, map, refl, subst, arith}
use Rattle.std.specs.Prelude.{All, AllPairs, Contains}
use Rattle.std.proofs.lemmas.List.Elements.{All-cons, All-map, All-nil}
use Rattle.std.proofs.lemmas.List.Kept.{AllPairs-cons, AllPairs-from_increasing}
use Rattle.dist_base.specs.ListLaws.{all-contained, pairs-head, pairs-tail, within-from}
use Rattle.dist_clause.specs.Formula.{Literal, IsClauseOver}
use Rattle.dist_repo.specs.PackageList.{PackageList}
use Rattle.dist_repo.specs.declared.package.Package.{Package}
use Rattle.dist_now.specs.PresentClauses.{AreNumbersOf, installed, not_installed}
use Rattle.dist_now.proofs.HealthyLemmas.{pairs-none}

abbrev InRange : ℕ → Literal → Type 0
InRange n l = (1 ≤ l.variable) × (l.variable ≤ n)

pub numbers-below : (r : PackageList) (P : Package → Type 0) (numbers : List ℕ) → AreNumbersOf r P numbers → All (λ k. k < length r.packages) numbers
numbers-below r P numbers are = all-contained (λ (k : ℕ). k < length r.packages) numbers (λ k there. within-from P r.packages k ((are.exact k).0 there))

pub below-more : (n m : ℕ) (numbers : List ℕ) → n ≤ m → All (λ k. k < n) numbers → All (λ k. k < m) numbers
below-more n m numbers up all = λ i d short. let h = all i d short in omega arith

installed-range : (n : ℕ) (numbers : List ℕ) → All (λ k. k < n) numbers → All (InRange n) (map installed numbers)
installed-range n numbers all = All-map (InRange n) installed numbers (λ i d short. let h = all i d short in (omega arith, omega arith))

abbrev Apart : Literal → Literal → Type 0
Apart l m = l.variable ≢ m.variable

-- rising numbers, and one that is not among them
apart-each : (n : ℕ) (numbers : List ℕ) → ¬ Contains numbers n → (positive : Literal) → positive.variable ≡ n + 1 → All (Apart positive) (map installed numbers)
apart-each n numbers other l is =
    All-map (Apart l) installed numbers (all-contained (λ k. l.variable ≢ k + 1) numbers
    (λ k there same. other (subst (Contains numbers) (let e : k ≡ n = omega (arith, is, same) in e) there)))

pairs-apart : (numbers : List ℕ) → AllPairs (λ x y. x < y) numbers → AllPairs Apart (map installed numbers)
pairs-apart [] rising = pairs-none Apart
pairs-apart (n ∷ numbers) rising =
    let less : All (λ y. n < y) numbers = all-contained (λ y. n < y) numbers (pairs-head (λ x y. x < y) n numbers rising) in
    AllPairs-cons Apart (installed n) (map installed numbers)
    (All-map (Apart (installed n)) installed numbers (λ i d short. let h = less i d short in λ same. omega arith))
    (pairs-apart numbers (pairs-tail (λ x y. x < y) n numbers rising))

pub installed-clause : (r : PackageList) (P : Package → Type 0) (numbers : List ℕ) → AreNumbersOf r P numbers
    → IsClauseOver (length r.packages) (map installed numbers)
installed-clause r P numbers are = record {
  in_range = installed-range (length r.packages) numbers (numbers-below r P numbers are);
  distinct = pairs-apart numbers (AllPairs-from_increasing numbers are.rising);
}

pub item-clause : (r : PackageList) (P : Package → Type 0) (n : ℕ) (numbers : List ℕ) → n < length r.packages → AreNumbersOf r P numbers → ¬ Contains numbers n
    → IsClauseOver (length r.packages) (not_installed n ∷ map installed numbers)
item-clause r P n numbers short are other = record {
  in_range = All-cons (InRange (length r.packages)) (not_installed n) (map installed numbers) (omega arith, omega (arith, short))
      (installed-range (length r.packages) numbers (numbers-below r P numbers are));
  distinct = AllPairs-cons Apart (not_installed n) (map installed numbers) (apart-each n numbers other (not_installed n) refl)
      (pairs-apart numbers (AllPairs-from_increasing numbers are.rising));
}

pub pair-clause : (n first second : ℕ) → first < second → second < n → IsClauseOver n (not_installed first ∷ not_installed second ∷ [])
pair-clause n first second less short = record {
  in_range = All-cons (InRange n) (not_installed first) (not_installed second ∷ []) (omega arith, omega arith)
      (All-cons (InRange n) (not_installed second) [] (omega arith, omega arith) (All-nil (InRange n)));
  distinct = AllPairs-cons Apart (not_installed first) (not_installed second ∷ [])
      (All-cons (Apart (not_installed first)) (not_installed second) [] (λ same. omega arith) (All-nil (Apart (not_installed first))))
      (AllPairs-cons Apart (not_installed second) [] (All-nil (Apart (not_installed second))) (pairs-none Apart));
}
