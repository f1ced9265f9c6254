-- Pairs that are kept at some first numbers, and where those of one of them begin.
use Rattle.std.proofs.Common.{◌≡◌, ℕ, ◌<◌, ◌≤◌, List, [], length, get_or, ap, arith}
use Rattle.std.specs.Prelude.{Contains}
use Rattle.std.specs.List.Sorted.{IsNonDecreasingBy}
use Rattle.std.proofs.lemmas.List.{get_or_default}
use Rattle.dist_base.specs.ListLaws.{element-is, has-at, some-element}
use Rattle.dist_repo.specs.Conflict.{AreInConflict}
use Rattle.dist_repo.specs.Order.{IsInOrder}
use Rattle.dist_repo.specs.PackageList.{PackageList, IsPackageAnd}
use Rattle.dist_repo.specs.declared.package.Package.{Package}
use Rattle.dist_now.specs.GatheringPrivate.{Adds, ArePairsIn, IsRejectingPair}
use Rattle.dist_now.specs.Partners.{IsPartner}
use Rattle.dist_now.proofs.AddsLemmas.{adds-same}
use Rattle.dist_now.proofs.PairFronts.{partner-rejects, rejecting-partner}

first-at : (pairs : List (ℕ × ℕ)) (i : ℕ) (d : ℕ × ℕ) → i < length pairs → (get_or pairs i d).0 ≡ (get_or pairs i (0, 0)).0
first-at pairs i d short = ap (λ (x : ℕ × ℕ). x.0) (get_or_default pairs i d (0, 0) short)

pub firsts-below : (pairs : List (ℕ × ℕ)) (number middle k : ℕ) (d : ℕ × ℕ) → IsNonDecreasingBy (λ pair. pair.0) pairs → k ≤ middle → middle < length pairs
    → (get_or pairs middle (0, 0)).0 < number → (get_or pairs k d).0 < number
firsts-below pairs number middle k d sorted up short less =
    let same = first-at pairs middle d short in
    let rises : (get_or pairs k d).0 ≤ (get_or pairs middle d).0 = sorted k middle d up short in
    omega (arith, same, rises, less)

pub firsts-from : (pairs : List (ℕ × ℕ)) (number middle k : ℕ) (d : ℕ × ℕ) → IsNonDecreasingBy (λ pair. pair.0) pairs → middle ≤ k → k < length pairs
    → number ≤ (get_or pairs middle (0, 0)).0 → number ≤ (get_or pairs k d).0
firsts-from pairs number middle k d sorted up short more =
    let same = first-at pairs middle d (omega (arith, up, short)) in
    let rises : (get_or pairs middle d).0 ≤ (get_or pairs k d).0 = sorted middle k d up short in
    omega (arith, same, rises, more)

pub none-kept : (r : PackageList) → ArePairsIn r 0 0 []
none-kept r = record {
  exact = λ pair. ((λ there. absurd (omega (arith, there.1))), λ both. absurd (omega (arith, both.0.1)));
  in_order = λ i j d up short. absurd (omega (arith, short));
}

partner-pair : (r : PackageList) (first second : ℕ) → IsPartner r first second → IsRejectingPair r (first, second)
partner-pair r first second partner =
    let Inner : Package → Type 0 = λ p. IsPackageAnd r.packages second (AreInConflict r.architecture p) in
    let p = some-element Inner r.packages first partner.1 in
    let is_p = element-is Inner r.packages first partner.1 in
    let inner = has-at Inner r.packages first p is_p partner.1 in
    let q = some-element (AreInConflict r.architecture p) r.packages second inner in
    let is_q = element-is (AreInConflict r.architecture p) r.packages second inner in
    partner-rejects r first second p q partner.0 is_p is_q (has-at (AreInConflict r.architecture p) r.packages second q is_q inner)

pub partners-kept : (r : PackageList) (number start end : ℕ) (pairs : List (ℕ × ℕ)) (old new : List ℕ) → IsInOrder r.packages → ArePairsIn r start end pairs
    → start ≤ number → number < end → Adds old new (λ k. Contains pairs (number, k)) → Adds old new (IsPartner r number)
partners-kept r number start end pairs old new ordered are from to adds =
    adds-same old new (λ k. Contains pairs (number, k)) (IsPartner r number)
    (λ k there. rejecting-partner r number k ordered ((are.exact (number, k)).0 there).1)
    (λ k partner. (are.exact (number, k)).1 ((from, to), partner-pair r number k partner)) adds
