-- Packages in order, by their names alone: those of a name stand together.
use Rattle.std.proofs.Common.{◌≡◌, ℕ, ◌+◌, ◌<◌, ◌≤◌, Bool, true, false, List, length, get_or, Some, Ordering, Less, Equal, Greater, nat_cmp}
use Rattle.std.proofs.Common.{is_le, is_lt, refl, sym, ap, ◌∙◌, arith, inl, inr, slice_get}
use Rattle.std.specs.Cmp.Lexicographic.{slice_cmp}
use Rattle.std.specs.Ordering.{ordering_reverse, ordering_then}
use Rattle.std.proofs.lemmas.Bool.{cases_lt, false≢true}
use Rattle.std.proofs.lemmas.Cmp.{nat_list_cmp_total, tied_itself}
use Rattle.std.proofs.lemmas.Option.{get_or_from_slice_get, slice_get_within}
use Rattle.dist_base.specs.ListLaws.{element-at}
use Rattle.dist_version.specs.Order.{version_cmp}
use Rattle.dist_repo.specs.Order.{package_cmp, IsInOrder}
use Rattle.dist_repo.specs.SpansPrivate.{comes_before, is_before, IsEdge, IsEdgeWithin, IsSpan}
use Rattle.dist_repo.specs.declared.package.Package.{Package}
use Rattle.dist_repo.proofs.EdgeLemmas.{less-lower, up_to-lower}
use Rattle.dist_repo.proofs.HeldLemmas.{same_names}

abbrev cmp : List ℕ → List ℕ → Ordering
cmp = slice_cmp nat_cmp

-- ---- two packages

pub package-less : (packages : List Package) (i j : ℕ) (p q : Package) → IsInOrder packages → i < j → slice_get packages i ≡ Some p
    → slice_get packages j ≡ Some q → package_cmp p q ≡ Less
package-less packages i j p q ordered less is_p is_q =
    let first : get_or packages i p ≡ p = get_or_from_slice_get packages i p p is_p in
    let second : get_or packages j p ≡ q = get_or_from_slice_get packages j q p is_q in
    let below : package_cmp (get_or packages i p) (get_or packages j p) ≡ Less = ordered i j p less (slice_get_within packages j q is_q) in
    sym (ap (λ (x : Package). package_cmp x (get_or packages j p)) first ∙ ap (λ (x : Package). package_cmp p x) second) ∙ below

not-lower : (o rest : Ordering) → ordering_then o rest ≡ Less → is_lt (ordering_reverse o) ≡ false
not-lower Less rest is = refl
not-lower Equal rest is = refl
not-lower Greater rest is = cc

-- names do not fall
names-up : (packages : List Package) (i j : ℕ) (p q : Package) → IsInOrder packages → i ≤ j → slice_get packages i ≡ Some p
    → slice_get packages j ≡ Some q → is_lt (cmp q.name p.name) ≡ false
names-up packages i j p q ordered up is_p is_q = elim (cases_lt i j) [
  | inl less ↦
      ap is_lt (nat_list_cmp_total.antisymm q.name p.name)
      ∙ not-lower (cmp p.name q.name) (version_cmp p.version q.version) (package-less packages i j p q ordered less is_p is_q)
  | inr most ↦
      let same : i ≡ j = omega arith in
      let one : Some p ≡ Some q = sym is_p ∙ ap (slice_get packages) same ∙ is_q in
      let is : p ≡ q = cc in
      ap (λ (x : Package). is_lt (cmp q.name x.name)) is ∙ ap is_lt (tied_itself nat_list_cmp_total q.name)
]

-- ---- an edge

name-lower : (past : Bool) (x y w : List ℕ) → is_lt (cmp y x) ≡ false → comes_before past (cmp y w) ≡ true → comes_before past (cmp x w) ≡ true
name-lower false x y w up before = less-lower cmp nat_list_cmp_total (cmp x y) x y w refl up before
name-lower true x y w up before = up_to-lower cmp nat_list_cmp_total (cmp y w) x y w refl up before

is-false : (b : Bool) → ¬ (b ≡ true) → b ≡ false
is-false true none = absurd (none refl)
is-false false none = refl

module _ (packages : List Package) (name : List ℕ) (past : Bool) (low high middle : ℕ) (p : Package) (ordered : IsInOrder packages)
    (within : IsEdgeWithin packages name past low high) (from : low ≤ middle) (to : middle < high) (is : slice_get packages middle ≡ Some p) where
  pub edge-up : is_before past name p ≡ true → IsEdgeWithin packages name past (middle + 1) high
  edge-up before = record {
    ordered = omega (arith, to);
    within = within.within;
    before = λ k q here less.
        name-lower past q.name p.name name (names-up packages k middle q p ordered (omega (arith, less)) here is) before;
    behind = within.behind;
  }

  pub edge-down : is_before past name p ≡ false → IsEdgeWithin packages name past low middle
  edge-down behind = record {
    ordered = from;
    within = omega (arith, to, within.within);
    before = within.before;
    behind = λ k q here up. is-false (is_before past name q) (λ before.
        false≢true (sym behind ∙ name-lower past p.name q.name name (names-up packages middle k p q ordered up is here) before));
  }

pub edge-all : (packages : List Package) (name : List ℕ) (past : Bool) → IsEdgeWithin packages name past 0 (length packages)
edge-all packages name past = record {
  ordered = omega arith;
  within = omega arith;
  before = λ k p is less. absurd (omega (arith, less));
  behind = λ k p is up. absurd (omega (arith, up, slice_get_within packages k p is));
}

pub edge-met : (packages : List Package) (name : List ℕ) (past : Bool) (low high : ℕ) → high ≤ low → IsEdgeWithin packages name past low high
    → IsEdge packages name past low
edge-met packages name past low high met within = record {
  ordered = omega arith;
  within = omega (arith, within.ordered, within.within);
  before = within.before;
  behind = λ k p is up. within.behind k p is (omega (arith, met, up));
}

-- ---- both edges of a name

less-most : (o : Ordering) → is_lt o ≡ true → is_le o ≡ true
less-most Less is = refl
less-most Equal is = cc
less-most Greater is = cc

both-equal : (o : Ordering) → is_lt o ≡ false → is_le o ≡ true → o ≡ Equal
both-equal Less below most = cc
both-equal Equal below most = refl
both-equal Greater below most = cc

module _ (packages : List Package) (name : List ℕ) (start : ℕ) (first : IsEdge packages name false start) where
  -- where the packages of a name begin they have not ended
  pub above-all : IsEdgeWithin packages name true start (length packages)
  above-all = record {
    ordered = first.within;
    within = omega arith;
    before = λ k p is less. less-most (cmp p.name name) (first.before k p is less);
    behind = λ k p is up. absurd (omega (arith, up, slice_get_within packages k p is));
  }

  -- and the next package has another name
  pub above-next : (p : Package) → IsInOrder packages → start + 1 < length packages → slice_get packages (start + 1) ≡ Some p
      → is_before true name p ≡ false → IsEdgeWithin packages name true start (start + 1)
  above-next p ordered short is behind = record {
    ordered = omega arith;
    within = omega (arith, short);
    before = λ k q here less. less-most (cmp q.name name) (first.before k q here less);
    behind = λ k q here up. is-false (is_before true name q) (λ before.
        false≢true (sym behind ∙ name-lower true p.name q.name name (names-up packages (start + 1) k p q ordered up is here) before));
  }

  pub span-from : (end : ℕ) → IsEdge packages name true end → IsSpan packages name start end
  span-from end last = record {
    ordered = elim (cases_lt end start) [
      | inl less ↦
          let at = element-at packages end (omega (arith, less, first.within)) in
          let most = less-most (cmp at.element.name name) (first.before end at.element at.is less) in
          absurd (false≢true (sym (last.behind end at.element at.is (omega arith)) ∙ most))
      | inr up ↦ up
    ];
    within = last.within;
    exact = λ k p is. (
      (λ same.
          let tied : cmp p.name name ≡ Equal = ap (λ (x : List ℕ). cmp x name) same ∙ tied_itself nat_list_cmp_total name in (
            elim (cases_lt k start) [
              | inl less ↦ absurd (false≢true (sym (ap is_lt tied) ∙ first.before k p is less))
              | inr up ↦ up
            ],
            elim (cases_lt k end) [
              | inl less ↦ less
              | inr up ↦ absurd (false≢true (sym (last.behind k p is up) ∙ ap is_le tied))
            ],
          )),
      λ both. same_names p.name name (both-equal (cmp p.name name) (first.behind k p is both.0) (last.before k p is both.1)),
    );
  }
