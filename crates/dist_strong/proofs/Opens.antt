-- What is open in a group.
use Rattle.std.proofs.Common.{◌≡◌, ◌≢◌, ℕ, ◌-◌, ◌<◌, ◌≤◌, ◌==◌, ◌&&◌, Bool, true, false, List, length, slice_set, refl, ap, sym, ◌∙◌, arith}
use Rattle.std.proofs.Common.{get_or-set_same, get_or-set_other, not}
use Rattle.std.proofs.lemmas.Bool.{and_from, and_parts, eq-eqb, ne_eqb, true≢false, false≢true}
use Rattle.dist_clause.specs.Formula.{value_of}
use Rattle.dist_strong.specs.Group.{GroupView, is_open}

-- ---- values that are set

pub value-same : (xs : List Bool) (q : ℕ) → 1 ≤ q → q ≤ length xs → value_of (slice_set xs (q - 1) true) q ≡ true
value-same xs q from upto = let within : q - 1 < length xs = omega arith in get_or-set_same xs (q - 1) true false within

pub value-other : (xs : List Bool) (q r : ℕ) → 1 ≤ q → 1 ≤ r → r ≢ q → value_of (slice_set xs (q - 1) true) r ≡ value_of xs r
value-other xs q r from low other = get_or-set_other xs (q - 1) (r - 1) true false (λ e. other (omega (arith, e)))

pub value-cleared : (xs : List Bool) (q : ℕ) → 1 ≤ q → q ≤ length xs → value_of (slice_set xs (q - 1) false) q ≡ false
value-cleared xs q from upto = let within : q - 1 < length xs = omega arith in get_or-set_same xs (q - 1) false false within

pub value-beside : (xs : List Bool) (q r : ℕ) → 1 ≤ q → 1 ≤ r → r ≢ q → value_of (slice_set xs (q - 1) false) r ≡ value_of xs r
value-beside xs q r from low other = get_or-set_other xs (q - 1) (r - 1) false false (λ e. other (omega (arith, e)))

-- ---- what is open

pub record OpenParts (group : GroupView) (q : ℕ) : Type 0 where
  pub other : q ≢ group.claimed
  pub common : value_of group.common q ≡ true
  pub refuted : value_of group.refuted q ≡ false
  pub undecided : value_of group.undecided q ≡ false

not-true : (b : Bool) → not b ≡ true → b ≡ false
not-true true e = absurd (false≢true e)
not-true false e = refl

true-not : (b : Bool) → b ≡ false → not b ≡ true
true-not b e = ap not e

pub open-parts : (group : GroupView) (q : ℕ) → is_open group q ≡ true → OpenParts group q
open-parts group q opens =
    let a = and_parts ((not (q == group.claimed) && value_of group.common q) && not (value_of group.refuted q)) (not (value_of group.undecided q)) opens in
    let b = and_parts (not (q == group.claimed) && value_of group.common q) (not (value_of group.refuted q)) a.0 in
    let d = and_parts (not (q == group.claimed)) (value_of group.common q) b.0 in
    record {
      other = λ e. true≢false (sym (eq-eqb q group.claimed e) ∙ not-true (q == group.claimed) d.0);
      common = d.1;
      refuted = not-true (value_of group.refuted q) b.1;
      undecided = not-true (value_of group.undecided q) a.1;
    }

pub open-from : (group : GroupView) (q : ℕ) → OpenParts group q → is_open group q ≡ true
open-from group q parts =
    and_from ((not (q == group.claimed) && value_of group.common q) && not (value_of group.refuted q)) (not (value_of group.undecided q))
    (and_from (not (q == group.claimed) && value_of group.common q) (not (value_of group.refuted q))
    (and_from (not (q == group.claimed)) (value_of group.common q) (true-not (q == group.claimed) (ne_eqb q group.claimed parts.other)) parts.common)
    (true-not (value_of group.refuted q) parts.refuted)) (true-not (value_of group.undecided q) parts.undecided)

pub never-open : (group : GroupView) (q : ℕ) → ¬ OpenParts group q → is_open group q ≡ false
never-open group q never = by (is_open group q) refl
  where
    by : (b : Bool) → is_open group q ≡ b → b ≡ false
    by true e = absurd (never (open-parts group q e))
    by false e = refl

-- what is open in one is open in the other
pub still-closed : (old new : GroupView) (r : ℕ) → (OpenParts new r → OpenParts old r) → is_open old r ≡ false → is_open new r ≡ false
still-closed old new r back closed = never-open new r (λ parts. true≢false (sym (open-from old r (back parts)) ∙ closed))
