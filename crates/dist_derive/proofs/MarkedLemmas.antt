-- A set of variables kept as a list and marks: one more member, and no member.
use Rattle.std.proofs.Common.{◌≡◌, ◌≢◌, ℕ, zero, suc, ◌+◌, ◌-◌, ◌<◌, ◌≤◌, Bool, true, false, not, cond, List, [], ◌∷◌, ◌++◌, length, get_or, set, replicate}
use Rattle.std.proofs.Common.{refl, ap, sym, ◌∙◌, subst, inl, inr, arith, count_by, ⊎_elim}
use Rattle.std.specs.List.{Contains}
use Rattle.std.proofs.lemmas.Bool.{cases_eq, false≢true, false_from_ne_true}
use Rattle.std.proofs.lemmas.List.{same_lists, length-set, length-replicate, get_or-replicate, get_or-set_same, get_or-set_other, get_or_default}
use Rattle.std.proofs.lemmas.List.{length_push}
use Rattle.std.proofs.lemmas.List.Quantifiers.{all_pairs_push}
use Rattle.std.proofs.lemmas.List.Elements.{All-push, All-weaker, Contains-push, Contains-push_cases, Contains-append_left}
use Rattle.std.proofs.lemmas.List.Sums.{sum_by-set, sum_by-cons, get_or-le-sum_by}
use Rattle.std.proofs.Math.Numerals.{one-add}
use Rattle.dist_clause.specs.Formula.{value_of}
use Rattle.dist_derive.specs.Marking.{AreMarked}

Contains-tail-at : {X : Type 0} (x : X) (xs : List X) (y : X) (k : ℕ) → k < length (x ∷ xs) → get_or (x ∷ xs) k y ≡ y → (x ≢ y) → Contains xs y
Contains-tail-at x xs y zero within at other = absurd (other at)
Contains-tail-at x xs y (suc k) within at other = (k, omega arith, at)

pub Contains-tail : {X : Type 0} (x : X) (xs : List X) (y : X) → Contains (x ∷ xs) y → (x ≢ y) → Contains xs y
Contains-tail x xs y h other = Contains-tail-at x xs y h.0 h.1 h.2 other

-- a value after one is set
pub value_of-set_same : (marks : List Bool) (v : ℕ) (b : Bool) → 1 ≤ v → v ≤ length marks → value_of (set marks (v - 1) b) v ≡ b
value_of-set_same marks v b from to = get_or-set_same marks (v - 1) b false (omega arith)

pub value_of-set_other : (marks : List Bool) (v w : ℕ) (b : Bool) → 1 ≤ v → 1 ≤ w → w ≢ v → value_of (set marks (v - 1) b) w ≡ value_of marks w
value_of-set_other marks v w b from w_from other = get_or-set_other marks (v - 1) (w - 1) b false (λ e. other (omega arith))

pub all_false : (marks : List Bool) → ((v : ℕ) → 1 ≤ v → v ≤ length marks → value_of marks v ≡ true → ⊥) → marks ≡ replicate (length marks) false
all_false marks none =
    same_lists marks (replicate (length marks) false) (sym (length-replicate (length marks) false))
    (λ k d within.
    let value : value_of marks (k + 1) ≡ false = false_from_ne_true (value_of marks (k + 1)) (λ e. none (k + 1) (omega arith) (omega arith) e) in
    let place : k + 1 - 1 ≡ k = omega arith in
    get_or_default marks k d false within ∙ (ap (λ i. get_or marks i false) (sym place) ∙ (value ∙ sym (get_or-replicate (length marks) k false d within))))

unmarked_counts : (b : Bool) → b ≡ false → ◌≡◌ {A = ℕ} (cond (not b) 1 0) 1
unmarked_counts true e = absurd (false≢true (sym e))
unmarked_counts false e = refl

pub is_room : (marks : List Bool) (members : List ℕ) (capacity v : ℕ) → AreMarked marks members capacity → 1 ≤ v → v ≤ length marks → (¬ Contains members v)
    → length members < length marks
is_room marks members capacity v h from to fresh =
    let value : get_or marks (v - 1) false ≡ false = false_from_ne_true (value_of marks v) (λ e. fresh ((h.marked v from to).0 e)) in
    let one = get_or-le-sum_by (λ b. cond (not b) 1 0) marks (v - 1) false (omega arith) in
    let at_one = unmarked_counts (get_or marks (v - 1) false) value in
    omega (arith, h.counted)

pub AreMarked-add : (marks : List Bool) (members : List ℕ) (capacity more v : ℕ) → AreMarked marks members capacity → capacity ≤ more → 1 ≤ v → v ≤ length marks
    → (¬ Contains members v) → AreMarked (set marks (v - 1) true) (members ++ v ∷ []) more
AreMarked-add marks members capacity more v h larger from to fresh =
    let long = length-set marks (v - 1) true in
    record {
      marked = λ w w_from w_to.
          elim (cases_eq w v) [
            | inl same ↦ (
              λ _. subst (λ u. Contains (members ++ v ∷ []) u) (sym same) (Contains-push members v),
              λ _. ap (λ u. value_of (set marks (v - 1) true) u) same ∙ value_of-set_same marks v true from to,
            )
            | inr other ↦
                let kept = value_of-set_other marks v w true from w_from other in
                let was = h.marked w w_from (omega arith) in (
                  λ e. Contains-append_left members (v ∷ []) w (was.0 (sym kept ∙ e)),
                  λ e. kept ∙ was.1 (⊎_elim (λ x. x) (λ x. absurd (other (sym x))) (Contains-push_cases members v w e)),
                )
          ];
      in_range = All-push (λ u. (1 ≤ u) × (u ≤ length (set marks (v - 1) true))) members v
          (All-weaker (λ u. (1 ≤ u) × (u ≤ length marks)) (λ u. (1 ≤ u) × (u ≤ length (set marks (v - 1) true))) (λ u r. (r.0, omega (arith, r.1))) members
          h.in_range)
          (from, omega arith);
      distinct = all_pairs_push (λ u w. u ≢ w) members v h.distinct (λ k d within e. fresh (k, within, get_or_default members k v d within ∙ e));
      counted =
          let value : get_or marks (v - 1) false ≡ false = false_from_ne_true (value_of marks v) (λ e. fresh ((h.marked v from to).0 e)) in
          let moved = sum_by-set (λ b. cond (not b) 1 0) marks (v - 1) true false (omega arith) in
          let at_one = unmarked_counts (get_or marks (v - 1) false) value in
          omega (arith, h.counted, length_push members v);
      room = omega (arith, h.room);
    }

count_by-unmarked : (n : ℕ) → count_by not (replicate n false) ≡ n
count_by-unmarked zero = refl
count_by-unmarked (suc n) = sum_by-cons (λ b. cond (not b) 1 0) false (replicate n false) ∙ (ap (λ k. 1 + k) (count_by-unmarked n) ∙ one-add n)

pub AreMarked-none : (n capacity : ℕ) → n ≤ capacity → AreMarked (replicate n false) [] capacity
AreMarked-none n capacity room = record {
  marked = λ v from to. (
    λ e. absurd (false≢true (sym (get_or-replicate n (v - 1) false false (omega (arith, length-replicate n false))) ∙ e)),
    λ e. absurd (omega (arith, e.1)),
  );
  in_range = λ k d h. absurd (omega arith);
  distinct = λ i j d before within. absurd (omega arith);
  counted = omega (arith, count_by-unmarked n, length-replicate n false);
  room = omega (arith, length-replicate n false);
}

-- while marks are taken away: each marked variable is among those that are left
pub record AreLeft (marks : List Bool) (left : List ℕ) (variables : ℕ) : Type 0 where
  pub long : length marks ≡ variables
  pub each : (v : ℕ) → 1 ≤ v → v ≤ length marks → value_of marks v ≡ true → Contains left v

pub AreLeft-more : (marks : List Bool) (member : ℕ) (left : List ℕ) (variables : ℕ) → AreLeft marks (member ∷ left) variables → 1 ≤ member → member ≤ variables
    → AreLeft (set marks (member - 1) false) left variables
AreLeft-more marks member left variables h from to =
    let long = length-set marks (member - 1) false in
    let same_long = h.long in
    record {
      long = long ∙ same_long;
      each = λ v v_from v_to e. elim (cases_eq v member) [
        | inl same ↦ absurd (false≢true (sym (ap (λ u. value_of (set marks (member - 1) false) u) same
            ∙ value_of-set_same marks member false from (omega arith)) ∙ e))
        | inr other ↦ Contains-tail member left v (h.each v v_from (omega arith) (sym (value_of-set_other marks member v false from v_from other) ∙ e))
            (λ x. other (sym x))
      ];
    }
