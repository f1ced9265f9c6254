-- A question that is left undecided is hard: there are many variables.
use Rattle.std.proofs.Common.{◌≡◌, ◌↔◌, inl, inr, ℕ, zero, suc, ◌+◌, ◌<◌, ◌≤◌, ◌^◌, ◌&&◌, Bool, true, false, List, [], ◌∷◌, ◌++◌, length, length-append}
use Rattle.std.proofs.Common.{subst}
use Rattle.std.proofs.Common.{arith}
use Rattle.std.specs.Prelude.{All, Contains, nat_le}
use Rattle.std.proofs.Math.Nat.{pow-le-pow_right}
use Rattle.std.proofs.lemmas.Bool.{and_from, and_parts, cases_lt, le-leb, leb-true}
use Rattle.std.proofs.lemmas.List.Elements.{All-append, All-cons, All-nil, All-weaker, Contains-append_left, Contains-push, Contains-push_cases}
use Rattle.dist_clause.specs.Formula.{Literal}
use Rattle.dist_derive.specs.Cone.{InCone}
use Rattle.dist_line_check.specs.ToldLaws.{IsTold, either-way, most-told, stable}
use Rattle.dist_space.specs.Space.{IsSpace, SpaceView, cluster_classes, variable_of}
use Rattle.dist_space.specs.VariableLaws.{variable-range}
use Rattle.dist_space.specs.declared.meaning.Meaning.TheVariants.{At}
use Rattle.dist_repair.specs.Counters.{Counter, class_clauses, count_clauses, counted_clauses, counted_variables, counter_of, each_below, more, moved, no}
use Rattle.dist_repair.specs.Counters.{yes}
use Rattle.dist_repair.proofs.BelowLemmas.{below-all, place-below}
use Rattle.dist_repair.proofs.OverLemmas.{IsOver}

-- ---- clauses over all variables

wider : (m n : ℕ) → m ≤ n → (clause : List Literal) → IsOver m clause → IsOver n clause
wider m n more_n clause = All-weaker (λ l. (1 ≤ l.variable) × (l.variable ≤ m)) (λ l. (1 ≤ l.variable) × (l.variable ≤ n))
    (λ l in_m. (in_m.0, omega (arith, in_m.1, more_n))) clause

two-over : (n : ℕ) (a b : Literal) → (1 ≤ a.variable) × (a.variable ≤ n) → (1 ≤ b.variable) × (b.variable ≤ n) → IsOver n (a ∷ b ∷ [])
two-over n a b in_a in_b = All-cons (λ l. (1 ≤ l.variable) × (l.variable ≤ n)) a (b ∷ []) in_a
    (All-cons (λ l. (1 ≤ l.variable) × (l.variable ≤ n)) b [] in_b (All-nil (λ l. (1 ≤ l.variable) × (l.variable ≤ n))))

module _ (t : Counter) where
  moved-range : (c : ℕ) → c < t.clusters → (1 ≤ moved t c) × (moved t c ≤ counted_variables t)
  moved-range c short = (omega arith, omega (arith, short))

  pub more-range : (c j : ℕ) → c < t.clusters → j ≤ t.most → (1 ≤ more t c j) × (more t c j ≤ counted_variables t)
  more-range c j short within =
      let place = place-below c j t.clusters (t.most + 1) short (omega (arith, within)) in
      (omega arith, omega (arith, place))

  counts-over : (c j : ℕ) → c < t.clusters → j ≤ t.most → All (IsOver (counted_variables t)) (count_clauses t c j)
  unfolding count_clauses
  counts-over zero zero short within = All-cons (IsOver (counted_variables t)) (no (moved t 0) ∷ yes (more t 0 0) ∷ []) []
      (two-over (counted_variables t) (no (moved t 0)) (yes (more t 0 0)) (moved-range 0 short) (more-range 0 0 short within))
      (All-nil (IsOver (counted_variables t)))
  counts-over zero (suc j) short within = All-nil (IsOver (counted_variables t))
  counts-over (suc c) zero short within =
      let Over = IsOver (counted_variables t) in
      let before : c < t.clusters = omega (arith, short) in
      All-cons (IsOver (counted_variables t)) (no (more t c 0) ∷ yes (more t (suc c) 0) ∷ []) ((no (moved t (suc c)) ∷ yes (more t (suc c) 0) ∷ []) ∷ [])
      (two-over (counted_variables t) (no (more t c 0)) (yes (more t (suc c) 0)) (more-range c 0 before within) (more-range (suc c) 0 short within))
      (All-cons (IsOver (counted_variables t)) (no (moved t (suc c)) ∷ yes (more t (suc c) 0) ∷ []) []
      (two-over (counted_variables t) (no (moved t (suc c))) (yes (more t (suc c) 0)) (moved-range (suc c) short) (more-range (suc c) 0 short within))
      (All-nil (IsOver (counted_variables t))))
  counts-over (suc c) (suc j) short within =
      let before : c < t.clusters = omega (arith, short) in
      let less : j ≤ t.most = omega (arith, within) in
      All-cons (IsOver (counted_variables t)) (no (more t c (suc j)) ∷ yes (more t (suc c) (suc j)) ∷ [])
      ((no (moved t (suc c)) ∷ no (more t c j) ∷ yes (more t (suc c) (suc j)) ∷ []) ∷ [])
      (two-over (counted_variables t) (no (more t c (suc j))) (yes (more t (suc c) (suc j))) (more-range c (suc j) before within)
      (more-range (suc c) (suc j) short within))
      (All-cons (IsOver (counted_variables t)) (no (moved t (suc c)) ∷ no (more t c j) ∷ yes (more t (suc c) (suc j)) ∷ []) []
      (All-cons (λ l. (1 ≤ l.variable) × (l.variable ≤ counted_variables t)) (no (moved t (suc c))) (no (more t c j) ∷ yes (more t (suc c) (suc j)) ∷ [])
      (moved-range (suc c) short)
      (two-over (counted_variables t) (no (more t c j)) (yes (more t (suc c) (suc j))) (more-range c j before less) (more-range (suc c) (suc j) short within)))
      (All-nil (IsOver (counted_variables t))))

-- the clauses of a space with its counter are over all their variables
pub counted-over : (s : SpaceView) → IsSpace s → (clauses : List (List Literal)) (most : ℕ) → All (IsOver (length s.meanings)) clauses
    → All (IsOver (counted_variables (counter_of s most))) (counted_clauses s clauses most)
counted-over s space clauses most over =
    let t = counter_of s most in
    let n = length s.clusters.members in
    All-append (IsOver (counted_variables (counter_of s most))) clauses _
    (All-weaker (IsOver (length s.meanings)) (IsOver (counted_variables (counter_of s most)))
    (wider (length s.meanings) (counted_variables (counter_of s most)) (omega arith)) clauses over)
    (All-append (IsOver (counted_variables (counter_of s most))) (each_below (length s.clusters.members) (class_clauses s (counter_of s most))) _
    (below-all (IsOver (counted_variables (counter_of s most))) (length s.clusters.members) (class_clauses s (counter_of s most))
    (λ c short. below-all (IsOver (counted_variables (counter_of s most))) (length (cluster_classes s c))
    (λ k. (no (variable_of s (At c k)) ∷ yes (moved (counter_of s most) c) ∷ []) ∷ []) (λ k less.
    let in_space = variable-range s (At c k) space less in
    All-cons (IsOver (counted_variables (counter_of s most))) (no (variable_of s (At c k)) ∷ yes (moved (counter_of s most) c) ∷ []) []
    (two-over (counted_variables (counter_of s most)) (no (variable_of s (At c k))) (yes (moved (counter_of s most) c))
    (in_space.0, omega (arith, in_space.1)) (moved-range (counter_of s most) c short))
    (All-nil (IsOver (counted_variables (counter_of s most)))))))
    (below-all (IsOver (counted_variables (counter_of s most))) (length s.clusters.members)
    (λ c. each_below (most + 1) (count_clauses (counter_of s most) c))
    (λ c short. below-all (IsOver (counted_variables (counter_of s most))) (most + 1) (count_clauses (counter_of s most) c)
    (λ j less. counts-over (counter_of s most) c j short (omega (arith, less))))))

-- ---- cones

-- the numbers from 1 to n with a property
record Listed (P : ℕ → Type 0) (n : ℕ) : Type 0 where
  numbers : List ℕ
  exact : (v : ℕ) → Contains numbers v ↔ ((1 ≤ v) × (v ≤ n) × P v)
  few : length numbers ≤ n

with-next : (P : ℕ → Type 0) (n : ℕ) → Listed P n → IsTold (P (suc n)) → Listed P (suc n)
with-next P n before (inl holds) = record {
  numbers = before.numbers ++ suc n ∷ [];
  exact = λ v. (
    (λ there. elim (Contains-push_cases before.numbers (suc n) v there) [
      | inl earlier ↦ let at = (before.exact v).0 earlier in (at.0, omega (arith, at.1), at.2)
      | inr same ↦ (omega (arith, same), omega (arith, same), subst P same holds)
    ]),
    λ at. elim (cases_lt n v) [
      | inl past ↦
          let same : suc n ≡ v = omega (arith, past, at.1) in
          subst (Contains (before.numbers ++ suc n ∷ [])) same (Contains-push before.numbers (suc n))
      | inr within ↦ Contains-append_left before.numbers (suc n ∷ []) v ((before.exact v).1 (at.0, within, at.2))
    ],
  );
  few = let few = before.few in omega (arith, few, length-append before.numbers (suc n ∷ []));
}
with-next P n before (inr never) = record {
  numbers = before.numbers;
  exact = λ v. (
    (λ there. let at = (before.exact v).0 there in (at.0, omega (arith, at.1), at.2)),
    λ at. elim (cases_lt n v) [
      | inl past ↦ let same : v ≡ suc n = omega (arith, past, at.1) in absurd (never (subst P same at.2))
      | inr within ↦ (before.exact v).1 (at.0, within, at.2)
    ],
  );
  few = let few = before.few in omega (arith, few);
}

listed : (P : ℕ → Type 0) (n : ℕ) → ¬ ¬ Listed P n
listed P zero never = never (record {
  numbers = [];
  exact = λ v. ((λ there. absurd (omega (arith, there.1))), λ at. absurd (omega (arith, at.0, at.1)));
  few = omega arith;
})
listed P (suc n) never = listed P n (λ before. either-way (P (suc n)) (λ told. never (with-next P n before told)))

abbrev upto_test : ℕ → ℕ → Bool
upto_test n w = nat_le 1 w && nat_le w n

-- a variable of the cone is one of those that the clauses are over
cone-within : (n : ℕ) (inputs : List (List Literal)) (assumptions : List Literal) → All (IsOver n) inputs → IsOver n assumptions → (v : ℕ)
    → InCone inputs assumptions v → (1 ≤ v) × (v ≤ n)
cone-within n inputs assumptions over within v in_cone =
    let on = in_cone (upto_test n) (inside assumptions within) (All-weaker (IsOver n)
    (λ clause. All (λ l. l.positive ≡ false → upto_test n l.variable ≡ true) clause
    → All (λ l. upto_test n l.variable ≡ true) clause) (λ clause clause_over given. inside clause clause_over) inputs over) in
    let parts = and_parts (nat_le 1 v) (nat_le v n) on in
    (leb-true 1 v parts.0, leb-true v n parts.1)
  where
    inside : (clause : List Literal) → IsOver n clause → All (λ l. upto_test n l.variable ≡ true) clause
    inside clause = All-weaker (λ l. (1 ≤ l.variable) × (l.variable ≤ n)) (λ l. upto_test n l.variable ≡ true)
        (λ l at. and_from (nat_le 1 l.variable) (nat_le l.variable n) (le-leb 1 l.variable at.0) (le-leb l.variable n at.1)) clause

-- a bound by each list of a cone is one by all variables
pub cone-bound : (n : ℕ) (inputs : List (List Literal)) (assumptions : List Literal) (limit : ℕ) → All (IsOver n) inputs → IsOver n assumptions
    → ((cone : List ℕ) → ((v : ℕ) → Contains cone v ↔ InCone inputs assumptions v) → limit ≤ 3 ^ length cone) → limit ≤ 3 ^ n
cone-bound n inputs assumptions limit over within bound = stable (most-told limit (3 ^ n)) (λ no. listed (InCone inputs assumptions) n (λ all.
    let least : limit ≤ 3 ^ length all.numbers = bound all.numbers (λ v. (
      (λ there. ((all.exact v).0 there).2),
      λ in_cone. let at = cone-within n inputs assumptions over within v in_cone in (all.exact v).1 (at.0, at.1, in_cone),
    )) in
    let grows : 3 ^ length all.numbers ≤ 3 ^ n = pow-le-pow_right (omega arith) all.few in
    no (omega (arith, least, grows))))
