-- A question is left undecided only within a bound, by the number of all variables.
use Rattle.std.proofs.Common.{◌≡◌, ◌↔◌, inl, inr, ℕ, zero, suc, ◌≤◌, ◌^◌, Bool, true, ◌&&◌, List, [], ◌∷◌, length}
use Rattle.std.proofs.Common.{subst, arith}
use Rattle.std.specs.Prelude.{All, Contains, nat_le}
use Rattle.std.proofs.Math.Nat.{pow-le-pow_right}
use Rattle.std.proofs.lemmas.Bool.{and_from, and_parts, cases_lt, le-leb, leb-true}
use Rattle.std.proofs.lemmas.List.Elements.{All-map, All-weaker}
use Rattle.dist_clause.specs.Formula.{Literal}
use Rattle.dist_derive.specs.Cone.{InCone}
use Rattle.dist_cert.specs.Form.{Word}
use Rattle.dist_cert.specs.Groups.{clause_of}
use Rattle.dist_cert.specs.ListLaws.{contains-cases, contains-later}
use Rattle.dist_line_check.specs.ToldLaws.{IsTold, either-way, most-told, stable}
use Rattle.dist_findings.specs.SoundLaws.{IsSound}
use Rattle.dist_findings.specs.declared.finding.Finding.TheVariants as finding

-- the numbers from 1 to a bound that have a property
record NumbersWith (P : ℕ → Type 0) (n : ℕ) : Type 0 where
  numbers : List ℕ
  few : length numbers ≤ n
  exact : (v : ℕ) → Contains numbers v ↔ ((1 ≤ v) × (v ≤ n) × P v)

numbers-none : (P : ℕ → Type 0) → NumbersWith P 0
numbers-none P = record {
  numbers = [];
  few = omega arith;
  exact = λ v. ((λ there. absurd (omega (arith, there.1))), λ is. absurd (omega (arith, is.0, is.1)));
}

numbers-next : (P : ℕ → Type 0) (n : ℕ) → NumbersWith P n → IsTold (P (suc n)) → NumbersWith P (suc n)
numbers-next P n before (inl here) = record {
  numbers = suc n ∷ before.numbers;
  few = let few = before.few in omega (arith, few);
  exact = λ v. (
    (λ there. elim (contains-cases (suc n) before.numbers v there) [
      | inl same ↦ (omega (arith, same), omega (arith, same), subst P same here)
      | inr later ↦ let is = (before.exact v).0 later in (is.0, omega (arith, is.1), is.2)
    ]),
    (λ is. elim (cases_lt v (suc n)) [
      | inl less ↦ contains-later (suc n) before.numbers v ((before.exact v).1 (is.0, omega (arith, less), is.2))
      | inr past ↦ (0, omega arith, let same : suc n ≡ v = omega (arith, past, is.1) in same)
    ]),
  );
}
numbers-next P n before (inr none) = record {
  numbers = before.numbers;
  few = let few = before.few in omega (arith, few);
  exact = λ v. (
    (λ there. let is = (before.exact v).0 there in (is.0, omega (arith, is.1), is.2)),
    (λ is. elim (cases_lt v (suc n)) [
      | inl less ↦ (before.exact v).1 (is.0, omega (arith, less), is.2)
      | inr past ↦ let same : v ≡ suc n = omega (arith, past, is.1) in absurd (none (subst P same is.2))
    ]),
  );
}

-- there are such numbers
some-numbers : (P : ℕ → Type 0) (n : ℕ) → ¬ ¬ NumbersWith P n
some-numbers P zero never = never (numbers-none P)
some-numbers P (suc n) never = some-numbers P n (λ before. either-way (P (suc n)) (λ told. never (numbers-next P n before told)))

-- a variable up to a bound
abbrev pub IsUpto : ℕ → ℕ → Type 0
IsUpto n v = (1 ≤ v) × (v ≤ n)

has-upto : ℕ → ℕ → Bool
has-upto n v = nat_le 1 v && nat_le v n

upto-has : (n v : ℕ) → IsUpto n v → has-upto n v ≡ true
unfolding has-upto
upto-has n v is = and_from (nat_le 1 v) (nat_le v n) (le-leb 1 v is.0) (le-leb v n is.1)

has-is-upto : (n v : ℕ) → has-upto n v ≡ true → IsUpto n v
unfolding has-upto
has-is-upto n v is = let parts = and_parts (nat_le 1 v) (nat_le v n) is in (leb-true 1 v parts.0, leb-true v n parts.1)

-- the cone of assumptions up to a bound is up to it
cone-upto : (n : ℕ) (inputs : List (List Literal)) (assumptions : List Literal) (v : ℕ) → All (λ clause. All (λ l. IsUpto n l.variable) clause) inputs
    → All (λ l. IsUpto n l.variable) assumptions → InCone inputs assumptions v → IsUpto n v
cone-upto n inputs assumptions v within assumed cone = has-is-upto n v (cone (has-upto n)
    (All-weaker (λ l. IsUpto n l.variable) (λ l. has-upto n l.variable ≡ true) (λ l is. upto-has n l.variable is) assumptions assumed)
    (λ k d short negatives.
    All-weaker (λ l. IsUpto n l.variable) (λ l. has-upto n l.variable ≡ true) (λ l is. upto-has n l.variable is) _ (within k d short)))

pub hard-bound : (n : ℕ) (inputs : List (List Literal)) (question : List Word) (limit : ℕ) → All (λ clause. All (λ l. IsUpto n l.variable) clause) inputs
    → All (λ word. IsUpto n word.0) question → IsSound inputs limit (finding.LeftUndecided question) → limit ≤ 3 ^ n
hard-bound n inputs question limit within named sound = stable (most-told limit (3 ^ n)) (λ never.
    some-numbers (InCone inputs (clause_of question)) n (λ cone.
    never (
    let assumed = All-map (λ (l : Literal). IsUpto n l.variable) (λ (word : Word). record { variable = word.0; positive = word.1 }) question named in
    let bound : limit ≤ 3 ^ length cone.numbers = sound cone.numbers (λ v. (
      (λ there. ((cone.exact v).0 there).2),
      (λ inside. (cone.exact v).1 (let is = cone-upto n inputs (clause_of question) v within assumed inside in (is.0, is.1, inside))),
    )) in
    let grows : 3 ^ length cone.numbers ≤ 3 ^ n = pow-le-pow_right (omega arith) cone.few in
    omega (arith, bound, grows))))
