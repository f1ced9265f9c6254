-- Lists that are given number by number.
use Rattle.std.proofs.Common.{◌≡◌, ℕ, zero, suc, ◌+◌, ◌*◌, ◌<◌, List, ◌++◌, length, length-append, get_or, sym, ap, subst, ◌∙◌, arith}
use Rattle.std.proofs.Common.{inl, inr, suc-mul}
use Rattle.std.specs.Prelude.{All}
use Rattle.std.proofs.lemmas.Bool.{cases_lt}
use Rattle.std.proofs.lemmas.List.{get_or-append-add, get_or_append_left}
use Rattle.std.proofs.lemmas.List.Elements.{All-append, All-nil}
use Rattle.dist_repair.specs.Counters.{each_below}

-- a place in one part is before the end of all parts
pub place-below : (i j n w : ℕ) → i < n → j < w → i * w + j < n * w
place-below i j zero w short within = absurd (omega (arith, short))
place-below i j (suc n) w short within = elim (cases_lt i n) [
  | inl less ↦ let h = place-below i j n w less within in let product = suc-mul n w in omega (arith, h, product)
  | inr more ↦
      let same : n ≡ i = omega (arith, short, more) in
      let product = suc-mul n w in
      subst (λ (k : ℕ). k * w + j < suc n * w) same (omega (arith, product, within))
]

module _ {X : Type 0} where
  pub all-left : (P : X → Type 0) (xs ys : List X) → All P (xs ++ ys) → All P xs
  all-left P xs ys all k d short =
      let total = length-append xs ys in
      subst P (get_or_append_left xs ys d k short) (all k d (omega (arith, short, total)))

  pub all-right : (P : X → Type 0) (xs ys : List X) → All P (xs ++ ys) → All P ys
  all-right P xs ys all k d short =
      let total = length-append xs ys in
      subst P (get_or-append-add xs ys k d) (all (length xs + k) d (omega (arith, short, total)))

  pub all-below : (P : X → Type 0) (n : ℕ) (given : ℕ → List X) → All P (each_below n given) → (i : ℕ) → i < n → All P (given i)
  unfolding each_below
  all-below P zero given all i short = absurd (omega (arith, short))
  all-below P (suc n) given all i short = elim (cases_lt i n) [
    | inl less ↦ all-below P n given (all-left P (each_below n given) (given n) all) i less
    | inr more ↦
        let same : n ≡ i = omega (arith, short, more) in
        subst (λ (k : ℕ). All P (given k)) same (all-right P (each_below n given) (given n) all)
  ]

  pub below-all : (P : X → Type 0) (n : ℕ) (given : ℕ → List X) → ((i : ℕ) → i < n → All P (given i)) → All P (each_below n given)
  unfolding each_below
  below-all P zero given each = All-nil P
  below-all P (suc n) given each =
      All-append P (each_below n given) (given n) (below-all P n given (λ i short. each i (omega (arith, short)))) (each n (omega arith))

  pub length-below : (n w : ℕ) (given : ℕ → List X) → ((i : ℕ) → i < n → length (given i) ≡ w) → length (each_below n given) ≡ n * w
  unfolding each_below
  length-below zero w given each = let none : 0 * w ≡ 0 = omega arith in sym none
  length-below (suc n) w given each =
      let total = length-append (each_below n given) (given n) in
      let front = length-below n w given (λ i short. each i (omega (arith, short))) in
      let last = each n (omega arith) in
      let product = suc-mul n w in
      omega (arith, total, front, last, product)

  pub at-below : (n w : ℕ) (given : ℕ → List X) → ((i : ℕ) → i < n → length (given i) ≡ w) → (i j : ℕ) (d : X) → i < n → j < w
      → get_or (each_below n given) (i * w + j) d ≡ get_or (given i) j d
  unfolding each_below
  at-below zero w given each i j d short within = absurd (omega (arith, short))
  at-below (suc n) w given each i j d short within =
      let sizes : (k : ℕ) → k < n → length (given k) ≡ w = λ k less. each k (omega (arith, less)) in
      let front = length-below n w given sizes in
      elim (cases_lt i n) [
        | inl less ↦
            let h = place-below i j n w less within in
            get_or_append_left (each_below n given) (given n) d (i * w + j) (omega (arith, h, front)) ∙ at-below n w given sizes i j d less within
        | inr more ↦
            let same : n ≡ i = omega (arith, short, more) in
            subst (λ (k : ℕ). get_or (each_below n given ++ given n) (k * w + j) d ≡ get_or (given k) j d) same
            (ap (λ (k : ℕ). get_or (each_below n given ++ given n) (k + j) d) (sym front) ∙ get_or-append-add (each_below n given) (given n) j d)
      ]
