-- Two parts walked in step: their texts up to the first weights that differ, and their digits as far as both have some.
use Rattle.std.proofs.Common.{◌≡◌, ℕ, zero, suc, ◌+◌, ◌-◌, ◌<◌, ◌≤◌, true, false, true≢false, nat_lt, ltb-true, ltb-false, List, [], ◌∷◌, length, map}
use Rattle.std.proofs.Common.{get_or, take, drop, one-add, ℤ, ◌<ℤ◌, pos, Ordering, Less, Equal, Greater, int_cmp, nat_cmp, eqb-true, min, refl, sym, ap, ap₂}
use Rattle.std.proofs.Common.{◌∙◌, subst, inl, inr, arith}
use Rattle.std.specs.Char.{is_ascii_digit}
use Rattle.std.specs.Cmp.Lexicographic.{slice_cmp}
use Rattle.std.specs.List.{prefix_len}
use Rattle.std.specs.Ordering.{ordering_then, is_ne}
use Rattle.std.specs.Str.Parse.{digits_value}
use Rattle.std.proofs.lemmas.Bool.{cases_Bool, cases_order}
use Rattle.std.proofs.lemmas.Cmp.{by_ranked, int_ranked}
use Rattle.std.proofs.lemmas.List.{length-map}
use Rattle.std.proofs.lemmas.List.Folds.{length-prefix_len}
use Rattle.std.proofs.lemmas.List.Sums.{prefix_len_passes, prefix_len_stops}
use Rattle.dist_version.specs.Order.{weight_of, weight_at, text_start, digit_start, weights_cmp}
use Rattle.dist_version.proofs.Density.{other_byte, text_start-cons}
use Rattle.dist_version.proofs.Digits.{is_zero, without_zeros, without_zeros-first, HasNoZero, digits_cmp}
use Rattle.dist_version.proofs.Then.{then_go_on, nat_cmp-less, nat_cmp-same, nat_cmp-greater}
use Rattle.dist_version.proofs.Turns.{weight_nonzero, weights_cmp-drop, digit_start-all}

-- ---- texts

abbrev pub texts_cmp : List ℕ → List ℕ → Ordering
texts_cmp a b = weights_cmp (map weight_of (text_start a)) (map weight_of (text_start b))

-- a first weight of 0 is that of no byte
no_text : (part : List ℕ) → weight_at (map weight_of (text_start part)) 0 ≡ pos 0 → map weight_of (text_start part) ≡ []
no_text [] e = refl
no_text (c ∷ cs) e = elim (cases_Bool (is_ascii_digit c)) [
  | inl digit ↦ rw digit refl
  | inr other ↦ absurd ((weight_nonzero c).0 (ap (int_cmp (pos 0)) (sym (ap (λ (s : List ℕ). weight_at (map weight_of s) 0) (text_start-cons c cs other)) ∙ e)))
]

-- any other is that of the first byte, and those of the next ones follow
pub some_text : (part : List ℕ) → (weight_at (map weight_of (text_start part)) 0 ≡ pos 0 → ⊥)
    → (0 < length part) × (map weight_of (text_start (drop 1 part)) ≡ drop 1 (map weight_of (text_start part)))
some_text [] some = absurd (some refl)
some_text (c ∷ cs) some = elim (cases_Bool (is_ascii_digit c)) [
  | inl digit ↦ absurd (some (rw digit refl))
  | inr other ↦ (omega arith, sym (ap (λ (s : List ℕ). drop 1 (map weight_of s)) (text_start-cons c cs other)))
]

abbrev pub first_cmp : List ℕ → List ℕ → Ordering
first_cmp a b = int_cmp (weight_at (map weight_of (text_start a)) 0) (weight_at (map weight_of (text_start b)) 0)

int_same : (x y : ℤ) → int_cmp x y ≡ Equal → x ≡ y
int_same x y e = by_ranked (x <ℤ y) (x ≡ y) (y <ℤ x) (int_cmp x y) (int_ranked x y (int_cmp x y) refl) (λ f p. cc) (λ f p. p) (λ f p. cc)

not_ne : (o : Ordering) → false ≡ is_ne o → o ≡ Equal
not_ne Less h = absurd (true≢false (sym h))
not_ne Equal h = refl
not_ne Greater h = absurd (true≢false (sym h))

some_weight : (part : List ℕ) → 0 < prefix_len other_byte part → weight_at (map weight_of (text_start part)) 0 ≡ pos 0 → ⊥
some_weight part some e = absurd (omega (arith, some, ap length (no_text part e), length-map (text_start part) weight_of, length-prefix_len other_byte part))

-- Where the first weights are the same, and those of bytes, the next ones decide.
pub texts_go_on : (a b : List ℕ) → false ≡ is_ne (first_cmp a b) → true ≡ nat_lt 0 (prefix_len other_byte a)
    → (0 < length a) × (0 < length b) × (texts_cmp (drop 1 a) (drop 1 b) ≡ texts_cmp a b)
texts_go_on a b h begins =
    let some = some_weight a (ltb-true 0 (prefix_len other_byte a) (sym begins)) in
    let s = some_text a some in
    let t = some_text b (λ e. some (int_same _ _ (not_ne (first_cmp a b) h) ∙ e)) in (
      s.0,
      t.0,
      ap₂ weights_cmp s.1 t.1
          ∙ sym (weights_cmp-drop (map weight_of (text_start a)) (map weight_of (text_start b)) 0 ∙ then_go_on (first_cmp a b) _ h),
    )

-- ---- digits

pub digit_more : (part : List ℕ) (end : ℕ) → end ≤ prefix_len is_ascii_digit part → end < length part → is_ascii_digit (get_or part end 0) ≡ true
    → end + 1 ≤ prefix_len is_ascii_digit part
digit_more part end within some digit = elim (cases_order (prefix_len is_ascii_digit part) end) [
  | inl same ↦ absurd (true≢false (sym digit ∙ ap (λ k. is_ascii_digit (get_or part k 0)) (sym same)
      ∙ prefix_len_stops is_ascii_digit part 0 (omega (arith, same, some))))
  | inr apart ↦ elim apart [
    | inl less ↦ absurd (omega (arith, less, within))
    | inr more ↦ omega (arith, more)
  ]
]

pub digit_last : (part : List ℕ) (end : ℕ) → is_ascii_digit (get_or part end 0) ≡ false → prefix_len is_ascii_digit part ≤ end
digit_last part end other = elim (cases_order end (prefix_len is_ascii_digit part)) [
  | inl same ↦ omega (arith, same)
  | inr apart ↦ elim apart [
    | inl less ↦ absurd (true≢false (sym (prefix_len_passes is_ascii_digit part end 0 less) ∙ other))
    | inr more ↦ omega (arith, more)
  ]
]

-- digits that are left behind some of them
digits_left : (part : List ℕ) (end : ℕ) → end ≤ prefix_len is_ascii_digit part
    → prefix_len is_ascii_digit (drop end part) ≡ prefix_len is_ascii_digit part - end
digits_left part zero within = omega arith
digits_left [] (suc n) within = absurd (omega (arith, within))
digits_left (c ∷ cs) (suc n) within = elim (cases_Bool (is_ascii_digit c)) [
  | inl digit ↦
      let more : suc n ≤ 1 + prefix_len is_ascii_digit cs = rw digit at within in
      digits_left cs n (omega (arith, more)) ∙ rw digit (omega (arith, more))
  | inr other ↦ let none : suc n ≤ 0 = rw other at within in absurd (omega (arith, none))
]

-- zeros in front say nothing
pub zeros_passed : (part : List ℕ) → digits_value 10 (digit_start (without_zeros part)) ≡ digits_value 10 (digit_start part)
zeros_passed [] = refl
zeros_passed (c ∷ cs) = elim (cases_Bool (is_zero c)) [
  | inl zero_digit ↦
      let P : ℕ → Type 0 = λ d. digits_value 10 (digit_start (without_zeros (d ∷ cs))) ≡ digits_value 10 (digit_start (d ∷ cs)) in
      subst P (sym (eqb-true c 48 zero_digit)) (rw (one-add, one-add) (zeros_passed cs))
  | inr other ↦ rw other refl
]

first_digit : (part : List ℕ) → HasNoZero part → HasNoZero (digit_start part)
first_digit [] first = tt
first_digit (c ∷ cs) first = elim (cases_Bool (is_ascii_digit c)) [
  | inl digit ↦ rw (digit, one-add) first
  | inr other ↦ rw other tt
]

abbrev pub number_cmp : List ℕ → List ℕ → Ordering
number_cmp a b = nat_cmp (digits_value 10 (digit_start a)) (digits_value 10 (digit_start b))

by_digits : (a b : List ℕ) → HasNoZero a → HasNoZero b → number_cmp a b
    ≡ ordering_then (nat_cmp (prefix_len is_ascii_digit a) (prefix_len is_ascii_digit b)) (slice_cmp nat_cmp (digit_start a) (digit_start b))
by_digits a b first second =
    digits_cmp (digit_start a) (digit_start b) (digit_start-all a) (digit_start-all b) (first_digit a first) (first_digit b second)
    ∙ rw (length-prefix_len is_ascii_digit a, length-prefix_len is_ascii_digit b) refl

-- The numbers of two parts that begin with no zero, by whether digits are left behind those that both have.
pub record InStep (a b : List ℕ) (end : ℕ) : Type 0 where
  pub greater : true ≡ nat_lt 0 (prefix_len is_ascii_digit (drop end a)) → false ≡ nat_lt 0 (prefix_len is_ascii_digit (drop end b)) → Greater ≡ number_cmp a b
  pub less : false ≡ nat_lt 0 (prefix_len is_ascii_digit (drop end a)) → true ≡ nat_lt 0 (prefix_len is_ascii_digit (drop end b)) → Less ≡ number_cmp a b
  pub same : nat_lt 0 (prefix_len is_ascii_digit (drop end a)) ≡ nat_lt 0 (prefix_len is_ascii_digit (drop end b))
      → slice_cmp nat_cmp (take end a) (take end b) ≡ number_cmp a b

in_step : (a b : List ℕ) (end : ℕ) → HasNoZero a → HasNoZero b → end ≡ min (prefix_len is_ascii_digit a) (prefix_len is_ascii_digit b) → InStep a b end
in_step a b end first second is = record {
  greater = λ e f.
      let more = ltb-true 0 (prefix_len is_ascii_digit (drop end a)) (sym e) in
      let none = ltb-false 0 (prefix_len is_ascii_digit (drop end b)) (sym f) in
      sym (by_digits a b first second ∙ ap (λ o. ordering_then o (slice_cmp nat_cmp (digit_start a) (digit_start b)))
      (nat_cmp-greater (prefix_len is_ascii_digit a) (prefix_len is_ascii_digit b) (omega (arith, more, none, left, right, is))));
  less = λ e f.
      let none = ltb-false 0 (prefix_len is_ascii_digit (drop end a)) (sym e) in
      let more = ltb-true 0 (prefix_len is_ascii_digit (drop end b)) (sym f) in
      sym (by_digits a b first second ∙ ap (λ o. ordering_then o (slice_cmp nat_cmp (digit_start a) (digit_start b)))
      (nat_cmp-less (prefix_len is_ascii_digit a) (prefix_len is_ascii_digit b) (omega (arith, more, none, left, right, is))));
  same = λ e. elim (cases_Bool (nat_lt 0 (prefix_len is_ascii_digit (drop end a)))) [
    | inl more ↦
        let here = ltb-true 0 (prefix_len is_ascii_digit (drop end a)) more in
        let there = ltb-true 0 (prefix_len is_ascii_digit (drop end b)) (sym e ∙ more) in
        absurd (omega (arith, here, there, left, right, is))
    | inr none ↦
        let here = ltb-false 0 (prefix_len is_ascii_digit (drop end a)) none in
        let there = ltb-false 0 (prefix_len is_ascii_digit (drop end b)) (sym e ∙ none) in
        let one : end ≡ prefix_len is_ascii_digit a = omega (arith, here, there, left, right, is) in
        let two : end ≡ prefix_len is_ascii_digit b = omega (arith, here, there, left, right, is) in
        ap₂ (λ m n. slice_cmp nat_cmp (take m a) (take n b)) one two
        ∙ sym (by_digits a b first second ∙ ap (λ o. ordering_then o (slice_cmp nat_cmp (digit_start a) (digit_start b)))
        (nat_cmp-same (prefix_len is_ascii_digit a) (prefix_len is_ascii_digit b) (sym one ∙ two)))
  ];
}
  where
    left : prefix_len is_ascii_digit (drop end a) ≡ prefix_len is_ascii_digit a - end
    left = digits_left a end (omega (arith, is))

    right : prefix_len is_ascii_digit (drop end b) ≡ prefix_len is_ascii_digit b - end
    right = digits_left b end (omega (arith, is))

-- the same of two parts with zeros in front, by what the code has left of them
pub numbers_in_step : (a b x y : List ℕ) (end : ℕ) → x ≡ without_zeros a → y ≡ without_zeros b
    → end ≡ min (prefix_len is_ascii_digit x) (prefix_len is_ascii_digit y) → InStep x y end × (number_cmp x y ≡ number_cmp a b)
numbers_in_step a b x y end e f is = (
  in_step x y end (subst HasNoZero (sym e) (without_zeros-first a)) (subst HasNoZero (sym f) (without_zeros-first b)) is,
  rw (e, f) (ap₂ nat_cmp (zeros_passed a) (zeros_passed b)),
)
