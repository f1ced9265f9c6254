-- What two parts begin with alike, and which ends in no digit, does not tell in their order.
use Rattle.std.proofs.Common.{◌≡◌, ℕ, ◌-◌, ◌<◌, ◌≤◌, true, false, zero, suc, get_or, List, [], ◌∷◌, ◌++◌, append_assoc, length, map, take}
use Rattle.std.proofs.Common.{take-append-drop, drop, reverse, Equal, int_cmp, nat_cmp}
use Rattle.std.proofs.Common.{refl, sym, ap, ap₂, ◌∙◌, inl, inr, arith}
use Rattle.std.specs.Char.{is_ascii_digit}
use Rattle.std.specs.List.{list_all, suffix_len}
use Rattle.std.specs.Ordering.{ordering_then}
use Rattle.std.proofs.lemmas.Bool.{and_parts, cases_Bool, cases_order}
use Rattle.std.proofs.lemmas.Cmp.{tied_itself, int_cmp_total}
use Rattle.std.proofs.lemmas.List.{take-take, get_or-reverse, length-reverse}
use Rattle.std.proofs.lemmas.List.Sums.{prefix_len_stops}
use Rattle.std.specs.Str.Parse.{digits_value}
use Rattle.std.proofs.lemmas.List.Folds.{list_all-append}
use Rattle.dist_version.specs.Order.{weight_of, text_start, digit_start, after_text, weights_cmp, part_cmp}
use Rattle.dist_version.specs.Between.{ends_in_digit}
use Rattle.dist_version.proofs.Then.{nat_cmp-same}
use Rattle.dist_version.proofs.Turns.{part_cmp-turn, part_cmp-step}
use Rattle.dist_version.proofs.Density.{turned, text_start-cons, digit_other}

-- one turn, by what the parts begin with and what follows that
turn_of : (a b s t u v : List ℕ) → text_start a ≡ s → text_start b ≡ t → after_text a ≡ u → after_text b ≡ v
    → part_cmp a b ≡ ordering_then (weights_cmp (map weight_of s) (map weight_of t))
    (ordering_then (nat_cmp (digits_value 10 (digit_start u)) (digits_value 10 (digit_start v)))
    (part_cmp (drop (length (digit_start u)) u) (drop (length (digit_start v)) v)))
turn_of a b s t u v e f g h = rw (← e, ← f, ← g, ← h) (part_cmp-turn a b)

-- a byte that is no digit
text_passed : (c : ℕ) (x y : List ℕ) → is_ascii_digit c ≡ false → part_cmp (c ∷ x) (c ∷ y) ≡ part_cmp x y
text_passed c x y other =
    turn_of (c ∷ x) (c ∷ y) _ _ (after_text x) (after_text y) (text x) (text y) (after x) (after y)
    ∙ rw tied (sym (part_cmp-turn x y))
  where
    text : (z : List ℕ) → text_start (c ∷ z) ≡ c ∷ text_start z
    text z = text_start-cons c z other

    after : (z : List ℕ) → after_text (c ∷ z) ≡ after_text z
    after z = ap (λ (s : List ℕ). drop (length s) (c ∷ z)) (text z)

    tied : int_cmp (weight_of c) (weight_of c) ≡ Equal
    tied = tied_itself int_cmp_total (weight_of c)

-- a whole run of digits
run_passed : (ds x y : List ℕ) (c : ℕ) → list_all is_ascii_digit ds ≡ true → is_ascii_digit c ≡ false
    → part_cmp (ds ++ c ∷ x) (ds ++ c ∷ y) ≡ part_cmp (c ∷ x) (c ∷ y)
run_passed [] x y c all other = refl
run_passed (d ∷ ds) x y c all other =
    let stop = digit_other d (and_parts (is_ascii_digit d) (list_all is_ascii_digit ds) all).0 in
    let s = turned [] (d ∷ ds) (c ∷ x) refl all stop other in
    let t = turned [] (d ∷ ds) (c ∷ y) refl all stop other in
    let number = digits_value 10 (d ∷ ds) in
    part_cmp-step (d ∷ ds ++ c ∷ x) (d ∷ ds ++ c ∷ y) [] [] (d ∷ ds) (d ∷ ds) Equal (sym s.text) (sym t.text) (sym s.digits) (sym t.digits)
    (sym (nat_cmp-same number number refl)) ∙ ap₂ part_cmp s.rest t.rest

pub front_passed : (p ds x y : List ℕ) → list_all is_ascii_digit ds ≡ true → (0 < length ds → 0 < length p) → ends_in_digit p ≡ false
    → part_cmp (ds ++ (p ++ x)) (ds ++ (p ++ y)) ≡ part_cmp x y
front_passed [] [] x y all some ends = refl
front_passed [] (d ∷ ds) x y all some ends = absurd (omega (arith, some (omega arith)))
front_passed (c ∷ []) ds x y all some ends = run_passed ds x y c all ends ∙ text_passed c x y ends
front_passed (c ∷ e ∷ p) ds x y all some ends = elim (cases_Bool (is_ascii_digit c)) [
  | inl digit ↦ ap₂ part_cmp (sym (append_assoc ds (c ∷ []) (e ∷ p ++ x))) (sym (append_assoc ds (c ∷ []) (e ∷ p ++ y)))
      ∙ front_passed (e ∷ p) (ds ++ c ∷ []) x y (more digit) (λ some. omega arith) ends
  | inr other ↦ run_passed ds (e ∷ p ++ x) (e ∷ p ++ y) c all other ∙ text_passed c (e ∷ p ++ x) (e ∷ p ++ y) other
      ∙ front_passed (e ∷ p) [] x y refl (λ some. omega arith) ends
]
  where
    more : is_ascii_digit c ≡ true → list_all is_ascii_digit (ds ++ c ∷ []) ≡ true
    more digit = list_all-append is_ascii_digit ds (c ∷ []) ∙ rw (all, digit) refl

ends_at-suc : (part : List ℕ) (place : ℕ) → place < length part → ends_in_digit (take (suc place) part) ≡ is_ascii_digit (get_or part place 0)
ends_at-suc [] place within = absurd (omega (arith, within))
ends_at-suc (b ∷ bs) zero within = refl
ends_at-suc (b ∷ []) (suc place) within = absurd (omega (arith, within))
ends_at-suc (b ∷ c ∷ cs) (suc place) within = ends_at-suc (c ∷ cs) place (omega (arith, within))

-- whether so many bytes end in a digit tells the last of them
pub ends_at : (part : List ℕ) (end : ℕ) → 0 < end → end ≤ length part → ends_in_digit (take end part) ≡ is_ascii_digit (get_or part (end - 1) 0)
ends_at part end some within =
    let last : end ≡ suc (end - 1) = omega (arith, some) in
    ap (λ n. ends_in_digit (take n part)) last ∙ ends_at-suc part (end - 1) (omega (arith, some, within))

-- without the digits at the end
pub ends_without_digits : (part : List ℕ) → ends_in_digit (take (length part - suffix_len is_ascii_digit part) part) ≡ false
ends_without_digits part = elim (cases_order (length part - digits) 0) [
  | inl none ↦ ap (λ n. ends_in_digit (take n part)) none
  | inr apart ↦ elim apart [
    | inl less ↦ absurd (omega (arith, less))
    | inr some ↦ ends_at part (length part - digits) some (omega arith) ∙ ap (λ n. is_ascii_digit (get_or part n 0)) (place some)
        ∙ ap is_ascii_digit (sym (get_or-reverse part digits 0 (omega (arith, some))))
        ∙ prefix_len_stops is_ascii_digit (reverse part) 0 (omega (arith, some, length-reverse part))
  ]
]
  where
    digits : ℕ
    digits = suffix_len is_ascii_digit part

    place : 0 < length part - digits → length part - digits - 1 ≡ length part - 1 - digits
    place some = omega (arith, some)

-- the same of two parts that begin with the same bytes, as far as the last that is no digit
pub after_common : (a b : List ℕ) (n end : ℕ) → take n a ≡ take n b → end ≤ n → ends_in_digit (take end (take n a)) ≡ false
    → part_cmp (drop end a) (drop end b) ≡ part_cmp a b
after_common a b n end same within ends =
    let front : take end a ≡ take end b = sym (take-take end n a within) ∙ ap (take end) same ∙ take-take end n b within in
    let whole : b ≡ take end a ++ drop end b = sym (ap (λ (s : List ℕ). s ++ drop end b) front ∙ take-append-drop end b) in
    sym (ap₂ part_cmp (sym (take-append-drop end a)) whole
    ∙ front_passed (take end a) [] (drop end a) (drop end b) refl (λ some. absurd (omega (arith, some)))
    (ap ends_in_digit (sym (take-take end n a within)) ∙ ends))
