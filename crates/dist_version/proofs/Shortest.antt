-- A number written by other digits leaves the weights of a part as they are.
use Rattle.std.proofs.Common.{◌≡◌, ℕ, ◌<◌, true, List, [], ◌∷◌, ◌++◌, length, map, drop, length-append, pos, ℤ, refl, sym, ap, ◌∙◌, subst, inl, inr, arith}
use Rattle.std.proofs.Common.{one-add}
use Rattle.std.specs.Char.{is_ascii_digit}
use Rattle.std.specs.List.{list_all}
use Rattle.std.specs.Str.Parse.{digits_value}
use Rattle.std.proofs.lemmas.Bool.{and_parts, cases_Bool}
use Rattle.dist_version.specs.Order.{weight_of, text_start, digit_start, after_text, after_turn, number_of, weights_of}
use Rattle.dist_version.proofs.Density.{other_byte, Halts, turned, text_start-cons, digit_other, after_text-halts}
use Rattle.dist_version.proofs.Turns.{weights_of-turn, weights_of-empty, take_while-all}

no_weights : (x : List ℕ) → weights_of x ≡ [] → x ≡ []
no_weights [] e = refl
no_weights (c ∷ cs) e = absurd (omega (
  arith,
  ap length (sym (weights_of-turn (c ∷ cs) (omega arith)) ∙ e),
  length-append (map weight_of (text_start (c ∷ cs))) (pos 0 ∷ pos (number_of (c ∷ cs)) ∷ weights_of (after_turn (c ∷ cs))),
))

-- where a turn has no digits, nothing is left
nothing_left : (after : List ℕ) → Halts other_byte after → length (digit_start after) ≡ 0 → after ≡ []
nothing_left [] halts none = refl
nothing_left (c ∷ cs) halts none = elim (cases_Bool (is_ascii_digit c)) [
  | inl digit ↦ absurd (omega (arith, rw (digit, one-add) at none))
  | inr other ↦ absurd (let e = rw other at halts in cc)
]

-- where the digits of a turn begin its text has ended
stops : (rest ds x : List ℕ) → list_all is_ascii_digit ds ≡ true → (0 < length (digit_start (after_text rest)) → 0 < length ds)
    → weights_of x ≡ weights_of (after_turn rest) → Halts other_byte (ds ++ x)
stops rest [] x all kept same =
    let none : length (digit_start (after_text rest)) ≡ 0 = grind (arith, kept) in
    let left : after_text rest ≡ [] = nothing_left (after_text rest) (after_text-halts rest) none in
    let after : after_turn rest ≡ [] = ap (λ (s : List ℕ). drop (length (digit_start s)) s) left in
    let empty : x ≡ [] = no_weights x (same ∙ ap weights_of after ∙ weights_of-empty) in
    subst (Halts other_byte) (sym empty) tt
stops rest (d ∷ ds) x all some same = digit_other d (and_parts (is_ascii_digit d) (list_all is_ascii_digit ds) all).0

turn_weights : (s t : List ℕ) (m n : ℕ) (xs ys : List ℤ) → s ≡ t → m ≡ n → xs ≡ ys
    → map weight_of s ++ pos 0 ∷ pos m ∷ xs ≡ map weight_of t ++ pos 0 ∷ pos n ∷ ys
turn_weights s t m n xs ys e f g = rw (e, f, g) refl

begins : (rest ds x : List ℕ) → 0 < length rest → (0 < length (digit_start (after_text rest)) → 0 < length ds) → 0 < length (text_start rest ++ (ds ++ x))
begins [] ds x some kept = absurd (omega (arith, some))
begins (c ∷ cs) ds x some kept = elim (cases_Bool (is_ascii_digit c)) [
  | inl digit ↦
      let none : text_start (c ∷ cs) ≡ [] = rw digit refl in
      let whole : after_text (c ∷ cs) ≡ c ∷ cs = ap (λ (s : List ℕ). drop (length s) (c ∷ cs)) none in
      let digits : 0 < length (digit_start (c ∷ cs)) = rw (digit, one-add) (omega arith) in
      let more : 0 < length ds = kept (subst (λ (s : List ℕ). 0 < length (digit_start s)) (sym whole) digits) in
      omega (arith, more, length-append (text_start (c ∷ cs)) (ds ++ x), length-append ds x)
  | inr other ↦ omega (arith, ap length (text_start-cons c cs other), length-append (text_start (c ∷ cs)) (ds ++ x))
]

pub respelled : (rest ds x : List ℕ) → 0 < length rest → list_all is_ascii_digit ds ≡ true → digits_value 10 ds ≡ number_of rest
    → (0 < length (digit_start (after_text rest)) → 0 < length ds) → weights_of x ≡ weights_of (after_turn rest) → Halts is_ascii_digit x
    → weights_of (text_start rest ++ (ds ++ x)) ≡ weights_of rest
respelled rest ds x some all value kept same halts =
    let t = turned (text_start rest) ds x (take_while-all other_byte rest) all (stops rest ds x all kept same) halts in
    weights_of-turn (text_start rest ++ (ds ++ x)) (begins rest ds x some kept)
    ∙ turn_weights _ _ _ _ _ _ t.text (ap (digits_value 10) t.digits ∙ value) (ap weights_of t.rest ∙ same)
    ∙ sym (weights_of-turn rest some)

-- it begins with no digit where it didn't
pub still_halts : (rest y : List ℕ) → 0 < length rest → Halts is_ascii_digit rest → Halts is_ascii_digit (text_start rest ++ y)
still_halts [] y some halts = absurd (omega (arith, some))
still_halts (c ∷ cs) y some halts = rw (text_start-cons c cs halts) halts
