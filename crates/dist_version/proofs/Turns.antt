-- The order of two parts, turn by turn.
use Rattle.std.proofs.Common.{◌≡◌, ◌≢◌, ℕ, zero, suc, ◌+◌, ◌-◌, ◌<◌, ◌≤◌, add-zero, add-suc, add-one, one-add, true≢false, Bool, true, false, not, ◌==◌, List}
use Rattle.std.proofs.Common.{[], ◌∷◌, ◌++◌, length, map, take, drop, length-take, length-drop, ℤ, pos, Ordering, Less, Equal, Greater, int_cmp, nat_cmp, refl}
use Rattle.std.proofs.Common.{sym, ap, ap₂, ◌∙◌, inl, inr, arith}
use Rattle.std.specs.Char.{is_ascii_digit, is_ascii_alphabetic}
use Rattle.std.specs.List.{prefix_len, list_all}
use Rattle.std.specs.Ordering.{ordering_then, ordering_reverse}
use Rattle.std.specs.Str.Parse.{digits_value}
use Rattle.std.proofs.lemmas.Bool.{cases_Bool}
use Rattle.std.proofs.lemmas.Bool.Decides.{nat_tests}
use Rattle.std.proofs.lemmas.List.{drop_all}
use Rattle.std.proofs.lemmas.List.Sums.{prefix_len-le-length}
use Rattle.dist_version.specs.Order.{weight_of, weight_at, text_start, digit_start, after_text, after_turn, number_of, turns, weights_of, weights_cmp, part_cmp}
use Rattle.dist_version.proofs.Then.{then_assoc, nat_cmp-less, nat_cmp-greater}
use Rattle.dist_version.specs.OrderLaws.{weights_total}

-- the weights of its bytes before that
abbrev pub text_weights : List ℕ → List ℤ
text_weights part = map weight_of (text_start part)

-- ---- answers, one after another

then_stops : (o p q r : Ordering) → o ≢ Equal → ordering_then o p ≡ ordering_then (ordering_then o q) r
then_stops Less p q r h = refl
then_stops Equal p q r h = absurd (h refl)
then_stops Greater p q r h = refl

-- ---- weights by places

drop-nil : {A : Type 0} (i : ℕ) → drop {A = A} i [] ≡ []
drop-nil zero = refl
drop-nil (suc i) = refl

weights_cmp-drop_suc : (xs ys : List ℤ) (i : ℕ) → weights_cmp (drop i xs) (drop i ys)
    ≡ ordering_then (int_cmp (weight_at xs i) (weight_at ys i)) (weights_cmp (drop (suc i) xs) (drop (suc i) ys))
weights_cmp-drop_suc [] [] zero = refl
weights_cmp-drop_suc [] (y ∷ ys) zero = refl
weights_cmp-drop_suc (x ∷ xs) [] zero = refl
weights_cmp-drop_suc (x ∷ xs) (y ∷ ys) zero = refl
weights_cmp-drop_suc [] [] (suc i) = refl
weights_cmp-drop_suc [] (y ∷ ys) (suc i) = rw drop-nil at (weights_cmp-drop_suc [] ys i)
weights_cmp-drop_suc (x ∷ xs) [] (suc i) = rw drop-nil at (weights_cmp-drop_suc xs [] i)
weights_cmp-drop_suc (x ∷ xs) (y ∷ ys) (suc i) = weights_cmp-drop_suc xs ys i

pub weights_cmp-drop : (xs ys : List ℤ) (i : ℕ) → weights_cmp (drop i xs) (drop i ys)
    ≡ ordering_then (int_cmp (weight_at xs i) (weight_at ys i)) (weights_cmp (drop (i + 1) xs) (drop (i + 1) ys))
weights_cmp-drop xs ys i = rw add-one (weights_cmp-drop_suc xs ys i)

pub weights_cmp-past : (xs ys : List ℤ) (i : ℕ) → length xs ≤ i → length ys ≤ i → weights_cmp (drop i xs) (drop i ys) ≡ Equal
weights_cmp-past xs ys i h k = rw (drop_all i xs h, drop_all i ys k) refl

-- ---- how many turns do not matter

-- two lists of weights compare alike with every other
abbrev Alike : List ℤ → List ℤ → Type 0
Alike xs ys = (zs : List ℤ) → weights_cmp xs zs ≡ weights_cmp ys zs

zeros_alike : Alike (pos 0 ∷ pos 0 ∷ []) []
zeros_alike [] = refl
zeros_alike (y ∷ []) = refl
zeros_alike (y ∷ z ∷ zs) = refl

drop_shorter : (n : ℕ) (xs : List ℕ) → length (drop n xs) ≤ length xs
drop_shorter n xs = omega (arith, length-drop n xs)

length-taken : (test : ℕ → Bool) (xs : List ℕ) → length (take (prefix_len test xs) xs) ≡ prefix_len test xs
length-taken test xs = omega (arith, length-take (prefix_len test xs) xs, prefix_len-le-length test xs)

starts_by : (test : ℕ → Bool) (x : ℕ) (xs : List ℕ) → test x ≡ true → 0 < prefix_len test (x ∷ xs)
starts_by test x xs h = rw h (omega arith)

starts_not_by : (test : ℕ → Bool) (x : ℕ) (xs : List ℕ) → test x ≡ false → prefix_len test (x ∷ xs) ≡ 0
starts_not_by test x xs h = rw h refl

-- a turn takes a byte at least
pub after_turn_shorter : (x : ℕ) (xs : List ℕ) → length (after_turn (x ∷ xs)) ≤ length xs
after_turn_shorter x xs =
    let part = x ∷ xs in
    let other : ℕ → Bool = λ b. not (is_ascii_digit b) in
    let first : length (after_text part) ≡ length part - length (text_start part) = length-drop (length (text_start part)) part in
    let second : length (after_turn part) ≡ length (after_text part) - length (digit_start (after_text part)) =
    length-drop (length (digit_start (after_text part))) (after_text part) in
    elim (cases_Bool (is_ascii_digit x)) [
      | inl digit ↦
          let none : length (text_start part) ≡ 0 = length-taken other part ∙ starts_not_by other x xs (rw digit refl) in
          let whole : after_text part ≡ part = ap (λ n. drop n part) none in
          let some : 0 < length (digit_start part) = omega (arith, length-taken is_ascii_digit part, starts_by is_ascii_digit x xs digit) in
          omega (arith, first, second, none, some, ap (λ p. length (digit_start p)) whole, ap length whole)
      | inr letter ↦
          let some : 0 < length (text_start part) = omega (arith, length-taken other part, starts_by other x xs (rw letter refl)) in
          omega (arith, first, second, some)
    ]

after_turn-le : (n : ℕ) (part : List ℕ) → length part ≤ suc n → length (after_turn part) ≤ n
after_turn-le n [] h = omega arith
after_turn-le n (x ∷ xs) h = omega (arith, after_turn_shorter x xs)

-- turns past the end give nothing
more_turns : (n : ℕ) (part : List ℕ) → length part ≤ n → turns (suc n) part ≡ turns n part
more_turns zero [] h = refl
more_turns (suc n) [] h = refl
more_turns zero (x ∷ xs) h = absurd (omega arith)
more_turns (suc n) (x ∷ xs) h =
    ap (λ ws. text_weights (x ∷ xs) ++ pos 0 ∷ pos (number_of (x ∷ xs)) ∷ ws) (more_turns n (after_turn (x ∷ xs)) (after_turn-le n (x ∷ xs) h))

enough_turns : (k : ℕ) (part : List ℕ) → turns (length part + k) part ≡ weights_of part
unfolding weights_of
enough_turns zero part = rw add-zero refl
enough_turns (suc k) part = rw add-suc (more_turns (length part + k) part (omega arith) ∙ enough_turns k part)

turns_enough : (n : ℕ) (part : List ℕ) → length part ≤ n → turns n part ≡ weights_of part
turns_enough n part h =
    let e : n ≡ length part + (n - length part) = omega arith in
    ap (λ m. turns m part) e ∙ enough_turns (n - length part) part

-- the weights of a part that is not empty are those of its first turn and of what is left
pub weights_of-turn : (part : List ℕ) → 0 < length part → weights_of part ≡ text_weights part ++ pos 0 ∷ pos (number_of part) ∷ weights_of (after_turn part)
unfolding weights_of
weights_of-turn [] some = absurd (omega (arith, some))
weights_of-turn (x ∷ xs) some =
    ap (λ ws. text_weights (x ∷ xs) ++ pos 0 ∷ pos (number_of (x ∷ xs)) ∷ ws) (turns_enough (length xs) (after_turn (x ∷ xs)) (after_turn_shorter x xs))

pub weights_of-empty : weights_of [] ≡ []
unfolding weights_of
weights_of-empty = refl

-- those of an empty one are zeros alone, like those of one more turn
first_turn : (part : List ℕ) → Alike (weights_of part) (text_weights part ++ pos 0 ∷ pos (number_of part) ∷ weights_of (after_turn part))
unfolding weights_of
first_turn [] zs = sym (zeros_alike zs)
first_turn (x ∷ xs) zs = ap (λ ws. weights_cmp ws zs) (weights_of-turn (x ∷ xs) (omega arith))

-- ---- one turn of both

-- the weight of a byte is not that of the end
abbrev pub IsNonzero : ℤ → Type 0
IsNonzero z = (int_cmp (pos 0) z ≢ Equal) × (int_cmp z (pos 0) ≢ Equal)

int_cmp-pos : (m n : ℕ) → int_cmp (pos m) (pos n) ≡ nat_cmp m n
int_cmp-pos m n = grind (arith, nat_tests)

positive_nonzero : (n : ℕ) → 0 < n → IsNonzero (pos n)
positive_nonzero n h =
    let below : int_cmp (pos 0) (pos n) ≡ Less = int_cmp-pos 0 n ∙ nat_cmp-less 0 n h in
    let above : int_cmp (pos n) (pos 0) ≡ Greater = int_cmp-pos n 0 ∙ nat_cmp-greater n 0 h in
    (λ e. cc, λ e. cc)

letter_positive : (b : ℕ) → is_ascii_alphabetic b ≡ true → 0 < b
letter_positive zero h = absurd (true≢false (sym h))
letter_positive (suc b) h = omega arith

pub weight_nonzero : (b : ℕ) → IsNonzero (weight_of b)
weight_nonzero b = elim (cases_Bool (b == 126)) [
  | inl tilde ↦ rw tilde (λ e. cc, λ e. cc)
  | inr other ↦ elim (cases_Bool (is_ascii_alphabetic b)) [
    | inl letter ↦ rw (other, letter) (positive_nonzero b (letter_positive b letter))
    | inr sign ↦ rw (other, sign) (positive_nonzero (b + 256) (omega arith))
  ]
]

by_texts : (s t : List ℕ) (m n : ℕ) (xs ys : List ℤ) → weights_cmp (map weight_of s ++ pos 0 ∷ pos m ∷ xs) (map weight_of t ++ pos 0 ∷ pos n ∷ ys)
    ≡ ordering_then (weights_cmp (map weight_of s) (map weight_of t)) (ordering_then (nat_cmp m n) (weights_cmp xs ys))
by_texts [] [] m n xs ys = ap (λ o. ordering_then o (weights_cmp xs ys)) (int_cmp-pos m n)
by_texts [] (y ∷ t) m n xs ys = then_stops (int_cmp (pos 0) (weight_of y)) _ _ _ (weight_nonzero y).0
by_texts (x ∷ s) [] m n xs ys = then_stops (int_cmp (weight_of x) (pos 0)) _ _ _ (weight_nonzero x).1
by_texts (x ∷ s) (y ∷ t) m n xs ys =
    ap (ordering_then (int_cmp (weight_of x) (weight_of y))) (by_texts s t m n xs ys) ∙ then_assoc (int_cmp (weight_of x) (weight_of y)) _ _

alike_right : (xs ys : List ℤ) → Alike xs ys → (zs : List ℤ) → weights_cmp zs xs ≡ weights_cmp zs ys
alike_right xs ys h zs = weights_total.antisymm zs xs ∙ ap ordering_reverse (h zs) ∙ sym (weights_total.antisymm zs ys)

pub part_cmp-turn : (a b : List ℕ) → part_cmp a b ≡ ordering_then (weights_cmp (text_weights a) (text_weights b))
    (ordering_then (nat_cmp (number_of a) (number_of b)) (part_cmp (after_turn a) (after_turn b)))
unfolding part_cmp
part_cmp-turn a b =
    first_turn a (weights_of b)
    ∙ alike_right _ _ (first_turn b) _
    ∙ by_texts (text_start a) (text_start b) (number_of a) (number_of b) (weights_of (after_turn a)) (weights_of (after_turn b))

-- parts of the same weights compare alike
pub part_cmp-alike : (a b x y : List ℕ) → weights_of a ≡ weights_of x → weights_of b ≡ weights_of y → part_cmp a b ≡ part_cmp x y
unfolding part_cmp
part_cmp-alike a b x y e f = ap₂ weights_cmp e f

pub part_cmp-empty : part_cmp [] [] ≡ Equal
unfolding part_cmp weights_of
part_cmp-empty = refl

pub take_while-all : (test : ℕ → Bool) (xs : List ℕ) → list_all test (take (prefix_len test xs) xs) ≡ true
take_while-all test [] = refl
take_while-all test (x ∷ xs) = elim (cases_Bool (test x)) [
  | inl pass ↦ rw (pass, one-add, pass) (take_while-all test xs)
  | inr fail ↦ rw fail refl
]

pub digit_start-all : (part : List ℕ) → list_all is_ascii_digit (digit_start part) ≡ true
digit_start-all part = take_while-all is_ascii_digit part

pub after_turn-shorter_by_one : (part : List ℕ) → length (after_turn part) ≤ length part - 1
after_turn-shorter_by_one [] = omega arith
after_turn-shorter_by_one (x ∷ xs) = omega (arith, after_turn_shorter x xs)

-- by the order of the first turns
pub part_cmp-by_turns : (a b : List ℕ) (order : Ordering)
    → order ≡ ordering_then (weights_cmp (text_weights a) (text_weights b)) (nat_cmp (number_of a) (number_of b))
    → part_cmp a b ≡ ordering_then order (part_cmp (after_turn a) (after_turn b))
part_cmp-by_turns a b order is = rw is (part_cmp-turn a b ∙ then_assoc (weights_cmp (text_weights a) (text_weights b)) (nat_cmp (number_of a) (number_of b))
    (part_cmp (after_turn a) (after_turn b)))

-- the same by the texts and the digits of the turns
pub part_cmp-step : (a b s t d e : List ℕ) (order : Ordering) → s ≡ text_start a → t ≡ text_start b → d ≡ digit_start (after_text a)
    → e ≡ digit_start (after_text b) →
    order ≡ ordering_then (weights_cmp (map weight_of s) (map weight_of t)) (nat_cmp (digits_value 10 d) (digits_value 10 e))
    → part_cmp a b ≡ ordering_then order (part_cmp (after_turn a) (after_turn b))
part_cmp-step a b s t d e order f g h k is = part_cmp-by_turns a b order (is ∙ rw (f, g, h, k) refl)

pub part_cmp-ended : (a b : List ℕ) → length a ≡ 0 → length b ≡ 0 → Equal ≡ part_cmp a b
part_cmp-ended [] [] h k = sym part_cmp-empty
part_cmp-ended [] (y ∷ b) h k = absurd (omega (arith, k))
part_cmp-ended (x ∷ a) b h k = absurd (omega (arith, h))
