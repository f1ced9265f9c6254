-- Two lists of words compared eight at a time, and what that says of their bits.
use Rattle.std.proofs.Common.{◌≡◌, ◌≢◌, ◌↔◌, ℕ, zero, suc, ◌+◌, ◌-◌, ◌*◌, ◌/◌, ◌%◌, ◌<◌, ◌≤◌, true, false, not, ◌&&◌, ◌⊎◌, eqb, List, [], ◌∷◌, length, get_or}
use Rattle.std.proofs.Common.{refl, ap, ap₂, sym, ◌∙◌, inl, inr, arith, bit_and, bit_or, bit_xor, Fits, w64}
use Rattle.std.specs.Prelude.{IsTrue}
use Rattle.std.proofs.lemmas.Bool.{cases_eq, cases_lt, eqb-true, eq-eqb, ne_eqb, and_parts, false≢true, not_from_false}
use Rattle.std.proofs.lemmas.List.{get_or_past}
use Rattle.std.proofs.lemmas.Nat.{le_or_l, le_or_r}
use Rattle.std.proofs.lemmas.Nat.Bits.{bit_at_and, bit_at_xor, bit_at-lt, bit_at-zero, bit_at-trailing_zeros, same_from_bits, same_from_bits_below}
use Rattle.std.proofs.lemmas.Simd.{get_or-chunk, get_or-zip2, length-chunk, length-zip2}
use Rattle.std.specs.Int.{bit_at, trailing_zeros}
use Rattle.std.specs.Int.Bits.{and_lt, xor_self}
use Rattle.std.specs.Simd.Lanes.{zip2, chunk, fold_l}
use Rattle.dist_lanes.specs.Bits.{bit}
use Rattle.dist_lanes.proofs.WordsLemmas.{anded_lanes, length-anded_lanes, get_or-anded_lanes, bit_of_and}

-- ---- whether some lane is not 0

lane-cons : (x : ℕ) (xs : List ℕ) → x ≡ 0 → ((k : ℕ) → get_or xs k 0 ≡ 0) → (k : ℕ) → get_or (x ∷ xs) k 0 ≡ 0
lane-cons x xs e rest zero = e
lane-cons x xs e rest (suc k) = rest k

lane-all : (xs : List ℕ) (a : ℕ) → fold_l bit_or a xs ≡ 0 → (a ≡ 0) × ((k : ℕ) → get_or xs k 0 ≡ 0)
lane-all [] a e = (e, λ k. refl)
lane-all (x ∷ xs) a e =
    let h = lane-all xs (bit_or a x) e in (
      let first : a ≡ 0 = omega (arith, le_or_l a x, h.0) in first,
      lane-cons x xs (let second : x ≡ 0 = omega (arith, le_or_r a x, h.0) in second) h.1,
    )

lane-none : (xs : List ℕ) (a : ℕ) → a ≡ 0 → ((k : ℕ) → k < length xs → get_or xs k 0 ≡ 0) → fold_l bit_or a xs ≡ 0
lane-none [] a e h = e
lane-none (x ∷ xs) a e h =
    lane-none xs (bit_or a x) (ap₂ bit_or e (h 0 (let l : 0 < length (x ∷ xs) = omega arith in l)))
    (λ k l. h (suc k) (let below : suc k < length (x ∷ xs) = omega arith in below))

lane-some : (xs : List ℕ) (a : ℕ) → fold_l bit_or a xs ≢ 0 → (a ≢ 0) ⊎ ((k : ℕ) × ((k < length xs) × (get_or xs k 0 ≢ 0)))
lane-some [] a h = inl h
lane-some (x ∷ xs) a h = elim (lane-some xs (bit_or a x) h) [
  | inl here ↦ elim (cases_eq x 0) [
    | inl none ↦ inl (λ e. here (ap₂ bit_or e none))
    | inr apart ↦ inr (0, (let l : 0 < length (x ∷ xs) = omega arith in l, apart))
  ]
  | inr later ↦ inr (suc later.0, (let l : suc later.0 < length (x ∷ xs) = omega (arith, later.1.0) in l, later.1.1))
]

xor-zero : (a b : ℕ) → bit_xor a b ≡ 0 → a ≡ b
xor-zero a b e =
    same_from_bits a b (λ i.
    let both = bit_at_xor a b i in
    let none = ap (λ x. bit_at x i) e ∙ bit_at-zero i in
    omega (arith, bit_at-lt a i, bit_at-lt b i))

-- ---- the first words from one place up to another are within the others, or apart from them

abbrev pub AreWithin : List ℕ → List ℕ → ℕ → ℕ → Type 0
AreWithin words others from to = (k : ℕ) → from ≤ k → k < to → bit_and (get_or words k 0) (get_or others k 0) ≡ get_or words k 0

abbrev pub AreApart : List ℕ → List ℕ → ℕ → ℕ → Type 0
AreApart words others from to = (k : ℕ) → from ≤ k → k < to → bit_and (get_or words k 0) (get_or others k 0) ≡ 0

abbrev pub different_lanes : List ℕ → List ℕ → ℕ → List ℕ
different_lanes words others at = zip2 bit_xor (anded_lanes words others at) (chunk at 8 words)

length-different_lanes : (words others : List ℕ) (at : ℕ) → at + 8 ≤ length words → at + 8 ≤ length others
    → length (different_lanes words others at) ≡ 8
length-different_lanes words others at a b =
    length-zip2 bit_xor (anded_lanes words others at) (chunk at 8 words)
    (length-anded_lanes words others at a b ∙ sym (length-chunk at 8 words a)) ∙ length-anded_lanes words others at a b

get_or-different_lanes : (words others : List ℕ) (at k : ℕ) → at + 8 ≤ length words → at + 8 ≤ length others → at ≤ k → k < at + 8
    → get_or (different_lanes words others at) (k - at) 0 ≡ bit_xor (bit_and (get_or words k 0) (get_or others k 0)) (get_or words k 0)
get_or-different_lanes words others at k a b low high =
    let inside : k - at < 8 = omega arith in
    let place : at + (k - at) ≡ k = omega arith in
    get_or-zip2 bit_xor (anded_lanes words others at) (chunk at 8 words) (k - at) 0 0 0
    (omega (arith, length-anded_lanes words others at a b)) (omega (arith, length-chunk at 8 words a))
    ∙ (ap₂ bit_xor (get_or-anded_lanes words others at (k - at) a b inside) (get_or-chunk at 8 words (k - at) 0 inside)
    ∙ ap (λ j. bit_xor (bit_and (get_or words j 0) (get_or others j 0)) (get_or words j 0)) place)

pub lanes-within : (words others : List ℕ) (at : ℕ) → at + 8 ≤ length words → at + 8 ≤ length others
    → IsTrue (eqb (fold_l bit_or 0 (different_lanes words others at)) 0) ↔ AreWithin words others at (at + 8)
lanes-within words others at a b = (
  λ none k low high.
      let all = lane-all (different_lanes words others at) 0 (eqb-true (fold_l bit_or 0 (different_lanes words others at)) 0 none) in
      xor-zero (bit_and (get_or words k 0) (get_or others k 0)) (get_or words k 0)
      (sym (get_or-different_lanes words others at k a b low high) ∙ all.1 (k - at)),
  λ within.
      eq-eqb (fold_l bit_or 0 (different_lanes words others at)) 0
      (lane-none (different_lanes words others at) 0 refl (λ j below.
      let small : j < 8 = omega (arith, length-different_lanes words others at a b) in
      let place : at + j - at ≡ j = omega arith in
      ap (λ i. get_or (different_lanes words others at) i 0) (sym place)
      ∙ (get_or-different_lanes words others at (at + j) a b (omega arith) (omega arith)
      ∙ (ap (λ x. bit_xor x (get_or words (at + j) 0)) (within (at + j) (omega arith) (omega arith)) ∙ xor_self (get_or words (at + j) 0))))),
)

get_or-anded : (words others : List ℕ) (at k : ℕ) → at + 8 ≤ length words → at + 8 ≤ length others → at ≤ k → k < at + 8
    → get_or (anded_lanes words others at) (k - at) 0 ≡ bit_and (get_or words k 0) (get_or others k 0)
get_or-anded words others at k a b low high =
    get_or-anded_lanes words others at (k - at) a b (omega arith)
    ∙ ap (λ j. bit_and (get_or words j 0) (get_or others j 0)) (let place : at + (k - at) ≡ k = omega arith in place)

pub lanes-meet : (words others : List ℕ) (at : ℕ) → at + 8 ≤ length words → at + 8 ≤ length others
    → IsTrue (not (eqb (fold_l bit_or 0 (anded_lanes words others at)) 0))
    ↔ ((k : ℕ) × (at ≤ k) × (k < at + 8) × (bit_and (get_or words k 0) (get_or others k 0) ≢ 0))
lanes-meet words others at a b = (
  λ some.
      let apart : fold_l bit_or 0 (anded_lanes words others at) ≢ 0 =
      λ e. false≢true (sym (ap not (eq-eqb (fold_l bit_or 0 (anded_lanes words others at)) 0 e)) ∙ some) in
      elim (lane-some (anded_lanes words others at) 0 apart) [
        | inl none ↦ absurd (none refl)
        | inr lane ↦
            let small : lane.0 < 8 = omega (arith, lane.1.0, length-anded_lanes words others at a b) in
            (at + lane.0, omega arith, omega arith, λ e. lane.1.1 (get_or-anded_lanes words others at lane.0 a b small ∙ e))
      ],
  λ some.
      not_from_false (eqb (fold_l bit_or 0 (anded_lanes words others at)) 0) (ne_eqb (fold_l bit_or 0 (anded_lanes words others at)) 0 (λ e.
      some.3 (sym (get_or-anded words others at some.0 a b some.1 some.2) ∙ (lane-all (anded_lanes words others at) 0 e).1 (some.0 - at)))),
)

-- each word from one place up to another is zero
abbrev pub AreZero : List ℕ → ℕ → ℕ → Type 0
AreZero words from to = (k : ℕ) → from ≤ k → k < to → get_or words k 0 ≡ 0

pub lanes-zero : (words : List ℕ) (at : ℕ) → at + 8 ≤ length words
    → IsTrue (eqb (fold_l bit_or 0 (chunk at 8 words)) 0) → AreZero words at (at + 8)
lanes-zero words at a none k low high =
    let all = lane-all (chunk at 8 words) 0 (eqb-true (fold_l bit_or 0 (chunk at 8 words)) 0 none) in
    let inside : k - at < 8 = omega arith in
    let place : at + (k - at) ≡ k = omega arith in
    ap (λ j. get_or words j 0) (sym place) ∙ (sym (get_or-chunk at 8 words (k - at) 0 inside) ∙ all.1 (k - at))

-- ---- and their bits

pub bit-past : (words : List ℕ) (k : ℕ) → length words ≤ k / 64 → bit words k ≡ false
bit-past words k past =
    ap (λ w. eqb (bit_at w (k % 64)) 1) (get_or_past words (k / 64) 0 past) ∙ ap (λ b. eqb b 1) (bit_at-zero (k % 64))

pub bits-of-within : (words others : List ℕ) → AreWithin words others 0 (length words) → (k : ℕ) → bit words k ≡ true → bit others k ≡ true
bits-of-within words others within k set = elim (cases_lt (k / 64) (length words)) [
  | inl inside ↦
      let word = within (k / 64) (omega arith) inside in
      (and_parts (bit words k) (bit others k) (sym (bit_of_and (get_or words (k / 64) 0) (get_or others (k / 64) 0) (k % 64))
      ∙ (ap (λ w. eqb (bit_at w (k % 64)) 1) word ∙ set))).1
  | inr past ↦ absurd (false≢true (sym (bit-past words k past) ∙ set))
]

pub bit-in-word : (words : List ℕ) (j i : ℕ) → i < 64 → bit words (64 * j + i) ≡ eqb (bit_at (get_or words j 0) i) 1
bit-in-word words j i small =
    ap (λ q. eqb (bit_at (get_or words q 0) ((64 * j + i) % 64)) 1) (let e : (64 * j + i) / 64 ≡ j = omega arith in e)
    ∙ ap (λ r. eqb (bit_at (get_or words j 0) r) 1) (let e : (64 * j + i) % 64 ≡ i = omega arith in e)

pub within-from-bits : (words others : List ℕ) → ((k : ℕ) → Fits w64 (get_or words k 0)) → ((k : ℕ) → Fits w64 (get_or others k 0))
    → ((k : ℕ) → bit words k ≡ true → bit others k ≡ true) → (j : ℕ) → bit_and (get_or words j 0) (get_or others j 0) ≡ get_or words j 0
within-from-bits words others first second within j =
    let x = get_or words j 0 in
    let y = get_or others j 0 in
    same_from_bits_below 64 (bit_and x y) x (and_lt 64 x y (first j).fits (second j).fits) (first j).fits
    (λ i small.
    let both = bit_at_and x y i in
    elim (cases_eq (bit_at x i) 1) [
      | inl one ↦
          let there = within (64 * j + i) (bit-in-word words j i small ∙ eq-eqb (bit_at x i) 1 one) in
          let other : bit_at y i ≡ 1 = eqb-true (bit_at y i) 1 (sym (bit-in-word others j i small) ∙ there) in
          omega arith
      | inr apart ↦ omega (arith, bit_at-lt x i)
    ])

pub apart-from-bits : (words others : List ℕ) → AreApart words others 0 (length words)
    → (k : ℕ) → bit words k ≡ true → bit others k ≡ true → ⊥
apart-from-bits words others apart k here there = elim (cases_lt (k / 64) (length words)) [
  | inl inside ↦
      let word = apart (k / 64) (omega arith) inside in
      let joined : (bit words k && bit others k) ≡ true = ap₂ (λ a b. a && b) here there in
      false≢true (sym (ap (λ w. eqb (bit_at w (k % 64)) 1) word ∙ ap (λ b. eqb b 1) (bit_at-zero (k % 64)))
      ∙ (bit_of_and (get_or words (k / 64) 0) (get_or others (k / 64) 0) (k % 64) ∙ joined))
  | inr past ↦ false≢true (sym (bit-past words k past) ∙ here)
]

pub meet-from-word : (words others : List ℕ) (j : ℕ) → Fits w64 (get_or words j 0) → Fits w64 (get_or others j 0)
    → bit_and (get_or words j 0) (get_or others j 0) ≢ 0 → (k : ℕ) × (bit words k ≡ true) × (bit others k ≡ true)
meet-from-word words others j first second apart =
    let x = get_or words j 0 in
    let y = get_or others j 0 in
    let positive : 0 < bit_and x y = omega arith in
    let lowest = bit_at-trailing_zeros w64 (bit_and x y) positive (and_lt 64 x y first.fits second.fits) in
    let i = trailing_zeros w64 (bit_and x y) in
    let parts = and_parts (eqb (bit_at x i) 1) (eqb (bit_at y i) 1) (sym (bit_of_and x y i) ∙ eq-eqb (bit_at (bit_and x y) i) 1 lowest.1) in
    (64 * j + i, bit-in-word words j i lowest.0 ∙ parts.0, bit-in-word others j i lowest.0 ∙ parts.1)
