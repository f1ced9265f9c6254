-- The first bit that is set at or behind a place.
use Rattle.std.proofs.Common.{◌≡◌, ◌≢◌, ℕ, ◌+◌, ◌-◌, ◌*◌, ◌/◌, ◌%◌, ◌^◌, ◌<◌, ◌≤◌, true, false, eqb, List, length, get_or, ap, sym, subst, ◌∙◌, inl, inr}
use Rattle.std.proofs.Common.{arith, bit_and, w64}
use Rattle.std.proofs.lemmas.Bool.{cases_lt, eq-eqb}
use Rattle.std.proofs.lemmas.Nat.{pow_pos}
use Rattle.std.proofs.lemmas.Nat.Bits.{bit_at_and, bit_at-lt, bit_at-zero, bit_at-trailing_zeros, bit_at_mask_inside, bit_at_mask_below, ones_shl}
use Rattle.std.specs.Int.Bits.{and_lt}
use Rattle.std.specs.Int.{bit_at, trailing_zeros}
use Rattle.dist_lanes.specs.Bits.{bit}
use Rattle.dist_lanes.specs.BitsPrivate.{AreClear}
use Rattle.dist_lanes.proofs.LanesLemmas.{AreZero, bit-in-word, bit-past}

-- a word without its bits below a place
abbrev masked : ℕ → ℕ → ℕ
masked word place = bit_and word (2 ^ 64 - 2 ^ place)

masked-same : (word s i : ℕ) → i < 64 → s ≤ i → bit_at (masked word s) i ≡ bit_at word i
masked-same word s i small above =
    let both = bit_at_and word (2 ^ 64 - 2 ^ s) i in
    let inside = bit_at_mask_inside s 64 i above small in
    omega (arith, bit_at-lt word i)

masked-clear : (word s i : ℕ) → i < s → bit_at (masked word s) i ≡ 0
masked-clear word s i below =
    let both = bit_at_and word (2 ^ 64 - 2 ^ s) i in
    let outside = bit_at_mask_below s 64 i below in
    omega arith

-- the place is the first one at or behind another that is set
pub record IsNextAt (words : List ℕ) (from place : ℕ) : Type 0 where
  pub behind : from ≤ place
  pub set : bit words place ≡ true
  pub clear : AreClear words from place

next-in-first : (words : List ℕ) (from : ℕ) → masked (get_or words (from / 64) 0) (from % 64) ≢ 0
    → masked (get_or words (from / 64) 0) (from % 64) < 2 ^ 64
    → IsNextAt words from (64 * (from / 64) + trailing_zeros w64 (masked (get_or words (from / 64) 0) (from % 64)))
next-in-first words from some fits =
    let word = get_or words (from / 64) 0 in
    let s = from % 64 in
    let m = masked word s in
    let positive : 0 < m = omega arith in
    let lowest = bit_at-trailing_zeros w64 m positive fits in
    let t = trailing_zeros w64 m in
    let reached : s ≤ t = elim (cases_lt t s) [
      | inl below ↦ absurd (omega (arith, masked-clear word s t below, lowest.1))
      | inr above ↦ above
    ] in
    record {
      behind = omega arith;
      set = bit-in-word words (from / 64) t lowest.0 ∙ eq-eqb (bit_at word t) 1 (sym (masked-same word s t lowest.0 reached) ∙ lowest.1);
      clear = λ k low high.
          let same : k / 64 ≡ from / 64 = omega (arith, lowest.0) in
          let small : k % 64 < 64 = omega arith in
          let behind : s ≤ k % 64 = omega (arith, lowest.0) in
          let before : k % 64 < t = omega (arith, lowest.0) in
          ap (λ j. eqb (bit_at (get_or words j 0) (k % 64)) 1) same
          ∙ ap (λ b. eqb b 1) (sym (masked-same word s (k % 64) small behind) ∙ lowest.2 (k % 64) before);
    }

first-is-clear : (words : List ℕ) (from : ℕ) → masked (get_or words (from / 64) 0) (from % 64) ≡ 0
    → AreClear words from (64 * (from / 64 + 1))
first-is-clear words from none k low high =
    let word = get_or words (from / 64) 0 in
    let same : k / 64 ≡ from / 64 = omega arith in
    let small : k % 64 < 64 = omega arith in
    let behind : from % 64 ≤ k % 64 = omega arith in
    ap (λ j. eqb (bit_at (get_or words j 0) (k % 64)) 1) same
    ∙ ap (λ b. eqb b 1) (sym (masked-same word (from % 64) (k % 64) small behind) ∙ (ap (λ w. bit_at w (k % 64)) none ∙ bit_at-zero (k % 64)))

pub next-in-word : (words : List ℕ) (from j : ℕ) → from ≤ 64 * j → AreClear words from (64 * j) → get_or words j 0 ≢ 0 → get_or words j 0 < 2 ^ 64
    → IsNextAt words from (64 * j + trailing_zeros w64 (get_or words j 0))
next-in-word words from j behind clear some fits =
    let word = get_or words j 0 in
    let positive : 0 < word = omega arith in
    let lowest = bit_at-trailing_zeros w64 word positive fits in
    let t = trailing_zeros w64 word in
    record {
      behind = omega arith;
      set = bit-in-word words j t lowest.0 ∙ eq-eqb (bit_at word t) 1 lowest.1;
      clear = λ k low high. elim (cases_lt k (64 * j)) [
        | inl before ↦ clear k low before
        | inr here ↦
            let same : k / 64 ≡ j = omega (arith, lowest.0) in
            let under : k % 64 < t = omega (arith, lowest.0) in
            ap (λ j. eqb (bit_at (get_or words j 0) (k % 64)) 1) same ∙ ap (λ b. eqb b 1) (lowest.2 (k % 64) under)
      ];
    }

pub word-is-clear : (words : List ℕ) (from j : ℕ) → AreClear words from (64 * j) → get_or words j 0 ≡ 0 → AreClear words from (64 * (j + 1))
word-is-clear words from j clear none k low high = elim (cases_lt k (64 * j)) [
  | inl before ↦ clear k low before
  | inr here ↦
      let same : k / 64 ≡ j = omega arith in
      ap (λ j. eqb (bit_at (get_or words j 0) (k % 64)) 1) same
      ∙ ap (λ b. eqb b 1) (ap (λ w. bit_at w (k % 64)) none ∙ bit_at-zero (k % 64))
]

pub zeros-are-clear : (words : List ℕ) (from j n : ℕ) → AreClear words from (64 * j) → AreZero words j n → AreClear words from (64 * n)
zeros-are-clear words from j n clear zeros k low high = elim (cases_lt k (64 * j)) [
  | inl before ↦ clear k low before
  | inr here ↦
      ap (λ w. eqb (bit_at w (k % 64)) 1) (zeros (k / 64) (omega arith) (omega arith)) ∙ ap (λ b. eqb b 1) (bit_at-zero (k % 64))
]

pub all-clear : (words : List ℕ) (from n : ℕ) → length words ≤ n → AreClear words from (64 * n) → (k : ℕ) → from ≤ k → bit words k ≡ false
all-clear words from n end clear k low = elim (cases_lt k (64 * n)) [
  | inl before ↦ clear k low before
  | inr past ↦ bit-past words k (omega arith)
]

shifted-mask : (from : ℕ) → 2 ^ 64 - 2 ^ (from % 64) ≡ 18446744073709551615 * 2 ^ (from % 64) % 2 ^ 64
shifted-mask from = sym (ones_shl 64 (from % 64) (omega arith))

pub next-behind-mask : (words : List ℕ) (from : ℕ) → get_or words (from / 64) 0 < 2 ^ 64
    → bit_and (get_or words (from / 64) 0) (18446744073709551615 * 2 ^ (from % 64) % 2 ^ 64) ≢ 0
    → IsNextAt words from (64 * (from / 64) + trailing_zeros w64 (bit_and (get_or words (from / 64) 0) (18446744073709551615 * 2 ^ (from % 64) % 2 ^ 64)))
next-behind-mask words from fits =
    let P : ℕ → Type 0 = λ mask. bit_and (get_or words (from / 64) 0) mask ≢ 0
    → IsNextAt words from (64 * (from / 64) + trailing_zeros w64 (bit_and (get_or words (from / 64) 0) mask)) in
    subst P (shifted-mask from) (λ some. next-in-first words from some
    (and_lt 64 (get_or words (from / 64) 0) (2 ^ 64 - 2 ^ (from % 64)) fits (omega (arith, pow_pos (from % 64)))))

pub clear-behind-mask : (words : List ℕ) (from : ℕ)
    → bit_and (get_or words (from / 64) 0) (18446744073709551615 * 2 ^ (from % 64) % 2 ^ 64) ≡ 0 → AreClear words from (64 * (from / 64 + 1))
clear-behind-mask words from none =
    first-is-clear words from (ap (bit_and (get_or words (from / 64) 0)) (shifted-mask from) ∙ none)
