-- Truth values kept as bits: their list, all of them false, and one of them set.
use Rattle.std.proofs.Common.{◌≡◌, ◌≢◌, ℕ, ◌*◌, ◌/◌, ◌%◌, ◌<◌, Bool, false, eqb, List, length, get_or, set, replicate, ap, sym, ◌∙◌, inl, inr, arith}
use Rattle.std.proofs.lemmas.Bool.{cases_eq, cases_lt, ne_eqb}
use Rattle.std.proofs.lemmas.List.{same_lists, length-set, length-replicate, get_or-replicate, get_or_past, get_or-set_same, get_or-set_other}
use Rattle.std.proofs.lemmas.List.FromFn.{length-map-range_with_len, get_or-map-range_with_len}
use Rattle.std.proofs.lemmas.Nat.Bits.{bit_at-zero}
use Rattle.std.specs.Int.{bit_at}
use Rattle.dist_lanes.specs.Bits.{bit, bits, SetsBit}

pub length-bits : (words : List ℕ) (n : ℕ) → length (bits words n) ≡ n
length-bits words n = length-map-range_with_len (bit words) 0 n

pub get_or-bits : (words : List ℕ) (n k : ℕ) (d : Bool) → k < n → get_or (bits words n) k d ≡ bit words k
get_or-bits words n k d h = get_or-map-range_with_len (bit words) 0 n k k d h (omega arith)

word-zero : (m j : ℕ) → get_or {A = ℕ} (replicate m 0) j 0 ≡ 0
word-zero m j = elim (cases_lt j m) [
  | inl h ↦ get_or-replicate m j 0 0 h
  | inr h ↦ get_or_past (replicate m 0) j 0 (omega (arith, length-replicate {A = ℕ} m 0))
]

pub bit-zero : (m k : ℕ) → bit (replicate m 0) k ≡ false
bit-zero m k =
    let word = word-zero m (k / 64) in
    let zero_bit : bit_at (get_or (replicate m 0) (k / 64) 0) (k % 64) ≡ 0 = ap (λ w. bit_at w (k % 64)) word ∙ bit_at-zero (k % 64) in
    ne_eqb (bit_at (get_or (replicate m 0) (k / 64) 0) (k % 64)) 1 (λ e. omega arith)

pub bits-replicate : (m n : ℕ) → bits (replicate m 0) n ≡ replicate n false
bits-replicate m n =
    same_lists (bits (replicate m 0) n) (replicate n false) (length-bits (replicate m 0) n ∙ sym (length-replicate n false))
    (λ k d h.
    let within : k < n = omega (arith, length-bits (replicate m 0) n) in
    get_or-bits (replicate m 0) n k d within ∙ (bit-zero m k ∙ sym (get_or-replicate n k false d within)))

pub bits-set : (old new : List ℕ) (place : ℕ) (value : Bool) (n : ℕ) → SetsBit old new place value → place < n → bits new n ≡ set (bits old n) place value
bits-set old new place value n h within =
    same_lists (bits new n) (set (bits old n) place value) (length-bits new n ∙ sym (length-set (bits old n) place value ∙ length-bits old n))
    (λ k d k_within.
    let k_below : k < n = omega (arith, length-bits new n) in
    let place_within : place < length (bits old n) = omega (arith, length-bits old n) in
    get_or-bits new n k d k_below ∙ (elim (cases_eq k place) [
      | inl same ↦ ap (bit new) same ∙ (h.changed ∙ sym (ap (λ j. get_or (set (bits old n) place value) j d) same
          ∙ get_or-set_same (bits old n) place value d place_within))
      | inr other ↦ h.others k other ∙ sym (get_or-set_other (bits old n) place k value d other ∙ get_or-bits old n k d k_below)
    ]))

-- a word is replaced by one that differs in one bit
pub SetsBit-from_word : (words : List ℕ) (place word : ℕ) (value : Bool) → place < 64 * length words
    → eqb (bit_at word (place % 64)) 1 ≡ value
    → ((i : ℕ) → i < 64 → i ≢ place % 64 → bit_at word i ≡ bit_at (get_or words (place / 64) 0) i)
    → SetsBit words (set words (place / 64) word) place value
SetsBit-from_word words place word value within changed others = record {
  same_length = length-set words (place / 64) word;
  changed = ap (λ w. eqb (bit_at w (place % 64)) 1) (get_or-set_same words (place / 64) word 0 (let h : place / 64 < length words = omega arith in h))
      ∙ changed;
  others = λ k other. elim (cases_eq (k / 64) (place / 64)) [
    | inl same ↦
        let apart : k % 64 ≢ place % 64 = λ e. other (omega arith) in
        let inside : place / 64 < length words = omega arith in
        let small : k % 64 < 64 = omega arith in
        ap (λ j. eqb (bit_at (get_or (set words (place / 64) word) j 0) (k % 64)) 1) same
        ∙ (ap (λ w. eqb (bit_at w (k % 64)) 1) (get_or-set_same words (place / 64) word 0 inside)
        ∙ (ap (λ b. eqb b 1) (others (k % 64) small apart)
        ∙ ap (λ j. eqb (bit_at (get_or words j 0) (k % 64)) 1) (sym same)))
    | inr apart ↦ ap (λ w. eqb (bit_at w (k % 64)) 1) (get_or-set_other words (place / 64) (k / 64) word 0 apart)
  ];
}
