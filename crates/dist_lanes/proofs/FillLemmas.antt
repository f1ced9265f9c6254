-- Every place gets one value.
use Rattle.std.proofs.Common.{◌≡◌, ℕ, ◌+◌, ◌-◌, ◌/◌, ◌%◌, ◌^◌, ◌<◌, true, false, eqb, List, length, get_or, set, replicate, ap, ◌∙◌, inl, inr, arith}
use Rattle.std.proofs.lemmas.Bool.{cases_eq, eq-eqb}
use Rattle.std.proofs.lemmas.List.{length-set, length-replicate, get_or-replicate, get_or-set_same, get_or-set_other}
use Rattle.std.proofs.lemmas.Nat.Bits.{bit_at_ones, bit_at_ones_above, ones_shr}
use Rattle.std.specs.Int.{bit_at}
use Rattle.dist_lanes.specs.Bits.{bit}
use Rattle.dist_lanes.specs.BitsPrivate.{FillsPlaces}
use Rattle.dist_lanes.proofs.BitsLemmas.{bit-zero}
use Rattle.dist_lanes.proofs.LanesLemmas.{bit-past}

-- all 64 bits
abbrev pub ones : ℕ
ones = 18446744073709551615

pub fills-false : (old : List ℕ) (places : ℕ) → FillsPlaces old (replicate (length old) 0) places false
fills-false old places = record {
  same_length = length-replicate {A = ℕ} (length old) 0;
  filled = λ k below. bit-zero (length old) k;
  clean = λ k above. bit-zero (length old) k;
}

bit-ones : (m k : ℕ) → k / 64 < m → bit (replicate m ones) k ≡ true
bit-ones m k within =
    ap (λ w. eqb (bit_at w (k % 64)) 1) (get_or-replicate m (k / 64) ones 0 within)
    ∙ eq-eqb (bit_at ones (k % 64)) 1 (bit_at_ones 64 (k % 64) (let small : k % 64 < 64 = omega arith in small))

pub fills-whole : (old : List ℕ) (places : ℕ) → length old ≡ (places + 63) / 64 → places % 64 ≡ 0
    → FillsPlaces old (replicate (length old) ones) places true
fills-whole old places fitting whole =
    let long = length-replicate {A = ℕ} (length old) ones in
    record {
      same_length = long;
      filled = λ k below. bit-ones (length old) k (omega arith);
      clean = λ k above. bit-past (replicate (length old) ones) k (omega arith);
    }

pub fills-part : (old : List ℕ) (places : ℕ) → length old ≡ (places + 63) / 64 → 0 < places % 64
    → FillsPlaces old (set (replicate (length old) ones) (places / 64) (ones / 2 ^ (64 - places % 64))) places true
fills-part old places fitting part =
    let last = ones / 2 ^ (64 - places % 64) in
    let whole = replicate (length old) ones in
    let long = length-replicate {A = ℕ} (length old) ones in
    let same = length-set whole (places / 64) last in
    let left : 64 - (64 - places % 64) ≡ places % 64 = omega arith in
    let cut : last ≡ 2 ^ (places % 64) - 1 = ones_shr 64 (64 - places % 64) (omega arith) ∙ ap (λ n. 2 ^ n - 1) left in
    let at_last : (k : ℕ) → k / 64 ≡ places / 64 → bit (set whole (places / 64) last) k ≡ eqb (bit_at (2 ^ (places % 64) - 1) (k % 64)) 1 =
    λ k here. ap (λ j. eqb (bit_at (get_or (set whole (places / 64) last) j 0) (k % 64)) 1) here
    ∙ (ap (λ w. eqb (bit_at w (k % 64)) 1) (get_or-set_same whole (places / 64) last 0 (let l : places / 64 < length whole = omega arith in l))
    ∙ ap (λ w. eqb (bit_at w (k % 64)) 1) cut) in
    record {
      same_length = same ∙ long;
      filled = λ k below. elim (cases_eq (k / 64) (places / 64)) [
        | inl here ↦ at_last k here ∙ eq-eqb (bit_at (2 ^ (places % 64) - 1) (k % 64)) 1 (bit_at_ones (places % 64) (k % 64) (omega arith))
        | inr before ↦ ap (λ w. eqb (bit_at w (k % 64)) 1) (get_or-set_other whole (places / 64) (k / 64) last 0 before)
            ∙ bit-ones (length old) k (omega arith)
      ];
      clean = λ k above. elim (cases_eq (k / 64) (places / 64)) [
        | inl here ↦ at_last k here ∙ ap (λ b. eqb b 1) (bit_at_ones_above (places % 64) (k % 64) (omega arith))
        | inr behind ↦ bit-past (set whole (places / 64) last) k (omega arith)
      ];
    }
