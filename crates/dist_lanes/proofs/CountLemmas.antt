-- How many bits of some words are set, and how many places of a row are true.
use Rattle.std.proofs.Common.{◌≡◌, ℕ, zero, suc, ◌+◌, ◌-◌, ◌*◌, ◌^◌, ◌<◌, ◌≤◌, Bool, false, cond, eqb, List, [], ◌∷◌, ◌++◌, map, length, take, drop, get_or}
use Rattle.std.proofs.Common.{refl, ap, ap₂, sym, ◌∙◌, inl, inr, arith, sum_by, count_ones, Fits, w64}
use Rattle.std.proofs.Math.Seq.{take-add}
use Rattle.std.proofs.lemmas.Bool.{cases_eq, ne_eqb}
use Rattle.std.proofs.lemmas.List.{take_all}
use Rattle.std.proofs.lemmas.List.Folds.{fold-map}
use Rattle.std.proofs.lemmas.List.FromFn.{length-map-range_with_len, get_or-map-range_with_len, fill_by_all}
use Rattle.std.proofs.lemmas.List.Sums.{sum_by-append, sum_by_more, count_by-le-length}
use Rattle.std.proofs.lemmas.Nat.Bits.{bit_at-lt, same_from_bits_below}
use Rattle.std.proofs.lemmas.Simd.{ones-mask_l, mask_l-lt, bit_mask_l}
use Rattle.std.specs.Int.{bit_at}
use Rattle.std.specs.List.{count_by, range_with_len}
use Rattle.std.specs.Simd.Lanes.{chunk, mask_l}
use Rattle.dist_lanes.specs.Bits.{bit, bits}
use Rattle.dist_lanes.specs.BitsPrivate.{AreWords, IsRow}
use Rattle.dist_lanes.proofs.BitsLemmas.{length-bits}
use Rattle.dist_lanes.proofs.LanesLemmas.{bit-in-word}

pub sum-lanes : (words : List ℕ) (group : ℕ)
    → sum_by count_ones (take (8 * (group + 1)) words) ≡ sum_by count_ones (take (8 * group) words) + sum_by count_ones (chunk (8 * group) 8 words)
sum-lanes words group =
    ap (λ n. sum_by count_ones (take n words)) (let e : 8 * (group + 1) ≡ 8 * group + 8 = omega arith in e)
    ∙ (ap (sum_by count_ones) (take-add (8 * group) 8 words)
    ∙ sum_by-append count_ones (take (8 * group) words) (take 8 (drop (8 * group) words)))

-- ---- one word

bit-value : (b : ℕ) → b < 2 → cond (eqb b 1) 1 0 ≡ b
bit-value b small = elim (cases_eq b 1) [
  | inl one ↦ ap (λ x. cond (eqb x 1) 1 0) one ∙ sym one
  | inr apart ↦ ap (λ t. cond t 1 0) (ne_eqb b 1 apart) ∙ (let e : 0 ≡ b = omega arith in e)
]

word-is-mask : (n : ℕ) → n < 2 ^ 64 → mask_l (map (λ i. eqb (bit_at n i) 1) (range_with_len 0 64)) ≡ n
word-is-mask n fits =
    let p : ℕ → Bool = λ i. eqb (bit_at n i) 1 in
    same_from_bits_below 64 (mask_l (map p (range_with_len 0 64))) n
    (let l : mask_l (map p (range_with_len 0 64)) < 2 ^ 64 = mask_l-lt (map p (range_with_len 0 64)) in l) fits
    (λ i small. bit_mask_l (map p (range_with_len 0 64)) i
    ∙ (ap (λ b. cond b 1 0) (get_or-map-range_with_len p 0 64 i i false small (omega arith)) ∙ bit-value (bit_at n i) (bit_at-lt n i)))

ones-of-word : (n : ℕ) → n < 2 ^ 64 → count_by (λ (v : Bool). v) (map (λ i. eqb (bit_at n i) 1) (range_with_len 0 64)) ≡ count_ones n
ones-of-word n fits =
    let p : ℕ → Bool = λ i. eqb (bit_at n i) 1 in
    fold-map (λ a x. a + cond x 1 0) p 0 (range_with_len 0 64)
    ∙ (sym (ones-mask_l p (range_with_len 0 64)) ∙ ap count_ones (word-is-mask n fits))

-- ---- all words

range-more : (a n m : ℕ) (f : ℕ → Bool) → map f (range_with_len a (n + m)) ≡ map f (range_with_len a n) ++ map f (range_with_len (a + n) m)
range-more a zero m f =
    ap₂ (λ b k. map f (range_with_len b k)) (let e : a ≡ a + 0 = omega arith in e) (let e : 0 + m ≡ m = omega arith in e)
range-more a (suc n) m f =
    ap (λ k. map f (range_with_len a k)) (let e : suc n + m ≡ suc (n + m) = omega arith in e)
    ∙ ap (λ (l : List Bool). f a ∷ l) (range-more (a + 1) n m f
    ∙ ap (λ b. map f (range_with_len (a + 1) n) ++ map f (range_with_len b m)) (let e : a + 1 + n ≡ a + suc n = omega arith in e))

count-append : (xs ys : List Bool) → count_by (λ v. v) (xs ++ ys) ≡ count_by (λ v. v) xs + count_by (λ v. v) ys
count-append xs ys = sum_by-append (λ v. cond v 1 0) xs ys

word-bits : (words : List ℕ) (j : ℕ) → map (bit words) (range_with_len (64 * j) 64) ≡ map (λ i. eqb (bit_at (get_or words j 0) i) 1) (range_with_len 0 64)
word-bits words j =
    fill_by_all (λ i. eqb (bit_at (get_or words j 0) i) 1) (map (bit words) (range_with_len (64 * j) 64)) 64 false
    (length-map-range_with_len (bit words) (64 * j) 64)
    (λ i small. get_or-map-range_with_len (bit words) (64 * j) 64 i (64 * j + i) false small refl ∙ bit-in-word words j i small)

count-words : (words : List ℕ) (m : ℕ) → ((k : ℕ) → Fits w64 (get_or words k 0)) → m ≤ length words
    → count_by (λ v. v) (bits words (64 * m)) ≡ sum_by count_ones (take m words)
count-words words zero fits h = refl
count-words words (suc m) fits h =
    let before : m < length words = omega arith in
    ap (λ n. count_by (λ v. v) (bits words n)) (let e : 64 * suc m ≡ 64 * m + 64 = omega arith in e)
    ∙ (ap (count_by (λ v. v)) (range-more 0 (64 * m) 64 (bit words)
    ∙ ap (λ b. bits words (64 * m) ++ map (bit words) (range_with_len b 64)) (let e : 0 + 64 * m ≡ 64 * m = omega arith in e))
    ∙ (count-append (bits words (64 * m)) (map (bit words) (range_with_len (64 * m) 64))
    ∙ (ap₂ (λ a b. a + b) (count-words words m fits (omega arith))
    (ap (count_by (λ v. v)) (word-bits words m) ∙ ones-of-word (get_or words m 0) (fits m).fits)
    ∙ (sym (sum_by_more count_ones words m 0 before)
    ∙ ap (λ n. sum_by count_ones (take n words)) (let e : m + 1 ≡ suc m = omega arith in e)))))

count-none : (f : ℕ → Bool) (a n : ℕ) → ((k : ℕ) → a ≤ k → f k ≡ false) → count_by (λ v. v) (map f (range_with_len a n)) ≡ 0
count-none f a zero h = refl
count-none f a (suc n) h =
    count-append (f a ∷ []) (map f (range_with_len (a + 1) n))
    ∙ ap₂ (λ x y. x + y) (ap (λ v. count_by (λ v. v) (v ∷ [])) (h a (omega arith)))
    (count-none f (a + 1) n (λ k l. h k (omega arith)))

pub count-row : (words : List ℕ) (places : ℕ) → IsRow words places → AreWords words
    → count_by (λ v. v) (bits words places) ≡ sum_by count_ones words
count-row words places row fits =
    let room : places + (64 * length words - places) ≡ 64 * length words = omega (arith, row.fitting) in
    let all = count-words words (length words) (λ k. record { fits = fits k }) (omega arith) in
    let split = ap (count_by (λ v. v)) (range-more 0 places (64 * length words - places) (bit words))
    ∙ count-append (bits words places) (map (bit words) (range_with_len (0 + places) (64 * length words - places))) in
    let none = count-none (bit words) (0 + places) (64 * length words - places) (λ k l. row.clean k (omega arith)) in
    let whole = ap (λ n. count_by (λ v. v) (bits words n)) room in
    let first : count_by (λ v. v) (bits words places) ≡ sum_by count_ones (take (length words) words) = omega arith in
    first ∙ ap (sum_by count_ones) (take_all (length words) words (omega arith))

pub count-row-le : (words : List ℕ) (places : ℕ) → count_by (λ v. v) (bits words places) ≤ places
count-row-le words places = omega (arith, count_by-le-length (λ (v : Bool). v) (bits words places), length-bits words places)
