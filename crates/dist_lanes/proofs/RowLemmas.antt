-- A row's values are the bits of its words.
use Rattle.std.proofs.Common.{◌≡◌, ℕ, ◌+◌, ◌*◌, ◌/◌, ◌<◌, ◌≤◌, Bool, true, false, ◌&&◌, List, length, get_or, replicate, ap, ap₂, sym, ◌∙◌, inl, inr, arith}
use Rattle.std.specs.Prelude.{Option, None, Some, IfNone, IfSome}
use Rattle.std.proofs.lemmas.Bool.{cases_lt, false≢true}
use Rattle.std.proofs.lemmas.List.{same_lists, length-replicate, get_or-replicate, get_or_past}
use Rattle.std.proofs.lemmas.Simd.{get_or-zip2, length-zip2}
use Rattle.dist_lanes.specs.Bits.{bit, bits, SetsBit}
use Rattle.dist_lanes.specs.BitsPrivate.{IsRow, Conjoins, FillsPlaces, AreClear}
use Rattle.dist_lanes.specs.Rows.{both, value_at, AreFalseUpTo}
use Rattle.dist_lanes.proofs.BitsLemmas.{length-bits, get_or-bits}

pub value-bits : (words : List ℕ) (places k : ℕ) → IsRow words places → get_or (bits words places) k false ≡ bit words k
value-bits words places k row = elim (cases_lt k places) [
  | inl within ↦ get_or-bits words places k false within
  | inr past ↦ get_or_past (bits words places) k false (omega (arith, length-bits words places)) ∙ sym (row.clean k past)
]

pub bits-filled : (old new : List ℕ) (places : ℕ) (value : Bool) → FillsPlaces old new places value → bits new places ≡ replicate places value
bits-filled old new places value h =
    same_lists (bits new places) (replicate places value) (length-bits new places ∙ sym (length-replicate places value))
    (λ k d within.
    let below : k < places = omega (arith, length-bits new places) in
    get_or-bits new places k d below ∙ (h.filled k below ∙ sym (get_or-replicate places k value d below)))

pub bits-conjoined : (old other new : List ℕ) (places : ℕ) → Conjoins old other new → bits new places ≡ both (bits old places) (bits other places)
bits-conjoined old other new places h =
    let first = length-bits old places in
    let second = length-bits other places in
    let long = length-zip2 (λ a b. a && b) (bits old places) (bits other places) (first ∙ sym second) in
    same_lists (bits new places) (both (bits old places) (bits other places)) (length-bits new places ∙ sym (long ∙ first))
    (λ k d within.
    let below : k < places = omega (arith, length-bits new places) in
    get_or-bits new places k d below ∙ (h.each k
    ∙ sym (get_or-zip2 (λ a b. a && b) (bits old places) (bits other places) k d d d (omega arith) (omega arith)
    ∙ ap₂ (λ a b. a && b) (get_or-bits old places k d below) (get_or-bits other places k d below))))

pub length-of : (words : List ℕ) (places : ℕ) (values : List Bool) → bits words places ≡ values → places ≡ length values
length-of words places values seen = sym (length-bits words places) ∙ ap length seen

-- where the words are read as a slice
pub value-is : (words slice : List ℕ) (places : ℕ) (values : List Bool) (k : ℕ) → IsRow words places → bits words places ≡ values → slice ≡ words
    → get_or values k false ≡ bit slice k
value-is words slice places values k row seen same =
    ap (λ (v : List Bool). get_or v k false) (sym seen) ∙ (value-bits words places k row ∙ ap (λ w. bit w k) (sym same))

pub length-slice : (words slice : List ℕ) (places : ℕ) (values : List Bool) → IsRow words places → bits words places ≡ values → slice ≡ words
    → length slice ≡ (length values + 63) / 64
length-slice words slice places values row seen same =
    ap length same ∙ (row.fitting ∙ ap (λ n. (n + 63) / 64) (length-of words places values seen))

pub room : (words slice : List ℕ) (places : ℕ) (values : List Bool) (place : ℕ) → IsRow words places → bits words places ≡ values → slice ≡ words
    → place < length values → place < 64 * length slice
room words slice places values place row seen same within = omega (arith, length-slice words slice places values row seen same)

pub row-set : (words new : List ℕ) (places place : ℕ) (value : Bool) → IsRow words places → SetsBit words new place value → place < places
    → IsRow new places
row-set words new places place value row sets within = record {
  small = row.small;
  fitting = sets.same_length ∙ row.fitting;
  clean = λ k past. sets.others k (λ e. omega arith) ∙ row.clean k past;
}

true-within : (values : List Bool) (place : ℕ) → get_or values place false ≡ true → place < length values
true-within values place set = elim (cases_lt place (length values)) [
  | inl within ↦ within
  | inr past ↦ absurd (false≢true (sym (get_or_past values place false past) ∙ set))
]

-- the next bit of the words is the row's next true place
pub next-some : (found : Option ℕ) (slice : List ℕ) (values : List Bool) (from : ℕ) → ((k : ℕ) → get_or values k false ≡ bit slice k)
    → IfSome found (λ p. (from ≤ p) × (bit slice p ≡ true) × AreClear slice from p)
    → IfSome found (λ p. (from ≤ p) × (p < length values) × (value_at values p ≡ true) × AreFalseUpTo values from p)
next-some None slice values from seen h = tt
next-some (Some p) slice values from seen h =
    (h.0, true-within values p (seen p ∙ h.1), seen p ∙ h.1, λ k low high. seen k ∙ h.2 k low high)

pub next-none : (found : Option ℕ) (slice : List ℕ) (values : List Bool) (from : ℕ) → ((k : ℕ) → get_or values k false ≡ bit slice k)
    → IfNone found ((k : ℕ) → from ≤ k → bit slice k ≡ false) → IfNone found ((k : ℕ) → from ≤ k → value_at values k ≡ false)
next-none None slice values from seen h = λ k low. seen k ∙ h k low
next-none (Some p) slice values from seen h = tt

pub length-both : (row other : List Bool) → length row ≡ length other → length (both row other) ≡ length row
length-both row other same = length-zip2 (λ a b. a && b) row other same

pub value-both : (row other : List Bool) → length row ≡ length other
    → (k : ℕ) → value_at (both row other) k ≡ (value_at row k && value_at other k)
value-both row other same k = elim (cases_lt k (length row)) [
  | inl within ↦ get_or-zip2 (λ a b. a && b) row other k false false false within (omega arith)
  | inr past ↦ get_or_past (both row other) k false (omega (arith, length-both row other same))
      ∙ sym (ap₂ (λ a b. a && b) (get_or_past row k false past) (get_or_past other k false (omega arith)))
]
