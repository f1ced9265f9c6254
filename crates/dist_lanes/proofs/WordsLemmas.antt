-- A conjunction of words, eight at a time, and of their bits.
use Rattle.std.proofs.Common.{◌≡◌, ℕ, ◌+◌, ◌-◌, ◌*◌, ◌/◌, ◌%◌, ◌<◌, ◌≤◌, min, ◌&&◌, eqb, List, length, get_or, set, refl, ap, ap₂, sym, subst, ◌∙◌, inl, inr}
use Rattle.std.proofs.Common.{arith, bit_and}
use Rattle.std.proofs.lemmas.Bool.{cases_eq, cases_lt}
use Rattle.std.proofs.lemmas.List.{get_or_past, get_or-set_same, get_or-set_other, length-set}
use Rattle.std.proofs.lemmas.Nat.Bits.{bit_at_and, bit_at-lt}
use Rattle.std.proofs.lemmas.Simd.{get_or-chunk, get_or-put_chunk_below, get_or-put_chunk_at, get_or-put_chunk_above, get_or-zip2, length-chunk}
use Rattle.std.proofs.lemmas.Simd.{length-put_chunk, length-zip2}
use Rattle.std.specs.Int.{bit_at}
use Rattle.std.specs.Simd.Lanes.{zip2, chunk, put_chunk}
use Rattle.dist_lanes.specs.BitsPrivate.{Conjoins}

-- ---- a conjunction, word by word

-- the words before a place are conjoined, and the others are as before
pub record AndedUpTo (old other new : List ℕ) (at : ℕ) : Type 0 where
  pub same_length : length new ≡ length old
  pub done : (k : ℕ) → k < at → get_or new k 0 ≡ bit_and (get_or old k 0) (get_or other k 0)
  pub rest : (k : ℕ) → at ≤ k → get_or new k 0 ≡ get_or old k 0

pub anded-none : (old other : List ℕ) → AndedUpTo old other old 0
anded-none old other = record { same_length = refl; done = λ k h. absurd (omega arith); rest = λ k h. refl }

pub anded-word : (old other new : List ℕ) (at : ℕ) → AndedUpTo old other new at → at < length old
    → AndedUpTo old other (set new at (bit_and (get_or new at 0) (get_or other at 0))) (at + 1)
anded-word old other new at h within = record {
  same_length = length-set new at (bit_and (get_or new at 0) (get_or other at 0)) ∙ h.same_length;
  done = λ k below. elim (cases_eq k at) [
    | inl same ↦ ap (λ j. get_or (set new at (bit_and (get_or new at 0) (get_or other at 0))) j 0) same
        ∙ (get_or-set_same new at (bit_and (get_or new at 0) (get_or other at 0)) 0 (let l : at < length new = omega (arith, h.same_length) in l)
        ∙ (ap (λ x. bit_and x (get_or other at 0)) (h.rest at (omega arith))
        ∙ ap (λ j. bit_and (get_or old j 0) (get_or other j 0)) (sym same)))
    | inr apart ↦ get_or-set_other new at k (bit_and (get_or new at 0) (get_or other at 0)) 0 apart ∙ h.done k (omega arith)
  ];
  rest = λ k above. get_or-set_other new at k (bit_and (get_or new at 0) (get_or other at 0)) 0 (λ e. omega arith)
      ∙ h.rest k (omega arith);
}

abbrev pub anded_lanes : List ℕ → List ℕ → ℕ → List ℕ
anded_lanes new other at = zip2 bit_and (chunk at 8 new) (chunk at 8 other)

pub length-anded_lanes : (new other : List ℕ) (at : ℕ) → at + 8 ≤ length new → at + 8 ≤ length other → length (anded_lanes new other at) ≡ 8
length-anded_lanes new other at a b =
    length-zip2 bit_and (chunk at 8 new) (chunk at 8 other) (length-chunk at 8 new a ∙ sym (length-chunk at 8 other b)) ∙ length-chunk at 8 new a

pub get_or-anded_lanes : (new other : List ℕ) (at j : ℕ) → at + 8 ≤ length new → at + 8 ≤ length other → j < 8
    → get_or (anded_lanes new other at) j 0 ≡ bit_and (get_or new (at + j) 0) (get_or other (at + j) 0)
get_or-anded_lanes new other at j a b h =
    get_or-zip2 bit_and (chunk at 8 new) (chunk at 8 other) j 0 0 0 (omega (arith, length-chunk at 8 new a)) (omega (arith, length-chunk at 8 other b))
    ∙ ap₂ bit_and (get_or-chunk at 8 new j 0 h) (get_or-chunk at 8 other j 0 h)

pub anded-lanes : (old other new : List ℕ) (at : ℕ) → AndedUpTo old other new at → at + 8 ≤ length old → at + 8 ≤ length other
    → AndedUpTo old other (put_chunk at new (anded_lanes new other at)) (at + 8)
anded-lanes old other new at h a b =
    let long : at + 8 ≤ length new = omega (arith, h.same_length) in
    let eight = length-anded_lanes new other at long b in
    record {
      same_length = length-put_chunk at new (anded_lanes new other at) ∙ h.same_length;
      done = λ k below. elim (cases_lt k at) [
        | inl before ↦ get_or-put_chunk_below at new (anded_lanes new other at) k 0 before ∙ h.done k before
        | inr behind ↦
            let inside : k - at < 8 = omega arith in
            let place : at + (k - at) ≡ k = omega arith in
            ap (λ j. get_or (put_chunk at new (anded_lanes new other at)) j 0) (sym place)
            ∙ (get_or-put_chunk_at at new (anded_lanes new other at) (k - at) 0 (omega arith) (omega arith)
            ∙ (get_or-anded_lanes new other at (k - at) long b inside
            ∙ (ap (λ j. bit_and (get_or new j 0) (get_or other j 0)) place
            ∙ ap (λ x. bit_and x (get_or other k 0)) (h.rest k behind))))
      ];
      rest = λ k above. get_or-put_chunk_above at new (anded_lanes new other at) k 0 (omega arith) ∙ h.rest k (omega arith);
    }

pub anded-group : (old other new after : List ℕ) (group : ℕ) → AndedUpTo old other new (8 * group) → group < length old / 8
    → length old ≡ length other → after ≡ put_chunk (8 * group) new (anded_lanes new other (8 * group))
    → AndedUpTo old other after (8 * (group + 1))
anded-group old other new after group h within same is =
    subst (λ words. AndedUpTo old other words (8 * (group + 1))) (sym is)
    (subst (AndedUpTo old other (put_chunk (8 * group) new (anded_lanes new other (8 * group)))) (let e : 8 * group + 8 ≡ 8 * (group + 1) = omega arith in e)
    (anded-lanes old other new (8 * group) h (omega arith) (omega arith)))

bit-min : (a b : ℕ) → a < 2 → b < 2 → eqb (min a b) 1 ≡ (eqb a 1 && eqb b 1)
bit-min a b ha hb = elim (cases_eq a 0) [
  | inl x ↦ ap (λ a. eqb (min a b) 1) x ∙ (ap (λ m. eqb m 1) (let e : min 0 b ≡ 0 = omega arith in e) ∙ ap (λ a. eqb a 1 && eqb b 1) (sym x))
  | inr x ↦
      let one : a ≡ 1 = omega arith in
      ap (λ m. eqb m 1) (let e : min a b ≡ b = omega arith in e) ∙ ap (λ a. eqb a 1 && eqb b 1) (sym one)
]

pub bit_of_and : (x y i : ℕ) → eqb (bit_at (bit_and x y) i) 1 ≡ (eqb (bit_at x i) 1 && eqb (bit_at y i) 1)
bit_of_and x y i = ap (λ m. eqb m 1) (bit_at_and x y i) ∙ bit-min (bit_at x i) (bit_at y i) (bit_at-lt x i) (bit_at-lt y i)

pub Conjoins-from : (old other new : List ℕ) → length old ≡ length other → AndedUpTo old other new (length old) → Conjoins old other new
Conjoins-from old other new same h = record {
  same_length = h.same_length;
  each = λ k.
      let word : get_or new (k / 64) 0 ≡ bit_and (get_or old (k / 64) 0) (get_or other (k / 64) 0) = elim (cases_lt (k / 64) (length old)) [
        | inl within ↦ h.done (k / 64) within
        | inr past ↦ h.rest (k / 64) past ∙ (get_or_past old (k / 64) 0 past
            ∙ sym (ap₂ bit_and (get_or_past old (k / 64) 0 past) (get_or_past other (k / 64) 0 (omega arith))))
      ] in
      ap (λ w. eqb (bit_at w (k % 64)) 1) word ∙ bit_of_and (get_or old (k / 64) 0) (get_or other (k / 64) 0) (k % 64);
}
