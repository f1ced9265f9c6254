-- Places of a row that are true, and rising lists.
use Rattle.std.proofs.Common.{◌≡◌, ℕ, zero, suc, ◌+◌, ◌-◌, ◌<◌, ◌≤◌, ◌==◌, ◌&&◌, ◌||◌, Bool, true, false, not, List, [], ◌∷◌, ◌++◌, inl, inr, filter, length}
use Rattle.std.proofs.Common.{set, refl, sym, ap, subst, ◌∙◌, arith, if◌then◌else◌}
use Rattle.std.proofs.lemmas.Bool.{and_parts, cases_Bool, cases_eq, cases_lt, eq-eqb, eqb-true, false≢true, ne_eqb, or_cases, or_right}
use Rattle.std.proofs.lemmas.List.{get_or-set_other, get_or-set_same, get_or_past, length-set}
use Rattle.std.proofs.lemmas.List.FromFn.{get_or-range_with_len, length-range_with_len}
use Rattle.std.proofs.lemmas.List.Kept.{AllPairs-filter}
use Rattle.std.specs.List.{list_all, range_with_len}
use Rattle.dist_lanes.specs.Rows.{Meets, value_at}
use Rattle.dist_cert.specs.ListLaws.{any-from, both-flags, from-any}
use Rattle.dist_cert.specs.Rising.{AreRising, is_among}
use Rattle.dist_check_group.specs.KeptPrivate.{true_places}
use Rattle.dist_check_group.proofs.RisingLemmas.{rising-from}
use Rattle.dist_check_group.proofs.RuleLemmas.{among-filter, filter-ext, filter-twice}

-- ---- rising lists

tail-rising : (x : ℕ) (xs : List ℕ) → AreRising (x ∷ xs) → AreRising xs
tail-rising x xs rising i j d before within = rising (suc i) (suc j) d (omega (arith, before)) (omega (arith, within))

head-below : (x : ℕ) (xs : List ℕ) (q : ℕ) → AreRising (x ∷ xs) → is_among xs q ≡ true → x < q
head-below x xs q rising is =
    let there = from-any q xs is in
    subst (λ n. x < n) there.2 (rising 0 (suc there.0) q (omega arith) (omega (arith, there.1)))

self-eq : (x : ℕ) → (x == x) ≡ true
self-eq x = eq-eqb x x refl

-- rising lists of the same numbers are the same
pub rising-same : (xs ys : List ℕ) → AreRising xs → AreRising ys → ((q : ℕ) → is_among xs q ≡ is_among ys q) → xs ≡ ys
rising-same [] [] rx ry same = refl
rising-same [] (y ∷ ys) rx ry same = absurd (false≢true (same y ∙ ap (λ (b : Bool). b || is_among ys y) (self-eq y)))
rising-same (x ∷ xs) [] rx ry same = absurd (false≢true (sym (same x) ∙ ap (λ (b : Bool). b || is_among xs x) (self-eq x)))
rising-same (x ∷ xs) (y ∷ ys) rx ry same =
    let first : is_among (y ∷ ys) x ≡ true = sym (same x) ∙ ap (λ (b : Bool). b || is_among xs x) (self-eq x) in
    let second : is_among (x ∷ xs) y ≡ true = same y ∙ ap (λ (b : Bool). b || is_among ys y) (self-eq y) in
    let heads : x ≡ y = elim (or_cases (x == y) (is_among ys x) first) [
      | inl is ↦ eqb-true x y is
      | inr later ↦ elim (or_cases (y == x) (is_among xs y) second) [
        | inl is ↦ sym (eqb-true y x is)
        | inr behind ↦ let up = head-below y ys x ry later in let down = head-below x xs y rx behind in absurd (omega (arith, up, down))
      ]
    ] in
    let after : (q : ℕ) → is_among xs q ≡ is_among ys q = λ q. both-flags (is_among xs q) (is_among ys q)
    (λ is. let above = head-below x xs q rx is in
    elim (or_cases (q == y) (is_among ys q) (sym (same q) ∙ or_right (q == x) (is_among xs q) is)) [
      | inl here ↦ let e = eqb-true q y here in absurd (omega (arith, above, e, heads))
      | inr later ↦ later
    ])
    (λ is. let above = head-below y ys q ry is in
    elim (or_cases (q == x) (is_among xs q) (same q ∙ or_right (q == y) (is_among ys q) is)) [
      | inl here ↦ let e = eqb-true q x here in absurd (omega (arith, above, e, heads))
      | inr later ↦ later
    ]) in
    ap (λ (n : ℕ). n ∷ xs) heads ∙ ap (λ (ns : List ℕ). y ∷ ns) (rising-same xs ys (tail-rising x xs rx) (tail-rising y ys ry) after)

range-rising : (a n : ℕ) → AreRising (range_with_len a n)
range-rising a n = rising-from (range_with_len a n) (λ k within.
    let upto : k + 1 < n = omega (arith, within, length-range_with_len a n) in
    let here = get_or-range_with_len a n k 0 (omega (arith, upto)) in
    let next = get_or-range_with_len a n (k + 1) 0 upto in
    omega (arith, here, next))

-- ---- the places of a row

and-right : (a b : Bool) → (b ≡ true → a ≡ true) → (a && b) ≡ b
and-right true b some = refl
and-right false true some = some refl
and-right false false some = refl

-- a place that is true is one of the row
pub true-within : (row : List Bool) (q : ℕ) → value_at row q ≡ true → q < length row
true-within row q is = elim (cases_lt q (length row)) [
  | inl within ↦ within
  | inr past ↦ absurd (false≢true (sym (get_or_past row q false past) ∙ is))
]

in-range : (n q : ℕ) → q < n → is_among (range_with_len 0 n) q ≡ true
in-range n q within = any-from q (range_with_len 0 n) (
  q,
  omega (arith, within, length-range_with_len 0 n),
  get_or-range_with_len 0 n q q within ∙ (let e : 0 +
      q ≡ q = omega arith in e),
)

pub among-true : (row : List Bool) (q : ℕ) → is_among (true_places row) q ≡ value_at row q
among-true row q =
    among-filter (value_at row) (range_with_len 0 (length row)) q
    ∙ and-right (is_among (range_with_len 0 (length row)) q) (value_at row q) (λ is. in-range (length row) q (true-within row q is))

pub true-rising : (row : List Bool) → AreRising (true_places row)
true-rising row = AllPairs-filter (λ a b. a < b) (value_at row) (range_with_len 0 (length row)) (range-rising 0 (length row))

-- a row in which just the numbers of a rising list are true
pub places-listed : (row : List Bool) (numbers : List ℕ) → AreRising numbers → ((q : ℕ) → value_at row q ≡ is_among numbers q) → true_places row ≡ numbers
places-listed row numbers rising each = rising-same (true_places row) numbers (true-rising row) rising (λ q. among-true row q ∙ each q)

-- what is left of a row where a test passes
pub places-left : (test : ℕ → Bool) (old new : List Bool) → length new ≡ length old → ((q : ℕ) → value_at new q ≡ (value_at old q && test q))
    → true_places new ≡ filter test (true_places old)
places-left test old new same each =
    ap (λ n. filter (value_at new) (range_with_len 0 n)) same
    ∙ filter-ext (value_at new) (λ q. value_at old q && test q) (range_with_len 0 (length old)) each
    ∙ sym (filter-twice (value_at old) test (range_with_len 0 (length old)))

pub places-both : (row others new : List Bool) → length new ≡ length row → ((q : ℕ) → value_at new q ≡ (value_at row q && value_at others q))
    → true_places new ≡ filter (is_among (true_places others)) (true_places row)
places-both row others new same each = places-left (is_among (true_places others)) row new same
    (λ q. each q ∙ ap (λ (b : Bool). value_at row q && b) (sym (among-true others q)))

-- those of a list that are places of a row are the places of the row that the list has
pub places-common : (row : List Bool) (numbers : List ℕ) → AreRising numbers
    → filter (is_among (true_places row)) numbers ≡ filter (is_among numbers) (true_places row)
places-common row numbers rising =
    rising-same (filter (is_among (true_places row)) numbers) (filter (is_among numbers) (true_places row))
    (AllPairs-filter (λ a b. a < b) (is_among (true_places row)) numbers rising)
    (AllPairs-filter (λ a b. a < b) (is_among numbers) (true_places row) (true-rising row))
    (λ q. among-filter (is_among (true_places row)) numbers q ∙ swap (is_among numbers q) (is_among (true_places row) q)
    ∙ sym (among-filter (is_among numbers) (true_places row) q))
  where
    swap : (a b : Bool) → (a && b) ≡ (b && a)
    swap true true = refl
    swap true false = refl
    swap false true = refl
    swap false false = refl

-- ---- one place is set

pub value-put : (row : List Bool) (place q : ℕ) → place < length row → value_at (set row place true) q ≡ ((q == place) || value_at row q)
value-put row place q within = elim (cases_eq q place) [
  | inl same ↦ ap (value_at (set row place true)) same ∙ get_or-set_same row place true false within
      ∙ sym (ap (λ (b : Bool). b || value_at row q) (eq-eqb q place same))
  | inr other ↦ get_or-set_other row place q true false other ∙ sym (ap (λ (b : Bool). b || value_at row q) (ne_eqb q place other))
]

value-cleared : (row : List Bool) (place q : ℕ) → place < length row → value_at (set row place false) q ≡ (value_at row q && not (q == place))
value-cleared row place q within = elim (cases_eq q place) [
  | inl same ↦ ap (value_at (set row place false)) same ∙ get_or-set_same row place false false within
      ∙ sym (ap (λ (b : Bool). value_at row q && not b) (eq-eqb q place same) ∙ and-none (value_at row q))
  | inr other ↦ get_or-set_other row place q false false other
      ∙ sym (ap (λ (b : Bool). value_at row q && not b) (ne_eqb q place other) ∙ and-all (value_at row q))
]
  where
    and-none : (a : Bool) → (a && false) ≡ false
    and-none true = refl
    and-none false = refl

    and-all : (a : Bool) → (a && true) ≡ a
    and-all true = refl
    and-all false = refl

pub cleared-places : (row : List Bool) (place : ℕ) → place < length row → true_places (set row place false) ≡ filter (λ q. not (q == place)) (true_places row)
cleared-places row place within =
    places-left (λ q. not (q == place)) row (set row place false) (length-set row place false) (λ q. value-cleared row place q within)

-- a place behind the last one is none that is true
pub cleared-past : (row : List Bool) (place : ℕ) → length row ≤ place → true_places row ≡ filter (λ q. not (q == place)) (true_places row)
cleared-past row place past = places-left (λ q. not (q == place)) row row refl (λ q. at q (value_at row q) refl)
  where
    at : (q : ℕ) (b : Bool) → value_at row q ≡ b → b ≡ (b && not (q == place))
    at q false is = refl
    at q true is =
        let within = true-within row q is in
        sym (ap (λ (b : Bool). not b) (ne_eqb q place (λ e. omega (arith, within, past, e))))

-- ---- the places in turn

range-more : (a n : ℕ) → range_with_len a (suc n) ≡ range_with_len a n ++ (a + n) ∷ []
range-more a zero = ap (λ (k : ℕ). k ∷ []) (let e : a ≡ a + 0 = omega arith in e)
range-more a (suc n) = ap (λ (ns : List ℕ). a ∷ ns) (range-more (a + 1) n ∙ ap (λ (k : ℕ). range_with_len (a + 1) n ++ k ∷ []) (let e : a + 1 + n ≡ a + suc n =
    omega arith in e))

filter-push : (f : ℕ → Bool) (xs : List ℕ) (x : ℕ) → filter f (xs ++ x ∷ []) ≡ filter f xs ++ (if f x then x ∷ [] else [])
filter-push f [] x = refl
filter-push f (y ∷ ys) x = at (f y) (filter-push f ys x)
  where
    at : (b : Bool) → filter f (ys ++ x ∷ []) ≡ filter f ys ++ (if f x then x ∷ [] else [])
        → (if b then y ∷ filter f (ys ++ x ∷ []) else filter f (ys ++ x ∷ [])) ≡ (if b then y ∷ filter f ys else filter f ys) ++ (if f x then x ∷ [] else [])
    at true rest = ap (λ (ns : List ℕ). y ∷ ns) rest
    at false rest = rest

append-none : (xs : List ℕ) → xs ++ [] ≡ xs
append-none [] = refl
append-none (x ∷ xs) = ap (λ (ns : List ℕ). x ∷ ns) (append-none xs)

-- one more place
one-more : (f : ℕ → Bool) (n : ℕ) → filter f (range_with_len 0 (suc n)) ≡ filter f (range_with_len 0 n) ++ (if f n then n ∷ [] else [])
one-more f n =
    ap (filter f) (range-more 0 n ∙ ap (λ (k : ℕ). range_with_len 0 n ++ k ∷ []) (let e : 0 + n ≡ n = omega arith in e))
    ∙ filter-push f (range_with_len 0 n) n

-- places that are false add nothing
places-past : (f : ℕ → Bool) (from more : ℕ) → ((k : ℕ) → from ≤ k → k < from + more → f k ≡ false)
    → filter f (range_with_len 0 (from + more)) ≡ filter f (range_with_len 0 from)
places-past f from zero none = ap (λ n. filter f (range_with_len 0 n)) (let e : from + 0 ≡ from = omega arith in e)
places-past f from (suc more) none =
    ap (λ n. filter f (range_with_len 0 n)) (let e : from + suc more ≡ suc (from + more) = omega arith in e)
    ∙ one-more f (from + more)
    ∙ ap (λ (b : Bool). filter f (range_with_len 0 (from + more)) ++ (if b then (from + more) ∷ [] else [])) (none (from + more) (omega arith) (omega arith))
    ∙ append-none (filter f (range_with_len 0 (from + more)))
    ∙ places-past f from more (λ k above below. none k above (omega (arith, below)))

-- from one place on the rest is false
pub places-end : (row : List Bool) (from end : ℕ) → from ≤ end → ((k : ℕ) → from ≤ k → value_at row k ≡ false)
    → filter (value_at row) (range_with_len 0 end) ≡ filter (value_at row) (range_with_len 0 from)
places-end row from end upto none =
    ap (λ n. filter (value_at row) (range_with_len 0 n)) (let e : end ≡ from + (end - from) = omega (arith, upto) in e)
    ∙ places-past (value_at row) from (end - from) (λ k above below. none k above)

-- the next place that is true
pub places-next : (row : List Bool) (from next : ℕ) → from ≤ next → ((k : ℕ) → from ≤ k → k < next → value_at row k ≡ false) → value_at row next ≡ true
    → filter (value_at row) (range_with_len 0 (next + 1)) ≡ filter (value_at row) (range_with_len 0 from) ++ next ∷ []
places-next row from next upto none is =
    let f : ℕ → Bool = value_at row in
    ap (λ n. filter f (range_with_len 0 n)) (let e : next + 1 ≡ suc next = omega arith in e)
    ∙ one-more f next
    ∙ ap (λ (b : Bool). filter f (range_with_len 0 next) ++ (if b then next ∷ [] else [])) is
    ∙ ap (λ (ns : List ℕ). ns ++ next ∷ [])
    (ap (λ n. filter f (range_with_len 0 n)) (let e : next ≡ from + (next - from) = omega (arith, upto) in e)
    ∙ places-past f from (next - from) (λ k above below. none k above (omega (arith, upto, below))))

-- a number behind the last place is none of a row
pub placed-past : (row : List Bool) (q : ℕ) → length row ≤ q → is_among (true_places row) q ≡ false
placed-past row q behind = among-true row q ∙ get_or_past row q false behind

-- other than each of some numbers
pub none-of : (numbers : List ℕ) (q : ℕ) → list_all (λ number. not (q == number)) numbers ≡ not (is_among numbers q)
none-of [] q = refl
none-of (x ∷ xs) q = at (q == x) (none-of xs q)
  where
    at : (b : Bool) → list_all (λ number. not (q == number)) xs ≡ not (is_among xs q)
        → (not b && list_all (λ number. not (q == number)) xs) ≡ not (b || is_among xs q)
    at true rest = refl
    at false rest = rest

-- two rows that don't meet have no place in common
pub apart : (row others : List Bool) → ¬ Meets row others → (q : ℕ) → (is_among (true_places row) q && is_among (true_places others) q) ≡ false
apart row others none q = elim (cases_Bool (is_among (true_places row) q && is_among (true_places others) q)) [
  | inl both ↦
      let parts = and_parts (is_among (true_places row) q) (is_among (true_places others) q) both in
      absurd (none (q, sym (among-true row q) ∙ parts.0, sym (among-true others q) ∙ parts.1))
  | inr never ↦ never
]
