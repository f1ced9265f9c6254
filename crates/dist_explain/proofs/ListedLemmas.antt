-- Rising lists of numbers: what they have, and one number more.
use Rattle.std.proofs.Common.{◌≡◌, ◌≢◌, ◌↔◌, inl, inr, ℕ, ◌+◌, ◌-◌, ◌<◌, ◌≤◌, Bool, true, false, List, [], ◌∷◌, ◌++◌}
use Rattle.std.proofs.Common.{length, get_or, take}
use Rattle.std.proofs.Common.{Ok, Err, Option, Some, None, refl, sym, ap, subst, ◌∙◌, arith, nat_cmp, IsTrue}
use Rattle.std.specs.List.{All, Contains, insert}
use Rattle.std.specs.List.Sorted.{IsBinarySearchResult}
use Rattle.std.specs.Prelude.{MatchOption, is_some}
use Rattle.std.proofs.lemmas.Bool.{cases_order, true≢false, false≢true}
use Rattle.std.proofs.lemmas.List.{get_or-take, get_or_default, length-take-le, take_all, take_more}
use Rattle.std.proofs.lemmas.List.Edits.{length-insert, get_or-insert_below, get_or-insert_at, get_or-insert_above}
use Rattle.std.proofs.lemmas.List.Elements.{All-contains, All-push, Contains-append_left, Contains-get_or}
use Rattle.std.proofs.lemmas.List.Elements.{Contains-push}
use Rattle.std.proofs.lemmas.List.Sorted.{searched, Contains-permutation, IsPermutation-insert, IsPermutation-sym}
use Rattle.dist_cert.specs.ListLaws.{any-from, contains-cases, contains-later, from-any}
use Rattle.dist_cert.specs.Rising.{AreRising, is_among}
use Rattle.dist_explain.specs.Answered.{IsOnlyMissing}
use Rattle.dist_explain.specs.ListedPrivate.{HasOneMore, IsNoneMissing}

-- ---- tests

pub among-contains : (b : Bool) (list : List ℕ) (number : ℕ) → b ≡ is_among list number → IsTrue b ↔ Contains list number
among-contains b list number is = ((λ e. from-any number list (sym is ∙ e)), λ there. is ∙ any-from number list there)

-- no number beyond those of a type is in a list of them
pub beyond : (list : List ℕ) (number bound : ℕ) → All (λ n. n < bound) list → bound ≤ number → ¬ Contains list number
beyond list number bound small past there =
    let less = All-contains (λ (n : ℕ). n < bound) list number small there in omega (arith, less, past)

-- ---- one number more

not-falling : (numbers : List ℕ) → AreRising numbers → (i j : ℕ) → i ≤ j → j < length numbers → get_or numbers i 0 ≤ get_or numbers j 0
not-falling numbers rising i j upto within = elim (cases_order i j) [
  | inl same ↦ let e = ap (λ (k : ℕ). get_or numbers k 0) same in omega arith
  | inr (inl less) ↦ let e = rising i j 0 less within in omega arith
  | inr (inr more) ↦ absurd (omega arith)
]

module _ (xs : List ℕ) (i y : ℕ) (rising : AreRising xs) (upto : i ≤ length xs) (below : (k : ℕ) → k < i → get_or xs k 0 < y)
    (above : (k : ℕ) → i ≤ k → k < length xs → y < get_or xs k 0) where
  at : ℕ → ℕ
  at k = get_or (insert xs i y) k 0

  at-below : (k : ℕ) → k < i → at k ≡ get_or xs k 0
  unfolding at
  at-below k less = get_or-insert_below xs i y 0 k less upto

  at-place : (k : ℕ) → k ≡ i → at k ≡ y
  unfolding at
  at-place k same = ap (λ (n : ℕ). get_or (insert xs i y) n 0) same ∙ get_or-insert_at xs i y 0 upto

  at-above : (k : ℕ) → i < k → at k ≡ get_or xs (k - 1) 0
  unfolding at
  at-above k more =
      let same : k ≡ k - 1 + 1 = omega (arith, more) in
      ap (λ (n : ℕ). get_or (insert xs i y) n 0) same ∙ get_or-insert_above xs i y 0 (k - 1) (omega (arith, more)) upto

  pairs : (a b : ℕ) → a < b → b < length xs + 1 → at a < at b
  pairs a b less within = elim (cases_order b i) [
    | inl same ↦ let s = at-place b same in let f = at-below a (omega (arith, less, same)) in
        let h = below a (omega (arith, less, same)) in omega (arith, s, f, h)
    | inr (inl before) ↦ let s = at-below b before in let f = at-below a (omega (arith, less, before)) in
        let h = rising a b 0 less (omega (arith, before, upto)) in omega (arith, s, f, h)
    | inr (inr after) ↦ let s = at-above b after in elim (cases_order a i) [
      | inl same ↦ let f = at-place a same in let h = above (b - 1) (omega (arith, after)) (omega (arith, after, within)) in omega (arith, s, f, h)
      | inr (inl early) ↦ let f = at-below a early in
          let h = rising a (b - 1) 0 (omega (arith, early, after)) (omega (arith, after, within)) in omega (arith, s, f, h)
      | inr (inr late) ↦ let f = at-above a late in
          let h = rising (a - 1) (b - 1) 0 (omega (arith, less, late)) (omega (arith, after, within)) in omega (arith, s, f, h)
    ]
  ]

  pub rising-insert : AreRising (insert xs i y)
  unfolding at
  rising-insert a b d less within =
      let long = length-insert xs i y upto in
      let h = pairs a b less (omega (arith, within, long)) in
      let f = get_or_default (insert xs i y) a d 0 (omega (arith, less, within)) in
      let s = get_or_default (insert xs i y) b d 0 within in
      omega (arith, h, f, s)

pub one-more : (xs : List ℕ) (i y : ℕ) → HasOneMore xs (insert xs i y) y
one-more xs i y one = (
  (λ there. elim (contains-cases y xs one (Contains-permutation (insert xs i y) (y ∷ xs) one
      (IsPermutation-sym (y ∷ xs) (insert xs i y) (IsPermutation-insert xs i y)) there)) [
        | inl here ↦ inr (sym here)
        | inr later ↦ inl later
      ]),
  (λ some. elim some [
    | inl there ↦ Contains-permutation (y ∷ xs) (insert xs i y) one (IsPermutation-insert xs i y) (contains-later y xs one there)
    | inr here ↦ Contains-permutation (y ∷ xs) (insert xs i y) one (IsPermutation-insert xs i y) (0, omega arith, sym here)
  ]),
)

-- where a number is searched and not found, it can be put
pub put-rising : (xs : List ℕ) (y i : ℕ) → AreRising xs → IsBinarySearchResult (λ x. nat_cmp x y) xs (Err i) → AreRising (insert xs i y)
put-rising xs y i rising result =
    let found = searched xs y (Err i) result (not-falling xs rising) in
    rising-insert xs i y rising found.0 found.1 found.2

-- where it is found, it is there
pub put-there : (xs : List ℕ) (y i : ℕ) → AreRising xs → IsBinarySearchResult (λ x. nat_cmp x y) xs (Ok i) → HasOneMore xs xs y
put-there xs y i rising result one =
    let found = searched xs y (Ok i) result (not-falling xs rising) in
    let there : Contains xs y = (i, found.0, get_or_default xs i y 0 found.0 ∙ found.1) in (
      (λ has. inl has),
      (λ some. elim some [
        | inl has ↦ has
        | inr same ↦ subst (Contains xs) (sym same) there
      ]),
    )

-- ---- which number is missing

-- of the first numbers none is missing, or one is
abbrev pub IsMissingOf : (front : List ℕ) → (offset : ℕ) → (list : List ℕ) → Option ℕ → Type 0
IsMissingOf front offset list None = All (λ number. Contains list (offset + number)) front
IsMissingOf front offset list (Some one) = IsOnlyMissing front offset list one

-- a number more that is there
pub missing-there : (front : List ℕ) (offset : ℕ) (list : List ℕ) (found : Option ℕ) (number : ℕ) → IsMissingOf front offset list found
    → Contains list (offset + number) → IsMissingOf (front ++ number ∷ []) offset list found
missing-there front offset list None number all there = All-push (λ n. Contains list (offset + n)) front number all there
missing-there front offset list (Some one) number only there = record {
  there = Contains-append_left front (number ∷ []) one only.there;
  missing = only.missing;
  others = All-push (λ n. n ≢ one → Contains list (offset + n)) front number only.others (λ other. there);
}

-- a number more that is missing
pub missing-first : (front : List ℕ) (offset : ℕ) (list : List ℕ) (number : ℕ) → IsMissingOf front offset list None
    → ¬ Contains list (offset + number) → IsMissingOf (front ++ number ∷ []) offset list (Some number)
missing-first front offset list number all missing = record {
  there = Contains-push front number;
  missing = missing;
  others = All-push (λ n. n ≢ number → Contains list (offset + n)) front number (λ k d short other. all k d short) (λ other. absurd (other refl));
}

-- two are missing
pub missing-two : (numbers : List ℕ) (offset : ℕ) (list : List ℕ) (one other : ℕ) → Contains numbers one → Contains numbers other → one ≢ other
    → ¬ Contains list (offset + one) → ¬ Contains list (offset + other) → IsNoneMissing numbers offset list
missing-two numbers offset list one other first second apart lacks misses any only =
    let Others : ℕ → Type 0 = λ n. n ≢ any → Contains list (offset + n) in
    lacks (All-contains Others numbers one only.others first
    (λ same. misses (All-contains Others numbers other only.others second (λ also. apart (same ∙ sym also)))))

-- none is missing
pub missing-none : (numbers : List ℕ) (offset : ℕ) (list : List ℕ) → All (λ number. Contains list (offset + number)) numbers
    → IsNoneMissing numbers offset list
missing-none numbers offset list all one only =
    only.missing (All-contains (λ number. Contains list (offset + number)) numbers one all only.there)

-- ---- one number more of a list

pub next-there : (numbers : List ℕ) (offset : ℕ) (list : List ℕ) (k : ℕ) (found : Option ℕ) → k < length numbers
    → IsMissingOf (take k numbers) offset list found → Contains list (offset + get_or numbers k 0) → IsMissingOf (take (k + 1) numbers) offset list found
next-there numbers offset list k found short before there =
    subst (λ xs. IsMissingOf xs offset list found) (sym (take_more numbers k 0 short))
    (missing-there (take k numbers) offset list found (get_or numbers k 0) before there)

pub next-first : (numbers : List ℕ) (offset : ℕ) (list : List ℕ) (k : ℕ) (found : Option ℕ) → k < length numbers → is_some found ≡ false
    → IsMissingOf (take k numbers) offset list found → ¬ Contains list (offset + get_or numbers k 0)
    → IsMissingOf (take (k + 1) numbers) offset list (Some (get_or numbers k 0))
next-first numbers offset list k None short none before missing =
    subst (λ xs. IsMissingOf xs offset list (Some (get_or numbers k 0))) (sym (take_more numbers k 0 short))
    (missing-first (take k numbers) offset list (get_or numbers k 0) before missing)
next-first numbers offset list k (Some one) short none before missing = absurd (true≢false none)

pub next-second : (numbers : List ℕ) (offset : ℕ) (list : List ℕ) (k : ℕ) (found : Option ℕ) → AreRising numbers → k < length numbers
    → is_some found ≡ true → IsMissingOf (take k numbers) offset list found → ¬ Contains list (offset + get_or numbers k 0)
    → IsNoneMissing numbers offset list
next-second numbers offset list k None rising short some before missing = absurd (false≢true some)
next-second numbers offset list k (Some one) rising short some before missing =
    let place = before.there.0 in
    let early : place < k = let n = length-take-le k numbers (omega (arith, short)) in omega (arith, before.there.1, n) in
    let is : get_or numbers place one ≡ one = sym (get_or-take k numbers place one early) ∙ before.there.2 in
    let less = rising place k 0 early short in
    let same = get_or_default numbers place one 0 (omega (arith, early, short)) in
    missing-two numbers offset list one (get_or numbers k 0) (place, omega (arith, early, short), is) (Contains-get_or numbers k 0 short)
    (λ equal. omega (arith, less, same, is, equal)) before.missing missing

pub none-next : (numbers : List ℕ) (offset : ℕ) (list : List ℕ) (k : ℕ) (found : Option ℕ) → length numbers ≤ k
    → IsMissingOf (take k numbers) offset list found → MatchOption found (IsNoneMissing numbers offset list) (IsOnlyMissing numbers offset list)
none-next numbers offset list k found past before =
    by found (subst (λ xs. IsMissingOf xs offset list found) (take_all k numbers past) before)
  where
    by : (o : Option ℕ) → IsMissingOf numbers offset list o → MatchOption o (IsNoneMissing numbers offset list) (IsOnlyMissing numbers offset list)
    by None all = missing-none numbers offset list all
    by (Some one) only = only
