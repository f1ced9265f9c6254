-- The question of some relations: which they are, and what its truth says; and lists of numbers with fewer of them.
use Rattle.std.proofs.Common.{◌≡◌, ◌≢◌, ◌↔◌, inl, inr, ℕ, ◌+◌, ◌-◌, ◌<◌, ◌≤◌, ◌==◌, Bool, true, false, not, List, [], ◌∷◌, length, map, filter}
use Rattle.std.proofs.Common.{◌++◌, map-id, refl, sym, ap, subst, ◌∙◌, arith, get_or}
use Rattle.std.specs.Bool.{IsTrue}
use Rattle.std.specs.List.{All, Any, Contains, list_any, range_with_len}
use Rattle.std.proofs.lemmas.Bool.{cases_eq, eq-eqb, eqb-true, false≢true, or_cases, or_left, or_right}
use Rattle.std.proofs.lemmas.List.Elements.{All-cons, All-contains, All-filter, All-head, All-map, All-tail, All-contains_itself}
use Rattle.std.proofs.lemmas.List.Filters.{length-filter_both}
use Rattle.std.proofs.lemmas.List.FromFn.{get_or-range_with_len, length-range_with_len, map-range_with_len_more}
use Rattle.std.proofs.lemmas.List.Kept.{AllPairs-cons, AllPairs-filter}
use Rattle.dist_base.specs.ListLaws.{all-contained, any-cases, any-head, any-later}
use Rattle.dist_clause.specs.Formula.{IsTrueLiteral, literal}
use Rattle.dist_cert.specs.ClaimRules.{yes}
use Rattle.dist_cert.specs.Form.{Word}
use Rattle.dist_cert.specs.Groups.{clause_of}
use Rattle.dist_cert.specs.ListLaws.{contains-cases, contains-later, from-any, pairs-map}
use Rattle.dist_cert.specs.Rising.{AreRising, is_among}
use Rattle.dist_explain.specs.Answered.{AreAllBut, IsOfRelation, Selects}
use Rattle.dist_explain.specs.AnsweredLaws.{kept, one-rising}
use Rattle.dist_explain.specs.declared.asked.Asked.{Asked}
use Rattle.dist_line_write.specs.Asking.{IsOver}
use Rattle.dist_line_write.specs.TrueOnesLaws.{range-rises}
use Rattle.dist_explain_search.specs.SearchPrivate.{AreNumbers, FitsAsked, others_of, question_of}

-- ---- lists made from others

any-map : {X Y : Type 0} (f : X → Y) (xs : List X) (y : Y) → Contains (map f xs) y → Any (λ x. y ≡ f x) xs
any-map f [] y there = absurd (omega (arith, there.1))
any-map f (x ∷ xs) y there = elim (contains-cases (f x) (map f xs) y there) [
  | inl same ↦ any-head (λ z. y ≡ f z) x xs (sym same)
  | inr later ↦ any-later (λ z. y ≡ f z) x xs (any-map f xs y later)
]

map-any : {X Y : Type 0} (f : X → Y) (xs : List X) (y : Y) → Any (λ x. y ≡ f x) xs → Contains (map f xs) y
map-any f [] y any = absurd (omega (arith, any.2))
map-any f (x ∷ xs) y any = elim (any-cases (λ z. y ≡ f z) x xs any) [
  | inl here ↦ (0, omega arith, sym here)
  | inr later ↦ contains-later (f x) (map f xs) y (map-any f xs y later)
]

all-of-map : {X Y : Type 0} (P : Y → Type 0) (f : X → Y) (xs : List X) → All P (map f xs) → (x : X) → Contains xs x → P (f x)
all-of-map P f [] all x there = absurd (omega (arith, there.1))
all-of-map P f (y ∷ xs) all x there = elim (contains-cases y xs x there) [
  | inl same ↦ subst (λ z. P (f z)) same (All-head P (f y) (map f xs) all)
  | inr later ↦ all-of-map P f xs (All-tail P (f y) (map f xs) all) x later
]

-- ---- the question

abbrev selector_in : Asked → ℕ → Word
selector_in asked number = yes (asked.packages + number)

pub question-selects : (asked : Asked) (numbers : List ℕ) → AreNumbers asked numbers → Selects asked (question_of asked numbers) numbers
question-selects asked numbers are = record {
  in_range = are.in_range;
  rising = are.rising;
  exact = λ word. (
    (λ there. elim (contains-cases (yes asked.number) (map (selector_in asked) numbers) word there) [
      | inl same ↦ inl (sym same)
      | inr later ↦ inr (any-map (selector_in asked) numbers word later)
    ]),
    (λ some. elim some [
      | inl same ↦ (0, omega arith, sym same)
      | inr any ↦ contains-later (yes asked.number) (map (selector_in asked) numbers) word (map-any (selector_in asked) numbers word any)
    ]),
  );
}

pub question-over : (asked : Asked) (variables : ℕ) (numbers : List ℕ) → FitsAsked asked variables → AreNumbers asked numbers
    → IsOver variables (question_of asked numbers)
question-over asked variables numbers fits are =
    let from = fits.from_one in
    let upto = fits.upto in
    let all = fits.all in
    record {
      some = omega arith;
      form = (
        All-cons (λ l. 1 ≤ l.0) (yes asked.number) (map (selector_in asked) numbers) from
            (All-map (λ l. 1 ≤ l.0) (selector_in asked) numbers (λ k d short. let range = are.in_range k d short in omega (arith, range.0))),
        AllPairs-cons (λ l m. l.0 ≢ m.0) (yes asked.number) (map (selector_in asked) numbers)
            (All-map (λ m. asked.number ≢ m.0) (selector_in asked) numbers
            (λ k d short same. let range = are.in_range k d short in omega (arith, range.0, upto, same)))
            (pairs-map (λ (l m : Word). l.0 ≢ m.0) (selector_in asked) numbers
            (λ i j d before within same. let less = are.rising i j d before within in omega (arith, less, same))),
      );
      upto = All-cons (λ l. l.0 ≤ variables) (yes asked.number) (map (selector_in asked) numbers) (omega (arith, upto, all))
          (All-map (λ l. l.0 ≤ variables) (selector_in asked) numbers (λ k d short.
          let range = are.in_range k d short in omega (arith, range.1, all)));
    }

-- ---- where it is true

abbrev pub HaveAll : Asked → (ℕ → Bool) → List ℕ → Type 0
HaveAll asked value numbers = (value asked.number ≡ true) × ((number : ℕ) → Contains numbers number → value (asked.packages + number) ≡ true)

pub question-true : (asked : Asked) (value : ℕ → Bool) (numbers : List ℕ) → All (IsTrueLiteral value) (clause_of (question_of asked numbers))
    → HaveAll asked value numbers
question-true asked value numbers all =
    let rest = map (λ (word : Word). literal word.0 word.1) (map (selector_in asked) numbers) in (
      All-head (IsTrueLiteral value) (literal asked.number true) rest all,
      λ number there. all-of-map (λ (word : Word). value word.0 ≡ word.1) (selector_in asked) numbers
          (λ k d short. all-of-map (IsTrueLiteral value) (λ (word : Word). literal word.0 word.1) (map (selector_in asked) numbers)
          (All-tail (IsTrueLiteral value) (literal asked.number true) rest all) (get_or (map (selector_in asked) numbers) k d)
          (All-contains_itself (map (selector_in asked) numbers) k d short)) number there,
    )

pub true-question : (asked : Asked) (value : ℕ → Bool) (numbers : List ℕ) → HaveAll asked value numbers
    → All (IsTrueLiteral value) (clause_of (question_of asked numbers))
true-question asked value numbers have =
    All-cons (IsTrueLiteral value) (literal asked.number true) (map (λ (word : Word). literal word.0 word.1) (map (selector_in asked) numbers)) have.0
    (All-map (IsTrueLiteral value) (λ (word : Word). literal word.0 word.1) (map (selector_in asked) numbers)
    (All-map (λ (word : Word). value word.0 ≡ word.1) (selector_in asked) numbers
    (all-contained (λ number. value (asked.packages + number) ≡ true) numbers have.1)))

-- ---- all relations

-- one number more
pub range-more : (count : ℕ) → range_with_len 1 count ++ (count + 1) ∷ [] ≡ range_with_len 1 (count + 1)
range-more count =
    let same : 1 + count ≡ count + 1 = omega arith in
    let last : range_with_len 1 count ++ (1 + count) ∷ [] ≡ range_with_len 1 (count + 1) =
    ap (λ (ns : List ℕ). ns ++ (1 + count) ∷ []) (sym (map-id (range_with_len 1 count)))
    ∙ sym (map-range_with_len_more (λ k. k) 1 count (1 + count) refl) ∙ map-id (range_with_len 1 (count + 1)) in
    ap (λ (n : ℕ). range_with_len 1 count ++ n ∷ []) (sym same) ∙ last

all-there : (count number : ℕ) → 1 ≤ number → number ≤ count → Contains (range_with_len 1 count) number
all-there count number from upto =
    let long = length-range_with_len 1 count in
    let is = get_or-range_with_len 1 count (number - 1) number (omega (arith, from, upto)) in
    (number - 1, omega (arith, from, upto, long), omega (arith, is, from))

pub all-are : (asked : Asked) → AreNumbers asked (range_with_len 1 asked.relations)
all-are asked = record {
  rising = range-rises 1 asked.relations;
  in_range = λ k d short.
      let long = length-range_with_len 1 asked.relations in
      let within : k < asked.relations = omega (arith, short, long) in
      let is = get_or-range_with_len 1 asked.relations k d within in
      (omega (arith, is), omega (arith, is, within));
}

pub all-have : (asked : Asked) (number : ℕ) → IsOfRelation asked number → Contains (range_with_len 1 asked.relations) number
all-have asked number is = all-there asked.relations number is.0 is.1

-- ---- fewer numbers

pub filter-are : (asked : Asked) (p : ℕ → Bool) (numbers : List ℕ) → AreNumbers asked numbers → AreNumbers asked (filter p numbers)
filter-are asked p numbers are = record {
  rising = AllPairs-filter (λ a b. a < b) p numbers are.rising;
  in_range = All-filter p (IsOfRelation asked) numbers are.in_range;
}

pub filter-within : (p : ℕ → Bool) (numbers : List ℕ) → All (Contains numbers) (filter p numbers)
filter-within p numbers = All-filter p (Contains numbers) numbers (All-contains_itself numbers)

pub filter-few : (p : ℕ → Bool) (numbers : List ℕ) → length (filter p numbers) ≤ length numbers
filter-few p numbers = let both = length-filter_both p (λ n. not (p n)) (λ n. refl) numbers in omega (arith, both)

-- fewer of some rising numbers are not all of them
pub not-all : (numbers fewer : List ℕ) → AreRising numbers → AreRising fewer → length fewer < length numbers → All (Contains numbers) fewer
    → ¬ All (Contains fewer) numbers
not-all numbers fewer first second less within all =
    let same = one-rising numbers fewer first second (λ k. (All-contains (Contains fewer) numbers k all, All-contains (Contains numbers) fewer k within)) in
    let e = ap (λ (ns : List ℕ). length ns) same in
    omega (arith, less, e)

-- ---- all but one

pub others-but : (numbers : List ℕ) (one : ℕ) → Contains numbers one → AreAllBut numbers one (others_of numbers one)
others-but numbers one there = record {
  there = there;
  exact = λ number.
      let both = kept (λ n. not (n == one)) numbers number in (
        (λ has. let h = both.0 has in (h.0, λ same. false≢true (sym (ap not (eq-eqb number one same)) ∙ h.1))),
        (λ h. both.1 (h.0, differs number h.1)),
      );
}
  where
    by : (number : ℕ) (b : Bool) → (number == one) ≡ b → number ≢ one → not b ≡ true
    by number true is apart = absurd (apart (eqb-true number one is))
    by number false is apart = refl

    differs : (number : ℕ) → number ≢ one → not (number == one) ≡ true
    differs number apart = by number (number == one) refl apart

pub others-fewer : (numbers : List ℕ) (one : ℕ) → Contains numbers one → length (others_of numbers one) < length numbers
others-fewer numbers one there =
    let both = length-filter_both (λ n. n == one) (λ n. not (n == one)) (λ n. refl) numbers in
    let some = (kept (λ n. n == one) numbers one).1 (there, eq-eqb one one refl) in
    omega (arith, both, some.1)

-- a list that leaves out one number does not leave out another one of them
pub one-left : (numbers : List ℕ) (one other : ℕ) (others : List ℕ) → AreAllBut numbers one others → Contains numbers other → ¬ Contains others other
    → other ≡ one
one-left numbers one other others but there lacks = elim (cases_eq other one) [
  | inl same ↦ same
  | inr apart ↦ absurd (lacks ((but.exact other).1 (there, apart)))
]

-- ---- what is still to be left out

-- a number of the core that is not done
pub open-by : (core done : List ℕ) (one : ℕ) (b : Bool) → is_among core one ≡ true → b ≡ list_any (λ y. y == one) done
    → IsTrue (not b) ↔ (Contains core one × (¬ Contains done one))
open-by core done one b has is = (
  (λ yes. (from-any one core has, λ there. false≢true (sym (ap not (is ∙ some done there)) ∙ yes))),
  (λ both. by b is both.1),
)
  where
    some : (xs : List ℕ) → Contains xs one → list_any (λ y. y == one) xs ≡ true
    some [] there = absurd (omega (arith, there.1))
    some (x ∷ xs) there = elim (contains-cases x xs one there) [
      | inl same ↦ or_left (x == one) (list_any (λ y. y == one) xs) (eq-eqb x one same)
      | inr later ↦ or_right (x == one) (list_any (λ y. y == one) xs) (some xs later)
    ]

    back : (xs : List ℕ) → list_any (λ y. y == one) xs ≡ true → Contains xs one
    back [] any = absurd (false≢true any)
    back (x ∷ xs) any = elim (or_cases (x == one) (list_any (λ y. y == one) xs) any) [
      | inl here ↦ (0, omega arith, eqb-true x one here)
      | inr later ↦ contains-later x xs one (back xs later)
    ]

    by : (a : Bool) → a ≡ list_any (λ y. y == one) done → ¬ Contains done one → not a ≡ true
    by true same none = absurd (none (back done (sym same)))
    by false same none = refl
