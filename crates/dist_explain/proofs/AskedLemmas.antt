-- Which relations a question selects.
use Rattle.std.proofs.Common.{◌≡◌, ◌⊎◌, ◌↔◌, inl, inr, ℕ, ◌+◌, ◌-◌, Bool, true, false, List, [], ◌∷◌, Option, Some}
use Rattle.std.proofs.Common.{None, cond}
use Rattle.std.proofs.Common.{refl, sym, ap, subst, ◌∙◌, arith}
use Rattle.std.specs.List.{Any, Contains, cons_option, filter_map, list_all, list_any}
use Rattle.std.specs.Prelude.{is_some, nat_le, nat_lt}
use Rattle.std.proofs.lemmas.Bool.{and_from, and_parts, eq-eqb, eqb-true, false≢true, le-leb, leb-true, lt-ltb}
use Rattle.std.proofs.lemmas.Bool.{ltb-true, or_cases, or_left, or_right}
use Rattle.std.proofs.lemmas.Bool.{true≢false}
use Rattle.std.proofs.lemmas.List.Elements.{All-contains}
use Rattle.dist_base.specs.ListLaws.{all-contained, any-contained, any-there}
use Rattle.dist_cert.specs.ClaimRules.{yes}
use Rattle.dist_cert.specs.Form.{Word}
use Rattle.dist_cert.specs.ListLaws.{contains-cases, contains-later}
use Rattle.dist_cert.specs.Rising.{AreRising}
use Rattle.dist_explain.specs.Answered.{IsOfRelation, Selects}
use Rattle.dist_explain.specs.AskedPrivate.{SelectsNone, is_on, is_package, is_selector, relation_of}
use Rattle.dist_explain.specs.declared.asked.Asked.{Asked}

-- ---- words

-- the word is the package
package-word : (asked : Asked) (v : ℕ) (b : Bool) → is_package asked (v, b) ≡ true → (v, b) ≡ yes asked.number
package-word asked v true is = let same : v ≡ asked.number = eqb-true v asked.number is in ap (λ (n : ℕ). yes n) same
package-word asked v false is = absurd (false≢true is)

-- the word is the selector of the relation
record IsSelectorOf (asked : Asked) (word : Word) (number : ℕ) : Type 0 where
  range : IsOfRelation asked number
  word_is : word ≡ yes (asked.packages + number)

selector-word : (asked : Asked) (v : ℕ) (b : Bool) → is_selector asked (v, b) ≡ true → IsSelectorOf asked (v, b) (v - asked.packages)
selector-word asked v true is =
    let parts = and_parts (nat_lt asked.packages v) (nat_le (v - asked.packages) asked.relations) is in
    let above = ltb-true asked.packages v parts.0 in
    let upto = leb-true (v - asked.packages) asked.relations parts.1 in
    let same : v ≡ asked.packages + (v - asked.packages) = omega (arith, above) in
    record { range = (omega (arith, above), upto); word_is = ap (λ (n : ℕ). yes n) same }
selector-word asked v false is = absurd (false≢true is)

-- the relation of a word, if it is a selector
relation-word : (asked : Asked) (word : Word) (number : ℕ) → relation_of asked word ≡ Some number → IsSelectorOf asked word number
relation-word asked word number is = by (is_selector asked word) refl is
  where
    by : (b : Bool) → is_selector asked word ≡ b → cond b (Some (word.0 - asked.packages)) None ≡ Some number → IsSelectorOf asked word number
    by true selects same = let e : word.0 - asked.packages ≡ number = cc in
        subst (IsSelectorOf asked word) e (selector-word asked word.0 word.1 selects)
    by false selects same = cc

-- the words of a question are the package and selectors
on-word : (asked : Asked) (word : Word) → is_on asked word ≡ true → (word ≡ yes asked.number) ⊎ ((number : ℕ) × (relation_of asked word ≡ Some number))
on-word asked word is = elim (or_cases (is_package asked word) (is_some (relation_of asked word)) is) [
  | inl here ↦ inl (package-word asked word.0 word.1 here)
  | inr some ↦ inr (by (relation_of asked word) some)
]
  where
    by : (o : Option ℕ) → is_some o ≡ true → (number : ℕ) × (o ≡ Some number)
    by (Some n) some = (n, refl)
    by None some = absurd (false≢true some)

-- ---- lists

all-true : {X : Type 0} (p : X → Bool) (xs : List X) (x : X) → list_all p xs ≡ true → Contains xs x → p x ≡ true
all-true p [] x all there = absurd (omega (arith, there.1))
all-true p (y ∷ xs) x all there =
    let parts = and_parts (p y) (list_all p xs) all in
    elim (contains-cases y xs x there) [
      | inl same ↦ ap p (sym same) ∙ parts.0
      | inr later ↦ all-true p xs x parts.1 later
    ]

any-true : {X : Type 0} (p : X → Bool) (xs : List X) → list_any p xs ≡ true → (x : X) × Contains xs x × (p x ≡ true)
any-true p [] any = absurd (false≢true any)
any-true p (y ∷ xs) any = elim (or_cases (p y) (list_any p xs) any) [
  | inl here ↦ (y, (0, omega arith, refl), here)
  | inr later ↦ let rest = any-true p xs later in (rest.0, contains-later y xs rest.0 rest.1, rest.2)
]

mapped-there : {X : Type 0} (f : X → Option ℕ) (xs : List X) (x : X) (n : ℕ) → Contains xs x → f x ≡ Some n → Contains (filter_map f xs) n
mapped-there f [] x n there is = absurd (omega (arith, there.1))
mapped-there f (y ∷ xs) x n there is = elim (contains-cases y xs x there) [
  | inl same ↦ here (f y) (ap f same ∙ is)
  | inr later ↦ more (f y) (mapped-there f xs x n later is)
]
  where
    here : (o : Option ℕ) → o ≡ Some n → Contains (cons_option o (filter_map f xs)) n
    here (Some m) same = (0, omega arith, let e : m ≡ n = cc in e)
    here None same = cc

    more : (o : Option ℕ) → Contains (filter_map f xs) n → Contains (cons_option o (filter_map f xs)) n
    more (Some m) later = contains-later m (filter_map f xs) n later
    more None later = later

mapped-from : {X : Type 0} (f : X → Option ℕ) (xs : List X) (n : ℕ) → Contains (filter_map f xs) n → (x : X) × Contains xs x × (f x ≡ Some n)
mapped-from f [] n there = absurd (omega (arith, there.1))
mapped-from {X} f (y ∷ xs) n there = by (mapped-from f xs n) (f y) refl there
  where
    by : (Contains (filter_map f xs) n → (x : X) × Contains xs x × (f x ≡ Some n)) → (o : Option ℕ) → f y ≡ o
        → Contains (cons_option o (filter_map f xs)) n → (x : X) × Contains (y ∷ xs) x × (f x ≡ Some n)
    by more (Some m) is some = elim (contains-cases m (filter_map f xs) n some) [
      | inl same ↦ (y, (0, omega arith, refl), is ∙ ap (λ (k : ℕ). Some k) same)
      | inr later ↦ let rest = more later in (rest.0, contains-later y xs rest.0 rest.1, rest.2)
    ]
    by more None is some = let rest = more some in (rest.0, contains-later y xs rest.0 rest.1, rest.2)

-- ---- questions

pub selected-some : (asked : Asked) (question : List Word) (numbers : List ℕ) → list_all (is_on asked) question ≡ true
    → list_any (is_package asked) question ≡ true → AreRising numbers
    → ((one : ℕ) → Contains numbers one ↔ Contains (filter_map (relation_of asked) question) one) → Selects asked question numbers
selected-some asked question numbers alone has rising same = record {
  in_range = all-contained (IsOfRelation asked) numbers (λ one there. (from one there).2.range);
  rising = rising;
  exact = λ word. (to word, back word);
}
  where
    from : (one : ℕ) → Contains numbers one → (word : Word) × Contains question word × IsSelectorOf asked word one
    from one there =
        let some = mapped-from (relation_of asked) question one ((same one).0 there) in
        (some.0, some.1, relation-word asked some.0 one some.2)

    to : (word : Word) → Contains question word → (word ≡ yes asked.number) ⊎ Any (λ number. word ≡ yes (asked.packages + number)) numbers
    to word there = elim (on-word asked word (all-true (is_on asked) question word alone there)) [
      | inl here ↦ inl here
      | inr some ↦ inr (any-contained (λ number. word ≡ yes (asked.packages + number)) numbers some.0
          ((same some.0).1 (mapped-there (relation_of asked) question word some.0 there some.1)) (relation-word asked word some.0 some.1).word_is)
    ]

    back : (word : Word) → (word ≡ yes asked.number) ⊎ Any (λ number. word ≡ yes (asked.packages + number)) numbers → Contains question word
    back word (inl here) =
        let some = any-true (is_package asked) question has in
        subst (Contains question) (package-word asked some.0.0 some.0.1 some.2 ∙ sym here) some.1
    back word (inr any) =
        let some = from any.1 (any-there (λ number. word ≡ yes (asked.packages + number)) numbers any) in
        subst (Contains question) (some.2.word_is ∙ sym any.4) some.1

package-itself : (asked : Asked) → is_package asked (yes asked.number) ≡ true
package-itself asked = eq-eqb asked.number asked.number refl

-- a word of such a question is the package or a selector
selects-on : (asked : Asked) (question : List Word) (numbers : List ℕ) (word : Word) → Selects asked question numbers → Contains question word
    → is_on asked word ≡ true
selects-on asked question numbers word selects there = elim ((selects.exact word).0 there) [
  | inl here ↦ ap (is_on asked) here ∙ package-on
  | inr any ↦
      let range = All-contains (IsOfRelation asked) numbers any.1 selects.in_range
      (any-there (λ number. word ≡ yes (asked.packages + number)) numbers any) in
      ap (is_on asked) any.4 ∙ selector-on any.1 range
]
  where
    package-on : is_on asked (yes asked.number) ≡ true
    package-on = or_left (is_package asked (yes asked.number)) (is_some (relation_of asked (yes asked.number))) (package-itself asked)

    selector-on : (number : ℕ) → IsOfRelation asked number → is_on asked (yes (asked.packages + number)) ≡ true
    selector-on number range =
        let word : Word = yes (asked.packages + number) in
        let same : asked.packages + number - asked.packages ≡ number = omega arith in
        let above = lt-ltb asked.packages (asked.packages + number) (omega (arith, range.0)) in
        let upto = le-leb (asked.packages + number - asked.packages) asked.relations (omega (arith, same, range.1)) in
        let selects = and_from (nat_lt asked.packages (asked.packages + number)) (nat_le (asked.packages + number - asked.packages) asked.relations)
        above upto in
        or_right (is_package asked word) (is_some (relation_of asked word))
        (ap (λ (b : Bool). is_some (cond b (Some (asked.packages + number - asked.packages)) None)) selects)

pub selected-none-alone : (asked : Asked) (question : List Word) → list_all (is_on asked) question ≡ false → SelectsNone asked question
selected-none-alone asked question not numbers selects =
    true≢false (sym (all-from (is_on asked) question (λ word there. selects-on asked question numbers word selects there)) ∙ not)
  where
    all-from : (p : Word → Bool) (xs : List Word) → ((word : Word) → Contains xs word → p word ≡ true) → list_all p xs ≡ true
    all-from p [] each = refl
    all-from p (x ∷ xs) each = and_from (p x) (list_all p xs) (each x (0, omega arith, refl))
        (all-from p xs (λ word there. each word (contains-later x xs word there)))

pub selected-none-package : (asked : Asked) (question : List Word) → list_any (is_package asked) question ≡ false → SelectsNone asked question
selected-none-package asked question none numbers selects =
    let there = (selects.exact (yes asked.number)).1 (inl refl) in
    true≢false (sym (any-from-one question there) ∙ none)
  where
    any-from-one : (xs : List Word) → Contains xs (yes asked.number) → list_any (is_package asked) xs ≡ true
    any-from-one [] there = absurd (omega (arith, there.1))
    any-from-one (x ∷ xs) there = elim (contains-cases x xs (yes asked.number) there) [
      | inl same ↦ or_left (is_package asked x) (list_any (is_package asked) xs) (ap (is_package asked) same ∙ package-itself asked)
      | inr later ↦ or_right (is_package asked x) (list_any (is_package asked) xs) (any-from-one xs later)
    ]
