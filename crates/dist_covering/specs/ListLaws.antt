-- Laws of lists: what is filtered, what is among numbers, and pairs of elements. Proofs cite them, those of the crates
-- above too.
use Rattle.std.proofs.Common.{◌≡◌, ◌⊎◌, inl, inr, ℕ, ◌<◌, ◌≤◌, Bool, true, false, not, cond, List, []}
use Rattle.std.proofs.Common.{◌∷◌, ◌++◌, length, get_or, filter, refl, ap, sym, subst, ◌∙◌, arith, length-append, ◌↔◌}
use Rattle.std.specs.List.{All, AllPairs, Contains}
use Rattle.std.proofs.lemmas.Bool.{cases_lt, true≢false, false≢true}
use Rattle.std.proofs.lemmas.List.{get_or_append_left, get_or_at}
use Rattle.std.proofs.lemmas.List.Elements.{All-contains, filter_passes}
use Rattle.dist_cert.specs.ListLaws.{any-from, contains-cases, contains-later, from-any, both-flags}
use Rattle.dist_cert.specs.Rising.{is_among}
use Rattle.dist_base.specs.ListLaws.{all-contained}

pub pairs-push : {X : Type 0} (R : X → X → Type 0) (xs : List X) (y : X) → AllPairs R xs → All (λ x. R x y) xs
    → AllPairs R (xs ++ y ∷ [])
pairs-push {X} R xs y pairs last i j d before within = elim (cases_lt j (length xs)) [
  | inl inside ↦
      subst (λ (a : X). R a (get_or (xs ++ y ∷ []) j d))
      (sym (get_or_append_left xs (y ∷ []) d i (omega (arith, before, inside))))
      (subst (λ (b : X). R (get_or xs i d) b) (sym (get_or_append_left xs (y ∷ []) d j inside))
      (pairs i j d before inside))
  | inr past ↦
      let end : length xs ≡ j = omega (arith, past, within, length-append xs (y ∷ [])) in
      let early : i < length xs = omega (arith, before, end) in
      subst (λ (a : X). R a (get_or (xs ++ y ∷ []) j d)) (sym (get_or_append_left xs (y ∷ []) d i early))
      (subst (λ (b : X). R (get_or xs i d) b) (sym (get_or_at xs y [] d j end)) (last i d early))
]

pub in-filter : {X : Type 0} (p : X → Bool) (xs : List X) (x : X) → Contains xs x → p x ≡ true
    → Contains (filter p xs) x
in-filter p [] x there holds = absurd (omega (arith, there.1))
in-filter {X} p (y ∷ xs) x there holds = by (λ later. in-filter p xs x later holds) (p y) refl
    (contains-cases y xs x there)
  where
    by : (Contains xs x → Contains (filter p xs) x) → (b : Bool) → p y ≡ b → (y ≡ x) ⊎ Contains xs x
        → Contains (cond b (y ∷ filter p xs) (filter p xs)) x
    by rest true is (inl same) = (0, omega arith, same)
    by rest true is (inr later) = contains-later y (filter p xs) x (rest later)
    by rest false is (inl same) = absurd (true≢false (sym holds ∙ ap p (sym same) ∙ is))
    by rest false is (inr later) = rest later

pub filter-in : {X : Type 0} (p : X → Bool) (xs : List X) (x : X) → Contains (filter p xs) x → Contains xs x
filter-in p [] x there = there
filter-in {X} p (y ∷ xs) x there = by (λ later. filter-in p xs x later) (p y) there
  where
    by : (Contains (filter p xs) x → Contains xs x) → (b : Bool)
        → Contains (cond b (y ∷ filter p xs) (filter p xs)) x → Contains (y ∷ xs) x
    by rest true in_it = elim (contains-cases y (filter p xs) x in_it) [
      | inl same ↦ (0, omega arith, same)
      | inr later ↦ contains-later y xs x (rest later)
    ]
    by rest false in_it = contains-later y xs x (rest in_it)

pub filter-holds : {X : Type 0} (p : X → Bool) (xs : List X) (x : X) → Contains (filter p xs) x → p x ≡ true
filter-holds p xs x there = All-contains (λ y. p y ≡ true) (filter p xs) x (filter_passes p xs) there

pub filter-few : {X : Type 0} (p : X → Bool) (xs : List X) → length (filter p xs) ≤ length xs
filter-few p [] = omega arith
filter-few {X} p (y ∷ xs) = by (filter-few p xs) (p y)
  where
    by : length (filter p xs) ≤ length xs → (b : Bool)
        → length (cond b (y ∷ filter p xs) (filter p xs)) ≤ length (y ∷ xs)
    by rest true = omega (arith, rest)
    by rest false = omega (arith, rest)

pub not-true : (b : Bool) → not b ≡ true → b ≡ false
not-true true is = absurd (false≢true is)
not-true false is = refl

pub not-false : (b : Bool) → b ≡ false → not b ≡ true
not-false b is = ap not is

-- the same numbers, as a test
pub same-among : (xs ys : List ℕ) (q : ℕ) → Contains xs q ↔ Contains ys q → is_among xs q ≡ is_among ys q
same-among xs ys q same = both-flags (is_among xs q) (is_among ys q)
    (λ e. any-from q ys (same.0 (from-any q xs e)))
    (λ e. any-from q xs (same.1 (from-any q ys e)))

pub among-members : (xs ys : List ℕ) → ((q : ℕ) → is_among xs q ≡ is_among ys q) → (q : ℕ) → Contains xs q
    → Contains ys q
among-members xs ys same q there = from-any q ys (sym (same q) ∙ any-from q xs there)

pub all-members : (P : ℕ → Type 0) (xs ys : List ℕ) → ((q : ℕ) → is_among xs q ≡ is_among ys q) → All P ys → All P xs
all-members P xs ys same all = all-contained P xs (λ q there. All-contains P ys q all
    (among-members xs ys same q there))
