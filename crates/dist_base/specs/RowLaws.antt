-- Laws of rows whose keys rise: rows of the same keys are the same rows, and rows of the keys before one are a front of
-- the rows of all. No public clause cites them; proofs of the crates above do.
use Rattle.std.proofs.Common.{◌≡◌, ℕ, ◌<◌, List, [], ◌∷◌, ◌++◌, map, map-id, refl, sym, ap, ap₂, subst, ◌∙◌, arith, inl}
use Rattle.std.proofs.Common.{inr}
use Rattle.std.specs.Prelude.{All, AllPairs, Any, Contains}
use Rattle.std.proofs.lemmas.List.{get_or_default}
use Rattle.std.specs.List.Sorted.{IsStrictlyIncreasing}
use Rattle.std.proofs.lemmas.List.Elements.{All-tail}
use Rattle.std.proofs.lemmas.List.Kept.{AllPairs-from_increasing}
use Rattle.dist_base.specs.ListLaws.{all-contained, any-cases, any-head, any-later, pairs-head, pairs-tail}

-- a row has the key
abbrev pub Has : {X K : Type 0} → (X → K) → List X → K → Type 0
Has key xs k = Any (λ a. key a ≡ k) xs

abbrev pub IsAsymmetric : {K : Type 0} → (K → K → Type 0) → Type 0
IsAsymmetric {K} B = (x y : K) → B x y → ¬ B y x

abbrev pub AreRising : {X K : Type 0} → (X → K) → (K → K → Type 0) → List X → Type 0
AreRising key B xs = AllPairs (λ a b. B (key a) (key b)) xs

-- rows of one key have one image
abbrev pub HasOneImage : {X K Z : Type 0} → (X → K) → (X → Type 0) → (X → Z) → Type 0
HasOneImage {X} key P image = (x y : X) → key x ≡ key y → P x → P y → image x ≡ image y

all-any : {X : Type 0} (P Q : X → Type 0) (xs : List X) (Z : Type 0) → ((x : X) → P x → Q x → Z) → All P xs → Any Q xs
    → Z
all-any P Q xs Z both all any = both any.1 (subst P any.3 (all any.0 any.1 any.2)) any.4

-- the first row's key is before each later one
head-before : {X K : Type 0} (key : X → K) (B : K → K → Type 0) (x : X) (xs : List X) (k : K) → AreRising key B (x ∷ xs)
    → Has key xs k → B (key x) k
head-before key B x xs k rising has =
    all-any (λ b. B (key x) (key b)) (λ a. key a ≡ k) xs (B (key x) k) (λ y before is. subst (B (key x)) is before)
    (all-contained (λ b. B (key x) (key b)) xs (pairs-head (λ a b. B (key a) (key b)) x xs rising)) has

-- first rows of the same keys
heads : {X K : Type 0} (key : X → K) (B : K → K → Type 0) (x : X) (xs : List X) (y : X) (ys : List X) → IsAsymmetric B
    → AreRising key B (x ∷ xs) → AreRising key B (y ∷ ys)
    → Has key (y ∷ ys) (key x) → Has key (x ∷ xs) (key y) → key x ≡ key y
heads key B x xs y ys asymmetric first second there back =
    elim (any-cases (λ a. key a ≡ key x) y ys there) [
      | inl same ↦ sym same
      | inr later ↦ elim (any-cases (λ a. key a ≡ key y) x xs back) [
        | inl same ↦ same
        | inr also ↦ absurd (asymmetric (key x) (key y) (head-before key B x xs (key y) first also)
            (head-before key B y ys (key x) second later))
      ]
    ]

-- the keys of the later rows, where the first ones have one key
tails : {X K : Type 0} (key : X → K) (B : K → K → Type 0) (x : X) (xs : List X) (y : X) (ys : List X) (k : K)
    → IsAsymmetric B → AreRising key B (x ∷ xs) → key x ≡ key y
    → (Has key (x ∷ xs) k → Has key (y ∷ ys) k) → Has key xs k → Has key ys k
tails key B x xs y ys k asymmetric rising same to has =
    elim (any-cases (λ a. key a ≡ k) y ys (to (any-later (λ a. key a ≡ k) x xs has))) [
      | inl here ↦
          let before = head-before key B x xs k rising has in
          let loop : B k k = subst (λ z. B z k) (same ∙ here) before in
          absurd (asymmetric k k loop loop)
      | inr later ↦ later
    ]

none-has : {X K : Type 0} (key : X → K) (k : K) → ¬ Has key [] k
none-has key k has = omega (arith, has.2)

pub rows-same : {X K Z : Type 0} (key : X → K) (B : K → K → Type 0) (P : X → Type 0) (image : X → Z) → IsAsymmetric B
    → HasOneImage key P image
    → (xs ys : List X) → AreRising key B xs → AreRising key B ys → All P xs → All P ys
    → ((k : K) → Has key xs k → Has key ys k) → ((k : K) → Has key ys k → Has key xs k)
    → map image ys ≡ map image xs
rows-same key B P image asymmetric one [] [] first second all also to back = refl
rows-same key B P image asymmetric one [] (y ∷ ys) first second all also to back =
    absurd (none-has key (key y) (back (key y) (any-head (λ a. key a ≡ key y) y ys refl)))
rows-same key B P image asymmetric one (x ∷ xs) [] first second all also to back =
    absurd (none-has key (key x) (to (key x) (any-head (λ a. key a ≡ key x) x xs refl)))
rows-same key B P image asymmetric one (x ∷ xs) (y ∷ ys) first second all also to back =
    let same : key x ≡ key y = heads key B x xs y ys asymmetric first second
    (to (key x) (any-head (λ a. key a ≡ key x) x xs refl))
    (back (key y) (any-head (λ a. key a ≡ key y) y ys refl)) in
    let head : image y ≡ image x = one y x (sym same) (also 0 y (omega arith)) (all 0 x (omega arith)) in
    let rest = rows-same key B P image asymmetric one xs ys (pairs-tail (λ a b. B (key a) (key b)) x xs first)
    (pairs-tail (λ a b. B (key a) (key b)) y ys second) (All-tail P x xs all) (All-tail P y ys also)
    (λ k. tails key B x xs y ys k asymmetric first same (to k))
    (λ k. tails key B y ys x xs k asymmetric second (sym same) (back k)) in
    ap₂ (λ a b. a ∷ b) head rest

-- how the images of all rows go on behind those of a front
pub record Continues {Z : Type 0} (whole front : List Z) (next : Z) : Type 0 where
  pub rest : List Z
  pub is : whole ≡ front ++ next ∷ rest

pub rows-front : {X K Z : Type 0} (key : X → K) (B : K → K → Type 0) (P : X → Type 0) (image : X → Z) → IsAsymmetric B
    → HasOneImage key P image
    → (d : X) → P d → (xs ys : List X) → AreRising key B xs → AreRising key B ys → All P xs → All P ys
    → Has key xs (key d) → ((k : K) → Has key xs k → B k (key d) → Has key ys k)
    → ((k : K) → Has key ys k → Has key xs k) → ((k : K) → Has key ys k → B k (key d))
    → Continues (map image xs) (map image ys) (image d)
rows-front key B P image asymmetric one d holds [] ys first second all also has to back below =
    absurd (none-has key (key d) has)
rows-front key B P image asymmetric one d holds (x ∷ xs) [] first second all also has to back below =
    elim (any-cases (λ a. key a ≡ key d) x xs has) [
      | inl here ↦ record {
        rest = map image xs;
        is = ap (λ z. z ∷ map image xs) (one x d here (all 0 x (omega arith)) holds);
      }
      | inr later ↦ absurd (none-has key (key x)
          (to (key x) (any-head (λ a. key a ≡ key x) x xs refl) (head-before key B x xs (key d) first later)))
    ]
rows-front key B P image asymmetric one d holds (x ∷ xs) (y ∷ ys) first second all also has to back below =
    let first_below : B (key y) (key d) = below (key y) (any-head (λ a. key a ≡ key y) y ys refl) in
    let there : Has key (x ∷ xs) (key y) = back (key y) (any-head (λ a. key a ≡ key y) y ys refl) in
    let differs : key x ≡ key d → ⊥ = λ same.
    elim (any-cases (λ a. key a ≡ key y) x xs there) [
      | inl here ↦ let loop : B (key d) (key d) = subst (λ z. B z (key d)) (sym here ∙ same) first_below in
          asymmetric (key d) (key d) loop loop
      | inr later ↦ asymmetric (key y) (key d) first_below
          (subst (λ z. B z (key y)) same (head-before key B x xs (key y) first later))
    ] in
    let later : Has key xs (key d) = elim (any-cases (λ a. key a ≡ key d) x xs has) [
      | inl here ↦ absurd (differs here)
      | inr there ↦ there
    ] in
    let head_below : B (key x) (key d) = head-before key B x xs (key d) first later in
    let same : key x ≡ key y = heads key B x xs y ys asymmetric first second
    (to (key x) (any-head (λ a. key a ≡ key x) x xs refl) head_below) there in
    let rest = rows-front key B P image asymmetric one d holds xs ys (pairs-tail (λ a b. B (key a) (key b)) x xs first)
    (pairs-tail (λ a b. B (key a) (key b)) y ys second) (All-tail P x xs all) (All-tail P y ys also) later
    (λ k there before. tails key B x xs y ys k asymmetric first same (λ h. to k h before) there)
    (λ k. tails key B y ys x xs k asymmetric second (sym same) (back k))
    (λ k there. below k (any-later (λ a. key a ≡ k) y ys there)) in
    record {
      rest = rest.rest;
      is = ap₂ (λ a b. a ∷ b) (one x y same (all 0 x (omega arith)) (also 0 y (omega arith)))
          rest.is;
    }

-- ---- rising numbers

has-number : (xs : List ℕ) (k : ℕ) → Contains xs k → Has (λ (n : ℕ). n) xs k
has-number xs k there = (there.0, k, there.1, there.2, refl)

number-has : (xs : List ℕ) (k : ℕ) → Has (λ (n : ℕ). n) xs k → Contains xs k
number-has xs k has = (has.0, has.2, get_or_default xs has.0 k has.1 has.2 ∙ has.3 ∙ has.4)

asymmetric-less : IsAsymmetric (λ (a b : ℕ). a < b)
asymmetric-less x y less more = omega arith

-- rising numbers are given by which they are
pub same-numbers : (xs ys : List ℕ) → IsStrictlyIncreasing xs → IsStrictlyIncreasing ys
    → ((k : ℕ) → Contains xs k → Contains ys k) → ((k : ℕ) → Contains ys k → Contains xs k) → ys ≡ xs
same-numbers xs ys first second to back =
    sym (map-id ys) ∙ rows-same (λ (n : ℕ). n) (λ (a b : ℕ). a < b) (λ (n : ℕ). Unit {0}) (λ (n : ℕ). n) asymmetric-less
    (λ x y same p q. same) xs ys
    (AllPairs-from_increasing xs first) (AllPairs-from_increasing ys second) (λ k d short. tt) (λ k d short. tt)
    (λ k has. has-number ys k (to k (number-has xs k has))) (λ k has. has-number xs k (back k (number-has ys k has)))
    ∙ map-id xs
