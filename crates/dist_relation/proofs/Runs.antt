-- The longest start of bytes that pass, and what follows it.
use Rattle.std.proofs.Common.{◌≡◌, ℕ, Bool, true, false, cond, List, [], ◌∷◌, ◌++◌, refl, ap, ◌∙◌, ◌&&◌}
use Rattle.std.specs.List.{take_while, list_all}
use Rattle.std.proofs.lemmas.List.Sums.{take_while-cons}
use Rattle.dist_relation.specs.Bytes.{Stops}
use Rattle.dist_relation.specs.ReadingPrivate.{past}

pub both_true : (a b : Bool) → (a && b) ≡ true → (a ≡ true) × (b ≡ true)
both_true true b h = (refl, h)
both_true false b h = absurd cc

pub true_both : (a b : Bool) → a ≡ true → b ≡ true → (a && b) ≡ true
true_both true b p q = q
true_both false b p q = absurd cc

pub take_while-append : (test : ℕ → Bool) (a r : List ℕ) → list_all test a ≡ true → Stops test r → take_while test (a ++ r) ≡ a
take_while-append test [] [] all stops = refl
take_while-append test [] (c ∷ r) all stops = rw (take_while-cons test c r, stops) refl
take_while-append test (b ∷ a) r all stops =
    let p = both_true (test b) (list_all test a) all in
    let q = p.0 in
    rw (take_while-cons test b (a ++ r), q, take_while-append test a r p.1 stops) refl

pub past-append : (test : ℕ → Bool) (a r : List ℕ) → list_all test a ≡ true → Stops test r → past test (a ++ r) ≡ r
unfolding past
past-append test [] [] all stops = refl
past-append test [] (c ∷ r) all stops = rw stops refl
past-append test (b ∷ a) r all stops =
    let p = both_true (test b) (list_all test a) all in
    let q = p.0 in
    rw q (past-append test a r p.1 stops)

take_while_then : (test : ℕ → Bool) (b : ℕ) (bs : List ℕ) (t : Bool)
    → cond t (b ∷ take_while test bs) [] ++ cond t (past test bs) (b ∷ bs) ≡ cond t (b ∷ (take_while test bs ++ past test bs)) (b ∷ bs)
unfolding past
take_while_then test b bs true = refl
take_while_then test b bs false = refl

same_either : (t : Bool) (x y : List ℕ) → x ≡ y → cond t x y ≡ y
same_either true x y e = e
same_either false x y e = refl

pub take_while-past : (test : ℕ → Bool) (s : List ℕ) → take_while test s ++ past test s ≡ s
unfolding past
take_while-past test [] = refl
take_while-past test (b ∷ bs) =
    rw (take_while-cons test b bs) (take_while_then test b bs (test b) ∙ same_either (test b) _ _ (ap (λ (t : List ℕ). b ∷ t) (take_while-past test bs)))

all_either : (test : ℕ → Bool) (b : ℕ) (t : Bool) (run : List ℕ) → test b ≡ t → list_all test run ≡ true → list_all test (cond t (b ∷ run) []) ≡ true
all_either test b true run e h = true_both (test b) _ e h
all_either test b false run e h = refl

pub take_while_all : (test : ℕ → Bool) (s : List ℕ) → list_all test (take_while test s) ≡ true
take_while_all test [] = refl
take_while_all test (b ∷ bs) = rw (take_while-cons test b bs) (all_either test b (test b) (take_while test bs) refl (take_while_all test bs))

stops_either : (test : ℕ → Bool) (b : ℕ) (t : Bool) (x bs : List ℕ) → test b ≡ t → Stops test x → Stops test (cond t x (b ∷ bs))
stops_either test b true x bs e h = h
stops_either test b false x bs e h = e

pub past_stops : (test : ℕ → Bool) (s : List ℕ) → Stops test (past test s)
unfolding past
past_stops test [] = tt
past_stops test (b ∷ bs) = stops_either test b (test b) (past test bs) bs refl (past_stops test bs)

-- what stops already has nothing to skip
pub past_stopped : (test : ℕ → Bool) (s : List ℕ) → Stops test s → past test s ≡ s
unfolding past
past_stopped test [] h = refl
past_stopped test (b ∷ bs) h = rw h refl

pub take_while-yes : (test : ℕ → Bool) (b : ℕ) (bs : List ℕ) → test b ≡ true → take_while test (b ∷ bs) ≡ b ∷ take_while test bs
take_while-yes test b bs h = take_while-cons test b bs ∙ ap (λ (t : Bool). cond t (b ∷ take_while test bs) []) h
