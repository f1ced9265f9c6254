-- A number that is put into an ordered set.
use Rattle.std.proofs.Common.{◌≡◌, ℕ, ◌==◌, ◌||◌, Bool, true, false, List, [], ◌∷◌, Ordering, Less, Equal, Greater, nat_cmp, refl, sym, ap, subst, ◌∙◌}
use Rattle.std.proofs.lemmas.Cmp.{ranked}
use Rattle.std.specs.BTreeSet.{insert_key}
use Rattle.std.specs.Ordering.{match_ordering}
use Rattle.dist_cert.specs.Rising.{is_among}

swap-or : (a b c : Bool) → (a || (b || c)) ≡ (b || (a || c))
swap-or true true c = refl
swap-or true false c = refl
swap-or false b c = refl

twice-or : (a c : Bool) → (a || c) ≡ (a || (a || c))
twice-or true c = refl
twice-or false c = refl

among-match : (k x : ℕ) (xs more : List ℕ) (q : ℕ) (o : Ordering) → (o ≡ Equal → k ≡ x) → is_among more q ≡ ((q == k) || is_among xs q)
    → is_among (match_ordering o (k ∷ x ∷ xs) (x ∷ xs) (x ∷ more)) q ≡ ((q == k) || is_among (x ∷ xs) q)
among-match k x xs more q Less same rest = refl
among-match k x xs more q Equal same rest = subst (λ n. is_among (x ∷ xs) q ≡ ((q == n) || is_among (x ∷ xs) q)) (sym (same refl))
    (twice-or (q == x) (is_among xs q))
among-match k x xs more q Greater same rest = ap (λ (b : Bool). (q == x) || b) rest ∙ swap-or (q == x) (q == k) (is_among xs q)

pub among-insert : (k : ℕ) (xs : List ℕ) (q : ℕ) → is_among (insert_key nat_cmp xs k) q ≡ ((q == k) || is_among xs q)
among-insert k [] q = refl
among-insert k (x ∷ xs) q = among-match k x xs (insert_key nat_cmp xs k) q (nat_cmp k x) (λ e. ranked k x Equal (sym e)) (among-insert k xs q)
