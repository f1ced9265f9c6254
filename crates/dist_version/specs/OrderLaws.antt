-- The order by weights is total.
use Rattle.std.proofs.Common.{◌≡◌, ◌↔◌, ℕ, zero, suc, ◌≤◌, List, [], ◌∷◌, length, ℤ, pos, Ordering, Less, Equal}
use Rattle.std.proofs.Common.{Greater, unwrap_or, int_cmp, nat_cmp, refl, sym, ap, ◌∙◌, arith}
use Rattle.std.specs.Cmp.{IsTotalOrder}
use Rattle.std.specs.Cmp.Lexicographic.{slice_cmp}
use Rattle.std.specs.Cmp.Derive.Recursive.{limit_total}
use Rattle.std.specs.Ordering.{on, ordering_then, ordering_reverse}
use Rattle.std.proofs.lemmas.Cmp.{int_cmp_total, nat_cmp_total, lists_total, on_total, then_total, tied_itself}
use Rattle.dist_version.specs.Spelling.{epoch_of, upstream_of, revision_of}
use Rattle.dist_version.specs.Order.{weights_of, weights_cmp, part_cmp, version_cmp, IsBelow}

-- n weights, with zeros after the last
pad : ℕ → List ℤ → List ℤ
pad zero xs = []
pad (suc n) [] = pos 0 ∷ pad n []
pad (suc n) (x ∷ xs) = x ∷ pad n xs

pad_cmp : (n : ℕ) (xs ys : List ℤ) → length xs ≤ n → length ys ≤ n
    → slice_cmp int_cmp (pad n xs) (pad n ys) ≡ weights_cmp xs ys
unfolding pad
pad_cmp zero [] [] p q = refl
pad_cmp zero [] (y ∷ ys) p q = absurd (omega arith)
pad_cmp zero (x ∷ xs) ys p q = absurd (omega arith)
pad_cmp (suc n) [] [] p q = pad_cmp n [] [] (omega arith) (omega arith)
pad_cmp (suc n) [] (y ∷ ys) p q = ap (ordering_then (int_cmp (pos 0) y)) (pad_cmp n [] ys (omega arith) (omega arith))
pad_cmp (suc n) (x ∷ xs) [] p q = ap (ordering_then (int_cmp x (pos 0))) (pad_cmp n xs [] (omega arith) (omega arith))
pad_cmp (suc n) (x ∷ xs) (y ∷ ys) p q = ap (ordering_then (int_cmp x y)) (pad_cmp n xs ys (omega arith) (omega arith))

pub weights_total : IsTotalOrder weights_cmp
weights_total =
    limit_total (λ (xs : List ℤ). length xs) (λ n. on (pad n) (slice_cmp int_cmp)) weights_cmp
    (λ n xs ys p q. pad_cmp n xs ys (omega arith) (omega arith))
    (λ n. on_total (pad n) (lists_total int_cmp_total))

pub part_total : IsTotalOrder part_cmp
unfolding part_cmp
part_total = on_total weights_of weights_total

pub version_total : IsTotalOrder version_cmp
unfolding version_cmp
version_total =
    then_total (on_total epoch_of nat_cmp_total)
    (then_total (on_total upstream_of part_total) (on_total (λ t. unwrap_or (revision_of t) []) part_total))

-- equal versions are those of which neither is below the other
equal_where_neither_below : (a b : List ℕ) (order : Ordering) → order ≡ version_cmp a b → (order ≡ Equal)
    ↔ ((¬ IsBelow a b) × (¬ IsBelow b a))
equal_where_neither_below a b Less is = (λ e. cc, λ h. absurd (h.0 (sym is)))
equal_where_neither_below a b Equal is =
    let back : version_cmp b a ≡ Equal = version_total.antisymm b a ∙ ap ordering_reverse (sym is) in
    (λ e. (λ h. cc, λ h. cc), λ h. refl)
equal_where_neither_below a b Greater is =
    let back : version_cmp b a ≡ Less = version_total.antisymm b a ∙ ap ordering_reverse (sym is) in
    (λ e. cc, λ h. absurd (h.1 back))

pub equal_is_neither_below : (a b : List ℕ) → (version_cmp a b ≡ Equal) ↔ ((¬ IsBelow a b) × (¬ IsBelow b a))
equal_is_neither_below a b = equal_where_neither_below a b (version_cmp a b) refl

pub version_cmp-same : (a b : List ℕ) → a ≡ b → Equal ≡ version_cmp a b
version_cmp-same a b e = sym (tied_itself version_total a) ∙ ap (version_cmp a) e

-- by epoch, upstream version and revision
pub version_cmp-parts : (a b : List ℕ) → version_cmp a b
    ≡ ordering_then (nat_cmp (epoch_of a) (epoch_of b))
    (ordering_then (part_cmp (upstream_of a) (upstream_of b))
    (part_cmp (unwrap_or (revision_of a) []) (unwrap_or (revision_of b) [])))
unfolding version_cmp
version_cmp-parts a b = refl
