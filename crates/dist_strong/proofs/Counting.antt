-- Fewer packages are open.
use Rattle.std.proofs.Common.{◌≡◌, ℕ, zero, suc, ◌+◌, ◌<◌, ◌≤◌, Bool, true, false, filter, if◌then◌else◌, List, [], ◌∷◌, length, get_or, refl, sym, ap, subst}
use Rattle.std.proofs.Common.{◌∙◌, arith}
use Rattle.std.specs.List.{All, Contains, range_with_len}
use Rattle.std.proofs.lemmas.Bool.{true≢false, false≢true}
use Rattle.std.proofs.lemmas.List.Elements.{All-head, All-tail}
use Rattle.std.proofs.lemmas.List.FromFn.{get_or-range_with_len, length-range_with_len}
use Rattle.dist_strong.specs.Group.{GroupView, IsCandidate, is_open, open_count}
use Rattle.dist_strong.specs.SettlingPrivate.{IsFurther}
use Rattle.dist_sweep.specs.Window.{WindowView}

abbrev Implies : (ℕ → Bool) → (ℕ → Bool) → ℕ → Type 0
Implies few many r = few r ≡ true → many r ≡ true

keeps : (x : ℕ) (b d : Bool) (few many : List ℕ) → (b ≡ true → d ≡ true) → length few ≤ length many
    → length (if b then x ∷ few else few) ≤ length (if d then x ∷ many else many)
keeps x true true few many to less = omega (arith, less)
keeps x true false few many to less = absurd (false≢true (to refl))
keeps x false true few many to less = omega (arith, less)
keeps x false false few many to less = less

fewer : (few many : ℕ → Bool) (xs : List ℕ) → All (Implies few many) xs → length (filter few xs) ≤ length (filter many xs)
fewer few many [] all = omega arith
fewer few many (x ∷ xs) all = keeps x (few x) (many x) (filter few xs) (filter many xs) (All-head (Implies few many) x xs all)
    (fewer few many xs (All-tail (Implies few many) x xs all))

drops : (x : ℕ) (b d : Bool) (few many : List ℕ) → b ≡ false → d ≡ true → length few ≤ length many
    → length (if b then x ∷ few else few) < length (if d then x ∷ many else many)
drops x true d few many none one less = absurd (true≢false none)
drops x false true few many none one less = omega (arith, less)
drops x false false few many none one less = absurd (false≢true one)

keeps-less : (x : ℕ) (b d : Bool) (few many : List ℕ) → (b ≡ true → d ≡ true) → length few < length many
    → length (if b then x ∷ few else few) < length (if d then x ∷ many else many)
keeps-less x true true few many to less = omega (arith, less)
keeps-less x true false few many to less = absurd (false≢true (to refl))
keeps-less x false true few many to less = omega (arith, less)
keeps-less x false false few many to less = less

less : (few many : ℕ → Bool) (xs : List ℕ) (q : ℕ) → All (Implies few many) xs → Contains xs q → many q ≡ true → few q ≡ false
    → length (filter few xs) < length (filter many xs)
less few many [] q all there one none = absurd (omega (arith, there.1))
less few many (x ∷ xs) q all there one none = at there.0 there.1 there.2 (less few many xs q (All-tail (Implies few many) x xs all))
    (fewer few many xs (All-tail (Implies few many) x xs all))
  where
    at : (k : ℕ) → k < length (x ∷ xs) → get_or (x ∷ xs) k q ≡ q
        → (Contains xs q → many q ≡ true → few q ≡ false → length (filter few xs) < length (filter many xs))
        → length (filter few xs) ≤ length (filter many xs) → length (filter few (x ∷ xs)) < length (filter many (x ∷ xs))
    at zero within is later rest = drops x (few x) (many x) (filter few xs) (filter many xs) (ap few is ∙ none) (ap many is ∙ one) rest
    at (suc k) within is later rest = keeps-less x (few x) (many x) (filter few xs) (filter many xs) (All-head (Implies few many) x xs all)
        (later (k, omega (arith, within), is) one none)

in-range : (n q : ℕ) → 1 ≤ q → q ≤ n → Contains (range_with_len 1 n) q
in-range zero q from upto = absurd (omega arith)
in-range (suc n) q from upto = by n q from upto
  where
    by : (m r : ℕ) → 1 ≤ r → r ≤ suc m → Contains (range_with_len 1 (suc m)) r
    by m zero low high = absurd (omega arith)
    by m (suc r) low high =
        let within : r < suc m = omega arith in
        let is : 1 + r ≡ suc r = omega arith in
        (r, omega (arith, length-range_with_len 1 (suc m)), get_or-range_with_len 1 (suc m) r (suc r) within ∙ is)

pub fewer-open : (w : WindowView) (old new : GroupView) (q : ℕ) → IsCandidate w old q → IsFurther old new q → open_count new < open_count old
fewer-open w old new q candidate further =
    let same : open_count new ≡ length (filter (is_open new) (range_with_len 1 old.variables)) =
    ap (λ (n : ℕ). length (filter (is_open new) (range_with_len 1 n))) further.variables in
    let few = less (is_open new) (is_open old) (range_with_len 1 old.variables) q all (in-range old.variables q candidate.from_one candidate.upto)
    candidate.opens further.closed in
    omega (arith, same, few)
  where
    all : All (Implies (is_open new) (is_open old)) (range_with_len 1 old.variables)
    all k d within =
        let short : k < old.variables = omega (arith, within, length-range_with_len 1 old.variables) in
        let is = get_or-range_with_len 1 old.variables k d short in
        λ opens. subst (λ (r : ℕ). is_open old r ≡ true) (sym is)
        (further.fewer (1 + k) (omega arith) (omega arith) (subst (λ (r : ℕ). is_open new r ≡ true) is opens))
