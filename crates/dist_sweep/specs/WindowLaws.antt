-- Laws of the latest installations, by their numbers. Proofs cite them, those of the crates above too.
use Rattle.std.proofs.Common.{◌≡◌, ℕ, zero, suc, ◌+◌, ◌-◌, ◌<◌, ◌≤◌, Bool, true, List, [], ◌∷◌, length, get_or, drop}
use Rattle.std.proofs.Common.{refl, ap, sym, subst, ◌∙◌, arith, length-drop, ◌++◌, map, append-nil, length-append}
use Rattle.std.specs.List.{All, AllPairs, Any, Contains, range_with_len}
use Rattle.std.proofs.lemmas.List.{get_or-map, length-map, drop-append-le, drop-drop, drop-map, map-append}
use Rattle.std.proofs.lemmas.List.Elements.{All-drop, All-push}
use Rattle.std.proofs.lemmas.List.Kept.{AllPairs-filter}
use Rattle.dist_clause.specs.Formula.{value_of}
use Rattle.dist_cert.specs.declared.TheConstants.{REACH}
use Rattle.dist_cert.specs.declared.records.CertRecord.{CertRecord}
use Rattle.dist_cert.specs.ClaimRules.{IsNamed}
use Rattle.dist_cert.specs.Form.{Word}
use Rattle.dist_cert.specs.Groups.{installations, installation_at}
use Rattle.dist_sweep.specs.Window.{HasEach}
use Rattle.dist_sweep.specs.Window.{WindowView, IsWindowAt, kept_at, numbers_of}
use Rattle.dist_line_write.specs.TrueOnesLaws.{IsKept, all-kept, contained, kept-there, range-rises, true-ones}
use Rattle.dist_line_write.specs.Words.{true_variables}
use Rattle.circular_buffer.specs.Buffer.{keep_last}
use Rattle.dist_sweep.specs.QuestionLinesLaws.{AreAsked, installed-after}

pub get-drop : (k i : ℕ) (xs : List (List ℕ)) (d : List ℕ) → get_or (drop k xs) i d ≡ get_or xs (k + i) d
get-drop zero i xs d = ap (λ (n : ℕ). get_or xs n d) (omega arith)
get-drop (suc k) i [] d = refl
get-drop (suc k) i (x ∷ xs) d = let next : suc k + i ≡ suc (k + i) = omega arith in get-drop k i xs d ∙ ap (λ
    (n : ℕ). get_or (x ∷ xs) n d) (sym next)

-- a number of a kept installation
pub record IsIn (w : WindowView) (number : ℕ) : Type 0 where
  pub low : w.count - length w.kept + 1 ≤ number
  pub high : number < w.count - length w.kept + 1 + length w.kept

pub record Sized (before : List CertRecord) (w : WindowView) : Type 0 where
  pub few : length w.kept ≤ REACH
  pub fewer : length w.kept ≤ w.count
  pub dropped : w.count - length w.kept ≡ length (installations before) - REACH

pub sized : (before : List CertRecord) (w : WindowView) → IsWindowAt before w → Sized before w
sized before w at =
    let size = ap length at.kept in
    let mapped = length-map w.kept true_variables in
    let left = length-drop (length (installations before) - REACH) (installations before) in
    record {
      few = omega (arith, size, mapped, left);
      fewer = omega (arith, size, mapped, left, at.count);
      dropped = omega (arith, size, mapped, left, at.count);
    }

pub installation-is : (before : List CertRecord) (w : WindowView) (number : ℕ) → IsWindowAt before w → IsIn w number
    → installation_at before number ≡ true_variables (kept_at w number)
installation-is before w number at inside =
    let sizes = sized before w at in
    let place : ℕ = number - (w.count - length w.kept + 1) in
    let within : place < length w.kept = omega (arith, inside.low, inside.high) in
    let same : number - 1 ≡ (length (installations before) - REACH) + place = omega (arith, inside.low, sizes.dropped)
    in
    ap (λ (n : ℕ). get_or (installations before) n []) same
    ∙ sym (get-drop (length (installations before) - REACH) place (installations before) [])
    ∙ ap (λ (ms : List (List ℕ)). get_or ms place []) (sym at.kept)
    ∙ get_or-map true_variables w.kept place [] [] within

-- what a kept installation has
pub kept-has : (before : List CertRecord) (w : WindowView) (number q : ℕ) → IsWindowAt before w → IsIn w number
    → 1 ≤ q → q ≤ w.variables
    → value_of (kept_at w number) q ≡ true → Contains (installation_at before number) q
kept-has before w number q at inside from upto holds =
    let size : length (kept_at w number) ≡ w.variables = at.sizes (number - (w.count - length w.kept + 1)) [] (omega
    (arith, inside.low, inside.high)) in
    subst (λ (ms : List ℕ). Contains ms q) (sym (installation-is before w number at inside))
    ((true-ones (kept_at w number) q from (omega (arith, upto, size))).1 holds)

pub has-kept : (before : List CertRecord) (w : WindowView) (number q : ℕ) → IsWindowAt before w → IsIn w number
    → 1 ≤ q → q ≤ w.variables
    → Contains (installation_at before number) q → value_of (kept_at w number) q ≡ true
has-kept before w number q at inside from upto there =
    let size : length (kept_at w number) ≡ w.variables = at.sizes (number - (w.count - length w.kept + 1)) [] (omega
    (arith, inside.low, inside.high)) in
    (true-ones (kept_at w number) q from (omega (arith, upto, size))).0
    (subst (λ (ms : List ℕ). Contains ms q) (installation-is before w number at inside) there)

pub in-kept : (w : WindowView) (p number : ℕ) → IsKept (λ n. value_of (kept_at w n) p) (w.count - length w.kept + 1)
    (length w.kept) number → IsIn w number
in-kept w p number kept = record { low = kept.low; high = kept.high }

pub all-numbers : (w : WindowView) (p : ℕ) → All (IsKept (λ n. value_of (kept_at w n) p) (w.count - length w.kept + 1)
    (length w.kept)) (numbers_of w p)
all-numbers w p = all-kept (λ n. value_of (kept_at w n) p) (w.count - length w.kept + 1) (length w.kept)

pub numbers-named : (before : List CertRecord) (w : WindowView) (p : ℕ) → IsWindowAt before w → 1 ≤ p
    → p ≤ w.variables
    → All (IsNamed before p) (numbers_of w p)
numbers-named before w p at from upto k d within =
    let kept = all-numbers w p k d within in
    let inside = in-kept w p (get_or (numbers_of w p) k d) kept in
    let sizes = sized before w at in (
      (
        omega (arith, kept.low),
        omega (arith, kept.high, sizes.fewer, at.count),
        omega (
          arith,
          kept.low,
          sizes.few,
          sizes.fewer,
          at.count,
        ),
      ),
      kept-has before w (get_or (numbers_of w p) k d) p at inside from upto kept.holds,
    )

pub numbers-rising : (w : WindowView) (p : ℕ) → AllPairs (λ m n. m < n) (numbers_of w p)
numbers-rising w p = AllPairs-filter (λ m n. m < n) (λ n. value_of (kept_at w n) p) (range_with_len
    (w.count - length w.kept + 1) (length w.kept))
    (range-rises (w.count - length w.kept + 1) (length w.kept))

-- each named installation has what each kept one with the variable has
pub each-named : (before : List CertRecord) (w : WindowView) (p q : ℕ) → IsWindowAt before w → 1 ≤ q → q ≤ w.variables
    → HasEach w p q
    → All (λ number. Contains (installation_at before number) q) (numbers_of w p)
each-named before w p q at from upto each k d within =
    let kept = all-numbers w p k d within in
    let number = get_or (numbers_of w p) k d in
    let inside = in-kept w p number kept in
    kept-has before w number q at inside from upto (each (number - (w.count - length w.kept + 1)) [] (omega (
      arith,
      kept.low,
      kept.high,
    )) kept.holds)

-- and the other way
pub named-each : (before : List CertRecord) (w : WindowView) (p q : ℕ) → IsWindowAt before w → 1 ≤ q → q ≤ w.variables
    → All (λ number. Contains (installation_at before number) q) (numbers_of w p) → HasEach w p q
named-each before w p q at from upto all k d within = λ holds.
    let first : ℕ = w.count - length w.kept + 1 in
    let same : (first + k) - first ≡ k = omega arith in
    let inside : IsIn w (first + k) = record { low = omega arith; high = omega (arith, within) } in
    let here : kept_at w (first + k) ≡ get_or w.kept k d = ap (λ (n : ℕ). get_or w.kept n []) same
    ∙ get-any w.kept k [] d within in
    let there = kept-there (λ n. value_of (kept_at w n) p) first (length w.kept) (first + k)
    (record {
      low = omega arith;
      high = omega (arith, within);
      holds = ap (λ (v : List Bool). value_of v p) here
          ∙ holds;
    }) in
    sym (ap (λ (v : List Bool). value_of v q) here) ∙ has-kept before w (first + k) q at inside from upto
    (contained (λ number. Contains (installation_at before number) q) (numbers_of w p) (first + k) all there)
  where
    get-any : (xs : List (List Bool)) (i : ℕ) (a b : List Bool) → i < length xs → get_or xs i a ≡ get_or xs i b
    get-any [] i a b short = absurd (omega (arith, short))
    get-any (x ∷ xs) zero a b short = refl
    get-any (x ∷ xs) (suc i) a b short = get-any xs i a b (omega (arith, short))

-- the latest installation is named where it has the variable
pub latest-named : (before : List CertRecord) (w : WindowView) (p : ℕ) → IsWindowAt before w → 1 ≤ p → p ≤ w.variables
    → 0 < length (installations before)
    → Contains (installation_at before (length (installations before))) p
    → Contains (numbers_of w p) (length (installations before))
latest-named before w p at from upto some there =
    let size = ap length at.kept in
    let mapped = length-map w.kept true_variables in
    let left = length-drop (length (installations before) - REACH) (installations before) in
    let inside : IsIn w (length (installations before)) = record {
      low = omega (arith, size, mapped, left, at.count, some);
      high = omega (arith, size, mapped, left, at.count, some);
    } in
    kept-there (λ n. value_of (kept_at w n) p) (w.count - length w.kept + 1) (length w.kept) (length
    (installations before))
    (record {
      low = inside.low;
      high = inside.high;
      holds = has-kept before w (length (installations before))
          p at inside from upto there;
    })

-- some kept installation has the variable, so that it is named
pub some-numbers : (w : WindowView) (p : ℕ) → Any (λ values. value_of values p ≡ true) w.kept → 0 < length
    (numbers_of w p)
some-numbers w p some =
    let first : ℕ = w.count - length w.kept + 1 in
    let same : (first + some.0) - first ≡ some.0 = omega arith in
    let here : kept_at w (first + some.0) ≡ some.1 = ap (λ (n : ℕ). get_or w.kept n []) same
    ∙ get-at w.kept some.0 [] some.1 some.2 some.3 in
    let there = kept-there (λ n. value_of (kept_at w n) p) first (length w.kept) (first + some.0)
    (record {
      low = omega arith;
      high = omega (arith, some.2);
      holds = ap (λ (v : List Bool). value_of v p) here
          ∙ some.4;
    }) in
    omega (arith, there.1)
  where
    get-at : (xs : List (List Bool)) (i : ℕ) (a b : List Bool) → i < length xs → get_or xs i b ≡ b → get_or xs i a ≡ b
    get-at [] i a b short is = absurd (omega (arith, short))
    get-at (x ∷ xs) zero a b short is = is
    get-at (x ∷ xs) (suc i) a b short is = get-at xs i a b (omega (arith, short)) is

pub numbers-low : (w : WindowView) (p : ℕ) → All (λ n. 1 ≤ n) (numbers_of w p)
numbers-low w p k d within = let kept = all-numbers w p k d within in omega (arith, kept.low)

pub keep-push : {X : Type 0} (n : ℕ) (xs : List X) (y : X) → keep_last n (keep_last n xs ++ y ∷ []) ≡ keep_last n (xs
    ++ y ∷ [])
keep-push {X} n xs y =
    let k : ℕ = length xs - n in
    let within : k ≤ length xs = omega arith in
    let joined : drop k xs ++ y ∷ [] ≡ drop k (xs ++ y ∷ []) = sym (drop-append-le k xs (y ∷ []) within) in
    let size = length-append (drop k xs) (y ∷ []) in
    let dropped = length-drop k xs in
    let whole = length-append xs (y ∷ []) in
    let count : k + (length (drop k xs ++ y ∷ []) - n) ≡ length (xs ++ y ∷ []) - n = omega (
      arith,
      size,
      dropped,
      whole,
    ) in
    ap (λ (ys : List X). drop (length (drop k xs ++ y ∷ []) - n) ys) joined ∙ drop-drop (length (drop k xs ++ y ∷ [])
    - n) k (xs ++ y ∷ [])
    ∙ ap (λ (m : ℕ). drop m (xs ++ y ∷ [])) count

pub keep-map : {X Y : Type 0} (f : X → Y) (n : ℕ) (xs : List X) → map f (keep_last n xs) ≡ keep_last n (map f xs)
keep-map f n xs = sym (drop-map f (length xs - n) xs) ∙ ap (λ (m : ℕ). drop (m - n) (map f xs)) (sym
    (length-map xs f))

pub window-more : (before after : List CertRecord) (question : List Word) (w : WindowView) (values : List Bool)
    → IsWindowAt before w
    → AreAsked before question (true_variables values ∷ []) after → length values ≡ w.variables
    → IsWindowAt after (record w { kept = keep_last REACH (w.kept ++ values ∷ []); count = w.count + 1 })
window-more before after question w values at asked size =
    let inst = installed-after before question (true_variables values ∷ []) after asked in
    record {
      kept = keep-map true_variables REACH (w.kept ++ values ∷ [])
          ∙ ap (λ (ms : List (List ℕ)). keep_last REACH ms) (map-append true_variables w.kept (values ∷ [])
          ∙ ap (λ (ms : List (List ℕ)). ms ++ true_variables values ∷ []) at.kept)
          ∙ keep-push REACH (installations before) (true_variables values) ∙ ap (λ (ms : List
          (List ℕ)). keep_last REACH ms) (sym inst);
      count = ap (λ (n : ℕ). n + 1) at.count ∙ sym (ap length inst ∙ length-append (installations before)
          (true_variables values ∷ []));
      sizes = All-drop (λ v. length v ≡ w.variables) (length (w.kept ++ values ∷ []) - REACH) (w.kept ++ values ∷ [])
          (All-push (λ v. length v ≡ w.variables) w.kept values at.sizes size);
    }

pub window-same : (before after : List CertRecord) (question : List Word) (w : WindowView) → IsWindowAt before w
    → AreAsked before question [] after
    → IsWindowAt after w
window-same before after question w at asked =
    let inst = installed-after before question [] after asked ∙ append-nil (installations before) in
    record {
      kept = at.kept ∙ ap (λ (ms : List (List ℕ)). keep_last REACH ms) (sym inst);
      count = at.count ∙ ap length
          (sym inst);
      sizes = at.sizes;
    }
