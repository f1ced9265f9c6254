-- Worked examples of following by hints, of the cone and of new clauses.
use Rattle.std.proofs.Common.{◌≡◌, ◌≢◌, ℕ, zero, suc, ◌<◌, ⊎_elim, inl, inr, Bool, true, false, not, nat_lt, List, []}
use Rattle.std.proofs.Common.{◌∷◌, length, get_or, refl, ap, sym, ◌∙◌, arith, lit<, lit≤}
use Rattle.std.specs.List.{All, AllPairs, Contains}
use Rattle.std.proofs.lemmas.Bool.{false≢true, true≢false}
use Rattle.std.proofs.lemmas.List.Elements.{All-contains}
use Rattle.dist_clause.specs.Formula.{Literal, literal, negation}
use Rattle.dist_derive.specs.Propagation.{IsFalse, AllFalse, OthersFalse, IsConsistent, IsPropagated}
use Rattle.dist_derive.specs.Follows.{Follows}
use Rattle.dist_derive.specs.Cone.{IsClosedUnder, InCone}
use Rattle.dist_derive.specs.New.{LeavesUnset, IsNew}

-- the literals `n` and `-n`
abbrev pub yes : ℕ → Literal
yes n = literal n true

abbrev pub no : ℕ → Literal
no n = literal n false

-- the clauses `-1 2` and `-1 -2`
abbrev pub both : List (List Literal)
both = (no 1 ∷ yes 2 ∷ []) ∷ (no 1 ∷ no 2 ∷ []) ∷ []

-- the clauses `-1 2` and `-2 3`
abbrev chain : List (List Literal)
chain = (no 1 ∷ yes 2 ∷ []) ∷ (no 2 ∷ yes 3 ∷ []) ∷ []

-- the clauses `-1 2 3`, `-2 3` and `-4 5`
abbrev three : List (List Literal)
three = (no 1 ∷ yes 2 ∷ yes 3 ∷ []) ∷ (no 2 ∷ yes 3 ∷ []) ∷ (no 4 ∷ yes 5 ∷ []) ∷ []

-- the only element of a list
in_one : (x y : Literal) → Contains (x ∷ []) y → x ≡ y
in_one x y h = at h.0 h.1 h.2
  where
    at : (k : ℕ) → k < length (x ∷ []) → get_or (x ∷ []) k y ≡ y → x ≡ y
    at zero within e = e
    at (suc k) within e = absurd (omega arith)

-- where 1 alone is true, no literal of another variable is
only_one : (n : ℕ) (b : Bool) → (1 ≢ n) → ¬ Contains (yes 1 ∷ []) (literal n b)
only_one n b other h = other (ap (λ (l : Literal). l.variable) (in_one (yes 1) (literal n b) h))

one_two : ◌≡◌ {A = ℕ} 1 2 → ⊥
one_two e = omega (arith, e)

one_three : ◌≡◌ {A = ℕ} 1 3 → ⊥
one_three e = omega (arith, e)

-- ---- following by hints: `-1` from `both`

pub follows_by_both : Follows both (no 1 ∷ []) (1 ∷ 2 ∷ [])
follows_by_both = (
  (lit≤ tt, lit≤ tt),
  inr (
    yes 2,
    record {
      member = (1, lit< tt, refl);
      unset = (only_one 2 true one_two, only_one 2 false one_two);
      others = first_false;
    },
    ((lit≤ tt, lit≤ tt), inl (all_false, inl refl)),
  ),
)
  where
    first_false : OthersFalse (yes 1 ∷ []) (no 1 ∷ yes 2 ∷ []) (yes 2)
    first_false zero d within = λ _. (0, lit< tt, refl)
    first_false (suc zero) d within = λ other. absurd (other refl)
    first_false (suc (suc k)) d within = absurd (omega arith)

    all_false : AllFalse (yes 1 ∷ yes 2 ∷ []) (no 1 ∷ no 2 ∷ [])
    all_false zero d within = (0, lit< tt, refl)
    all_false (suc zero) d within = (1, lit< tt, refl)
    all_false (suc (suc k)) d within = absurd (omega arith)

not_by_second_alone : ¬ Follows both (no 1 ∷ []) (2 ∷ [])
not_by_second_alone h = ⊎_elim (λ x. only_one 2 true one_two (x.0 1 (yes 1) (lit< tt))) (λ x. x.2) h.1

not_by_no_hints : ¬ Follows both (no 1 ∷ []) []
not_by_no_hints h = h

not_by_zero : ¬ Follows both (no 1 ∷ []) (0 ∷ [])
not_by_zero h = omega (arith, h.0.0)

not_above_the_last : ¬ Follows both (no 1 ∷ []) (3 ∷ [])
not_above_the_last h = omega (arith, h.0.1)

-- ---- the cone of 1 under `three`

negatives : (has : ℕ → Bool) → has 1 ≡ true
    → All (λ l. l.positive ≡ false → has l.variable ≡ true) (no 1 ∷ yes 2 ∷ yes 3 ∷ [])
negatives has one zero d within e = one
negatives has one (suc zero) d within e = absurd (true≢false e)
negatives has one (suc (suc zero)) d within e = absurd (true≢false e)
negatives has one (suc (suc (suc k))) d within e = absurd (omega arith)

three_is_reached : InCone three (yes 1 ∷ []) 3
three_is_reached has assumed closed = closed 0 [] (lit< tt) (negatives has (assumed 0 (yes 1) (lit< tt))) 2 (yes 1)
    (lit< tt)

one_is_reached : InCone three (yes 1 ∷ []) 1
one_is_reached has assumed closed = assumed 0 (yes 1) (lit< tt)

-- the variables 1 to 3 are a closed set
four_is_not_reached : ¬ InCone three (yes 1 ∷ []) 4
four_is_not_reached cone = false≢true (cone (λ v. nat_lt v 4) assumed closed)
  where
    assumed : All (λ l. nat_lt l.variable 4 ≡ true) (yes 1 ∷ [])
    assumed zero d within = refl
    assumed (suc k) d within = absurd (omega arith)

    first : All (λ l. nat_lt l.variable 4 ≡ true) (no 1 ∷ yes 2 ∷ yes 3 ∷ [])
    first zero d within = refl
    first (suc zero) d within = refl
    first (suc (suc zero)) d within = refl
    first (suc (suc (suc k))) d within = absurd (omega arith)

    second : All (λ l. nat_lt l.variable 4 ≡ true) (no 2 ∷ yes 3 ∷ [])
    second zero d within = refl
    second (suc zero) d within = refl
    second (suc (suc k)) d within = absurd (omega arith)

    closed : IsClosedUnder (λ v. nat_lt v 4) three
    closed zero d within h = first
    closed (suc zero) d within h = second
    closed (suc (suc zero)) d within h = absurd (false≢true (h 0 (no 4) (lit< tt) refl))
    closed (suc (suc (suc k))) d within h = absurd (omega arith)

-- ---- new clauses under the assumption 1

-- `-1` is decided by the assumption, and so is the first literal of `-1 2`
denied_assumption : ¬ IsNew both 2 (yes 1 ∷ []) (no 1 ∷ [])
denied_assumption h = let t = h.adds.1 in t.unset.1 (t.assumed 0 (yes 1) (lit< tt))

denied_assumption_first : ¬ IsNew both 2 (yes 1 ∷ []) (no 1 ∷ yes 2 ∷ [])
denied_assumption_first h = let t = h.adds.1 in t.unset.1 (t.assumed 0 (yes 1) (lit< tt))

second_left : (trues : List Literal) (x y : Literal) → IsFalse trues x → OthersFalse trues (x ∷ y ∷ []) y
second_left trues x y h zero d within = λ _. h
second_left trues x y h (suc zero) d within = λ other. absurd (other refl)
second_left trues x y h (suc (suc k)) d within = absurd (omega arith)

third_left : (trues : List Literal) (x y z : Literal) → IsFalse trues x → IsFalse trues y
    → OthersFalse trues (x ∷ y ∷ z ∷ []) z
third_left trues x y z h g zero d within = λ _. h
third_left trues x y z h g (suc zero) d within = λ _. g
third_left trues x y z h g (suc (suc zero)) d within = λ other. absurd (other refl)
third_left trues x y z h g (suc (suc (suc k))) d within = absurd (omega arith)

-- propagation gives 2 and then 3
propagated_already : ¬ IsNew chain 2 (yes 1 ∷ []) (yes 3 ∷ no 1 ∷ [])
propagated_already h =
    let trues = h.adds.0 in
    let t = h.adds.1 in
    let two = t.settled.propagated 0 [] (lit< tt) (yes 2) (1, lit< tt, refl)
    (second_left trues (no 1) (yes 2) (t.assumed 0 (yes 1) (lit< tt))) in
    t.unset.0 (t.settled.propagated 1 [] (lit< tt) (yes 3) (1, lit< tt, refl) (second_left trues (no 2) (yes 3) two))

-- the clause `-1 2 3` gives it
copied : ¬ IsNew three 3 (yes 1 ∷ []) (yes 3 ∷ yes 2 ∷ no 1 ∷ [])
copied h =
    let trues = h.adds.0 in
    let t = h.adds.1 in
    t.unset.0 (t.settled.propagated 0 [] (lit< tt) (yes 3) (2, lit< tt, refl)
    (third_left trues (no 1) (yes 2) (yes 3) (t.assumed 0 (yes 1) (lit< tt)) (t.denied 0 (yes 2) (lit< tt))))

-- the clause `-2 3` with one literal more
lengthened : ¬ IsNew three 3 (yes 1 ∷ []) (yes 3 ∷ no 2 ∷ no 1 ∷ [])
lengthened h =
    let trues = h.adds.0 in
    let t = h.adds.1 in
    t.unset.0 (t.settled.propagated 1 [] (lit< tt) (yes 3) (1, lit< tt, refl)
    (second_left trues (no 2) (yes 3) (t.denied 0 (no 2) (lit< tt))))

outside_the_cone : ¬ IsNew three 3 (yes 1 ∷ []) (no 4 ∷ no 1 ∷ [])
outside_the_cone h = four_is_not_reached (h.within_cone 0 (no 4) (lit< tt))

-- 1 alone is closed under propagation by `three` and leaves 3 unset
leaves_three_unset : LeavesUnset three (yes 1 ∷ []) (yes 3) (no 1 ∷ []) (yes 1 ∷ [])
leaves_three_unset = record {
  settled = record { consistent = consistent; no_conflict = no_conflict; propagated = propagated };
  assumed = assumed;
  denied = denied;
  unset = (only_one 3 true one_three, only_one 3 false one_three);
}
  where
    consistent : IsConsistent (yes 1 ∷ [])
    consistent l h f = false≢true (ap (λ (m : Literal). not m.positive) (in_one (yes 1) l h)
        ∙ sym (ap (λ (m : Literal). m.positive) (in_one (yes 1) (negation l) f)))

    assumed : All (Contains (yes 1 ∷ [])) (yes 1 ∷ [])
    assumed zero d within = (0, lit< tt, refl)
    assumed (suc k) d within = absurd (omega arith)

    denied : All (IsFalse (yes 1 ∷ [])) (no 1 ∷ [])
    denied zero d within = (0, lit< tt, refl)
    denied (suc k) d within = absurd (omega arith)

    no_conflict : All (λ clause. ¬ AllFalse (yes 1 ∷ []) clause) three
    no_conflict zero d within all = only_one 2 false one_two (all 1 (yes 1) (lit< tt))
    no_conflict (suc zero) d within all = only_one 2 true one_two (all 0 (yes 1) (lit< tt))
    no_conflict (suc (suc zero)) d within all = only_one 4 true (λ e. omega (arith, e)) (all 0 (yes 1) (lit< tt))
    no_conflict (suc (suc (suc k))) d within all = absurd (omega arith)

    -- two literals of the clause are not false, so that it gives nothing
    two_left : (clause : List Literal) (x y : Literal) → Contains clause x → Contains clause y → x.variable ≢ y.variable
        → (¬ IsFalse (yes 1 ∷ []) x) → (¬ IsFalse (yes 1 ∷ []) y) → IsPropagated (yes 1 ∷ []) clause
    two_left clause x y here there apart x_not y_not = λ l member others.
        let at : (z : Literal) → Contains clause z → z ≢ l
        → IsFalse (yes 1 ∷ []) z = λ z z_in. All-contains (λ m. m ≢ l → IsFalse (yes 1 ∷ []) m) clause z others
        z_in in
        absurd (y_not (at y there (λ e. x_not (at x here (λ f. apart (ap (λ (m : Literal). m.variable) (f ∙ sym e)))))))

    propagated : All (IsPropagated (yes 1 ∷ [])) three
    propagated zero d within = two_left (no 1 ∷ yes 2 ∷ yes 3 ∷ []) (yes 2) (yes 3) (1, lit< tt, refl)
        (2, lit< tt, refl) (λ e. omega (arith, e)) (only_one 2 false one_two) (only_one 3 false one_three)
    propagated (suc zero) d within = two_left (no 2 ∷ yes 3 ∷ []) (no 2) (yes 3) (0, lit< tt, refl) (1, lit< tt, refl)
        (λ e. omega (arith, e)) (only_one 2 true one_two) (only_one 3 false one_three)
    propagated (suc (suc zero)) d within = two_left (no 4 ∷ yes 5 ∷ []) (no 4) (yes 5) (0, lit< tt, refl)
        (1, lit< tt, refl) (λ e. omega (arith, e)) (only_one 4 true (λ e. omega (arith, e)))
        (only_one 5 false (λ e. omega (arith, e)))
    propagated (suc (suc (suc k))) d within = absurd (omega arith)

-- so `3 -1` is new
new : IsNew three 3 (yes 1 ∷ []) (yes 3 ∷ no 1 ∷ [])
new = record { distinct = distinct; within_cone = reached; adds = (yes 1 ∷ [], leaves_three_unset) }
  where
    distinct : AllPairs (λ l m. l.variable ≢ m.variable) (yes 3 ∷ no 1 ∷ [])
    distinct zero zero d before within = absurd (omega arith)
    distinct zero (suc zero) d before within = λ e. omega (arith, e)
    distinct zero (suc (suc j)) d before within = absurd (omega arith)
    distinct (suc i) zero d before within = absurd (omega arith)
    distinct (suc i) (suc j) d before within = absurd (omega arith)

    reached : All (λ l. InCone three (yes 1 ∷ []) l.variable) (yes 3 ∷ no 1 ∷ [])
    reached zero d within = three_is_reached
    reached (suc zero) d within = one_is_reached
    reached (suc (suc k)) d within = absurd (omega arith)
