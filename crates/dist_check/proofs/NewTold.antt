-- That lines were new one after another holds where it cannot fail: unit propagation is carried to its end.
use Rattle.std.proofs.Common.{◌≡◌, ◌≢◌, ◌⊎◌, inl, inr, ℕ, zero, suc, ◌+◌, ◌<◌, ◌≤◌, true, List, [], ◌∷◌, ◌++◌, map, subst, sym}
use Rattle.std.proofs.Common.{arith}
use Rattle.std.specs.List.{All, Any, Contains}
use Rattle.std.proofs.lemmas.List.Elements.{All-append, All-contains, All-map, Contains-append_left, Contains-append_right, Contains-push, Contains-push_cases}
use Rattle.dist_base.specs.ListLaws.{all-contained, any-contained, any-there}
use Rattle.dist_clause.specs.Formula.{Literal, negation}
use Rattle.dist_space.specs.RisingLaws.{map-in}
use Rattle.dist_derive.specs.New.{LeavesFirstUnset, IsNew, EachIsNew}
use Rattle.dist_derive.specs.Propagation.{IsFalse, AllFalse, OthersFalse, IsUnit, IsPropagated, IsConsistent, IsSettled}
use Rattle.dist_line_check.specs.ToldLaws.{IsTold, stable, bool-told, any-told, all-told, contains-told}
use Rattle.dist_check.proofs.TriedTold.{both-told, not-told, literal-told, false-told, unit-told}

-- ---- literals that are not true yet

member-told : (trues : List Literal) (l : Literal) → IsTold (Contains trues l)
member-told trues l = contains-told trues l (λ m. literal-told m l)

abbrev weight : {P : Type 0} → IsTold P → ℕ
weight (inl _) = 0
weight (inr _) = 1

weight-least : {P Q : Type 0} → (P → Q) → (p : IsTold P) (q : IsTold Q) → weight q ≤ weight p
weight-least goes (inl p) (inl q) = omega arith
weight-least goes (inl p) (inr never) = absurd (never (goes p))
weight-least goes (inr none) (inl q) = omega arith
weight-least goes (inr none) (inr never) = omega arith

weight-less : {P Q : Type 0} → ¬ P → Q → (p : IsTold P) (q : IsTold Q) → weight q < weight p
weight-less none there (inl p) q = absurd (none p)
weight-less none there (inr _) (inl q) = omega arith
weight-less none there (inr _) (inr never) = absurd (never there)

abbrev left : List Literal → List Literal → ℕ
left trues [] = 0
left trues (l ∷ ls) = weight (member-told trues l) + left trues ls

left-least : (trues more : List Literal) → ((l : Literal) → Contains trues l → Contains more l) → (ls : List Literal) → left more ls ≤ left trues ls
left-least trues more kept [] = omega arith
left-least trues more kept (l ∷ ls) = omega (arith, weight-least (kept l) (member-told trues l) (member-told more l), left-least trues more kept ls)

left-less : (trues : List Literal) (l : Literal) → ¬ Contains trues l → (ls : List Literal) → Contains ls l → left (trues ++ l ∷ []) ls < left trues ls
left-less trues l none [] there = absurd (omega (arith, there.1))
left-less trues l none (m ∷ ls) (zero, within, is) =
    let here : m ≡ l = is in
    let added : Contains (trues ++ l ∷ []) m = subst (Contains (trues ++ l ∷ [])) (sym here) (Contains-push trues l) in
    omega (
      arith,
      weight-less (λ held. none (subst (Contains trues) here held)) added (member-told trues m) (member-told (trues ++ l ∷ []) m),
      left-least trues (trues ++ l ∷ []) (λ k held. Contains-append_left trues (l ∷ []) k held) ls,
    )
left-less trues l none (m ∷ ls) (suc k, within, is) = omega (
  arith,
  weight-least (λ held. Contains-append_left trues (l ∷ []) m held) (member-told trues m) (member-told (trues ++ l ∷ []) m),
  left-less trues l none ls (k, omega (arith, within), is),
)

abbrev all-literals : List (List Literal) → List Literal
all-literals [] = []
all-literals (clause ∷ clauses) = clause ++ all-literals clauses

literal-there : (clauses : List (List Literal)) (clause : List Literal) (l : Literal) → Contains clauses clause → Contains clause l
    → Contains (all-literals clauses) l
literal-there [] clause l there member = absurd (omega (arith, there.1))
literal-there (c ∷ clauses) clause l (zero, within, is) member =
    Contains-append_left c (all-literals clauses) l (subst (λ ls. Contains ls l) (sym is) member)
literal-there (c ∷ clauses) clause l (suc k, within, is) member =
    Contains-append_right c (all-literals clauses) l (literal-there clauses clause l (k, omega (arith, within), is) member)

-- ---- propagation to its end

-- where it ends: with the least true literals that are settled and hold the first ones, or with none that could be
abbrev Ends : List (List Literal) → List Literal → Type 0
Ends clauses start = ((trues : List Literal) × IsSettled clauses trues × All (Contains trues) start
    × ((other : List Literal) → IsSettled clauses other → All (Contains other) start → (l : Literal) → Contains trues l → Contains other l))
    ⊎ ((other : List Literal) → IsSettled clauses other → ¬ All (Contains other) start)

consistent-told : (trues : List Literal) → IsTold (IsConsistent trues)
consistent-told trues = elim (all-told (λ l. ¬ IsFalse trues l) (λ l. not-told (false-told trues l)) trues) [
  | inl all ↦ inl (λ l there. All-contains (λ m. ¬ IsFalse trues m) trues l all there)
  | inr never ↦ inr (λ consistent. never (all-contained (λ m. ¬ IsFalse trues m) trues consistent))
]

-- what is false stays so when more is true
others-false : (trues other : List Literal) → ((l : Literal) → Contains trues l → Contains other l) → (clause : List Literal) (l : Literal)
    → OthersFalse trues clause l → OthersFalse other clause l
others-false trues other kept clause l false = λ k d within differs. kept (negation _) (false k d within differs)

unit-there : (trues clause : List Literal) → Any (IsUnit trues clause) clause → (l : Literal) × IsUnit trues clause l
unit-there trues clause any = (any.1, any.4)

propagated : (trues clause : List Literal) → ¬ AllFalse trues clause → ¬ Any (IsUnit trues clause) clause → IsPropagated trues clause
propagated trues clause unclosed none l member others = elim (member-told trues l) [
  | inl is ↦ is
  | inr not ↦ elim (false-told trues l) [
    | inl false ↦ absurd (unclosed (all-contained (IsFalse trues) clause (each false)))
    | inr unset ↦ absurd (none (any-contained (IsUnit trues clause) clause l member (record { member = member; unset = (not, unset); others = others })))
  ]
]
  where
    each : IsFalse trues l → (m : Literal) → Contains clause m → IsFalse trues m
    each false m there = elim (literal-told m l) [
      | inl same ↦ subst (IsFalse trues) (sym same) false
      | inr other ↦ All-contains (λ n. n ≢ l → IsFalse trues n) clause m others there other
    ]

ends : (clauses : List (List Literal)) (start : List Literal) (fuel : ℕ) (trues : List Literal) → left trues (all-literals clauses) < fuel
    → All (Contains trues) start
    → ((other : List Literal) → IsSettled clauses other → All (Contains other) start → (l : Literal) → Contains trues l → Contains other l)
    → Ends clauses start
ends clauses start zero trues enough from least = absurd (omega (arith, enough))
ends clauses start (suc fuel) trues enough from least = elim (consistent-told trues) [
  | inr clash ↦ inr (λ other settled holds. clash (λ l there false.
      settled.consistent l (least other settled holds l there) (least other settled holds (negation l) false)))
  | inl consistent ↦ elim (any-told (AllFalse trues) (λ clause. all-told (IsFalse trues) (false-told trues) clause) clauses) [
    | inl false ↦ inr (λ other settled holds. All-contains (λ clause. ¬ AllFalse other clause) clauses false.1 settled.no_conflict
        (any-there (AllFalse trues) clauses false) (λ k d within. least other settled holds (negation _) (false.4 k d within)))
    | inr unclosed ↦ elim (any-told HasUnit (λ clause. any-told (IsUnit trues clause) (unit-told trues clause) clause) clauses) [
      | inl unit ↦ ends clauses start fuel (trues ++ unit.4.1 ∷ [])
          (omega (
            arith,
            enough,
            left-less trues unit.4.1 unit.4.4.unset.0 (all-literals clauses)
                (literal-there clauses unit.1 unit.4.1 (any-there HasUnit clauses unit) unit.4.4.member),
          ))
          (λ k d within. Contains-append_left trues (unit.4.1 ∷ []) _ (from k d within))
          (more unit.1 unit.4.1 (any-there HasUnit clauses unit) unit.4.4)
      | inr none ↦ inl (
        trues,
        record {
          consistent = consistent;
          no_conflict = all-contained (λ clause. ¬ AllFalse trues clause) clauses
              (λ clause there all. unclosed (any-contained (AllFalse trues) clauses clause there all));
          propagated = all-contained (IsPropagated trues) clauses (λ clause there. propagated trues clause
              (λ all. unclosed (any-contained (AllFalse trues) clauses clause there all))
              (λ any. none (any-contained HasUnit clauses clause there any)));
        },
        from,
        least,
      )
    ]
  ]
]
  where
    HasUnit : List Literal → Type 0
    HasUnit clause = Any (IsUnit trues clause) clause

    more : (clause : List Literal) (l : Literal) → Contains clauses clause → IsUnit trues clause l → (other : List Literal)
        → IsSettled clauses other → All (Contains other) start → (m : Literal) → Contains (trues ++ l ∷ []) m → Contains other m
    more clause l there unit other settled holds m held = elim (Contains-push_cases trues l m held) [
      | inl before ↦ least other settled holds m before
      | inr is ↦ subst (Contains other) is (All-contains (IsPropagated other) clauses clause settled.propagated there l unit.member
          (others-false trues other (least other settled holds) clause l unit.others))
    ]

-- ---- new lines

adds-told : (clauses : List (List Literal)) (assumptions clause : List Literal) → IsTold (LeavesFirstUnset clauses assumptions clause)
adds-told clauses assumptions [] = inr (λ none. none)
adds-told clauses assumptions (first ∷ rest) =
    elim (ends clauses start (suc (left start (all-literals clauses))) start (omega arith) held
    (λ other settled holds l there. All-contains (Contains other) start l holds there)) [
      | inr never ↦ inr (λ leaves. never leaves.0 leaves.1.settled (all-start leaves.0 leaves.1.assumed leaves.1.denied))
      | inl end ↦ elim (both-told (not-told (member-told end.0 first)) (not-told (false-told end.0 first))) [
        | inl unset ↦ inl (
          end.0,
          record {
            settled = end.1;
            assumed = all-contained (Contains end.0) assumptions (λ l there.
                All-contains (Contains end.0) start l end.2 (Contains-append_left assumptions (map negation rest) l there));
            denied = all-contained (IsFalse end.0) rest (λ l there. All-contains (Contains end.0) start (negation l) end.2
                (Contains-append_right assumptions (map negation rest) (negation l) (map-in negation rest l there)));
            unset = unset;
          },
        )
        | inr set ↦ inr (λ leaves. set (
          (λ true. leaves.1.unset.0 (end.3 leaves.0 leaves.1.settled (all-start leaves.0 leaves.1.assumed leaves.1.denied) first true)),
          (λ false. leaves.1.unset.1 (end.3 leaves.0 leaves.1.settled (all-start leaves.0 leaves.1.assumed leaves.1.denied) (negation first) false)),
        ))
      ]
    ]
  where
    start : List Literal
    start = assumptions ++ map negation rest

    held : All (Contains start) start
    held = all-contained (Contains start) start (λ l there. there)

    all-start : (other : List Literal) → All (Contains other) assumptions → All (IsFalse other) rest → All (Contains other) start
    all-start other assumed denied = All-append (Contains other) assumptions (map negation rest) assumed (All-map (Contains other) negation rest denied)

new-stable : (clauses : List (List Literal)) (inputs : ℕ) (assumptions clause : List Literal) → ¬ ¬ IsNew clauses inputs assumptions clause
    → IsNew clauses inputs assumptions clause
new-stable clauses inputs assumptions clause never = record {
  distinct = λ i j d before within same. never (λ new. new.distinct i j d before within same);
  within_cone = λ k d within has assumed closed. stable (bool-told (has _) true)
      (λ none. never (λ new. none (new.within_cone k d within has assumed closed)));
  adds = stable (adds-told clauses assumptions clause) (λ none. never (λ new. none new.adds));
}

pub each-new-stable : (clauses : List (List Literal)) (inputs : ℕ) (assumptions : List Literal) (lines : List (List Literal))
    → ¬ ¬ EachIsNew clauses inputs assumptions lines → EachIsNew clauses inputs assumptions lines
each-new-stable clauses inputs assumptions [] never = tt
each-new-stable clauses inputs assumptions (line ∷ lines) never = (
  new-stable clauses inputs assumptions line (λ none. never (λ each. none each.0)),
  each-new-stable (clauses ++ line ∷ []) inputs assumptions lines (λ none. never (λ each. none each.1)),
)
