-- Lines that are new one after another are few: each gives every variable of the cone one of three signs, and no two of
-- them give the same.
use Rattle.std.proofs.Common.{◌≡◌, ◌≢◌, ℕ, ◌+◌, ◌*◌, ◌^◌, ◌<◌, ◌≤◌, ◌↔◌, ◌⊎◌, inl, inr, Bool, true, false, List, [], ◌∷◌, ◌++◌, length, get_or, take, map, refl}
use Rattle.std.proofs.Common.{ap, sym, subst, ◌∙◌, arith}
use Rattle.std.specs.List.{All, AllPairs, Contains}
use Rattle.std.proofs.Math.Nat.{pow-succ'}
use Rattle.std.proofs.lemmas.Bool.{false≢true, cases_lt}
use Rattle.std.proofs.lemmas.List.{length-map, get_or-map, get_or_default, take-append-le, length_push}
use Rattle.std.proofs.lemmas.List.Elements.{All-nil, All-cons, All-contains, Contains-get_or, Contains-push, Contains-append_left}
use Rattle.std.proofs.lemmas.List.Kept.{AllPairs-cons}
use Rattle.dist_clause.specs.Formula.{Literal, literal}
use Rattle.dist_derive.specs.ContainmentPrivate.{ContainsAll}
use Rattle.dist_derive.specs.Cone.{InCone, IsWithinCone}
use Rattle.dist_derive.specs.New.{EachIsNew}
use Rattle.dist_derive.proofs.LiteralLemmas.{contains_or_not}
use Rattle.dist_derive.proofs.FewLemmas.{few_below}
use Rattle.dist_derive.proofs.SettledLaws.{no_copy}

-- one of three numbers, by two cases
pick : {A B C D : Type 0} → A ⊎ B → C ⊎ D → ℕ
pick (inl a) q = 1
pick (inr b) (inl c) = 2
pick (inr b) (inr d) = 0

pick_below : {A B C D : Type 0} (p : A ⊎ B) (q : C ⊎ D) → pick p q < 3
unfolding pick
pick_below (inl a) q = omega arith
pick_below (inr b) (inl c) = omega arith
pick_below (inr b) (inr d) = omega arith

pick_first : {A C D A' B' C' D' : Type 0} (p : A ⊎ (¬ A)) (q : C ⊎ D) (p' : A' ⊎ B') (q' : C' ⊎ D') → pick p q ≡ pick p' q' → A → A'
unfolding pick
pick_first (inl a) q (inl a') q' e x = a'
pick_first (inl a) q (inr b') (inl c') e x = absurd (omega (arith, e))
pick_first (inl a) q (inr b') (inr d') e x = absurd (omega (arith, e))
pick_first (inr b) q p' q' e x = absurd (b x)

pick_second : {A C A' B' C' D' : Type 0} (p : A ⊎ (¬ A)) (q : C ⊎ (¬ C)) (p' : A' ⊎ B') (q' : C' ⊎ D') → pick p q ≡ pick p' q' → (¬ A) → C → C'
unfolding pick
pick_second (inl a) q p' q' e not_a x = absurd (not_a a)
pick_second (inr b) (inr d) p' q' e not_a x = absurd (d x)
pick_second (inr b) (inl c) (inl a') q' e not_a x = absurd (omega (arith, e))
pick_second (inr b) (inl c) (inr b') (inl c') e not_a x = c'
pick_second (inr b) (inl c) (inr b') (inr d') e not_a x = absurd (omega (arith, e))

-- how a variable stands in a line: 1 as it is, 2 negated, 0 not at all
digit : ℕ → List Literal → ℕ
digit v line = pick (contains_or_not line (literal v true)) (contains_or_not line (literal v false))

code : List ℕ → List Literal → ℕ
code [] line = 0
code (v ∷ vs) line = digit v line + 3 * code vs line

code_below : (vs : List ℕ) (line : List Literal) → code vs line < 3 ^ length vs
unfolding code digit
code_below [] line = omega arith
code_below (v ∷ vs) line =
    let first = pick_below (contains_or_not line (literal v true)) (contains_or_not line (literal v false)) in
    omega (arith, first, code_below vs line, pow-succ' 3 (length vs))

-- two lines of one code have one digit at each variable
code_digit : (vs : List ℕ) (line other : List Literal) → code vs line ≡ code vs other → All (λ v. digit v line ≡ digit v other) vs
unfolding code digit
code_digit [] line other e = All-nil (λ v. digit v line ≡ digit v other)
code_digit (v ∷ vs) line other e =
    let here = pick_below (contains_or_not line (literal v true)) (contains_or_not line (literal v false)) in
    let there = pick_below (contains_or_not other (literal v true)) (contains_or_not other (literal v false)) in
    All-cons (λ w. digit w line ≡ digit w other) v vs (omega (arith, here, there, e)) (code_digit vs line other (omega (arith, here, there, e)))

-- a line in which no variable stands twice does not have a literal and its negation
one_sign : (line : List Literal) (v : ℕ) → AllPairs (λ l m. l.variable ≢ m.variable) line → Contains line (literal v false) → ¬ Contains line (literal v true)
one_sign line v distinct n p = elim (order n.0 p.0) [
  | inl before ↦ distinct n.0 p.0 (literal v true) before p.1
      (ap (λ (l : Literal). l.variable) (negative (literal v true)) ∙ sym (ap (λ (l : Literal). l.variable) p.2))
  | inr rest ↦ elim rest [
    | inl after ↦ distinct p.0 n.0 (literal v true) after n.1
        (ap (λ (l : Literal). l.variable) p.2 ∙ sym (ap (λ (l : Literal). l.variable) (negative (literal v true))))
    | inr same ↦ false≢true (ap (λ (l : Literal). l.positive) (sym (negative (literal v true)) ∙ (ap (λ k. get_or line k (literal v true)) same ∙ p.2)))
  ]
]
  where
    negative : (d : Literal) → get_or line n.0 d ≡ literal v false
    negative d = get_or_default line n.0 d (literal v false) n.1 ∙ n.2

    order : (i j : ℕ) → (i < j) ⊎ ((j < i) ⊎ (i ≡ j))
    order i j = elim (cases_lt i j) [
      | inl less ↦ inl less
      | inr more ↦ elim (cases_lt j i) [ inl less ↦ inr (inl less) | inr same ↦ inr (inr (omega arith)) ]
    ]

-- a line with the digits of another has its literals
same_digit : (v : ℕ) (b : Bool) (line other : List Literal) → AllPairs (λ l m. l.variable ≢ m.variable) line → digit v line ≡ digit v other
    → Contains line (literal v b) → Contains other (literal v b)
unfolding digit
same_digit v true line other distinct e h = pick_first (contains_or_not line (literal v true)) (contains_or_not line (literal v false))
    (contains_or_not other (literal v true)) (contains_or_not other (literal v false)) e h
same_digit v false line other distinct e h = pick_second (contains_or_not line (literal v true)) (contains_or_not line (literal v false))
    (contains_or_not other (literal v true)) (contains_or_not other (literal v false)) e (one_sign line v distinct h) h

same_code : (vs : List ℕ) (line other : List Literal) → AllPairs (λ l m. l.variable ≢ m.variable) line → All (λ l. Contains vs l.variable) line
    → code vs line ≡ code vs other → ContainsAll other line
same_code vs line other distinct within e = λ k d k_within.
    let l = get_or line k d in
    let same = All-contains (λ v. digit v line ≡ digit v other) vs l.variable (code_digit vs line other e) (within k d k_within) in
    same_digit l.variable l.positive line other distinct same (Contains-get_or line k d k_within)

module _ (inputs : ℕ) (first : List (List Literal)) (assumptions : List Literal) (cone : List ℕ)
    (exact : (v : ℕ) → Contains cone v ↔ InCone first assumptions v) where
  within : (line : List Literal) → IsWithinCone first assumptions line → All (λ l. Contains cone l.variable) line
  within line h = λ k d k_within. (exact (get_or line k d).variable).1 (h k d k_within)

  kept_inputs : (clauses : List (List Literal)) (line : List Literal) → inputs ≤ length clauses → take inputs clauses ≡ first
      → take inputs (clauses ++ line ∷ []) ≡ first
  kept_inputs clauses line enough e = take-append-le inputs clauses (line ∷ []) enough ∙ e

  -- a clause that stands before has another code than each later line
  later_apart : (clauses lines : List (List Literal)) (line : List Literal) → inputs ≤ length clauses → take inputs clauses ≡ first
      → AllPairs (λ l m. l.variable ≢ m.variable) line → All (λ l. Contains cone l.variable) line → Contains clauses line
      → EachIsNew clauses inputs assumptions lines → All (λ m. code cone line ≢ code cone m) lines
  later_apart clauses [] line enough same distinct in_cone here each = All-nil (λ m. code cone line ≢ code cone m)
  later_apart clauses (next ∷ lines) line enough same distinct in_cone here each =
      All-cons (λ m. code cone line ≢ code cone m) next lines
      (λ e. no_copy clauses inputs assumptions next line each.0 here (same_code cone line next distinct in_cone e))
      (later_apart (clauses ++ next ∷ []) lines line (omega (arith, length_push clauses next)) (kept_inputs clauses next enough same) distinct in_cone
      (Contains-append_left clauses (next ∷ []) line here) each.1)

  codes_apart : (clauses lines : List (List Literal)) → inputs ≤ length clauses → take inputs clauses ≡ first → EachIsNew clauses inputs assumptions lines
      → AllPairs (λ l m. code cone l ≢ code cone m) lines
  codes_apart clauses [] enough same each = λ i j d before j_within. absurd (omega arith)
  codes_apart clauses (line ∷ lines) enough same each =
      let in_cone = within line (subst (λ cs. IsWithinCone cs assumptions line) same each.0.within_cone) in
      let longer : inputs ≤ length (clauses ++ line ∷ []) = omega (arith, length_push clauses line) in
      AllPairs-cons (λ l m. code cone l ≢ code cone m) line lines
      (later_apart (clauses ++ line ∷ []) lines line longer (kept_inputs clauses line enough same) each.0.distinct in_cone (Contains-push clauses line) each.1)
      (codes_apart (clauses ++ line ∷ []) lines longer (kept_inputs clauses line enough same) each.1)

pub few_lines : (clauses : List (List Literal)) (inputs : ℕ) (assumptions : List Literal) (lines : List (List Literal)) (cone : List ℕ)
    → inputs ≤ length clauses
    → ((v : ℕ) → Contains cone v ↔ InCone (take inputs clauses) assumptions v) → EachIsNew clauses inputs assumptions lines → length lines ≤ 3 ^ length cone
few_lines clauses inputs assumptions lines cone enough exact each =
    let f : List Literal → ℕ = λ line. code cone line in
    let long = length-map lines f in
    let apart = codes_apart inputs (take inputs clauses) assumptions cone exact clauses lines enough refl each in
    let few = few_below (map f lines) (3 ^ length cone)
    (λ i j d before j_within e.
    let j_in : j < length lines = omega (arith, long) in
    let i_in : i < length lines = omega (arith, long) in
    apart i j [] before j_in (sym (get_or-map f lines i [] d i_in) ∙ (e ∙ get_or-map f lines j [] d j_in)))
    (λ k d k_within.
    let k_in : k < length lines = omega (arith, long) in
    subst (λ n. n < 3 ^ length cone) (sym (get_or-map f lines k [] d k_in)) (code_below cone (get_or lines k []))) in
    omega (arith, long, few)
