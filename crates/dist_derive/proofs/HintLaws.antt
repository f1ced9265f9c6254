-- Unit steps as hints, and hints over more clauses.
use Rattle.std.proofs.Common.{◌≡◌, ◌≢◌, ℕ, ◌+◌, ◌-◌, ◌<◌, ◌≤◌, ◌⊎◌, ⊎_elim, inl, inr, Bool, true, false, not, List, [], ◌∷◌, ◌++◌, length, get_or, take, map}
use Rattle.std.proofs.Common.{refl, ap, sym, subst, ◌∙◌, append_assoc, arith, length-append}
use Rattle.std.specs.List.{All, Contains}
use Rattle.std.proofs.lemmas.Bool.{cases_lt}
use Rattle.std.proofs.lemmas.List.{length_push, length-map, get_or-map, get_or_append_left, get_or_at, take-append-le, take_at, append-nil}
use Rattle.std.proofs.lemmas.List.Elements.{All-push, All-contains, All-get_or, Contains-get_or, Contains-push}
use Rattle.std.proofs.lemmas.List.Quantifiers.{all_pairs_push}
use Rattle.dist_clause.specs.Formula.{Literal, literal, negation, IsClauseOver}
use Rattle.dist_clause.specs.ClauseList.{clause_at}
use Rattle.dist_derive.specs.ContainmentPrivate.{ContainsAll}
use Rattle.dist_derive.specs.Propagation.{IsUnset, AllFalse, IsUnit}
use Rattle.dist_derive.specs.Follows.{IsNumberOf, EndsFalse, Follows, Step, AreUnitSteps, EachLineFollows}
use Rattle.dist_derive.proofs.AssumeLemmas.{ContainsAll-then, ContainsAll-push, AllFalse-more, OthersFalse-more}
use Rattle.dist_derive.proofs.FewLemmas.{few_from_one}

pub steps_hints : (clauses : List (List Literal)) (trues : List Literal) (steps : List Step) (last : ℕ) → AreUnitSteps clauses trues steps
    → IsNumberOf clauses last
    → AllFalse (trues ++ map (λ s. s.made_true) steps) (clause_at clauses last) → EndsFalse clauses trues (map (λ s. s.number) steps ++ last ∷ [])
steps_hints clauses trues [] last h number all = (number, inl (subst (λ ts. AllFalse ts (clause_at clauses last)) (append-nil trues) all, inl refl))
steps_hints clauses trues (step ∷ steps) last h number all = (
  h.0,
  inr (
    step.made_true,
    h.1,
    steps_hints clauses (trues ++ step.made_true ∷ []) steps last h.2 number
        (subst (λ ts. AllFalse ts (clause_at clauses last)) (sym (append_assoc trues (step.made_true ∷ []) (map (λ s. s.made_true) steps))) all),
  ),
)

unset_same : (trues other : List Literal) (l : Literal) → ContainsAll trues other → IsUnset trues l → IsUnset other l
unset_same trues other l within unset = (
  λ h. unset.0 (All-contains (Contains trues) other l within h),
  λ h. unset.1 (All-contains (Contains trues) other (negation l) within h),
)

pub any_order : (clauses : List (List Literal)) (trues other : List Literal) (hints : List ℕ) → ContainsAll trues other → ContainsAll other trues
    → EndsFalse clauses trues hints → EndsFalse clauses other hints
any_order clauses trues other [] within kept h = h
any_order clauses trues other (hint ∷ hints) within kept h = (
  h.0,
  ⊎_elim
      (λ x. inl (
        AllFalse-more trues other (clause_at clauses hint) kept x.0,
        ⊎_elim (λ none. inl none) (λ more. inr (any_order clauses trues other hints within kept more)) x.1,
      ))
      (λ x. inr (
        x.0,
        record {
          member = x.1.member;
          unset = unset_same trues other x.0 within x.1.unset;
          others = OthersFalse-more trues other (clause_at clauses hint) x.0 kept x.1.others;
        },
        any_order clauses (trues ++ x.0 ∷ []) (other ++ x.0 ∷ []) hints (pushed trues other x.0 within) (pushed other trues x.0 kept) x.2,
      ))
      h.1,
)
  where
    pushed : (xs ys : List Literal) (l : Literal) → ContainsAll xs ys → ContainsAll (xs ++ l ∷ []) (ys ++ l ∷ [])
    pushed xs ys l all = All-push (Contains (xs ++ l ∷ [])) ys l (ContainsAll-then ys xs (xs ++ l ∷ []) all (ContainsAll-push xs l)) (Contains-push xs l)

-- a literal that is unset has a variable of its own
unset_apart : (trues : List Literal) (l : Literal) → IsUnset trues l → (m : Literal) → Contains trues m → m.variable ≢ l.variable
unset_apart trues l unset m here e = elim (cases_sign m.positive l.positive) [
  | inl same ↦ unset.0 (subst (λ x. Contains trues x) (ap (λ v. literal v m.positive) e ∙ ap (λ b. literal l.variable b) same) here)
  | inr other ↦ unset.1 (subst (λ x. Contains trues x) (ap (λ v. literal v m.positive) e ∙ ap (λ b. literal l.variable b) other) here)
]
  where
    cases_sign : (a b : Bool) → (a ≡ b) ⊎ (a ≡ not b)
    cases_sign true true = inl refl
    cases_sign true false = inr refl
    cases_sign false true = inr refl
    cases_sign false false = inl refl

pub over_push : (n : ℕ) (trues : List Literal) (l : Literal) → IsClauseOver n trues → (1 ≤ l.variable) × (l.variable ≤ n) → IsUnset trues l
    → IsClauseOver n (trues ++ l ∷ [])
over_push n trues l over in_range unset = record {
  in_range = All-push (λ m. (1 ≤ m.variable) × (m.variable ≤ n)) trues l over.in_range in_range;
  distinct = all_pairs_push (λ m x. m.variable ≢ x.variable) trues l over.distinct
      (λ k d within. unset_apart trues l unset (get_or trues k d) (Contains-get_or trues k d within));
}

pub over_few : (n : ℕ) (trues : List Literal) → IsClauseOver n trues → length trues ≤ n
over_few n trues over =
    let variable : Literal → ℕ = λ l. l.variable in
    let long = length-map trues variable in
    let few = few_from_one (map variable trues) n
    (λ i j d before within e.
    let j_in : j < length trues = omega (arith, long) in
    let i_in : i < length trues = omega (arith, long) in
    let l = literal d true in
    over.distinct i j l before j_in (sym (get_or-map variable trues i l d i_in) ∙ (e ∙ get_or-map variable trues j l d j_in)))
    (λ k d within.
    let k_in : k < length trues = omega (arith, long) in
    let l = literal d true in
    subst (λ v. (1 ≤ v) × (v ≤ n)) (sym (get_or-map variable trues k l d k_in)) (over.in_range k l k_in)) in
    omega (arith, long, few)

pub few_steps : (n : ℕ) (clauses : List (List Literal)) (trues : List Literal) (steps : List Step) → All (IsClauseOver n) clauses → IsClauseOver n trues
    → AreUnitSteps clauses trues steps → length trues + length steps ≤ n
few_steps n clauses trues [] all over h = omega (arith, over_few n trues over)
few_steps n clauses trues (step ∷ steps) all over h =
    let l = step.made_true in
    let clause_over = All-get_or (IsClauseOver n) clauses (step.number - 1) [] (omega (arith, h.0.0, h.0.1)) all in
    let in_range = All-contains (λ m. (1 ≤ m.variable) × (m.variable ≤ n)) (clause_at clauses step.number) l clause_over.in_range h.1.member in
    omega (arith, few_steps n clauses (trues ++ l ∷ []) steps all (over_push n trues l over in_range h.1.unset) h.2, length_push trues l)

clause_at-more : (clauses more : List (List Literal)) (number : ℕ) → IsNumberOf clauses number → clause_at (clauses ++ more) number ≡ clause_at clauses number
clause_at-more clauses more number h = get_or_append_left clauses more [] (number - 1) (omega (arith, h.0, h.1))

ends_false_more : (clauses more : List (List Literal)) (trues : List Literal) (hints : List ℕ) → EndsFalse clauses trues hints
    → EndsFalse (clauses ++ more) trues hints
ends_false_more clauses more trues [] h = h
ends_false_more clauses more trues (hint ∷ hints) h =
    let same = sym (clause_at-more clauses more hint h.0) in (
      (h.0.0, omega (arith, h.0.1, length-append clauses more)),
      ⊎_elim
          (λ x. inl (subst (λ c. AllFalse trues c) same x.0, ⊎_elim (λ none. inl none) (λ left. inr (ends_false_more clauses more trues hints left)) x.1))
          (λ x. inr (x.0, subst (λ c. IsUnit trues c x.0) same x.1, ends_false_more clauses more (trues ++ x.0 ∷ []) hints x.2))
          h.1,
    )

pub follows_more : (clauses more : List (List Literal)) (clause : List Literal) (hints : List ℕ) → Follows clauses clause hints
    → Follows (clauses ++ more) clause hints
follows_more clauses more clause hints h = ends_false_more clauses more (map negation clause) hints h

pub each_line_more : (inputs : ℕ) (clauses : List (List Literal)) (clause : List Literal) (hints : List ℕ) → EachLineFollows inputs clauses
    → Follows clauses clause hints → EachLineFollows inputs (clauses ++ clause ∷ [])
each_line_more inputs clauses clause hints each h = λ number above within.
    elim (cases_lt (length clauses) number) [
      | inl last ↦
          let place : number - 1 ≡ length clauses = omega (arith, length_push clauses clause) in
          let front : take (number - 1) (clauses ++ clause ∷ []) ≡ clauses = ap (λ k. take k (clauses ++ clause ∷ [])) place
          ∙ take_at clauses (clause ∷ []) (length clauses) refl in
          let here : clause_at (clauses ++ clause ∷ []) number ≡ clause = get_or_at clauses clause [] [] (number - 1) (sym place) in
          (hints, subst (λ cs. Follows cs (clause_at (clauses ++ clause ∷ []) number) hints) (sym front) (subst (λ c. Follows clauses c hints) (sym here) h))
      | inr before ↦
          let line = each number above before in
          let front = take-append-le (number - 1) clauses (clause ∷ []) (omega arith) in
          let same = clause_at-more clauses (clause ∷ []) number (omega arith, before) in (
            line.0,
            subst (λ cs. Follows cs (clause_at (clauses ++ clause ∷ []) number) line.0) (sym front)
                (subst (λ c. Follows (take (number - 1) clauses) c line.0) (sym same) line.1),
          )
    ]
