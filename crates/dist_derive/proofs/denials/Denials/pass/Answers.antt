use Rattle.std.proofs.Common.{◌≡◌, ◌∙◌, ◌≤◌, List, ℕ, arith, false, get_or, subst, sym}
use Rattle.std.specs.List.{Contains}
use Rattle.std.proofs.lemmas.List.{get_or_default}
use Rattle.std.proofs.lemmas.List.Elements.{All-contains}
use Rattle.dist_clause.specs.ClauseList.{clause_at}
use Rattle.dist_clause.specs.Formula.{Literal, MakesTrue, literal}
use Rattle.dist_derive.specs.RowsPrivate.{StandsAt}
use Rattle.dist_derive.proofs.RowLemmas.{passed-true}
use Rattle.dist_derive.proofs.denials.Denials.pass.Goals as goal

pub clause-clause-requires-clause-from_one : goal.clause-clause-requires-clause-from_one
clause-clause-requires-clause-from_one c =
    let pairs : List (ℕ × ℕ) = c.args.self.now in
    let x : ℕ × ℕ = c.index.result.now in
    let here : get_or pairs c.args.place x ≡ x = subst (λ (ps : List (ℕ × ℕ)). get_or ps c.args.place x ≡ x) c.self.view_is (sym c.index.ensures) in
    (c.requires.denials.numbers x.0 x.1 (c.args.place, c.requires.place, here)).0

pub clause-clause-requires-clause-to_len : goal.clause-clause-requires-clause-to_len
clause-clause-requires-clause-to_len c =
    let pairs : List (ℕ × ℕ) = c.args.self.now in
    let x : ℕ × ℕ = c.index.result.now in
    let here : get_or pairs c.args.place x ≡ x = subst (λ (ps : List (ℕ × ℕ)). get_or ps c.args.place x ≡ x) c.self.view_is (sym c.index.ensures) in
    (c.requires.denials.numbers x.0 x.1 (c.args.place, c.requires.place, here)).1

pub true_place-requires : goal.true_place-requires
true_place-requires c = λ k d within.
    let row : List Literal = clause_at c.args.rows.now.rows c.index.result.now.1 in
    let m : Literal = get_or row k d in
    let found = c.requires.alike.rows.members c.index.result.now.1 m (k, within, get_or_default row k m d within) in
    let clause : List Literal = c.clause-clause.result.now in
    let there = subst (λ (xs : List Literal). Contains xs m) (sym c.clause-clause.ensures.value) found in
    let range = All-contains (λ l. (1 ≤ l.variable) × (l.variable ≤ c.args.clauses.now.variables)) clause m
    c.clause-clause.ensures.over_variables.in_range there in
    omega (arith, range.1, c.requires.variables)

pub returns-in-Some-clause-some : goal.returns-in-Some-clause-some
returns-in-Some-clause-some c = λ value gives.
    let pairs : List (ℕ × ℕ) = c.args.self.now in
    let x : ℕ × ℕ = c.index.result.now in
    let row : List Literal = clause_at c.args.rows.now.rows x.1 in
    let found = c.in-Some.ensures value gives in
    let p : ℕ = c.in-Some.found in
    let l : Literal = get_or row p (literal 0 false) in
    let here : get_or pairs c.args.place x ≡ x = subst (λ (ps : List (ℕ × ℕ)). get_or ps c.args.place x ≡ x) c.self.view_is (sym c.index.ensures) in
    let first : get_or pairs c.args.place (0, 0) ≡ x = get_or_default pairs c.args.place (0, 0) x c.requires.place ∙ here in
    let stands = subst (λ (y : ℕ × ℕ). StandsAt (clause_at c.args.rows.now.rows y.1) p l) (sym first)
    (found.0, get_or_default row p l (literal 0 false) found.0) in
    passed-true value c.args.clauses.now.clauses pairs c.args.rows.now c.args.place c.behind.result p l c.requires.alike stands found.1
    c.behind.ensures.alike

pub returns-then-makes_clause_true-clause-some : goal.returns-then-makes_clause_true-clause-some
returns-then-makes_clause_true-clause-some c = λ value gives k from before within.
    let pairs : List (ℕ × ℕ) = c.args.self.now in
    let clauses : List (List Literal) = c.args.clauses.now.clauses in
    let x : ℕ × ℕ = c.index.result.now in
    let here : get_or pairs c.args.place x ≡ x = subst (λ (ps : List (ℕ × ℕ)). get_or ps c.args.place x ≡ x) c.self.view_is (sym c.index.ensures) in
    let first : get_or pairs c.args.place (0, 0) ≡ x = get_or_default pairs c.args.place (0, 0) x c.requires.place ∙ here in
    let same : c.args.place ≡ k = omega (arith, from, before) in
    let holds = subst (MakesTrue value) c.clause-clause.ensures.value ((c.makes_clause_true.ensures value gives).0 c.if-makes_clause_true.true) in
    subst (λ (n : ℕ). MakesTrue value (clause_at clauses (get_or pairs n (0, 0)).1)) same
    (subst (λ (y : ℕ × ℕ). MakesTrue value (clause_at clauses y.1)) (sym first) holds)
