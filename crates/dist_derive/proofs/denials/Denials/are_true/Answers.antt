use Rattle.std.proofs.Common.{◌≡◌, ◌∙◌, ◌<◌, ◌≤◌, List, ℕ, ap, arith, get_or, length, refl, subst, sym}
use Rattle.std.proofs.lemmas.List.{get_or_default}
use Rattle.std.specs.List.{Contains}
use Rattle.std.proofs.lemmas.Bool.{false≢true}
use Rattle.dist_clause.specs.ClauseList.{clause_at}
use Rattle.dist_clause.specs.Formula.{Literal, MakesTrue}
use Rattle.dist_derive.specs.DenialsPrivate.{AreTrueWithin, StartsAt}
use Rattle.dist_derive.proofs.DenialLemmas.{AreTrue, none-before, true-all, true-at-end, true-within}
use Rattle.dist_derive.proofs.denials.Denials.are_true.Goals as goal

pub loop-place-init : goal.loop-place-init
loop-place-init c =
    let starts = subst (λ (ps : List (ℕ × ℕ)). StartsAt ps c.args.variable c.start_of-place.result) (sym c.self.view_is) c.start_of-place.ensures in
    record {
      from = omega arith;
      so_far = λ value gives.
          none-before value c.args.clauses.now.clauses c.self.inside.pairs.items c.args.variable c.start_of-place.result starts.before;
    }

pub returns-then-index-variable : goal.returns-then-index-variable
returns-then-index-variable c = λ value gives.
    let pairs : List (ℕ × ℕ) = c.self.inside.pairs.items in
    let clauses : List (List Literal) = c.args.clauses.now.clauses in
    let starts = subst (λ (ps : List (ℕ × ℕ)). StartsAt ps c.args.variable c.start_of-place.result) (sym c.self.view_is) c.start_of-place.ensures in
    let place = c.loop-place.place in
    let x : ℕ × ℕ = c.index.result.now in
    let here : get_or pairs place x ≡ x = sym c.index.ensures in
    let within : place < length pairs = omega (arith, c.loop-place-test.true, c.len.ensures) in
    let low : c.args.variable ≤ (get_or pairs place x).0 = starts.behind place x (omega (arith, c.loop-place.invariant.from)) within in
    let same : (get_or pairs place x).0 ≡ x.0 = ap (λ (y : ℕ × ℕ). y.0) here in
    let past : c.args.variable < x.0 = omega (arith, low, same, c.if-index-variable.true) in (
      (λ yes. subst (λ (ps : List (ℕ × ℕ)). AreTrue value clauses ps c.args.variable) c.self.view_is
          (true-at-end value clauses pairs c.args.variable place x c.self.invariant within here past (c.loop-place.invariant.so_far value gives))),
      λ all. refl,
    )

pub returns-in_default : goal.returns-in_default
returns-in_default c = λ value gives.
    let pairs : List (ℕ × ℕ) = c.self.inside.pairs.items in
    let clauses : List (List Literal) = c.args.clauses.now.clauses in
    let place = c.loop-place.place in
    let x : ℕ × ℕ = c.index.result.now in
    let here : get_or pairs place x ≡ x = sym c.index.ensures in
    let within : place < length pairs = omega (arith, c.loop-place-test.true, c.len.ensures) in
    let there = subst (λ (ps : List (ℕ × ℕ)). Contains ps (c.args.variable, x.1)) c.self.view_is
    (subst (λ (v : ℕ). Contains pairs (v, x.1)) c.if-index-variable.false (place, within, here)) in
    let first : get_or pairs place (0, 0) ≡ x = get_or_default pairs place (0, 0) x within ∙ here in
    let none = subst (λ (y : ℕ × ℕ). ¬ MakesTrue value (clause_at clauses y.1)) first
    (subst (λ (ps : List (ℕ × ℕ)). ¬ MakesTrue value (clause_at clauses (get_or ps place (0, 0)).1)) (sym c.self.view_is)
    (c.in_default.ensures.none value gives)) in (
      (λ no. absurd (false≢true no)),
      λ all. absurd (none (all x.1 there)),
    )

pub loop-place-preserved : goal.loop-place-preserved
loop-place-preserved c = record {
  from = omega (arith, c.in-Some.ensures.later, c.loop-place.invariant.from);
  so_far = λ value gives.
      let more = subst (λ (ps : List (ℕ × ℕ)). AreTrueWithin value c.args.clauses.now.clauses ps c.loop-place.place c.in-Some.next)
      (sym c.self.view_is) (c.in-Some.ensures.some value gives) in
      true-within value c.args.clauses.now.clauses c.self.inside.pairs.items c.args.variable c.loop-place.place c.in-Some.next more
      (c.loop-place.invariant.so_far value gives);
}

pub returns : goal.returns
returns c = λ value gives.
    let pairs : List (ℕ × ℕ) = c.self.inside.pairs.items in
    let clauses : List (List Literal) = c.args.clauses.now.clauses in (
      (λ yes. subst (λ (ps : List (ℕ × ℕ)). AreTrue value clauses ps c.args.variable) c.self.view_is
          (true-all value clauses pairs c.args.variable c.loop-place.place (omega (arith, c.loop-place-test.false, c.len.ensures))
          (c.loop-place.invariant.so_far value gives))),
      λ all. refl,
    )
