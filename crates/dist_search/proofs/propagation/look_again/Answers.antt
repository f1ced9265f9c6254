use Rattle.std.proofs.Common.{◌≤◌, ◌-◌, [], length, sym, subst, ◌∙◌, arith}
use Rattle.std.specs.List.{Contains}
use Rattle.std.proofs.lemmas.Bool.{true≢false}
use Rattle.std.proofs.lemmas.List.Elements.{All-contains}
use Rattle.dist_clause.specs.Formula.{Literal, IsClauseOver}
use Rattle.dist_clause.specs.ClauseList.{clause_at}
use Rattle.dist_search.proofs.TakeLemmas.{passes_over, other_in}
use Rattle.dist_search.proofs.propagation.look_again.Goals as goal
use Rattle.dist_search.proofs.propagation.look_again.Goals.{then-number-eq0-via-then-number-eq0, then-number-eq0-via-else-number-eq0+then-number-len}

pub returns-then-number-eq0-clause-looks : goal.returns-then-number-eq0-clause-looks
returns-then-number-eq0-clause-looks c = passes_over c.args.log.now.clauses c.args.cone.now.members c.args.number c.args.literal c.args.watches.now
    c.args.trail.now c.requires.watches c.keeps_invariant-2.ensures.ordered.reasons
    (λ from to _. elim c.then-number-eq0.branch [
      | then-number-eq0-via-then-number-eq0 w ↦ absurd (omega (arith, w.if-number-eq0, from))
      | then-number-eq0-via-else-number-eq0+then-number-len w ↦ absurd (omega (arith, w.if-number-len, to))
    ])

pub returns-in_default-clause-looks : goal.returns-in_default-clause-looks
returns-in_default-clause-looks c = passes_over c.args.log.now.clauses c.args.cone.now.members c.args.number c.args.literal c.args.watches.now c.args.trail.now
    c.requires.watches c.keeps_invariant-2.ensures.ordered.reasons (λ from to _. c.in_default.ensures.none)

pub contains-requires-clause-in_range : goal.contains-requires-clause-in_range
contains-requires-clause-in_range c =
    let n = c.args.log.now.variables in
    let clause = clause_at c.args.log.now.clauses c.args.number in
    let from : 1 ≤ c.args.number = omega (arith, c.if-number-eq0.false) in
    let to : c.args.number ≤ length c.args.log.now.clauses = omega (arith, c.if-number-len.false, c.len.ensures.value) in
    let over : IsClauseOver n clause = c.keeps_invariant.ensures.within.over_variables (c.args.number - 1) [] (omega (arith, from, to)) in
    let member = other_in c.args.watches.now c.args.log.now.clauses c.args.number c.args.literal c.in-Some.other from c.in-Some.ensures.some
    c.requires.watches in
    let range = All-contains (λ (l : Literal). (1 ≤ l.variable) × (l.variable ≤ n)) clause c.in-Some.other over.in_range member in
    subst (λ k. c.variable.result ≤ k) (sym c.requires.cone_variables) (subst (λ v. v ≤ n) (sym c.variable.ensures.value) range.1)

pub returns-then-not-contains-clause-looks : goal.returns-then-not-contains-clause-looks
returns-then-not-contains-clause-looks c =
    let clauses = c.args.log.now.clauses in
    let cone = c.args.cone.now.members in
    passes_over clauses cone c.args.number c.args.literal c.args.watches.now c.args.trail.now c.requires.watches c.keeps_invariant-2.ensures.ordered.reasons
    (λ from to lies.
    let member = other_in c.args.watches.now clauses c.args.number c.args.literal c.in-Some.other from c.in-Some.ensures.some c.requires.watches in
    let inside = All-contains (λ (l : Literal). Contains cone l.variable) (clause_at clauses c.args.number) c.in-Some.other lies member in
    absurd (true≢false (sym (c.contains.ensures.1 (subst (λ v. Contains cone v) (sym c.variable.ensures.value) inside))
    ∙ c.if-not-contains.true)))
