use Rattle.std.proofs.Common.{◌≡◌, ◌-◌, ◌+◌, ◌<◌, [], length, take, refl, sym, subst, ◌∙◌, arith}
use Rattle.std.specs.List.{All}
use Rattle.std.proofs.lemmas.Bool.{false≢true}
use Rattle.std.proofs.lemmas.List.{take_all}
use Rattle.std.proofs.lemmas.List.Elements.{All-get_or, All-more}
use Rattle.dist_clause.specs.Formula.{MakesTrue, IsModel, value_of}
use Rattle.dist_clause.proofs.assignment.Assignment.holds.Goals as goal

pub returns-then-not-makes_true : goal.returns-then-not-makes_true
returns-then-not-makes_true c = (
  λ e. absurd (false≢true e),
  λ model.
      let within : c.loop-number.number - 1 < length c.args.clauses.now.clauses = omega (arith, c.len-number-end.ensures.value) in
      let here = All-get_or (MakesTrue (value_of c.args.self.now)) c.args.clauses.now.clauses (c.loop-number.number - 1) [] within model in
      let true_here = c.makes_true.ensures.1 (subst (λ clause. MakesTrue (value_of c.args.self.now) clause) (sym c.clause.ensures.value) here) in
      absurd (false≢true (sym c.if-not-makes_true.true ∙ true_here)),
)

pub loop-number-preserved : goal.loop-number-preserved
loop-number-preserved c =
    let within : c.loop-number.number - 1 < length c.args.clauses.now.clauses = omega (arith, c.len-number-end.ensures.value) in
    let here = subst (λ clause. MakesTrue (value_of c.args.self.now) clause) c.clause.ensures.value (c.makes_true.ensures.0 c.if-not-makes_true.false) in
    let more = All-more (MakesTrue (value_of c.args.self.now)) c.args.clauses.now.clauses (c.loop-number.number - 1) [] within c.loop-number.invariant here in
    let next : c.loop-number.number - 1 + 1 ≡ c.loop-number.number + 1 - 1 = omega arith in
    subst (λ n. All (MakesTrue (value_of c.args.self.now)) (take n c.args.clauses.now.clauses)) next more

pub returns-else-not-makes_true : goal.returns-else-not-makes_true
returns-else-not-makes_true c =
    let within : c.loop-number.number - 1 < length c.args.clauses.now.clauses = omega (arith, c.len-number-end.ensures.value) in
    let here = subst (λ clause. MakesTrue (value_of c.args.self.now) clause) c.clause.ensures.value (c.makes_true.ensures.0 c.if-not-makes_true.false) in
    let more = All-more (MakesTrue (value_of c.args.self.now)) c.args.clauses.now.clauses (c.loop-number.number - 1) [] within c.loop-number.invariant here in
    let all : take (c.loop-number.number - 1 + 1) c.args.clauses.now.clauses ≡ c.args.clauses.now.clauses =
    take_all (c.loop-number.number - 1 + 1) c.args.clauses.now.clauses (omega (arith, c.len-number-end.ensures.value)) in
    (λ _. subst (λ clauses. IsModel (value_of c.args.self.now) clauses) all more, λ _. refl)
