use Rattle.std.proofs.Common.{◌≡◌, ℕ, ◌+◌, ◌-◌, [], take, refl, sym, subst, ◌∙◌, arith}
use Rattle.std.proofs.lemmas.Bool.{false≢true}
use Rattle.dist_clause.specs.ClauseList.{clause_at}
use Rattle.dist_derive.specs.New.{IsNew}
use Rattle.dist_derive.proofs.NewLinesLemmas.{numbers_more, line_new}
use Rattle.dist_derive.proofs.log.Log.tell_lines.Goals as goal

pub loop-before-init : goal.loop-before-init
loop-before-init c = record { standing = c.requires.standing; new = λ number above to. absurd (omega (arith, above, to)) }

pub returns-then-not-branch : goal.returns-then-not-branch
returns-then-not-branch c = record {
  answer = (
    λ e. absurd (false≢true e),
    λ h.
        let log = c.args.self.now in
        let before = c.loop-before.before in
        let place : before + 1 - 1 ≡ before = omega arith in
        let new = subst (λ k. IsNew (take k log.clauses) log.inputs c.args.assumptions.now (clause_at log.clauses (before + 1))) place
        (h (before + 1) (omega (arith, c.loop-before.auto.before)) (omega (arith, c.loop-before-test.true, c.len-before-end.ensures.value))) in
        absurd (false≢true (sym c.if-not-branch.true ∙ c.in_ok-tell_line.ensures.answer.1 new.adds)),
  );
  standing = c.in_ok-tell_line.ensures.standing;
}

pub loop-before-preserved : goal.loop-before-preserved
loop-before-preserved c =
    let log = c.args.self.now in
    let before = c.loop-before.before in
    let over = c.len-before-end.ensures.within.over_variables (before + 1 - 1) []
    (omega (arith, c.loop-before-test.true, c.len-before-end.ensures.value)) in
    let place : before ≡ before + 1 - 1 = omega arith in
    let WasNew : ℕ → Type 0 = λ number. IsNew (take (number - 1) log.clauses) log.inputs c.args.assumptions.now (clause_at log.clauses number) in
    let reached = c.requires.within (before + 1) (omega (arith, c.loop-before.auto.before))
    (omega (arith, c.loop-before-test.true, c.len-before-end.ensures.value)) in
    let this = line_new log.variables log.clauses log.inputs c.args.assumptions.now before (clause_at log.clauses (before + 1)) over
    (omega (arith, c.requires.inputs, c.loop-before.auto.before)) reached (c.in_ok-tell_line.ensures.answer.0 c.if-not-branch.false) in
    record {
      standing = c.in_ok-tell_line.ensures.standing;
      new = numbers_more WasNew c.args.last before c.loop-before.invariant.new
          (subst (λ k. IsNew (take k log.clauses) log.inputs c.args.assumptions.now (clause_at log.clauses (before + 1))) place this);
    }

pub returns : goal.returns
returns c = record {
  answer = (
    λ _ number above to. c.loop-before.invariant.new number above (omega (arith, to, c.loop-before-test.false, c.len-before-end.ensures.value)),
    λ _. refl,
  );
  standing = c.loop-before.invariant.standing;
}
