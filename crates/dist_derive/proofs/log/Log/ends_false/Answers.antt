use Rattle.std.proofs.Common.{◌+◌, List, Bool, true, false, [], ◌∷◌, ◌++◌, get_or, drop, ap, sym, subst, ◌∙◌, arith}
use Rattle.std.proofs.lemmas.Bool.{false≢true}
use Rattle.dist_clause.specs.Formula.{Literal}
use Rattle.dist_derive.specs.TrueLiterals.{LiteralList}
use Rattle.dist_derive.specs.HintsPrivate.{AreConflicts}
use Rattle.dist_derive.proofs.FollowsLemmas.{HintsSoFar, hints_none, hints_more, hints_refused, hints_all, ends_conflict, ends_unit, ends_open}
use Rattle.dist_derive.proofs.log.Log.ends_false.Goals as goal
use Rattle.dist_derive.proofs.log.Log.ends_false.Goals.{in-Conflict, in-Unit}

pub loop-hint-init : goal.loop-hint-init
loop-hint-init c =
    let none = subst (λ numbers. AreConflicts c.args.self.now.clauses c.args.literals.now.literals numbers) (sym c.requires.none)
    (λ k d within. absurd (omega arith)) in
    (hints_none c.args.self.now.clauses c.args.literals.now.literals c.args.hints.now, c.requires.same_variables, none)

pub returns-in-Open-clause-answer : goal.returns-in-Open-clause-answer
returns-in-Open-clause-answer c =
    let i = c.loop-hint.hint-index in
    let hint = get_or c.args.hints.now i 0 in (
      λ e. absurd (false≢true e),
      λ h. absurd (hints_refused c.args.self.now.clauses c.args.literals.now.literals c.args.hints.now i c.loop-hint.literals.literals c.loop-hint.ended
          c.loop-hint-test.true
          (ends_open c.args.self.now.clauses c.loop-hint.literals.literals hint (drop (i + 1) c.args.hints.now) c.in-Open.ensures.taken.1)
          c.loop-hint.invariant.0 h),
    )

pub returns-in-Open-clause-same_variables : goal.returns-in-Open-clause-same_variables
returns-in-Open-clause-same_variables c =
    ap (λ (t : LiteralList). t.variables) c.in-Open.ensures.taken.0 ∙ (c.loop-hint.invariant.1 ∙ sym c.requires.same_variables)

pub loop-hint-preserved : goal.loop-hint-preserved
loop-hint-preserved c =
    let i = c.loop-hint.hint-index in
    let hint = get_or c.args.hints.now i 0 in
    let rest = drop (i + 1) c.args.hints.now in
    let trues = c.loop-hint.literals.literals in
    let clauses = c.args.self.now.clauses in
    let SoFar : List Literal → Bool → Type 0 = λ ts ended. HintsSoFar clauses c.args.literals.now.literals c.args.hints.now (i + 1) ts ended in
    elim c.match-take_once.branch [
      | in-Conflict w ↦
          let h = w.in-Conflict.ensures.taken in
          let step = ends_conflict clauses trues hint rest h.1 h.2 in
          let more = hints_more clauses c.args.literals.now.literals c.args.hints.now i trues trues c.loop-hint.ended true c.loop-hint-test.true step
          c.loop-hint.invariant.0 in
          let same = h.0 in (
            subst (λ ended. SoFar c.take_once.new.literals.literals ended) (sym w.ended-is)
                (subst (λ ts. SoFar ts true) (sym (ap (λ (t : LiteralList). t.literals) same)) more),
            ap (λ (t : LiteralList). t.variables) same ∙ c.loop-hint.invariant.1,
            w.in-Conflict.ensures.known,
          )
      | in-Unit w ↦
          let h = w.in-Unit.ensures.taken in
          let step = ends_unit clauses trues hint rest w.in-Unit.field-0 h.1 h.2 in
          let more = hints_more clauses c.args.literals.now.literals c.args.hints.now i trues (trues ++ w.in-Unit.field-0 ∷ []) c.loop-hint.ended false
          c.loop-hint-test.true step c.loop-hint.invariant.0 in
          let same = h.0 in (
            subst (λ ended. SoFar c.take_once.new.literals.literals ended) (sym w.ended-is)
                (subst (λ ts. SoFar ts false) (sym (ap (λ (t : LiteralList). t.literals) same)) more),
            ap (λ (t : LiteralList). t.variables) same ∙ c.loop-hint.invariant.1,
            w.in-Unit.ensures.known,
          )
    ]

pub returns-clause-answer : goal.returns-clause-answer
returns-clause-answer c =
    hints_all c.args.self.now.clauses c.args.literals.now.literals c.args.hints.now c.loop-hint.hint-index c.loop-hint.literals.literals c.loop-hint.ended
    c.loop-hint-test.false c.loop-hint.invariant.0
