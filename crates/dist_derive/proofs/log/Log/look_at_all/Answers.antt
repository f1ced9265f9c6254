use Rattle.std.proofs.Common.{◌+◌, take, inl, inr, sym, subst, arith}
use Rattle.std.proofs.lemmas.Bool.{cases_eq, false≢true}
use Rattle.dist_clause.specs.ClauseList.{clause_at}
use Rattle.dist_derive.specs.SweepPrivate.{Waits}
use Rattle.dist_derive.proofs.WaitLemmas.{Propagates-none, Propagates-then, refuted_before}
use Rattle.dist_derive.proofs.log.Log.look_at_all.Goals as goal

pub loop-place-init : goal.loop-place-init
loop-place-init c = (
  Propagates-none (take c.args.last c.args.self.now.clauses) c.args.literals.now,
  λ number done from to taken. absurd (omega arith),
)

pub returns-then-not-look_at : goal.returns-then-not-look_at
returns-then-not-look_at c =
    let first = take c.args.last c.args.self.now.clauses in
    record {
      grows = Propagates-then first c.args.literals.now c.loop-place.literals c.look_at.new.literals c.loop-place.invariant.0
          c.look_at.ensures.grows;
      looked = λ e. absurd (false≢true e);
      refuted = λ _. refuted_before first c.args.literals.now c.loop-place.literals c.loop-place.invariant.0
          (c.look_at.ensures.refuted c.if-not-look_at.true);
    }

pub loop-place-preserved : goal.loop-place-preserved
loop-place-preserved c =
    let first = take c.args.last c.args.self.now.clauses in
    let clauses = c.args.self.now.clauses in
    let now = c.loop-place.literals in
    let next = c.look_at.new.literals in (
      Propagates-then first c.args.literals.now now next c.loop-place.invariant.0 c.look_at.ensures.grows,
      λ number done from to taken. elim (cases_eq number (c.loop-place.place + 1)) [
        | inl same ↦ subst (λ n. Waits next.literals done (clause_at clauses n)) (sym same)
            (inl (c.look_at.ensures.is_open c.if-not-look_at.false (omega arith)))
        | inr apart ↦ c.look_at.ensures.grows.waiting done (clause_at clauses number) (omega (arith, taken, c.loop-place.invariant.0.longer))
            (c.loop-place.invariant.1 number done from (omega (arith, to, apart)) taken)
      ],
    )
