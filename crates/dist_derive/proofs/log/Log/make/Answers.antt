use Rattle.std.proofs.Common.{sym, subst}
use Rattle.dist_derive.specs.WatchesPrivate.{WatchingState, IsStanding}
use Rattle.dist_derive.proofs.log.Log.make.Goals as goal

pub returns-clause-standing : goal.returns-clause-standing
returns-clause-standing c =
    let clauses = c.args.self.now.clauses in
    subst (λ (w : WatchingState). IsStanding clauses c.args.self.now.variables w) (sym c.put.ensures)
    (subst (λ n. IsStanding clauses n c.in_ok-made.made) c.variables.ensures.value (c.in_ok-made.ensures.standing clauses))
