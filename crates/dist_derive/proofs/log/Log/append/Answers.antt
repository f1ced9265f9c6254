use Rattle.std.proofs.Common.{◌≡◌, ◌+◌, length, ap, sym, subst, arith}
use Rattle.std.proofs.lemmas.List.{length_push}
use Rattle.dist_clause.specs.ClauseList.{ClauseList}
use Rattle.dist_derive.specs.LogPrivate.{IsKept}
use Rattle.dist_derive.proofs.LogLemmas.{IsIndexed-line}
use Rattle.dist_derive.proofs.StandingLemmas.{standing_appended}
use Rattle.dist_derive.proofs.log.Log.append.Goals as goal

pub invariant_of-self : goal.invariant_of-self
invariant_of-self c =
    let inputs = c.self.inside.inputs in
    let lines = c.self.inside.lines in
    let number : c.len.result + c.len-in-Ok.result ≡ length c.self.inside.inputs.clauses + length lines.clauses + 1 =
    omega (arith, ap (λ (s : ClauseList). length s.clauses) c.in-Ok.ensures.ok, length_push lines.clauses c.args.clause.now) in
    subst (λ (more : ClauseList). IsKept inputs more c.add_next.new.self c.self.inside.watching c.self.inside.far) (sym c.in-Ok.ensures.ok)
    (record {
      indexed = IsIndexed-line c.self.inside.inputs lines c.self.inside.occurrences c.add_next.new.self c.args.clause.now (c.len.result + c.len-in-Ok.result)
          c.self.invariant.indexed number c.add_next.ensures;
      standing = standing_appended inputs.clauses lines.clauses inputs.variables c.args.clause.now c.self.inside.watching c.self.invariant.standing;
      is_far = c.self.invariant.is_far;
    })
