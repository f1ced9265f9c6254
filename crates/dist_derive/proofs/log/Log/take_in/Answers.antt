use Rattle.std.proofs.Common.{length, refl, ap, sym, subst, arith}
use Rattle.std.specs.List.{Contains}
use Rattle.dist_derive.proofs.GuardLemmas.{looks_false}
use Rattle.dist_derive.proofs.log.Log.take_in.Goals as goal

pub returns-in_default : goal.returns-in_default
returns-in_default c = looks_false c.args.self.now.clauses c.args.last c.requires.last c.args.number c.requires.from_one c.requires.to_last
    c.args.watches.now c.args.literals.now (λ k d within. absurd (omega (arith, within, c.in_default.ensures.cases, ap length c.clause.ensures.value)))

pub look-requires-clause-member : goal.look-requires-clause-member
look-requires-clause-member c =
    subst (λ clause. Contains clause c.in-Some.first.now) c.clause.ensures.value
    (subst (λ clause. Contains clause c.in-Some.first.now) (sym c.in-Some.ensures.cases.0) (0, omega arith, refl))
