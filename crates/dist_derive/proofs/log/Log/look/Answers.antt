use Rattle.std.proofs.Common.{◌≤◌, ◌-◌, [], sym, subst, arith}
use Rattle.std.specs.List.{Contains}
use Rattle.std.proofs.lemmas.List.Elements.{All-contains}
use Rattle.dist_clause.specs.Formula.{Literal, IsClauseOver}
use Rattle.dist_clause.specs.ClauseList.{clause_at}
use Rattle.dist_derive.specs.Propagation.{AllFalse, OthersFalse}
use Rattle.dist_derive.proofs.GuardLemmas.{looks_true, looks_false, looks_watched, looks_unit, kept_free}
use Rattle.dist_derive.proofs.log.Log.look.Goals as goal

pub is_true-requires : goal.is_true-requires
is_true-requires c =
    let n = c.args.self.now.variables in
    let clause = clause_at c.args.self.now.clauses c.args.number in
    let over : IsClauseOver n clause = c.keeps_invariant.ensures.within.over_variables (c.args.number - 1) []
    (omega (arith, c.requires.from_one, c.requires.to_last, c.requires.last)) in
    let range = All-contains (λ (l : Literal). (1 ≤ l.variable) × (l.variable ≤ n)) clause c.args.first over.in_range c.requires.member in
    omega (arith, range.1, c.requires.same_variables)

pub returns-then-is_true : goal.returns-then-is_true
returns-then-is_true c = looks_true c.args.self.now.clauses c.args.last c.requires.last c.args.number c.requires.from_one c.requires.to_last
    c.args.watches.now c.args.literals.now c.args.first c.requires.member (c.is_true.ensures c.if-is_true.true)

pub free-requires-clause-member : goal.free-requires-clause-member
free-requires-clause-member c = subst (λ clause. Contains clause c.args.first) (sym c.clause-clause.ensures.value) c.requires.member

pub returns-in_default : goal.returns-in_default
returns-in_default c = looks_false c.args.self.now.clauses c.args.last c.requires.last c.args.number c.requires.from_one c.requires.to_last
    c.args.watches.now c.args.literals.now
    (subst (λ clause. AllFalse c.args.literals.now.literals clause) c.clause-clause.ensures.value c.in_default.ensures.none)

pub returns-in-Some-other_free : goal.returns-in-Some-other_free
returns-in-Some-other_free c =
    let clauses = c.args.self.now.clauses in
    let number = c.args.number in
    let u = c.args.watches.now in
    let v = c.watch.new.self in
    let one = c.in-Some.one in
    let other = c.in-Some-other_free.other in
    let first = subst (λ clause. Contains clause one) c.clause-clause.ensures.value c.in-Some.ensures.some.0 in
    let second = subst (λ clause. Contains clause other) c.clause-clause.ensures.value c.in-Some-other_free.ensures.some.0 in
    looks_watched clauses c.args.last c.requires.last number c.requires.from_one c.requires.to_last u v c.args.literals.now one other
    c.in-Some-other_free.ensures.some.1 c.in-Some.ensures.some.1 c.in-Some-other_free.ensures.some.2 c.in_ok-watch.ensures.pair
    (λ n from apart seen f. kept_free u v n (c.in_ok-watch.ensures.other_pairs n from apart) seen f)
    c.in_ok-watch.ensures.other_lists (c.in_ok-watch.ensures.watches clauses first second)

pub returns : goal.returns
returns c = looks_unit c.args.self.now.clauses c.args.last c.requires.last c.args.number c.requires.from_one c.requires.to_last
    c.args.watches.now c.args.literals.now c.assume.new.self c.in-Some.one c.assume.result
    (subst (λ clause. Contains clause c.in-Some.one) c.clause-clause.ensures.value c.in-Some.ensures.some.0) c.in-Some.ensures.some.1
    (subst (λ clause. OthersFalse c.args.literals.now.literals clause c.in-Some.one) c.clause-clause.ensures.value
    c.in_default-other_free.ensures.none) c.assume.ensures
