use Rattle.std.proofs.Common.{◌≡◌, ◌+◌, sym, subst, arith}
use Rattle.dist_derive.specs.Follows.{IsNumberOf}
use Rattle.dist_derive.specs.OccurrencesPrivate.{OccurrenceLists, IsIndexOf}
use Rattle.dist_derive.proofs.OccurrenceLemmas.{IsIndexOf-covered}
use Rattle.dist_derive.proofs.occurrences.Occurrences.add.Goals as goal

pub returns-clause-index : goal.returns-clause-index
returns-clause-index c = λ clauses h within is.
    let first = c.in_ok-put_positive.ensures in
    let second = c.in_ok-put_literals.ensures in
    let number : IsNumberOf clauses c.args.number = (omega (arith, c.requires.next), within) in
    let index = second.extends.index clauses number (first.extends.index clauses number h) in
    let next : c.args.number ≡ c.put_literals.new.self.covered + 1 =
    omega (arith, c.requires.next, first.extends.same_covered, second.extends.same_covered) in
    subst (λ (s : OccurrenceLists). IsIndexOf (record s { covered = c.args.number }) clauses) (sym c.self.view_is)
    (IsIndexOf-covered c.put_literals.new.self clauses c.args.number c.args.clause.now index next within is c.requires.distinct
    (λ positive. second.extends.kept 0 c.args.number (first.listed positive))
    second.listed)
