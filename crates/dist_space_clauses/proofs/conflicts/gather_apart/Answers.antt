use Rattle.std.proofs.Common.{ℕ, List, [], subst}
use Rattle.std.proofs.lemmas.Option.{slice_get_within}
use Rattle.dist_space_clauses.specs.GatheringPrivate.{Gathers, IsPartnerOf}
use Rattle.dist_space_clauses.specs.SpaceClauses.{Excludes}
use Rattle.dist_space_clauses.proofs.ConflictLemmas.{ByOwn, excluded-cases, partner-excluded}
use Rattle.dist_space_clauses.proofs.Gathered.{gathers-both, gathers-weaker, in-order}
use Rattle.dist_space_clauses.proofs.conflicts.gather_apart.Goals as goal

pub add_partners-requires-clause-number : goal.add_partners-requires-clause-number
add_partners-requires-clause-number c = slice_get_within c.args.space.now.repository.packages c.args.number c.args.package.now c.requires.package

pub returns-clause-are : goal.returns-clause-are
returns-clause-are c =
    let s = c.args.space.now in
    let number = c.args.number in
    let p = c.args.package.now in
    let Excluded = Excludes s number p in
    let Partner = IsPartnerOf s number in
    let Own = ByOwn s number p in
    let first = c.add_partners.new.variables.items in
    let second = c.add_atoms.new.variables.items in
    let partners : Gathers s [] first Partner Partner = subst (λ (xs : List ℕ). Gathers s xs first Partner Partner) c.clear.ensures.items
    c.in_ok-add_partners.ensures.adds in
    in-order s second c.put_in_order.new.variables.items Excluded Excluded (λ m is excluded. excluded)
    (gathers-both s [] first second Excluded Partner Own Excluded
    (gathers-weaker s [] first Partner Excluded Partner Partner (λ m is partner. partner-excluded s number p m c.requires.package partner)
    (λ m is partner. partner) partners)
    c.in_ok-add_atoms.ensures
    (λ m is excluded. excluded-cases s number p m c.requires.package excluded))
    c.put_in_order.ensures.rising c.put_in_order.ensures.same
