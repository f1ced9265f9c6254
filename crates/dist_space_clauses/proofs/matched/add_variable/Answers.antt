use Rattle.std.proofs.Common.{◌≡◌, ℕ, List, subst, sym}
use Rattle.dist_space.specs.declared.meaning.Meaning.{Meaning}
use Rattle.dist_space_clauses.specs.GatheringPrivate.{Adds}
use Rattle.dist_space_clauses.proofs.Gathered.{gathers-from, gathers-push}
use Rattle.dist_space_clauses.proofs.matched.add_variable.Goals as goal

pub returns : goal.returns
returns c =
    let s = c.args.space.now in
    let Is : Meaning → Type 0 = λ m. m ≡ c.args.meaning in
    let mid = c.make_room.new.variables.items in
    gathers-from s c.args.variables.now.items mid c.push.new.self.items Is Is c.make_room.ensures
    (subst (λ (xs : List ℕ). Adds s mid xs Is) (sym c.in_ok-push.ensures.items)
    (gathers-push s mid c.args.meaning c.variable.result c.requires c.variable.ensures.value))
