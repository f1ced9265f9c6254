use Rattle.std.proofs.Common.{ℕ, List, subst}
use Rattle.dist_space_clauses.specs.GatheringPrivate.{Adds}
use Rattle.dist_space.specs.Space.{IsMetBy}
use Rattle.dist_space_clauses.proofs.Gathered.{in-order}
use Rattle.dist_space_clauses.proofs.items.gather_meeting.Goals as goal

pub returns : goal.returns
returns c =
    let s = c.args.space.now in
    let item = c.args.alternatives.now in
    let gathered = c.add_asked.new.variables.items in
    in-order s gathered c.put_in_order.new.variables.items (IsMetBy s item) (IsMetBy s item) (λ m is met. met)
    (subst (λ (xs : List ℕ). Adds s xs gathered (IsMetBy s item)) c.clear.ensures.items c.in_ok-add_asked.ensures)
    c.put_in_order.ensures.rising c.put_in_order.ensures.same
