use Rattle.std.proofs.Common.{ℕ, List, subst}
use Rattle.dist_repo.specs.PackageList.{IsPackageAnd}
use Rattle.dist_now.specs.GatheringPrivate.{Adds}
use Rattle.dist_now.specs.PresentClauses.{IsMetBy}
use Rattle.dist_now.proofs.NumberLemmas.{numbers-from}
use Rattle.dist_now.proofs.numbers.gather_meeting.Goals as goal

pub returns : goal.returns
returns c =
    let r = c.args.repo.now in
    let gathered = c.add_asked.new.numbers.items in
    numbers-from r (IsMetBy r.architecture c.args.alternatives.now) gathered c.put_in_order.new.numbers.items c.put_in_order.ensures.rising
    c.put_in_order.ensures.same
    (subst (λ (xs : List ℕ). Adds xs gathered (λ k. IsPackageAnd r.packages k (IsMetBy r.architecture c.args.alternatives.now))) c.clear.ensures.items
    c.in_ok-add_asked.ensures)
