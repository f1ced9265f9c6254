use Rattle.std.proofs.Common.{◌↔◌, Option, sym, subst}
use Rattle.std.specs.Prelude.{Contains}
use Rattle.dist_relation.specs.declared.atom.Bound.{Bound}
use Rattle.dist_repo.specs.Offers.{version_of, Meets}
use Rattle.dist_repo.specs.declared.offers.Offer.{Offer}
use Rattle.dist_repo.proofs.edges.meeting.Goals as goal

pub returns-in-Some : goal.returns-in-Some
returns-in-Some c =
    let Of : Option Bound → Type 0 = λ bound. (offer : Offer) → Contains c.within.result.now offer
    ↔ (Contains c.args.offers.now offer × Meets (version_of c.args.packages.now offer) bound) in
    subst Of (sym c.in-Some.is) c.within.ensures
