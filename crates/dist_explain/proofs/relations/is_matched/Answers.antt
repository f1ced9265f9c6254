use Rattle.dist_base.specs.ListLaws.{at-has, has-at}
use Rattle.dist_repo.specs.Match.{Matches}
use Rattle.dist_explain.proofs.relations.is_matched.Goals as goal

pub returns : goal.returns
returns c =
    let r = c.args.repo.now in
    let n = c.args.number in
    let Of = Matches r.architecture c.args.atom.now in (
      (λ is. has-at Of r.packages n c.args.«package».now c.requires ((c.matched-offers.ensures n).0 (c.is_among.ensures.0 is))),
      λ matches. c.is_among.ensures.1 ((c.matched-offers.ensures n).1 (at-has Of r.packages n c.args.«package».now c.requires matches)),
    )
