use Rattle.std.proofs.lemmas.Result.{on_ok_weaker}
use Rattle.dist_space_clauses.specs.GatheringPrivate.{IsKeptOf, IsLaterOf, IsNewOf}
use Rattle.dist_space_clauses.proofs.Gathered.{gathers-both}
use Rattle.dist_space_clauses.proofs.MatchLemmas.{MatchedAnd, later-cases}
use Rattle.dist_space_clauses.proofs.matched.add_later.Goals as goal

pub returns : goal.returns
returns c =
    let s = c.args.space.now in
    let atom = c.args.atom.now in
    let P = MatchedAnd s atom (IsLaterOf c.args.member) in
    let mid = c.add_versions.new.variables.items in
    let new = c.add_kept.new.variables.items in
    on_ok_weaker c.add_kept.result
    (λ added. gathers-both s c.args.variables.now.items mid new P (MatchedAnd s atom (IsNewOf c.args.member)) (MatchedAnd s atom (IsKeptOf c.args.member)) P
    c.in_ok-add_versions.ensures added (λ m is both. later-cases s atom c.args.member m both)) c.add_kept.ensures
