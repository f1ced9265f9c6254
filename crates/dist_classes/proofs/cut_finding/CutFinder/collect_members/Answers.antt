use Rattle.std.proofs.lemmas.Result.{on_ok_weaker}
use Rattle.dist_classes.proofs.FoundCuts.{members-all}
use Rattle.dist_classes.proofs.cut_finding.CutFinder.collect_members.Goals as goal

pub returns : goal.returns
returns c =
    on_ok_weaker c.collect_names-collected.result (members-all c.args.self.now c.args.members.now c.args.top.now c.in_ok-names.names.keys c.args.found.now.items
    c.collect_names-collected.new.found.items c.in_ok-names.ensures) c.collect_names-collected.ensures
