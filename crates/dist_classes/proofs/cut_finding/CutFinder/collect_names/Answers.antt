use Rattle.std.proofs.Common.{ℕ, List, subst}
use Rattle.dist_classes.proofs.FoundCuts.{AreCollected, collected-all, collected-more}
use Rattle.dist_classes.proofs.cut_finding.CutFinder.collect_names.Goals as goal

pub loop-key-preserved : goal.loop-key-preserved
loop-key-preserved c =
    let r = c.args.self.now in
    let top = c.args.top.now in
    let keys = c.args.names.now.keys in
    let rest = c.next.new.self in
    let a = c.args.found.now.items in
    let b = c.loop-key.found.items in
    collected-more r top keys rest c.in-Some.key.now a b c.collect_above.new.found.items
    (subst (λ (left : List (List ℕ)). AreCollected r top keys left a b) c.in-Some.ensures.steps c.loop-key.invariant) c.in_ok-collect_above.ensures

pub returns : goal.returns
returns c =
    let r = c.args.self.now in
    let top = c.args.top.now in
    let keys = c.args.names.now.keys in
    let a = c.args.found.now.items in
    let b = c.loop-key.found.items in
    collected-all r top keys a b (subst (λ (left : List (List ℕ)). AreCollected r top keys left a b) c.in-None.ensures.steps.0 c.loop-key.invariant)
