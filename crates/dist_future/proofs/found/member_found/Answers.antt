use Rattle.std.proofs.Common.{◌≡◌, ℕ, length, ap, ◌∙◌, arith}
use Rattle.dist_space.specs.Space.{cluster_classes, member_classes}
use Rattle.dist_future.proofs.FoundLemmas.{VersionFound, member-all}
use Rattle.dist_future.proofs.Leasts.{least-more}
use Rattle.dist_future.proofs.found.member_found.Goals as goal

pub loop-class-preserved : goal.loop-class-preserved
loop-class-preserved c =
    least-more (VersionFound c.args.space.now c.args.members.now c.args.atom.now c.args.member) c.loop-class.class c.loop-class.least c.version_found.result
    c.lesser-least.result c.lesser-least.ensures c.loop-class.invariant c.version_found.ensures

pub returns : goal.returns
returns c = member-all c.args.space.now c.args.members.now c.args.atom.now c.args.member c.loop-class.class c.loop-class.least
    (let count : c.class_count-class-end.result ≡ length (member_classes c.args.space.now c.args.member) = c.class_count-class-end.ensures
    ∙ ap (λ (k : ℕ). length (cluster_classes c.args.space.now k)) c.cluster_of.ensures in
    omega (arith, count, c.loop-class-test.false))
    c.loop-class.invariant
