use Rattle.std.proofs.Common.{◌∙◌, [], refl, sym}
use Rattle.dist_check_group.specs.Window.{has_member, kept_at}
use Rattle.dist_check_group.specs.Group.{in_each}
use Rattle.dist_check_group.proofs.RuleLemmas.{filter-all, kept-more}
use Rattle.dist_check_group.proofs.rules.keep_in_each.Goals as goal

pub loop-number-init : goal.loop-number-init
loop-number-init c = sym (filter-all (in_each c.args.window.now []) c.args.kept.now (λ q. refl))

pub loop-number-preserved : goal.loop-number-preserved
loop-number-preserved c =
    c.in_ok-keep_members.ensures
    ∙ kept-more (λ number q. has_member (kept_at c.args.window.now number) q) c.args.named.now c.args.kept.now c.loop-number.kept
    c.loop-number.number-index c.loop-number-test.true c.loop-number.invariant
