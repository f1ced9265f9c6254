use Rattle.std.proofs.Common.{◌∙◌, [], refl, sym}
use Rattle.dist_cert.specs.Rising.{is_among}
use Rattle.dist_check_group.specs.Layout.{used}
use Rattle.dist_check_group.specs.Window.{members_at}
use Rattle.dist_check_group.specs.Challenge.{use_each}
use Rattle.dist_check_group.proofs.RuleLemmas.{filter-all, kept-more}
use Rattle.dist_check_group.proofs.found.keep_used_by_each.Goals as goal

pub loop-number-init : goal.loop-number-init
loop-number-init c = sym (filter-all (use_each c.args.window.now.layout c.args.window.now []) c.args.kept.now.items (λ q. refl))

pub loop-number-preserved : goal.loop-number-preserved
loop-number-preserved c =
    c.in_ok-keep_used.ensures
    ∙ kept-more (λ number q. is_among (used c.args.window.now.layout (members_at c.args.window.now number)) q) c.args.named.now c.args.kept.now.items
    c.loop-number.kept.items c.loop-number.number-index c.loop-number-test.true c.loop-number.invariant
