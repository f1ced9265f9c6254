use Rattle.std.proofs.Common.{◌∙◌, Bool, List, ℕ, get_or, refl}
use Rattle.dist_cert.specs.Rising.{is_among}
use Rattle.dist_check_group.specs.Challenge.{use_each}
use Rattle.dist_check_group.specs.Layout.{used}
use Rattle.dist_check_group.specs.Window.{members_at}
use Rattle.dist_check_group.proofs.WindowLemmas.{all-at, kept-under}
use Rattle.dist_check_group.proofs.found.narrow_by_each.Goals as goal

pub loop-number-init : goal.loop-number-init
loop-number-init c = λ q. refl

pub loop-number-preserved : goal.loop-number-preserved
loop-number-preserved c = λ q.
    let w = c.args.window.now in
    let named : List ℕ = c.args.named.now in
    let i = c.loop-number.number-index in
    let uses : ℕ → Bool = λ number. is_among (used w.layout (members_at w number)) q in
    kept-under (is_among c.narrow_by.new.kept q) (is_among c.loop-number.kept q) (uses (get_or named i 0)) (use_each w.layout w named q)
    (all-at uses named i c.loop-number-test.true) (c.in_ok-narrow_by.ensures q)
    ∙ c.loop-number.invariant q
