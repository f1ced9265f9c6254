use Rattle.std.proofs.Common.{◌≡◌, ◌∙◌, ◌||◌, [], true, List, Option, ℕ, ap, subst, unwrap_or}
use Rattle.dist_cert.specs.Rising.{is_among}
use Rattle.dist_check_group.specs.Layout.{LayoutView, non_packages}
use Rattle.dist_check_group.specs.Window.{members_at}
use Rattle.dist_check_group.specs.MarksPrivate.{is_marked}
use Rattle.dist_check_group.specs.FoundPrivate.{is_wanted}
use Rattle.dist_check_group.proofs.held.mark_number.Goals as goal

pub returns-clause-told : goal.returns-clause-told
returns-clause-told c =
    let w = c.args.window.now in
    let held = c.args.held.now in
    subst (λ (l : LayoutView). (v : ℕ) → is_wanted l c.args.wanted.now held v ≡ true
    → is_marked c.mark_held.new.held v ≡ (is_marked held v || is_among (non_packages l (members_at w c.args.number)) v)) c.layout.ensures
    (λ v some. c.in_ok-mark_held.ensures.told v some
    ∙ ap (λ (ms : Option (List ℕ)). is_marked held v || is_among (non_packages c.layout.result.now (unwrap_or ms [])) v) c.in-Some.ensures)

pub returns-clause-still : goal.returns-clause-still
returns-clause-still c =
    subst (λ (l : LayoutView). (v : ℕ) → is_wanted l c.args.wanted.now c.args.held.now v ≡ true
    → is_wanted l c.mark_held.new.wanted c.mark_held.new.held v ≡ true) c.layout.ensures c.in_ok-mark_held.ensures.still
