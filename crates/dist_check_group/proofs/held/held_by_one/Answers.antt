use Rattle.std.proofs.Common.{◌∙◌, ◌||◌, Bool, List, ℕ, ap}
use Rattle.std.specs.List.{list_any}
use Rattle.dist_cert.specs.Rising.{is_among}
use Rattle.dist_check_group.specs.Layout.{LayoutView, is_package, non_packages}
use Rattle.dist_check_group.specs.FoundPrivate.{may_ask}
use Rattle.dist_check_group.specs.MarksPrivate.{is_marked}
use Rattle.dist_check_group.specs.Window.{members_at}
use Rattle.dist_check_group.proofs.held.held_by_one.Goals as goal

pub returns : goal.returns
returns c = λ v may.
    let layout = c.args.window.now.layout in
    let holds : ℕ → Bool = λ number. is_among (non_packages layout (members_at c.args.window.now number)) v in
    let asked = c.in_ok-variables.ensures.each v
    ∙ ap (λ (l : LayoutView). may_ask l c.args.asked.now.undecided.now c.args.asked.now.clusters.now v) c.layout-layout.ensures in
    let some = ap (λ (b : Bool). b || (is_marked c.add_all.new.self v || is_package layout v))
    (ap (λ (ns : List ℕ). is_among ns v) c.in_ok-wanted.ensures ∙ asked ∙ may) in
    c.in_ok-mark_named.ensures v some
    ∙ ap (λ (b : Bool). b || list_any holds c.args.named.now)
    (c.in_ok-add_all.ensures v ∙ ap (λ (b : Bool). b || is_among c.held.result.now v) (c.in_ok-held.ensures v)
    ∙ ap (λ (xs : List ℕ). is_among xs v) c.held.ensures)
