use Rattle.std.proofs.Common.{◌∙◌, ◌||◌, Bool, ap, not, sym}
use Rattle.dist_cert.specs.Rising.{is_among}
use Rattle.dist_check_group.specs.Layout.{is_package}
use Rattle.dist_check_group.specs.MarksPrivate.{is_marked}
use Rattle.dist_check_group.proofs.MarkLemmas.{wanted-told}
use Rattle.dist_check_group.proofs.RuleLemmas.{among-filter}
use Rattle.dist_check_group.proofs.held.mark_held.Goals as goal

pub returns-then-is_row-clause-told : goal.returns-then-is_row-clause-told
returns-then-is_row-clause-told c = λ v some.
    let layout = c.args.layout.now in
    let held : Bool = is_marked c.args.held.now v in
    c.in_ok-mark_wanted.ensures.marked v
    ∙ wanted-told (is_among c.args.wanted.now v) held (is_package layout v) (is_among c.args.members.now v) some
    ∙ ap (λ (b : Bool). held || b) (sym (among-filter (λ n. not (is_package layout n)) c.args.members.now v))
