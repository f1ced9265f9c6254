use Rattle.std.proofs.Common.{◌∙◌, ◌==◌, ◌&&◌, ◌||◌, not, Bool, List, ℕ, ap, get_or, sym}
use Rattle.std.specs.List.{list_any}
use Rattle.std.proofs.lemmas.List.{take_all}
use Rattle.dist_check_group.specs.Layout.{is_package}
use Rattle.dist_check_group.specs.MarksPrivate.{is_marked}
use Rattle.dist_check_group.proofs.MarkLemmas.{held-any, marked-more, or-none}
use Rattle.dist_check_group.proofs.held.mark_all.Goals as goal

pub loop-member-init : goal.loop-member-init
loop-member-init c = λ v. or-none (is_marked c.args.held.now v)

pub loop-member-preserved : goal.loop-member-preserved
loop-member-preserved c = λ v.
    let members : List ℕ = c.args.members.now in
    let i = c.loop-member.member-index in
    let test : ℕ → Bool = λ n. (v == n) && not (is_package c.args.layout.now n) in
    c.in_ok-mark.ensures v ∙ ap (λ (b : Bool). test (get_or members i 0) || b) (c.loop-member.invariant v)
    ∙ marked-more test members i (is_marked c.args.held.now v) c.loop-member-test.true

pub returns : goal.returns
returns c = λ v.
    let members : List ℕ = c.args.members.now in
    let before : Bool = is_marked c.args.held.now v in
    c.loop-member.invariant v
    ∙ ap (λ (ns : List ℕ). before || list_any (λ n. (v == n) && not (is_package c.args.layout.now n)) ns)
    (take_all c.loop-member.member-index members c.loop-member-test.false)
    ∙ ap (λ (b : Bool). before || b) (sym (held-any c.args.layout.now members v))
