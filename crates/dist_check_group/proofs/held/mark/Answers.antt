use Rattle.std.proofs.Common.{◌∙◌, sym}
use Rattle.dist_check_group.specs.MarksPrivate.{is_marked}
use Rattle.dist_check_group.proofs.MarkLemmas.{is-held, not-held}
use Rattle.dist_check_group.proofs.held.mark.Goals as goal

pub returns-then-is_package : goal.returns-then-is_package
returns-then-is_package c = λ v.
    not-held c.args.layout.now c.args.member v (is_marked c.args.held.now v) (sym c.is_package.ensures ∙ c.if-is_package.true)

pub returns : goal.returns
returns c = λ v.
    c.in_ok-add.ensures v ∙ is-held c.args.layout.now c.args.member v (is_marked c.args.held.now v) (sym c.is_package.ensures ∙ c.if-is_package.false)
