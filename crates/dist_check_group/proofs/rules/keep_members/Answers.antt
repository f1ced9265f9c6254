use Rattle.std.proofs.Common.{◌∙◌, ap, sym}
use Rattle.std.specs.Option.{option_copied}
use Rattle.dist_check_group.specs.Window.{kept_at}
use Rattle.dist_check_group.proofs.RuleLemmas.{none-kept}
use Rattle.dist_check_group.proofs.rules.keep_members.Goals as goal

pub returns-in-None : goal.returns-in-None
returns-in-None c =
    c.none.ensures ∙ sym (none-kept (kept_at c.args.window.now c.args.number) c.args.kept.now (sym c.get.ensures ∙ ap option_copied c.in-None.is))
