use Rattle.std.proofs.Common.{◌∙◌}
use Rattle.dist_check_group.specs.WindowPrivate.{TellsUsed}
use Rattle.dist_check_group.proofs.WindowLemmas.{added, still-kept}
use Rattle.dist_check_group.proofs.window.Window.add.Goals as goal

pub invariant_of-self-2 : goal.invariant_of-self-2
invariant_of-self-2 c = still-kept (TellsUsed c.self.inside.layout) c.self.inside.kept.items c.keep.new.kept.items c.in_ok-installation.installation
    c.self.inside.count c.in_ok-keep.ensures.ok c.self.invariant.0 c.self.invariant.2 c.in_ok-installation.ensures.used

pub returns : goal.returns
returns c = added c.self.inside.kept.items c.keep.new.kept.items c.in_ok-installation.installation c.self.inside.count c.self.inside.layout c.args.members
    c.args.self.now c.in_ok-keep.ensures.ok (c.in_ok-installation.ensures.members ∙ c.in_ok-members.ensures ∙ c.into_vec.ensures) c.self.view_is
