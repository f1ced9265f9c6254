use Rattle.std.proofs.Common.{◌+◌, subst, sym}
use Rattle.std.specs.Prelude.{OnOk}
use Rattle.dist_space_clauses.specs.GatheringPrivate.{IsFront}
use Rattle.dist_space_clauses.specs.GroupsPrivate.{number_of}
use Rattle.dist_space_clauses.specs.declared.groups.Group.{Group}
use Rattle.dist_space_clauses.proofs.groups.push_led.Goals as goal

pub returns-in-Classes-clause-ok : goal.returns-in-Classes-clause-ok
returns-in-Classes-clause-ok c =
    subst (λ (g : Group). OnOk c.push_one_class.result (IsFront c.args.space.now (number_of g) (c.args.variable + 1) 0 c.args.set.now
    c.push_one_class.new.set)) (sym c.in-Classes.is)
    c.push_one_class.ensures.ok

pub returns-in-Versions-clause-ok : goal.returns-in-Versions-clause-ok
returns-in-Versions-clause-ok c =
    subst (λ (g : Group). OnOk c.push_moves.result (IsFront c.args.space.now (number_of g) (c.args.variable + 1) 0 c.args.set.now
    c.push_moves.new.set)) (sym c.in-Versions.is)
    c.push_moves.ensures.ok

pub returns-in-Names-clause-ok : goal.returns-in-Names-clause-ok
returns-in-Names-clause-ok c =
    subst (λ (g : Group). OnOk c.push_one_class-in-Names.result (IsFront c.args.space.now (number_of g) (c.args.variable + 1) 0 c.args.set.now
    c.push_one_class-in-Names.new.set)) (sym c.in-Names.is)
    c.push_one_class-in-Names.ensures.ok

pub returns-in-Items-clause-ok : goal.returns-in-Items-clause-ok
returns-in-Items-clause-ok c =
    subst (λ (g : Group). OnOk c.push_items_of.result (IsFront c.args.space.now (number_of g) (c.args.variable + 1) 0 c.args.set.now
    c.push_items_of.new.set)) (sym c.in-Items.is)
    c.push_items_of.ensures.ok

pub returns-in-Conflicts-clause-ok : goal.returns-in-Conflicts-clause-ok
returns-in-Conflicts-clause-ok c =
    subst (λ (g : Group). OnOk c.push_conflicts_of.result (IsFront c.args.space.now (number_of g) (c.args.variable + 1) 0 c.args.set.now
    c.push_conflicts_of.new.set)) (sym c.in-Conflicts.is)
    c.push_conflicts_of.ensures.ok

pub returns-in-Today-clause-ok : goal.returns-in-Today-clause-ok
returns-in-Today-clause-ok c =
    subst (λ (g : Group). OnOk c.push_today.result (IsFront c.args.space.now (number_of g) (c.args.variable + 1) 0 c.args.set.now
    c.push_today.new.set)) (sym c.in-Today.is)
    c.push_today.ensures.ok
