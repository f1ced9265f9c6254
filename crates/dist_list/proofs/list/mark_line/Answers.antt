use Rattle.std.proofs.Common.{arith}
use Rattle.dist_list.proofs.Lists.{IsLine-within, Marks-one}
use Rattle.dist_list.proofs.list.mark_line.Goals as goal

pub overflow_add-number : goal.overflow_add-number
overflow_add-number c =
    let within = IsLine-within c.args.repository.now.packages c.args.line.now c.in_ok-read_line.field-0 c.in-Package.number c.in_ok-read_line.ensures
    c.in-Package.is in
    omega (arith, within, c.keeps_invariant.ensures.few)

pub set-requires-clause-in_range : goal.set-requires-clause-in_range
set-requires-clause-in_range c =
    let within = IsLine-within c.args.repository.now.packages c.args.line.now c.in_ok-read_line.field-0 c.in-Package.number c.in_ok-read_line.ensures
    c.in-Package.is in
    omega (arith, within, c.requires)

pub returns-in-Package : goal.returns-in-Package
returns-in-Package c =
    Marks-one c.args.repository.now.packages c.args.line.now c.in_ok-read_line.field-0 c.in-Package.number c.args.members.now c.set.new.self
    c.in_ok-read_line.ensures c.in-Package.is c.requires c.set.ensures
