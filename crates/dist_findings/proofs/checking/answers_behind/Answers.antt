use Rattle.dist_findings.proofs.checking.answers_behind.Goals as goal

pub check_lines-requires-clause-begun : goal.check_lines-requires-clause-begun
check_lines-requires-clause-begun g c = (c.args.limits.now, c.args.begun.numbers.items, c.requires.start)

pub returns-in-Ok-clause-text : goal.returns-in-Ok-clause-text
returns-in-Ok-clause-text g c = λ told x. c.in-Ok.ensures.text c.args.limits.now told c.args.begun.numbers.items x

pub returns-in-Ok-clause-some : goal.returns-in-Ok-clause-some
returns-in-Ok-clause-some g c = c.in-Ok.ensures.some c.args.limits.now c.args.begun.numbers.items c.requires.start

pub returns-in-Err-clause-text : goal.returns-in-Err-clause-text
returns-in-Err-clause-text g c = λ told x. c.in-Err.ensures.text c.args.limits.now told c.args.begun.numbers.items x

pub returns-in-Err-clause-some : goal.returns-in-Err-clause-some
returns-in-Err-clause-some g c = c.in-Err.ensures.some c.args.limits.now c.args.begun.numbers.items c.requires.start
