use Rattle.std.proofs.Common.{inr}
use Rattle.dist_bench.proofs.Counting.{refused-bad, refused-many}
use Rattle.dist_bench.proofs.packages.repository_of.Goals as goal

pub returns-in-Err-Bad-clause-answers : goal.returns-in-Err-Bad-clause-answers
returns-in-Err-Bad-clause-answers c =
    inr (refused-bad c.packages_are_exact.ensures c.args.text.now c.in-Err-Bad.field-0 c.in-Err-Bad.field-0-0 c.in-Err-Bad.field-0-is
    c.in-Err-Bad.ensures.answers)

pub returns-in-Err-TooMany-clause-answers : goal.returns-in-Err-TooMany-clause-answers
returns-in-Err-TooMany-clause-answers c =
    inr (refused-many c.packages_are_exact.ensures c.args.text.now c.in-Err-TooMany.field-0 c.in-Err-TooMany.field-0-is c.in-Err-TooMany.ensures.answers)
