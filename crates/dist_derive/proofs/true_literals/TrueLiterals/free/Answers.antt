use Rattle.std.proofs.Common.{Option, None, IfNone}
use Rattle.dist_clause.specs.Formula.{Literal}
use Rattle.dist_derive.specs.Propagation.{AllFalse, OthersFalse}
use Rattle.dist_derive.proofs.OutcomeLemmas.{all_false_with}
use Rattle.dist_derive.proofs.true_literals.TrueLiterals.free.Goals as goal

if_none : (P Q : Type 0) (r : Option Literal) → (P → Q) → IfNone r P → IfNone r Q
if_none P Q None f h = f h
if_none P Q _ f h = tt

pub returns-then-is_false-clause-none : goal.returns-then-is_false-clause-none
returns-then-is_false-clause-none c =
    let trues = c.args.self.now.literals in
    let clause = c.args.clause.now in
    if_none (OthersFalse trues clause c.args.first) (AllFalse trues clause) c.other_free.result
    (λ others. all_false_with trues clause c.args.first others (c.is_false.ensures.0 c.if-is_false.true)) c.other_free.ensures.none
