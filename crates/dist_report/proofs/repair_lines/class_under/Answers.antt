use Rattle.std.proofs.Common.{length, sym, ap, ◌∙◌, arith, below_more}
use Rattle.dist_clause.specs.Formula.{value_of}
use Rattle.dist_space.specs.Space.{cluster_classes, variable_of}
use Rattle.dist_space.specs.declared.meaning.Meaning.TheVariants.{At}
use Rattle.dist_report.proofs.RepairTextLemmas.{find-first, find-none}
use Rattle.dist_report.proofs.repair_lines.class_under.Goals as goal

pub returns-then-value-clause-value : goal.returns-then-value-clause-value
returns-then-value-clause-value c =
    let s = c.args.space.now in
    sym (find-first (λ k. value_of c.args.values.now (variable_of s (At c.args.cluster k))) (length (cluster_classes s c.args.cluster)) c.loop-class.class
    (omega arith) c.loop-class.invariant
    (ap (value_of c.args.values.now) (sym c.variable.ensures.value) ∙ sym c.value.ensures ∙ c.if-value.true))

pub loop-class-preserved : goal.loop-class-preserved
loop-class-preserved c = below_more _ _ c.loop-class.invariant
    (ap (value_of c.args.values.now) (sym c.variable.ensures.value) ∙ sym c.value.ensures ∙ c.if-value.false)

pub returns-clause-value : goal.returns-clause-value
returns-clause-value c =
    let s = c.args.space.now in
    sym (find-none (λ k. value_of c.args.values.now (variable_of s (At c.args.cluster k))) (length (cluster_classes s c.args.cluster))
    (λ k short. c.loop-class.invariant k (omega (arith, short))))
