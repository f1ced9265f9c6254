use Rattle.std.proofs.Common.{◌≡◌, ◌∙◌, ap, sym, subst, arith}
use Rattle.dist_judge.specs.Causes.{IsLarge}
use Rattle.dist_repair.specs.Counters.{Counter, counted_variables, counter_of}
use Rattle.dist_repair.specs.RepairFiles.{PassesWith}
use Rattle.dist_repair.proofs.InputsLemmas.{clauses-large, variables-large}
use Rattle.dist_repair.proofs.inputs.counted_inputs.Goals as goal

pub returns-then-variables-from-clause-err : goal.returns-then-variables-from-clause-err
returns-then-variables-from-clause-err c =
    let all : c.variables.result ≡ counted_variables (counter_of c.args.space.now c.args.most) =
    c.variables.ensures ∙ ap (λ (t : Counter). counted_variables t) c.of.ensures in
    let limit = c.from.ensures in
    let more = c.if-variables-from.true in
    variables-large c.space_clauses_are_there.ensures c.args.space.now c.keeps_invariant.ensures.space c.args.most c.args.limits.now
    (omega (arith, all, limit, more))

pub returns-in-Err-clause-err : goal.returns-in-Err-clause-err
returns-in-Err-clause-err c =
    let all : c.variables.result ≡ counted_variables (counter_of c.args.space.now c.args.most) =
    c.variables.ensures ∙ ap (λ (t : Counter). counted_variables t) c.of.ensures in
    let limit = c.from.ensures in
    let kept = c.if-variables-from.false in
    subst (IsLarge (PassesWith c.args.space.now c.args.most c.args.limits.now)) (sym c.too_large.ensures)
    (clauses-large c.space_clauses_are_there.ensures c.space_clauses_go_on.ensures c.args.space.now c.keeps_invariant.ensures.space c.args.most
    c.args.limits.now (omega (arith, all, limit, kept)) c.clauses_of.result c.in-Err.error c.in-Err.is c.clauses_of.ensures.too_many_clauses
    c.clauses_of.ensures.too_many_literals)
