use Rattle.dist_repair.proofs.OneAnswerLemmas.{exact-inputs}
use Rattle.dist_repair.proofs.inputs.repair_inputs.Goals as goal

pub returns-clause-exact : goal.returns-clause-exact
returns-clause-exact c = λ what. exact-inputs c.space_clauses_are_one.ensures c.args.space.now c.args.limits.now c.args.most c.counted_inputs.result
    c.counted_inputs.ensures.ok c.counted_inputs.ensures.err what
