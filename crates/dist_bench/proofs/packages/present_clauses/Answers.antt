use Rattle.std.proofs.Common.{⊎_elim}
use Rattle.dist_base.specs.declared.TheConstants.{MAX_CLAUSES, MAX_LITERALS}
use Rattle.dist_clause.specs.declared.clause_set.PushError.TheVariants.{TooManyClauses, TooManyLiterals, NoMemory}
use Rattle.dist_now.specs.PresentSet.{PassesClauses, PassesLiterals}
use Rattle.dist_bench.proofs.Limits.{without-cause}
use Rattle.dist_bench.proofs.packages.present_clauses.Goals as goal

pub returns-in-Ok-clause-answers : goal.returns-in-Ok-clause-answers
returns-in-Ok-clause-answers c = record {
  are = c.in-Ok.ensures.ok.clauses;
  within = λ passes. ⊎_elim
      (without-cause c.in-Ok.set NoMemory TooManyClauses (PassesClauses c.args.repository.now c.args.essential MAX_CLAUSES MAX_LITERALS)
      c.in-Ok.ensures.too_many_clauses)
      (without-cause c.in-Ok.set NoMemory TooManyLiterals (PassesLiterals c.args.repository.now c.args.essential MAX_CLAUSES MAX_LITERALS)
      c.in-Ok.ensures.too_many_literals)
      passes;
}
