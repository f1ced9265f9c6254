-- What what certificates are judged by means for their lines.
use Rattle.std.specs.Prelude.{All}
use Rattle.dist_clause.specs.Formula.{IsClauseOver}
use Rattle.dist_cert.specs.Subject.{Matter}
use Rattle.dist_subject.specs.Installed.{AreModelsHealthy}

-- The input clauses are over the variables, and their models stand for the healthy installations of futures.
pub record AreInputsOf (matter : Matter) : Type 0 where
  pub over : All (IsClauseOver matter.variables) matter.inputs
  pub models : AreModelsHealthy matter
