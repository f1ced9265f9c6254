-- A log to which a line was added, or was not.
use Rattle.std.proofs.Common.{◌≡◌, ◌≤◌, List, [], ◌∷◌, ◌++◌, Result, Ok, Err, OnOk, OnErr, length, ap, ◌∙◌, arith, length-append}
use Rattle.std.proofs.lemmas.List.{take-append-le}
use Rattle.dist_outside.specs.declared.trouble.WorkError.{WorkError}
use Rattle.dist_clause.specs.Formula.{Literal}
use Rattle.dist_derive.specs.ClauseLog.{ClauseLog, inputs_of}

pub record IsGrown (old new : ClauseLog) : Type 0 where
  pub variables : new.variables ≡ old.variables
  pub inputs : inputs_of new ≡ inputs_of old
  pub more : length old.clauses ≤ length new.clauses

pub grown : (old new : ClauseLog) (clause : List Literal) (result : Result (Unit {0}) WorkError) → old.inputs ≤ length old.clauses
    → OnOk result (new ≡ record old { clauses = old.clauses ++ clause ∷ [] }) → OnErr result (new ≡ old) → IsGrown old new
grown old new clause (Ok u) within ok err = record {
  variables = ap (λ (l : ClauseLog). l.variables) ok;
  inputs = ap inputs_of ok ∙ take-append-le old.inputs old.clauses (clause ∷ []) within;
  more = omega (arith, ap (λ (l : ClauseLog). length l.clauses) ok, length-append old.clauses (clause ∷ []));
}
grown old new clause (Err error) within ok err = record {
  variables = ap (λ (l : ClauseLog). l.variables) err;
  inputs = ap inputs_of err;
  more = omega (arith, ap (λ (l : ClauseLog). length l.clauses) err);
}
