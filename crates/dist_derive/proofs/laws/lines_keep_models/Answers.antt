use Rattle.dist_derive.proofs.Soundness.{models_of_inputs, follows_sound}
use Rattle.dist_derive.proofs.laws.lines_keep_models.Goals as goal

pub returns : goal.returns
returns c = record {
  all = λ inputs clauses value each model. models_of_inputs value inputs clauses each model;
  what_follows = λ inputs clauses clause hints value each follows model. follows_sound value clauses clause hints follows
      (models_of_inputs value inputs clauses each model);
}
