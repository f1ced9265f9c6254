use Rattle.std.proofs.Common.{◌∙◌, rules, sym, subst}
use Rattle.dist_cert.specs.Form.{AreFromOne, AreLiterals}
use Rattle.dist_line_write.proofs.Lines.{words-form}
use Rattle.dist_line_write.proofs.putting.derived_record.Goals as goal

pub returns-clause-form : goal.returns-clause-form
returns-clause-form c = (
  subst AreLiterals (sym (c.from_vec.ensures ∙ c.in_ok-words.ensures))
      (words-form c.args.log.now.variables c.clause-clause.result.now c.clause-clause.ensures.over_variables),
  subst AreFromOne (sym (c.from_vec-2.ensures ∙ search rules)) c.requires.hints,
)
