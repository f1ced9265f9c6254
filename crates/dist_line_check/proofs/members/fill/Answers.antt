use Rattle.std.proofs.Common.{◌∙◌, List, ℕ, refl, subst}
use Rattle.std.proofs.lemmas.List.{take_all}
use Rattle.dist_line_check.proofs.MemberLemmas.{AreSame, gives-listed, included-more, included-variables, none-yet}
use Rattle.dist_line_check.proofs.members.fill.Goals as goal

pub loop-variable-init : goal.loop-variable-init
loop-variable-init c = record { variables = refl; same = none-yet c.args.set.now.members c.requires.empty }

pub loop-variable-preserved : goal.loop-variable-preserved
loop-variable-preserved c =
    let i = c.loop-variable.variable-index in record {
      variables = included-variables c.loop-variable.set c.include.new.self _ c.include.result c.include.ensures ∙ c.loop-variable.invariant.variables;
      same = included-more c.loop-variable.set c.include.new.self c.args.listed.now i c.include.result c.loop-variable-test.true
          c.loop-variable.invariant.same c.include.ensures;
    }

pub returns-clause-trues : goal.returns-clause-trues
returns-clause-trues c =
    gives-listed c.loop-variable.set.members c.args.listed.now
    (subst (λ (xs : List ℕ). AreSame c.loop-variable.set.members xs) (take_all c.loop-variable.variable-index c.args.listed.now c.loop-variable-test.false)
    c.loop-variable.invariant.same)
