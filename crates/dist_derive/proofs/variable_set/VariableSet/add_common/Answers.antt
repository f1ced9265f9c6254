use Rattle.std.proofs.Common.{◌≤◌, ℕ, get_or, subst, sym}
use Rattle.std.specs.List.{All, Contains}
use Rattle.std.proofs.lemmas.List.Elements.{All-get_or, All-push}
use Rattle.dist_derive.proofs.variable_set.VariableSet.add_common.Goals as goal

pub loop-variable-preserved : goal.loop-variable-preserved
loop-variable-preserved c =
    let i = c.loop-variable.variable-index in
    let v = get_or c.args.variables.now i 0 in
    let before = c.loop-variable.common.items in
    let InRange : ℕ → Type 0 = λ v. (1 ≤ v) × (v ≤ c.args.self.now.variables) in
    let here = All-get_or InRange c.args.variables.now i 0 c.loop-variable-test.true c.requires.in_range in (
      subst (All (Contains c.args.self.now.members)) (sym c.in_ok-push.ensures.items)
          (All-push (Contains c.args.self.now.members) before v c.loop-variable.invariant.0 (c.contains.ensures.0 c.if-not-contains.false)),
      subst (All InRange) (sym c.in_ok-push.ensures.items) (All-push InRange before v c.loop-variable.invariant.1 here),
    )
