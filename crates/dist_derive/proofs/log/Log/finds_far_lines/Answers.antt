use Rattle.std.proofs.Common.{◌∙◌, ◌≤◌, ℕ, sym, subst, take}
use Rattle.std.specs.List.{All}
use Rattle.dist_derive.specs.FarPrivate.{IsFar}
use Rattle.dist_derive.proofs.log.Log.finds_far_lines.Goals as goal

pub returns-then-not-has_far-clause-far : goal.returns-then-not-has_far-clause-far
returns-then-not-has_far-clause-far c = c.has_far.ensures.far (take c.args.inputs c.args.self.now.clauses) c.requires.far

pub narrow-requires-clause-same_variables : goal.narrow-requires-clause-same_variables
narrow-requires-clause-same_variables c =
    (c.has_far.ensures.far (take c.args.inputs c.args.self.now.clauses) c.requires.far (c.has_far.ensures.made c.if-not-has_far.false)).same_variables
    ∙ sym c.requires.same_variables

pub narrow-requires-clause-in_range : goal.narrow-requires-clause-in_range
narrow-requires-clause-in_range c =
    subst (λ (n : ℕ). All (λ v. (1 ≤ v) × (v ≤ n)) c.has_far.new.far.starts) (sym c.requires.same_variables)
    (c.has_far.ensures.far (take c.args.inputs c.args.self.now.clauses) c.requires.far (c.has_far.ensures.made c.if-not-has_far.false)).in_range

pub finds_behind-requires-clause-far : goal.finds_behind-requires-clause-far
finds_behind-requires-clause-far c =
    let inputs = take c.args.inputs c.args.self.now.clauses in
    let is_far = c.has_far.ensures.far inputs c.requires.far (c.has_far.ensures.made c.if-not-has_far.false) in
    subst (λ (n : ℕ). IsFar inputs n c.narrow.new.self) c.requires.same_variables (c.narrow.ensures.far inputs
    (subst (λ (n : ℕ). IsFar inputs n c.has_far.new.far) (sym c.requires.same_variables) is_far))

pub finds_behind-requires-2-clause-far : goal.finds_behind-requires-2-clause-far
finds_behind-requires-2-clause-far c =
    let inputs = take c.args.inputs c.args.self.now.clauses in
    subst (λ (n : ℕ). IsFar inputs n c.begin.new.self) c.requires.same_variables (c.begin.ensures.far inputs)
