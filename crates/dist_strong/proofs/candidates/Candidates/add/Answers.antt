use Rattle.std.proofs.Common.{◌∙◌, ◌&&◌, Bool, List, ℕ, ap, arith, length, subst, sym}
use Rattle.dist_clause.specs.Formula.{value_of}
use Rattle.dist_strong.specs.Candidates.{AreCandidates}
use Rattle.dist_strong.specs.Group.{GroupView}
use Rattle.dist_sweep.specs.Window.{HasEach, WindowView, added}
use Rattle.dist_strong.proofs.CandidateSteps.{narrowed-by}
use Rattle.dist_strong.proofs.candidates.Candidates.add.Goals as goal

pub returns-else-afresh-clause-candidates : goal.returns-else-afresh-clause-candidates
returns-else-afresh-clause-candidates c =
    let w : WindowView = c.args.window.now in
    let group : GroupView = c.args.group.now in
    let values : List Bool = c.args.values in
    let same = c.self.view_is in
    let sizes = ap (λ (xs : List Bool). length xs) same in
    subst (λ (v : WindowView). AreCandidates v c.add.new.self c.and_into.new.target) (sym c.in_ok-add.ensures)
    (narrowed-by w group c.add.new.self c.args.self.now c.and_into.new.target values c.add.ensures.rest c.add.ensures.both
    (c.and_into.ensures.same ∙ sizes ∙ c.requires.candidates.size)
    (λ v from upto. c.and_into.ensures.both v from (omega (arith, upto, sizes)) ∙ ap (λ (xs : List Bool). value_of xs v && value_of values v) same)
    (λ q each. subst (λ (p : ℕ). HasEach w p q) c.claimed.ensures
    (c.gives_up-afresh.ensures c.if-afresh.false values q (subst (λ (p : ℕ). HasEach (added w values) p q) (sym c.claimed.ensures) each)))
    c.requires.has c.requires.candidates)
