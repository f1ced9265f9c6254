use Rattle.std.proofs.Common.{◌≡◌, ◌-◌, ◌<◌, Some, length, get_or, slice_get, ap, sym, subst, ◌∙◌, arith}
use Rattle.std.proofs.lemmas.Option.{slice_get-get_or}
use Rattle.dist_space.specs.Kept.{IsWhole}
use Rattle.dist_space.specs.Space.{SpaceView}
use Rattle.dist_space.specs.declared.meaning.Meaning.{Meaning}
use Rattle.dist_space.proofs.WholeSpace.{meaning-of}
use Rattle.dist_space.specs.VariableLaws.{variable-back}
use Rattle.dist_space.proofs.space.Space.meaning.Goals as goal

is-at : (c : goal.After-result-1) → slice_get c.args.self.now.meanings (c.args.variable - 1) ≡ Some c.index.result.now
is-at c =
    let s : SpaceView = c.args.self.now in
    let m : Meaning = c.index.result.now in
    let short : c.args.variable - 1 < length s.meanings = omega (arith, c.requires.from_one, c.requires.in_range) in
    let at : get_or s.meanings (c.args.variable - 1) m ≡ m = ap (λ (v : SpaceView). get_or v.meanings (c.args.variable - 1) m) (sym c.self.view_is)
    ∙ sym c.index.ensures in
    slice_get-get_or s.meanings (c.args.variable - 1) m short ∙ ap (λ (x : Meaning). Some x) at

pub returns-clause-back : goal.returns-clause-back
returns-clause-back c = variable-back c.args.self.now c.index.result.now c.args.variable (subst IsWhole c.self.view_is c.self.invariant.0).space
    c.requires.from_one (is-at c)

pub returns-clause-of : goal.returns-clause-of
returns-clause-of c =
    let whole = subst IsWhole c.self.view_is c.self.invariant.0 in
    meaning-of c.args.self.now c.index.result.now c.args.variable whole.space c.requires.from_one (omega (arith, c.requires.in_range, whole.stated)) (is-at c)
