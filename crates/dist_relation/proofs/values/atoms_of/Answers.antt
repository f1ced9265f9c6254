use Rattle.std.proofs.Common.{◌≡◌, ◌≤◌, length, ap, arith, ◌∷◌, ◌∙◌}
use Rattle.std.proofs.lemmas.Result.{err_from_is_err_and}
use Rattle.dist_base.specs.Ascii.{bar}
use Rattle.dist_relation.specs.declared.atom.Kind.TheVariants.{Depends}
use Rattle.dist_relation.specs.ReadingPrivate.{atom_at, alternatives_at}
use Rattle.dist_relation.proofs.Heads.{done}
use Rattle.dist_relation.proofs.Loops.{start, loop_more, loop_last, loop_fails}
use Rattle.dist_relation.proofs.ThreeKinds.{atom_shorter}
use Rattle.dist_relation.proofs.values.atoms_of.Goals as goal

pub loop-atoms-init : goal.loop-atoms-init
unfolding alternatives_at
loop-atoms-init c = rw c.in_ok-atoms.ensures.items (start bar (atom_at Depends) (atom_shorter Depends) c.args.text.now)

pub returns-in_err-atom : goal.returns-in_err-atom
returns-in_err-atom c =
    let p = err_from_is_err_and c.from_residual-in_err-atom.result c.from_residual-in_err-atom.ensures.1 in
    rw (p.1, p.2) (loop_fails bar (atom_at Depends) (atom_shorter Depends) c.in_err-atom.field-0.0 c.loop-atoms.atoms.items c.loop-atoms.text.now
    (alternatives_at c.args.text.now) c.in_err-atom.ensures c.loop-atoms.invariant)

pub loop-atoms-smaller : goal.loop-atoms-smaller
loop-atoms-smaller c =
    let less : length c.in_ok-atom.rest.now ≤ length c.loop-atoms.text.now =
    atom_shorter Depends c.loop-atoms.text.now c.in_ok-atom.atom c.in_ok-atom.rest.now c.in_ok-atom.ensures in
    let more : length c.in_ok-atom.rest.now ≡ length (bar ∷ c.in-Some.tail.now) = ap length c.in-Some.ensures in
    omega (arith, less, more)

pub loop-atoms-preserved : goal.loop-atoms-preserved
loop-atoms-preserved c =
    let read : atom_at Depends c.loop-atoms.text.now ≡ done c.in_ok-atom.atom (bar ∷ c.in-Some.tail.now) = c.in_ok-atom.ensures
    ∙ ap (done c.in_ok-atom.atom) c.in-Some.ensures in
    rw c.in_ok-push.ensures.items (loop_more bar (atom_at Depends) (atom_shorter Depends) c.loop-atoms.atoms.items c.loop-atoms.text.now c.in_ok-atom.atom
    c.in-Some.tail.now (alternatives_at c.args.text.now) read c.loop-atoms.invariant)

pub returns-in-None : goal.returns-in-None
returns-in-None c =
    rw (c.shrink_to_fit.ensures.items, c.in_ok-push.ensures.items)
    (loop_last bar (atom_at Depends) (atom_shorter Depends) c.loop-atoms.atoms.items c.loop-atoms.text.now c.in_ok-atom.atom
    c.in_ok-atom.rest.now (alternatives_at c.args.text.now) c.in_ok-atom.ensures c.in-None.ensures c.loop-atoms.invariant)
