use Rattle.std.proofs.Common.{List, ◌∙◌, ap, sym}
use Rattle.std.proofs.lemmas.Result.{err_from_is_err_and}
use Rattle.dist_base.specs.Ascii.{bar}
use Rattle.dist_relation.specs.declared.atom.Kind.TheVariants.{Depends}
use Rattle.dist_relation.specs.ReadingPrivate.{atom_at, alternatives_at}
use Rattle.dist_relation.specs.declared.atom.Atom.{Atom}
use Rattle.dist_relation.proofs.Heads.{done}
use Rattle.dist_relation.proofs.Loops.{first_fails, others_fail, with_others}
use Rattle.dist_relation.proofs.ThreeKinds.{atom_shorter}
use Rattle.dist_relation.proofs.values.AlternativesEntry.read_onto.Goals as goal

pub returns-in_err-first : goal.returns-in_err-first
unfolding alternatives_at
returns-in_err-first c =
    let p = err_from_is_err_and c.from_residual.result c.from_residual.ensures.1 in
    rw (p.1, p.2) (first_fails bar (atom_at Depends) (atom_shorter Depends) c.in_err-first.field-0.0 c.args.text.now c.in_err-first.ensures)

pub returns-in_err-others : goal.returns-in_err-others
unfolding alternatives_at
returns-in_err-others c =
    let p = err_from_is_err_and c.from_residual-in_err-others.result c.from_residual-in_err-others.ensures.1 in
    rw (p.1, p.2) (others_fail bar (atom_at Depends) (atom_shorter Depends) c.in_err-others.field-0.0 c.args.text.now c.in_ok-first.first c.in_ok-first.rest.now
    c.in_ok-first.ensures c.in_err-others.ensures)

pub returns : goal.returns
unfolding alternatives_at
returns c =
    let read = with_others bar (atom_at Depends) (atom_shorter Depends) c.args.text.now c.in_ok-first.first c.in_ok-first.rest.now
    (c.in_ok-others.others.items, c.in_ok-others.rest.now) c.in_ok-first.ensures c.in_ok-others.ensures in
    (c.from_atoms.result, read ∙ ap (λ (list : List Atom). done list c.in_ok-others.rest.now) (sym c.from_atoms.ensures), c.in_ok-push.ensures.items)
