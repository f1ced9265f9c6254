use Rattle.std.proofs.Common.{◌≡◌, ℕ, ◌+◌, List, length, map, arith, slice_get, subst, sym, ap}
use Rattle.std.proofs.lemmas.Result.{err_from_is_err_and}
use Rattle.dist_space.specs.Kept.{IsExtended, IsFull}
use Rattle.dist_space.specs.NumberingPrivate.{provided_by, usable_from}
use Rattle.dist_space.specs.declared.meaning.Meaning.TheVariants.{Kept}
use Rattle.dist_relation.specs.declared.atom.Provide.{Provide}
use Rattle.dist_space.proofs.ExtendLemmas.{entries-all, extend-entry, full-entry}
use Rattle.dist_space.proofs.numbering.add_entries.Goals as goal

pub returns-in_err-add_entry-clause-err : goal.returns-in_err-add_entry-clause-err
returns-in_err-add_entry-clause-err c =
    let p = err_from_is_err_and c.from_residual.result c.from_residual.ensures.1 in
    let kept = λ (j : ℕ). Kept c.args.member c.args.class j in
    let full = full-entry c.args.frame.now.repository.architecture kept c.args.limit c.args.meanings.now.items c.loop-place.meanings.items
    c.args.package.now.provides c.loop-place.place c.get.result.now _ c.get.ensures c.loop-place.invariant c.in_err-add_entry.ensures.err in
    let own : c.args.package.now.provides ≡ provided_by (slice_get c.args.frame.now.repository.packages c.args.member) =
    sym (ap provided_by c.requires.member) in
    rw (p.1, p.2) (subst (λ (xs : List Provide). IsFull c.args.limit
    (length c.args.meanings.now.items + length (map kept (usable_from c.args.frame.now.repository.architecture 0 xs))) c.in_err-add_entry.field-0.0) own
    full)

pub loop-place-preserved : goal.loop-place-preserved
loop-place-preserved c =
    extend-entry c.args.frame.now.repository.architecture (λ j. Kept c.args.member c.args.class j) c.args.limit c.args.meanings.now.items
    c.loop-place.meanings.items c.add_entry.new.meanings.items c.args.package.now.provides c.loop-place.place c.get.result.now
    c.get.ensures c.loop-place.invariant c.in_ok-add_entry.ensures.ok

pub returns-clause-ok : goal.returns-clause-ok
returns-clause-ok c =
    let kept = λ (j : ℕ). Kept c.args.member c.args.class j in
    let all = entries-all c.args.frame.now.repository.architecture kept c.args.limit c.args.meanings.now.items c.loop-place.meanings.items
    c.args.package.now.provides c.loop-place.place (omega arith) c.loop-place.invariant in
    let own : c.args.package.now.provides ≡ provided_by (slice_get c.args.frame.now.repository.packages c.args.member) =
    sym (ap provided_by c.requires.member) in
    subst (λ (xs : List Provide). IsExtended c.args.limit c.args.meanings.now.items (map kept (usable_from c.args.frame.now.repository.architecture 0 xs))
    c.loop-place.meanings.items) own all
