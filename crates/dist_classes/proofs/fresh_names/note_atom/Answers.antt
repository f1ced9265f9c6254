use Rattle.std.proofs.Common.{List, ℕ, ap, nat_cmp, sym, subst, ◌∙◌}
use Rattle.std.specs.BTreeSet.{insert_key}
use Rattle.std.specs.Cmp.Lexicographic.{slice_cmp}
use Rattle.std.proofs.lemmas.Bool.{false≢true}
use Rattle.dist_classes.specs.NewNames.{IsFreshAtom}
use Rattle.dist_classes.specs.Table.{Adds}
use Rattle.dist_classes.proofs.FreshLemmas.{adds-key, fresh-noted, stale-noted}
use Rattle.dist_classes.proofs.fresh_names.note_atom.Goals as goal

pub returns-in_ok-insert : goal.returns-in_ok-insert
returns-in_ok-insert c =
    let r = c.args.repo.now in
    let atom = c.args.atom.now in
    let keys = c.args.names.now.keys in
    let Of : List (List ℕ) → Type 0 = λ new. Adds keys new (λ q. IsFreshAtom r q atom) in
    let is = c.in_ok-insert.ensures.keys ∙ ap (λ (name : List ℕ). insert_key (slice_cmp nat_cmp) keys name) c.new.ensures in
    subst Of (sym is) (fresh-noted r atom keys _ (c.is_fresh.ensures.0 c.if-is_fresh.true) (adds-key keys atom.name))

pub returns-else-is_fresh : goal.returns-else-is_fresh
returns-else-is_fresh c =
    stale-noted c.args.repo.now c.args.atom.now c.args.names.now.keys (λ fresh. false≢true (sym c.if-is_fresh.false ∙ c.is_fresh.ensures.1 fresh))
