use Rattle.std.proofs.Common.{◌≡◌, ℕ, List, true, false, Ordering, Less, Equal, Greater, Some, refl, sym, ap, ◌∙◌, nat_cmp}
use Rattle.std.specs.Cmp.Lexicographic.{slice_cmp}
use Rattle.std.specs.Ordering.{is_ne}
use Rattle.std.proofs.lemmas.Cmp.{nat_list_cmp_total, tied_itself}
use Rattle.dist_base.specs.ListLaws.{same-at}
use Rattle.dist_classes.specs.Table.{Entry}
use Rattle.dist_classes.proofs.BoundLemmas.{entry-there}
use Rattle.dist_classes.proofs.FreshLemmas.{same_names}
use Rattle.dist_classes.proofs.bound_table.version_at.Goals as goal

pub returns-then-is_ne-clause-none : goal.returns-then-is_ne-clause-none
returns-then-is_ne-clause-none c = λ _ v other.
    let bounds = c.args.bounds.now in
    let place = c.args.place in
    let name = c.args.name.now in
    let at = c.in_ok-bound.ensures.lookup.3 in
    let b : Entry = c.in_ok-bound.bound.now in
    let own : Entry = (c.bound.inside.name, c.bound.inside.version) in
    let same : own ≡ (name, v) = c.bound.view_is ∙ same-at bounds place b (name, v) (entry-there bounds place b at.0 at.1) other in
    let tied = ap (λ (x : List ℕ). slice_cmp nat_cmp x name) (ap (λ (x : Entry). x.0) same) ∙ tied_itself nat_list_cmp_total name in
    let no : true ≡ false = c.if-is_ne.ensures ∙ ap is_ne (c.cmp.ensures ∙ tied) in
    cc

tied-from : (order : Ordering) → false ≡ is_ne order → order ≡ Equal
tied-from Less is = cc
tied-from Equal is = refl
tied-from Greater is = cc

pub returns-clause-some : goal.returns-clause-some
returns-clause-some c =
    let bounds = c.args.bounds.now in
    let place = c.args.place in
    let name = c.args.name.now in
    let at = c.in_ok-bound.ensures.lookup.3 in
    let own : Entry = (c.bound.inside.name, c.bound.inside.version) in
    let b : Entry = c.in_ok-bound.bound.now in
    let named : own.0 ≡ name = same_names own.0 name (sym c.cmp.ensures ∙ tied-from c.cmp.result c.if-is_ne.ensures) in
    entry-there bounds place b at.0 at.1 ∙ ap (λ (x : Entry). Some x) (sym c.bound.view_is)
    ∙ ap (λ (q : List ℕ). Some (q, own.1)) named ∙ ap (λ (v : List ℕ). Some (name, v)) (sym c.version.ensures)
