use Rattle.std.proofs.Common.{◌∙◌, [], ap, nat_cmp, refl, sym, unwrap_or}
use Rattle.std.specs.Prelude.{codes}
use Rattle.std.specs.Ordering.{is_ne}
use Rattle.dist_version.specs.Spelling.{revision_of, upstream_of}
use Rattle.dist_version.proofs.BetweenOrder.{zero-order}
use Rattle.dist_version.proofs.Then.{then_go_on, then_stop}
use Rattle.dist_version.proofs.Turns.{part_cmp-alike}
use Rattle.dist_version.proofs.Version.compare_zero.Goals as goal

pub returns-then-is_ne : goal.returns-then-is_ne
returns-then-is_ne c =
    let other = c.args.other.now in
    let epochs = c.cmp-order.ensures ∙ ap (nat_cmp 0) c.epoch.ensures in
    epochs ∙ sym (then_stop _ _ (c.if-is_ne.ensures ∙ ap is_ne epochs)) ∙ sym (zero-order other)

pub returns-then-is_ne-2 : goal.returns-then-is_ne-2
returns-then-is_ne-2 c =
    let other = c.args.other.now in
    let epochs = c.cmp-order.ensures ∙ ap (nat_cmp 0) c.epoch.ensures in
    let upstreams = c.compare_parts-order.ensures ∙ part_cmp-alike (codes "0") c.upstream_to_compare.result.now (codes "0") (upstream_of other) refl
    c.upstream_to_compare.ensures in
    upstreams ∙ sym (then_stop _ _ (c.if-is_ne-2.ensures ∙ ap is_ne upstreams)) ∙ sym (then_go_on _ _ (c.if-is_ne.ensures ∙ ap is_ne epochs))
    ∙ sym (zero-order other)

pub returns : goal.returns
returns c =
    let other = c.args.other.now in
    let epochs = c.cmp-order.ensures ∙ ap (nat_cmp 0) c.epoch.ensures in
    let upstreams = c.compare_parts-order.ensures ∙ part_cmp-alike (codes "0") c.upstream_to_compare.result.now (codes "0") (upstream_of other) refl
    c.upstream_to_compare.ensures in
    let revisions = part_cmp-alike [] c.revision_to_compare.result.now [] (unwrap_or (revision_of other) []) refl c.revision_to_compare.ensures in
    c.compare_parts.ensures ∙ revisions ∙ sym (then_go_on _ _ (c.if-is_ne-2.ensures ∙ ap is_ne upstreams))
    ∙ sym (then_go_on _ _ (c.if-is_ne.ensures ∙ ap is_ne epochs)) ∙ sym (zero-order other)
