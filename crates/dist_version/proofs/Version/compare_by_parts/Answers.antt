use Rattle.std.proofs.Common.{nat_cmp, sym, ap, ap₂, ◌∙◌}
use Rattle.std.specs.Ordering.{is_ne}
use Rattle.dist_version.proofs.Turns.{part_cmp-alike}
use Rattle.dist_version.proofs.Then.{then_stop, then_go_on}
use Rattle.dist_version.specs.OrderLaws.{version_cmp-parts}
use Rattle.dist_version.proofs.Version.compare_by_parts.Goals as goal

pub returns-then-is_ne : goal.returns-then-is_ne
returns-then-is_ne c =
    let epochs = c.cmp-order.ensures ∙ ap₂ nat_cmp c.epoch.ensures c.epoch-2.ensures in
    epochs ∙ sym (then_stop _ _ (c.if-is_ne.ensures ∙ ap is_ne epochs)) ∙ sym (version_cmp-parts c.args.self.now c.args.other.now)

pub returns-then-is_ne-2 : goal.returns-then-is_ne-2
returns-then-is_ne-2 c =
    let epochs = c.cmp-order.ensures ∙ ap₂ nat_cmp c.epoch.ensures c.epoch-2.ensures in
    let upstreams = c.compare_parts-order.ensures ∙ part_cmp-alike _ _ _ _ c.upstream_to_compare.ensures c.upstream_to_compare-2.ensures in
    upstreams ∙ sym (then_stop _ _ (c.if-is_ne-2.ensures ∙ ap is_ne upstreams)) ∙ sym (then_go_on _ _ (c.if-is_ne.ensures ∙ ap is_ne epochs))
    ∙ sym (version_cmp-parts c.args.self.now c.args.other.now)

pub returns : goal.returns
returns c =
    let epochs = c.cmp-order.ensures ∙ ap₂ nat_cmp c.epoch.ensures c.epoch-2.ensures in
    let upstreams = c.compare_parts-order.ensures ∙ part_cmp-alike _ _ _ _ c.upstream_to_compare.ensures c.upstream_to_compare-2.ensures in
    let revisions = part_cmp-alike _ _ _ _ c.revision_to_compare.ensures c.revision_to_compare-2.ensures in
    c.compare_parts.ensures ∙ revisions ∙ sym (then_go_on _ _ (c.if-is_ne-2.ensures ∙ ap is_ne upstreams))
    ∙ sym (then_go_on _ _ (c.if-is_ne.ensures ∙ ap is_ne epochs)) ∙ sym (version_cmp-parts c.args.self.now c.args.other.now)
