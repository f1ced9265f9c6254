use Rattle.std.proofs.Common.{◌∙◌, [], ap, ap₂, nat_cmp, refl, sym, unwrap_or}
use Rattle.std.specs.Ordering.{is_ne}
use Rattle.dist_version.specs.Spelling.{revision_of}
use Rattle.dist_version.proofs.BetweenOrder.{after-order, extended-alike}
use Rattle.dist_version.proofs.Density.{extended}
use Rattle.dist_version.proofs.Then.{then_go_on, then_stop}
use Rattle.dist_version.proofs.Turns.{part_cmp-alike}
use Rattle.dist_version.proofs.Version.compare_after.Goals as goal

pub returns-then-is_ne : goal.returns-then-is_ne
returns-then-is_ne c =
    let text = c.args.self.now in
    let other = c.args.other.now in
    let epochs = c.cmp-order.ensures ∙ ap₂ nat_cmp (sym c.places.ensures.epoch) c.epoch.ensures in
    epochs ∙ sym (then_stop _ _ (c.if-is_ne.ensures ∙ ap is_ne epochs)) ∙ sym (after-order text other c.args.tildes c.places.ensures.sound)

pub returns-then-is_ne-2 : goal.returns-then-is_ne-2
returns-then-is_ne-2 c =
    let text = c.args.self.now in
    let other = c.args.other.now in
    let epochs = c.cmp-order.ensures ∙ ap₂ nat_cmp (sym c.places.ensures.epoch) c.epoch.ensures in
    let upstreams = c.compare_parts-order.ensures ∙ part_cmp-alike _ _ _ _ c.upstream_to_compare.ensures c.upstream_to_compare-2.ensures in
    upstreams ∙ sym (then_stop _ _ (c.if-is_ne-2.ensures ∙ ap is_ne upstreams)) ∙ sym (then_go_on _ _ (c.if-is_ne.ensures ∙ ap is_ne epochs))
    ∙ sym (after-order text other c.args.tildes c.places.ensures.sound)

pub returns : goal.returns
returns c =
    let text = c.args.self.now in
    let other = c.args.other.now in
    let n = c.args.tildes in
    let epochs = c.cmp-order.ensures ∙ ap₂ nat_cmp (sym c.places.ensures.epoch) c.epoch.ensures in
    let upstreams = c.compare_parts-order.ensures ∙ part_cmp-alike _ _ _ _ c.upstream_to_compare.ensures c.upstream_to_compare-2.ensures in
    let own = unwrap_or (revision_of text) [] in
    let its = unwrap_or (revision_of other) [] in
    let revisions = extended-alike n c.revision_to_compare.result.now own c.revision_to_compare-2.result.now c.revision_to_compare.ensures
    ∙ part_cmp-alike (extended own n) c.revision_to_compare-2.result.now (extended own n) its refl c.revision_to_compare-2.ensures in
    c.compare_extended.ensures ∙ revisions ∙ sym (then_go_on _ _ (c.if-is_ne-2.ensures ∙ ap is_ne upstreams))
    ∙ sym (then_go_on _ _ (c.if-is_ne.ensures ∙ ap is_ne epochs)) ∙ sym (after-order text other n c.places.ensures.sound)
