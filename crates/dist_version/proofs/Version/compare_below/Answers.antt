use Rattle.std.proofs.Common.{◌∙◌, ◌≡◌, ◌+◌, [], List, ℕ, Ordering, ap, length, nat_cmp, refl, sym, unwrap_or}
use Rattle.std.specs.Prelude.{replicate}
use Rattle.std.specs.Ordering.{is_ne, ordering_then}
use Rattle.dist_base.specs.Ascii.{tilde}
use Rattle.dist_version.specs.Between.{below_text}
use Rattle.dist_version.specs.Order.{after_turn, number_of, part_cmp}
use Rattle.dist_version.specs.Spelling.{revision_of, upstream_of}
use Rattle.dist_version.proofs.BetweenOrder.{below-order, tildes-order}
use Rattle.dist_version.proofs.Then.{then_go_on, then_stop}
use Rattle.dist_version.proofs.Turns.{part_cmp-alike}
use Rattle.dist_version.proofs.Version.compare_below.Goals as goal

pub returns-then-is_ne : goal.returns-then-is_ne
returns-then-is_ne c =
    let text = c.args.self.now in
    let other = c.args.other.now in
    let epochs = c.cmp-order.ensures ∙ ap (nat_cmp 0) c.epoch.ensures in
    epochs ∙ sym (then_stop _ _ (c.if-is_ne.ensures ∙ ap is_ne epochs)) ∙ sym (below-order text other)

pub returns-then-is_ne-2 : goal.returns-then-is_ne-2
returns-then-is_ne-2 c =
    let text = c.args.self.now in
    let other = c.args.other.now in
    let epochs = c.cmp-order.ensures ∙ ap (nat_cmp 0) c.epoch.ensures in
    let u = c.upstream_to_compare-upstream.result.now in
    let tildes : replicate (length c.text.result.now + 1) tilde ≡ below_text text = ap (λ (s : List ℕ). replicate (length s + 1) tilde) c.text.ensures.value in
    let upstreams = c.compare_alone-order.ensures
    ∙ ap (λ (o : Ordering). ordering_then o (ordering_then (nat_cmp 0 (number_of u)) (part_cmp [] (after_turn u)))) c.compare_tildes.ensures
    ∙ sym (tildes-order (length c.text.result.now + 1) u) ∙ ap (λ (s : List ℕ). part_cmp s u) tildes
    ∙ part_cmp-alike (below_text text) u (below_text text) (upstream_of other) refl c.upstream_to_compare-upstream.ensures in
    upstreams ∙ sym (then_stop _ _ (c.if-is_ne-2.ensures ∙ ap is_ne upstreams)) ∙ sym (then_go_on _ _ (c.if-is_ne.ensures ∙ ap is_ne epochs))
    ∙ sym (below-order text other)

pub returns : goal.returns
returns c =
    let text = c.args.self.now in
    let other = c.args.other.now in
    let epochs = c.cmp-order.ensures ∙ ap (nat_cmp 0) c.epoch.ensures in
    let u = c.upstream_to_compare-upstream.result.now in
    let tildes : replicate (length c.text.result.now + 1) tilde ≡ below_text text = ap (λ (s : List ℕ). replicate (length s + 1) tilde) c.text.ensures.value in
    let upstreams = c.compare_alone-order.ensures
    ∙ ap (λ (o : Ordering). ordering_then o (ordering_then (nat_cmp 0 (number_of u)) (part_cmp [] (after_turn u)))) c.compare_tildes.ensures
    ∙ sym (tildes-order (length c.text.result.now + 1) u) ∙ ap (λ (s : List ℕ). part_cmp s u) tildes
    ∙ part_cmp-alike (below_text text) u (below_text text) (upstream_of other) refl c.upstream_to_compare-upstream.ensures in
    let revisions = part_cmp-alike [] c.revision_to_compare.result.now [] (unwrap_or (revision_of other) []) refl c.revision_to_compare.ensures in
    c.compare_parts.ensures ∙ revisions ∙ sym (then_go_on _ _ (c.if-is_ne-2.ensures ∙ ap is_ne upstreams))
    ∙ sym (then_go_on _ _ (c.if-is_ne.ensures ∙ ap is_ne epochs)) ∙ sym (below-order text other)
