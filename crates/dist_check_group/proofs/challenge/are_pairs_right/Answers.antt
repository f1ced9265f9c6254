use Rattle.std.proofs.Common.{◌≡◌, ◌∙◌, ◌↔◌, IsTrue, List, ℕ, ap, subst, sym}
use Rattle.std.specs.List.{list_all}
use Rattle.std.proofs.lemmas.Bool.{and_parts}
use Rattle.dist_cert.specs.Rising.{is_among}
use Rattle.dist_check_group.specs.Layout.{LayoutView, at_class}
use Rattle.dist_check_group.specs.MarksPrivate.{is_marked}
use Rattle.dist_check_group.specs.FoundPrivate.{IsFoundFor}
use Rattle.dist_check_group.specs.Challenge.{ArePairsRight}
use Rattle.dist_check_group.specs.Group.{GroupView, in_each}
use Rattle.dist_check_group.proofs.ChallengeLemmas.{listed-is}
use Rattle.dist_check_group.proofs.challenge.are_pairs_right.Goals as goal

pub returns-then-are_closed : goal.returns-then-are_closed
returns-then-are_closed c =
    let layout = c.layout-layout.result.now in
    let w = c.args.window.now in
    let claim = c.args.claim.now in
    let by : List (ℕ × ℕ) = claim.by.now in
    let undecided : List (ℕ × ℕ) = claim.undecided.now in
    let found = c.args.found.now in
    let found_is = subst (λ (l : LayoutView). IsFoundFor l w c.args.group.now.cover claim.variable claim.named.now by undecided found)
    (sym c.layout-layout.ensures) c.requires in
    let has = and_parts (in_each w claim.named.now claim.variable) (is_marked found.held 1)
    (sym c.has_installations.ensures ∙ c.if-not-has_installations.false) in
    let refuted : c.together.result.now ≡ c.args.group.now.refuted.together
    = c.together.ensures ∙ ap (λ (g : GroupView). g.refuted.together) c.group.view_is in
    let open_still : c.together-then-are_closed.result.now ≡ c.args.group.now.undecided.together
    = c.together-then-are_closed.ensures ∙ ap (λ (g : GroupView). g.undecided.together) c.group.view_is in
    subst (λ (l : LayoutView). IsTrue c.are_closed-then-are_closed.result
    ↔ ArePairsRight l w c.args.group.now claim.variable claim.named.now by undecided) c.layout-layout.ensures (
      (λ is. record {
        names = has.0;
        today = sym found_is.today_is ∙ has.1;
        rising = c.are_rising_pairs.ensures.0 c.if-not-are_rising_pairs.false;
        undecided_rising = c.are_rising_pairs-else-not-are_rising_pairs.ensures.0 c.if-not-are_rising_pairs-2.false;
        apart = sym (listed-is layout w c.args.group.now.cover claim.variable claim.named.now by undecided found found_is by) ∙ sym c.is_any_undecided.ensures
            ∙ c.if-is_any_undecided.false;
        pairs = sym c.are_pairs_for.ensures ∙ c.if-not-are_pairs_for.false;
        undecided_pairs = sym c.are_pairs_for-else-not-are_pairs_for.ensures ∙ c.if-not-are_pairs_for-2.false;
        refuted = ap (λ (xs : List ℕ). list_all (λ pair. is_among xs (at_class layout pair)) by) (sym refuted) ∙ sym c.are_closed.ensures
            ∙ c.if-are_closed.true;
        open_still = ap (λ (xs : List ℕ). list_all (λ pair. is_among xs (at_class layout pair)) undecided) (sym open_still)
            ∙ sym c.are_closed-then-are_closed.ensures ∙ is;
      }),
      λ right. c.are_closed-then-are_closed.ensures
          ∙ ap (λ (xs : List ℕ). list_all (λ pair. is_among xs (at_class layout pair)) undecided) open_still ∙ right.open_still,
    )
