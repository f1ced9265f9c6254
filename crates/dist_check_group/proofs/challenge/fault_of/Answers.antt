use Rattle.std.proofs.Common.{◌≡◌, ◌∙◌, ◌||◌, not, List, ℕ, subst, sym}
use Rattle.std.specs.List.{list_any}
use Rattle.std.proofs.lemmas.Bool.{false≢true}
use Rattle.dist_cert.specs.Rising.{is_among}
use Rattle.dist_check_group.specs.Layout.{LayoutView, at_class}
use Rattle.dist_check_group.specs.MarksPrivate.{is_marked}
use Rattle.dist_check_group.specs.FoundPrivate.{leaves_out}
use Rattle.dist_check_group.proofs.ChallengeLemmas.{covered-is, omits-from, omits-to}
use Rattle.dist_check_group.proofs.challenge.fault_of.Goals as goal

pub returns-then-is_any_covered : goal.returns-then-is_any_covered
returns-then-is_any_covered c = λ passes.
    let w = c.args.window.now in
    let claim = c.args.claim.now in
    let found = c.args.found.now in
    let undecided : List (ℕ × ℕ) = claim.undecided.now in
    let covered = subst (λ (l : LayoutView). c.is_any_covered.result
    ≡ list_any (λ pair. not (is_among found.used pair.0) || is_marked found.held (at_class l pair)) undecided) c.layout-layout.ensures
    c.is_any_covered.ensures in
    false≢true (sym passes.uncovered
    ∙ sym (covered-is w.layout w c.args.group.now.cover claim.variable claim.named.now claim.by.now undecided found c.requires)
    ∙ sym covered ∙ c.if-is_any_covered.true)

pub returns-then-omits_pair : goal.returns-then-omits_pair
returns-then-omits_pair c =
    let w = c.args.window.now in
    let claim = c.args.claim.now in
    let found = c.args.found.now in
    let undecided : List (ℕ × ℕ) = claim.undecided.now in
    let covered = subst (λ (l : LayoutView). c.is_any_covered.result
    ≡ list_any (λ pair. not (is_among found.used pair.0) || is_marked found.held (at_class l pair)) undecided) c.layout-layout.ensures
    c.is_any_covered.ensures in
    let omits = subst (λ (l : LayoutView). c.omits_pair.result ≡ list_any (leaves_out l found claim.variable) found.used) c.layout-layout.ensures
    c.omits_pair.ensures in (
      record {
        lists = c.are_pairs_right.ensures.0 c.if-not-are_pairs_right.false;
        uncovered = sym (covered-is w.layout w c.args.group.now.cover claim.variable claim.named.now claim.by.now undecided found c.requires)
            ∙ sym covered ∙ c.if-is_any_covered.false;
      },
      omits-from w.layout w c.args.group.now claim.variable claim.named.now claim.by.now undecided found c.requires (sym omits ∙ c.if-omits_pair.true),
    )

pub returns : goal.returns
returns c =
    let w = c.args.window.now in
    let claim = c.args.claim.now in
    let found = c.args.found.now in
    let undecided : List (ℕ × ℕ) = claim.undecided.now in
    let covered = subst (λ (l : LayoutView). c.is_any_covered.result
    ≡ list_any (λ pair. not (is_among found.used pair.0) || is_marked found.held (at_class l pair)) undecided) c.layout-layout.ensures
    c.is_any_covered.ensures in
    let omits = subst (λ (l : LayoutView). c.omits_pair.result ≡ list_any (leaves_out l found claim.variable) found.used) c.layout-layout.ensures
    c.omits_pair.ensures in (
      record {
        lists = c.are_pairs_right.ensures.0 c.if-not-are_pairs_right.false;
        uncovered = sym (covered-is w.layout w c.args.group.now.cover claim.variable claim.named.now claim.by.now undecided found c.requires)
            ∙ sym covered ∙ c.if-is_any_covered.false;
      },
      λ pair. false≢true (sym c.if-omits_pair.false ∙ omits
          ∙ omits-to w.layout w c.args.group.now claim.variable claim.named.now claim.by.now undecided found c.requires pair),
    )
