use Rattle.std.proofs.Common.{◌∙◌, List, ℕ, ap, sym}
use Rattle.std.specs.List.{list_all}
use Rattle.std.proofs.lemmas.Bool.{false≢true}
use Rattle.dist_cert.specs.Rising.{is_among}
use Rattle.dist_check_group.proofs.RuleLemmas.{always-all, omitted-any}
use Rattle.dist_check_group.proofs.rules.judge_rules.Goals as goal

pub returns-then-not-has_all : goal.returns-then-not-has_all
returns-then-not-has_all c = λ passes.
    let claim = c.args.claim.now in
    let undecided : List ℕ = claim.undecided.now in
    false≢true (sym c.if-not-has_all.true ∙ c.has_all.ensures ∙ ap (λ (xs : List ℕ). list_all (is_among xs) undecided) c.deref.ensures.value
    ∙ always-all c.args.window.now c.args.group.now c.args.packages claim.package claim.named.now claim.on.now undecided c.in_ok-found.found.items
    (c.are_lists_right.ensures.0 c.if-not-are_lists_right.false) c.in_ok-found.ensures.value
    ∙ passes.always)

pub returns-then-omits : goal.returns-then-omits
returns-then-omits c =
    let claim = c.args.claim.now in
    let w = c.args.window.now in
    let undecided : List ℕ = claim.undecided.now in (
      record {
        lists = c.are_lists_right.ensures.0 c.if-not-are_lists_right.false;
        always = sym (always-all w c.args.group.now c.args.packages claim.package claim.named.now claim.on.now undecided c.in_ok-found.found.items
            (c.are_lists_right.ensures.0 c.if-not-are_lists_right.false) c.in_ok-found.ensures.value)
            ∙ sym (ap (λ (xs : List ℕ). list_all (is_among xs) undecided) c.deref.ensures.value) ∙ sym c.has_all.ensures ∙ c.if-not-has_all.false;
      },
      sym (omitted-any w c.args.group.now claim.package claim.named.now claim.on.now undecided c.deref-2.result.now
          (c.deref-2.ensures.value ∙ c.in_ok-found.ensures.value)) ∙ sym c.omits.ensures ∙ c.if-omits.true,
    )

pub returns : goal.returns
returns c =
    let claim = c.args.claim.now in
    let w = c.args.window.now in
    let undecided : List ℕ = claim.undecided.now in (
      record {
        lists = c.are_lists_right.ensures.0 c.if-not-are_lists_right.false;
        always = sym (always-all w c.args.group.now c.args.packages claim.package claim.named.now claim.on.now undecided c.in_ok-found.found.items
            (c.are_lists_right.ensures.0 c.if-not-are_lists_right.false) c.in_ok-found.ensures.value)
            ∙ sym (ap (λ (xs : List ℕ). list_all (is_among xs) undecided) c.deref.ensures.value) ∙ sym c.has_all.ensures ∙ c.if-not-has_all.false;
      },
      sym (omitted-any w c.args.group.now claim.package claim.named.now claim.on.now undecided c.deref-2.result.now
          (c.deref-2.ensures.value ∙ c.in_ok-found.ensures.value)) ∙ sym c.omits.ensures ∙ c.if-omits.false,
    )
