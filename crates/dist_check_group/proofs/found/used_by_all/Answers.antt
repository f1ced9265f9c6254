use Rattle.std.proofs.Common.{◌≡◌, ◌<◌, ◌∙◌, ◌&&◌, Bool, List, ℕ, ap, filter, subst, sym}
use Rattle.std.proofs.lemmas.List.Kept.{AllPairs-filter}
use Rattle.dist_cert.specs.Rising.{AreRising, is_among}
use Rattle.dist_check_group.specs.Challenge.{use_each}
use Rattle.dist_check_group.specs.Layout.{LayoutView}
use Rattle.dist_check_group.specs.FoundPrivate.{is_asked}
use Rattle.dist_check_group.proofs.CoverLemmas.{swap-last}
use Rattle.dist_check_group.proofs.RuleLemmas.{among-filter}
use Rattle.dist_check_group.proofs.found.used_by_all.Goals as goal

pub returns-clause-rising : goal.returns-clause-rising
returns-clause-rising c =
    let w = c.args.window.now in
    let asked : ℕ → Bool = is_asked c.layout.result.now c.args.found.now c.args.variable in
    subst AreRising (sym c.in_ok-keep_used_by_each.ensures)
    (AllPairs-filter (λ a b. a < b) (use_each w.layout w c.args.named.now) c.keep_asked.new.kept.items
    (subst AreRising (sym c.keep_asked.ensures) (AllPairs-filter (λ a b. a < b) asked c.args.first.items c.requires)))

pub returns-clause-value : goal.returns-clause-value
returns-clause-value c = λ q.
    let w = c.args.window.now in
    let named : List ℕ = c.args.named.now in
    let first : List ℕ = c.args.first.items in
    let asked : LayoutView → ℕ → Bool = λ layout. is_asked layout c.args.found.now c.args.variable in
    let kept : List ℕ = c.keep_asked.new.kept.items in
    let kept_are : kept ≡ filter (asked w.layout) first = subst (λ (layout : LayoutView). kept ≡ filter (asked layout) first) c.layout.ensures
    c.keep_asked.ensures in
    ap (λ (xs : List ℕ). is_among xs q) c.in_ok-keep_used_by_each.ensures
    ∙ among-filter (use_each w.layout w named) kept q
    ∙ ap (λ (b : Bool). b && use_each w.layout w named q) (ap (λ (xs : List ℕ). is_among xs q) kept_are ∙ among-filter (asked w.layout) first q)
    ∙ swap-last (is_among first q) (asked w.layout q) (use_each w.layout w named q)
