use Rattle.std.proofs.Common.{◌≡◌, Less, Equal, Greater, refl, sym, ap, ap₂, ◌∙◌, nat_cmp}
use Rattle.std.specs.Cmp.Lexicographic.{slice_cmp}
use Rattle.std.specs.Ordering.{ordering_then, ordering_reverse}
use Rattle.dist_version.specs.Order.{version_cmp}
use Rattle.dist_version.specs.OrderLaws.{version_total}
use Rattle.dist_cluster.proofs.TopLemmas.{lt-iff}
use Rattle.dist_cluster.proofs.topmost.is_higher.Goals as goal

pub returns-in-Greater : goal.returns-in-Greater
returns-in-Greater c =
    let back : version_cmp c.args.other.now c.args.version.now ≡ Less = version_total.antisymm c.args.other.now c.args.version.now
    ∙ ap ordering_reverse (sym c.in-Greater.ensures) in
    ((λ _. ap (λ o. ordering_then o (slice_cmp nat_cmp c.args.version.now c.args.other.now)) back), λ _. refl)

pub returns-in-Equal : goal.returns-in-Equal
returns-in-Equal c =
    let back : version_cmp c.args.other.now c.args.version.now ≡ Equal = version_total.antisymm c.args.other.now c.args.version.now
    ∙ ap ordering_reverse (sym c.in-Equal.ensures) in
    let texts = c.cmp.ensures ∙ ap₂ (slice_cmp nat_cmp) c.text.ensures.value c.text-in-Equal.ensures.value in
    let whole = ap (λ o. ordering_then o (slice_cmp nat_cmp c.args.version.now c.args.other.now)) back in
    lt-iff c.is_lt.result c.cmp.result _ c.is_lt.ensures (texts ∙ sym whole)

pub returns-in-Less : goal.returns-in-Less
returns-in-Less c =
    let back : version_cmp c.args.other.now c.args.version.now ≡ Greater = version_total.antisymm c.args.other.now c.args.version.now
    ∙ ap ordering_reverse (sym c.in-Less.ensures) in
    let whole = ap (λ o. ordering_then o (slice_cmp nat_cmp c.args.version.now c.args.other.now)) back in
    ((λ e. cc), λ e. let no : Greater ≡ Less = sym whole ∙ e in cc)
