use Rattle.std.proofs.Common.{◌∙◌, List, ℕ, ap, filter}
use Rattle.dist_cert.specs.Rising.{is_among}
use Rattle.dist_check_group.specs.Layout.{used}
use Rattle.dist_check_group.specs.Window.{members_at}
use Rattle.dist_check_group.proofs.CoverLemmas.{filter-same}
use Rattle.dist_check_group.proofs.found.keep_used.Goals as goal

pub returns-in-Some : goal.returns-in-Some
returns-in-Some c =
    let w = c.args.window.now in
    c.keep_those_of.ensures.kept
    ∙ filter-same c.in-Some.clusters.now (used w.layout (members_at w c.args.number)) c.args.kept.now.items c.in-Some.ensures

pub returns : goal.returns
returns c =
    let w = c.args.window.now in
    let kept : List ℕ = c.args.kept.now.items in
    c.keep_common.ensures ∙ ap (λ (xs : List ℕ). filter (is_among xs) kept) c.deref.ensures.value
    ∙ filter-same c.in_ok-used.used.items (used w.layout (members_at w c.args.number)) kept c.in_ok-used.ensures.value
