use Rattle.std.proofs.Common.{List, ℕ}
use Rattle.dist_cert.specs.Rising.{is_among}
use Rattle.dist_check_group.specs.Layout.{used}
use Rattle.dist_check_group.specs.Window.{members_at}
use Rattle.dist_check_group.proofs.WindowLemmas.{kept-by}
use Rattle.dist_check_group.proofs.found.narrow_by.Goals as goal

pub returns-in_ok-narrow-in-Some : goal.returns-in_ok-narrow-in-Some
returns-in_ok-narrow-in-Some c = λ q.
    let uses : List ℕ = used c.args.window.now.layout (members_at c.args.window.now c.args.number) in
    kept-by c.in-Some.clusters.now c.args.kept.now c.narrow.new.self q (is_among uses q) c.in_ok-narrow-in-Some.ensures (c.in-Some.ensures q)
