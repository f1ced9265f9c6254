use Rattle.std.proofs.Common.{◌≡◌, List, [], ℕ, subst, sym}
use Rattle.std.proofs.lemmas.Bool.{eqb-true}
use Rattle.std.proofs.lemmas.List.{nil_from_length}
use Rattle.dist_bench.proofs.LinesRead.{VersionsSoFar, versions-none, versions-more, versions-all}
use Rattle.dist_bench.proofs.versions.read_lines.Goals as goal

pub loop-rest-init : goal.loop-rest-init
loop-rest-init c = versions-none c.args.text.now _ c.new-versions.ensures.items

pub loop-rest-preserved : goal.loop-rest-preserved
loop-rest-preserved c = versions-more _ _ _ _ _ _ c.loop-rest.invariant c.split_line.ensures.lines c.in_ok-add_line.ensures

pub returns : goal.returns
returns c =
    let end : c.loop-rest.rest.now ≡ [] = nil_from_length c.loop-rest.rest.now (eqb-true _ _ (sym c.loop-rest-test.ensures)) in
    versions-all _ _ (subst (λ (rest : List ℕ). VersionsSoFar c.args.text.now rest c.loop-rest.versions.items) end c.loop-rest.invariant)
