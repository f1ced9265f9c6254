use Rattle.std.proofs.Common.{◌≡◌, Some, length, ap, arith, slice_get, sym, ◌∙◌}
use borrow.Author.Count.{below_more}
use Rattle.std.proofs.lemmas.Bool.{false≢true}
use Rattle.dist_repo.specs.PackageList.{PackageList}
use Rattle.dist_future.specs.FutureHealth.{IsMissing}
use Rattle.dist_future.proofs.MissingLemmas.{missing-from, missing-least, missing-past, not-essential, not-missing}
use Rattle.dist_future.proofs.health.missing.Goals.{else-package-via-then-package+else-not-is_borne, else-package-via-else-package}
use Rattle.dist_future.proofs.health.missing.Goals as goal

pub returns-then-not-essential : goal.returns-then-not-essential
returns-then-not-essential c = λ n missing. false≢true (sym c.if-not-essential.true ∙ c.essential.ensures ∙ missing.0)

pub returns-then-not-is_borne : goal.returns-then-not-is_borne
returns-then-not-is_borne c =
    missing-least c.args.space.now c.args.members.now c.loop-number.number
    (missing-from c.args.space.now c.args.members.now c.repo-repo.ensures.flat c.loop-number.number c.package.result.now
    (ap (λ (r : PackageList). slice_get r.packages c.loop-number.number) (sym c.repo-repo.ensures.value) ∙ c.package.ensures)
    (sym c.essential.ensures ∙ c.if-not-essential.false) c.if-package.true (λ some. false≢true (sym c.if-not-is_borne.true ∙ c.is_borne.ensures.1 some)))
    c.loop-number.invariant

pub loop-number-preserved : goal.loop-number-preserved
loop-number-preserved c =
    let s = c.args.space.now in
    let number = c.loop-number.number in
    let flat = c.repo-repo.ensures.flat in
    let is : slice_get s.repository.packages number ≡ Some c.package.result.now =
    ap (λ (r : PackageList). slice_get r.packages number) (sym c.repo-repo.ensures.value) ∙ c.package.ensures in
    below_more (λ n. ¬ IsMissing s c.args.members.now n) number c.loop-number.invariant
    (λ missing. elim c.else-package.branch [
      | else-package-via-then-package+else-not-is_borne w ↦ not-missing s c.args.members.now flat number c.package.result.now is
          (w.is_borne.ensures.0 w.if-not-is_borne.false) missing
      | else-package-via-else-package w ↦ not-essential s c.args.members.now flat number c.package.result.now is w.if-package.false missing
    ])

pub returns : goal.returns
returns c =
    missing-past c.args.space.now c.args.members.now c.loop-number.number
    (let e = c.len-number-end.ensures.value in let same = ap (λ (r : PackageList). length r.packages) c.repo-repo.ensures.value in
    omega (arith, e, same, c.loop-number-test.false)) c.loop-number.invariant
