use Rattle.std.proofs.Common.{ℕ, List, [], ◌∷◌, ◌++◌, map, arith, ap, ◌∙◌}
use Rattle.dist_repo.specs.declared.package.Package.{Package}
use Rattle.dist_report.specs.PackageText.{label}
use Rattle.dist_report.proofs.LineLemmas.{labels-more}
use Rattle.dist_report.proofs.ToldLemmas.{take-past}
use Rattle.dist_report.proofs.labels.fill.Goals as goal

pub loop-number-init : goal.loop-number-init
loop-number-init c = c.requires

pub loop-number-preserved : goal.loop-number-preserved
loop-number-preserved c =
    let own = c.deref.ensures.value ∙ c.in_ok-print_label.ensures.text ∙ ap (λ (t : List ℕ). t ++ label c.package.result.now) c.clear.ensures.items in
    c.in_ok-push.ensures.ok ∙ ap (λ (t : List ℕ). c.loop-number.texts ++ t ∷ []) own
    ∙ labels-more c.args.repo.now.packages c.loop-number.number c.package.result.now c.loop-number.texts c.package.ensures c.loop-number.invariant

pub returns : goal.returns
returns c =
    c.loop-number.invariant ∙ ap (λ (ps : List Package). map label ps) (take-past c.args.repo.now.packages c.loop-number.number (omega (
      arith,
      c.len-number-end.ensures.value,
    )))
