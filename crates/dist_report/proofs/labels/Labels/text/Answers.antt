use Rattle.std.proofs.Common.{ℕ, List, [], get_or, slice_get, arith, sym, ap, ◌∙◌}
use Rattle.std.specs.Option.{option_map_or}
use Rattle.dist_repo.specs.PackageList.{PackageList}
use Rattle.dist_report.specs.PackageText.{label}
use Rattle.dist_report.proofs.LineLemmas.{label-at, label-past}
use Rattle.dist_report.proofs.labels.Labels.text.Goals as goal

pub returns-then-place-len : goal.returns-then-place-len
returns-then-place-len c =
    let ps = c.self.inside.repo.now.packages in
    c.get.ensures ∙ ap (λ (texts : List (List ℕ)). get_or texts c.args.number []) c.self.invariant ∙ label-at ps c.args.number
    ∙ ap (λ (r : PackageList). option_map_or label (slice_get r.packages c.args.number) []) c.self.view_is

pub returns-else-place-len : goal.returns-else-place-len
returns-else-place-len c =
    let ps = c.self.inside.repo.now.packages in
    sym (label-past ps c.args.number c.self.inside.texts c.self.invariant (omega (arith, c.len.ensures, c.if-place-len.false)))
    ∙ ap (λ (r : PackageList). option_map_or label (slice_get r.packages c.args.number) []) c.self.view_is
