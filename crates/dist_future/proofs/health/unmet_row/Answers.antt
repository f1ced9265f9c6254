use Rattle.std.proofs.Common.{ap, slice_get, sym, ◌∙◌}
use Rattle.dist_repo.specs.PackageList.{PackageList}
use Rattle.dist_space.specs.declared.meaning.Meaning.TheVariants.{Present}
use Rattle.dist_future.proofs.FoundLemmas.{holds-from}
use Rattle.dist_future.proofs.UnmetLemmas.{no-unmet, other-unmet, unmet-row}
use Rattle.dist_future.proofs.health.unmet_row.Goals as goal

pub returns-then-not-value : goal.returns-then-not-value
returns-then-not-value c = no-unmet c.args.space.now c.args.members.now c.args.variable c.value.result c.value.ensures c.if-not-value.true

pub returns-in-Present : goal.returns-in-Present
returns-in-Present c =
    let number = c.in-Present.number in
    unmet-row c.args.space.now c.args.members.now c.args.variable number c.package-package.result.now c.unmet_item.result c.in-Present.ensures.of
    (holds-from c.args.space.now c.args.members.now (Present number) c.args.variable c.value.result c.in-Present.ensures.is_meaning
    (sym c.in-Present.ensures.back) c.value.ensures c.if-not-value.false)
    (ap (λ (r : PackageList). slice_get r.packages number) (sym c.repo.ensures.value) ∙ c.package-package.ensures) c.unmet_item.ensures

pub returns-in_default : goal.returns-in_default
returns-in_default c = other-unmet c.args.space.now c.args.members.now c.args.variable c.meaning.result c.meaning.ensures.of c.in_default.not-Present
