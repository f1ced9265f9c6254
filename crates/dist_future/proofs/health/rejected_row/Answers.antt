use Rattle.std.proofs.Common.{sym}
use Rattle.dist_space.specs.declared.meaning.Meaning.TheVariants.{Present}
use Rattle.dist_future.proofs.FoundLemmas.{holds-from}
use Rattle.dist_future.proofs.RejectedLemmas.{no-rejected, other-rejected, rejected-row}
use Rattle.dist_future.proofs.health.rejected_row.Goals as goal

pub returns-then-not-value : goal.returns-then-not-value
returns-then-not-value c = no-rejected c.args.space.now c.args.members.now c.args.variable c.value.result c.value.ensures c.if-not-value.true

pub returns-in-Present : goal.returns-in-Present
returns-in-Present c =
    let number = c.in-Present.number in
    rejected-row c.args.space.now c.args.members.now c.args.variable number c.package.result.now c.rejected.result c.in-Present.ensures.of
    (holds-from c.args.space.now c.args.members.now (Present number) c.args.variable c.value.result c.in-Present.ensures.is_meaning
    (sym c.in-Present.ensures.back) c.value.ensures c.if-not-value.false) c.package.ensures.value c.rejected.ensures

pub returns-in_default : goal.returns-in_default
returns-in_default c = other-rejected c.args.space.now c.args.members.now c.args.variable c.meaning.result c.meaning.ensures.of c.in_default.not-Present
