use Rattle.dist_base.specs.ListLaws.{within-from}
use Rattle.dist_repo.specs.Match.{Matches}
use Rattle.dist_space.specs.declared.meaning.Meaning.TheVariants.{Present}
use Rattle.dist_future.proofs.FoundLemmas.{fails-from, holds-from, none-holds, one-found}
use Rattle.dist_future.proofs.found.present_one.Goals as goal

pub variable-variable-requires : goal.variable-variable-requires
variable-variable-requires c =
    let r = c.args.space.now.repository in
    within-from (Matches r.architecture c.args.atom.now) r.packages c.args.number c.requires.matched

pub returns-then-value : goal.returns-then-value
returns-then-value c =
    let s = c.args.space.now in
    let r = s.repository in
    let is_meaning = within-from (Matches r.architecture c.args.atom.now) r.packages c.args.number c.requires.matched in
    one-found s c.args.members.now c.args.atom.now (Present c.args.number) c.variable-variable.result c.variable-variable.ensures.value
    (holds-from s c.args.members.now (Present c.args.number) c.variable-variable.result c.value.result is_meaning
    c.variable-variable.ensures.value c.value.ensures c.if-value.true) c.requires.matched

pub returns-else-value : goal.returns-else-value
returns-else-value c = λ v.
    let s = c.args.space.now in
    none-holds s c.args.members.now c.args.atom.now (Present c.args.number) v
    (fails-from s c.args.members.now (Present c.args.number) c.variable-variable.result c.value.result c.variable-variable.ensures.value c.value.ensures
    c.if-value.false)
