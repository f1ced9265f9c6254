use Rattle.std.proofs.Common.{◌≡◌, ℕ, arith, get_or}
use Rattle.std.specs.Prelude.{Any}
use Rattle.std.proofs.lemmas.Option.{slice_get-get_or}
use Rattle.dist_base.specs.ListLaws.{any-at}
use Rattle.dist_space.specs.declared.meaning.Meaning.{Meaning}
use Rattle.dist_space.specs.declared.meaning.Meaning.TheVariants.{Present}
use Rattle.dist_space_clauses.proofs.Gathered.{each-more, each-none, each-whole, gathers-weaker}
use Rattle.dist_space_clauses.proofs.conflicts.add_present.Goals as goal

pub add_variable-requires : goal.add_variable-requires
add_variable-requires c = c.requires c.loop-other.other-index 0 c.loop-other-test.true

pub loop-other-init : goal.loop-other-init
loop-other-init c =
    let Of : ℕ → Meaning → Type 0 = λ other m. m ≡ Present other in
    each-none c.args.space.now (λ m. Any (λ other. Of other m) c.args.others.now) Of c.args.others.now c.args.variables.now.items

pub loop-other-preserved : goal.loop-other-preserved
loop-other-preserved c =
    let others = c.args.others.now in
    let Of : ℕ → Meaning → Type 0 = λ other m. m ≡ Present other in
    let P : Meaning → Type 0 = λ m. Any (λ other. Of other m) others in
    let i = c.loop-other.other-index in
    let other = get_or others i 0 in
    let is = slice_get-get_or others i 0 c.loop-other-test.true in
    each-more c.args.space.now P Of others c.args.variables.now.items c.loop-other.variables.items c.add_variable.new.variables.items i other is
    c.loop-other.invariant
    (gathers-weaker c.args.space.now c.loop-other.variables.items c.add_variable.new.variables.items (Of other) P (Of other) (Of other)
    (λ m meaning same. any-at (λ o. Of o m) others i other is same) (λ m meaning same. same) c.in_ok-add_variable.ensures)

pub returns : goal.returns
returns c =
    let others = c.args.others.now in
    let Of : ℕ → Meaning → Type 0 = λ other m. m ≡ Present other in
    each-whole c.args.space.now (λ m. Any (λ other. Of other m) others) Of others c.args.variables.now.items c.loop-other.variables.items
    c.loop-other.other-index (omega (arith, c.loop-other-test.false)) c.loop-other.invariant
