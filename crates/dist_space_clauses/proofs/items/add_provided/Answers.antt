use Rattle.std.proofs.Common.{◌≡◌, ℕ, arith, get_or}
use Rattle.std.specs.Prelude.{Any}
use Rattle.std.proofs.lemmas.List.{get_or_default}
use Rattle.std.proofs.lemmas.Option.{slice_get-get_or}
use Rattle.dist_space_clauses.specs.GatheringPrivate.{IsPresentMatched}
use Rattle.dist_space.specs.declared.meaning.Meaning.{Meaning}
use Rattle.dist_space.specs.declared.meaning.Meaning.TheVariants.{Present}
use Rattle.dist_space_clauses.proofs.Gathered.{each-more, each-none, each-whole, gathers-weaker}
use Rattle.dist_space_clauses.proofs.PresentLemmas.{matched-within, present-of, present-provided, provider-matched}
use Rattle.dist_space_clauses.proofs.items.add_provided.Goals as goal

pub add_variable-requires : goal.add_variable-requires
add_variable-requires c =
    let s = c.args.space.now in
    let atom = c.args.atom.now in
    let providers = c.args.providers.now in
    let i = c.loop-number.number-index in
    let number = get_or providers i 0 in
    matched-within s atom number
    (provider-matched s atom providers number c.requires.unbounded c.requires.usable c.requires.providers
    (i, c.loop-number-test.true, get_or_default providers i number 0 c.loop-number-test.true))

pub loop-number-init : goal.loop-number-init
loop-number-init c =
    let s = c.args.space.now in
    let Of : ℕ → Meaning → Type 0 = λ number m. m ≡ Present number in
    each-none s (IsPresentMatched s c.args.atom.now) Of c.args.providers.now c.args.variables.now.items

pub loop-number-preserved : goal.loop-number-preserved
loop-number-preserved c =
    let s = c.args.space.now in
    let atom = c.args.atom.now in
    let providers = c.args.providers.now in
    let Of : ℕ → Meaning → Type 0 = λ number m. m ≡ Present number in
    let i = c.loop-number.number-index in
    let number = get_or providers i 0 in
    let here = provider-matched s atom providers number c.requires.unbounded c.requires.usable c.requires.providers
    (i, c.loop-number-test.true, get_or_default providers i number 0 c.loop-number-test.true) in
    each-more s (IsPresentMatched s atom) Of providers c.args.variables.now.items c.loop-number.variables.items c.add_variable.new.variables.items i number
    (slice_get-get_or providers i 0 c.loop-number-test.true) c.loop-number.invariant
    (gathers-weaker s c.loop-number.variables.items c.add_variable.new.variables.items (Of number) (IsPresentMatched s atom) (Of number) (Of number)
    (λ m is same. present-of s atom number m here same) (λ m is same. same) c.in_ok-add_variable.ensures)

pub returns : goal.returns
returns c =
    let s = c.args.space.now in
    let atom = c.args.atom.now in
    let providers = c.args.providers.now in
    let P = IsPresentMatched s atom in
    let Of : ℕ → Meaning → Type 0 = λ number m. m ≡ Present number in
    let old = c.args.variables.now.items in
    let new = c.loop-number.variables.items in
    gathers-weaker s old new P P (λ m. Any (λ number. Of number m) providers) P (λ m is here. here)
    (λ m is here. present-provided s atom providers c.requires.providers m here)
    (each-whole s P Of providers old new c.loop-number.number-index (omega (arith, c.loop-number-test.false)) c.loop-number.invariant)
