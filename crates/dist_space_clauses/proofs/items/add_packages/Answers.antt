use Rattle.std.proofs.Common.{ℕ, get_or, arith}
use Rattle.std.proofs.lemmas.Option.{slice_get-get_or}
use Rattle.dist_space_clauses.specs.GatheringPrivate.{IsLaterOf}
use Rattle.dist_space.specs.Space.{IsMatchedBy}
use Rattle.dist_space.specs.declared.meaning.Meaning.{Meaning}
use Rattle.dist_space_clauses.proofs.Gathered.{each-more, each-none, each-whole, gathers-weaker}
use Rattle.dist_space_clauses.proofs.MatchLemmas.{MatchedAnd}
use Rattle.dist_space_clauses.proofs.items.add_packages.Goals as goal

pub add_later-requires : goal.add_later-requires
add_later-requires c = c.requires.within c.loop-number.number-index 0 c.loop-number-test.true

pub loop-number-init : goal.loop-number-init
loop-number-init c =
    let s = c.args.space.now in
    let Of : ℕ → Meaning → Type 0 = λ number. MatchedAnd s c.args.atom.now (IsLaterOf number) in
    each-none s (IsMatchedBy s c.args.atom.now) Of c.args.numbers.now c.args.variables.now.items

pub loop-number-preserved : goal.loop-number-preserved
loop-number-preserved c =
    let s = c.args.space.now in
    let Of : ℕ → Meaning → Type 0 = λ number. MatchedAnd s c.args.atom.now (IsLaterOf number) in
    let number = get_or c.args.numbers.now c.loop-number.number-index 0 in
    each-more s (IsMatchedBy s c.args.atom.now) Of c.args.numbers.now c.args.variables.now.items c.loop-number.variables.items
    c.add_later.new.variables.items c.loop-number.number-index number
    (slice_get-get_or c.args.numbers.now c.loop-number.number-index 0 c.loop-number-test.true) c.loop-number.invariant
    (gathers-weaker s c.loop-number.variables.items c.add_later.new.variables.items (Of number) (IsMatchedBy s c.args.atom.now) (Of number) (Of number)
    (λ m is both. both.1) (λ m is both. both) c.in_ok-add_later.ensures)

pub returns : goal.returns
returns c =
    let s = c.args.space.now in
    let Of : ℕ → Meaning → Type 0 = λ number. MatchedAnd s c.args.atom.now (IsLaterOf number) in
    each-whole s (IsMatchedBy s c.args.atom.now) Of c.args.numbers.now c.args.variables.now.items c.loop-number.variables.items c.loop-number.number-index
    (omega (arith, c.loop-number-test.false)) c.loop-number.invariant
