use Rattle.std.proofs.Common.{◌≡◌, ℕ, get_or, arith}
use Rattle.std.proofs.lemmas.Option.{slice_get-get_or}
use Rattle.dist_base.specs.ListLaws.{contains-at}
use Rattle.dist_space.specs.declared.meaning.Meaning.{Meaning}
use Rattle.dist_space.specs.declared.meaning.Meaning.TheVariants.{Kept}
use Rattle.dist_space_clauses.specs.GatheringPrivate.{IsLaterOf}
use Rattle.dist_space_clauses.proofs.Gathered.{each-more, each-none, each-whole, gathers-weaker}
use Rattle.dist_space_clauses.proofs.MatchLemmas.{MatchedAnd, kept-later}
use Rattle.dist_space_clauses.proofs.matched.add_entries.Goals as goal

pub loop-place-init : goal.loop-place-init
loop-place-init c =
    let s = c.args.space.now in
    let atom = c.args.atom.now in
    let One : ℕ → Meaning → Type 0 = λ place. MatchedAnd s atom (λ m. m ≡ Kept c.args.member c.args.class place) in
    each-none s (MatchedAnd s atom (IsLaterOf c.args.member)) One c.args.places.now c.args.variables.now.items

pub add_entry-requires-clause-place : goal.add_entry-requires-clause-place
add_entry-requires-clause-place c =
    let place = get_or c.args.places.now c.loop-place.place-index 0 in
    c.requires.places place (contains-at c.args.places.now c.loop-place.place-index place
    (slice_get-get_or c.args.places.now c.loop-place.place-index 0 c.loop-place-test.true))

pub loop-place-preserved : goal.loop-place-preserved
loop-place-preserved c =
    let s = c.args.space.now in
    let atom = c.args.atom.now in
    let index = c.loop-place.place-index in
    let place = get_or c.args.places.now index 0 in
    let One : ℕ → Meaning → Type 0 = λ j. MatchedAnd s atom (λ m. m ≡ Kept c.args.member c.args.class j) in
    let P = MatchedAnd s atom (IsLaterOf c.args.member) in
    each-more s P One c.args.places.now c.args.variables.now.items c.loop-place.variables.items c.add_entry.new.variables.items index place
    (slice_get-get_or c.args.places.now index 0 c.loop-place-test.true) c.loop-place.invariant
    (gathers-weaker s c.loop-place.variables.items c.add_entry.new.variables.items (One place) P (One place) (One place)
    (λ m is both. kept-later s atom c.args.member c.args.class place m both) (λ m is both. both) c.in_ok-add_entry.ensures)

pub returns : goal.returns
returns c =
    let s = c.args.space.now in
    let atom = c.args.atom.now in
    let One : ℕ → Meaning → Type 0 = λ j. MatchedAnd s atom (λ m. m ≡ Kept c.args.member c.args.class j) in
    each-whole s (MatchedAnd s atom (IsLaterOf c.args.member)) One c.args.places.now c.args.variables.now.items c.loop-place.variables.items
    c.loop-place.place-index (omega arith) c.loop-place.invariant
