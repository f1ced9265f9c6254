use Rattle.std.proofs.Common.{◌≡◌, ◌∷◌, ◌++◌, ◌∙◌, [], ℕ, List, ap, arith, refl}
use Rattle.std.proofs.lemmas.Option.{slice_get_within}
use Rattle.dist_classes.specs.Table.{StandsFrom}
use Rattle.dist_classes.proofs.BoundLemmas.{found-all, found-more, found-none, next-past}
use Rattle.dist_classes.proofs.bound_table.collect_from.Goals as goal

pub loop-version-init : goal.loop-version-init
loop-version-init c =
    let table = c.args.bounds.now in
    let name = c.args.name.now in
    let start = c.args.place in
    found-none table c.requires.sorted name start c.args.found.now.items (StandsFrom table start name) c.requires.place

pub loop-version-preserved : goal.loop-version-preserved
loop-version-preserved c =
    let before = c.loop-version.found.items in
    let pushed = c.push.new.self.items in
    let more : pushed ≡ before ++ c.in-Some.version.now ∷ [] = c.in_ok-push.ensures.items ∙ ap (λ (v : List ℕ). before ++ v ∷ []) c.new.ensures in
    found-more c.args.bounds.now c.requires.sorted c.args.name.now c.in-Some.version.now c.args.place c.loop-version.place c.first_above-place.result
    c.args.found.now.items before pushed c.in-Some.ensures.some c.first_above-place.ensures more c.loop-version.invariant

pub loop-version-smaller : goal.loop-version-smaller
loop-version-smaller c =
    let past = next-past c.args.bounds.now c.requires.sorted c.args.name.now c.in-Some.version.now c.loop-version.place c.first_above-place.result
    c.in-Some.ensures.some c.first_above-place.ensures in
    let short = slice_get_within c.args.bounds.now c.loop-version.place (c.args.name.now, c.in-Some.version.now) c.in-Some.ensures.some in
    omega (arith, past, short)

pub returns : goal.returns
returns c =
    found-all c.args.bounds.now c.requires.sorted c.args.name.now c.args.place c.loop-version.place c.args.found.now.items c.loop-version.found.items
    (c.in_default.ensures.none refl) c.loop-version.invariant
