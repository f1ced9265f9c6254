use Rattle.std.proofs.Common.{◌≡◌, ◌/◌, ◌%◌, ◌^◌, ◌-◌, true, ℕ, List, length, replicate, set, sym, subst, arith}
use Rattle.dist_lanes.specs.BitsPrivate.{FillsPlaces}
use Rattle.dist_lanes.proofs.FillLemmas.{ones, fills-whole, fills-part}
use Rattle.dist_lanes.proofs.words.set_places.Goals as goal

pub returns-then-places-gt0 : goal.returns-then-places-gt0
returns-then-places-gt0 c =
    let filled : c.fill.new.self ≡ replicate (length c.args.words.now) ones = c.fill.ensures.after (λ y e. e) in
    subst (λ (words : List ℕ). FillsPlaces c.args.words.now (set words (c.args.places / 64) (ones / 2 ^ (64 - c.args.places % 64))) c.args.places true)
    (sym filled) (fills-part c.args.words.now c.args.places c.requires c.if-places-gt0.true)

pub returns-else-places-gt0 : goal.returns-else-places-gt0
returns-else-places-gt0 c =
    let filled : c.fill.new.self ≡ replicate (length c.args.words.now) ones = c.fill.ensures.after (λ y e. e) in
    subst (λ (words : List ℕ). FillsPlaces c.args.words.now words c.args.places true)
    (sym filled) (fills-whole c.args.words.now c.args.places c.requires (omega arith))
