use Rattle.std.proofs.Common.{◌≡◌, Bool, false, ℕ, List, length, replicate, sym, subst}
use Rattle.dist_lanes.specs.BitsPrivate.{FillsPlaces}
use Rattle.dist_lanes.proofs.FillLemmas.{fills-false}
use Rattle.dist_lanes.proofs.words.fill.Goals as goal

pub returns-then-value : goal.returns-then-value
returns-then-value c =
    subst (λ (value : Bool). FillsPlaces c.args.words.now c.set_places.new.words c.args.places value) (sym c.if-value.true) c.set_places.ensures

pub returns-else-value : goal.returns-else-value
returns-else-value c =
    let filled : c.fill.new.self ≡ replicate (length c.args.words.now) 0 = c.fill.ensures.after (λ y e. e) in
    subst (λ (value : Bool). FillsPlaces c.args.words.now c.fill.new.self c.args.places value) (sym c.if-value.false)
    (subst (λ (words : List ℕ). FillsPlaces c.args.words.now words c.args.places false) (sym filled)
    (fills-false c.args.words.now c.args.places))
