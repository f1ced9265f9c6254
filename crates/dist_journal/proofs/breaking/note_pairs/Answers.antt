use Rattle.std.proofs.Common.{◌≡◌, ℕ, arith, length, subst}
use Rattle.dist_journal.specs.BreakingPrivate.{IsNotedUpTo}
use Rattle.dist_journal.specs.PairsPrivate.{Adds}
use Rattle.dist_journal.proofs.BreakingLemmas.{none-noted, pairs-noted}
use Rattle.dist_journal.proofs.breaking.note_pairs.Goals as goal

pub loop-place-init : goal.loop-place-init
loop-place-init c = none-noted c.args.moved.now c.args.number c.args.pairs.now c.args.found.now.keys

pub loop-place-preserved : goal.loop-place-preserved
loop-place-preserved c =
    pairs-noted c.args.moved.now c.args.number c.args.pairs.now c.args.found.now.keys c.loop-place.found.keys c.note_pair.new.found.keys
    c.loop-place.place c.get.result c.get.ensures c.loop-place.invariant c.in_ok-note_pair.ensures

pub returns : goal.returns
returns c =
    let all : c.loop-place.place ≡ length c.args.pairs.now = omega arith in
    subst (λ (n : ℕ). Adds c.args.found.now.keys c.loop-place.found.keys (IsNotedUpTo c.args.moved.now c.args.number c.args.pairs.now n)) all
    c.loop-place.invariant
