use Rattle.std.proofs.Common.{◌≡◌, length, subst, arith}
use Rattle.dist_lanes.proofs.WordsLemmas.{AndedUpTo, anded-group, Conjoins-from}
use Rattle.dist_lanes.proofs.words.and_words.Goals as goal

pub loop-group-preserved : goal.loop-group-preserved
loop-group-preserved c =
    anded-group c.args.words.now c.args.others.now c.loop-group.words c.and_lanes.new.words c.loop-group.group c.loop-group.invariant
    (omega (arith, c.loop-group.invariant.same_length)) c.requires c.and_lanes.ensures

pub returns : goal.returns
returns c =
    let end : c.loop-at.at ≡ length c.args.words.now = omega (arith, c.loop-at.invariant.same_length, c.loop-group.invariant.same_length) in
    Conjoins-from c.args.words.now c.args.others.now c.loop-at.words c.requires
    (subst (AndedUpTo c.args.words.now c.args.others.now c.loop-at.words) end c.loop-at.invariant)
