use Rattle.std.proofs.Common.{arith}
use Rattle.dist_future.proofs.FoundLemmas.{KeptAmong, version-all}
use Rattle.dist_future.proofs.Leasts.{least-more}
use Rattle.dist_future.proofs.found.version_found.Goals as goal

pub loop-place-preserved : goal.loop-place-preserved
loop-place-preserved c =
    least-more (KeptAmong c.args.space.now c.args.members.now c.args.atom.now c.args.member c.args.class c.args.places.now) c.loop-place.place-index
    c.loop-place.least c.entry_found.result c.lesser-least.result c.lesser-least.ensures c.loop-place.invariant c.entry_found.ensures

pub returns : goal.returns
returns c =
    version-all c.args.space.now c.args.members.now c.args.atom.now c.args.member c.args.class c.args.places.now c.requires.places c.loop-place.place-index
    c.candidate.result c.loop-place.least c.lesser.result (omega arith) c.lesser.ensures c.candidate.ensures c.loop-place.invariant
