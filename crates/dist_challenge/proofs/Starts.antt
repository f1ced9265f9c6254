-- What the claimant keeps before the first line behind the header.
use Rattle.std.proofs.Common.{[]}
use Rattle.dist_cert.specs.declared.records.CertKind.TheVariants.{Challenged}
use Rattle.dist_space.specs.Space.{SpaceView}
use Rattle.dist_sweep.specs.Script.{Setting}
use Rattle.dist_sweep.specs.Futures.{IsOfSpace}
use Rattle.dist_challenge.specs.ChallengedPrivate.{KeepsChallenged}

-- before the first line behind the header there are no installations of which clusters are kept
pub challenged-starts : (g : Setting) (s : SpaceView) → IsOfSpace Challenged s g
    → KeepsChallenged g [] (record { space = s; uses = [] })
challenged-starts g s of_space = record { of_space = of_space; uses = tt }
