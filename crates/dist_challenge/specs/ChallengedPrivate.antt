-- Serves private contracts: what is kept between claims on challenged packages.
use Rattle.std.specs.Prelude.{List}
use Rattle.circular_buffer.specs.Buffer.{keep_last}
use Rattle.dist_cert.specs.declared.TheConstants.{REACH}
use Rattle.dist_cert.specs.declared.records.CertKind.TheVariants.{Challenged}
use Rattle.dist_cert.specs.declared.records.CertRecord.{CertRecord}
use Rattle.dist_cert.specs.Groups.{installations}
use Rattle.dist_sweep.specs.Script.{Setting}
use Rattle.dist_covering.specs.Covering.{CoveringView}
use Rattle.dist_covering.specs.Used.{AreUses}
use Rattle.dist_sweep.specs.Futures.{IsOfSpace}

-- The certificate is one of challenged packages in the futures of the space, and the clusters are those of its latest
-- installations, as far back as a claim may reach.
pub record KeepsChallenged (g : Setting) (before : List CertRecord) (c : CoveringView) : Type 0 where
  pub of_space : IsOfSpace Challenged c.space g
  pub uses : AreUses c.space (keep_last REACH (installations before)) c.uses
