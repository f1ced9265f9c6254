-- Kind outdated is not kind strong.
use Rattle.std.proofs.Common.{◌≢◌}
use Rattle.dist_cert.specs.declared.records.CertKind.TheVariants.{Outdated, Strong}

pub outdated-is-later : Outdated ≢ Strong
outdated-is-later e = cc
