-- Kind challenged is not kind strong.
use Rattle.std.proofs.Common.{◌≢◌}
use Rattle.dist_cert.specs.declared.records.CertKind.TheVariants.{Challenged, Strong}

pub challenged-is-later : Challenged ≢ Strong
challenged-is-later e = cc
