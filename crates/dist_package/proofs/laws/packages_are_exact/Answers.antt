use Rattle.dist_control.specs.RawStanza.{raw_stanzas}
use Rattle.dist_package.proofs.OneStanza.{one_read, one_fault, apart}
use Rattle.dist_package.proofs.OneReading.{one_error, one_repository, never_both}
use Rattle.dist_package.proofs.laws.packages_are_exact.Goals as goal

pub returns : goal.returns
returns c =
    let stanzas = c.one_reading_or_fault.ensures in
    let texts = c.texts_are_exact.ensures.exact in
    let depends = c.values_are_exact.ensures.depends in
    let atoms = c.values_are_exact.ensures.atoms in
    let provides = c.values_are_exact.ensures.provides in
    λ text limit. record {
      one_repository = one_repository (one_read stanzas texts depends atoms provides) (one_fault stanzas texts depends atoms provides)
          (apart stanzas texts depends atoms provides) c.each_stands_once.ensures.same text limit;
      one_error = one_error (one_read stanzas texts depends atoms provides) (one_fault stanzas texts depends atoms provides)
          (apart stanzas texts depends atoms provides) (raw_stanzas text) limit;
      never_both = never_both (one_read stanzas texts depends atoms provides) (one_fault stanzas texts depends atoms provides)
          (apart stanzas texts depends atoms provides) text limit;
    }
