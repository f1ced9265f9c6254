-- Worked examples: a stanza of two lines, and what fields that it lacks come to.
use Rattle.std.specs.Prelude.{◌≡◌, [], ◌∷◌, Some, codes, refl}
use Rattle.std.proofs.Common.{inl}
use Rattle.dist_control.specs.FieldText.{FieldText}
use Rattle.dist_control.specs.declared.field_list.Stanza.{Stanza}
use Rattle.dist_package.specs.Named.{field_named, value_of, fault_on}
use Rattle.dist_package.specs.PackageOf.{HasVersionFault, ReadsSource, ReadsArchitecture, all}
use Rattle.dist_package.specs.declared.error.Kind.TheVariants.{NoVersion}

abbrev package_line : FieldText
package_line = record { name = codes "package"; value = codes "a"; line = 3 }

abbrev essential_line : FieldText
essential_line = record { name = codes "Essential"; value = codes "yes"; line = 4 }

abbrev stanza : Stanza
stanza = record { line = 3; fields = package_line ∷ essential_line ∷ [] }

-- the case of a field's name does not matter
package_is_found : field_named stanza (codes "Package") ≡ Some package_line
package_is_found = refl

-- a field that is not there has the empty value
nothing_is_needed : value_of stanza (codes "Depends") ≡ []
nothing_is_needed = refl

-- there is no Version, which is told at the stanza's first line
version_is_missing : HasVersionFault stanza (fault_on 3 NoVersion)
version_is_missing = inl (refl, refl)

-- without Source the source is the package itself
source_is_its_own : ReadsSource stanza (codes "a") (codes "1") (codes "a") (codes "1")
source_is_its_own = inl (refl, refl, refl)

-- without Architecture it is `all`, which agrees with any
agrees_with_amd64 : ReadsArchitecture (Some (codes "amd64")) stanza all
agrees_with_amd64 = record { given = inl (refl, refl); agrees = inl refl }
