-- How a fault of a Packages file is told.
use Rattle.std.specs.Prelude.{ℕ, List, [], ◌++◌, codes, decimal}
use Rattle.dist_version.specs.declared.error.VersionError.{VersionError}
use Rattle.dist_version.specs.declared.error.VersionError.TheVariants as version
use Rattle.dist_relation.specs.declared.error.RelationError.{RelationError}
use Rattle.dist_relation.specs.declared.error.RelationError.TheVariants as relation
use Rattle.dist_package.specs.declared.error.RelationField.{RelationField}
use Rattle.dist_package.specs.declared.error.RelationField.TheVariants as field
use Rattle.dist_package.specs.declared.error.Kind.{Kind}
use Rattle.dist_package.specs.declared.error.Kind.TheVariants.{NoColon, BadFieldName, OrphanContinuation, DoubleField}
use Rattle.dist_package.specs.declared.error.Kind.TheVariants.{NoPackage, BadPackageName, NoVersion, BadVersionText}
use Rattle.dist_package.specs.declared.error.Kind.TheVariants.{BadSource, BadArchitecture, TwoArchitectures, Relation}
use Rattle.dist_package.specs.declared.error.Kind.TheVariants.{Clash}

-- the name of a version's fault
abbrev pub version_text : VersionError → List ℕ
version_text version.Empty = codes "Empty"
version_text version.BadEpoch = codes "BadEpoch"
version_text version.EpochTooLarge = codes "EpochTooLarge"
version_text version.EmptyUpstream = codes "EmptyUpstream"
version_text version.EmptyRevision = codes "EmptyRevision"
version_text (version.BadByte place) = codes "BadByte"
version_text version.NoMemory = codes "NoMemory"

-- the name of a field, as it is written in control files
abbrev pub field_text : RelationField → List ℕ
field_text field.PreDepends = codes "Pre-Depends"
field_text field.Depends = codes "Depends"
field_text field.Conflicts = codes "Conflicts"
field_text field.Breaks = codes "Breaks"
field_text field.Provides = codes "Provides"

-- the name of a relation's fault
abbrev pub relation_name : RelationError → List ℕ
relation_name (relation.BadName place) = codes "BadName"
relation_name (relation.BadOp place) = codes "BadOp"
relation_name (relation.BadVersion place fault) = codes "BadVersion " ++ version_text fault
relation_name (relation.Unclosed place) = codes "Unclosed"
relation_name (relation.BarNotAllowed place) = codes "BarNotAllowed"
relation_name (relation.Trailing place) = codes "Trailing"
relation_name (relation.OpInProvides place) = codes "OpInProvides"
relation_name relation.NoMemory = codes "NoMemory"

-- the place of a relation's fault in its value, in bytes from 0
abbrev pub place_of : RelationError → ℕ
place_of (relation.BadName place) = place
place_of (relation.BadOp place) = place
place_of (relation.BadVersion place fault) = place
place_of (relation.Unclosed place) = place
place_of (relation.BarNotAllowed place) = place
place_of (relation.Trailing place) = place
place_of (relation.OpInProvides place) = place
place_of relation.NoMemory = 0

-- the name of a kind
abbrev pub kind_name : Kind → List ℕ
kind_name NoColon = codes "NoColon"
kind_name BadFieldName = codes "BadFieldName"
kind_name OrphanContinuation = codes "OrphanContinuation"
kind_name DoubleField = codes "DoubleField"
kind_name NoPackage = codes "NoPackage"
kind_name BadPackageName = codes "BadPackageName"
kind_name NoVersion = codes "NoVersion"
kind_name (BadVersionText fault) = codes "BadVersionText " ++ version_text fault
kind_name BadSource = codes "BadSource"
kind_name BadArchitecture = codes "BadArchitecture"
kind_name TwoArchitectures = codes "TwoArchitectures"
kind_name (Relation field fault) = relation_name fault
kind_name (Clash line) = codes "Clash"

-- what follows the name: the field and the place of a relation's fault, the line of a clash
abbrev pub carried_text : Kind → List ℕ
carried_text (Relation field fault) = codes " in " ++ (field_text field ++ (codes " at " ++ decimal (place_of fault)))
carried_text (Clash line) = codes " with line " ++ decimal line
carried_text _ = []
