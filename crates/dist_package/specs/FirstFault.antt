-- What the stanzas of a file read as, and the first fault of a file: the first faulty stanza decides, and in it
-- the first of these that has a fault: its lines, the fields Package, Version, Source and Architecture, the
-- fields of relations, and last the package among the earlier ones.
use Rattle.std.specs.Prelude.{◌≡◌, ◌≢◌, ◌⊎◌, ℕ, ◌<◌, List, [], ◌∷◌, ◌++◌, Option, All, find, map, length, not}
use Rattle.std.specs.Str.{bytes_eq}
use Rattle.dist_control.specs.ControlText.{IsReading}
use Rattle.dist_control.specs.RawStanza.{RawStanza}
use Rattle.dist_control.specs.Faults as control
use Rattle.dist_control.specs.declared.error.ControlError.{ControlError}
use Rattle.dist_control.specs.declared.error.ControlError.TheVariants as errors
use Rattle.dist_control.specs.declared.field_list.Stanza.{Stanza}
use Rattle.dist_relation.specs.Grammar.{ReadsDepends, ReadsAtoms, ReadsProvides}
use Rattle.dist_relation.specs.declared.atom.Atom.{Atom}
use Rattle.dist_relation.specs.declared.atom.Provide.{Provide}
use Rattle.dist_repo.specs.Order.{IsSamePackage}
use Rattle.dist_repo.specs.declared.package.Package.{Package}
use Rattle.dist_package.specs.Named.{value_of, fault_on, relation_field_name}
use Rattle.dist_package.specs.PackageOf.{ReadsName, HasNameFault, ReadsVersionField, HasVersionFault, ReadsSource}
use Rattle.dist_package.specs.PackageOf.{HasSourceFault, ReadsArchitecture, HasArchitectureFault, HasRelationFault}
use Rattle.dist_package.specs.PackageOf.{IsPackageOf, all}
use Rattle.dist_package.specs.declared.error.Fault.{Fault}
use Rattle.dist_package.specs.declared.error.Kind.{Kind}
use Rattle.dist_package.specs.declared.error.Kind.TheVariants.{NoColon, BadFieldName, OrphanContinuation, DoubleField}
use Rattle.dist_package.specs.declared.error.Kind.TheVariants.{NoPackage, BadPackageName, NoVersion, BadVersionText}
use Rattle.dist_package.specs.declared.error.Kind.TheVariants.{BadSource, BadArchitecture, TwoArchitectures, Relation}
use Rattle.dist_package.specs.declared.error.Kind.TheVariants.{Clash}
use Rattle.dist_relation.specs.declared.error.RelationError.{RelationError}
use Rattle.dist_relation.specs.declared.error.RelationError.TheVariants as relations
use Rattle.dist_version.specs.declared.error.VersionError.TheVariants as versions
use Rattle.dist_package.specs.declared.error.PackagesError.{PackagesError}
use Rattle.dist_package.specs.declared.error.PackagesError.TheVariants.{Bad, TooMany, NoMemory}
use Rattle.dist_package.specs.declared.error.RelationField.{RelationField}
use Rattle.dist_package.specs.declared.error.RelationField.TheVariants.{PreDepends, Depends, Conflicts, Breaks}
use Rattle.dist_package.specs.declared.error.RelationField.TheVariants.{Provides}

-- what one stanza reads as: its line, its package, and its architecture
pub record Read : Type 0 where
  pub line : ℕ
  pub package_ : Package
  pub architecture : List ℕ

-- the first architecture that is not `all`, if there is one
abbrev pub architecture_of : List Read → Option (List ℕ)
architecture_of reads = find (λ architecture. not (bytes_eq architecture all)) (map (λ read. read.architecture) reads)

-- a fault of control text as one of the file
abbrev pub IsLineFault : ControlError → Fault → Type 0
IsLineFault (errors.NoColon line) fault = fault ≡ fault_on line NoColon
IsLineFault (errors.BadFieldName line) fault = fault ≡ fault_on line BadFieldName
IsLineFault (errors.OrphanContinuation line) fault = fault ≡ fault_on line OrphanContinuation
IsLineFault (errors.DoubleField line) fault = fault ≡ fault_on line DoubleField
IsLineFault errors.NoMemory fault = ⊥

-- the value of a field of relations has a reading
abbrev pub IsRelated : RelationField → Stanza → Type 0
IsRelated PreDepends stanza = (items : List (List Atom))
    × ReadsDepends (value_of stanza (relation_field_name PreDepends)) items
IsRelated Depends stanza = (items : List (List Atom))
    × ReadsDepends (value_of stanza (relation_field_name Depends)) items
IsRelated Conflicts stanza = (atoms : List Atom) × ReadsAtoms (value_of stanza (relation_field_name Conflicts)) atoms
IsRelated Breaks stanza = (atoms : List Atom) × ReadsAtoms (value_of stanza (relation_field_name Breaks)) atoms
IsRelated Provides stanza = (entries : List Provide)
    × ReadsProvides (value_of stanza (relation_field_name Provides)) entries

-- the first of these fields that has a fault
abbrev pub HasFirstRelationFault : List RelationField → Stanza → Fault → Type 0
HasFirstRelationFault [] stanza fault = ⊥
HasFirstRelationFault (relation ∷ relations) stanza fault =
    HasRelationFault stanza relation fault ⊎ (IsRelated relation stanza × HasFirstRelationFault relations stanza fault)

abbrev pub relation_fields : List RelationField
relation_fields = PreDepends ∷ Depends ∷ Conflicts ∷ Breaks ∷ Provides ∷ []

-- The first fault of the fields of a stanza: each field is looked at only where those before it can be read.
abbrev pub HasFieldFault : (earlier : Option (List ℕ)) → Stanza → Fault → Type 0
HasFieldFault earlier stanza fault =
    HasNameFault stanza fault
    ⊎ (((name : List ℕ) × ReadsName stanza name)
    × (HasVersionFault stanza fault
    ⊎ (((version : List ℕ) × ReadsVersionField stanza version)
    × (HasSourceFault stanza fault
    ⊎ (((name version source source_version : List ℕ) × ReadsSource stanza name version source source_version)
    × (HasArchitectureFault earlier stanza fault
    ⊎ (((architecture : List ℕ) × ReadsArchitecture earlier stanza architecture)
    × HasFirstRelationFault relation_fields stanza fault)))))))

-- The first earlier stanza that has this name and an equal version came with this line, and its package differs.
pub record IsClash (earlier : List Read) (p : Package) (line : ℕ) : Type 0 where
  pub before : List Read
  pub kept : Read
  pub after : List Read
  pub pieces : earlier ≡ before ++ kept ∷ after
  pub first : All (λ read. ¬ IsSamePackage read.package_ p) before
  pub same : IsSamePackage kept.package_ p
  pub differs : kept.package_ ≢ p
  pub line_is : line ≡ kept.line

-- a raw stanza has a reading, and its fields give this, after these earlier ones
pub record HasPackage (earlier : List Read) (raw : RawStanza) (read : Read) : Type 0 where
  pub stanza : Stanza
  pub reading : IsReading raw stanza
  pub is_package : IsPackageOf (architecture_of earlier) stanza read.package_ read.architecture
  pub line_is : read.line ≡ raw.line

-- the same, and no earlier package clashes
pub record ReadsAs (earlier : List Read) (raw : RawStanza) (read : Read) : Type 0 where
  pub has : HasPackage earlier raw read
  pub free : (line : ℕ) → ¬ IsClash earlier read.package_ line

-- a fault of a raw stanza, after these earlier ones: one of its lines, of its fields, or a clash
abbrev pub HasStanzaFault : (earlier : List Read) → RawStanza → Fault → Type 0
HasStanzaFault earlier raw fault =
    ((error : ControlError) × control.HasFault raw error × IsLineFault error fault)
    ⊎ (((stanza : Stanza) × IsReading raw stanza × HasFieldFault (architecture_of earlier) stanza fault)
    ⊎ ((read : Read) × (line : ℕ) × HasPackage earlier raw read × IsClash earlier read.package_ line
    × (fault ≡ fault_on raw.line (Clash line))))

-- each raw stanza reads as the entry of its place, after the earlier ones and those before it
abbrev pub AreReadAfter : (earlier : List Read) → List RawStanza → List Read → Type 0
AreReadAfter earlier [] [] = Unit {0}
AreReadAfter earlier [] (read ∷ reads) = ⊥
AreReadAfter earlier (raw ∷ raws) [] = ⊥
AreReadAfter earlier (raw ∷ raws) (read ∷ reads) = ReadsAs earlier raw read
    × AreReadAfter (earlier ++ read ∷ []) raws reads

abbrev pub AreRead : List RawStanza → List Read → Type 0
AreRead raws reads = AreReadAfter [] raws reads

-- The raw stanzas before one, which is there, read without a fault.
pub record IsReadUpTo (raws : List RawStanza) (raw : RawStanza) (reads : List Read) : Type 0 where
  pub before : List RawStanza
  pub after : List RawStanza
  pub pieces : raws ≡ before ++ raw ∷ after
  pub read : AreRead before reads

-- The first faulty stanza, among the first ones up to the limit, has this fault.
pub record HasPackagesFault (raws : List RawStanza) (limit : ℕ) (fault : Fault) : Type 0 where
  pub raw : RawStanza
  pub reads : List Read
  pub up_to : IsReadUpTo raws raw reads
  pub within : length reads < limit
  pub has : HasStanzaFault reads raw fault

-- There is one stanza more than the limit, and none before it has a fault.
pub record IsTooMany (raws : List RawStanza) (limit : ℕ) : Type 0 where
  pub raw : RawStanza
  pub reads : List Read
  pub up_to : IsReadUpTo raws raw reads
  pub at_limit : length reads ≡ limit

-- an error that says this of a fault, and no other
abbrev pub IsBad : (Fault → Type 0) → PackagesError → Type 0
IsBad HasIt (Bad fault) = HasIt fault
IsBad HasIt TooMany = ⊥
IsBad HasIt NoMemory = ⊥

-- why a file of these raw stanzas is no repository
abbrev pub IsRefused : List RawStanza → (limit : ℕ) → PackagesError → Type 0
IsRefused raws limit (Bad fault) = HasPackagesFault raws limit fault
IsRefused raws limit TooMany = IsTooMany raws limit
IsRefused raws limit NoMemory = ⊥

-- a relation's fault is neither want of memory nor a version's want of memory
abbrev pub IsFreeOfMemory : RelationError → Type 0
IsFreeOfMemory (relations.BadName place) = Unit {0}
IsFreeOfMemory (relations.BadOp place) = Unit {0}
IsFreeOfMemory (relations.BadVersion place error) = error ≢ versions.NoMemory
IsFreeOfMemory (relations.Unclosed place) = Unit {0}
IsFreeOfMemory (relations.BarNotAllowed place) = Unit {0}
IsFreeOfMemory (relations.Trailing place) = Unit {0}
IsFreeOfMemory (relations.OpInProvides place) = Unit {0}
IsFreeOfMemory relations.NoMemory = ⊥

-- a kind carries want of memory neither of a version nor of a relation
abbrev pub CarriesNoMemory : Kind → Type 0
CarriesNoMemory NoColon = Unit {0}
CarriesNoMemory BadFieldName = Unit {0}
CarriesNoMemory OrphanContinuation = Unit {0}
CarriesNoMemory DoubleField = Unit {0}
CarriesNoMemory NoPackage = Unit {0}
CarriesNoMemory BadPackageName = Unit {0}
CarriesNoMemory NoVersion = Unit {0}
CarriesNoMemory (BadVersionText error) = error ≢ versions.NoMemory
CarriesNoMemory BadSource = Unit {0}
CarriesNoMemory BadArchitecture = Unit {0}
CarriesNoMemory TwoArchitectures = Unit {0}
CarriesNoMemory (Relation relation error) = IsFreeOfMemory error
CarriesNoMemory (Clash line) = Unit {0}
