-- The package of a stanza (Debian Policy 5.3), and the faults of its fields.
use Rattle.std.specs.Prelude.{◌≡◌, ◌≢◌, ◌⊎◌, ℕ, List, ◌++◌, Option, None, Some, IsTrue, ◌↔◌, unwrap_or, codes}
use Rattle.dist_control.specs.declared.field_list.Stanza.{Stanza}
use Rattle.dist_relation.specs.Bytes.{IsName}
use Rattle.dist_relation.specs.Grammar.{ReadsDepends, ReadsAtoms, ReadsProvides}
use Rattle.dist_relation.specs.Faults.{FirstDependsFault, FirstAtomsFault, FirstProvidesFault}
use Rattle.dist_relation.specs.declared.atom.Atom.{Atom}
use Rattle.dist_relation.specs.declared.atom.Provide.{Provide}
use Rattle.dist_relation.specs.declared.error.RelationError.{RelationError}
use Rattle.dist_relation.specs.declared.error.RelationError.TheVariants as relations
use Rattle.dist_repo.specs.declared.package.Package.{Package}
use Rattle.dist_version.specs.Faults.{IsTextFault}
use Rattle.dist_version.specs.Spelling.{ReadsVersion}
use Rattle.dist_version.specs.declared.error.VersionError.{VersionError}
use Rattle.dist_package.specs.Named.{field_named, value_of, line_of, IsFieldOf, fault_on, relation_field_name}
use Rattle.dist_package.specs.Source.{SpellsSource, IsNoSource}
use Rattle.dist_package.specs.declared.error.Fault.{Fault}
use Rattle.dist_package.specs.declared.error.Kind.TheVariants.{NoPackage, BadPackageName, NoVersion, BadVersionText}
use Rattle.dist_package.specs.declared.error.Kind.TheVariants.{BadSource, BadArchitecture, TwoArchitectures, Relation}
use Rattle.dist_package.specs.declared.error.RelationField.{RelationField}
use Rattle.dist_package.specs.declared.error.RelationField.TheVariants.{PreDepends, Depends, Conflicts, Breaks}
use Rattle.dist_package.specs.declared.error.RelationField.TheVariants.{Provides}

-- ---- Package and Version

-- the value of the field Package is this name
pub record ReadsName (stanza : Stanza) (name : List ℕ) : Type 0 where
  pub line : ℕ
  pub field : IsFieldOf stanza (codes "Package") name line
  pub is_name : IsName name

-- the value of the Package field is no name
pub record IsNoName (stanza : Stanza) (fault : Fault) : Type 0 where
  pub value : List ℕ
  pub line : ℕ
  pub field : IsFieldOf stanza (codes "Package") value line
  pub none : ¬ IsName value
  pub fault_is : fault ≡ fault_on line BadPackageName

-- there is no field Package, or its value is no name
abbrev pub HasNameFault : Stanza → Fault → Type 0
HasNameFault stanza fault =
    ((field_named stanza (codes "Package") ≡ None) × (fault ≡ fault_on stanza.line NoPackage)) ⊎ IsNoName stanza fault

-- the value of the field Version is this version
pub record ReadsVersionField (stanza : Stanza) (version : List ℕ) : Type 0 where
  pub value : List ℕ
  pub line : ℕ
  pub field : IsFieldOf stanza (codes "Version") value line
  pub reads : ReadsVersion value version

-- the value of the Version field is no version
pub record IsNoVersion (stanza : Stanza) (fault : Fault) : Type 0 where
  pub value : List ℕ
  pub line : ℕ
  pub error : VersionError
  pub field : IsFieldOf stanza (codes "Version") value line
  pub has : IsTextFault value error
  pub fault_is : fault ≡ fault_on line (BadVersionText error)

-- there is no field Version, or its value is no version
abbrev pub HasVersionFault : Stanza → Fault → Type 0
HasVersionFault stanza fault =
    ((field_named stanza (codes "Version") ≡ None) × (fault ≡ fault_on stanza.line NoVersion))
    ⊎ IsNoVersion stanza fault

-- ---- Source

-- The source of a package of this name and version is that name and version itself where there is no field
-- Source. A source without a version has the package's.
pub record IsSourceOf (name version source source_version : List ℕ) (value : List ℕ) : Type 0 where
  pub written : Option (List ℕ)
  pub spells : SpellsSource value source written
  pub version_is : source_version ≡ unwrap_or written version

-- the field Source of a stanza gives this source and version
abbrev pub ReadsSource : Stanza → (name version source source_version : List ℕ) → Type 0
ReadsSource stanza name version source source_version =
    ((field_named stanza (codes "Source") ≡ None) × (source ≡ name) × (source_version ≡ version))
    ⊎ ((value : List ℕ) × (line : ℕ) × IsFieldOf stanza (codes "Source") value line
    × IsSourceOf name version source source_version value)

-- the value of the field Source is no source
pub record HasSourceFault (stanza : Stanza) (fault : Fault) : Type 0 where
  pub value : List ℕ
  pub line : ℕ
  pub field : IsFieldOf stanza (codes "Source") value line
  pub none : IsNoSource value
  pub fault_is : fault ≡ fault_on line BadSource

-- ---- Architecture

abbrev pub all : List ℕ
all = codes "all"

-- The architecture of a stanza, which is `all` where there is no field Architecture. One other than `all` is
-- that of the earlier stanzas, where they have one other than `all`.
pub record ReadsArchitecture (earlier : Option (List ℕ)) (stanza : Stanza) (architecture : List ℕ) : Type 0 where
  pub given : ((field_named stanza (codes "Architecture") ≡ None) × (architecture ≡ all))
      ⊎ ((line : ℕ) × IsFieldOf stanza (codes "Architecture") architecture line × IsName architecture)
  pub agrees : (architecture ≡ all) ⊎ ((earlier ≡ None) ⊎ (earlier ≡ Some architecture))

-- what a reader gives for an architecture: none for `all`
abbrev pub GivesArchitecture : (earlier : Option (List ℕ)) → Stanza → Option (List ℕ) → Type 0
GivesArchitecture earlier stanza given = ReadsArchitecture earlier stanza (unwrap_or given all) × (given ≢ Some all)

-- the Architecture is no name, or a second one beside `all`
pub record HasArchitectureFault (earlier : Option (List ℕ)) (stanza : Stanza) (fault : Fault) : Type 0 where
  pub value : List ℕ
  pub line : ℕ
  pub field : IsFieldOf stanza (codes "Architecture") value line
  -- the value is no name, or another than that of the earlier stanzas
  pub cause : ((¬ IsName value) × (fault ≡ fault_on line BadArchitecture))
      ⊎ (IsName value × (value ≢ all) × ((other : List ℕ) × (earlier ≡ Some other) × (other ≢ value))
      × (fault ≡ fault_on line TwoArchitectures))

-- ---- relations

-- the first fault of the value of a field of relations
abbrev pub HasFirstValueFault : RelationField → List ℕ → RelationError → Type 0
HasFirstValueFault PreDepends value error = FirstDependsFault value error
HasFirstValueFault Depends value error = FirstDependsFault value error
HasFirstValueFault Conflicts value error = FirstAtomsFault value error
HasFirstValueFault Breaks value error = FirstAtomsFault value error
HasFirstValueFault Provides value error = FirstProvidesFault value error

-- The value of a field of relations has this first fault, and want of memory is none. A missing field counts as
-- an empty one, which has no fault.
abbrev pub IsRelationFault : (List ℕ → RelationError → Type 0) → Stanza → RelationField → Fault → Type 0
IsRelationFault FirstFault stanza relation fault =
    (error : RelationError) × FirstFault (value_of stanza (relation_field_name relation)) error
    × (error ≢ relations.NoMemory)
    × (fault ≡ fault_on (line_of stanza (relation_field_name relation)) (Relation relation error))

abbrev pub HasRelationFault : Stanza → RelationField → Fault → Type 0
HasRelationFault stanza relation fault = IsRelationFault (HasFirstValueFault relation) stanza relation fault

-- What the fields of relations give: first the items of Pre-Depends and then those of Depends, first the atoms of
-- Conflicts and then those of Breaks, and the entries of Provides. A missing field gives nothing.
pub record ReadsRelations (stanza : Stanza) (depends : List (List Atom)) (conflicts : List Atom)
    (provides : List Provide) : Type 0 where
  pub pre_depends : List (List Atom)
  pub other_depends : List (List Atom)
  pub conflicts_alone : List Atom
  pub breaks : List Atom
  pub reads_pre_depends : ReadsDepends (value_of stanza (relation_field_name PreDepends)) pre_depends
  pub reads_depends : ReadsDepends (value_of stanza (relation_field_name Depends)) other_depends
  pub reads_conflicts : ReadsAtoms (value_of stanza (relation_field_name Conflicts)) conflicts_alone
  pub reads_breaks : ReadsAtoms (value_of stanza (relation_field_name Breaks)) breaks
  pub reads_provides : ReadsProvides (value_of stanza (relation_field_name Provides)) provides
  pub depends_is : depends ≡ pre_depends ++ other_depends
  pub conflicts_is : conflicts ≡ conflicts_alone ++ breaks

-- ---- the package

-- A stanza is the description of this package, of an architecture that agrees with that of the earlier ones.
pub record IsPackageOf (earlier : Option (List ℕ)) (stanza : Stanza) (p : Package) (architecture : List ℕ) : Type 0
  where
    pub name : ReadsName stanza p.name
    pub version : ReadsVersionField stanza p.version
    pub source : ReadsSource stanza p.name p.version p.source p.source_version
    pub place : ReadsArchitecture earlier stanza architecture
    pub relations : ReadsRelations stanza p.depends p.conflicts p.provides
    pub essential : IsTrue p.essential ↔ (value_of stanza (codes "Essential") ≡ codes "yes")
