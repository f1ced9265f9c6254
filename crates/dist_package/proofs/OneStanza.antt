-- A stanza reads as one package or has one first fault, and never both.
use Rattle.std.proofs.Common.{◌≡◌, ◌≢◌, ◌⊎◌, ◌↔◌, ℕ, ◌<◌, Bool, true, false, IsTrue, List, [], ◌∷◌, ◌++◌, Option, None, Some, length, get_or, refl, sym, ap}
use Rattle.std.proofs.Common.{◌∙◌, subst, inl, inr, unwrap_or, codes, arith}
use Rattle.std.proofs.lemmas.Bool.{cases_lt}
use Rattle.std.proofs.lemmas.List.{get_or_append_left}
use Rattle.std.proofs.Math.Seq.{get_or-append_seam}
use Rattle.dist_base.specs.Answers.{IsExact}
use Rattle.dist_control.specs.ControlText.{IsExactStanza}
use Rattle.dist_control.specs.FieldText.{FieldText}
use Rattle.dist_control.specs.Fields.{trim}
use Rattle.dist_control.specs.RawStanza.{RawStanza}
use Rattle.dist_control.specs.declared.error.ControlError.{ControlError}
use Rattle.dist_control.specs.declared.error.ControlError.TheVariants as errors
use Rattle.dist_control.specs.declared.field_list.Stanza.{Stanza}
use Rattle.dist_relation.specs.Bytes.{IsName}
use Rattle.dist_relation.specs.Faults.{FirstDependsFault, FirstAtomsFault, FirstProvidesFault}
use Rattle.dist_relation.specs.Grammar.{ReadsDepends, ReadsAtoms, ReadsProvides}
use Rattle.dist_relation.specs.declared.atom.Atom.{Atom}
use Rattle.dist_relation.specs.declared.atom.Provide.{Provide}
use Rattle.dist_relation.specs.declared.error.RelationError.{RelationError}
use Rattle.dist_repo.specs.Order.{IsSamePackage}
use Rattle.dist_repo.specs.declared.package.Package.{Package}
use Rattle.dist_version.specs.Faults.{IsTextFault}
use Rattle.dist_version.specs.Spelling.{ReadsVersion}
use Rattle.dist_version.specs.declared.error.VersionError.{VersionError}
use Rattle.dist_package.specs.FirstFault.{Read, architecture_of, IsLineFault, IsRelated, HasFirstRelationFault, relation_fields, HasFieldFault, IsClash}
use Rattle.dist_package.specs.FirstFault.{HasPackage, ReadsAs, HasStanzaFault}
use Rattle.dist_package.specs.Named.{field_named, value_of, line_of, IsFieldOf, fault_on, relation_field_name}
use Rattle.dist_package.specs.PackageOf.{ReadsName, HasNameFault, ReadsVersionField, HasVersionFault, ReadsSource, HasSourceFault, ReadsArchitecture}
use Rattle.dist_package.specs.PackageOf.{HasArchitectureFault, all, HasFirstValueFault, HasRelationFault, ReadsRelations, IsPackageOf}
use Rattle.dist_package.specs.Source.{name_part, version_part, IsInParentheses, ReadsVersionPart, SpellsSource, IsNoVersionPart, IsNoSource}
use Rattle.dist_package.specs.declared.error.Fault.{Fault}
use Rattle.dist_package.specs.declared.error.Kind.TheVariants.{BadPackageName, BadVersionText, BadSource, BadArchitecture, TwoArchitectures, Relation, Clash}
use Rattle.dist_package.specs.declared.error.RelationField.{RelationField}
use Rattle.dist_package.specs.declared.error.RelationField.TheVariants.{PreDepends, Depends, Conflicts, Breaks, Provides}

-- ---- fields

same_some : {X : Type 0} (a b : X) (o : Option X) → o ≡ Some a → o ≡ Some b → b ≡ a
same_some a b o first second = cc

no_some : {X : Type 0} (a : X) (o : Option X) → o ≡ None → ¬ (o ≡ Some a)
no_some a o none some = cc

same_value : (stanza : Stanza) (name v w : List ℕ) (l m : ℕ) → IsFieldOf stanza name v l → IsFieldOf stanza name w m → w ≡ v
same_value stanza name v w l m f g =
    sym g.value_is ∙ ap (λ (x : FieldText). x.value) (same_some f.field g.field (field_named stanza name) f.found g.found) ∙ f.value_is

same_line : (stanza : Stanza) (name v w : List ℕ) (l m : ℕ) → IsFieldOf stanza name v l → IsFieldOf stanza name w m → m ≡ l
same_line stanza name v w l m f g =
    sym g.line_is ∙ ap (λ (x : FieldText). x.line) (same_some f.field g.field (field_named stanza name) f.found g.found) ∙ f.line_is

no_field : (stanza : Stanza) (name v : List ℕ) (l : ℕ) → field_named stanza name ≡ None → ¬ IsFieldOf stanza name v l
no_field stanza name v l none f = no_some f.field (field_named stanza name) none f.found

-- ---- the name

name_one : (stanza : Stanza) (a b : List ℕ) → ReadsName stanza a → ReadsName stanza b → b ≡ a
name_one stanza a b f g = same_value stanza _ a b f.line g.line f.field g.field

name_fault_one : (stanza : Stanza) (a b : Fault) → HasNameFault stanza a → HasNameFault stanza b → b ≡ a
name_fault_one stanza a b (inl (none, is)) (inl (none', is')) = is' ∙ sym is
name_fault_one stanza a b (inl (none, is)) (inr g) = absurd (no_field stanza _ g.value g.line none g.field)
name_fault_one stanza a b (inr f) (inl (none, is)) = absurd (no_field stanza _ f.value f.line none f.field)
name_fault_one stanza a b (inr f) (inr g) =
    g.fault_is ∙ ap (λ (l : ℕ). fault_on l BadPackageName) (same_line stanza _ f.value g.value f.line g.line f.field g.field) ∙ sym f.fault_is

name_apart : (stanza : Stanza) (a : List ℕ) (b : Fault) → ReadsName stanza a → ¬ HasNameFault stanza b
name_apart stanza a b f (inl (none, is)) = no_field stanza _ a f.line none f.field
name_apart stanza a b f (inr g) = g.none (subst IsName (sym (same_value stanza _ a g.value f.line g.line f.field g.field)) f.is_name)

-- ---- lists of pieces

cut_last : (xs ys : List ℕ) (c : ℕ) → xs ++ c ∷ [] ≡ ys ++ c ∷ [] → ys ≡ xs
cut_last [] [] c is = refl
cut_last [] (y ∷ []) c is = cc
cut_last [] (y ∷ z ∷ ys) c is = cc
cut_last (x ∷ []) [] c is = cc
cut_last (x ∷ z ∷ xs) [] c is = cc
cut_last (x ∷ xs) (y ∷ ys) c is =
    let rest : xs ++ c ∷ [] ≡ ys ++ c ∷ [] = cc in
    let first : y ≡ x = cc in
    let more = cut_last xs ys c rest in
    cc

inner_one : (part a b : List ℕ) → IsInParentheses part a → IsInParentheses part b → b ≡ a
inner_one part a b f g =
    let whole : f.inner ++ 41 ∷ [] ≡ g.inner ++ 41 ∷ [] = let p = f.parts in let q = g.parts in cc in
    g.text_is ∙ ap trim (cut_last f.inner g.inner 41 whole) ∙ sym f.text_is

not_empty_part : (part a : List ℕ) → IsInParentheses part a → ¬ (part ≡ [])
not_empty_part part a f empty = let p = f.parts in cc

same_read : (earlier : List Read) (a b : Read) → b.line ≡ a.line → b.package_ ≡ a.package_ → b.architecture ≡ a.architecture → b ≡ a
same_read earlier a b line same architecture =
    let mk : ℕ → Package → List ℕ → Read = λ l p x. record { line = l; package_ = p; architecture = x } in
    ap (λ (l : ℕ). mk l b.package_ b.architecture) line ∙ ap (λ (p : Package). mk a.line p b.architecture) same
    ∙ ap (λ (x : List ℕ). mk a.line a.package_ x) architecture

same_flag : (a b : Bool) (P : Type 0) → (IsTrue a ↔ P) → (IsTrue b ↔ P) → b ≡ a
same_flag true true P f g = refl
same_flag false false P f g = refl
same_flag true false P f g = let h = g.1 (f.0 refl) in cc
same_flag false true P f g = let h = f.1 (g.0 refl) in cc

-- ---- the version, by the law of versions

module _ (texts : (text : List ℕ) → IsExact (ReadsVersion text) (IsTextFault text)) where
  version_one : (stanza : Stanza) (a b : List ℕ) → ReadsVersionField stanza a → ReadsVersionField stanza b → b ≡ a
  version_one stanza a b f g = g.reads.0 ∙ same_value stanza _ f.value g.value f.line g.line f.field g.field ∙ sym f.reads.0

  version_fault_one : (stanza : Stanza) (a b : Fault) → HasVersionFault stanza a → HasVersionFault stanza b → b ≡ a
  version_fault_one stanza a b (inl (none, is)) (inl (none', is')) = is' ∙ sym is
  version_fault_one stanza a b (inl (none, is)) (inr g) = absurd (no_field stanza _ g.value g.line none g.field)
  version_fault_one stanza a b (inr f) (inl (none, is)) = absurd (no_field stanza _ f.value f.line none f.field)
  version_fault_one stanza a b (inr f) (inr g) =
      let value = same_value stanza _ f.value g.value f.line g.line f.field g.field in
      let error = (texts f.value).one_fault g.error f.error (subst (λ (t : List ℕ). IsTextFault t g.error) value g.has) f.has in
      g.fault_is ∙ ap (λ (l : ℕ). fault_on l (BadVersionText g.error)) (same_line stanza _ f.value g.value f.line g.line f.field g.field)
      ∙ ap (λ (e : VersionError). fault_on f.line (BadVersionText e)) error ∙ sym f.fault_is

  version_apart : (stanza : Stanza) (a : List ℕ) (b : Fault) → ReadsVersionField stanza a → ¬ HasVersionFault stanza b
  version_apart stanza a b f (inl (none, is)) = no_field stanza _ f.value f.line none f.field
  version_apart stanza a b f (inr g) =
      (texts f.value).never_both a g.error f.reads (subst (λ (t : List ℕ). IsTextFault t g.error)
      (same_value stanza _ f.value g.value f.line g.line f.field g.field) g.has)

  -- ---- the source

  part_one : (part : List ℕ) (v w : Option (List ℕ)) → ReadsVersionPart part v → ReadsVersionPart part w → w ≡ v
  part_one part None None f g = refl
  part_one part None (Some w) f (text, inside, reads) = absurd (not_empty_part part text inside f)
  part_one part (Some v) None (text, inside, reads) g = absurd (not_empty_part part text inside g)
  part_one part (Some v) (Some w) (text, inside, reads) (text', inside', reads') =
      ap (λ (x : List ℕ). Some x) (reads'.0 ∙ inner_one part text text' inside inside' ∙ sym reads.0)

  part_apart : (part : List ℕ) (v : Option (List ℕ)) → ReadsVersionPart part v → ¬ IsNoVersionPart part
  part_apart part None f (inl (some, none)) = some f
  part_apart part None f (inr (text, inside, fault)) = not_empty_part part text inside f
  part_apart part (Some v) (text, inside, reads) (inl (some, none)) = none text inside
  part_apart part (Some v) (text, inside, reads) (inr (text', inside', (error, has))) =
      (texts text).never_both v error reads (subst (λ (t : List ℕ). IsTextFault t error) (inner_one part text text' inside inside') has)

  source_one : (stanza : Stanza) (name version s t sv tv : List ℕ) → ReadsSource stanza name version s sv → ReadsSource stanza name version t tv → (t ≡ s)
      × (tv ≡ sv)
  source_one stanza name version s t sv tv (inl (none, is, vis)) (inl (none', is', vis')) = (is' ∙ sym is, vis' ∙ sym vis)
  source_one stanza name version s t sv tv (inl (none, is, vis)) (inr (value, line, field, of)) = absurd (no_field stanza _ value line none field)
  source_one stanza name version s t sv tv (inr (value, line, field, of)) (inl (none, is, vis)) = absurd (no_field stanza _ value line none field)
  source_one stanza name version s t sv tv (inr (value, line, field, of)) (inr (value', line', field', of')) =
      let same = same_value stanza _ value value' line line' field field' in
      let part = part_one (version_part value) of.written of'.written of.spells.version_is
      (subst (λ (x : List ℕ). ReadsVersionPart (version_part x) of'.written) same of'.spells.version_is) in (
        of'.spells.name_is ∙ ap name_part same ∙ sym of.spells.name_is,
        of'.version_is ∙ ap (λ (w : Option (List ℕ)). unwrap_or w version) part
            ∙ sym of.version_is,
      )

  source_fault_one : (stanza : Stanza) (a b : Fault) → HasSourceFault stanza a → HasSourceFault stanza b → b ≡ a
  source_fault_one stanza a b f g =
      g.fault_is ∙ ap (λ (l : ℕ). fault_on l BadSource) (same_line stanza _ f.value g.value f.line g.line f.field g.field) ∙ sym f.fault_is

  no_source : (value name : List ℕ) (written : Option (List ℕ)) → SpellsSource value name written → ¬ IsNoSource value
  no_source value name written spells (inl none) = none (subst IsName spells.name_is spells.is_name)
  no_source value name written spells (inr none) = part_apart (version_part value) written spells.version_is none

  source_apart : (stanza : Stanza) (name version s sv : List ℕ) (b : Fault) → ReadsSource stanza name version s sv → ¬ HasSourceFault stanza b
  source_apart stanza name version s sv b (inl (none, is, vis)) g = no_field stanza _ g.value g.line none g.field
  source_apart stanza name version s sv b (inr (value, line, field, of)) g =
      no_source value s of.written of.spells (subst IsNoSource (same_value stanza _ value g.value line g.line field g.field) g.none)

-- ---- the architecture

abbrev IsGiven : Stanza → List ℕ → Type 0
IsGiven stanza a = ((field_named stanza (codes "Architecture") ≡ None) × (a ≡ all)) ⊎ ((line : ℕ) × IsFieldOf stanza (codes "Architecture") a line × IsName a)

given_one : (stanza : Stanza) (a b : List ℕ) → IsGiven stanza a → IsGiven stanza b → b ≡ a
given_one stanza a b (inl (none, is)) (inl (none', is')) = is' ∙ sym is
given_one stanza a b (inl (none, is)) (inr (line, field, name)) = absurd (no_field stanza _ b line none field)
given_one stanza a b (inr (line, field, name)) (inl (none, is)) = absurd (no_field stanza _ a line none field)
given_one stanza a b (inr (line, field, name)) (inr (line', field', name')) = same_value stanza _ a b line line' field field'

architecture_one : (earlier : Option (List ℕ)) (stanza : Stanza) (a b : List ℕ) → ReadsArchitecture earlier stanza a → ReadsArchitecture earlier stanza b
    → b ≡ a
architecture_one earlier stanza a b f g = given_one stanza a b f.given g.given

abbrev IsCause : (earlier : Option (List ℕ)) (value : List ℕ) (line : ℕ) → Fault → Type 0
IsCause earlier value line fault = ((¬ IsName value) × (fault ≡ fault_on line BadArchitecture))
    ⊎ (IsName value × (value ≢ all) × ((other : List ℕ) × (earlier ≡ Some other) × (other ≢ value)) × (fault ≡ fault_on line TwoArchitectures))

cause_one : (earlier : Option (List ℕ)) (value : List ℕ) (line : ℕ) (a b : Fault) → IsCause earlier value line a → IsCause earlier value line b → b ≡ a
cause_one earlier value line a b (inl (none, is)) (inl (none', is')) = is' ∙ sym is
cause_one earlier value line a b (inl (none, is)) (inr other) = absurd (none other.0)
cause_one earlier value line a b (inr other) (inl (none, is)) = absurd (none other.0)
cause_one earlier value line a b (inr f) (inr g) = g.3 ∙ sym f.3

architecture_fault_one : (earlier : Option (List ℕ)) (stanza : Stanza) (a b : Fault) → HasArchitectureFault earlier stanza a
    → HasArchitectureFault earlier stanza b → b ≡ a
architecture_fault_one earlier stanza a b f g =
    cause_one earlier f.value f.line a b f.cause
    (subst (λ (v : List ℕ). IsCause earlier v f.line b) (same_value stanza _ f.value g.value f.line g.line f.field g.field)
    (subst (λ (l : ℕ). IsCause earlier g.value l b) (same_line stanza _ f.value g.value f.line g.line f.field g.field) g.cause))

cause_apart : (earlier : Option (List ℕ)) (a : List ℕ) (line : ℕ) (b : Fault) → IsName a → ((a ≡ all) ⊎ ((earlier ≡ None) ⊎ (earlier ≡ Some a)))
    → ¬ IsCause earlier a line b
cause_apart earlier a line b name agrees (inl (none, is)) = none name
cause_apart earlier a line b name (inl is_all) (inr other) = other.1 is_all
cause_apart earlier a line b name (inr (inl none)) (inr (named, differs, (x, some, not_same), is)) = no_some x earlier none some
cause_apart earlier a line b name (inr (inr same)) (inr (named, differs, (x, some, not_same), is)) = not_same (same_some a x earlier same some)

architecture_apart_at : (earlier : Option (List ℕ)) (stanza : Stanza) (a : List ℕ) (b : Fault) → IsGiven stanza a
    → ((a ≡ all) ⊎ ((earlier ≡ None) ⊎ (earlier ≡ Some a)))
    → ¬ HasArchitectureFault earlier stanza b
architecture_apart_at earlier stanza a b (inl (none, is)) agrees g = no_field stanza _ g.value g.line none g.field
architecture_apart_at earlier stanza a b (inr (line, field, name)) agrees g =
    cause_apart earlier a g.line b name agrees (subst (λ (v : List ℕ). IsCause earlier v g.line b) (same_value stanza _ a g.value line g.line field g.field)
    g.cause)

architecture_apart : (earlier : Option (List ℕ)) (stanza : Stanza) (a : List ℕ) (b : Fault) → ReadsArchitecture earlier stanza a
    → ¬ HasArchitectureFault earlier stanza b
architecture_apart earlier stanza a b f = architecture_apart_at earlier stanza a b f.given f.agrees

-- ---- relations, by the laws of their values

-- the reading of the value of a field of relations
abbrev IsRelatedTo : RelationField → List ℕ → Type 0
IsRelatedTo PreDepends value = (items : List (List Atom)) × ReadsDepends value items
IsRelatedTo Depends value = (items : List (List Atom)) × ReadsDepends value items
IsRelatedTo Conflicts value = (atoms : List Atom) × ReadsAtoms value atoms
IsRelatedTo Breaks value = (atoms : List Atom) × ReadsAtoms value atoms
IsRelatedTo Provides value = (entries : List Provide) × ReadsProvides value entries

module _ (depends : (value : List ℕ) → IsExact (ReadsDepends value) (FirstDependsFault value))
    (atoms : (value : List ℕ) → IsExact (ReadsAtoms value) (FirstAtomsFault value))
    (provides : (value : List ℕ) → IsExact (ReadsProvides value) (FirstProvidesFault value)) where
  error_one : (relation : RelationField) (value : List ℕ) (a b : RelationError) → HasFirstValueFault relation value a → HasFirstValueFault relation value b
      → b ≡ a
  error_one PreDepends value a b f g = (depends value).one_fault b a g f
  error_one Depends value a b f g = (depends value).one_fault b a g f
  error_one Conflicts value a b f g = (atoms value).one_fault b a g f
  error_one Breaks value a b f g = (atoms value).one_fault b a g f
  error_one Provides value a b f g = (provides value).one_fault b a g f

  related_apart : (relation : RelationField) (stanza : Stanza) (error : RelationError) → IsRelated relation stanza
      → ¬ HasFirstValueFault relation (value_of stanza (relation_field_name relation)) error
  related_apart PreDepends stanza error (items, reads) has = (depends _).never_both items error reads has
  related_apart Depends stanza error (items, reads) has = (depends _).never_both items error reads has
  related_apart Conflicts stanza error (items, reads) has = (atoms _).never_both items error reads has
  related_apart Breaks stanza error (items, reads) has = (atoms _).never_both items error reads has
  related_apart Provides stanza error (items, reads) has = (provides _).never_both items error reads has

  relation_fault_one : (stanza : Stanza) (relation : RelationField) (a b : Fault) → HasRelationFault stanza relation a → HasRelationFault stanza relation b
      → b ≡ a
  relation_fault_one stanza relation a b (error, has, some, is) (error', has', some', is') =
      is' ∙ ap (λ (e : RelationError). fault_on (line_of stanza (relation_field_name relation)) (Relation relation e))
      (error_one relation _ error error' has has') ∙ sym is

  first_relation_one : (relations : List RelationField) (stanza : Stanza) (a b : Fault) → HasFirstRelationFault relations stanza a
      → HasFirstRelationFault relations stanza b → b ≡ a
  first_relation_one [] stanza a b f g = absurd f
  first_relation_one (relation ∷ relations) stanza a b (inl f) (inl g) = relation_fault_one stanza relation a b f g
  first_relation_one (relation ∷ relations) stanza a b (inl f) (inr (related, g)) = absurd (related_apart relation stanza f.0 related f.1)
  first_relation_one (relation ∷ relations) stanza a b (inr (related, f)) (inl g) = absurd (related_apart relation stanza g.0 related g.1)
  first_relation_one (relation ∷ relations) stanza a b (inr (related, f)) (inr (related', g)) = first_relation_one relations stanza a b f g

  first_relation_apart : (relations : List RelationField) (stanza : Stanza) (b : Fault) → ((relation : RelationField) → IsRelated relation stanza)
      → ¬ HasFirstRelationFault relations stanza b
  first_relation_apart [] stanza b related g = g
  first_relation_apart (relation ∷ relations) stanza b related (inl g) = related_apart relation stanza g.0 (related relation) g.1
  first_relation_apart (relation ∷ relations) stanza b related (inr (this, g)) = first_relation_apart relations stanza b related g

  all_related : (stanza : Stanza) (d : List (List Atom)) (c : List Atom) (p : List Provide) → ReadsRelations stanza d c p → (relation : RelationField)
      → IsRelated relation stanza
  all_related stanza d c p reads PreDepends = (reads.pre_depends, reads.reads_pre_depends)
  all_related stanza d c p reads Depends = (reads.other_depends, reads.reads_depends)
  all_related stanza d c p reads Conflicts = (reads.conflicts_alone, reads.reads_conflicts)
  all_related stanza d c p reads Breaks = (reads.breaks, reads.reads_breaks)
  all_related stanza d c p reads Provides = (p, reads.reads_provides)

  depends_one : (stanza : Stanza) (d e : List (List Atom)) (c k : List Atom) (p q : List Provide) → ReadsRelations stanza d c p → ReadsRelations stanza e k q
      → e ≡ d
  depends_one stanza d e c k p q f g =
      let one = (depends _).one_reading g.pre_depends f.pre_depends g.reads_pre_depends f.reads_pre_depends in
      let two = (depends _).one_reading g.other_depends f.other_depends g.reads_depends f.reads_depends in
      g.depends_is ∙ ap (λ (x : List (List Atom)). x ++ g.other_depends) one ∙ ap (λ (x : List (List Atom)). f.pre_depends ++ x) two ∙ sym f.depends_is

  conflicts_one : (stanza : Stanza) (d e : List (List Atom)) (c k : List Atom) (p q : List Provide) → ReadsRelations stanza d c p → ReadsRelations stanza e k q
      → k ≡ c
  conflicts_one stanza d e c k p q f g =
      let one = (atoms _).one_reading g.conflicts_alone f.conflicts_alone g.reads_conflicts f.reads_conflicts in
      let two = (atoms _).one_reading g.breaks f.breaks g.reads_breaks f.reads_breaks in
      g.conflicts_is ∙ ap (λ (x : List Atom). x ++ g.breaks) one ∙ ap (λ (x : List Atom). f.conflicts_alone ++ x) two ∙ sym f.conflicts_is

  provides_one : (stanza : Stanza) (d e : List (List Atom)) (c k : List Atom) (p q : List Provide) → ReadsRelations stanza d c p → ReadsRelations stanza e k q
      → q ≡ p
  provides_one stanza d e c k p q f g = (provides _).one_reading q p g.reads_provides f.reads_provides

-- ---- faults that are looked for one after another

-- where the first kind of fault excludes the reading that the second needs, and each kind is one
chain_one : (F G : Fault → Type 0) (R : Type 0) → ((a b : Fault) → F a → F b → b ≡ a) → ((a : Fault) → R → ¬ F a) → ((a b : Fault) → G a → G b → b ≡ a)
    → (a b : Fault) → F a ⊎ (R × G a) → F b ⊎ (R × G b) → b ≡ a
chain_one F G R one apart more a b (inl f) (inl g) = one a b f g
chain_one F G R one apart more a b (inl f) (inr (r, g)) = absurd (apart a r f)
chain_one F G R one apart more a b (inr (r, f)) (inl g) = absurd (apart b r g)
chain_one F G R one apart more a b (inr (r, f)) (inr (q, g)) = more a b f g

-- ---- the package

same_package : (p q : Package) → q.name ≡ p.name → q.version ≡ p.version → q.source ≡ p.source → q.source_version ≡ p.source_version → q.depends ≡ p.depends
    → q.conflicts ≡ p.conflicts → q.provides ≡ p.provides → q.essential ≡ p.essential → q ≡ p
same_package p q name version source source_version depends conflicts provides essential =
    let mk : List ℕ → List ℕ → List ℕ → List ℕ → List (List Atom) → List Atom → List Provide → Bool → Package =
    λ n v s sv d c r e. record { name = n; version = v; source = s; source_version = sv; depends = d; conflicts = c; provides = r; essential = e } in
    ap (λ (n : List ℕ). mk n q.version q.source q.source_version q.depends q.conflicts q.provides q.essential) name
    ∙ ap (λ (v : List ℕ). mk p.name v q.source q.source_version q.depends q.conflicts q.provides q.essential) version
    ∙ ap (λ (s : List ℕ). mk p.name p.version s q.source_version q.depends q.conflicts q.provides q.essential) source
    ∙ ap (λ (sv : List ℕ). mk p.name p.version p.source sv q.depends q.conflicts q.provides q.essential) source_version
    ∙ ap (λ (d : List (List Atom)). mk p.name p.version p.source p.source_version d q.conflicts q.provides q.essential) depends
    ∙ ap (λ (c : List Atom). mk p.name p.version p.source p.source_version p.depends c q.provides q.essential) conflicts
    ∙ ap (λ (r : List Provide). mk p.name p.version p.source p.source_version p.depends p.conflicts r q.essential) provides
    ∙ ap (λ (e : Bool). mk p.name p.version p.source p.source_version p.depends p.conflicts p.provides e) essential

-- ---- a clash

kept_at : (earlier : List Read) (p : Package) (line : ℕ) (f : IsClash earlier p line) → get_or earlier (length f.before) f.kept ≡ f.kept
kept_at earlier p line f = ap (λ (rs : List Read). get_or rs (length f.before) f.kept) f.pieces ∙ get_or-append_seam f.before f.kept f.after f.kept

not_earlier : (earlier : List Read) (p : Package) (l m : ℕ) (f : IsClash earlier p l) (g : IsClash earlier p m) → ¬ (length f.before < length g.before)
not_earlier earlier p l m f g less =
    let at : get_or earlier (length f.before) f.kept ≡ get_or g.before (length f.before) f.kept =
    ap (λ (rs : List Read). get_or rs (length f.before) f.kept) g.pieces ∙ get_or_append_left g.before (g.kept ∷ g.after) f.kept (length f.before) less in
    g.first (length f.before) f.kept less (subst (λ (r : Read). IsSamePackage r.package_ p) (sym (kept_at earlier p l f) ∙ at) f.same)

same_kept : (earlier : List Read) (p : Package) (l m : ℕ) (f : IsClash earlier p l) (g : IsClash earlier p m) → length g.before ≡ length f.before
    → g.kept ≡ f.kept
same_kept earlier p l m f g same =
    let seam : get_or earlier (length g.before) f.kept ≡ g.kept =
    ap (λ (rs : List Read). get_or rs (length g.before) f.kept) g.pieces ∙ get_or-append_seam g.before g.kept g.after f.kept in
    sym seam ∙ ap (λ (n : ℕ). get_or earlier n f.kept) same ∙ kept_at earlier p l f

clash_one : (earlier : List Read) (p : Package) (l m : ℕ) → IsClash earlier p l → IsClash earlier p m → m ≡ l
clash_one earlier p l m f g =
    let a = not_earlier earlier p l m f g in
    let b = not_earlier earlier p m l g f in
    let same : length g.before ≡ length f.before = elim (cases_lt (length f.before) (length g.before)) [
      | inl less ↦ absurd (a less)
      | inr past ↦ elim (cases_lt (length g.before) (length f.before)) [
        | inl less ↦ absurd (b less)
        | inr before ↦ omega (arith, past, before)
      ]
    ] in
    g.line_is ∙ ap (λ (r : Read). r.line) (same_kept earlier p l m f g same) ∙ sym f.line_is

-- ---- the stanza

line_fault_one : (error : ControlError) (a b : Fault) → IsLineFault error a → IsLineFault error b → b ≡ a
line_fault_one (errors.NoColon line) a b f g = g ∙ sym f
line_fault_one (errors.BadFieldName line) a b f g = g ∙ sym f
line_fault_one (errors.OrphanContinuation line) a b f g = g ∙ sym f
line_fault_one (errors.DoubleField line) a b f g = g ∙ sym f
line_fault_one errors.NoMemory a b f g = absurd f

module _ (stanzas : (raw : RawStanza) → IsExactStanza raw) (texts : (text : List ℕ) → IsExact (ReadsVersion text) (IsTextFault text))
    (depends : (value : List ℕ) → IsExact (ReadsDepends value) (FirstDependsFault value))
    (atoms : (value : List ℕ) → IsExact (ReadsAtoms value) (FirstAtomsFault value))
    (provides : (value : List ℕ) → IsExact (ReadsProvides value) (FirstProvidesFault value)) where
  field_fault_one : (earlier : Option (List ℕ)) (stanza : Stanza) (a b : Fault) → HasFieldFault earlier stanza a → HasFieldFault earlier stanza b → b ≡ a
  field_fault_one earlier stanza =
      chain_one (HasNameFault stanza) _ ((name : List ℕ) × ReadsName stanza name) (name_fault_one stanza) (λ a r. name_apart stanza r.0 a r.1)
      (chain_one (HasVersionFault stanza) _ ((version : List ℕ) × ReadsVersionField stanza version) (version_fault_one texts stanza)
      (λ a r. version_apart texts stanza r.0 a r.1)
      (chain_one (HasSourceFault stanza) _ ((name version source source_version : List ℕ) × ReadsSource stanza name version source source_version)
      (source_fault_one texts stanza)
      (λ a r. source_apart texts stanza r.0 r.1 r.2 r.3 a r.4)
      (chain_one (HasArchitectureFault earlier stanza) (HasFirstRelationFault relation_fields stanza)
      ((architecture : List ℕ) × ReadsArchitecture earlier stanza architecture)
      (architecture_fault_one earlier stanza) (λ a r. architecture_apart earlier stanza r.0 a r.1)
      (first_relation_one depends atoms provides relation_fields stanza))))

  field_fault_apart : (earlier : Option (List ℕ)) (stanza : Stanza) (p : Package) (architecture : List ℕ) (b : Fault)
      → IsPackageOf earlier stanza p architecture
      → ¬ HasFieldFault earlier stanza b
  field_fault_apart earlier stanza p architecture b of (inl name) = name_apart stanza p.name b of.name name
  field_fault_apart earlier stanza p architecture b of (inr (r, inl version)) = version_apart texts stanza p.version b of.version version
  field_fault_apart earlier stanza p architecture b of (inr (r, inr (s, inl source))) =
      source_apart texts stanza p.name p.version p.source p.source_version b of.source source
  field_fault_apart earlier stanza p architecture b of (inr (r, inr (s, inr (t, inl place)))) = architecture_apart earlier stanza architecture b of.place place
  field_fault_apart earlier stanza p architecture b of (inr (r, inr (s, inr (t, inr (u, relations))))) =
      first_relation_apart depends atoms provides relation_fields stanza b
      (all_related depends atoms provides stanza p.depends p.conflicts p.provides of.relations) relations

  package_one : (earlier : Option (List ℕ)) (stanza : Stanza) (p q : Package) (a b : List ℕ) → IsPackageOf earlier stanza p a → IsPackageOf earlier stanza q b
      → q ≡ p
  package_one earlier stanza p q a b f g =
      let name = name_one stanza p.name q.name f.name g.name in
      let version = version_one texts stanza p.version q.version f.version g.version in
      let source = source_one texts stanza p.name p.version p.source q.source p.source_version q.source_version f.source
      (subst (λ (n : List ℕ). ReadsSource stanza n p.version q.source q.source_version) name
      (subst (λ (v : List ℕ). ReadsSource stanza q.name v q.source q.source_version) version g.source)) in
      same_package p q name version source.0 source.1
      (depends_one depends atoms provides stanza p.depends q.depends p.conflicts q.conflicts p.provides q.provides f.relations g.relations)
      (conflicts_one depends atoms provides stanza p.depends q.depends p.conflicts q.conflicts p.provides q.provides f.relations g.relations)
      (provides_one depends atoms provides stanza p.depends q.depends p.conflicts q.conflicts p.provides q.provides f.relations g.relations)
      (same_flag p.essential q.essential _ f.essential g.essential)

  has_one : (earlier : List Read) (raw : RawStanza) (a b : Read) → HasPackage earlier raw a → HasPackage earlier raw b → b ≡ a
  has_one earlier raw a b f g =
      let stanza = (stanzas raw).one_reading g.stanza f.stanza g.reading f.reading in
      let of = subst (λ (s : Stanza). IsPackageOf (architecture_of earlier) s b.package_ b.architecture) stanza g.is_package in
      same_read earlier a b (g.line_is ∙ sym f.line_is)
      (package_one (architecture_of earlier) f.stanza a.package_ b.package_ a.architecture b.architecture f.is_package of)
      (architecture_one (architecture_of earlier) f.stanza a.architecture b.architecture f.is_package.place of.place)

  -- one raw stanza reads as one package
  pub one_read : (earlier : List Read) (raw : RawStanza) (a b : Read) → ReadsAs earlier raw a → ReadsAs earlier raw b → b ≡ a
  one_read earlier raw a b f g = has_one earlier raw a b f.has g.has

  -- and one that reads has no fault
  pub apart : (earlier : List Read) (raw : RawStanza) (a : Read) (b : Fault) → ReadsAs earlier raw a → ¬ HasStanzaFault earlier raw b
  apart earlier raw a b f (inl (error, has, is)) = (stanzas raw).never_both f.has.stanza error f.has.reading has
  apart earlier raw a b f (inr (inl (stanza, reading, has))) =
      field_fault_apart (architecture_of earlier) f.has.stanza a.package_ a.architecture b f.has.is_package
      (subst (λ (s : Stanza). HasFieldFault (architecture_of earlier) s b) ((stanzas raw).one_reading stanza f.has.stanza reading f.has.reading) has)
  apart earlier raw a b f (inr (inr (read, line, has, clash, is))) =
      f.free line (subst (λ (r : Read). IsClash earlier r.package_ line) (has_one earlier raw a read f.has has) clash)

  -- one raw stanza has one fault
  pub one_fault : (earlier : List Read) (raw : RawStanza) (a b : Fault) → HasStanzaFault earlier raw a → HasStanzaFault earlier raw b → b ≡ a
  one_fault earlier raw a b (inl (error, has, is)) (inl (error', has', is')) =
      line_fault_one error a b is (subst (λ (e : ControlError). IsLineFault e b) ((stanzas raw).one_fault error' error has' has) is')
  one_fault earlier raw a b (inl (error, has, is)) (inr (inl (stanza, reading, fault))) = absurd ((stanzas raw).never_both stanza error reading has)
  one_fault earlier raw a b (inl (error, has, is)) (inr (inr (read, line, stands, clash, is'))) =
      absurd ((stanzas raw).never_both stands.stanza error stands.reading has)
  one_fault earlier raw a b (inr (inl (stanza, reading, fault))) (inl (error, has, is)) = absurd ((stanzas raw).never_both stanza error reading has)
  one_fault earlier raw a b (inr (inr (read, line, stands, clash, is'))) (inl (error, has, is)) =
      absurd ((stanzas raw).never_both stands.stanza error stands.reading has)
  one_fault earlier raw a b (inr (inl (stanza, reading, fault))) (inr (inl (stanza', reading', fault'))) =
      field_fault_one (architecture_of earlier) stanza a b fault
      (subst (λ (s : Stanza). HasFieldFault (architecture_of earlier) s b) ((stanzas raw).one_reading stanza' stanza reading' reading) fault')
  one_fault earlier raw a b (inr (inl (stanza, reading, fault))) (inr (inr (read, line, stands, clash, is))) =
      absurd (field_fault_apart (architecture_of earlier) stands.stanza read.package_ read.architecture a stands.is_package
      (subst (λ (s : Stanza). HasFieldFault (architecture_of earlier) s a) ((stanzas raw).one_reading stanza stands.stanza reading stands.reading) fault))
  one_fault earlier raw a b (inr (inr (read, line, stands, clash, is))) (inr (inl (stanza, reading, fault))) =
      absurd (field_fault_apart (architecture_of earlier) stands.stanza read.package_ read.architecture b stands.is_package
      (subst (λ (s : Stanza). HasFieldFault (architecture_of earlier) s b) ((stanzas raw).one_reading stanza stands.stanza reading stands.reading) fault))
  one_fault earlier raw a b (inr (inr (read, line, stands, clash, is))) (inr (inr (read', line', stands', clash', is'))) =
      let same = has_one earlier raw read read' stands stands' in
      let one = clash_one earlier read.package_ line line' clash (subst (λ (r : Read). IsClash earlier r.package_ line') same clash') in
      is' ∙ ap (λ (l : ℕ). fault_on raw.line (Clash l)) one ∙ sym is
