-- The packages of a file have together at most as many atoms and entries as the file has bytes.
use Rattle.std.proofs.Common.{◌≡◌, ℕ, ◌+◌, ◌≤◌, Bool, true, false, cond, List, [], ◌∷◌, ◌++◌, Some, length, get_or, map, sum_by, refl, ap, ◌∙◌, subst, arith}
use Rattle.std.proofs.Common.{length-append}
use Rattle.std.specs.Prelude.{All, Any, Contains, find}
use Rattle.std.specs.Option.{option_map_or}
use Rattle.std.specs.Str.{bytes_eq}
use Rattle.std.proofs.lemmas.Bool.{cond-true, cond-false}
use Rattle.std.proofs.lemmas.List.{get_or-map, length-map}
use Rattle.std.proofs.lemmas.List.Sums.{sum_by-cons, sum_by-append}
use Rattle.std.proofs.lemmas.Slice.Eq.{bytes_eq-Decides}
use Rattle.dist_control.specs.FieldText.{FieldText}
use Rattle.dist_control.specs.Fields.{fields_from, folded, is_same_name, value_bytes}
use Rattle.dist_control.specs.RawStanza.{RawStanza, raw_stanzas}
use Rattle.dist_control.specs.declared.field_list.Stanza.{Stanza}
use Rattle.dist_relation.specs.Grammar.{ReadsDepends, ReadsAtoms, ReadsProvides}
use Rattle.dist_relation.specs.declared.atom.Atom.{Atom}
use Rattle.dist_relation.specs.declared.atom.Provide.{Provide}
use Rattle.dist_repo.specs.Order.{IsInOrder}
use Rattle.dist_repo.specs.PackageList.{PackageList}
use Rattle.dist_repo.specs.Size.{relations_of, relation_count}
use Rattle.dist_repo.specs.declared.package.Package.{Package}
use Rattle.dist_package.specs.FirstFault.{Read, AreReadAfter}
use Rattle.dist_package.specs.Named.{value_of, relation_field_name}
use Rattle.dist_package.specs.PackageOf.{ReadsRelations}
use Rattle.dist_package.specs.RepositoryOf.{IsRepositoryOf}
use Rattle.dist_package.specs.declared.error.RelationField.TheVariants.{PreDepends, Depends, Conflicts, Breaks, Provides}

-- ---- the values of fields of different names

abbrev value_in : List FieldText → List ℕ → List ℕ
value_in fields name = option_map_or (λ (field : FieldText). field.value) (find (λ field. is_same_name name field.name) fields) []

-- each name differs from those behind it, ASCII case apart
abbrev IsApart : List ℕ → List (List ℕ) → Type 0
IsApart name [] = Unit {0}
IsApart name (other ∷ others) = (bytes_eq (folded other) (folded name) ≡ false) × IsApart name others

abbrev AreApart : List (List ℕ) → Type 0
AreApart [] = Unit {0}
AreApart (name ∷ names) = IsApart name names × AreApart names

-- what a field adds to the values of a name
abbrev hit : FieldText → List ℕ → ℕ
hit field name = cond (is_same_name name field.name) (length field.value) 0

hits-none : (field : FieldText) (name : List ℕ) (others : List (List ℕ)) → IsApart name others → is_same_name name field.name ≡ true
    → sum_by (hit field) others ≡ 0
hits-none field name [] apart same = refl
hits-none field name (other ∷ others) apart same =
    let is : folded name ≡ folded field.name = (bytes_eq-Decides (folded name) (folded field.name)).0 same in
    let differs : is_same_name other field.name ≡ false = subst (λ (n : List ℕ). bytes_eq (folded other) n ≡ false) is apart.0 in
    omega (
      arith,
      sum_by-cons (hit field) other others,
      cond-false (is_same_name other field.name) (length field.value) 0 differs,
      hits-none field name others apart.1 same,
    )

hits-one : (field : FieldText) (names : List (List ℕ)) → AreApart names → sum_by (hit field) names ≤ length field.value
hits-one field [] apart = omega arith
hits-one field (name ∷ names) apart =
    let rest = hits-one field names apart.1 in
    let step : (b : Bool) → is_same_name name field.name ≡ b → sum_by (hit field) (name ∷ names) ≤ length field.value =
    λ b. elim b as (λ b. is_same_name name field.name ≡ b → sum_by (hit field) (name ∷ names) ≤ length field.value) [
      | true ↦ λ same. omega (
        arith,
        sum_by-cons (hit field) name names,
        cond-true (is_same_name name field.name) (length field.value) 0 same,
        hits-none field name names apart.0 same,
      )
      | false ↦ λ other. omega (arith, sum_by-cons (hit field) name names, cond-false (is_same_name name field.name) (length field.value) 0 other, rest)
    ] in
    step (is_same_name name field.name) refl

-- the value of one name, with one field more in front
value-step : (field : FieldText) (fields : List FieldText) (name : List ℕ)
    → length (value_in (field ∷ fields) name) ≤ hit field name + length (value_in fields name)
value-step field fields name =
    let rest = find (λ (f : FieldText). is_same_name name f.name) fields in
    let value : FieldText → List ℕ = λ f. f.value in
    elim (is_same_name name field.name) as (λ b. length (option_map_or value (cond b (Some field) rest) []) ≤ cond b (length field.value) 0
    + length (option_map_or value rest [])) [
      | true ↦ omega arith
      | false ↦ omega arith
    ]

values-step : (field : FieldText) (fields : List FieldText) (names : List (List ℕ)) →
    sum_by (λ name. length (value_in (field ∷ fields) name)) names ≤ sum_by (hit field) names + sum_by (λ name. length (value_in fields name)) names
values-step field fields [] = omega arith
values-step field fields (name ∷ names) =
    omega (
      arith,
      sum_by-cons (λ name. length (value_in (field ∷ fields) name)) name names,
      sum_by-cons (hit field) name names,
      sum_by-cons (λ name. length (value_in fields name)) name names,
      value-step field fields name,
      values-step field fields names,
    )

values-none : (names : List (List ℕ)) → sum_by (λ name. length (value_in [] name)) names ≡ 0
values-none [] = refl
values-none (name ∷ names) = omega (arith, sum_by-cons (λ name. length (value_in [] name)) name names, values-none names)

values-within : (fields : List FieldText) (names : List (List ℕ)) → AreApart names → sum_by (λ name. length (value_in fields name)) names ≤ value_bytes fields
values-within [] names apart = omega (arith, values-none names)
values-within (field ∷ fields) names apart =
    omega (
      arith,
      sum_by-cons (λ (f : FieldText). length f.value) field fields,
      values-step field fields names,
      hits-one field names apart,
      values-within fields names apart,
    )

-- ---- what stands in them

-- the packages that stanzas read as
abbrev packages_read : List Read → List Package
packages_read reads = map (λ (read : Read). read.package_) reads

all-read : (packages : List Package) (reads : List Read) → All (λ p. Any (λ read. read.package_ ≡ p) reads) packages
    → All (Contains (packages_read reads)) packages
all-read packages reads from k d within =
    let p = get_or packages k d in
    let a = from k d within in (
      a.0,
      omega (arith, a.2, length-map reads (λ (read : Read). read.package_)),
      get_or-map (λ (read : Read). read.package_) reads a.0 a.1 p a.2
          ∙ ap (λ (read : Read). read.package_) a.3 ∙ a.4,
    )

count-read : (reads : List Read) → relation_count (packages_read reads) ≡ sum_by (λ read. relations_of read.package_) reads
count-read [] = refl
count-read (read ∷ reads) =
    omega (
      arith,
      sum_by-cons relations_of read.package_ (packages_read reads),
      sum_by-cons (λ (read : Read). relations_of read.package_) read reads,
      count-read reads,
    )

module _ (depends : (value : List ℕ) (items : List (List Atom)) → ReadsDepends value items → sum_by (λ item. length item) items ≤ length value)
    (atoms : (value : List ℕ) (atoms : List Atom) → ReadsAtoms value atoms → length atoms ≤ length value)
    (provides : (value : List ℕ) (entries : List Provide) → ReadsProvides value entries → length entries ≤ length value)
    (relations : (packages whole : List Package) → IsInOrder packages → All (Contains whole) packages → relation_count packages ≤ relation_count whole)
    (texts : (text : List ℕ) → sum_by (λ raw. value_bytes (fields_from raw.line raw.lines)) (raw_stanzas text) ≤ length text) where
  package-within : (stanza : Stanza) (p : Package) → ReadsRelations stanza p.depends p.conflicts p.provides → relations_of p ≤ value_bytes stanza.fields
  package-within stanza p reads =
      let items : List (List Atom) → ℕ = sum_by (λ item. length item) in
      let names : List (List ℕ) = relation_field_name PreDepends ∷ relation_field_name Depends ∷ relation_field_name Conflicts ∷ relation_field_name Breaks
      ∷ relation_field_name Provides ∷ [] in
      omega (
        arith,
        values-within stanza.fields names ((refl, (refl, (refl, (refl, tt)))), ((refl, (refl, (refl, tt))), ((refl, (refl, tt)), ((refl, tt), (tt, tt))))),
        depends (value_of stanza (relation_field_name PreDepends)) reads.pre_depends reads.reads_pre_depends,
        depends (value_of stanza (relation_field_name Depends)) reads.other_depends reads.reads_depends,
        atoms (value_of stanza (relation_field_name Conflicts)) reads.conflicts_alone reads.reads_conflicts,
        atoms (value_of stanza (relation_field_name Breaks)) reads.breaks reads.reads_breaks,
        provides (value_of stanza (relation_field_name Provides)) p.provides reads.reads_provides,
        ap items reads.depends_is,
        sum_by-append (λ (item : List Atom). length item) reads.pre_depends reads.other_depends,
        ap length reads.conflicts_is,
        length-append reads.conflicts_alone reads.breaks,
      )

  reads-within : (earlier : List Read) (raws : List RawStanza) (reads : List Read) → AreReadAfter earlier raws reads →
      sum_by (λ read. relations_of read.package_) reads ≤ sum_by (λ raw. value_bytes (fields_from raw.line raw.lines)) raws
  reads-within earlier [] [] all = omega arith
  reads-within earlier [] (read ∷ reads) all = absurd all
  reads-within earlier (raw ∷ raws) [] all = absurd all
  reads-within earlier (raw ∷ raws) (read ∷ reads) all =
      let has = all.0.has in
      omega (
        arith,
        sum_by-cons (λ (read : Read). relations_of read.package_) read reads,
        sum_by-cons (λ (raw : RawStanza). value_bytes (fields_from raw.line raw.lines)) raw raws,
        package-within has.stanza read.package_ has.is_package.relations,
        ap value_bytes has.reading.fields,
        reads-within (earlier ++ read ∷ []) raws reads all.1,
      )

  pub bounded : (text : List ℕ) (limit : ℕ) (repository : PackageList) → IsRepositoryOf text limit repository → relation_count repository.packages ≤ length text
  bounded text limit repository is =
      omega (
        arith,
        relations repository.packages (packages_read is.reads) is.in_order (all-read repository.packages is.reads is.from_stanzas),
        count-read is.reads,
        reads-within [] (raw_stanzas text) is.reads is.read,
        texts text,
      )
