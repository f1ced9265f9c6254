-- Each stanza reads as a package or has a fault, and so each file has a repository or a reason why there is none.
use Rattle.std.proofs.Common.{◌≡◌, ◌≢◌, ◌⊎◌, ℕ, ◌+◌, ◌≤◌, Bool, true, false, cond, ◌==◌, eqb-true, List, [], ◌∷◌, ◌++◌, append_assoc, Option, None}
use Rattle.std.proofs.Common.{Some, Ordering, Less, Equal, Greater, length, take, get_or, refl, sym}
use Rattle.std.proofs.Common.{ap, ap₂, ◌∙◌, subst, inl, inr, unwrap_or, codes, arith, true≢false}
use Rattle.std.specs.List.{All, Contains}
use Rattle.std.specs.Str.{bytes_eq}
use Rattle.std.proofs.lemmas.Bool.{cases_Bool, cases_lt, eqb-false}
use Rattle.std.proofs.lemmas.List.{append-nil, length-append}
use Rattle.std.proofs.lemmas.List.Elements.{All-nil, All-push, All-contains}
use Rattle.std.proofs.Math.Seq.{get_or-append_seam}
use Rattle.std.proofs.lemmas.Slice.Eq.{bytes_eq-Decides}
use Rattle.dist_base.specs.Answers.{IsExact}
use Rattle.dist_control.specs.ControlText.{IsExactStanza}
use Rattle.dist_control.specs.FieldText.{FieldText}
use Rattle.dist_control.specs.Faults as control
use Rattle.dist_control.specs.RawStanza.{RawStanza, raw_stanzas}
use Rattle.dist_control.specs.declared.error.ControlError.{ControlError}
use Rattle.dist_control.specs.declared.error.ControlError.TheVariants as errors
use Rattle.dist_control.specs.declared.field_list.Stanza.{Stanza}
use Rattle.dist_relation.specs.Bytes.{IsName}
use Rattle.dist_relation.specs.Faults.{FirstDependsFault, FirstAtomsFault, FirstProvidesFault}
use Rattle.dist_relation.specs.Grammar.{ReadsDepends, ReadsAtoms, ReadsProvides}
use Rattle.dist_relation.specs.declared.error.RelationError.{RelationError}
use Rattle.dist_relation.specs.declared.error.RelationError.TheVariants as relations
use Rattle.dist_repo.specs.EqualityPrivate.{package_eq, packages_decide}
use Rattle.dist_repo.specs.Order.{IsSamePackage}
use Rattle.dist_repo.specs.PackageList.{PackageList}
use Rattle.dist_repo.specs.declared.package.Package.{Package}
use Rattle.dist_version.specs.Faults.{IsTextFault}
use Rattle.dist_version.specs.Order.{version_cmp}
use Rattle.dist_version.specs.Spelling.{ReadsVersion}
use Rattle.dist_package.specs.FirstFault.{Read, architecture_of, IsLineFault, IsRelated, HasFirstRelationFault, relation_fields, HasFieldFault, IsClash}
use Rattle.dist_package.specs.FirstFault.{HasPackage, ReadsAs, HasStanzaFault, AreReadAfter, AreRead, IsRefused}
use Rattle.dist_package.specs.Named.{field_named, value_of, IsFieldOf, fault_on, relation_field_name}
use Rattle.dist_package.specs.PackageOf.{ReadsName, HasNameFault, ReadsVersionField, HasVersionFault, ReadsSource, HasSourceFault, ReadsArchitecture}
use Rattle.dist_package.specs.PackageOf.{HasArchitectureFault, all, HasRelationFault, IsPackageOf}
use Rattle.dist_package.specs.RepositoryOf.{IsRepositoryOf}
use Rattle.dist_package.specs.Source.{name_part, version_part, IsInParentheses, ReadsVersionPart, IsNoVersionPart}
use Rattle.dist_package.specs.declared.error.Fault.{Fault}
use Rattle.dist_package.specs.declared.error.Kind.TheVariants.{NoPackage, BadPackageName, NoVersion}
use Rattle.dist_package.specs.declared.error.Kind.TheVariants.{BadVersionText, BadSource, BadArchitecture, TwoArchitectures, Clash}
use Rattle.dist_package.specs.declared.error.PackagesError.{PackagesError}
use Rattle.dist_package.specs.declared.error.PackagesError.TheVariants.{Bad, TooMany}
use Rattle.dist_package.specs.declared.error.RelationField.{RelationField}
use Rattle.dist_package.specs.declared.error.RelationField.TheVariants.{PreDepends, Depends, Conflicts, Breaks, Provides}
use Rattle.dist_package.proofs.OneReading.{two_cuts}
use Rattle.dist_package.proofs.Ordered.{AreOrdered, ordered_none, ordered_again, ordered_more}
use Rattle.dist_package.proofs.SoFar.{read-snoc}

-- ---- tests that decide

decided_test : (b : Bool) → (b ≡ true) ⊎ ¬ (b ≡ true)
decided_test true = inl refl
decided_test false = inr (λ e. true≢false (sym e))

decided_name : (bytes : List ℕ) → IsName bytes ⊎ ¬ IsName bytes
decided_name [] = inr (λ e. true≢false (sym e))
decided_name (b ∷ bs) = decided_test _

decided_bytes : (a b : List ℕ) → (a ≡ b) ⊎ (a ≢ b)
decided_bytes a b = elim (decided_test (bytes_eq a b)) [
  | inl same ↦ inl ((bytes_eq-Decides a b).0 same)
  | inr other ↦ inr (λ e. other ((bytes_eq-Decides a b).1 e))
]

decided_package : (p q : Package) → (p ≡ q) ⊎ (p ≢ q)
decided_package p q = elim (decided_test (package_eq p q)) [
  | inl same ↦ inl ((packages_decide p q).0 same)
  | inr other ↦ inr (λ e. other ((packages_decide p q).1 e))
]

decided_tie : (o : Ordering) → (o ≡ Equal) ⊎ (o ≢ Equal)
decided_tie Less = inr (λ e. cc)
decided_tie Equal = inl refl
decided_tie Greater = inr (λ e. cc)

decided_same : (p q : Package) → IsSamePackage p q ⊎ ¬ IsSamePackage p q
decided_same p q = elim (decided_bytes p.name q.name) [
  | inl name ↦ elim (decided_tie (version_cmp p.version q.version)) [
    | inl tie ↦ inl (name, tie)
    | inr other ↦ inr (λ same. other same.1)
  ]
  | inr other ↦ inr (λ same. other same.0)
]

-- ---- the name and the version

name_some : (stanza : Stanza) → ((name : List ℕ) × ReadsName stanza name) ⊎ ((fault : Fault) × HasNameFault stanza fault)
name_some stanza = of (field_named stanza (codes "Package")) refl
  where
    of : (o : Option FieldText) → field_named stanza (codes "Package") ≡ o
        → ((name : List ℕ) × ReadsName stanza name) ⊎ ((fault : Fault) × HasNameFault stanza fault)
    of None found = inr (fault_on stanza.line NoPackage, inl (found, refl))
    of (Some x) found =
        let field : IsFieldOf stanza (codes "Package") x.value x.line = record { field = x; found = found; value_is = refl; line_is = refl } in
        elim (decided_name x.value) [
          | inl named ↦ inl (x.value, record { line = x.line; field = field; is_name = named })
          | inr none ↦ inr (fault_on x.line BadPackageName, inr (record { value = x.value; line = x.line; field = field; none = none; fault_is = refl }))
        ]

module _ (texts : (text : List ℕ) → IsExact (ReadsVersion text) (IsTextFault text)) where
  version_some : (stanza : Stanza) → ((version : List ℕ) × ReadsVersionField stanza version) ⊎ ((fault : Fault) × HasVersionFault stanza fault)
  version_some stanza = of (field_named stanza (codes "Version")) refl
    where
      of : (o : Option FieldText) → field_named stanza (codes "Version") ≡ o
          → ((version : List ℕ) × ReadsVersionField stanza version) ⊎ ((fault : Fault) × HasVersionFault stanza fault)
      of None found = inr (fault_on stanza.line NoVersion, inl (found, refl))
      of (Some x) found =
          let field : IsFieldOf stanza (codes "Version") x.value x.line = record { field = x; found = found; value_is = refl; line_is = refl } in
          elim (texts x.value).some [
            | inl reads ↦ inl (reads.0, record { value = x.value; line = x.line; field = field; reads = reads.1 })
            | inr faulty ↦ inr (
              fault_on x.line (BadVersionText faulty.0),
              inr (record { value = x.value; line = x.line; error = faulty.0; field = field; has = faulty.1; fault_is = refl }),
            )
          ]

-- ---- the source

ends_so : (bytes : List ℕ) → ((inner : List ℕ) × (bytes ≡ inner ++ 41 ∷ [])) ⊎ ((inner : List ℕ) → ¬ (bytes ≡ inner ++ 41 ∷ []))
ends_so [] = inr never
  where
    never : (inner : List ℕ) → ¬ ([] ≡ inner ++ 41 ∷ [])
    never [] e = cc
    never (x ∷ inner) e = cc
ends_so (b ∷ []) = elim (cases_Bool (b == 41)) [
  | inl same ↦ inl ([], ap (λ x. x ∷ []) (eqb-true b 41 same))
  | inr other ↦ inr (never (eqb-false b 41 other))
]
  where
    never : b ≢ 41 → (inner : List ℕ) → ¬ (b ∷ [] ≡ inner ++ 41 ∷ [])
    never other [] e = other cc
    never other (x ∷ []) e = cc
    never other (x ∷ y ∷ inner) e = cc
ends_so (b ∷ c ∷ bs) = elim (ends_so (c ∷ bs)) [
  | inl found ↦ inl (b ∷ found.0, ap (λ x. b ∷ x) found.1)
  | inr none ↦ inr (never none)
]
  where
    never : ((inner : List ℕ) → ¬ (c ∷ bs ≡ inner ++ 41 ∷ [])) → (inner : List ℕ) → ¬ (b ∷ c ∷ bs ≡ inner ++ 41 ∷ [])
    never none [] e = cc
    never none (x ∷ inner) e = none inner cc

decided_parentheses : (part : List ℕ) → ((text : List ℕ) × IsInParentheses part text) ⊎ ((text : List ℕ) → ¬ IsInParentheses part text)
decided_parentheses [] = inr (λ text inside. let p = inside.parts in cc)
decided_parentheses (b ∷ bs) = elim (cases_Bool (b == 40)) [
  | inl same ↦ elim (ends_so bs) [
    | inl found ↦ inl (_, record { inner = found.0; parts = ap₂ ◌∷◌ (eqb-true b 40 same) found.1; text_is = refl })
    | inr none ↦ inr (λ text inside. none inside.inner (let p = inside.parts in cc))
  ]
  | inr other ↦ inr (λ text inside. eqb-false b 40 other (let p = inside.parts in cc))
]

module _ (texts : (text : List ℕ) → IsExact (ReadsVersion text) (IsTextFault text)) where
  part_some : (part : List ℕ) → ((version : Option (List ℕ)) × ReadsVersionPart part version) ⊎ IsNoVersionPart part
  part_some [] = inl (None, refl)
  part_some (b ∷ bs) = elim (decided_parentheses (b ∷ bs)) [
    | inr none ↦ inr (inl (λ e. cc, none))
    | inl found ↦ elim (texts found.0).some [
      | inl reads ↦ inl (Some reads.0, (found.0, found.1, reads.1))
      | inr faulty ↦ inr (inr (found.0, found.1, faulty))
    ]
  ]

  source_some : (stanza : Stanza) (name version : List ℕ)
      → ((source source_version : List ℕ) × ReadsSource stanza name version source source_version) ⊎ ((fault : Fault) × HasSourceFault stanza fault)
  source_some stanza name version = of (field_named stanza (codes "Source")) refl
    where
      of : (o : Option FieldText) → field_named stanza (codes "Source") ≡ o
          → ((source source_version : List ℕ) × ReadsSource stanza name version source source_version) ⊎ ((fault : Fault) × HasSourceFault stanza fault)
      of None found = inl (name, version, inl (found, refl, refl))
      of (Some x) found =
          let field : IsFieldOf stanza (codes "Source") x.value x.line = record { field = x; found = found; value_is = refl; line_is = refl } in
          elim (decided_name (name_part x.value)) [
            | inr none ↦ inr (
              fault_on x.line BadSource,
              record { value = x.value; line = x.line; field = field; none = inl none; fault_is = refl },
            )
            | inl named ↦ elim (part_some (version_part x.value)) [
              | inl part ↦ inl (
                name_part x.value,
                unwrap_or part.0 version,
                inr (
                  x.value,
                  x.line,
                  field,
                  record {
                    written = part.0;
                    spells = record { name_is = refl; is_name = named; version_is = part.1 };
                    version_is = refl;
                  },
                ),
              )
              | inr none ↦ inr (
                fault_on x.line BadSource,
                record { value = x.value; line = x.line; field = field; none = inr none; fault_is = refl },
              )
            ]
          ]

-- ---- the architecture

agreeing : (earlier : Option (List ℕ)) (value : List ℕ)
    → ((value ≡ all) ⊎ ((earlier ≡ None) ⊎ (earlier ≡ Some value))) ⊎ ((value ≢ all) × ((other : List ℕ) × (earlier ≡ Some other) × (other ≢ value)))
agreeing earlier value = elim (decided_bytes value all) [
  | inl is_all ↦ inl (inl is_all)
  | inr differs ↦ with earlier differs
]
  where
    with : (earlier : Option (List ℕ)) → value ≢ all
        → ((value ≡ all) ⊎ ((earlier ≡ None) ⊎ (earlier ≡ Some value))) ⊎ ((value ≢ all) × ((other : List ℕ) × (earlier ≡ Some other) × (other ≢ value)))
    with None differs = inl (inr (inl refl))
    with (Some other) differs = elim (decided_bytes other value) [
      | inl same ↦ inl (inr (inr (ap Some same)))
      | inr apart ↦ inr (differs, (other, refl, apart))
    ]

architecture_some : (earlier : Option (List ℕ)) (stanza : Stanza)
    → ((architecture : List ℕ) × ReadsArchitecture earlier stanza architecture) ⊎ ((fault : Fault) × HasArchitectureFault earlier stanza fault)
architecture_some earlier stanza = of (field_named stanza (codes "Architecture")) refl
  where
    of : (o : Option FieldText) → field_named stanza (codes "Architecture") ≡ o
        → ((architecture : List ℕ) × ReadsArchitecture earlier stanza architecture) ⊎ ((fault : Fault) × HasArchitectureFault earlier stanza fault)
    of None found = inl (all, record { given = inl (found, refl); agrees = inl refl })
    of (Some x) found =
        let field : IsFieldOf stanza (codes "Architecture") x.value x.line = record { field = x; found = found; value_is = refl; line_is = refl } in
        elim (decided_name x.value) [
          | inr none ↦ inr (
            fault_on x.line BadArchitecture,
            record { value = x.value; line = x.line; field = field; cause = inl (none, refl) },
          )
          | inl named ↦ elim (agreeing earlier x.value) [
            | inl agrees ↦ inl (x.value, record { given = inr (x.line, field, named); agrees = agrees })
            | inr apart ↦ inr (
              fault_on x.line TwoArchitectures,
              record { value = x.value; line = x.line; field = field; cause = inr (named, apart.0, apart.1, refl) },
            )
          ]
        ]

-- ---- the fields

-- each of these fields has a reading
abbrev AreRelated : List RelationField → Stanza → Type 0
AreRelated [] stanza = Unit {0}
AreRelated (relation ∷ relations) stanza = IsRelated relation stanza × AreRelated relations stanza

abbrev IsFree : (List ℕ → RelationError → Type 0) → Type 0
IsFree FirstFault = (value : List ℕ) (error : RelationError) → FirstFault value error → error ≢ relations.NoMemory

module _ (texts : (text : List ℕ) → IsExact (ReadsVersion text) (IsTextFault text))
    (depends : (value : List ℕ) → IsExact (ReadsDepends value) (FirstDependsFault value))
    (atoms : (value : List ℕ) → IsExact (ReadsAtoms value) (FirstAtomsFault value))
    (provides : (value : List ℕ) → IsExact (ReadsProvides value) (FirstProvidesFault value))
    (depends_free : IsFree FirstDependsFault) (atoms_free : IsFree FirstAtomsFault) (provides_free : IsFree FirstProvidesFault) where
  relation_some : (stanza : Stanza) (relation : RelationField) → IsRelated relation stanza ⊎ ((fault : Fault) × HasRelationFault stanza relation fault)
  relation_some stanza PreDepends = elim (depends (value_of stanza (relation_field_name PreDepends))).some [
    | inl reads ↦ inl reads
    | inr faulty ↦ inr (_, (faulty.0, faulty.1, depends_free _ faulty.0 faulty.1, refl))
  ]
  relation_some stanza Depends = elim (depends (value_of stanza (relation_field_name Depends))).some [
    | inl reads ↦ inl reads
    | inr faulty ↦ inr (_, (faulty.0, faulty.1, depends_free _ faulty.0 faulty.1, refl))
  ]
  relation_some stanza Conflicts = elim (atoms (value_of stanza (relation_field_name Conflicts))).some [
    | inl reads ↦ inl reads
    | inr faulty ↦ inr (_, (faulty.0, faulty.1, atoms_free _ faulty.0 faulty.1, refl))
  ]
  relation_some stanza Breaks = elim (atoms (value_of stanza (relation_field_name Breaks))).some [
    | inl reads ↦ inl reads
    | inr faulty ↦ inr (_, (faulty.0, faulty.1, atoms_free _ faulty.0 faulty.1, refl))
  ]
  relation_some stanza Provides = elim (provides (value_of stanza (relation_field_name Provides))).some [
    | inl reads ↦ inl reads
    | inr faulty ↦ inr (_, (faulty.0, faulty.1, provides_free _ faulty.0 faulty.1, refl))
  ]

  relations_some : (relations : List RelationField) (stanza : Stanza)
      → AreRelated relations stanza ⊎ ((fault : Fault) × HasFirstRelationFault relations stanza fault)
  relations_some [] stanza = inl tt
  relations_some (relation ∷ relations) stanza = elim (relation_some stanza relation) [
    | inr faulty ↦ inr (faulty.0, inl faulty.1)
    | inl reads ↦ elim (relations_some relations stanza) [
      | inl others ↦ inl (reads, others)
      | inr faulty ↦ inr (faulty.0, inr (reads, faulty.1))
    ]
  ]

  package_of : (earlier : Option (List ℕ)) (stanza : Stanza) (name version source source_version architecture : List ℕ) → ReadsName stanza name
      → ReadsVersionField stanza version → ReadsSource stanza name version source source_version → ReadsArchitecture earlier stanza architecture
      → AreRelated relation_fields stanza → (p : Package) × IsPackageOf earlier stanza p architecture
  package_of earlier stanza name version source source_version architecture n v s a (pre, (own, (conflicts, (breaks, (entries, _))))) =
      let yes : List ℕ = codes "yes" in
      let essential = value_of stanza (codes "Essential") in (
        record {
          name = name;
          version = version;
          source = source;
          source_version = source_version;
          depends = pre.0 ++ own.0;
          conflicts = conflicts.0 ++ breaks.0;
          provides = entries.0;
          essential = bytes_eq essential yes;
        },
        record {
          name = n;
          version = v;
          source = s;
          place = a;
          relations = record {
            pre_depends = pre.0;
            other_depends = own.0;
            conflicts_alone = conflicts.0;
            breaks = breaks.0;
            reads_pre_depends = pre.1;
            reads_depends = own.1;
            reads_conflicts = conflicts.1;
            reads_breaks = breaks.1;
            reads_provides = entries.1;
            depends_is = refl;
            conflicts_is = refl;
          };
          essential = bytes_eq-Decides essential yes;
        },
      )

  fields_some : (earlier : Option (List ℕ)) (stanza : Stanza)
      → ((p : Package) × (architecture : List ℕ) × IsPackageOf earlier stanza p architecture) ⊎ ((fault : Fault) × HasFieldFault earlier stanza fault)
  fields_some earlier stanza = elim (name_some stanza) [
    | inr faulty ↦ inr (faulty.0, inl faulty.1)
    | inl n ↦ elim (version_some texts stanza) [
      | inr faulty ↦ inr (faulty.0, inr (n, inl faulty.1))
      | inl v ↦ elim (source_some texts stanza n.0 v.0) [
        | inr faulty ↦ inr (faulty.0, inr (n, inr (v, inl faulty.1)))
        | inl s ↦ elim (architecture_some earlier stanza) [
          | inr faulty ↦ inr (faulty.0, inr (n, inr (v, inr ((n.0, v.0, s.0, s.1, s.2), inl faulty.1))))
          | inl a ↦ elim (relations_some relation_fields stanza) [
            | inr faulty ↦ inr (faulty.0, inr (n, inr (v, inr ((n.0, v.0, s.0, s.1, s.2), inr (a, faulty.1)))))
            | inl r ↦
                let p = package_of earlier stanza n.0 v.0 s.0 s.1 a.0 n.1 v.1 s.2 a.1 r in
                inl (p.0, a.0, p.1)
          ]
        ]
      ]
    ]
  ]

-- ---- earlier packages of a name and an equal version

-- the first of the reads that has this name and an equal version
record FirstSame (reads : List Read) (p : Package) : Type 0 where
  before : List Read
  kept : Read
  after : List Read
  pieces : reads ≡ before ++ kept ∷ after
  first : All (λ read. ¬ IsSamePackage read.package_ p) before
  same : IsSamePackage kept.package_ p

abbrev IsFresh : Package → List Read → Type 0
IsFresh p reads = All (λ read. ¬ IsSamePackage read.package_ p) reads

first_same : (seen rest : List Read) (p : Package) → IsFresh p seen → FirstSame (seen ++ rest) p ⊎ IsFresh p (seen ++ rest)
first_same seen [] p fresh = inr (subst (IsFresh p) (sym (append-nil seen)) fresh)
first_same seen (read ∷ rest) p fresh = elim (decided_same read.package_ p) [
  | inl same ↦ inl (record { before = seen; kept = read; after = rest; pieces = refl; first = fresh; same = same })
  | inr other ↦
      let whole : (seen ++ read ∷ []) ++ rest ≡ seen ++ read ∷ rest = append_assoc seen (read ∷ []) rest in
      elim (first_same (seen ++ read ∷ []) rest p (All-push (λ r. ¬ IsSamePackage r.package_ p) seen read fresh other)) [
        | inl found ↦ inl (subst (λ (l : List Read). FirstSame l p) whole found)
        | inr none ↦ inr (subst (IsFresh p) whole none)
      ]
]

-- what stands in the middle of a list is one of it
middle : (before after : List Read) (x : Read) → Contains (before ++ x ∷ after) x
middle before after x = (length before, omega (arith, length-append before (x ∷ after)), get_or-append_seam before x after x)

-- it is the one that a clash tells of
clash_at_first : (reads : List Read) (p : Package) (line : ℕ) (f : FirstSame reads p) (clash : IsClash reads p line) → f.kept ≡ clash.kept
clash_at_first reads p line f clash = elim (two_cuts f.before f.after clash.before clash.after f.kept clash.kept (sym f.pieces ∙ clash.pieces)) [
  | inl same ↦ same.1
  | inr apart ↦ elim apart [
    | inl (between, behind) ↦ absurd (All-contains (λ r. ¬ IsSamePackage r.package_ p) clash.before f.kept clash.first
        (subst (λ (l : List Read). Contains l f.kept) (sym behind) (middle f.before between f.kept)) f.same)
    | inr (between, ahead) ↦ absurd (All-contains (λ r. ¬ IsSamePackage r.package_ p) f.before clash.kept f.first
        (subst (λ (l : List Read). Contains l clash.kept) (sym ahead) (middle clash.before between clash.kept)) clash.same)
  ]
]

fresh_is_free : (reads : List Read) (p : Package) (line : ℕ) → IsFresh p reads → ¬ IsClash reads p line
fresh_is_free reads p line fresh clash =
    All-contains (λ r. ¬ IsSamePackage r.package_ p) reads clash.kept fresh
    (subst (λ (l : List Read). Contains l clash.kept) (sym clash.pieces) (middle clash.before clash.after clash.kept)) clash.same

clash_free : (reads : List Read) (p : Package) → ((line : ℕ) → ¬ IsClash reads p line) ⊎ ((line : ℕ) × IsClash reads p line)
clash_free reads p = elim (first_same [] reads p (All-nil (λ r. ¬ IsSamePackage r.package_ p))) [
  | inr fresh ↦ inl (λ line. fresh_is_free reads p line fresh)
  | inl f ↦ elim (decided_package f.kept.package_ p) [
    | inl same ↦ inl (λ line clash. clash.differs (ap (λ (r : Read). r.package_) (sym (clash_at_first reads p line f clash)) ∙ same))
    | inr differs ↦ inr (
      f.kept.line,
      record {
        before = f.before;
        kept = f.kept;
        after = f.after;
        pieces = f.pieces;
        first = f.first;
        same = f.same;
        differs = differs;
        line_is = refl;
      },
    )
  ]
]

-- a package without a clash was there, or its name and version are new
ordered_with : (earlier : List Read) (raw : RawStanza) (read : Read) → ReadsAs earlier raw read → AreOrdered earlier → AreOrdered (earlier ++ read ∷ [])
ordered_with earlier raw read reading o = elim (first_same [] earlier read.package_ (All-nil (λ r. ¬ IsSamePackage r.package_ read.package_))) [
  | inr fresh ↦ ordered_more earlier read o fresh
  | inl f ↦ elim (decided_package f.kept.package_ read.package_) [
    | inl same ↦
        let there = subst (λ (l : List Read). Contains l f.kept) (sym f.pieces) (middle f.before f.after f.kept) in
        ordered_again earlier read o (there.0, f.kept, there.1, there.2, same)
    | inr differs ↦ absurd (reading.free f.kept.line (record {
      before = f.before;
      kept = f.kept;
      after = f.after;
      pieces = f.pieces;
      first = f.first;
      same = f.same;
      differs = differs;
      line_is = refl;
    }))
  ]
]

ordered_after : (earlier : List Read) (raws : List RawStanza) (reads : List Read) → AreReadAfter earlier raws reads → AreOrdered earlier
    → AreOrdered (earlier ++ reads)
ordered_after earlier [] [] done o = subst AreOrdered (sym (append-nil earlier)) o
ordered_after earlier [] (x ∷ reads) done o = absurd done
ordered_after earlier (raw ∷ raws) [] done o = absurd done
ordered_after earlier (raw ∷ raws) (x ∷ reads) done o =
    subst AreOrdered (append_assoc earlier (x ∷ []) reads)
    (ordered_after (earlier ++ x ∷ []) raws reads done.1 (ordered_with earlier raw x done.0 o))

-- ---- faults of lines

cond_free : (b : Bool) (x y : Option ControlError) → x ≢ Some errors.NoMemory → y ≢ Some errors.NoMemory → cond b x y ≢ Some errors.NoMemory
cond_free true x y first second = first
cond_free false x y first second = second

abbrev IsOther : Option ControlError → Type 0
IsOther fault = fault ≢ Some errors.NoMemory

line_free : (number : ℕ) (before : List (List ℕ)) (line : List ℕ) → IsOther (control.line_fault number before line)
line_free number before line =
    cond_free _ _ _ (cond_free _ _ _ orphan none) (cond_free _ _ _ no_colon (cond_free _ _ _ bad_name (cond_free _ _ _ double none)))
  where
    none : IsOther None
    none e = cc

    orphan : IsOther (Some (errors.OrphanContinuation number))
    orphan e = cc

    no_colon : IsOther (Some (errors.NoColon number))
    no_colon e = cc

    bad_name : IsOther (Some (errors.BadFieldName number))
    bad_name e = cc

    double : IsOther (Some (errors.DoubleField number))
    double e = cc

line_some : (raw : RawStanza) (error : ControlError) → control.HasFault raw error → (fault : Fault) × IsLineFault error fault
line_some raw (errors.NoColon line) has = (_, refl)
line_some raw (errors.BadFieldName line) has = (_, refl)
line_some raw (errors.OrphanContinuation line) has = (_, refl)
line_some raw (errors.DoubleField line) has = (_, refl)
line_some raw errors.NoMemory has = absurd (line_free (raw.line + has.place) (take has.place raw.lines) (get_or raw.lines has.place []) has.fault)

-- ---- the stanza and the file

module _ (stanzas : (raw : RawStanza) → IsExactStanza raw) (texts : (text : List ℕ) → IsExact (ReadsVersion text) (IsTextFault text))
    (depends : (value : List ℕ) → IsExact (ReadsDepends value) (FirstDependsFault value))
    (atoms : (value : List ℕ) → IsExact (ReadsAtoms value) (FirstAtomsFault value))
    (provides : (value : List ℕ) → IsExact (ReadsProvides value) (FirstProvidesFault value))
    (depends_free : IsFree FirstDependsFault) (atoms_free : IsFree FirstAtomsFault) (provides_free : IsFree FirstProvidesFault) where
  stanza_some : (earlier : List Read) (raw : RawStanza) → ((read : Read) × ReadsAs earlier raw read) ⊎ ((fault : Fault) × HasStanzaFault earlier raw fault)
  stanza_some earlier raw = elim (stanzas raw).some [
    | inr (error, has) ↦
        let line = line_some raw error has in
        inr (line.0, inl (error, has, line.1))
    | inl (stanza, reading) ↦ elim (fields_some texts depends atoms provides depends_free atoms_free provides_free (architecture_of earlier) stanza) [
      | inr faulty ↦ inr (faulty.0, inr (inl (stanza, reading, faulty.1)))
      | inl (p, architecture, of) ↦
          let read : Read = record { line = raw.line; package_ = p; architecture = architecture } in
          let has : HasPackage earlier raw read = record { stanza = stanza; reading = reading; is_package = of; line_is = refl } in
          elim (clash_free earlier p) [
            | inl free ↦ inl (read, record { has = has; free = free })
            | inr clash ↦ inr (fault_on raw.line (Clash clash.0), inr (inr (read, clash.0, has, clash.1, refl)))
          ]
    ]
  ]

  -- the stanzas behind some that read, which are no more than the limit
  answered_from : (raws : List RawStanza) (limit : ℕ) (before : List RawStanza) (reads : List Read) (rest : List RawStanza) → raws ≡ before ++ rest
      → AreRead before reads → length reads ≤ limit
      → ((all_read : List Read) × AreRead raws all_read × (length all_read ≤ limit)) ⊎ ((error : PackagesError) × IsRefused raws limit error)
  answered_from raws limit before reads [] pieces done within =
      inl (reads, subst (λ (l : List RawStanza). AreRead l reads) (sym (pieces ∙ append-nil before)) done, within)
  answered_from raws limit before reads (raw ∷ rest) pieces done within = elim (cases_lt (length reads) limit) [
    | inr full ↦ inr (
      TooMany,
      record {
        raw = raw;
        reads = reads;
        up_to = record { before = before; after = rest; pieces = pieces; read = done };
        at_limit = omega (arith, full, within);
      },
    )
    | inl room ↦ elim (stanza_some reads raw) [
      | inr (fault, has) ↦ inr (
        Bad fault,
        record {
          raw = raw;
          reads = reads;
          up_to = record { before = before; after = rest; pieces = pieces; read = done };
          within = room;
          has = has;
        },
      )
      | inl (read, reading) ↦ answered_from raws limit (before ++ raw ∷ []) (reads ++ read ∷ []) rest
          (pieces ∙ sym (append_assoc before (raw ∷ []) rest)) (read-snoc [] before reads raw read done reading)
          (omega (arith, length-append reads (read ∷ []), room))
    ]
  ]

  pub answered : (text : List ℕ) (limit : ℕ)
      → ((repository : PackageList) × IsRepositoryOf text limit repository) ⊎ ((error : PackagesError) × IsRefused (raw_stanzas text) limit error)
  answered text limit = elim (answered_from (raw_stanzas text) limit [] [] (raw_stanzas text) refl tt (omega arith)) [
    | inr refused ↦ inr refused
    | inl (reads, done, within) ↦
        let o = ordered_after [] (raw_stanzas text) reads done ordered_none in
        inl (
          record { architecture = architecture_of reads; packages = o.packages },
          record {
            reads = reads;
            read = done;
            within = within;
            in_order = o.in_order;
            from_stanzas = o.from_reads;
            all_stanzas = o.all_reads;
            architecture = refl;
          },
        )
  ]
