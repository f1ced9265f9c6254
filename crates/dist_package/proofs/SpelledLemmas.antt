-- What is read of a file is spelled with names and versions.
use Rattle.std.proofs.Common.{◌≡◌, ℕ, List, [], ◌∷◌, ◌++◌, Option, None, Some, inl, inr, refl, subst, sym, arith, unwrap_or}
use Rattle.std.specs.Prelude.{All, IfSome, filter_map}
use Rattle.std.proofs.lemmas.List.Elements.{All-append, All-cons, All-contains, All-nil, All-tail}
use Rattle.dist_base.specs.Ascii.{bar, comma}
use Rattle.dist_control.specs.RawStanza.{RawStanza, raw_stanzas}
use Rattle.dist_control.specs.declared.field_list.Stanza.{Stanza}
use Rattle.dist_version.specs.Spelling.{IsVersion}
use Rattle.dist_relation.specs.Bytes.{IsName}
use Rattle.dist_relation.specs.Grammar.{Joined, ReadsValue, ReadsAtoms, ReadsDepends, ReadsProvides, SpellsAtom, SpellsBoundOf, SpellsPiece}
use Rattle.dist_relation.specs.Grammar.{SpellsProvide, atom_of}
use Rattle.dist_relation.specs.declared.atom.Atom.{Atom}
use Rattle.dist_relation.specs.declared.atom.Bound.{Bound}
use Rattle.dist_relation.specs.declared.atom.Provide.{Provide}
use Rattle.dist_repo.specs.PackageList.{PackageList}
use Rattle.dist_repo.specs.declared.package.Package.{Package}
use Rattle.dist_package.specs.FirstFault.{AreReadAfter, Read}
use Rattle.dist_package.specs.PackageOf.{IsPackageOf, ReadsSource}
use Rattle.dist_package.specs.RepositoryOf.{IsRepositoryOf}
use Rattle.dist_package.specs.Source.{ReadsVersionPart, version_part}
use Rattle.dist_package.specs.Spelled.{IsSpelled, IsSpelledAtom, IsSpelledEntry}

-- ---- relations

joined-all : {X : Type 0} (between : ℕ) (Spells : List ℕ → X → Type 0) (P : X → Type 0) → ((text : List ℕ) (x : X) → Spells text x → P x)
    → (text : List ℕ) (xs : List X) → Joined between Spells text xs → All P xs
joined-all between Spells P each text [] joined = All-nil P
joined-all between Spells P each text (x ∷ []) joined = All-cons P x [] (each text x joined) (All-nil P)
joined-all between Spells P each text (x ∷ y ∷ ys) joined =
    All-cons P x (y ∷ ys) (each joined.0 x joined.2) (joined-all between Spells P each joined.1 (y ∷ ys) joined.3)

piece : {X : Type 0} (Spells : List ℕ → X → Type 0) (P : X → Type 0) → ((text : List ℕ) (x : X) → Spells text x → P x) → (text : List ℕ) (o : Option X)
    → SpellsPiece Spells text o → IfSome o P
piece Spells P each text None spells = tt
piece Spells P each text (Some x) spells = each text x spells

given-all : {X : Type 0} (P : X → Type 0) (pieces : List (Option X)) → All (λ o. IfSome o P) pieces → All P (filter_map (λ o. o) pieces)
given-all P [] all = All-nil P
given-all P (None ∷ pieces) all = given-all P pieces (All-tail (λ o. IfSome o P) None pieces all)
given-all P (Some x ∷ pieces) all = All-cons P x (filter_map (λ o. o) pieces) (all 0 None (omega arith))
    (given-all P pieces (All-tail (λ o. IfSome o P) (Some x) pieces all))

reads-all : {X : Type 0} {Spells : List ℕ → X → Type 0} (P : X → Type 0) → ((text : List ℕ) (x : X) → Spells text x → P x) → (value : List ℕ) (items : List X)
    → ReadsValue Spells value items → All P items
reads-all {Spells = Spells} P each value items reads =
    subst (All P) (sym reads.given) (given-all P reads.pieces
    (joined-all comma (SpellsPiece Spells) (λ o. IfSome o P) (piece Spells P each) value reads.pieces reads.joined))

bound-version : (kind : _) (text : List ℕ) (bound : Option Bound) → SpellsBoundOf kind text bound → IfSome bound (λ b. IsVersion b.version)
bound-version kind text None spells = tt
bound-version kind text (Some bound) spells = spells.is_version

spelled-atom : (kind : _) (text : List ℕ) (atom : Atom) → SpellsAtom kind text atom → IsSpelledAtom atom
spelled-atom kind text atom spells = (spells.is_name, bound-version kind spells.bound atom.bound spells.is_bound)

entry-version : (version : Option (List ℕ)) (entry : Provide) → entry.version ≡ version → IfSome (atom_of entry).bound (λ b. IsVersion b.version)
    → IfSome version IsVersion
entry-version None entry is own = tt
entry-version (Some version) entry is own =
    let Of : Option (List ℕ) → Type 0 = λ o. IfSome (atom_of (record { name = entry.name; qualifier = entry.qualifier; version = o })).bound
    (λ b. IsVersion b.version) in
    subst Of is own

spelled-entry : (text : List ℕ) (entry : Provide) → SpellsProvide text entry → IsSpelledEntry entry
spelled-entry text entry spells =
    let own = spelled-atom _ text (atom_of entry) spells in
    (own.0, entry-version entry.version entry refl own.1)

spelled-items : (value : List ℕ) (items : List (List Atom)) → ReadsDepends value items → All (λ item. All IsSpelledAtom item) items
spelled-items value items reads =
    reads-all (λ item. All IsSpelledAtom item) (λ text atoms spells. joined-all bar _ IsSpelledAtom (λ part atom one. spelled-atom _ part atom one) text atoms
    spells) value items reads

spelled-atoms : (value : List ℕ) (atoms : List Atom) → ReadsAtoms value atoms → All IsSpelledAtom atoms
spelled-atoms value atoms reads = reads-all IsSpelledAtom (λ text atom spells. spelled-atom _ text atom spells) value atoms reads

spelled-entries : (value : List ℕ) (entries : List Provide) → ReadsProvides value entries → All IsSpelledEntry entries
spelled-entries value entries reads = reads-all IsSpelledEntry spelled-entry value entries reads

-- ---- a package

version-part : (part : List ℕ) (written : Option (List ℕ)) (version : List ℕ) → ReadsVersionPart part written → IsVersion version
    → IsVersion (unwrap_or written version)
version-part part None version reads own = own
version-part part (Some text) version reads own = subst IsVersion (sym reads.2.0) reads.2.1

spelled-source : (stanza : Stanza) (name version source source_version : List ℕ) → IsName name → IsVersion version
    → ReadsSource stanza name version source source_version → IsName source × IsVersion source_version
spelled-source stanza name version source source_version is_name is_version (inl absent) =
    (subst IsName (sym absent.1) is_name, subst IsVersion (sym absent.2) is_version)
spelled-source stanza name version source source_version is_name is_version (inr there) =
    let of = there.3 in
    (of.spells.is_name, subst IsVersion (sym of.version_is) (version-part (version_part there.0) of.written version of.spells.version_is is_version))

spelled-package : (earlier : Option (List ℕ)) (stanza : Stanza) (p : Package) (architecture : List ℕ) → IsPackageOf earlier stanza p architecture → IsSpelled p
spelled-package earlier stanza p architecture is =
    let name = is.name.is_name in
    let version = subst IsVersion (sym is.version.reads.0) is.version.reads.1 in
    let source = spelled-source stanza p.name p.version p.source p.source_version name version is.source in
    let relations = is.relations in
    let Items : List (List Atom) → Type 0 = λ items. All (λ item. All IsSpelledAtom item) items in
    let Atoms : List Atom → Type 0 = λ atoms. All IsSpelledAtom atoms in
    record {
      name = name;
      version = version;
      source = source.0;
      source_version = source.1;
      depends = subst Items (sym relations.depends_is)
          (All-append (λ item. All IsSpelledAtom item) relations.pre_depends relations.other_depends
          (spelled-items _ relations.pre_depends relations.reads_pre_depends) (spelled-items _ relations.other_depends relations.reads_depends));
      conflicts = subst Atoms (sym relations.conflicts_is)
          (All-append IsSpelledAtom relations.conflicts_alone relations.breaks (spelled-atoms _ relations.conflicts_alone relations.reads_conflicts)
          (spelled-atoms _ relations.breaks relations.reads_breaks));
      provides = spelled-entries _ p.provides relations.reads_provides;
    }

-- ---- a file

spelled-reads : (earlier : List Read) (raws : List RawStanza) (reads : List Read) → AreReadAfter earlier raws reads
    → All (λ read. IsSpelled read.package_) reads
spelled-reads earlier [] [] are = All-nil (λ (read : Read). IsSpelled read.package_)
spelled-reads earlier [] (read ∷ reads) are = absurd are
spelled-reads earlier (raw ∷ raws) [] are = absurd are
spelled-reads earlier (raw ∷ raws) (read ∷ reads) are =
    let has = are.0.has in
    All-cons (λ (r : Read). IsSpelled r.package_) read reads (spelled-package _ has.stanza read.package_ read.architecture has.is_package)
    (spelled-reads (earlier ++ read ∷ []) raws reads are.1)

pub spelled-repository : (text : List ℕ) (limit : ℕ) (repository : PackageList) → IsRepositoryOf text limit repository → All IsSpelled repository.packages
spelled-repository text limit repository is k d short =
    let reads = spelled-reads [] (raw_stanzas text) is.reads is.read in
    let one = is.from_stanzas k d short in
    let read = All-contains (λ (r : Read). IsSpelled r.package_) is.reads one.1 reads (one.0, one.2, one.3) in
    subst IsSpelled one.4 read
