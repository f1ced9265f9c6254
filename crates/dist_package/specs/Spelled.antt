-- What the texts of a package that was read are: names and versions (Debian Policy 5.6.1, 5.6.12 and 7.1).
use Rattle.std.specs.Prelude.{All, IfSome}
use Rattle.dist_version.specs.Spelling.{IsVersion}
use Rattle.dist_relation.specs.Bytes.{IsName}
use Rattle.dist_relation.specs.declared.atom.Atom.{Atom}
use Rattle.dist_relation.specs.declared.atom.Provide.{Provide}
use Rattle.dist_repo.specs.declared.package.Package.{Package}

-- its name is a name, and the version of its bound a version
abbrev pub IsSpelledAtom : Atom → Type 0
IsSpelledAtom atom = IsName atom.name × IfSome atom.bound (λ bound. IsVersion bound.version)

abbrev pub IsSpelledEntry : Provide → Type 0
IsSpelledEntry entry = IsName entry.name × IfSome entry.version IsVersion

-- the names of a package are names, and its versions are versions
pub record IsSpelled (p : Package) : Type 0 where
  pub name : IsName p.name
  pub version : IsVersion p.version
  pub source : IsName p.source
  pub source_version : IsVersion p.source_version
  pub depends : All (λ item. All IsSpelledAtom item) p.depends
  pub conflicts : All IsSpelledAtom p.conflicts
  pub provides : All IsSpelledEntry p.provides
