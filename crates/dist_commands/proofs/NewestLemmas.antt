-- The newest versions of a file are spelled with versions, as all of the file are.
use Rattle.std.proofs.Common.{◌≡◌, ℕ, List, Option, None, Some, get_or, inl, inr, subst}
use Rattle.std.specs.Prelude.{All, Any, Contains, IfSome, IsSomeAnd}
use Rattle.std.proofs.lemmas.List.Elements.{All-contains, Contains-get_or}
use Rattle.dist_version.specs.Spelling.{IsVersion}
use Rattle.dist_relation.specs.declared.atom.Bound.{Bound}
use Rattle.dist_repo.specs.Order.{IsLatestOf}
use Rattle.dist_repo.specs.PackageList.{PackageList}
use Rattle.dist_package.specs.RepositoryOf.{IsRepositoryOf}
use Rattle.dist_package.specs.Spelled.{IsSpelled, IsSpelledAtom}
use Rattle.dist_classes.specs.Atoms.{AreBoundsVersions}
use Rattle.dist_report.specs.ClassesReport.{IsClassesText}
use Rattle.dist_subject.specs.Basis.{HaveVersions}

newest-spelled : (r newest : PackageList) → IsLatestOf r newest → All IsSpelled r.packages → All IsSpelled newest.packages
newest-spelled r newest is spelled k d short =
    let p = get_or newest.packages k d in
    All-contains IsSpelled r.packages p spelled ((is.newest p).0 (Contains-get_or newest.packages k d short)).there

-- an element of which something holds
any-holds : {X : Type 0} (P Q : X → Type 0) (R : Type 0) (xs : List X) → All P xs → Any Q xs → ((x : X) → P x → Q x → R) → R
any-holds P Q R xs all any then = then any.1 (All-contains P xs any.1 all (any.0, any.2, any.3)) any.4

bound-version : (bound : Option Bound) (version : List ℕ) → IfSome bound (λ b. IsVersion b.version) → IsSomeAnd bound (λ b. b.version ≡ version)
    → IsVersion version
bound-version None version spelled is = absurd is
bound-version (Some bound) version spelled is = subst IsVersion is spelled

spelled-bounds : (r : PackageList) → All IsSpelled r.packages → AreBoundsVersions r
spelled-bounds r spelled version on =
    let atom = on.atom in
    let done : IsSpelledAtom atom → IsVersion version = λ own. bound-version atom.bound version own.1 on.bound in
    elim on.is_atom.there [
      | inl dependency ↦ any-holds IsSpelled (λ p. Any (λ item. Contains item atom) p.depends) (IsVersion version) r.packages spelled dependency (λ p own any.
          any-holds (λ item. All IsSpelledAtom item) (λ item. Contains item atom) (IsVersion version) p.depends own.depends any
          (λ item atoms there. done (All-contains IsSpelledAtom item atom atoms there)))
      | inr conflict ↦ any-holds IsSpelled (λ p. Contains p.conflicts atom) (IsVersion version) r.packages spelled conflict
          (λ p own there. done (All-contains IsSpelledAtom p.conflicts atom own.conflicts there))
    ]

-- the law of the reader of packages
abbrev pub AreSpelled : Type 0
AreSpelled = (text : List ℕ) (limit : ℕ) (r : PackageList) → IsRepositoryOf text limit r → All IsSpelled r.packages

pub newest-have-versions : AreSpelled → (text : List ℕ) (limit : ℕ) (r : PackageList) → IsRepositoryOf text limit r → HaveVersions r
newest-have-versions spelled text limit r read newest latest =
    let own = newest-spelled r newest latest (spelled text limit r read) in
    ((λ k d short. (own k d short).version), spelled-bounds newest own)

pub some-report : AreSpelled
    → ((r : PackageList) → AreBoundsVersions r → All (λ p. IsVersion p.version) r.packages → (report : List ℕ) × IsClassesText r report)
    → (text : List ℕ) (limit : ℕ) (r newest : PackageList) → IsRepositoryOf text limit r → IsLatestOf r newest → (report : List ℕ) × IsClassesText newest report
some-report spelled report text limit r newest read latest =
    let have = newest-have-versions spelled text limit r read newest latest in
    report newest have.1 have.0
