-- A file has one answer: where each stanza has one reading or one fault, there is one list of readings, one
-- repository, and one reason why there is none, and never both.
use Rattle.std.proofs.Common.{◌≡◌, ◌⊎◌, ℕ, List, [], ◌∷◌, ◌++◌, Option, length, refl, sym, ap, ◌∙◌, subst, arith, inl, inr, append_assoc}
use Rattle.std.specs.List.{All, Any, Contains}
use Rattle.std.proofs.lemmas.List.{append-nil, length-append}
use Rattle.std.proofs.lemmas.List.Elements.{All-contains}
use Rattle.dist_control.specs.RawStanza.{RawStanza, raw_stanzas}
use Rattle.dist_repo.specs.Order.{IsInOrder}
use Rattle.dist_repo.specs.PackageList.{PackageList}
use Rattle.dist_repo.specs.declared.package.Package.{Package}
use Rattle.dist_package.specs.declared.error.Fault.{Fault}
use Rattle.dist_package.specs.declared.error.PackagesError.{PackagesError}
use Rattle.dist_package.specs.declared.error.PackagesError.TheVariants.{Bad, TooMany, NoMemory}
use Rattle.dist_package.specs.FirstFault.{Read, ReadsAs, HasStanzaFault, AreReadAfter, AreRead, HasPackagesFault, IsTooMany, IsRefused, architecture_of}
use Rattle.dist_package.specs.RepositoryOf.{IsRepositoryOf}

-- ---- lists

-- Two cuts of one list are at the same place, or one is behind the other.
pub two_cuts : {X : Type 0} (before after before' after' : List X) (x y : X) → before ++ x ∷ after ≡ before' ++ y ∷ after' →
    ((before ≡ before') × (x ≡ y)) ⊎ (((between : List X) × (before' ≡ before ++ x ∷ between)) ⊎ ((between : List X) × (before ≡ before' ++ y ∷ between)))
two_cuts [] after [] after' x y is = inl (refl, (cc))
two_cuts [] after (z ∷ before') after' x y is = inr (inl (before', (cc)))
two_cuts (z ∷ before) after [] after' x y is = inr (inr (before, (cc)))
two_cuts (z ∷ before) after (w ∷ before') after' x y is =
    let head : z ≡ w = cc in
    let tail : before ++ x ∷ after ≡ before' ++ y ∷ after' = cc in
    elim (two_cuts before after before' after' x y tail) [
      | inl same ↦ let front : before ≡ before' = same.0 in inl ((cc), same.1)
      | inr other ↦ elim other [
        | inl second ↦ let front : before' ≡ before ++ x ∷ second.0 = second.1 in inr (inl (second.0, (cc)))
        | inr first ↦ let front : before ≡ before' ++ y ∷ first.0 = first.1 in inr (inr (first.0, (cc)))
      ]
    ]

-- ---- readings of stanzas

-- The readings of stanzas are cut where one stanza is.
pub record IsCut (earlier : List Read) (before : List RawStanza) (raw : RawStanza) (reads : List Read) : Type 0 where
  pub front : List Read
  pub read : Read
  pub behind : List Read
  pub pieces : reads ≡ front ++ read ∷ behind
  pub front_read : AreReadAfter earlier before front
  pub raw_read : ReadsAs (earlier ++ front) raw read

pub cut-reads : (earlier : List Read) (before : List RawStanza) (raw : RawStanza) (after : List RawStanza) (reads : List Read) →
    AreReadAfter earlier (before ++ raw ∷ after) reads → IsCut earlier before raw reads
cut-reads earlier [] raw after [] all = absurd all
cut-reads earlier [] raw after (x ∷ reads) all =
    let P : List Read → Type 0 = λ e. ReadsAs e raw x in
    record { front = []; read = x; behind = reads; pieces = refl; front_read = tt; raw_read = subst P (sym (append-nil earlier)) all.0 }
cut-reads earlier (b ∷ before) raw after [] all = absurd all
cut-reads earlier (b ∷ before) raw after (x ∷ reads) all =
    let rest = cut-reads (earlier ++ x ∷ []) before raw after reads all.1 in
    let P : List Read → Type 0 = λ e. ReadsAs e raw rest.read in
    record {
      front = x ∷ rest.front;
      read = rest.read;
      behind = rest.behind;
      pieces = ap (λ l. x ∷ l) rest.pieces;
      front_read = (all.0, rest.front_read);
      raw_read = subst P (append_assoc earlier (x ∷ []) rest.front) rest.raw_read;
    }

pub length-reads : (earlier : List Read) (raws : List RawStanza) (reads : List Read) → AreReadAfter earlier raws reads → length reads ≡ length raws
length-reads earlier [] [] all = refl
length-reads earlier [] (x ∷ reads) all = absurd all
length-reads earlier (raw ∷ raws) [] all = absurd all
length-reads earlier (raw ∷ raws) (x ∷ reads) all = omega (arith, length-reads (earlier ++ x ∷ []) raws reads all.1)

-- ---- the packages of the same stanzas

-- each package of one repository is in another of the same stanzas
carried : (a b : List Package) (reads : List Read) → All (λ p. Any (λ read. read.package_ ≡ p) reads) a → All (λ read. Contains b read.package_) reads →
    All (Contains b) a
carried a b reads from all k d within =
    let some = from k d within in
    let P : Package → Type 0 = λ q. Contains b q in
    subst P some.4 (All-contains (λ read. Contains b read.package_) reads some.1 all (some.0, some.2, some.3))

-- two repositories of the same parts are one
same-parts : (a b : Option (List ℕ)) (p q : List Package) → a ≡ b → p ≡ q →
    (let one : PackageList = record { architecture = a; packages = p } in let other : PackageList = record { architecture = b; packages = q } in one ≡ other)
same-parts a b p q is also = cc

module _ (one_read : (earlier : List Read) (raw : RawStanza) (a b : Read) → ReadsAs earlier raw a → ReadsAs earlier raw b → b ≡ a)
    (one_fault : (earlier : List Read) (raw : RawStanza) (a b : Fault) → HasStanzaFault earlier raw a → HasStanzaFault earlier raw b → b ≡ a)
    (apart : (earlier : List Read) (raw : RawStanza) (a : Read) (b : Fault) → ReadsAs earlier raw a → ¬ HasStanzaFault earlier raw b) where
  same-after : (earlier : List Read) (raws : List RawStanza) (a b : List Read) → AreReadAfter earlier raws a → AreReadAfter earlier raws b → b ≡ a
  same-after earlier [] [] [] all other = refl
  same-after earlier [] [] (y ∷ b) all other = absurd other
  same-after earlier [] (x ∷ a) b all other = absurd all
  same-after earlier (raw ∷ raws) [] b all other = absurd all
  same-after earlier (raw ∷ raws) (x ∷ a) [] all other = absurd other
  same-after earlier (raw ∷ raws) (x ∷ a) (y ∷ b) all other =
      let same : y ≡ x = one_read earlier raw x y all.0 other.0 in
      let P : Read → Type 0 = λ e. AreReadAfter (earlier ++ e ∷ []) raws b in
      let rest : b ≡ a = same-after (earlier ++ x ∷ []) raws a b all.1 (subst P same other.1) in
      cc

  pub same_reads : (raws : List RawStanza) (a b : List Read) → AreRead raws a → AreRead raws b → b ≡ a
  same_reads raws a b all other = same-after [] raws a b all other

  -- a stanza that has a fault after those before it is none of the stanzas that read
  not-read : (before : List RawStanza) (raw : RawStanza) (after : List RawStanza) (reads : List Read) (fault : Fault) → AreRead before reads
      → HasStanzaFault reads raw fault →
      (raws : List RawStanza) (others : List Read) → raws ≡ before ++ raw ∷ after → ¬ AreRead raws others
  not-read before raw after reads fault all faulty raws others pieces other =
      let P : List RawStanza → Type 0 = λ l. AreRead l others in
      let c = cut-reads [] before raw after others (subst P pieces other) in
      let same : c.front ≡ reads = same_reads before reads c.front all c.front_read in
      let Q : List Read → Type 0 = λ e. ReadsAs e raw c.read in
      apart reads raw c.read fault (subst Q same c.raw_read) faulty

  one-first-fault : (raws : List RawStanza) (limit : ℕ) (a b : Fault) → HasPackagesFault raws limit a → HasPackagesFault raws limit b → b ≡ a
  one-first-fault raws limit a b first second =
      let u = first.up_to in
      let v = second.up_to in
      elim (two_cuts u.before u.after v.before v.after first.raw second.raw (sym u.pieces ∙ v.pieces)) [
        | inl same ↦
            let P : List RawStanza → Type 0 = λ l. AreRead l second.reads in
            let reads : second.reads ≡ first.reads = same_reads u.before first.reads second.reads u.read (subst P (sym same.0) v.read) in
            let Q : List Read → Type 0 = λ e. HasStanzaFault e first.raw b in
            let W : RawStanza → Type 0 = λ r. HasStanzaFault second.reads r b in
            one_fault first.reads first.raw a b first.has (subst Q reads (subst W (sym same.1) second.has))
        | inr other ↦ elim other [
          | inl behind ↦ absurd (not-read u.before first.raw behind.0 first.reads a u.read first.has v.before second.reads behind.1 v.read)
          | inr ahead ↦ absurd (not-read v.before second.raw ahead.0 second.reads b v.read second.has u.before first.reads ahead.1 u.read)
        ]
      ]

  -- a first fault lies below the limit, and one stanza too many at it
  not-too-many : (raws : List RawStanza) (limit : ℕ) (a : Fault) → HasPackagesFault raws limit a → ¬ IsTooMany raws limit
  not-too-many raws limit a first many =
      let u = first.up_to in
      let v = many.up_to in
      let few = length-reads [] u.before first.reads u.read in
      let all = length-reads [] v.before many.reads v.read in
      elim (two_cuts u.before u.after v.before v.after first.raw many.raw (sym u.pieces ∙ v.pieces)) [
        | inl same ↦ omega (arith, ap length same.0, few, all, first.within, many.at_limit)
        | inr other ↦ elim other [
          | inl behind ↦ not-read u.before first.raw behind.0 first.reads a u.read first.has v.before many.reads behind.1 v.read
          | inr ahead ↦ omega (arith, ap length ahead.1, length-append v.before (many.raw ∷ ahead.0), few, all, first.within, many.at_limit)
        ]
      ]

  pub one_error : (raws : List RawStanza) (limit : ℕ) (e f : PackagesError) → IsRefused raws limit e → IsRefused raws limit f → f ≡ e
  one_error raws limit (Bad a) (Bad b) first second = ap Bad (one-first-fault raws limit a b first second)
  one_error raws limit (Bad a) TooMany first second = absurd (not-too-many raws limit a first second)
  one_error raws limit (Bad a) NoMemory first second = absurd second
  one_error raws limit TooMany (Bad b) first second = absurd (not-too-many raws limit b second first)
  one_error raws limit TooMany TooMany first second = refl
  one_error raws limit TooMany NoMemory first second = absurd second
  one_error raws limit NoMemory f first second = absurd first

  pub one_repository : ((packages others : List Package) → IsInOrder packages → IsInOrder others → All (Contains others) packages
      → All (Contains packages) others → packages ≡ others) →
      (text : List ℕ) (limit : ℕ) (r s : PackageList) → IsRepositoryOf text limit r → IsRepositoryOf text limit s → s ≡ r
  one_repository one_list text limit r s is also =
      let reads : also.reads ≡ is.reads = same_reads (raw_stanzas text) is.reads also.reads is.read also.read in
      let From : List Read → Type 0 = λ l. All (λ p. Any (λ read. read.package_ ≡ p) l) s.packages in
      let There : List Read → Type 0 = λ l. All (λ read. Contains s.packages read.package_) l in
      let packages : s.packages ≡ r.packages = one_list s.packages r.packages also.in_order is.in_order
      (carried s.packages r.packages is.reads (subst From reads also.from_stanzas) is.all_stanzas)
      (carried r.packages s.packages is.reads is.from_stanzas (subst There reads also.all_stanzas)) in
      let architecture : s.architecture ≡ r.architecture = also.architecture ∙ ap architecture_of reads ∙ sym is.architecture in
      same-parts s.architecture r.architecture s.packages r.packages architecture packages

  pub never_both : (text : List ℕ) (limit : ℕ) (r : PackageList) (e : PackagesError) → IsRepositoryOf text limit r → ¬ IsRefused (raw_stanzas text) limit e
  never_both text limit r (Bad fault) is first =
      let u = first.up_to in
      not-read u.before first.raw u.after first.reads fault u.read first.has (raw_stanzas text) is.reads u.pieces is.read
  never_both text limit r TooMany is many =
      let u = many.up_to in
      omega (
        arith,
        ap length u.pieces,
        length-append u.before (many.raw ∷ u.after),
        length-reads [] u.before many.reads u.read,
        length-reads [] (raw_stanzas text) is.reads is.read,
        many.at_limit,
        is.within,
      )
  never_both text limit r NoMemory is none = none
