-- A generated text has a repository.
use Rattle.std.proofs.Common.{◌≡◌, ℕ, suc, ◌+◌, ◌*◌, ◌<◌, ◌≤◌, true, List, [], ◌∷◌, ◌++◌, length, get_or, map, refl, ap, sym, subst, ◌∙◌, arith}
use Rattle.std.specs.Prelude.{All, Any, Contains}
use Rattle.std.specs.List.{AllByRecursion, flat_map}
use Rattle.std.proofs.lemmas.List.{length-map, get_or-map}
use Rattle.std.proofs.lemmas.List.Elements.{All-cons, All-nil, All-weaker, All-from_recursion}
use Rattle.std.proofs.lemmas.List.Sorted.{All-permutation, Contains-permutation, length_permutation}
use Rattle.std.proofs.lemmas.Fmt.{decimal_injective}
use Rattle.dist_base.specs.declared.TheConstants.{MAX_SIZE}
use Rattle.dist_control.specs.RawStanza.{raw_stanzas, raw_stanzas_from}
use Rattle.dist_package.specs.FirstFault.{Read, IsClash, IsTooMany, AreReadAfter, architecture_of}
use Rattle.dist_package.specs.PackageOf.{all as all_name}
use Rattle.dist_package.specs.RepositoryOf.{IsRepositoryOf}
use Rattle.dist_repo.specs.PackageList.{PackageList}
use Rattle.dist_repo.specs.Size.{relation_count}
use Rattle.dist_repo.specs.declared.package.Package.{Package}
use Rattle.dist_generate.specs.Archive.{IsArchive}
use Rattle.dist_generate.specs.Generator.{Drawn, drawn, generated, generated_packages, stanza_lines}
use Rattle.dist_generate.specs.Packages.{name_of, package_of}
use Rattle.dist_generate.proofs.Bytes.{all-inner, text-short}
use Rattle.dist_generate.proofs.SmallDraws.{all-push, length-many, AreSmall, AreNumbered, packages-small, packages-numbered}
use Rattle.dist_generate.proofs.Fields.{stanza_of, reading-drawn, package-drawn}
use Rattle.dist_generate.proofs.Small.{small}
use Rattle.dist_generate.proofs.Sorting.{IsApart, AreApart, apart-by_name, sorted, sorted-permutes, sorted-in_order}
use Rattle.dist_generate.proofs.RawStanzas.{next_line, raws_from, raw-drawn}
use Rattle.dist_generate.proofs.TextLines.{lines-written, stanza-texts}
use Rattle.dist_generate.proofs.TooMany.{too-many}

-- ---- names differ

same-number : (m n : ℕ) → m < 10000 → n < 10000 → name_of m ≡ name_of n → m ≡ n
same-number m n h k same = decimal_injective m n (small m h) (small n k) (cc)

-- ---- what the stanzas read as

read_of : ℕ → Drawn → Read
read_of line d = record { line = line; package_ = package_of d; architecture = all_name }

reads_from : ℕ → List Drawn → List Read
reads_from line [] = []
reads_from line (d ∷ all) = read_of line d ∷ reads_from (next_line line d) all

-- the package of an earlier number
IsEarlier : ℕ → Read → Type 0
IsEarlier number read = (m : ℕ) × (m < number) × (read.package_.name ≡ name_of m)

AreEarlier : ℕ → List Read → Type 0
AreEarlier number earlier = AllByRecursion (IsEarlier number) earlier

earlier-later : (number : ℕ) (earlier : List Read) → AreEarlier number earlier → AreEarlier (number + 1) earlier
unfolding IsEarlier AreEarlier
earlier-later number [] are = tt
earlier-later number (read ∷ earlier) are = ((are.0.0, omega (arith, are.0.1), are.0.2), earlier-later number earlier are.1)

earlier-at : (number : ℕ) (before : List Read) (kept : Read) (after : List Read) → AreEarlier number (before ++ kept ∷ after) → IsEarlier number kept
unfolding AreEarlier
earlier-at number [] kept after are = are.0
earlier-at number (read ∷ before) kept after are = earlier-at number before kept after are.1

no-clash : (earlier : List Read) (d : Drawn) → d.number < 10000 → AreEarlier d.number earlier → (line : ℕ) → ¬ IsClash earlier (package_of d) line
unfolding IsEarlier AreEarlier
no-clash earlier d few are line clash =
    let e = earlier-at d.number clash.before clash.kept clash.after (subst (AreEarlier d.number) clash.pieces are) in
    let same : e.0 ≡ d.number = same-number e.0 d.number (omega (arith, e.1, few)) few (sym e.2 ∙ clash.same.0) in
    omega (arith, e.1, same)

reads-drawn : (earlier : List Read) (line number : ℕ) (all : List Drawn) → AreSmall all → AreNumbered number all → AreEarlier number earlier →
    AreReadAfter earlier (raws_from line all) (reads_from line all)
unfolding read_of reads_from IsEarlier AreEarlier
reads-drawn earlier line number [] small numbered are = tt
reads-drawn earlier line number (d ∷ all) small numbered are = (
  record {
    has = record {
      stanza = stanza_of line d;
      reading = reading-drawn line d;
      is_package = package-drawn line d small.0 (architecture_of earlier);
      line_is = refl;
    };
    free = no-clash earlier d small.0.number (subst (λ n. AreEarlier n earlier) (sym numbered.0) are);
  },
  reads-drawn (earlier ++ read_of line d ∷ []) (next_line line d) (number + 1) all small.1 numbered.1
      (all-push (IsEarlier (number + 1)) earlier (read_of line d) (earlier-later number earlier are) (number, omega arith, ap name_of numbered.0)),
)

reads-packages : (line : ℕ) (all : List Drawn) → map (λ (read : Read). read.package_) (reads_from line all) ≡ map package_of all
unfolding read_of reads_from
reads-packages line [] = refl
reads-packages line (d ∷ all) = ap (λ t. package_of d ∷ t) (reads-packages (next_line line d) all)

-- ---- the packages of readings

-- the package is that of one of them
IsRead : List Read → Package → Type 0
IsRead reads p = Any (λ (read : Read). read.package_ ≡ p) reads

from-reads : (reads : List Read) → All (IsRead reads) (map (λ (read : Read). read.package_) reads)
unfolding IsRead
from-reads [] = All-nil (IsRead [])
from-reads (read ∷ reads) =
    let packages = map (λ (r : Read). r.package_) reads in
    All-cons (IsRead (read ∷ reads)) read.package_ packages (0, read, omega arith, refl, refl)
    (All-weaker (IsRead reads) (IsRead (read ∷ reads)) (λ p any. (suc any.0, any.1, omega (arith, any.2), any.3, any.4)) packages (from-reads reads))

contains-reads : (reads : List Read) → All (λ (read : Read). Contains (map (λ (r : Read). r.package_) reads) read.package_) reads
contains-reads reads k d short = (
  k,
  omega (arith, short, length-map reads (λ (r : Read). r.package_)),
  get_or-map (λ (r : Read). r.package_) reads k d (get_or reads k d).package_ short,
)

-- ---- all packages are apart

apart-from : (p : Drawn) (number : ℕ) (all : List Drawn) → p.number < number → p.number < 10000 → AreSmall all → AreNumbered number all
    → AllByRecursion (IsApart (package_of p)) (map package_of all)
apart-from p number [] before few small numbered = tt
apart-from p number (d ∷ all) before few small numbered = (
  apart-by_name (package_of p) (package_of d) (λ same. omega (arith, same-number p.number d.number few small.0.number same, numbered.0)),
  apart-from p (number + 1) all (omega arith) few small.1 numbered.1,
)

are-apart : (number : ℕ) (all : List Drawn) → AreSmall all → AreNumbered number all → AreApart (map package_of all)
are-apart number [] small numbered = tt
are-apart number (d ∷ all) small numbered = (
  All-from_recursion (IsApart (package_of d)) (map package_of all)
      (apart-from d (number + 1) all (omega (arith, numbered.0)) small.0.number small.1 numbered.1),
  are-apart (number + 1) all small.1 numbered.1,
)

-- ---- the repository

module _ (size seed : ℕ) (few : size ≤ MAX_SIZE) where
  all-small : AreSmall (generated_packages size seed)
  all-small = packages-small size seed (omega arith)

  raws : raw_stanzas (generated size seed) ≡ raws_from 1 (generated_packages size seed)
  raws =
      let all = generated_packages size seed in
      ap raw_stanzas (stanza-texts all) ∙ ap (raw_stanzas_from 1 true) (lines-written (flat_map stanza_lines all) (all-inner all all-small)) ∙ raw-drawn 1 all

  pub short : length (generated size seed) ≤ 200 * size
  short = omega (arith, text-short (generated_packages size seed) all-small, length-many drawn size seed)

  same-count : length (reads_from 1 (generated_packages size seed)) ≡ size
  same-count =
      let all = generated_packages size seed in
      sym (length-map (reads_from 1 all) (λ (r : Read). r.package_)) ∙ ap length (reads-packages 1 all) ∙ length-map all package_of
      ∙ length-many drawn size seed

  all-read : AreReadAfter [] (raw_stanzas (generated size seed)) (reads_from 1 (generated_packages size seed))
  unfolding AreEarlier
  all-read =
      let all = generated_packages size seed in
      subst (λ rs. AreReadAfter [] rs (reads_from 1 all)) (sym raws) (reads-drawn [] 1 0 all all-small (packages-numbered size seed) tt)

  pub over : (limit : ℕ) → limit < size → IsTooMany (raw_stanzas (generated size seed)) limit
  over limit past = too-many (raw_stanzas (generated size seed)) (reads_from 1 (generated_packages size seed)) limit all-read (omega (arith, same-count))

  pub archive : ((text : List ℕ) (limit : ℕ) (repository : PackageList) → IsRepositoryOf text limit repository
      → relation_count repository.packages ≤ length text) →
      (limit : ℕ) → size ≤ limit → IsArchive size seed limit
  unfolding IsRead
  archive relations limit within =
      let all = generated_packages size seed in
      let reads = reads_from 1 all in
      let packages = map package_of all in
      let permutes = sorted-permutes packages in
      let long : length packages ≡ size = length-map all package_of ∙ length-many drawn size seed in
      let count : length (sorted packages) ≡ size = length_permutation packages (sorted packages) permutes ∙ long in
      let contains : All (λ (read : Read). Contains packages read.package_) reads =
      subst (λ (ps : List Package). All (λ (read : Read). Contains ps read.package_) reads) (reads-packages 1 all) (contains-reads reads) in
      let repository : PackageList = record { architecture = architecture_of reads; packages = sorted packages } in
      let is : IsRepositoryOf (generated size seed) limit repository = record {
        reads = reads;
        read = all-read;
        within = omega (arith, same-count, within);
        in_order = sorted-in_order packages (are-apart 0 all all-small (packages-numbered size seed));
        from_stanzas = All-permutation (IsRead reads) packages (sorted packages) permutes
            (subst (All (IsRead reads)) (reads-packages 1 all) (from-reads reads));
        all_stanzas = All-weaker (λ (read : Read). Contains packages read.package_) (λ (read : Read). Contains (sorted packages) read.package_)
            (λ read there. Contains-permutation packages (sorted packages) read.package_ permutes there) reads contains;
        architecture = refl;
      } in
      record {
        repository = repository;
        is_repository = is;
        packages = permutes;
        count = count;
        within_size = record {
          packages = omega (arith, count, few);
          relations = omega (arith, relations (generated size seed) limit repository is, short, few);
        };
      }
