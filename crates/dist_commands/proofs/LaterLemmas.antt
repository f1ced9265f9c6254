-- What is told of a later archive. One that is for an architecture has a package to tell.
use Rattle.std.proofs.Common.{◌≡◌, ◌≢◌, ℕ, ◌+◌, ◌-◌, ◌<◌, List, [], ◌∷◌, length, get_or, Option, Some, None, Result, Ok, Err, IfOk}
use Rattle.std.proofs.Common.{refl, ap, sym, ◌∙◌, subst, inl, inr, arith, slice_get}
use Rattle.std.specs.Prelude.{◌↔◌, Bool, Contains, IsOk, IsSome, IsSomeAnd, IsTrue, false, true}
use Rattle.std.specs.Cmp.Lexicographic.{slice_cmp}
use Rattle.std.specs.Ordering.{nat_cmp, ordering_reverse, ordering_then}
use Rattle.std.specs.declared.cmp.Ordering.{Ordering}
use Rattle.std.specs.declared.cmp.Ordering.TheVariants.{Less, Equal, Greater}
use Rattle.std.proofs.lemmas.Bool.{cases_lt, false≢true}
use Rattle.std.proofs.lemmas.Cmp.{lists_total, nat_cmp_total, tied_itself}
use Rattle.std.proofs.lemmas.Option.{get_or_from_slice_get, slice_get_within}
use Rattle.dist_base.specs.Answers.{IsExactly}
use Rattle.dist_base.specs.ListLaws.{all-contained, contains-at, element-at, place-of, same-at, within-from}
use Rattle.dist_version.specs.Order.{version_cmp}
use Rattle.dist_version.specs.OrderLaws.{version_total}
use Rattle.dist_repo.specs.Order.{IsInOrder, IsLatestOf, IsNewest, package_cmp}
use Rattle.dist_repo.specs.PackageList.{PackageList}
use Rattle.dist_repo.specs.declared.package.Package.{Package}
use Rattle.dist_package.specs.FirstFault.{Read, architecture_of}
use Rattle.dist_package.specs.RepositoryOf.{IsRepositoryOf}
use Rattle.dist_space.specs.Space.{SpaceView}
use Rattle.dist_future.specs.Future.{IsFuture}
use Rattle.dist_archive.specs.Reach.{AreTaken, Fits, IsFirstMisfit, IsPlan}
use Rattle.dist_archive.specs.Refusals.{IsOfOtherArchitecture}
use Rattle.dist_archive.specs.Steps.{Lead}
use Rattle.dist_archive.specs.declared.plan.ReachError.{ReachError}
use Rattle.dist_archive.specs.declared.plan.ReachError.TheVariants.{NotAFuture as Misfit, NoMemory}
use Rattle.dist_archive.specs.declared.step.Step.{Step}
use Rattle.dist_history.specs.PlanText.{misfit_text, plan_text}
use Rattle.dist_commands.specs.LaterPrivate.{HasSome, IsLaterTold}
use Rattle.dist_commands.specs.Steps.{IsFutureArchive, IsKeptAt}
use Rattle.dist_commands.specs.declared.status.Status.{Status}
use Rattle.dist_commands.specs.declared.status.Status.TheVariants.{Done, NotAFuture}

-- ---- a package to tell

same-name : (q p : Package) → q.name ≡ p.name → package_cmp q p ≡ Less → version_cmp q.version p.version ≡ Less
same-name q p same below =
    let tied : slice_cmp nat_cmp p.name p.name ≡ Equal = tied_itself (lists_total nat_cmp_total) p.name in
    let own : slice_cmp nat_cmp q.name p.name ≡ Equal = ap (λ (n : List ℕ). slice_cmp nat_cmp n p.name) same ∙ tied in
    sym (ap (λ (o : Ordering). ordering_then o (version_cmp q.version p.version)) own) ∙ below

not-both-below : (a b : List ℕ) → version_cmp a b ≡ Less → version_cmp b a ≡ Less → ⊥
not-both-below a b first second =
    let back : version_cmp a b ≡ ordering_reverse (version_cmp b a) = version_total.antisymm a b in
    let turned : Less ≡ Greater = sym first ∙ back ∙ ap ordering_reverse second in cc

not-below-itself : (a : List ℕ) → version_cmp a a ≢ Less
not-below-itself a below = let tied : version_cmp a a ≡ Equal = tied_itself version_total a in cc

-- the last of packages in order is the newest of its name
module _ (packages : List Package) (order : IsInOrder packages) (k : ℕ) (p : Package) (is : slice_get packages k ≡ Some p)
    (last : length packages ≡ k + 1) where
  not-newer : (q : Package) → Contains packages q → q.name ≡ p.name → version_cmp p.version q.version ≢ Less
  not-newer q there same below =
      let at = place-of packages q there in
      let within = slice_get_within packages at.place q at.is in
      elim (cases_lt at.place k) [
        | inl less ↦
            let own : get_or packages at.place p ≡ q = get_or_from_slice_get packages at.place q p at.is in
            let end : get_or packages k p ≡ p = get_or_from_slice_get packages k p p is in
            let pair : package_cmp (get_or packages at.place p) (get_or packages k p) ≡ Less = order at.place k p less (omega (arith, last)) in
            let pair' : package_cmp q p ≡ Less =
            subst (λ (x : Package). package_cmp x p ≡ Less) own
            (subst (λ (x : Package). package_cmp (get_or packages at.place p) x ≡ Less) end pair) in
            not-both-below q.version p.version (same-name q p same pair') below
        | inr more ↦
            let here : at.place ≡ k = omega (arith, more, within, last) in
            let own : slice_get packages k ≡ Some q = subst (λ (n : ℕ). slice_get packages n ≡ Some q) here at.is in
            let one : p ≡ q = same-at packages k p q is own in
            not-below-itself q.version (subst (λ (x : Package). version_cmp x.version q.version ≡ Less) one below)
      ]

  last-newest : IsNewest packages p
  last-newest = record {
    there = contains-at packages k p is;
    newest = all-contained (λ (q : Package). q.name ≡ p.name → version_cmp p.version q.version ≢ Less) packages not-newer;
  }

some-there : (packages : List Package) (p : Package) → Contains packages p → 0 < length packages
some-there packages p there =
    let at = place-of packages p there in
    let within = slice_get_within packages at.place p at.is in
    omega (arith, within)

some-newest : (r newest : PackageList) → IsInOrder r.packages → IsLatestOf r newest → 0 < length r.packages → 0 < length newest.packages
some-newest r newest order latest some =
    let k : ℕ = length r.packages - 1 in
    let at = element-at r.packages k (omega (arith, some)) in
    some-there newest.packages at.element ((latest.newest at.element).1
    (last-newest r.packages order k at.element at.is (omega (arith, some))))

some-read : (packages : List Package) (reads : List Read) → ((read : Read) → Contains reads read → Contains packages read.package_)
    → IsSome (architecture_of reads) → 0 < length packages
some-read packages [] all some = absurd (false≢true some)
some-read packages (read ∷ reads) all some = some-there packages read.package_ (all read (contains-at (read ∷ reads) 0 read refl))

pub has-some : (text : List ℕ) (limit : ℕ) (file newest : PackageList) → IsRepositoryOf text limit file → IsLatestOf file newest → HasSome newest
has-some text limit file newest read latest is =
    let of_file : IsSome file.architecture = subst (λ (a : Option (List ℕ)). IsSome a) latest.architecture is in
    let of_reads : IsSome (architecture_of read.reads) = subst (λ (a : Option (List ℕ)). IsSome a) read.architecture of_file in
    some-newest file newest read.in_order latest (some-read file.packages read.reads (λ one there. stands one there) of_reads)
  where
    stands : (one : Read) → Contains read.reads one → Contains file.packages one.package_
    stands one there =
        let at = place-of read.reads one there in
        let own : get_or read.reads at.place one ≡ one = get_or_from_slice_get read.reads at.place one one at.is in
        subst (λ (x : Read). Contains file.packages x.package_) own
        (read.all_stanzas at.place one (slice_get_within read.reads at.place one at.is))

-- ---- what is told

pub ok-both : {X E : Type 0} (result : Result X E) (P Q R : X → Type 0) → ((value : X) → P value → Q value → R value) → IfOk result P → IfOk result Q
    → IfOk result R
ok-both (Ok value) P Q R more p q = more value p q
ok-both (Err error) P Q R more p q = tt

module _ (space : SpaceView) (later : PackageList) (status : Status) (text : List ℕ) where
  pub plan-told : (steps : List Step) → ¬ IsOfOtherArchitecture space.repository later → IsFuture space.repository later.packages
      → IsPlan space later.packages steps → Lead space steps space.repository.packages later.packages
      → AreTaken space steps space.repository.packages later.packages → status ≡ Done → text ≡ plan_text space steps → IsLaterTold space later status text
  plan-told steps same future plan leads taken done told files = inl (record {
    is_future = (same, future);
    steps = steps;
    is_plan = plan;
    leads = leads;
    taken = taken;
    is = rw (done, told) refl;
  })

  pub misfit-told : (number : ℕ) (misfit : Package) → ¬ IsFutureArchive space.repository later → IsKeptAt space later number
      → slice_get later.packages number ≡ Some misfit → status ≡ NotAFuture → text ≡ misfit_text misfit → IsLaterTold space later status text
  misfit-told number misfit is_no_future kept is not told files = inr (record {
    is_no_future = is_no_future;
    number = number;
    misfit = misfit;
    kept = kept;
    is_misfit = is;
    is = rw (not, told) refl;
  })

-- ---- what `reach` answers

pub misfit-within : (r : PackageList) (later : List Package) (number : ℕ) → IsFirstMisfit r later number → number < length later
misfit-within r later number misfit = within-from (λ (n : Package). ¬ Fits r later number n) later number misfit.here

-- an answer that is no want of memory, of which this is known, says whether the packages are a future
abbrev pub Tells : Result (List Step) ReachError → Type 0 → Type 0
Tells result future = result ≢ Err NoMemory → IsOk result ↔ future

pub told-future : (plan : List Step) (future : Type 0) → Tells (Ok plan) future → future
told-future plan future tells = (tells (λ e. cc)).0 refl

-- the refusal that names a package, for an error that is this one
module _ (space : SpaceView) (later : List Package) (error : ReachError) (number : ℕ) (is : error ≡ Misfit number) where
  pub told-none : (future : Type 0) → Tells (Err error) future → ¬ future
  told-none future tells holds =
      let at : Tells (Err (Misfit number)) future = subst (λ (e : ReachError). Tells (Err e) future) is tells in
      false≢true ((at (λ e. cc)).1 holds)

  pub told-misfit : ((n : ℕ) → IsExactly {X = List Step} NoMemory (Err error) (Misfit n) (IsFirstMisfit space.repository later n))
      → IsFirstMisfit space.repository later number
  told-misfit exact =
      let at : IsExactly {X = List Step} NoMemory (Err (Misfit number)) (Misfit number) (IsFirstMisfit space.repository later number) =
      subst (λ (e : ReachError). IsExactly {X = List Step} NoMemory (Err e) (Misfit number) (IsFirstMisfit space.repository later number)) is
      (exact number) in
      (at (λ e. cc)).0 refl

-- ---- another architecture

pub other-some : (r later : PackageList) → IsOfOtherArchitecture r later → IsSome later.architecture
other-some r later other = there later.architecture other
  where
    there : (o : Option (List ℕ)) → IsSomeAnd o (λ name. r.architecture ≢ Some name) → IsSome o
    there None other = absurd other
    there (Some name) other = refl

-- what a test says of the repository of a space
module _ (space : SpaceView) (r later : PackageList) (own : r ≡ space.repository) (test : Bool) (says : IsTrue test ↔ IsOfOtherArchitecture r later) where
  pub is-other : test ≡ true → IsOfOtherArchitecture space.repository later
  is-other is = subst (λ (x : PackageList). IsOfOtherArchitecture x later) own (says.0 is)

  pub is-same : test ≡ false → ¬ IsOfOtherArchitecture space.repository later
  is-same is other = false≢true (sym is ∙ says.1 (subst (λ (x : PackageList). IsOfOtherArchitecture x later) (sym own) other))
