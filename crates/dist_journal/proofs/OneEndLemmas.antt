-- A journal has one end.
use Rattle.std.proofs.Common.{◌≡◌, ◌≢◌, ◌⊎◌, ℕ, ◌+◌, List, [], ◌∷◌, ◌++◌, length, get_or, refl, sym, ap, subst, ◌∙◌, inl, inr, arith, true, false}
use Rattle.std.specs.Prelude.{All}
use Rattle.std.proofs.lemmas.Bool.{false≢true}
use Rattle.std.proofs.lemmas.List.Elements.{All-head, All-tail}
use Rattle.dist_control.specs.Bytes.{is_blank}
use Rattle.dist_control.specs.Lines.{lines}
use Rattle.dist_control.specs.RawStanza.{RawStanza, raw_stanzas, raw_stanzas_from}
use Rattle.dist_repo.specs.PackageList.{PackageList}
use Rattle.dist_repo.specs.declared.package.Package.{Package}
use Rattle.dist_package.specs.FirstFault.{AreRead, IsRefused}
use Rattle.dist_package.specs.OneAnswer.{HasOneAnswer}
use Rattle.dist_package.specs.RepositoryOf.{IsRepositoryOf}
use Rattle.dist_package.specs.declared.error.PackagesError.{PackagesError}
use Rattle.dist_package.specs.declared.error.PackagesError.TheVariants as packages_error
use Rattle.dist_space.specs.ClusterLaws.{names-apart, placed-in}
use Rattle.dist_space.specs.Space.{IsSpace, SpaceView}
use Rattle.dist_future.specs.Future.{IsTaken}
use Rattle.dist_archive.specs.Moved.{IsClusterNamed}
use Rattle.dist_archive.specs.Reach.{AreTaken}
use Rattle.dist_archive.specs.Refusals.{Refuses}
use Rattle.dist_archive.specs.Same.{AreSame}
use Rattle.dist_archive.specs.Steps.{Lead, Makes}
use Rattle.dist_archive.specs.declared.step.Step.{Step}
use Rattle.dist_archive.specs.declared.step.Step.TheVariants as step
use Rattle.dist_archive.specs.declared.step.StepError.{StepError}
use Rattle.dist_journal.specs.Blocks.{IsBlockOf, IsBlockRefused}
use Rattle.dist_journal.specs.Faults.{BringsBlock, IsEntryError}
use Rattle.dist_journal.specs.Follow.{Follows, IsFollowed, IsStopped, StopsAt}
use Rattle.dist_journal.specs.Journal.{AreBlank, Entry, IsFirstStray, SayNothing, Says, entries, front, words}
use Rattle.dist_journal.specs.OneEnd.{HasOneEnd}
use Rattle.dist_journal.specs.Steps.{AreStepsOf, IsStepOf}
use Rattle.dist_journal.specs.declared.fault.FollowError.{FollowError}
use Rattle.dist_journal.specs.declared.fault.FollowError.TheVariants.{Bad, TooMany, NoMemory}
use Rattle.dist_journal.specs.declared.fault.JournalFault.TheVariants.{BadStep, UnknownName, Stray, BadBlock, Refused}
use Rattle.dist_journal.proofs.ReadLemmas.{named-taken}
use Rattle.dist_journal.specs.declared.step_line.StepLine.{StepLine}
use Rattle.dist_journal.specs.declared.step_line.StepLine.TheVariants.{Upload, Removal, NewName}

-- ---- two ways to cut a list at an element

abbrev Cut : {X : Type 0} (a b : List X) (x y : X) → Type 0
Cut {X} a b x y = ((a ≡ b) × (x ≡ y)) ⊎ (((z : List X) × (b ≡ a ++ x ∷ z)) ⊎ ((z : List X) × (a ≡ b ++ y ∷ z)))

cut-cons : {X : Type 0} (u v : X) (a b : List X) (x y : X) → u ≡ v → Cut a b x y → Cut (u ∷ a) (v ∷ b) x y
cut-cons {X} u v a b x y same (inl both) = inl (rw (same, both.0) refl, both.1)
cut-cons {X} u v a b x y same (inr (inl later)) = inr (inl (later.0, rw (same, later.1) refl))
cut-cons {X} u v a b x y same (inr (inr later)) = inr (inr (later.0, rw (same, later.1) refl))

cuts : {X : Type 0} (a b : List X) (x y : X) (after rest : List X) → a ++ x ∷ after ≡ b ++ y ∷ rest → Cut a b x y
cuts [] [] x y after rest is = inl (refl, let same : x ≡ y = cc in same)
cuts [] (v ∷ b) x y after rest is = inr (inl (b, let same : x ≡ v = cc in ap (λ w. w ∷ b) (sym same)))
cuts (u ∷ a) [] x y after rest is = inr (inr (a, let same : u ≡ y = cc in ap (λ w. w ∷ a) same))
cuts (u ∷ a) (v ∷ b) x y after rest is =
    let same : u ≡ v = cc in
    let more : a ++ x ∷ after ≡ b ++ y ∷ rest = cc in
    cut-cons u v a b x y same (cuts a b x y after rest more)

-- ---- lines that are not blank

middle : {X : Type 0} (P : X → Type 0) (before : List X) (x : X) (after : List X) → All P (before ++ x ∷ after) → P x
middle P [] x after all = All-head P x after all
middle P (b ∷ before) x after all = middle P before x after (All-tail P b (before ++ x ∷ after) all)

abbrev IsBlank : List ℕ → Type 0
IsBlank line = is_blank line ≡ true

not-stray : (number : ℕ) (list : List (List ℕ)) (place : ℕ) → AreBlank list → ¬ IsFirstStray number list place
not-stray number list place blank stray =
    false≢true (sym stray.stray ∙ middle IsBlank stray.before stray.line stray.after (subst AreBlank stray.pieces blank))

one-stray : (number : ℕ) (list : List (List ℕ)) (place other : ℕ) → IsFirstStray number list place → IsFirstStray number list other → other ≡ place
one-stray number list place other first second =
    elim (cuts first.before second.before first.line second.line first.after second.after (sym first.pieces ∙ second.pieces)) [
      | inl both ↦ second.place_is ∙ ap (λ (l : List (List ℕ)). number + length l) (sym both.0) ∙ sym first.place_is
      | inr rest ↦ elim rest [
        | inl later ↦ absurd (false≢true (sym first.stray ∙ middle IsBlank first.before first.line later.0 (subst AreBlank later.1 second.blank)))
        | inr earlier ↦ absurd (false≢true (sym second.stray ∙ middle IsBlank second.before second.line earlier.0 (subst AreBlank earlier.1 first.blank)))
      ]
    ]

-- ---- what a step line says

-- how many words say it
abbrev count_of : StepLine → ℕ
count_of (Upload name version) = 4
count_of (Removal name) = 3
count_of NewName = 2

counted : (w : List (List ℕ)) (said : StepLine) → Says w said → length w ≡ count_of said
counted w (Upload name version) says = ap (λ (l : List (List ℕ)). length l) says.0
counted w (Removal name) says = ap (λ (l : List (List ℕ)). length l) says.0
counted w NewName says = ap (λ (l : List (List ℕ)). length l) says

abbrev word : (w : List (List ℕ)) (k : ℕ) → List ℕ
word w k = get_or w k []

one-said : (w : List (List ℕ)) (said other : StepLine) → Says w said → Says w other → other ≡ said
one-said w (Upload name version) (Upload name' version') first second =
    let a : name' ≡ name = ap (λ (l : List (List ℕ)). word l 2) (sym second.0 ∙ first.0) in
    let b : version' ≡ version = ap (λ (l : List (List ℕ)). word l 3) (sym second.0 ∙ first.0) in
    rw (a, b) refl
one-said w (Upload name version) (Removal name') first second =
    absurd (let e = sym (counted w (Upload name version) first) ∙ counted w (Removal name') second in omega (arith, e))
one-said w (Upload name version) NewName first second =
    absurd (let e = sym (counted w (Upload name version) first) ∙ counted w NewName second in omega (arith, e))
one-said w (Removal name) (Upload name' version') first second =
    absurd (let e = sym (counted w (Removal name) first) ∙ counted w (Upload name' version') second in omega (arith, e))
one-said w (Removal name) (Removal name') first second =
    let a : name' ≡ name = ap (λ (l : List (List ℕ)). word l 2) (sym second.0 ∙ first.0) in
    rw a refl
one-said w (Removal name) NewName first second =
    absurd (let e = sym (counted w (Removal name) first) ∙ counted w NewName second in omega (arith, e))
one-said w NewName (Upload name' version') first second =
    absurd (let e = sym (counted w NewName first) ∙ counted w (Upload name' version') second in omega (arith, e))
one-said w NewName (Removal name') first second =
    absurd (let e = sym (counted w NewName first) ∙ counted w (Removal name') second in omega (arith, e))
one-said w NewName NewName first second = refl

-- ---- blocks

abbrev pub AreExact : Type 0
AreExact = (text : List ℕ) (limit : ℕ) → HasOneAnswer text limit

module _ (exact : AreExact) (limit : ℕ) (block : List (List ℕ)) where
  raws-same : (text other : List ℕ) → lines text ≡ block → lines other ≡ block → raw_stanzas other ≡ raw_stanzas text
  raws-same text other first second = ap (λ (l : List (List ℕ)). raw_stanzas_from 1 true l) (second ∙ sym first)

  other-text : (text other : List ℕ) (packages : PackageList) → raw_stanzas other ≡ raw_stanzas text → IsRepositoryOf other limit packages
      → IsRepositoryOf text limit packages
  other-text text other packages same of = record {
    reads = of.reads;
    read = subst (λ (raws : List RawStanza). AreRead raws of.reads) same of.read;
    within = of.within;
    in_order = of.in_order;
    from_stanzas = of.from_stanzas;
    all_stanzas = of.all_stanzas;
    architecture = of.architecture;
  }

  one-block : (packages other : PackageList) → IsBlockOf limit block packages → IsBlockOf limit block other → other ≡ packages
  one-block packages other (text, are, of) (text', are', of') =
      (exact text limit).one_repository packages other of (other-text text text' other (raws-same text text' are are') of')

  one-reason : (error other : PackagesError) → IsBlockRefused limit block error → IsBlockRefused limit block other → other ≡ error
  one-reason error other (text, are, refused) (text', are', refused') =
      (exact text limit).one_error error other refused
      (subst (λ (raws : List RawStanza). IsRefused raws limit other) (raws-same text text' are are') refused')

  block-or-error : (packages : PackageList) (error : PackagesError) → IsBlockOf limit block packages → ¬ IsBlockRefused limit block error
  block-or-error packages error (text, are, of) (text', are', refused) =
      (exact text limit).never_both packages error of
      (subst (λ (raws : List RawStanza). IsRefused raws limit error) (raws-same text text' are are') refused)

-- ---- the step of an entry

-- what the law of the archive says of its steps
pub record StepLaw (s : SpaceView) : Type 0 where
  pub one : (archive : List Package) (step : Step) (error other : StepError) → Refuses s archive step error → Refuses s archive step other
      → other ≡ error
  pub same : (old other : List Package) (step : Step) (error : StepError) → AreSame old other → Refuses s old step error
      → Refuses s other step error
  pub made : (old other new newer : List Package) (step : Step) → AreSame old other → Makes s step old new → Makes s step other newer
      → AreSame new newer

module _ (exact : AreExact) (s : SpaceView) (space : IsSpace s) (law : StepLaw s) (limit : ℕ) where
  one-cluster : (name : List ℕ) (cluster other : ℕ) → IsClusterNamed s name cluster → IsClusterNamed s name other → other ≡ cluster
  one-cluster name cluster other (c, of, named) (d, of', named') =
      let same : of'.member ≡ of.member = names-apart s.repository.packages of'.member of.member d c space.frame.flat of'.is of.is
      (named' ∙ sym named) in
      sym (placed-in s space.frame other of'.member of'.in_cluster) ∙ ap (λ (n : ℕ). get_or s.cluster_of n 0) same
      ∙ placed-in s space.frame cluster of.member of.in_cluster

  cluster-taken : (name : List ℕ) (cluster : ℕ) → IsClusterNamed s name cluster → IsTaken s.repository name
  cluster-taken name cluster named = named-taken s name cluster named

  one-step : (entry : Entry) (first other : Step) → IsStepOf s limit entry first → IsStepOf s limit entry other → other ≡ first
  one-step entry (step.Upload cluster version block) (step.Upload cluster' version' block') ((name, says, named), of) ((name', says', named'), of') =
      let same = one-said (words entry.line) (Upload name version) (Upload name' version') says says' in
      let a : name' ≡ name = cc in
      let b : version' ≡ version = cc in
      let k : cluster' ≡ cluster = one-cluster name cluster cluster' named (subst (λ (n : List ℕ). IsClusterNamed s n cluster') a named') in
      let p : block' ≡ block = one-block exact limit entry.block block block' of of' in
      rw (b, k, p) refl
  one-step entry (step.Upload cluster version block) (step.Removal name') ((name, says, named), of) (says', blank) =
      absurd (let same = one-said (words entry.line) (Upload name version) (Removal name') says says' in cc)
  one-step entry (step.Upload cluster version block) (step.NewName block') ((name, says, named), of) (says', of') =
      absurd (let same = one-said (words entry.line) (Upload name version) NewName says says' in cc)
  one-step entry (step.Removal name) (step.Upload cluster' version' block') (says, blank) ((name', says', named'), of') =
      absurd (let same = one-said (words entry.line) (Removal name) (Upload name' version') says says' in cc)
  one-step entry (step.Removal name) (step.Removal name') (says, blank) (says', blank') =
      let same = one-said (words entry.line) (Removal name) (Removal name') says says' in
      let a : name' ≡ name = cc in
      rw a refl
  one-step entry (step.Removal name) (step.NewName block') (says, blank) (says', of') =
      absurd (let same = one-said (words entry.line) (Removal name) NewName says says' in cc)
  one-step entry (step.NewName block) (step.Upload cluster' version' block') (says, of) ((name', says', named'), of') =
      absurd (let same = one-said (words entry.line) NewName (Upload name' version') says says' in cc)
  one-step entry (step.NewName block) (step.Removal name') (says, of) (says', blank') =
      absurd (let same = one-said (words entry.line) NewName (Removal name') says says' in cc)
  one-step entry (step.NewName block) (step.NewName block') (says, of) (says', of') =
      ap (λ (b : PackageList). step.NewName b) (one-block exact limit entry.block block block' of of')

  -- ---- what is wrong with an entry

  -- the block is brought, and is refused: the error that is told of it
  abbrev IsTold : Entry → PackagesError → FollowError → Type 0
  IsTold entry (packages_error.Bad fault) error = error ≡ Bad (entry.number + fault.line) BadBlock
  IsTold entry packages_error.TooMany error = error ≡ TooMany
  IsTold entry packages_error.NoMemory error = ⊥

  one-told : (entry : Entry) (reason : PackagesError) (error other : FollowError) → IsTold entry reason error → IsTold entry reason other → other ≡ error
  one-told entry (packages_error.Bad fault) error other is is' = is' ∙ sym is
  one-told entry packages_error.TooMany error other is is' = is' ∙ sym is
  one-told entry packages_error.NoMemory error other is is' = absurd is

  -- which kind of fault an error tells
  data Kind (archive : List Package) (entry : Entry) (error : FollowError) : Type 0 where
    Silent : error ≡ Bad entry.number BadStep → SayNothing (words entry.line) → Kind archive entry error
    Unknown : error ≡ Bad entry.number UnknownName → (name version : List ℕ) → Says (words entry.line) (Upload name version)
        → (¬ IsTaken s.repository name) → Kind archive entry error
    Strayed : (line : ℕ) → error ≡ Bad line Stray → (name : List ℕ) → Says (words entry.line) (Removal name)
        → IsFirstStray (entry.number + 1) entry.block line → Kind archive entry error
    Blocked : (reason : PackagesError) → IsTold entry reason error → BringsBlock s entry.line → IsBlockRefused limit entry.block reason
        → Kind archive entry error
    Denied : (reason : StepError) → error ≡ Bad entry.number (Refused reason) → (taken : Step) → IsStepOf s limit entry taken
        → Refuses s archive taken reason → Kind archive entry error

  kind-of : (archive : List Package) (entry : Entry) (error : FollowError) → IsEntryError s limit archive entry error → Kind archive entry error
  kind-of archive entry (Bad line BadStep) has = Silent (ap (λ (n : ℕ). Bad n BadStep) has.0) has.1
  kind-of archive entry (Bad line UnknownName) has = Unknown (ap (λ (n : ℕ). Bad n UnknownName) has.0) has.1.0 has.1.1 has.1.2 has.1.3
  kind-of archive entry (Bad line Stray) has = Strayed line refl has.0 has.1 has.2
  kind-of archive entry (Bad line BadBlock) has = Blocked (packages_error.Bad has.1.0) (ap (λ (n : ℕ). Bad n BadBlock) has.1.2) has.0 has.1.1
  kind-of archive entry (Bad line (Refused reason)) has = Denied reason (ap (λ (n : ℕ). Bad n (Refused reason)) has.0) has.1.0 has.1.1 has.1.2
  kind-of archive entry TooMany has = Blocked packages_error.TooMany refl has.0 has.1
  kind-of archive entry NoMemory has = absurd has

  -- the line of a block that is brought says so
  brings-says : (line : List ℕ) → BringsBlock s line → (said : StepLine) × Says (words line) said
  brings-says line (inl (name, version, says, taken)) = (Upload name version, says)
  brings-says line (inr says) = (NewName, says)

  step-says : (entry : Entry) (taken : Step) → IsStepOf s limit entry taken → (said : StepLine) × Says (words entry.line) said
  step-says entry (step.Upload cluster version block) ((name, says, named), of) = (Upload name version, says)
  step-says entry (step.Removal name) (says, blank) = (Removal name, says)
  step-says entry (step.NewName block) (says, of) = (NewName, says)

  -- an upload of an unknown name neither brings a block nor is a step
  unknown-brings : (line : List ℕ) (name version : List ℕ) → Says (words line) (Upload name version) → ¬ IsTaken s.repository name → ¬ BringsBlock s line
  unknown-brings line name version says untaken (inl (name', version', says', taken)) =
      let same = one-said (words line) (Upload name version) (Upload name' version') says says' in
      let a : name' ≡ name = cc in
      untaken (subst (λ (n : List ℕ). IsTaken s.repository n) a taken)
  unknown-brings line name version says untaken (inr says') = let same = one-said (words line) (Upload name version) NewName says says' in cc

  unknown-step : (entry : Entry) (name version : List ℕ) (taken : Step) → Says (words entry.line) (Upload name version) → ¬ IsTaken s.repository name
      → ¬ IsStepOf s limit entry taken
  unknown-step entry name version (step.Upload cluster version' block) says untaken ((name', says', named), of) =
      let same = one-said (words entry.line) (Upload name version) (Upload name' version') says says' in
      let a : name' ≡ name = cc in
      untaken (subst (λ (n : List ℕ). IsTaken s.repository n) a (cluster-taken name' cluster named))
  unknown-step entry name version (step.Removal name') says untaken (says', blank) =
      let same = one-said (words entry.line) (Upload name version) (Removal name') says says' in cc
  unknown-step entry name version (step.NewName block) says untaken (says', of) =
      let same = one-said (words entry.line) (Upload name version) NewName says says' in cc

  -- a removal neither brings a block nor, with a stray line, is a step
  removal-brings : (line : List ℕ) (name : List ℕ) → Says (words line) (Removal name) → ¬ BringsBlock s line
  removal-brings line name says (inl (name', version', says', taken)) =
      let same = one-said (words line) (Removal name) (Upload name' version') says says' in cc
  removal-brings line name says (inr says') = let same = one-said (words line) (Removal name) NewName says says' in cc

  stray-step : (entry : Entry) (name : List ℕ) (line : ℕ) (taken : Step) → Says (words entry.line) (Removal name)
      → IsFirstStray (entry.number + 1) entry.block line → ¬ IsStepOf s limit entry taken
  stray-step entry name line (step.Upload cluster version' block) says stray ((name', says', named), of) =
      let same = one-said (words entry.line) (Removal name) (Upload name' version') says says' in cc
  stray-step entry name line (step.Removal name') says stray (says', blank) = not-stray (entry.number + 1) entry.block line blank stray
  stray-step entry name line (step.NewName block) says stray (says', of) =
      let same = one-said (words entry.line) (Removal name) NewName says says' in cc

  -- a step has a block that is read
  blocked-step : (entry : Entry) (reason : PackagesError) (taken : Step) → BringsBlock s entry.line → IsBlockRefused limit entry.block reason
      → ¬ IsStepOf s limit entry taken
  blocked-step entry reason (step.Upload cluster version block) brings refused ((name, says, named), of) =
      block-or-error exact limit entry.block block reason of refused
  blocked-step entry reason (step.Removal name) brings refused (says, blank) = removal-brings entry.line name says brings
  blocked-step entry reason (step.NewName block) brings refused (says, of) = block-or-error exact limit entry.block block reason of refused

  -- an entry whose step is taken has no fault, where the archive has the same packages
  no-error : (archive other : List Package) (entry : Entry) (error : FollowError) (taken : Step) → AreSame archive other → IsStepOf s limit entry taken
      → ((reason : StepError) → ¬ Refuses s archive taken reason) → ¬ IsEntryError s limit other entry error
  no-error archive other entry error taken same is unrefused has = elim (kind-of other entry error has) [
    | Silent told silent ↦ let says = step-says entry taken is in silent says.0 says.1
    | Unknown told name version says untaken ↦ unknown-step entry name version taken says untaken is
    | Strayed line told name says stray ↦ stray-step entry name line taken says stray is
    | Blocked reason told brings refused ↦ blocked-step entry reason taken brings refused is
    | Denied reason told denied of refuses ↦ unrefused reason (law.same other archive taken reason (λ n. ((same n).1, (same n).0))
        (subst (λ (x : Step). Refuses s other x reason) (one-step entry taken denied is of) refuses))
  ]

  one-error-at : (archive other : List Package) (entry : Entry) (error also : FollowError) → AreSame archive other → IsEntryError s limit archive entry error
      → IsEntryError s limit other entry also → also ≡ error
  one-error-at archive other entry error also same first second = elim (kind-of archive entry error first) [
    | Silent told silent ↦ elim (kind-of other entry also second) [
      | Silent told' silent' ↦ told' ∙ sym told
      | Unknown told' name version says untaken ↦ absurd (silent (Upload name version) says)
      | Strayed line told' name says stray ↦ absurd (silent (Removal name) says)
      | Blocked reason told' brings refused ↦ absurd (let says = brings-says entry.line brings in silent says.0 says.1)
      | Denied reason told' denied of refuses ↦ absurd (let says = step-says entry denied of in silent says.0 says.1)
    ]
    | Unknown told name version says untaken ↦ elim (kind-of other entry also second) [
      | Silent told' silent' ↦ absurd (silent' (Upload name version) says)
      | Unknown told' name' version' says' untaken' ↦ told' ∙ sym told
      | Strayed line told' name' says' stray ↦ absurd (let e = one-said (words entry.line) (Upload name version) (Removal name') says says' in cc)
      | Blocked reason told' brings refused ↦ absurd (unknown-brings entry.line name version says untaken brings)
      | Denied reason told' denied of refuses ↦ absurd (unknown-step entry name version denied says untaken of)
    ]
    | Strayed line told name says stray ↦ elim (kind-of other entry also second) [
      | Silent told' silent' ↦ absurd (silent' (Removal name) says)
      | Unknown told' name' version' says' untaken' ↦ absurd (let e = one-said (words entry.line) (Removal name) (Upload name' version') says says' in cc)
      | Strayed line' told' name' says' stray' ↦
          told' ∙ ap (λ (n : ℕ). Bad n Stray) (one-stray (entry.number + 1) entry.block line line' stray stray') ∙ sym told
      | Blocked reason told' brings refused ↦ absurd (removal-brings entry.line name says brings)
      | Denied reason told' denied of refuses ↦ absurd (stray-step entry name line denied says stray of)
    ]
    | Blocked reason told brings refused ↦ elim (kind-of other entry also second) [
      | Silent told' silent' ↦ absurd (let says = brings-says entry.line brings in silent' says.0 says.1)
      | Unknown told' name' version' says' untaken' ↦ absurd (unknown-brings entry.line name' version' says' untaken' brings)
      | Strayed line' told' name' says' stray' ↦ absurd (removal-brings entry.line name' says' brings)
      | Blocked reason' told' brings' refused' ↦ one-told entry reason error also told
          (subst (λ (r : PackagesError). IsTold entry r also) (one-reason exact limit entry.block reason reason' refused refused') told')
      | Denied reason' told' denied of refuses ↦ absurd (blocked-step entry reason denied brings refused of)
    ]
    | Denied reason told denied of refuses ↦ elim (kind-of other entry also second) [
      | Silent told' silent' ↦ absurd (let says = step-says entry denied of in silent' says.0 says.1)
      | Unknown told' name' version' says' untaken' ↦ absurd (unknown-step entry name' version' denied says' untaken' of)
      | Strayed line' told' name' says' stray' ↦ absurd (stray-step entry name' line' denied says' stray' of)
      | Blocked reason' told' brings' refused' ↦ absurd (blocked-step entry reason' denied brings' refused' of)
      | Denied reason' told' denied' of' refuses' ↦
          let step_is : denied' ≡ denied = one-step entry denied denied' of of' in
          let here : Refuses s archive denied reason' =
          law.same other archive denied reason' (λ n. ((same n).1, (same n).0)) (subst (λ (x : Step). Refuses s other x reason') step_is refuses') in
          told' ∙ ap (λ (r : StepError). Bad entry.number (Refused r)) (law.one archive denied reason reason' refuses here) ∙ sym told
    ]
  ]

  -- ---- runs

  -- steps of the same entries leave the same packages
  run-same : (read : List Entry) (steps more : List Step) (old other new newer : List Package) → AreSame old other → AreStepsOf s limit read steps
      → AreStepsOf s limit read more → Lead s steps old new → Lead s more other newer → AreSame new newer
  run-same [] steps more old other new newer same are are' lead lead' =
      let a : Lead s [] old new = subst (λ (l : List Step). Lead s l old new) are lead in
      let b : Lead s [] other newer = subst (λ (l : List Step). Lead s l other newer) are' lead' in
      λ n. (
        (λ there. (b.exact n).1 ((same n).0 ((a.exact n).0 there))),
        λ there. (a.exact n).1 ((same n).1 ((b.exact n).0 there)),
      )
  run-same (entry ∷ read) steps more old other new newer same (first, rest, is, of, are) (first', rest', is', of', are') lead lead' =
      let a : Lead s (first ∷ rest) old new = subst (λ (l : List Step). Lead s l old new) is lead in
      let b : Lead s (first' ∷ rest') other newer = subst (λ (l : List Step). Lead s l other newer) is' lead' in
      let step_is : first' ≡ first = one-step entry first first' of of' in
      let next : AreSame a.0 b.0 = law.made old other a.0 b.0 first same a.1 (subst (λ (x : Step). Makes s x other b.0) step_is b.1) in
      run-same read rest rest' a.0 b.0 new newer next are are' a.2 b.2

  -- the step of an entry is not refused, where the archive has come so far
  record Passes (entry : Entry) (archive : List Package) : Type 0 where
    taken : Step
    is_step : IsStepOf s limit entry taken
    unrefused : (reason : StepError) → ¬ Refuses s archive taken reason

  passes : (before : List Entry) (entry : Entry) (after : List Entry) (steps more : List Step) (old other new newer : List Package) → AreSame old other
      → AreStepsOf s limit before steps → AreStepsOf s limit (before ++ entry ∷ after) more → Lead s steps old new → Lead s more other newer
      → AreTaken s more other newer → Passes entry new
  passes [] entry after steps more old other new newer same are (first, rest, is, of, are') lead lead' taken =
      let a : Lead s [] old new = subst (λ (l : List Step). Lead s l old new) are lead in
      let b : AreTaken s (first ∷ rest) other newer = subst (λ (l : List Step). AreTaken s l other newer) is taken in
      record {
        taken = first;
        is_step = of;
        unrefused = λ reason refuses. b.0 reason (law.same new other first reason
            (λ n. ((λ there. (same n).0 ((a.exact n).0 there)), λ there. (a.exact n).1 ((same n).1 there))) refuses);
      }
  passes (x ∷ before) entry after steps more old other new newer same (first, rest, is, of, are) (first', rest', is', of', are') lead lead' taken =
      let a : Lead s (first ∷ rest) old new = subst (λ (l : List Step). Lead s l old new) is lead in
      let b : Lead s (first' ∷ rest') other newer = subst (λ (l : List Step). Lead s l other newer) is' lead' in
      let t : AreTaken s (first' ∷ rest') other newer = subst (λ (l : List Step). AreTaken s l other newer) is' taken in
      let step_is : first' ≡ first = one-step x first first' of of' in
      let next : AreSame a.0 b.0 = law.made old other a.0 b.0 first same a.1 (subst (λ (y : Step). Makes s y other b.0) step_is b.1) in
      passes before entry after rest rest' a.0 b.0 new newer next are are' a.2 b.2 (t.1 b.0 b.1)

  itself : (archive : List Package) → AreSame archive archive
  itself archive n = ((λ there. there), λ there. there)

  module _ (journal : List ℕ) (old : List Package) where
    follows-same : (read : List Entry) (new other : List Package) → Follows s limit read old new → Follows s limit read old other → AreSame new other
    follows-same read new other first second =
        run-same read first.steps second.steps old old new other (itself old) first.are_steps second.are_steps first.made.lead second.made.lead

    -- what is followed past an entry is not stopped there
    past : (before : List Entry) (entry : Entry) (after : List Entry) (new other : List Package) (error : FollowError) → Follows s limit before old new
        → Follows s limit (before ++ entry ∷ after) old other → ¬ IsEntryError s limit new entry error
    past before entry after new other error first second has =
        let p = passes before entry after first.steps second.steps old old new other (itself old) first.are_steps second.are_steps first.made.lead
        second.made.lead second.made.taken in
        no-error new new entry error p.taken (itself new) p.is_step p.unrefused has

    one-archive : (new other : List Package) (count many : ℕ) → IsFollowed s limit journal old new count → IsFollowed s limit journal old other many
        → AreSame new other × (many ≡ count)
    one-archive new other count many first second =
        (follows-same (entries journal) new other first.follows second.follows, second.count_is ∙ sym first.count_is)

    one-stop : (new other : List Package) (entry entry' : Entry) (error also : FollowError) → StopsAt s limit journal old new entry
        → StopsAt s limit journal old other entry' → IsEntryError s limit new entry error → IsEntryError s limit other entry' also → also ≡ error
    one-stop new other entry entry' error also first second has has' =
        elim (cuts first.before second.before entry entry' first.after second.after (sym first.pieces ∙ second.pieces)) [
          | inl both ↦
              let follows : Follows s limit first.before old other =
              subst (λ (l : List Entry). Follows s limit l old other) (sym both.0) second.follows in
              one-error-at new other entry error also (follows-same first.before new other first.follows follows) has
              (subst (λ (e : Entry). IsEntryError s limit other e also) (sym both.1) has')
          | inr rest ↦ elim rest [
            | inl later ↦ absurd (past first.before entry later.0 new other error first.follows
                (subst (λ (l : List Entry). Follows s limit l old other) later.1 second.follows) has)
            | inr earlier ↦ absurd (past second.before entry' earlier.0 other new also second.follows
                (subst (λ (l : List Entry). Follows s limit l old new) earlier.1 first.follows) has')
          ]
        ]

    one-error : (new other : List Package) (error also : FollowError) → IsStopped s limit journal old new error
        → IsStopped s limit journal old other also → also ≡ error
    one-error new other error also (inl (is, (line, told, stray))) (inl (is', (line', told', stray'))) =
        told' ∙ ap (λ (n : ℕ). Bad n Stray) (one-stray 1 (front (lines journal)) line line' stray stray') ∙ sym told
    one-error new other error also (inl (is, (line, told, stray))) (inr (entry, stops, has)) =
        absurd (not-stray 1 (front (lines journal)) line stops.head stray)
    one-error new other error also (inr (entry, stops, has)) (inl (is, (line, told, stray))) =
        absurd (not-stray 1 (front (lines journal)) line stops.head stray)
    one-error new other error also (inr (entry, stops, has)) (inr (entry', stops', has')) =
        one-stop new other entry entry' error also stops stops' has has'

    never-both : (new other : List Package) (count : ℕ) (error : FollowError) → IsFollowed s limit journal old new count
        → ¬ IsStopped s limit journal old other error
    never-both new other count error followed (inl (is, (line, told, stray))) = not-stray 1 (front (lines journal)) line followed.head stray
    never-both new other count error followed (inr (entry, stops, has)) =
        past stops.before entry stops.after other new error stops.follows
        (subst (λ (l : List Entry). Follows s limit l old new) stops.pieces followed.follows) has

    pub one-end : HasOneEnd s limit journal old
    one-end = record { one_archive = one-archive; one_error = one-error; never_both = never-both }
