-- What is told of a journal that was followed, and that what is broken stays so.
use Rattle.std.proofs.Common.{◌≡◌, ◌≢◌, ◌<◌, ℕ, Bool, inl, inr, arith, List, [], length, get_or, Option, Some, refl, sym, ap, ◌∙◌, subst}
use Rattle.std.proofs.Common.{slice_get}
use Rattle.std.specs.Prelude.{Contains}
use Rattle.std.specs.Option.{option_map_or}
use Rattle.std.specs.declared.cmp.Ordering.TheVariants.{Equal}
use Rattle.std.proofs.lemmas.List.Elements.{All-contains}
use Rattle.std.proofs.lemmas.Option.{get_or_from_slice_get, slice_get-get_or, slice_get_within}
use Rattle.dist_outside.specs.Files.{Files}
use Rattle.dist_base.specs.ListLaws.{at-has, contains-at, found-at, here-at}
use Rattle.dist_version.specs.Order.{version_cmp}
use Rattle.dist_cluster.specs.Partition.{least}
use Rattle.dist_repo.specs.declared.package.Package.{Package}
use Rattle.dist_classes.specs.VersionOrderLaws.{alike-right}
use Rattle.dist_space.specs.ClusterLaws.{in-package}
use Rattle.dist_space.specs.Space.{IsSpace, SpaceView}
use Rattle.dist_future.specs.Future.{IsFuture, IsInClusterOf}
use Rattle.dist_future.specs.Outdated.{Challenges, HoldsCluster, IsInstallableIn}
use Rattle.dist_archive.specs.Steps.{IsOfCluster, Lead}
use Rattle.dist_archive.specs.declared.step.Step.{Step}
use Rattle.dist_cert.specs.declared.records.Claim.{Claim}
use Rattle.dist_cert.specs.declared.records.Claim.TheVariants as claims
use Rattle.dist_check.specs.Means.{MeansChallenged, SaysChallenged}
use Rattle.dist_future.specs.Pairs.{IsOfPair}
use Rattle.dist_journal.specs.Broken.{IsBroken, Lists}
use Rattle.dist_journal.specs.declared.broken_list.Broken.{Broken}
use Rattle.dist_history.specs.FollowText.{follow_text, held_version, version_of_name}
use Rattle.dist_history.specs.FollowTextLaws.{version-held}
use Rattle.dist_history.specs.Left.{HoldsNoOther}
use Rattle.dist_archive.specs.Archive.{ArchiveView}
use Rattle.dist_cert.specs.declared.records.CertKind.{CertKind}
use Rattle.dist_cert.specs.declared.records.CertKind.TheVariants.{Strong, Outdated, Challenged}
use Rattle.dist_journal.specs.Follow.{IsFollowed, IsStopped}
use Rattle.dist_journal.specs.declared.fault.FollowError.{FollowError}
use Rattle.dist_journal.specs.declared.fault.FollowError.TheVariants.{Bad, TooMany, NoMemory}
use Rattle.dist_commands.specs.DuePrivate.{IsPartGivenUp}
use Rattle.dist_commands.specs.Follow.{AreToldBroken, IsTrueLine, JournalStage, StaysBroken, TellsFollowed}
use Rattle.dist_commands.specs.FollowPrivate.{IsBacked, IsRefusalOf, pair_of}
use Rattle.dist_commands.specs.Stages.{Ends, answered, refused}
use Rattle.dist_commands.specs.declared.accepting.Accepted.{Accepted}
use Rattle.dist_commands.specs.declared.refusal.Refusal.{Refusal}
use Rattle.dist_commands.specs.declared.status.Status.{Status}
use Rattle.dist_commands.specs.declared.status.Status.TheVariants.{Done}

-- the laws of archives: two packages of a cluster are in one, and what challenges a package breaks it after all steps, whatever is missing
abbrev pub AreWhole : Type 0
AreWhole = (s : SpaceView) (cluster : ℕ) (c q : Package) → IsSpace s → IsOfCluster s cluster c → IsOfCluster s cluster q → IsInClusterOf s.repository c q

abbrev pub HoldAfterSteps : Type 0
HoldAfterSteps = (essential : Bool) (s : SpaceView) (c p : Package) (version : List ℕ) (steps : List Step) (old new : List Package) → IsSpace s
    → Challenges essential s.repository c version p → IsFuture s.repository old → Lead s steps old new → HoldsNoOther s.repository new c version
    → ¬ IsInstallableIn essential s.repository new p

-- the first member of a cluster
record First (s : SpaceView) (cluster : ℕ) : Type 0 where
  members : List ℕ
  are : slice_get s.clusters.members cluster ≡ Some members
  first : Package
  is : slice_get s.repository.packages (least members) ≡ Some first
  of : IsOfCluster s cluster first

module _ (s : SpaceView) (space : IsSpace s) (cluster : ℕ) (c : Package) (of : IsOfCluster s cluster c) where
  first-of : First s cluster
  first-of =
      let at = here-at (λ (l : List ℕ). Contains l of.member) s.clusters.members cluster of.in_cluster in
      let short = slice_get_within s.clusters.members cluster at.element at.is in
      let some : 0 < length at.element = All-contains (λ (l : List ℕ). 0 < length l) s.clusters.members at.element
      space.frame.clusters.partition.some (contains-at s.clusters.members cluster at.element at.is) in
      let there : Contains at.element (least at.element) = contains-at at.element 0 (least at.element) (slice_get-get_or at.element 0 0 some) in
      let list : get_or s.clusters.members cluster [] ≡ at.element = get_or_from_slice_get s.clusters.members cluster at.element [] at.is in
      let own = in-package s space.frame cluster (least at.element) short (subst (λ (l : List ℕ). Contains l (least at.element)) (sym list) there) in
      record {
        members = at.element;
        are = at.is;
        first = own.package_is;
        is = own.is;
        of = record {
          member = least at.element;
          in_cluster = at-has (λ (l : List ℕ). Contains l (least at.element)) s.clusters.members cluster at.element at.is there;
          is = own.is;
        };
      }

  module _ (whole : AreWhole) (archive : List Package) (future : IsFuture s.repository archive) (version : List ℕ)
      (holds : HoldsCluster s.repository archive c version) where
    -- the version in the line is equal to each one that the cluster has moved to
    held-equal : version_cmp (held_version s archive cluster) version ≡ Equal
    held-equal =
        let f = first-of in
        let at = found-at (λ (n : Package). (n.name ≡ f.first.name) × (version_cmp n.version version ≡ Equal)) archive
        (holds f.first (whole s cluster c f.first space of f.of)) in
        let told : List ℕ → List ℕ = λ members. option_map_or (λ (q : Package). version_of_name archive q.name)
        (slice_get s.repository.packages (least members)) [] in
        let is : held_version s archive cluster ≡ at.element.version =
        ap (λ (o : Option (List ℕ)). option_map_or told o []) f.are
        ∙ ap (λ (o : Option Package). option_map_or (λ (q : Package). version_of_name archive q.name) o []) f.is
        ∙ version-held f.first.name archive at.element future.one_of_a_name (contains-at archive at.place at.element at.is, at.holds.0) in
        subst (λ (v : List ℕ). version_cmp v version ≡ Equal) (sym is) at.holds.1

-- the pair that a claim lists challenges its package
listed-challenges : (s : SpaceView) (number cluster class : ℕ) (c p : Package) (version : List ℕ) (claim : Claim) → SaysChallenged s number p claim
    → Lists claim cluster class → IsOfPair s cluster class c version → Challenges s.essential s.repository c version p
listed-challenges s number cluster class c p version (claims.Challenged by undecided) says lists pair = says.1.listed cluster class c version pair lists
listed-challenges s number cluster class c p version claims.Uninstallable says lists pair = absurd lists
listed-challenges s number cluster class c p version claims.Unknown says lists pair = absurd lists
listed-challenges s number cluster class c p version (claims.Strong on undecided) says lists pair = absurd lists
listed-challenges s number cluster class c p version claims.Outdated says lists pair = absurd lists
listed-challenges s number cluster class c p version claims.Alive says lists pair = absurd lists

module _ (whole : AreWhole) (after : HoldAfterSteps) (s : SpaceView) (space : IsSpace s) (archive : List Package) (future : IsFuture s.repository archive)
    (made : List Claim) (means : MeansChallenged s made) where
  -- the version that the cluster has moved to challenges the package
  moved-challenges : (broken : Broken) (is : IsBroken s archive made broken) (c p : Package) → IsOfCluster s broken.cluster c
      → slice_get s.repository.packages broken.package_ ≡ Some p → Challenges s.essential s.repository c is.moved.0 p
  moved-challenges broken is c p of own =
      let at = here-at (λ (claim : Claim). Lists claim broken.cluster is.class) made broken.package_ is.listed in
      let pair : IsOfPair s broken.cluster is.class c is.moved.0 = record {
        member = of.member;
        in_cluster = of.in_cluster;
        is = of.is;
        is_version = is.moved.1.2.is_version;
        of_class = is.moved.2;
      } in
      listed-challenges s broken.package_ broken.cluster is.class c p is.moved.0 at.element (means.each broken.package_ p at.element own at.is) at.holds pair

  moved-equal : (broken : Broken) (is : IsBroken s archive made broken) → version_cmp (held_version s archive broken.cluster) is.moved.0 ≡ Equal
  moved-equal broken is = held-equal s space broken.cluster is.moved.1.0 is.moved.1.1 whole archive future is.moved.0 is.moved.1.3

  pub right : (broken : Broken) → IsBroken s archive made broken → IsTrueLine s archive broken
  right broken is =
      let at = here-at (λ (q : Package). Contains archive q) s.repository.packages broken.package_ is.held in
      let f = first-of s space broken.cluster is.moved.1.0 is.moved.1.1 in
      record {
        p = at.element;
        is_package = at.is;
        members = f.members;
        are_members = f.are;
        c = f.first;
        is_first = f.is;
        version = is.moved.0;
        same = moved-equal broken is;
        challenges = moved-challenges broken is f.first at.element f.of at.is;
      }

  pub stays : (broken : Broken) → IsBroken s archive made broken → StaysBroken s archive broken
  stays broken is c p steps later of own lead only =
      after s.essential s c p is.moved.0 steps archive later space (moved-challenges broken is c p of own) future lead (λ n there name.
      sym (alike-right (held_version s archive broken.cluster) is.moved.0 n.version (moved-equal broken is)) ∙ only n there name)

-- ---- what the command tells

nothing-in : (broken : Broken) → ¬ Contains [] broken
nothing-in broken there = omega (arith, there.1)

are_broken : (kind : CertKind) (s : SpaceView) (archive : List Package) (made : List Claim) (list : List Broken) (broken : Broken)
    → AreToldBroken kind s archive made list → Contains list broken → (kind ≡ Challenged) × IsBroken s archive made broken
are_broken Strong s archive made list broken told has = absurd (nothing-in broken (subst (λ (l : List Broken). Contains l broken) told has))
are_broken Outdated s archive made list broken told has = absurd (nothing-in broken (subst (λ (l : List Broken). Contains l broken) told has))
are_broken Challenged s archive made list broken told has = (refl, (told.exact broken).0 has)

-- which packages are told, and the text of it
abbrev pub Told : Accepted → SpaceView → (archive : List Package) → (count : ℕ) → (text : List ℕ) → Type 0
Told accepted s archive count text = (list : List Broken) × AreToldBroken accepted.header.kind s archive accepted.claims list
    × (text ≡ follow_text s archive count list)

module _ (whole : AreWhole) (after : HoldAfterSteps) (space : SpaceView) (is_space : IsSpace space) (accepted : Accepted) (backed : IsBacked space accepted)
    (stanzas : ℕ) (journal : List ℕ) (count : ℕ) where
  -- what an archive that was followed to the end of a journal tells
  tells-here : (archive : List Package) → IsFuture space.repository archive
      → IsFollowed space stanzas journal space.repository.packages archive count → (text : List ℕ) → Told accepted space archive count text
      → (files : Option Files) → TellsFollowed files stanzas space (pair_of accepted) journal (answered files Done text)
  tells-here archive future followed text (list, told, is) files =
      record {
        archive = archive;
        count = count;
        followed = followed;
        list = list;
        are_told = told;
        true_lines = λ broken has.
            let both = are_broken accepted.header.kind space archive accepted.claims list broken told has in
            right whole after space is_space archive future accepted.claims (backed both.0) broken both.1;
        stay = λ broken has.
            let both = are_broken accepted.header.kind space archive accepted.claims list broken told has in
            stays whole after space is_space archive future accepted.claims (backed both.0) broken both.1;
        is = ap (answered files Done) is;
      }

  pub tells : (started archive : ArchiveView) → started ≡ record { space = space; packages = space.repository.packages } → archive.space ≡ started.space
      → IsFuture archive.space.repository archive.packages
      → IsFollowed started.space stanzas journal started.packages archive.packages count → (status : Status) (text : List ℕ) → status ≡ Done
      → Told accepted archive.space archive.packages count text
      → (files : Option Files) → TellsFollowed files stanzas space (pair_of accepted) journal (answered files status text)
  tells started archive is same future followed status text done told files =
      let own : archive.space ≡ space = same ∙ ap (λ (a : ArchiveView). a.space) is in
      subst (λ (s : Status). TellsFollowed files stanzas space (pair_of accepted) journal (answered files s text)) (sym done)
      (tells-here archive.packages (subst (λ (s : SpaceView). IsFuture s.repository archive.packages) own future)
      (subst (λ (a : ArchiveView). IsFollowed a.space stanzas journal a.packages archive.packages count) is followed) text
      (subst (λ (s : SpaceView). Told accepted s archive.packages count text) own told) files)

-- ---- why it gives up

module _ (files : Option Files) (stanzas : ℕ) (space : SpaceView) (journal : List ℕ) (left : List Package) where
  stopped-part : (error : FollowError) (why : Refusal)
      → (error ≢ NoMemory → IsStopped space stanzas journal space.repository.packages left error) → IsRefusalOf error why
      → IsPartGivenUp (λ ending. JournalStage files stanzas space journal (Ends ending)) files why
  stopped-part (Bad line fault) why stopped is =
      inr (Bad line fault, (left, stopped (λ (same : Bad line fault ≡ NoMemory). cc)), ap (refused files) is)
  stopped-part TooMany why stopped is = inr (TooMany, (left, stopped (λ (same : TooMany ≡ NoMemory). cc)), ap (refused files) is)
  stopped-part NoMemory why stopped is = inl is

pub gives-up : (space : SpaceView) (stanzas : ℕ) (journal : List ℕ) (started archive : ArchiveView)
    → started ≡ record { space = space; packages = space.repository.packages } → (error : FollowError) (why : Refusal)
    → (error ≢ NoMemory → IsStopped started.space stanzas journal started.packages archive.packages error) → IsRefusalOf error why
    → (files : Option Files) → IsPartGivenUp (λ ending. JournalStage files stanzas space journal (Ends ending)) files why
gives-up space stanzas journal started archive is error why stopped refusal files =
    stopped-part files stanzas space journal archive.packages error why
    (subst (λ (a : ArchiveView). error ≢ NoMemory → IsStopped a.space stanzas journal a.packages archive.packages error) is stopped) refusal
