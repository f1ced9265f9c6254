-- What a repair says of the clusters that move is so of the clusters as they are told.
use Rattle.std.proofs.Common.{◌≡◌, ℕ, suc, ◌+◌, ◌<◌, Bool, true, false, cond, List, [], ◌∷◌, ◌++◌, length, map, Option, Some, None, ap, refl, subst}
use Rattle.std.proofs.Common.{sym, ◌∙◌, arith, codes, decimal, slice_get, zero-add}
use Rattle.std.specs.Prelude.{◌↔◌, All, Any, Contains, IsSomeAnd, filter, find, if◌then◌else◌, ◌||◌}
use Rattle.std.specs.List.{flat_map, list_any, range_with_len}
use Rattle.std.specs.Option.{option_map_or}
use Rattle.std.proofs.lemmas.List.{length-map}
use Rattle.std.proofs.lemmas.List.Elements.{All-cons, All-nil}
use Rattle.std.proofs.lemmas.List.FromFn.{get_or-range_with_len, length-range_with_len}
use Rattle.std.proofs.lemmas.Option.{slice_get_within}
use Rattle.dist_clause.specs.Formula.{value_of}
use Rattle.dist_cluster.specs.Partition.{least}
use Rattle.dist_repo.specs.PackageList.{IsPackageAnd}
use Rattle.dist_repo.specs.declared.package.Package.{Package}
use Rattle.dist_space.specs.Space.{IsSpace, SpaceView, cluster_classes, example_at, variable_of}
use Rattle.dist_space.specs.declared.meaning.Meaning.TheVariants.{At}
use Rattle.dist_future.specs.Moved.{IsMoved, IsReplaced}
use Rattle.dist_future.specs.Outdated.{IsInstallableIn}
use Rattle.dist_repair.specs.Answered.{clusters_under, is_at_class}
use Rattle.dist_repair.specs.Means.{IsBound, IsPlan, Says}
use Rattle.dist_repair.specs.Verdicts.{is_undecided}
use Rattle.dist_repair.specs.Repair.{AreMoved, IsInstallableByMoving}
use Rattle.dist_repair.specs.declared.repair.Repair.{Repair}
use Rattle.dist_repair.specs.declared.repair.Repair.TheVariants as repairs
use Rattle.dist_report.specs.ClassesReport.{AreToldClusters, ToldCluster}
use Rattle.dist_report.specs.ExplainedText.{label_at}
use Rattle.dist_report.specs.PackageText.{cluster_text}
use Rattle.dist_report.specs.RepairText.{class_under, cluster_move, move_line, move_lines, plan_lines, repair_lines}
use Rattle.dist_app.specs.LawsPrivate.{HaveOneCuts, HaveOnePartition, HaveOneTop}
use Rattle.dist_app.specs.Truth.{HaveMoved, IsEnough, IsInstallableMoving, IsTrueOfMoves, MovesToVersion}
use Rattle.dist_app.specs.Truth.{MovesAnswer, NeverInstallable, LeastMoves, AtLeastMoves, NeedsMoves}
use Rattle.dist_app.specs.Truth.{is_left_open, moves_lines, moves_text}
use Rattle.dist_app.proofs.ToldTruth.{and-some, cluster-of-class, members-at, some-and, told-at}

-- ---- lists

-- where some number passes, the first that does is found
abbrev IsFirst : (ℕ → Bool) → List ℕ → Type 0
IsFirst test xs = (x : ℕ) × (find test xs ≡ Some x) × Contains xs x × (test x ≡ true)

found : (test : ℕ → Bool) (xs : List ℕ) → list_any test xs ≡ true → IsFirst test xs
found test [] passes = cc
found test (x ∷ xs) passes = here (test x) refl (found test xs)
  where
    here : (b : Bool) → test x ≡ b → (list_any test xs ≡ true → IsFirst test xs) → IsFirst test (x ∷ xs)
    here true is rest = (x, ap (λ b. cond b (Some x) (find test xs)) is, (0, omega arith, refl), is)
    here false is rest =
        let (y, is_found, (k, short, read), pass) = rest (sym (ap (λ b. b || list_any test xs) is) ∙ passes) in
        (y, ap (λ b. cond b (Some x) (find test xs)) is ∙ is_found, (suc k, omega (arith, short), read), pass)

not-found : (test : ℕ → Bool) (xs : List ℕ) → list_any test xs ≡ false → find test xs ≡ None
not-found test [] fails = refl
not-found test (x ∷ xs) fails = here (test x) refl (not-found test xs)
  where
    differ : true ≡ false → ⊥
    differ e = cc

    here : (b : Bool) → test x ≡ b → (list_any test xs ≡ false → find test xs ≡ None) → find test (x ∷ xs) ≡ None
    here true is rest = absurd (differ (sym (ap (λ b. b || list_any test xs) is) ∙ fails))
    here false is rest = ap (λ b. cond b (Some x) (find test xs)) is ∙ rest (sym (ap (λ b. b || list_any test xs) is) ∙ fails)

in-range : (n k : ℕ) → Contains (range_with_len 0 n) k → k < n
in-range n k (place, short, read) =
    let inside : place < n = omega (arith, short, length-range_with_len 0 n) in
    omega (arith, inside, sym read ∙ get_or-range_with_len 0 n place k inside)

-- the lines of all numbers, where those that do not pass have none, are the lines of those that do
picked : (f : ℕ → List ℕ) (g : ℕ × List ℕ → List ℕ) (change : ℕ → ℕ × List ℕ) (test : ℕ → Bool)
    → ((x : ℕ) → test x ≡ true → f x ≡ g (change x)) → ((x : ℕ) → test x ≡ false → f x ≡ [])
    → (xs : List ℕ) → flat_map f xs ≡ flat_map g (map change (filter test xs))
picked f g change test passed failed [] = refl
picked f g change test passed failed (x ∷ xs) = here (test x) refl (picked f g change test passed failed xs)
  where
    told : List ℕ → List ℕ
    told list = flat_map g (map change list)

    here : (b : Bool) → test x ≡ b → flat_map f xs ≡ told (filter test xs) → flat_map f (x ∷ xs) ≡ told (filter test (x ∷ xs))
    here true is rest = ap (λ front. front ++ flat_map f xs) (passed x is) ∙ ap (λ list. g (change x) ++ list) rest
        ∙ sym (ap (λ b. told (cond b (x ∷ filter test xs) (filter test xs))) is)
    here false is rest = ap (λ front. front ++ flat_map f xs) (failed x is) ∙ rest
        ∙ sym (ap (λ b. told (cond b (x ∷ filter test xs) (filter test xs))) is)

firsts : (version : ℕ → List ℕ) (xs : List ℕ) → map (λ (move : ℕ × List ℕ). move.0) (map (λ x. (x, version x)) xs) ≡ xs
firsts version [] = refl
firsts version (x ∷ xs) = ap (λ list. x ∷ list) (firsts version xs)

all-of-filtered : (test : ℕ → Bool) (version : ℕ → List ℕ) (P : ℕ × List ℕ → Type 0) → ((x : ℕ) → test x ≡ true → P (x, version x))
    → (xs : List ℕ) → All P (map (λ x. (x, version x)) (filter test xs))
all-of-filtered test version P holds [] = All-nil P
all-of-filtered test version P holds (x ∷ xs) = here (test x) refl (all-of-filtered test version P holds xs)
  where
    moves : List ℕ → List (ℕ × List ℕ)
    moves list = map (λ x. (x, version x)) list

    here : (b : Bool) → test x ≡ b → All P (moves (filter test xs)) → All P (moves (filter test (x ∷ xs)))
    here true is rest = subst (λ b. All P (moves (cond b (x ∷ filter test xs) (filter test xs)))) (sym is)
        (All-cons P (x, version x) (moves (filter test xs)) (holds x is) rest)
    here false is rest = subst (λ b. All P (moves (cond b (x ∷ filter test xs) (filter test xs)))) (sym is) rest

-- ---- the clusters of a space

module _ (one_partition : HaveOnePartition) (one_top : HaveOneTop) (one_cuts : HaveOneCuts) (s : SpaceView) (space : IsSpace s)
    (plain : s.essential ≡ false) (clusters : List ToldCluster) (are : AreToldClusters s.repository clusters) where
  at : (c : ℕ) → c < length s.clusters.members → (t : ToldCluster) × (slice_get clusters c ≡ Some t)
  at = told-at one_partition one_top one_cuts s space clusters are

  members-of : (c : ℕ) (t : ToldCluster) → slice_get clusters c ≡ Some t → slice_get s.clusters.members c ≡ Some t.members
  members-of = members-at one_partition one_top one_cuts s space clusters are

  abbrev AreReplaced : List Package → List ℕ → Type 0
  AreReplaced future members = Any (λ m. IsPackageAnd s.repository.packages m (IsReplaced s.repository future)) members

  moved-at : (future : List Package) (c : ℕ) → ((c < length s.clusters.members) × IsMoved s future c)
      ↔ IsSomeAnd (slice_get clusters c) (λ cluster. AreReplaced future cluster.members)
  moved-at future c = (
    λ own. told own.0 own.1 (at c own.0),
    λ holds. of-told (some-and (slice_get clusters c) (λ cluster. AreReplaced future cluster.members) holds),
  )
    where
      told : c < length s.clusters.members → IsMoved s future c → (t : ToldCluster) × (slice_get clusters c ≡ Some t)
          → IsSomeAnd (slice_get clusters c) (λ cluster. AreReplaced future cluster.members)
      told within is_moved (t, is) = and-some (slice_get clusters c) (λ cluster. AreReplaced future cluster.members) t is
          (subst (λ (o : Option (List ℕ)). IsSomeAnd o (AreReplaced future)) (members-of c t is) is_moved)

      of-told : (t : ToldCluster) × (slice_get clusters c ≡ Some t) × AreReplaced future t.members
          → (c < length s.clusters.members) × IsMoved s future c
      of-told (t, is, replaced) = (
        slice_get_within s.clusters.members c t.members (members-of c t is),
        and-some (slice_get s.clusters.members c) (AreReplaced future) t.members (members-of c t is) replaced,
      )

  moved-told : (future : List Package) (numbers : List ℕ) → AreMoved s future numbers → HaveMoved s.repository clusters future numbers
  moved-told future numbers moved = record {
    rising = moved.rising;
    exact = λ c. (λ there. (moved-at future c).0 ((moved.exact c).0 there), λ holds. (moved.exact c).1 ((moved-at future c).1 holds));
  }

  installable-own : (p : Package) (numbers : List ℕ) → IsInstallableMoving s.repository clusters p numbers → IsInstallableByMoving s p numbers
  installable-own p numbers by = record {
    future = by.future;
    is_future = by.is_future;
    moved = record {
      rising = by.moved.rising;
      exact = λ c. (λ there. (moved-at by.future c).1 ((by.moved.exact c).0 there), λ holds. (by.moved.exact c).1 ((moved-at by.future c).0 holds));
    };
    installable = subst (λ (mode : Bool). IsInstallableIn mode s.repository by.future p) (sym plain) by.installable;
  }

  needs-moves : (p : Package) (lower : ℕ) → IsBound s p lower → NeedsMoves s.repository clusters p lower
  needs-moves p lower bound numbers fewer by = bound (length numbers) fewer (numbers, installable-own p numbers by, refl)

  -- ---- moves

  abbrev version_under : List Bool → ℕ → List ℕ
  version_under values c = option_map_or (example_at (cluster_classes s c)) (class_under s (value_of values) c) []

  abbrev moves_under : List Bool → List (ℕ × List ℕ)
  moves_under values = map (λ c. (c, version_under values c)) (clusters_under s (value_of values))

  class-of : (values : List Bool) (c : ℕ) → is_at_class s (value_of values) c ≡ true
      → (k : ℕ) × (class_under s (value_of values) c ≡ Some k) × (k < length (cluster_classes s c)) × (value_of values (variable_of s (At c k)) ≡ true)
  class-of values c passes =
      let classes = length (cluster_classes s c) in
      let (k, is, there, holds) = found (λ k. value_of values (variable_of s (At c k))) (range_with_len 0 classes) passes in
      (k, is, in-range classes k there, holds)

  version-of : (values : List Bool) (c k : ℕ) → class_under s (value_of values) c ≡ Some k → version_under values c ≡ example_at (cluster_classes s c) k
  version-of values c k is = ap (λ (o : Option ℕ). option_map_or (example_at (cluster_classes s c)) o []) is

  enough : (p : Package) (number : ℕ) (values : List Bool) → IsPlan s p number values → IsEnough s.repository clusters p (moves_under values)
  enough p number values plan = record {
    by = record {
      future = future;
      is_future = plan.installable.by.is_future;
      moved = subst (HaveMoved s.repository clusters future) (sym (firsts (version_under values) (clusters_under s (value_of values))))
          (moved-told future (clusters_under s (value_of values)) plan.installable.by.moved);
      installable = subst (λ (mode : Bool). IsInstallableIn mode s.repository future p) plain plan.installable.by.installable;
    };
    versions = all-of-filtered (is_at_class s (value_of values)) (version_under values) (MovesToVersion s.repository clusters future) moves-to
        (range_with_len 0 (length s.clusters.members));
  }
    where
      future : List Package
      future = plan.installable.by.future

      moves-to : (c : ℕ) → is_at_class s (value_of values) c ≡ true → MovesToVersion s.repository clusters future (c, version_under values c)
      moves-to c passes =
          let (k, is, short, holds) = class-of values c passes in
          let (t, is_told) = at c (cluster-of-class s space c k short) in
          and-some (slice_get clusters c) (λ cluster. (m : ℕ) (q : Package) → Contains cluster.members m → slice_get s.repository.packages m ≡ Some q
          → Any (λ n. (n.name ≡ q.name) × (n.version ≡ version_under values c)) future) t is_told
          (λ m q has there. subst (λ (v : List ℕ). Any (λ n. (n.name ≡ q.name) × (n.version ≡ v)) future) (sym (version-of values c k is))
          (plan.installable.held c k short holds m q
          (and-some (slice_get s.clusters.members c) (λ cluster. Contains cluster m) t.members (members-of c t is_told) has) there))

  -- ---- the text

  abbrev move_text : ℕ × List ℕ → List ℕ
  move_text move = codes "move " ++ (option_map_or (λ (cluster : ToldCluster). label_at s.repository.packages (least cluster.members))
      (slice_get clusters move.0) [] ++ (codes " to " ++ (move.1 ++ codes "\n")))

  move-same : (values : List Bool) (c : ℕ) → is_at_class s (value_of values) c ≡ true
      → cluster_move s (value_of values) c ≡ move_text (c, version_under values c)
  move-same values c passes =
      let (k, is, short, holds) = class-of values c passes in
      let (t, is_told) = at c (cluster-of-class s space c k short) in
      let first : List ℕ → List ℕ = λ members. label_at s.repository.packages (least members) in
      let named : cluster_text s c ≡ option_map_or (λ (cluster : ToldCluster). first cluster.members) (slice_get clusters c) [] =
      ap (λ (o : Option (List ℕ)). option_map_or first o []) (members-of c t is_told)
      ∙ sym (ap (λ (o : Option ToldCluster). option_map_or (λ (cluster : ToldCluster). first cluster.members) o []) is_told) in
      ap (λ (o : Option ℕ). option_map_or (move_line s c) o []) is
      ∙ ap (λ (name : List ℕ). codes "move " ++ (name ++ (codes " to " ++ (example_at (cluster_classes s c) k ++ codes "\n")))) named
      ∙ ap (λ (v : List ℕ). codes "move " ++ (option_map_or (λ (cluster : ToldCluster). first cluster.members) (slice_get clusters c) []
      ++ (codes " to " ++ (v ++ codes "\n")))) (sym (version-of values c k is))

  no-move : (values : List Bool) (c : ℕ) → is_at_class s (value_of values) c ≡ false → cluster_move s (value_of values) c ≡ []
  no-move values c fails = ap (λ (o : Option ℕ). option_map_or (move_line s c) o [])
      (not-found (λ k. value_of values (variable_of s (At c k))) (range_with_len 0 (length (cluster_classes s c))) fails)

  plan-same : (words : List ℕ) (p : Package) (number : ℕ) (values : List Bool) → IsPlan s p number values
      → plan_lines s words number values ≡ words ++ moves_lines s.repository clusters (moves_under values)
  plan-same words p number values plan =
      ap (λ (n : ℕ). words ++ (decimal n ++ (codes "\n" ++ move_lines s values)))
      (plan.count ∙ sym (length-map (clusters_under s (value_of values)) (λ c. (c, version_under values c))))
      ∙ ap (λ (list : List ℕ). words ++ (decimal (length (moves_under values)) ++ (codes "\n" ++ list)))
      (picked (cluster_move s (value_of values)) move_text (λ c. (c, version_under values c)) (is_at_class s (value_of values)) (move-same values)
      (no-move values) (range_with_len 0 (length s.clusters.members)))

  -- ---- answers

  abbrev pub told_answer : Repair → MovesAnswer
  told_answer repairs.Outdated = NeverInstallable
  told_answer (repairs.Least number values) = LeastMoves (moves_under values)
  told_answer (repairs.AtLeast lower undecided None) = AtLeastMoves lower undecided None
  told_answer (repairs.AtLeast lower undecided (Some upper)) = AtLeastMoves lower undecided (Some (moves_under upper.1))

  pub answer-true : (p : Package) (repair : Repair) → Says s p repair → IsTrueOfMoves s.repository clusters p (told_answer repair)
  answer-true p repairs.Outdated says = λ numbers by. says (length numbers) (numbers, installable-own p numbers by, refl)
  answer-true p (repairs.Least number values) (plan, bound) = (
    enough p number values plan,
    subst (NeedsMoves s.repository clusters p) (plan.count ∙ sym (length-map (clusters_under s (value_of values)) (λ c. (c, version_under values c))))
        (needs-moves p number bound),
  )
  answer-true p (repairs.AtLeast lower undecided None) (bound, plan, decided) = (needs-moves p lower bound, tt, decided)
  answer-true p (repairs.AtLeast lower undecided (Some upper)) (bound, plan, decided) = (needs-moves p lower bound, enough p upper.0 upper.1 plan, λ e. refl)

  pub answer-text : (p : Package) (repair : Repair) → Says s p repair → repair_lines s repair ≡ moves_text s.repository clusters (told_answer repair)
  answer-text p repairs.Outdated says = refl
  answer-text p (repairs.Least number values) (plan, bound) = plan-same (codes "least ") p number values plan
  answer-text p (repairs.AtLeast lower undecided None) says = refl
  answer-text p (repairs.AtLeast lower undecided (Some upper)) (bound, plan, decided) =
      ap (λ (list : List ℕ). codes "at least " ++ (decimal lower ++ (codes "\n" ++ ((if undecided then codes "undecided\n" else []) ++ list))))
      (plan-same (codes "at most ") p upper.0 upper.1 plan)

  pub answer-open : (repair : Repair) → is_left_open (told_answer repair) ≡ is_undecided repair
  answer-open repairs.Outdated = refl
  answer-open (repairs.Least number values) = refl
  answer-open (repairs.AtLeast lower undecided None) = refl
  answer-open (repairs.AtLeast lower undecided (Some upper)) = refl
