-- The example of each class is a version of it, where its ends are versions.
use Rattle.std.proofs.Common.{ℕ, suc, ◌≤◌, List, [], ◌∷◌, length, get_or, refl, subst, sym, arith}
use Rattle.std.specs.Prelude.{All, codes}
use Rattle.std.proofs.lemmas.List.Elements.{All-cons, All-nil}
use Rattle.dist_version.specs.Between.{above_text, below_text}
use Rattle.dist_version.specs.Faults.{fault_of}
use Rattle.dist_version.specs.Order.{IsBelow}
use Rattle.dist_version.specs.Spelling.{IsVersion, epoch_digits, after_epoch, upstream_of, revision_of}
use Rattle.dist_version.specs.TextLaws.{version_from_no_fault}
use Rattle.dist_repo.specs.PackageList.{PackageList}
use Rattle.dist_classes.specs.Answers.{AreClassesOf, AreClassesOfName}
use Rattle.dist_classes.specs.Atoms.{AreBoundsVersions, IsBoundOn}
use Rattle.dist_classes.specs.ClassList.{HasExample, HasVersions, classes_above, classes_of_all}
use Rattle.dist_classes.specs.Cuts.{Rises, RisesFrom}
use Rattle.dist_classes.specs.declared.class_value.Class.{Class}
use Rattle.dist_classes.specs.declared.class_value.Class.TheVariants.{Point, Between, Above, Below, Any}
use Rattle.dist_classes.specs.VersionOrderLaws.{equal-itself}

-- what the law of density says
pub record IsDense : Type 0 where
  pub above : (text : List ℕ) (tildes : ℕ) → IsVersion text → IsVersion (above_text text tildes) × IsBelow text (above_text text tildes)
  pub between : (text other : List ℕ) (tildes : ℕ) → IsVersion text → IsBelow text other → length other ≤ tildes → IsBelow (above_text text tildes) other
  pub below : (text : List ℕ) → IsVersion (below_text text) × IsBelow (below_text text) text

-- the end that an example stands above, or at
abbrev pub IsLowEnd : Class → Type 0
IsLowEnd (Point v) = IsVersion v
IsLowEnd (Between a b) = IsVersion a
IsLowEnd (Above a) = IsVersion a
IsLowEnd (Below b) = Unit {0}
IsLowEnd Any = Unit {0}

zero_is_version : IsVersion (codes "0")
unfolding fault_of epoch_digits after_epoch upstream_of revision_of
zero_is_version = version_from_no_fault (codes "0") refl

pub has-example : IsDense → (class : Class) → IsLowEnd class → HasVersions class → HasExample class
has-example dense (Point v) low has = (low, equal-itself v)
has-example dense (Between a b) low has = let one = dense.above a (length b) low in (one.0, (one.1, dense.between a b (length b) low has (omega arith)))
has-example dense (Above a) low has = dense.above a 0 low
has-example dense (Below b) low has = dense.below b
has-example dense Any low has = (zero_is_version, tt)

first-of : (P : List ℕ → Type 0) (x : List ℕ) (xs : List (List ℕ)) → All P (x ∷ xs) → P x
first-of P x xs all = all 0 [] (omega arith)

rest-of : (P : List ℕ → Type 0) (x : List ℕ) (xs : List (List ℕ)) → All P (x ∷ xs) → All P xs
rest-of P x xs all k d short = all (suc k) d (omega arith)

pub above-examples : IsDense → (top : List ℕ) (cuts : List (List ℕ)) → IsVersion top → All IsVersion cuts → RisesFrom top cuts
    → All HasExample (classes_above top cuts)
above-examples dense top [] version versions rising = All-cons HasExample (Above top) [] (has-example dense (Above top) version tt) (All-nil HasExample)
above-examples dense top (cut ∷ cuts) version versions rising =
    let own = first-of IsVersion cut cuts versions in
    All-cons HasExample (Between top cut) (Point cut ∷ classes_above cut cuts) (has-example dense (Between top cut) version rising.0)
    (All-cons HasExample (Point cut) (classes_above cut cuts) (has-example dense (Point cut) own tt)
    (above-examples dense cut cuts own (rest-of IsVersion cut cuts versions) rising.1))

pub all-examples : IsDense → (cuts : List (List ℕ)) → All IsVersion cuts → Rises cuts → All HasExample (classes_of_all cuts)
all-examples dense [] versions rising = All-cons HasExample Any [] (has-example dense Any tt tt) (All-nil HasExample)
all-examples dense (cut ∷ cuts) versions rising =
    let own = first-of IsVersion cut cuts versions in
    All-cons HasExample (Below cut) (Point cut ∷ classes_above cut cuts) (has-example dense (Below cut) tt tt)
    (All-cons HasExample (Point cut) (classes_above cut cuts) (has-example dense (Point cut) own tt)
    (above-examples dense cut cuts own (rest-of IsVersion cut cuts versions) rising))

-- cuts are versions of bounds
on-any : (r : PackageList) (Allows : List ℕ → Type 0) (version : List ℕ) → IsBoundOn r Allows version → IsBoundOn r (λ name. Unit {0}) version
on-any r Allows version on = record { atom = on.atom; is_atom = on.is_atom; allowed = tt; bound = on.bound }

pub cluster-examples : IsDense → (r : PackageList) (members top : List ℕ) (classes : List Class) → AreBoundsVersions r → IsVersion top
    → AreClassesOf r members top classes → All HasExample classes
cluster-examples dense r members top classes bounds version of =
    let versions : All IsVersion of.cuts = λ k d short. let least = of.are_cuts.least k d short in
    bounds (get_or of.cuts k d) (on-any r _ (get_or of.cuts k d) least.0.1) in
    subst (All HasExample) (sym of.are) (above-examples dense top of.cuts version versions of.rising)

pub name-examples : IsDense → (r : PackageList) (name : List ℕ) (classes : List Class) → AreBoundsVersions r → AreClassesOfName r name classes
    → All HasExample classes
name-examples dense r name classes bounds of =
    let versions : All IsVersion of.cuts = λ k d short. let least = of.are_cuts.least k d short in
    bounds (get_or of.cuts k d) (on-any r _ (get_or of.cuts k d) least.0) in
    subst (All HasExample) (sym of.are) (all-examples dense of.cuts versions of.are_cuts.rising)
