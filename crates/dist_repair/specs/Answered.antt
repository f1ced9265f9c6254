-- What the findings of a repair's file answer, of a space of futures with its counter: bounds of how many clusters must
-- move for a package. Packages and clusters are numbered from 0.
use Rattle.std.specs.Prelude.{◌≡◌, ◌≢◌, ◌⊎◌, ℕ, ◌+◌, ◌-◌, ◌<◌, ◌≤◌, Bool, true, false, List, [], ◌∷◌, ◌++◌, All}
use Rattle.std.specs.Prelude.{Contains}
use Rattle.std.specs.Prelude.{Option, Some, None, filter, if◌then◌else◌, length}
use Rattle.std.specs.List.{flat_map, list_any, range_with_len}
use Rattle.dist_cert.specs.ClaimRules.{no, yes}
use Rattle.dist_cert.specs.Form.{Word}
use Rattle.dist_cert.specs.Rising.{is_among}
use Rattle.dist_space.specs.Space.{SpaceView, cluster_classes, variable_of}
use Rattle.dist_space.specs.declared.meaning.Meaning.TheVariants.{At, Present}
use Rattle.dist_subject.specs.Present.{truth_of}
use Rattle.dist_findings.specs.declared.finding.Finding.{Finding}
use Rattle.dist_findings.specs.declared.finding.Finding.TheVariants.{Refuted, LeftUndecided, Installed}
use Rattle.dist_repair.specs.Counters.{counted_variables, counter_of, more}
use Rattle.dist_repair.specs.declared.repair.Repair.{Repair}
use Rattle.dist_repair.specs.declared.repair.Repair.TheVariants.{Outdated, Least, AtLeast}

-- what a file asks of: a package, by its number, and the most that is counted to
pub record Asked : Type 0 where
  pub number : ℕ
  pub most : ℕ

-- ---- questions

-- the variable of the package as it is
abbrev pub own : SpaceView → Asked → ℕ
own s asked = variable_of s (Present asked.number)

-- the variable that says that more than j of all clusters have moved
abbrev pub beyond : SpaceView → Asked → (j : ℕ) → ℕ
beyond s asked j = more (counter_of s asked.most) (length s.clusters.members - 1) j

-- The question of the package alone.
abbrev pub AsksAlone : SpaceView → Asked → List Word → Type 0
AsksAlone s asked question = question ≡ yes (own s asked) ∷ []

-- The question at j: the package, where not more than j of all clusters have moved, in any order.
abbrev pub AsksAt : SpaceView → Asked → (j : ℕ) → List Word → Type 0
AsksAt s asked j question = (question ≡ yes (own s asked) ∷ no (beyond s asked j) ∷ [])
    ⊎ (question ≡ no (beyond s asked j) ∷ yes (own s asked) ∷ [])

-- some question of which this holds is refuted
abbrev pub IsRefuted : (List Word → Type 0) → List Finding → Type 0
IsRefuted Asks found = (question : List Word) × Asks question × Contains found (Refuted question)

-- some question of which this holds is left undecided
abbrev pub IsLeft : (List Word → Type 0) → List Finding → Type 0
IsLeft Asks found = (question : List Word) × Asks question × Contains found (LeftUndecided question)

-- ---- the lower bound

-- One more than the greatest number up to the most whose question is refuted, or 0 where none is.
pub record IsLower (s : SpaceView) (asked : Asked) (found : List Finding) (lower : ℕ) : Type 0 where
  pub shown : (lower ≡ 0) ⊎ ((j : ℕ) × (lower ≡ j + 1) × (j ≤ asked.most) × IsRefuted (AsksAt s asked j) found)
  pub greatest : (j : ℕ) → j ≤ asked.most → IsRefuted (AsksAt s asked j) found → j < lower

-- ---- the upper bound

-- some class of the cluster is true
abbrev pub is_at_class : SpaceView → (value : ℕ → Bool) → (cluster : ℕ) → Bool
is_at_class s value cluster =
    list_any (λ k. value (variable_of s (At cluster k))) (range_with_len 0 (length (cluster_classes s cluster)))

-- the clusters of which a class is true, by their numbers, rising
abbrev pub clusters_under : SpaceView → (value : ℕ → Bool) → List ℕ
clusters_under s value = filter (is_at_class s value) (range_with_len 0 (length s.clusters.members))

-- how many clusters have a true class in an installation
abbrev pub moved_in : SpaceView → List ℕ → ℕ
moved_in s members = length (clusters_under s (is_among members))

-- the installation that is found, if one is that has the package
abbrev pub installed_in : SpaceView → Asked → Finding → List (List ℕ)
installed_in s asked (Installed members) = if is_among members (own s asked) then (members ∷ []) else []
installed_in s asked finding = []

-- all installations with the package, in order
abbrev pub installed : SpaceView → Asked → List Finding → List (List ℕ)
installed s asked found = flat_map (installed_in s asked) found

-- This is the first of those with the fewest clusters.
pub record IsFirstLeast (s : SpaceView) (all : List (List ℕ)) (members : List ℕ) : Type 0 where
  pub earlier : List (List ℕ)
  pub later : List (List ℕ)
  pub stands : all ≡ earlier ++ members ∷ later
  pub first : All (λ other. moved_in s members < moved_in s other) earlier
  pub least : All (λ other. moved_in s members ≤ moved_in s other) later

-- the truth values of all variables, the counter's too, in an installation
abbrev pub values_in : SpaceView → Asked → List ℕ → List Bool
values_in s asked members = truth_of (counted_variables (counter_of s asked.most)) members

-- Of installations the fewest clusters, and the truth values of the first one with so few, if there is one.
abbrev pub IsUpper : SpaceView → Asked → (all : List (List ℕ)) → Option (ℕ × List Bool) → Type 0
IsUpper s asked all None = all ≡ []
IsUpper s asked all (Some upper) = (members : List ℕ) × IsFirstLeast s all members × (upper.0 ≡ moved_in s members)
    × (upper.1 ≡ values_in s asked members)

-- ---- the answer

-- the question at the lower bound is left undecided
abbrev pub IsLeftAt : SpaceView → Asked → List Finding → (lower : ℕ) → Type 0
IsLeftAt s asked found lower = (lower ≤ asked.most) × IsLeft (AsksAt s asked lower) found

-- What is known where the bounds don't meet. Where all questions up to the most are refuted, the upper bound is enough.
-- Else the question at the lower bound is undecided; and without an upper bound that of the package alone is.
abbrev pub EndsAt : SpaceView → Asked → List Finding → (lower : ℕ) → (undecided : Bool) → Option (ℕ × List Bool)
    → Type 0
EndsAt s asked found lower false (Some upper) = (upper.0 ≢ lower) × (lower ≡ asked.most + 1)
EndsAt s asked found lower true (Some upper) = (upper.0 ≢ lower) × IsLeftAt s asked found lower
EndsAt s asked found lower false None = ⊥
EndsAt s asked found lower true None = ((lower ≡ asked.most + 1) ⊎ IsLeftAt s asked found lower)
    × IsLeft (AsksAlone s asked) found

-- What the findings answer: the question of the package alone is refuted; or else both bounds are one number; or else
-- they are two, or there is no upper one.
abbrev pub Answers : SpaceView → Asked → List Finding → Repair → Type 0
Answers s asked found Outdated = IsRefuted (AsksAlone s asked) found
Answers s asked found (Least number values) = (¬ IsRefuted (AsksAlone s asked) found) × IsLower s asked found number
    × IsUpper s asked (installed s asked found) (Some (number, values))
Answers s asked found (AtLeast lower undecided upper) = (¬ IsRefuted (AsksAlone s asked) found)
    × IsLower s asked found lower × IsUpper s asked (installed s asked found) upper
    × EndsAt s asked found lower undecided upper
