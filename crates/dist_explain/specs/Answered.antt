-- What the findings of an explanation's file answer. The variables from 1 on are the packages, and behind them, in
-- order, come the selectors of the relations.
use Rattle.std.specs.Prelude.{◌≡◌, ◌≢◌, ◌⊎◌, ◌↔◌, ℕ, ◌+◌, ◌≤◌, List, ◌∷◌, ◌++◌, All, Any, Contains}
use Rattle.dist_cert.specs.ClaimRules.{yes}
use Rattle.dist_cert.specs.Form.{Word}
use Rattle.dist_cert.specs.Rising.{AreRising}
use Rattle.dist_explain.specs.declared.asked.Asked.{Asked}
use Rattle.dist_explain.specs.declared.explained.Explained.{Explained}
use Rattle.dist_explain.specs.declared.explained.Explained.TheVariants.{Installable, Undecided, Broken}
use Rattle.dist_findings.specs.declared.finding.Finding.{Finding}
use Rattle.dist_findings.specs.declared.finding.Finding.TheVariants as finding

-- ---- questions and installations

-- a number of a relation, from 1
abbrev pub IsOfRelation : Asked → ℕ → Type 0
IsOfRelation asked number = (1 ≤ number) × (number ≤ asked.relations)

-- The question is on the package and the selectors of these relations alone, in any order.
pub record Selects (asked : Asked) (question : List Word) (numbers : List ℕ) : Type 0 where
  pub in_range : All (IsOfRelation asked) numbers
  pub rising : AreRising numbers
  pub exact : (word : Word) → Contains question word
      ↔ ((word ≡ yes asked.number) ⊎ Any (λ number. word ≡ yes (asked.packages + number)) numbers)

-- the installation has the package and the selectors of all relations
pub record HasAll (asked : Asked) (members : List ℕ) : Type 0 where
  pub has_package : Contains members asked.number
  pub has_selectors : (number : ℕ) → IsOfRelation asked number → Contains members (asked.packages + number)

-- One of the numbers is the only one that is not in a list, where each stands behind an offset.
pub record IsOnlyMissing (numbers : List ℕ) (offset : ℕ) (list : List ℕ) (one : ℕ) : Type 0 where
  pub there : Contains numbers one
  pub missing : ¬ Contains list (offset + one)
  pub others : All (λ number. number ≢ one → Contains list (offset + number)) numbers

-- others are all of the numbers but one
pub record AreAllBut (numbers : List ℕ) (one : ℕ) (others : List ℕ) : Type 0 where
  pub there : Contains numbers one
  pub exact : (number : ℕ) → Contains others number ↔ (Contains numbers number × (number ≢ one))

-- ---- what a finding says

-- a question of relations is refuted
abbrev pub RefutesSome : Asked → Finding → Type 0
RefutesSome asked (finding.Refuted question) = (numbers : List ℕ) × Selects asked question numbers
RefutesSome asked found = ⊥

-- an installation has all relations
abbrev pub ShowsAll : Asked → Finding → Type 0
ShowsAll asked (finding.Installed members) = HasAll asked members
ShowsAll asked found = ⊥

-- the question of all relations is undecided
abbrev pub LeavesAllOpen : Asked → Finding → Type 0
LeavesAllOpen asked (finding.LeftUndecided question) = (numbers : List ℕ) × Selects asked question numbers
    × ((number : ℕ) → IsOfRelation asked number → Contains numbers number)
LeavesAllOpen asked found = ⊥

-- Of some relations one is needed: an installation has the package and all of them but this one.
abbrev pub ShowsNeeded : Asked → (numbers : List ℕ) → (one : ℕ) → Finding → Type 0
ShowsNeeded asked numbers one (finding.Installed members) = Contains members asked.number
    × IsOnlyMissing numbers asked.packages members one
ShowsNeeded asked numbers one found = ⊥

-- the question of all of them but this one is undecided
abbrev pub LeavesOpen : Asked → (numbers : List ℕ) → (one : ℕ) → Finding → Type 0
LeavesOpen asked numbers one (finding.LeftUndecided question) = (others : List ℕ) × Selects asked question others
    × AreAllBut numbers one others
LeavesOpen asked numbers one found = ⊥

-- ---- the answer

-- no question of relations is refuted
abbrev pub NoneRefuted : Asked → List Finding → Type 0
NoneRefuted asked found = ¬ Any (RefutesSome asked) found

-- The last question of relations that is refuted is on these, and these findings come later.
pub record AreLast (asked : Asked) (found : List Finding) (numbers : List ℕ) (later : List Finding) : Type 0 where
  pub earlier : List Finding
  pub question : List Word
  pub stands : found ≡ earlier ++ finding.Refuted question ∷ later
  pub selects : Selects asked question numbers
  pub none_later : NoneRefuted asked later

-- Each of the relations is shown to be needed and stands in the first list, or else it is left open and stands in the
-- second.
pub record AreDecided (asked : Asked) (numbers : List ℕ) (later : List Finding) (needed undecided : List ℕ) : Type 0
  where
    pub needed_are : (one : ℕ) → Contains needed one ↔ Any (ShowsNeeded asked numbers one) later
    pub undecided_are : (one : ℕ) → Contains undecided one
        ↔ (Any (LeavesOpen asked numbers one) later × (¬ Any (ShowsNeeded asked numbers one) later))
    pub each : All (λ one. Contains needed one ⊎ Contains undecided one) numbers
    pub needed_rise : AreRising needed
    pub undecided_rise : AreRising undecided

-- What the findings answer: the relations of the last question that is refuted, each decided; or, where there is none,
-- that an installation has all relations, or else that the question of all of them is undecided.
abbrev pub Answers : Asked → List Finding → Explained → Type 0
Answers asked found (Broken needed undecided) = (numbers : List ℕ) × (later : List Finding)
    × AreLast asked found numbers later × AreDecided asked numbers later needed undecided
Answers asked found Installable = NoneRefuted asked found × Any (ShowsAll asked) found
Answers asked found Undecided = NoneRefuted asked found × (¬ Any (ShowsAll asked) found)
    × Any (LeavesAllOpen asked) found

-- they have an answer
abbrev pub AreAnswered : Asked → List Finding → Type 0
AreAnswered asked found = (explained : Explained) × Answers asked found explained
