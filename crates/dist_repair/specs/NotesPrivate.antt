-- What is noted of the findings of a repair's file, and what it answers. It serves private contracts, and those by
-- which a search asks its questions.
use Rattle.std.specs.Prelude.{◌≡◌, ◌↔◌, ◌==◌, ◌||◌, ◌&&◌, ◌⊎◌, ℕ, ◌+◌, ◌<◌, ◌≤◌, Bool, true, false, List, [], ◌∷◌}
use Rattle.std.specs.Prelude.{length, Option, Some, None, if◌then◌else◌, nat_le, nat_lt, slice_index_or, slice_set}
use Rattle.dist_cert.specs.ClaimRules.{no, yes}
use Rattle.dist_cert.specs.Form.{Word}
use Rattle.dist_cert.specs.Rising.{is_among}
use Rattle.dist_space.specs.Space.{SpaceView, cluster_classes, variable_of}
use Rattle.dist_space.specs.declared.meaning.Meaning.TheVariants.{At}
use Rattle.dist_subject.specs.Present.{truth_of}
use Rattle.dist_findings.specs.declared.file.Answered.{Answered}
use Rattle.dist_findings.specs.declared.file.Answered.TheVariants as answered
use Rattle.dist_findings.specs.declared.finding.Finding.{Finding}
use Rattle.dist_repair.specs.Answered.{Asked, AsksAlone, AsksAt, IsLeft, IsLower, IsRefuted, IsUpper}
use Rattle.dist_repair.specs.Answered.{beyond, installed, moved_in, own}
use Rattle.dist_repair.specs.Counters.{counted_variables, counter_of}
use Rattle.dist_repair.specs.declared.repair.Repair.{Repair}
use Rattle.dist_repair.specs.declared.repair.Repair.TheVariants.{Outdated, Least, AtLeast}
use Rattle.dist_repair.specs.Verdicts.{IsHeaderOf}
use Rattle.dist_repair.specs.declared.verdict.RepairVerdict.{RepairVerdict}
use Rattle.dist_repair.specs.declared.verdict.RepairVerdict.TheVariants.{Accepted, Refused}

-- ---- installations

-- the variable says that the cluster has moved, to a class of it
abbrev pub IsClassOf : SpaceView → (variable cluster : ℕ) → Type 0
IsClassOf s variable cluster = (cluster < length s.clusters.members) × (k : ℕ)
    × (k < length (cluster_classes s cluster)) × (variable_of s (At cluster k) ≡ variable)

-- ---- questions

-- the variables of questions: the package's, and the first of those that say that more than j of all clusters have
-- moved, for each j up to the most
pub record WordsView : Type 0 where
  pub own : ℕ
  pub first : ℕ
  pub most : ℕ

-- they are those of what a file asks of
pub record AreWordsOf (s : SpaceView) (asked : Asked) (w : WordsView) : Type 0 where
  pub own_is : w.own ≡ own s asked
  pub first_is : w.first ≡ beyond s asked 0
  pub most_is : w.most ≡ asked.most
  pub last_is : w.first + w.most ≡ counted_variables (counter_of s asked.most)

abbrev pub IsAlone : WordsView → List Word → Type 0
IsAlone w question = question ≡ yes w.own ∷ []

-- the question at j, up to the most
abbrev pub IsAt : WordsView → List Word → (j : ℕ) → Type 0
IsAt w question j = (j ≤ w.most) × ((question ≡ yes w.own ∷ no (w.first + j) ∷ [])
    ⊎ (question ≡ no (w.first + j) ∷ yes w.own ∷ []))

-- it is no such question
abbrev pub IsAtNone : WordsView → List Word → Type 0
IsAtNone w question = (j : ℕ) → ¬ IsAt w question j

-- ---- notes

-- whether the question of the package alone is refuted, and left undecided; the lower bound; for each number up to the
-- most whether its question is left undecided; and the upper bound
pub record NotesView : Type 0 where
  pub words : WordsView
  pub outdated : Bool
  pub alone_left : Bool
  pub lower : ℕ
  pub left : List Bool
  pub upper : Option (ℕ × List Bool)

-- The notes are those of these findings.
pub record AreNotesOf (s : SpaceView) (asked : Asked) (found : List Finding) (n : NotesView) : Type 0 where
  pub words : AreWordsOf s asked n.words
  pub outdated : (n.outdated ≡ true) ↔ IsRefuted (AsksAlone s asked) found
  pub alone_left : (n.alone_left ≡ true) ↔ IsLeft (AsksAlone s asked) found
  pub lower : IsLower s asked found n.lower
  pub left_count : length n.left ≡ asked.most + 1
  pub left : (j : ℕ) → j ≤ asked.most → (slice_index_or n.left j false ≡ true) ↔ IsLeft (AsksAt s asked j) found
  pub upper : IsUpper s asked (installed s asked found) n.upper

-- ---- what is noted of a finding

-- a lower bound with one more number whose question is refuted
abbrev pub raised : (lower j : ℕ) → ℕ
raised lower j = if nat_lt j lower then lower else (j + 1)

-- what is noted of a question that is refuted, and of one that is left undecided
abbrev pub NotesRefuted : NotesView → List Word → NotesView → Type 0
NotesRefuted n question m = (IsAlone n.words question × (m ≡ record n { outdated = true }))
    ⊎ ((¬ IsAlone n.words question) × (((j : ℕ) × IsAt n.words question j × (m ≡ record n { lower = raised n.lower j }))
    ⊎ (IsAtNone n.words question × (m ≡ n))))

abbrev pub NotesLeft : NotesView → List Word → NotesView → Type 0
NotesLeft n question m = (IsAlone n.words question × (m ≡ record n { alone_left = true }))
    ⊎ ((¬ IsAlone n.words question)
    × (((j : ℕ) × IsAt n.words question j × (m ≡ record n { left = slice_set n.left j true }))
    ⊎ (IsAtNone n.words question × (m ≡ n))))

-- fewer than the upper bound, or there is none
abbrev pub is_fewer : Option (ℕ × List Bool) → ℕ → Bool
is_fewer (Some upper) count = nat_lt count upper.0
is_fewer None count = true

-- what is noted of an installation
abbrev pub noted_installed : SpaceView → NotesView → List ℕ → NotesView
noted_installed s n members = if is_among members n.words.own && is_fewer n.upper (moved_in s members)
    then record n { upper = Some (moved_in s members, truth_of (n.words.first + n.words.most) members) } else n

-- ---- the answer

-- no question is left that may raise the lower bound: all are refuted, or the next one is left undecided
abbrev pub is_at_end : NotesView → Bool
is_at_end n = nat_lt n.words.most n.lower || slice_index_or n.left n.lower false

abbrev pub ends_by : Option (ℕ × List Bool) → (lower : ℕ) → (at_end alone_left : Bool) → Bool
ends_by (Some upper) lower at_end alone_left = (upper.0 == lower) || at_end
ends_by None lower at_end alone_left = alone_left && at_end

-- the notes have an answer
abbrev pub has_answer : NotesView → Bool
has_answer n = n.outdated || ends_by n.upper n.lower (is_at_end n) n.alone_left

abbrev pub answer_by : Option (ℕ × List Bool) → (lower most : ℕ) → Repair
answer_by (Some upper) lower most =
    if upper.0 == lower then Least upper.0 upper.1 else AtLeast lower (nat_le lower most) (Some upper)
answer_by None lower most = AtLeast lower true None

-- it is this
abbrev pub answer_of : NotesView → Repair
answer_of n = if n.outdated then Outdated else answer_by n.upper n.lower n.words.most

-- ---- the verdict

-- what is answered of a file, from its numbers and notes or its fault
abbrev pub IsVerdictOf : Answered NotesView → RepairVerdict → Type 0
IsVerdictOf (answered.Accepted numbers notes) (Accepted h repair) = IsHeaderOf numbers.items h
    × (repair ≡ answer_of notes)
IsVerdictOf (answered.Refused fault) (Refused other) = other ≡ fault
IsVerdictOf done verdict = ⊥
