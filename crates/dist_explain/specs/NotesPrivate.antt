-- Serves private contracts: what is noted of the findings of an explanation's file.
use Rattle.std.specs.Prelude.{◌≡◌, ◌⊎◌, ◌↔◌, ◌||◌, ℕ, Bool, true, List, [], Option, Some, None, All, Any}
use Rattle.std.specs.Prelude.{Contains, filter, not}
use Rattle.std.specs.List.{list_all}
use Rattle.dist_cert.specs.Rising.{AreRising, is_among}
use Rattle.dist_explain.specs.Answered.{AreAllBut, AreLast, IsOnlyMissing, LeavesAllOpen, LeavesOpen, NoneRefuted}
use Rattle.dist_explain.specs.Answered.{ShowsAll, ShowsNeeded}
use Rattle.dist_explain.specs.declared.asked.Asked.{Asked}
use Rattle.dist_findings.specs.declared.finding.Finding.{Finding}

-- the relations of the last refuted question, those that are shown to be needed, and those that are left open
pub record LastView : Type 0 where
  pub numbers : List ℕ
  pub shown : List ℕ
  pub left_open : List ℕ

-- the lists of what is known rise
abbrev pub AreInOrder : LastView → Type 0
AreInOrder last = AreRising last.shown × AreRising last.left_open

-- what is asked, the last refuted question, and whether all relations have an installation, and are left open
pub record NotesView : Type 0 where
  pub asked : Asked
  pub last : Option LastView
  pub installed : Bool
  pub left_open : Bool

-- nothing is known of the relations
abbrev pub fresh : List ℕ → LastView
fresh numbers = record { numbers = numbers; shown = []; left_open = [] }

-- ---- one finding more

-- a relation more is shown to be needed, where it is the only one that is missing
pub record MarksShown (packages : ℕ) (members : List ℕ) (old new : LastView) : Type 0 where
  pub numbers : new.numbers ≡ old.numbers
  pub left_open : new.left_open ≡ old.left_open
  pub shown : (one : ℕ) → Contains new.shown one
      ↔ (Contains old.shown one ⊎ IsOnlyMissing old.numbers packages members one)

-- a relation more is left open, where it is the only one that is left out
pub record MarksOpen (others : List ℕ) (old new : LastView) : Type 0 where
  pub numbers : new.numbers ≡ old.numbers
  pub shown : new.shown ≡ old.shown
  pub left_open : (one : ℕ) → Contains new.left_open one
      ↔ (Contains old.left_open one ⊎ AreAllBut old.numbers one others)

-- ---- what the notes say

-- later findings show that one of some relations is needed, or leave it open
abbrev pub IsMarkedIn : Asked → (numbers : List ℕ) → (later : List Finding) → (one : ℕ) → Type 0
IsMarkedIn asked numbers later one =
    Any (ShowsNeeded asked numbers one) later ⊎ Any (LeavesOpen asked numbers one) later

-- What is known of the relations is what these later findings say.
pub record AreMarks (asked : Asked) (later : List Finding) (last : LastView) : Type 0 where
  pub shown : (one : ℕ) → Contains last.shown one ↔ Any (ShowsNeeded asked last.numbers one) later
  pub left_open : (one : ℕ) → Contains last.left_open one ↔ Any (LeavesOpen asked last.numbers one) later

-- no question of relations is refuted, and this is known of the question of all
pub record AreFirstNotes (asked : Asked) (found : List Finding) (installed left_open : Bool) : Type 0 where
  pub none : NoneRefuted asked found
  pub shown : (installed ≡ true) ↔ Any (ShowsAll asked) found
  pub open_still : (left_open ≡ true) ↔ Any (LeavesAllOpen asked) found

-- the last refuted question, and what is known of its relations
pub record AreLastNotes (asked : Asked) (found : List Finding) (last : LastView) : Type 0 where
  pub later : List Finding
  pub are_last : AreLast asked found last.numbers later
  pub marks : AreMarks asked later last

-- what is noted before a question of relations is refuted, and behind the last one
abbrev pub AreNotes : Asked → List Finding → (installed left_open : Bool) → Option LastView → Type 0
AreNotes asked found installed left_open None = AreFirstNotes asked found installed left_open
AreNotes asked found installed left_open (Some last) = AreLastNotes asked found last

-- The notes are those of these findings.
abbrev pub AreNotesOf : Asked → List Finding → NotesView → Type 0
AreNotesOf asked found n = (n.asked ≡ asked) × AreNotes asked found n.installed n.left_open n.last

-- ---- the answer

-- each relation is shown to be needed or left open
abbrev pub AreAllMarked : LastView → Type 0
AreAllMarked last = All (λ one. Contains last.shown one ⊎ Contains last.left_open one) last.numbers

abbrev pub are_all_marked : LastView → Bool
are_all_marked last = list_all (λ one. is_among last.shown one || is_among last.left_open one) last.numbers

abbrev pub IsMarked : (installed left_open : Bool) → Option LastView → Type 0
IsMarked installed left_open None = (installed ≡ true) ⊎ (left_open ≡ true)
IsMarked installed left_open (Some last) = AreAllMarked last

-- those that are left open and not shown to be needed
abbrev pub undecided_of : LastView → List ℕ
undecided_of last = filter (λ one. not (is_among last.shown one)) last.left_open
