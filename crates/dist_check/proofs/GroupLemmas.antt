-- A group is behind some lines, and numbered installations are those of lines.
use Rattle.std.proofs.Common.{◌≡◌, inl, inr, ℕ, ◌-◌, Bool, true, false, List, [], ◌∷◌, ◌++◌, refl, sym, ap, ◌∙◌, append_assoc, arith, if◌then◌else◌}
use Rattle.std.specs.List.{Contains, list_any}
use Rattle.std.proofs.lemmas.List.Elements.{Contains-get_or}
use Rattle.dist_cert.specs.declared.faults.CertCause.TheVariants as causes
use Rattle.dist_cert.specs.declared.records.CertRecord.{CertRecord}
use Rattle.dist_cert.specs.declared.records.CertRecord.TheVariants.{Installation}
use Rattle.dist_cert.specs.declared.records.Header.{Header}
use Rattle.dist_cert.specs.Subject.{Matter}
use Rattle.dist_cert.specs.Groups.{is_claim, group, installations, installation_at, IsRecent}
use Rattle.dist_cert.specs.ListLaws.{contains-cases}
use Rattle.dist_line_check.specs.LinesAt.{AreRight}

-- the lines before a group
pub record IsBehind (lines behind : List CertRecord) : Type 0 where
  pub front : List CertRecord
  pub is : lines ≡ front ++ behind

pub group-behind : (lines : List CertRecord) → IsBehind lines (group lines)
group-behind [] = record { front = []; is = refl }
group-behind (step ∷ steps) = by step steps (group-behind steps) (list_any is_claim (step ∷ steps))
  where
    by : (s : CertRecord) (ss : List CertRecord) → IsBehind ss (group ss) → (b : Bool) → IsBehind (s ∷ ss) (if b then group ss else s ∷ ss)
    by s ss behind true = record { front = s ∷ behind.front; is = ap (λ (ls : List CertRecord). s ∷ ls) behind.is }
    by s ss behind false = record { front = []; is = refl }

-- a line before which the installation's stands
pub record IsLineOf (lines : List CertRecord) (members : List ℕ) : Type 0 where
  pub before : List CertRecord
  pub after : List CertRecord
  pub is : lines ≡ before ++ Installation members ∷ after

later-line : (step : CertRecord) (steps : List CertRecord) (members : List ℕ) → IsLineOf steps members → IsLineOf (step ∷ steps) members
later-line step steps members line = record { before = step ∷ line.before; after = line.after; is = ap (λ (ls : List CertRecord). step ∷ ls) line.is }

pub line-of : (lines : List CertRecord) (members : List ℕ) → Contains (installations lines) members → IsLineOf lines members
line-of [] members there = absurd (omega (arith, there.1))
line-of (Installation variables ∷ steps) members there = elim (contains-cases variables (installations steps) members there) [
  | inl here ↦ record { before = []; after = steps; is = ap (λ (vs : List ℕ). Installation vs ∷ steps) here }
  | inr later ↦ later-line (Installation variables) steps members (line-of steps members later)
]
line-of (step ∷ steps) members there = later-line step steps members (line-of steps members there)

-- each numbered installation is healthy
pub installation-healthy : (matter : Matter) (h : Header) (steps : List CertRecord) → AreRight matter h steps
    → (front lines after : List CertRecord) (members : List ℕ)
    → steps ≡ (front ++ lines) ++ after → Contains (installations lines) members → ¬ (¬ matter.IsHealthy members)
installation-healthy matter h steps right front lines after members is there none =
    let line = line-of lines members there in
    let whole : steps ≡ (front ++ line.before) ++ Installation members ∷ (line.after ++ after)
    = is ∙ ap (λ (ls : List CertRecord). (front ++ ls) ++ after) line.is
    ∙ ap (λ (ls : List CertRecord). ls ++ after) (sym (append_assoc front line.before (Installation members ∷ line.after)))
    ∙ append_assoc (front ++ line.before) (Installation members ∷ line.after) after in
    right (front ++ line.before) (Installation members) (line.after ++ after) whole causes.NotAnInstallation none

pub recent-there : (before : List CertRecord) (number : ℕ) → IsRecent before number → Contains (installations before) (installation_at before number)
recent-there before number recent = Contains-get_or (installations before) (number - 1) [] (omega (arith, recent.0, recent.1))
