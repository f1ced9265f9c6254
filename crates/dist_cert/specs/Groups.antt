-- What the lines before a line hold: numbered clauses, numbered installations, claims, the open question, and the group
-- of a claim. The lines are those after the first line, as records.
use Rattle.std.specs.Prelude.{◌≡◌, ℕ, ◌+◌, ◌-◌, ◌<◌, ◌≤◌, Bool, true, false, if◌then◌else◌, List, [], ◌∷◌, ◌++◌, length}
use Rattle.std.specs.Prelude.{map, slice_index_or}
use Rattle.std.specs.List.{flat_map, list_any, AllPass}
use Rattle.dist_clause.specs.Formula.{Literal, literal}
use Rattle.dist_cert.specs.declared.TheConstants.{REACH}
use Rattle.dist_cert.specs.declared.records.CertRecord.{CertRecord}
use Rattle.dist_cert.specs.declared.records.CertRecord.TheVariants.{Question, Derived, Refuted, Installation, Undecided}
use Rattle.dist_cert.specs.declared.records.CertRecord.TheVariants.{NotInstallable, Unknown, Strong, Outdated, Alive}
use Rattle.dist_cert.specs.declared.records.CertRecord.TheVariants.{Challenged}
use Rattle.dist_cert.specs.Form.{Word}
use Rattle.dist_cert.specs.Subject.{Matter}

-- ---- numbered clauses

abbrev pub clause_of : List Word → List Literal
clause_of words = map (λ word. literal word.0 word.1) words

-- the clause of a derived line
abbrev pub derived_in : CertRecord → List (List Literal)
derived_in (Derived literals hints) = clause_of literals ∷ []
derived_in step = []

-- the clauses of the derived lines
abbrev pub derived : List CertRecord → List (List Literal)
derived lines = flat_map derived_in lines

-- the input clauses and then the derived ones, numbered from 1
abbrev pub numbered : Matter → List CertRecord → List (List Literal)
numbered matter before = matter.inputs ++ derived before

-- ---- numbered installations

-- the variables of an installation
abbrev pub installed_in : CertRecord → List (List ℕ)
installed_in (Installation variables) = variables ∷ []
installed_in step = []

-- the installations of the `m` lines, each by its true variables, numbered from 1
abbrev pub installations : List CertRecord → List (List ℕ)
installations lines = flat_map installed_in lines

abbrev pub installation_at : List CertRecord → ℕ → List ℕ
installation_at before number = slice_index_or (installations before) (number - 1) []

-- the number is one of the latest installations, as far back as a claim may reach
abbrev pub IsRecent : List CertRecord → ℕ → Type 0
IsRecent before number = (1 ≤ number) × (number ≤ length (installations before))
    × (length (installations before) < number + REACH)

-- ---- claims

-- the package of a claim, and nothing for a line that is no claim
abbrev pub claimed : CertRecord → List ℕ
claimed (NotInstallable p) = p ∷ []
claimed (Unknown p) = p ∷ []
claimed (Strong p installations on undecided) = p ∷ []
claimed (Outdated p) = p ∷ []
claimed (Alive p installation) = p ∷ []
claimed (Challenged p installations by undecided) = p ∷ []
claimed step = []

-- the list is not empty
abbrev pub is_some_number : List ℕ → Bool
is_some_number [] = false
is_some_number (n ∷ ns) = true

abbrev pub is_claim : CertRecord → Bool
is_claim step = is_some_number (claimed step)

-- how many claims there are
abbrev pub claim_count : List CertRecord → ℕ
claim_count lines = length (flat_map claimed lines)

-- the group of a claim: the lines after the last claim before it
abbrev pub group : List CertRecord → List CertRecord
group [] = []
group (step ∷ steps) = if list_any is_claim (step ∷ steps) then group steps else step ∷ steps

-- ---- questions

-- derived lines and installations leave a question open
abbrev pub leaves_open : CertRecord → Bool
leaves_open (Derived literals hints) = true
leaves_open (Installation variables) = true
leaves_open step = false

-- The question is open: the lines before are some earlier ones, its `q` line, and then lines that leave it open.
pub record IsOpen (before earlier : List CertRecord) (question : List Word) (since : List CertRecord) : Type 0 where
  pub ends : before ≡ earlier ++ Question question ∷ since
  pub left_open : AllPass leaves_open since

abbrev pub HasOpenQuestion : List CertRecord → Type 0
HasOpenQuestion before = (earlier : List CertRecord) × (question : List Word) × (since : List CertRecord)
    × IsOpen before earlier question since

-- Among the lines the question is opened, and a line that comes while it is open closes it.
abbrev pub IsClosedBy : List CertRecord → List Word → CertRecord → Type 0
IsClosedBy lines question answer = (earlier between later : List CertRecord)
    × (lines ≡ earlier ++ Question question ∷ between ++ answer ∷ later) × AllPass leaves_open between

abbrev pub IsRefutedIn : List CertRecord → List Word → Type 0
IsRefutedIn lines question = (hints : List ℕ) × IsClosedBy lines question (Refuted hints)

abbrev pub IsUndecidedIn : List CertRecord → List Word → Type 0
IsUndecidedIn lines question = IsClosedBy lines question Undecided
