-- What can be wrong with a line of a certificate that has a form: one condition for each cause, on the lines before it
-- (those after the first line, as records) and the line itself.
use Rattle.std.specs.Prelude.{◌≡◌, ◌≢◌, ◌⊎◌, ℕ, ◌+◌, ◌<◌, true, List, [], ◌++◌, Any, length, map}
use Rattle.dist_clause.specs.Formula.{negation}
use Rattle.dist_derive.specs.Follows.{Follows}
use Rattle.dist_derive.specs.New.{EachIsNew}
use Rattle.dist_cert.specs.declared.faults.CertCause.{CertCause}
use Rattle.dist_cert.specs.declared.faults.CertCause.TheVariants as causes
use Rattle.dist_cert.specs.declared.records.CertKind.{CertKind}
use Rattle.dist_cert.specs.declared.records.CertKind.TheVariants as kinds
use Rattle.dist_cert.specs.declared.records.CertRecord.{CertRecord}
use Rattle.dist_cert.specs.declared.records.CertRecord.TheVariants.{Question, Derived, Refuted, Installation, Undecided}
use Rattle.dist_cert.specs.declared.records.CertRecord.TheVariants.{Strong, Challenged, End}
use Rattle.dist_cert.specs.declared.records.Header.{Header}
use Rattle.dist_cert.specs.Form.{Word}
use Rattle.dist_cert.specs.Subject.{Matter}
use Rattle.dist_cert.specs.Groups.{clause_of, derived, numbered, claimed, is_claim, claim_count, IsOpen}
use Rattle.dist_cert.specs.Groups.{HasOpenQuestion}
use Rattle.dist_cert.specs.ClaimRules.{HoldsClaim, OmitsPackage, OmitsPair}

-- ---- what a line names

-- the variables that a line names
abbrev pub variables_of : CertRecord → List ℕ
variables_of (Question literals) = map (λ word. word.0) literals
variables_of (Derived literals hints) = map (λ word. word.0) literals
variables_of (Installation variables) = variables
variables_of step = []

-- the hints of a line
abbrev pub hints_of : CertRecord → List ℕ
hints_of (Derived literals hints) = hints
hints_of (Refuted hints) = hints
hints_of step = []

-- ---- the conditions

-- a variable of `q`, `d` or `m` above the last
abbrev pub IsOutOfRange : Matter → CertRecord → Type 0
IsOutOfRange matter step = Any (λ variable. matter.variables < variable) (variables_of step)

-- `f` or `u` where no question is open; a claim whose package is not the next one, or is above the last
abbrev pub IsOutOfOrder : Matter → List CertRecord → CertRecord → Type 0
IsOutOfOrder matter before (Refuted hints) = ¬ HasOpenQuestion before
IsOutOfOrder matter before Undecided = ¬ HasOpenQuestion before
IsOutOfOrder matter before step = Any (λ p. (p ≢ claim_count before + 1) ⊎ (matter.packages < p)) (claimed step)

-- a hint above the number of the last clause
abbrev pub IsUnknownLine : Matter → List CertRecord → CertRecord → Type 0
IsUnknownLine matter before step = Any (λ hint. length (numbered matter before) < hint) (hints_of step)

-- the clause of `d`, or for `f` that of the open question's negated assumptions, does not follow by the hints
abbrev pub IsBadLine : Matter → List CertRecord → CertRecord → Type 0
IsBadLine matter before (Derived literals hints) = ¬ Follows (numbered matter before) (clause_of literals) hints
IsBadLine matter before (Refuted hints) = (earlier : List CertRecord) × (question : List Word)
    × (since : List CertRecord)
    × IsOpen before earlier question since × (¬ Follows (numbered matter before) (map negation (clause_of question))
    hints)
IsBadLine matter before step = ⊥

-- kinds outdated and challenged: an `m` line that stands for no future
abbrev pub IsNoFuture : Matter → CertKind → CertRecord → Type 0
IsNoFuture matter kinds.Strong (Installation variables) = ⊥
IsNoFuture matter kind (Installation variables) = ¬ matter.IsFuture variables
IsNoFuture matter kind step = ⊥

-- an `m` line that is not healthy
abbrev pub IsNoInstallation : Matter → CertRecord → Type 0
IsNoInstallation matter (Installation variables) = ¬ matter.IsHealthy variables
IsNoInstallation matter step = ⊥

-- `u` after fewer derived lines than the limit since the line of the open question
abbrev pub IsTooEarly : Header → List CertRecord → CertRecord → Type 0
IsTooEarly h before Undecided = (earlier : List CertRecord) × (question : List Word) × (since : List CertRecord)
    × IsOpen before earlier question since × (length (derived since) < h.limit)
IsTooEarly h before step = ⊥

-- `u` where one of those derived lines was not new, when it came, under the question's assumptions
abbrev pub HasOldLine : Matter → List CertRecord → CertRecord → Type 0
HasOldLine matter before Undecided = (earlier : List CertRecord) × (question : List Word) × (since : List CertRecord)
    × IsOpen before earlier question since
    × (¬ EachIsNew (numbered matter earlier) (length matter.inputs) (clause_of question) (derived since))
HasOldLine matter before step = ⊥

-- a claim whose rules do not hold
abbrev pub IsWrongClaim : Matter → CertKind → List CertRecord → CertRecord → Type 0
IsWrongClaim matter kind before step = (is_claim step ≡ true) × (¬ HoldsClaim matter kind before step)

-- a claim that leaves something out, or the end before each package has its claim
abbrev pub IsIncomplete : Matter → List CertRecord → CertRecord → Type 0
IsIncomplete matter before (Strong p named on undecided) = OmitsPackage matter before p named (on ++ undecided)
IsIncomplete matter before (Challenged p named by undecided) = OmitsPair matter before p named (by ++ undecided)
IsIncomplete matter before End = claim_count before < matter.packages
IsIncomplete matter before step = ⊥

-- the line has a fault of this cause; those of form are conditions on the text and stand in `Refusal`
abbrev pub HasRecordFault : Matter → Header → List CertRecord → CertRecord → CertCause → Type 0
HasRecordFault matter h before step causes.OutOfRange = IsOutOfRange matter step
HasRecordFault matter h before step causes.OutOfOrder = IsOutOfOrder matter before step
HasRecordFault matter h before step causes.UnknownLine = IsUnknownLine matter before step
HasRecordFault matter h before step causes.BadLine = IsBadLine matter before step
HasRecordFault matter h before step causes.NotAFuture = IsNoFuture matter h.kind step
HasRecordFault matter h before step causes.NotAnInstallation = IsNoInstallation matter step
HasRecordFault matter h before step causes.LimitNotReached = IsTooEarly h before step
HasRecordFault matter h before step causes.NotNew = HasOldLine matter before step
HasRecordFault matter h before step causes.WrongClaim = IsWrongClaim matter h.kind before step
HasRecordFault matter h before step causes.Incomplete = IsIncomplete matter before step
HasRecordFault matter h before step cause = ⊥
