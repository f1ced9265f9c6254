-- What a writer of certificates may have written so far. It keeps more rules than an accepted text has to: it asks for
-- the next claim alone, asks nothing twice for a claim, and spends no more lines on a question than the limit.
use Rattle.std.specs.Prelude.{◌≡◌, ◌≢◌, ◌⊎◌, ℕ, ◌+◌, ◌<◌, ◌≤◌, List, [], ◌∷◌, ◌++◌, All, AllPairs, Any, Contains}
use Rattle.std.specs.Prelude.{length}
use Rattle.dist_base.specs.Front.{IsFrontOf}
use Rattle.dist_clause.specs.ClauseList.{literal_count}
use Rattle.dist_derive.specs.New.{IsNew}
use Rattle.dist_outside.specs.declared.limits.Limits.{Limits}
use Rattle.dist_outside.specs.declared.trouble.What.{What}
use Rattle.dist_outside.specs.declared.trouble.What.TheVariants.{Lines, LineLiterals, RecordLine, Certificate}
use Rattle.dist_cert.specs.declared.faults.CertCause.{CertCause}
use Rattle.dist_cert.specs.declared.faults.CertCause.TheVariants as causes
use Rattle.dist_cert.specs.declared.records.CertKind.{CertKind}
use Rattle.dist_cert.specs.declared.records.CertKind.TheVariants as kinds
use Rattle.dist_cert.specs.declared.records.CertRecord.{CertRecord}
use Rattle.dist_cert.specs.declared.records.CertRecord.TheVariants.{Question, Derived, Refuted, Installation, Undecided}
use Rattle.dist_cert.specs.declared.records.CertRecord.TheVariants.{Strong, Challenged}
use Rattle.dist_cert.specs.declared.records.Header.{Header}
use Rattle.dist_cert.specs.Form.{Word, record_text, header_text}
use Rattle.dist_cert.specs.Subject.{Matter}
use Rattle.dist_cert.specs.Groups.{clause_of, derived, numbered, installation_at, installations, claim_count, group}
use Rattle.dist_cert.specs.Groups.{IsOpen}
use Rattle.dist_cert.specs.ClaimRules.{yes, no, claim_question, challenge_question, Covers, IsPairFor}
use Rattle.dist_cert.specs.FileLines.{IsOneLine, lines_text}
use Rattle.dist_cert.specs.Refusal.{certificate_text, Reads, HasFirstFault, HasLineFault}
use Rattle.dist_cert.specs.Writing.{ended}

-- ---- questions

-- The question is one that a claim on the package may need: its own question, the package without another one (kind
-- strong), or the package at a class of a cluster that has not got it (kind challenged).
abbrev pub IsQuestionOn : Matter → CertKind → ℕ → List Word → Type 0
IsQuestionOn matter kinds.Strong p question = (question ≡ claim_question matter kinds.Strong p)
    ⊎ ((q : ℕ) × (question ≡ yes p ∷ no q ∷ []))
IsQuestionOn matter kinds.Outdated p question = question ≡ claim_question matter kinds.Outdated p
IsQuestionOn matter kinds.Challenged p question = (question ≡ claim_question matter kinds.Challenged p)
    ⊎ ((pair : ℕ × ℕ) × IsPairFor matter p pair × (question ≡ challenge_question matter p pair))

-- The question is open, and only derived lines came since its line.
pub record IsAsking (before : List CertRecord) (question : List Word) (since : List CertRecord) : Type 0 where
  pub earlier : List CertRecord
  pub opened : IsOpen before earlier question since
  pub no_installation : installations since ≡ []

-- such a question is open
abbrev pub AsksSome : List CertRecord → Type 0
AsksSome before = (question : List Word) × (since : List CertRecord) × IsAsking before question since

-- The question is on the package of the next claim, and was not opened before in the group of that claim.
pub record IsNextQuestion (matter : Matter) (h : Header) (before : List CertRecord) (question : List Word) : Type 0
  where
    pub claim_left : claim_count before < matter.packages
    pub on_next : IsQuestionOn matter h.kind (claim_count before + 1) question
    pub not_twice : ¬ Contains (group before) (Question question)

-- The derived line is one of at most the limit that are new under the assumptions of the question that is asked.
pub record IsNextDerived (matter : Matter) (h : Header) (before : List CertRecord) (literals : List Word) : Type 0 where
  pub question : List Word
  pub since : List CertRecord
  pub asking : IsAsking before question since
  pub line_left : length (derived since) < h.limit
  pub is_new : IsNew (numbered matter before) (length matter.inputs) (clause_of question) (clause_of literals)

-- a list of hints has at most as many entries as there are variables, and one
abbrev pub AreFewHints : Matter → List ℕ → Type 0
AreFewHints matter hints = length hints ≤ matter.variables + 1

-- ---- the installations that a claim names

-- An installation strikes a pair that a claim on p may list: it covers the pair, and neither that of today nor a later
-- one of those that the claim names does.
pub record Strikes (matter : Matter) (before : List CertRecord) (p today : ℕ) (named : List ℕ) (number : ℕ) : Type 0
  where
    pub pair : ℕ × ℕ
    pub is_pair : IsPairFor matter p pair
    pub covers : Covers matter pair (installation_at before number)
    pub not_today : ¬ Covers matter pair (installation_at before today)
    pub none_later : All (λ later. number < later → ¬ Covers matter pair (installation_at before later)) named

-- A claim on challenges of p names no installations but one of today with p and such as strike a pair.
pub record NamesFew (matter : Matter) (before : List CertRecord) (p : ℕ) (named : List ℕ) : Type 0 where
  pub today : ℕ
  pub is_today : Contains (installation_at before today) 1
  pub has : Contains (installation_at before today) (matter.present p)
  pub strike : All (λ number. number ≢ today → Strikes matter before p today named number) named

-- ---- lines

-- What a line keeps besides having no fault: a derived line, an installation and an answer come to a question, one
-- installation or answer at most to each; a claim names no installation twice, and one on challenges none without need.
abbrev pub IsNextLine : Matter → Header → List CertRecord → CertRecord → Type 0
IsNextLine matter h before (Question question) = IsNextQuestion matter h before question
IsNextLine matter h before (Derived literals hints) = IsNextDerived matter h before literals × AreFewHints matter hints
IsNextLine matter h before (Refuted hints) = AsksSome before × AreFewHints matter hints
IsNextLine matter h before (Installation variables) = AsksSome before
IsNextLine matter h before Undecided = AsksSome before
IsNextLine matter h before (Strong p named on undecided) = AllPairs (λ m n. m ≢ n) named
IsNextLine matter h before (Challenged p named by undecided) = AllPairs (λ m n. m ≢ n) named
    × NamesFew matter before p named
IsNextLine matter h before step = Unit {0}

-- the line is too long, and stands last
abbrev pub IsLastTooLong : CertCause → List CertRecord → Type 0
IsLastTooLong cause later = (cause ≡ causes.LineTooLong) × (later ≡ [])

-- The text is this header and these records. No line has a fault, but that the last one may be too long.
pub record IsPartOf (matter : Matter) (limits : Limits) (h : Header) (text : List ℕ) (steps : List CertRecord) : Type
    0 where
  pub reads : Reads text h steps []
  pub first : (cause : CertCause) → HasFirstFault matter limits text cause → IsLastTooLong cause steps
  pub later : (before : List CertRecord) (step : CertRecord) (after : List CertRecord) → steps ≡ before ++ step ∷ after
      → (cause : CertCause) → HasLineFault matter limits h before (lines_text (step ∷ after)) cause
      → IsLastTooLong cause after
  pub next : (before : List CertRecord) (step : CertRecord) (after : List CertRecord) → steps ≡ before ++ step ∷ after
      → IsNextLine matter h before step

-- What may be written so far of a certificate with this header: nothing, or whole lines.
abbrev pub IsPart : Matter → Limits → Header → List ℕ → Type 0
IsPart matter limits h text = (text ≡ []) ⊎ ((steps : List CertRecord) × IsPartOf matter limits h text steps)

-- ---- numbers that are passed, and lines that are cut off

-- The lines pass a number: of derived lines, of literals in them, of bytes in a line, or of bytes.
abbrev pub Passes : Limits → Header → List CertRecord → What → Type 0
Passes limits h steps Lines = limits.lines < length (derived steps)
Passes limits h steps LineLiterals = limits.line_literals < literal_count (derived steps)
Passes limits h steps RecordLine = (limits.record_line < length (ended (header_text h)))
    ⊎ Any (λ step. limits.record_line < length (ended (record_text step))) steps
Passes limits h steps Certificate = limits.certificate < length (certificate_text h steps)
Passes limits h steps what = ⊥

-- One line more makes the text a longer part.
pub record HasNextLine (matter : Matter) (limits : Limits) (h : Header) (text line : List ℕ) : Type 0 where
  pub one_line : IsOneLine line
  pub steps : List CertRecord
  pub longer : IsPartOf matter limits h (text ++ ended line) steps

-- The text is a part that does not pass a number, and with one line more it is one that does.
pub record IsStoppedBy (matter : Matter) (limits : Limits) (h : Header) (text : List ℕ) (what : What) : Type 0 where
  pub part : IsPart matter limits h text
  pub kept : (steps : List CertRecord) → IsPartOf matter limits h text steps → ¬ Passes limits h steps what
  pub line : List ℕ
  pub next : HasNextLine matter limits h text line
  pub passes : Passes limits h next.steps what

-- The text is a part, perhaps with a front of one line more behind it.
pub record IsCutPart (matter : Matter) (limits : Limits) (h : Header) (text : List ℕ) : Type 0 where
  pub whole : List ℕ
  pub part : IsPart matter limits h whole
  pub cut : List ℕ
  pub is : text ≡ whole ++ cut
  pub cut_off : (cut ≡ []) ⊎ ((line : List ℕ) × HasNextLine matter limits h whole line × IsFrontOf (ended line) cut)
