-- The lines of a certificate, by their form. A line is words with one space between each two: a letter, and numbers.
-- Numbers are decimal without leading zeros. A literal is a variable from 1, with `-` before it where it is negative.
-- `0` only separates lists.
use Rattle.std.specs.Prelude.{◌≡◌, ◌≢◌, ℕ, ◌<◌, ◌≤◌, ◌^◌, Bool, true, false, List, [], ◌∷◌, ◌++◌, All, AllPairs, length}
use Rattle.std.specs.Prelude.{map, codes, decimal}
use Rattle.std.specs.List.{flat_map}
use Rattle.dist_base.specs.declared.TheConstants.{MAX_LIMIT}
use Rattle.dist_cert.specs.declared.records.CertKind.{CertKind}
use Rattle.dist_cert.specs.declared.records.CertKind.TheVariants as kinds
use Rattle.dist_cert.specs.declared.records.CertRecord.{CertRecord}
use Rattle.dist_cert.specs.declared.records.CertRecord.TheVariants.{Question, Derived, Refuted, Installation, Undecided}
use Rattle.dist_cert.specs.declared.records.CertRecord.TheVariants.{NotInstallable, Unknown, Strong, Outdated, Alive}
use Rattle.dist_cert.specs.declared.records.CertRecord.TheVariants.{Challenged, End}
use Rattle.dist_cert.specs.declared.records.Header.{Header}

-- ---- words

-- a literal in a line: a variable, and whether it is positive. A number is a word in the same way, with no sign.
abbrev pub Word : Type 0
Word = ℕ × Bool

abbrev pub plain : ℕ → Word
plain n = (n, true)

-- the word that separates lists
abbrev pub separator : Word
separator = plain 0

-- a literal: its variable, behind a hyphen where it is negative
abbrev pub signed_text : ℕ → Bool → List ℕ
signed_text n true = decimal n
signed_text n false = 45 ∷ decimal n

abbrev pub word_text : Word → List ℕ
word_text word = signed_text word.0 word.1

-- words, each behind one space
abbrev pub words_text : List Word → List ℕ
words_text words = flat_map (λ word. 32 ∷ word_text word) words

abbrev pub plains : List ℕ → List Word
plains numbers = map plain numbers

-- pairs of a cluster and a class
abbrev pub pair_words : List (ℕ × ℕ) → List Word
pair_words pairs = flat_map (λ pair. plain pair.0 ∷ plain pair.1 ∷ []) pairs

-- ---- lines after the first

-- the letter that a line begins with
abbrev pub letter : CertRecord → ℕ
letter (Question literals) = 113
letter (Derived literals hints) = 100
letter (Refuted hints) = 102
letter (Installation variables) = 109
letter Undecided = 117
letter (NotInstallable p) = 120
letter (Unknown p) = 121
letter (Strong p installations on undecided) = 115
letter (Outdated p) = 111
letter (Alive p installation) = 97
letter (Challenged p installations by undecided) = 99
letter End = 101

-- the words behind the letter
abbrev pub words : CertRecord → List Word
words (Question literals) = literals
words (Derived literals hints) = literals ++ (separator ∷ plains hints)
words (Refuted hints) = plains hints
words (Installation variables) = plains variables
words Undecided = []
words (NotInstallable p) = plain p ∷ []
words (Unknown p) = plain p ∷ []
words (Strong p installations on undecided) =
    plain p ∷ (plains installations ++ (separator ∷ (plains on ++ (separator ∷ plains undecided))))
words (Outdated p) = plain p ∷ []
words (Alive p installation) = plain p ∷ plain installation ∷ []
words (Challenged p installations by undecided) =
    plain p ∷ (plains installations ++ (separator ∷ (pair_words by ++ (separator ∷ pair_words undecided))))
words End = []

-- the line of a record, without its line feed
abbrev pub record_text : CertRecord → List ℕ
record_text step = letter step ∷ words_text (words step)

-- numbers of variables, clauses, packages, installations, clusters and classes are from 1
abbrev pub AreFromOne : List ℕ → Type 0
AreFromOne numbers = All (λ n. 1 ≤ n) numbers

-- no variable stands twice
abbrev pub AreLiterals : List Word → Type 0
AreLiterals literals = All (λ l. 1 ≤ l.0) literals × AllPairs (λ l m. l.0 ≢ m.0) literals

abbrev pub ArePairs : List (ℕ × ℕ) → Type 0
ArePairs pairs = All (λ pair. (1 ≤ pair.0) × (1 ≤ pair.1)) pairs

-- The rules of a line on its own: a question has a literal; a question and a derived line name no variable twice;
-- the variables of an installation rise; a claim that names installations names one at least.
abbrev pub KeepsRules : CertRecord → Type 0
KeepsRules (Question literals) = (0 < length literals) × AreLiterals literals
KeepsRules (Derived literals hints) = AreLiterals literals × AreFromOne hints
KeepsRules (Refuted hints) = AreFromOne hints
KeepsRules (Installation variables) = AreFromOne variables × AllPairs (λ v w. v < w) variables
KeepsRules Undecided = Unit {0}
KeepsRules (NotInstallable p) = 1 ≤ p
KeepsRules (Unknown p) = 1 ≤ p
KeepsRules (Strong p installations on undecided) = (1 ≤ p) × (0 < length installations) × AreFromOne installations
    × AreFromOne on × AreFromOne undecided
KeepsRules (Outdated p) = 1 ≤ p
KeepsRules (Alive p installation) = (1 ≤ p) × (1 ≤ installation)
KeepsRules (Challenged p installations by undecided) = (1 ≤ p) × (0 < length installations) × AreFromOne installations
    × ArePairs by × ArePairs undecided
KeepsRules End = Unit {0}

-- a number is at most 4,294,967,295
abbrev pub IsSmall : ℕ → Type 0
IsSmall n = n < 2 ^ 32

-- The line, without its line feed, has the form of this record.
pub record HasForm (line : List ℕ) (step : CertRecord) : Type 0 where
  pub text : line ≡ record_text step
  pub rules : KeepsRules step
  pub numbers : All (λ word. IsSmall word.0) (words step)

-- the record is that of the end
abbrev pub is_end : CertRecord → Bool
is_end End = true
is_end step = false

-- ---- the first line

-- the word of a kind
abbrev pub kind_text : CertKind → List ℕ
kind_text kinds.Strong = codes "strong"
kind_text kinds.Outdated = codes "outdated"
kind_text kinds.Challenged = codes "challenged"

-- the word of a mode
abbrev pub mode_text : Bool → List ℕ
mode_text true = codes "essential"
mode_text false = codes "plain"

abbrev pub header_text : Header → List ℕ
header_text h = codes "distfuture-certificate 1 "
    ++ (kind_text h.kind ++ (32 ∷ (mode_text h.essential
    ++ words_text (plains (h.limit ∷ h.packages ∷ h.variables ∷ h.clauses ∷ [])))))

-- the limit is one that may be given
abbrev pub KeepsLimit : Header → Type 0
KeepsLimit h = (1 ≤ h.limit) × (h.limit ≤ MAX_LIMIT)

-- The line, without its line feed, has the form of this first line.
pub record HasHeaderForm (line : List ℕ) (h : Header) : Type 0 where
  pub text : line ≡ header_text h
  pub rules : KeepsLimit h
  pub numbers : IsSmall h.packages × IsSmall h.variables × IsSmall h.clauses
