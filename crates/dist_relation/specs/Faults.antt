-- The first fault of a value that is no relation, which is this project's own rule: everything before its place is a
-- correct start by the grammar, and the value doesn't go on from there as it must. Names, operators and versions are
-- the longest runs of their bytes, and white space is skipped: so `Stops` says that a run couldn't be longer.
use Rattle.std.specs.Prelude.{IsTrue, ◌≡◌, ◌≢◌, ◌⊎◌, ℕ, ◌-◌, Bool, true, false, ◌||◌, ◌==◌, List, [], ◌∷◌, ◌++◌, length}
use Rattle.std.specs.Prelude.{take_while, Option, Some}
use Rattle.std.specs.Char.{is_ascii_alphanumeric}
use Rattle.dist_base.specs.Ascii.{bar, closing, colon, comma, is_closing, is_colon, is_comma, is_opening, is_white}
use Rattle.dist_base.specs.Ascii.{opening}
use Rattle.dist_version.specs.Spelling.{IsVersion}
use Rattle.dist_version.specs.Faults.{fault_of}
use Rattle.dist_version.specs.declared.error.VersionError.{VersionError}
use Rattle.dist_version.specs.declared.error.VersionError.TheVariants as versions
use Rattle.dist_relation.specs.declared.atom.Atom.{Atom}
use Rattle.dist_relation.specs.declared.atom.Bound.{Bound}
use Rattle.dist_relation.specs.declared.atom.Kind.{Kind}
use Rattle.dist_relation.specs.declared.atom.Kind.TheVariants as kinds
use Rattle.dist_relation.specs.declared.atom.Op.{Op}
use Rattle.dist_relation.specs.declared.atom.Qualifier.{Qualifier}
use Rattle.dist_relation.specs.declared.atom.Qualifier.TheVariants.{Plain, Named}
use Rattle.dist_relation.specs.declared.error.Problem.{Problem}
use Rattle.dist_relation.specs.declared.error.Problem.TheVariants.{BadName, BadOp, BadVersion, Unclosed, BarNotAllowed}
use Rattle.dist_relation.specs.declared.error.Problem.TheVariants.{Trailing, OpInProvides}
use Rattle.dist_relation.specs.declared.error.RelationError.{RelationError}
use Rattle.dist_relation.specs.declared.error.RelationError.TheVariants as errors
use Rattle.dist_relation.specs.Bytes.{IsName, is_name_byte, is_operator_byte, is_word_byte}
use Rattle.dist_relation.specs.Bytes.{IsBlank, Meets, Stops}
use Rattle.dist_relation.specs.Grammar.{qualifier_text, IsQualifier, allows_operator, SpellsOperator, SpellsAtom}
use Rattle.dist_relation.specs.Grammar.{SpellsAlternatives, SpellsProvide, SpellsPiece, Ended}

-- ---- how far an atom came, in steps that each add to the text before

-- white space, a name, and perhaps a qualifier
pub record Head (text : List ℕ) (name : List ℕ) (qualifier : Qualifier) : Type 0 where
  pub space : List ℕ
  pub blank : IsBlank space
  pub is_name : IsName name
  pub is_qualifier : IsQualifier qualifier
  pub parts : text ≡ space ++ (name ++ qualifier_text qualifier)

-- a head, white space, an opening parenthesis, white space
pub record Opened (text : List ℕ) (name : List ℕ) (qualifier : Qualifier) : Type 0 where
  pub head : List ℕ
  pub gap : List ℕ
  pub space : List ℕ
  pub is_head : Head head name qualifier
  pub blank_gap : IsBlank gap
  pub blank : IsBlank space
  pub parts : text ≡ head ++ (gap ++ (opening ∷ space))

-- the same, an operator, white space
pub record Compared (kind : Kind) (text : List ℕ) (name : List ℕ) (qualifier : Qualifier) (op : Op) : Type 0 where
  pub opened : List ℕ
  pub operator : List ℕ
  pub space : List ℕ
  pub is_opened : Opened opened name qualifier
  pub is_operator : SpellsOperator operator op
  pub allowed : IsTrue (allows_operator kind op)
  pub blank : IsBlank space
  pub parts : text ≡ opened ++ (operator ++ space)

-- the same, a version, white space
pub record Versioned (kind : Kind) (text : List ℕ) (name : List ℕ) (qualifier : Qualifier) (bound : Bound) : Type 0
  where
    pub compared : List ℕ
    pub space : List ℕ
    pub is_compared : Compared kind compared name qualifier bound.op
    pub is_version : IsVersion bound.version
    pub blank : IsBlank space
    pub parts : text ≡ compared ++ (bound.version ++ space)

-- ---- what an atom may lack: the text is the value from the atom on, and the fault stands where `here` begins

-- no name, after white space
pub record NameMissing (text here : List ℕ) : Type 0 where
  pub space : List ℕ
  pub blank : IsBlank space
  pub parts : text ≡ space ++ here
  pub skipped : Stops is_white here
  pub missing : Stops is_ascii_alphanumeric here

-- no qualifier, right behind the colon
pub record QualifierMissing (text here : List ℕ) : Type 0 where
  pub name : List ℕ
  pub head : List ℕ
  pub is_head : Head head name Plain
  pub parts : text ≡ head ++ (colon ∷ here)
  pub missing : Stops is_ascii_alphanumeric here

-- no operator, after the parenthesis
pub record OperatorMissing (text here : List ℕ) : Type 0 where
  pub opened : List ℕ
  pub name : List ℕ
  pub qualifier : Qualifier
  pub is_opened : Opened opened name qualifier
  pub parts : text ≡ opened ++ here
  pub skipped : Stops is_white here
  pub missing : (op : Op) → ¬ SpellsOperator (take_while is_operator_byte here) op

-- an operator that values of this kind don't have
pub record OperatorForbidden (kind : Kind) (text here : List ℕ) : Type 0 where
  pub opened : List ℕ
  pub name : List ℕ
  pub qualifier : Qualifier
  pub op : Op
  pub is_opened : Opened opened name qualifier
  pub parts : text ≡ opened ++ here
  pub is_operator : SpellsOperator (take_while is_operator_byte here) op
  pub forbidden : allows_operator kind op ≡ false

-- no version, after the operator
pub record VersionMissing (kind : Kind) (text here : List ℕ) (fault : VersionError) : Type 0 where
  pub compared : List ℕ
  pub name : List ℕ
  pub qualifier : Qualifier
  pub op : Op
  pub is_compared : Compared kind compared name qualifier op
  pub parts : text ≡ compared ++ here
  pub whole_operator : Stops is_operator_byte (is_compared.space ++ here)
  pub skipped : Stops is_white here
  pub missing : fault_of (take_while is_word_byte here) ≡ Some fault

-- no closing parenthesis, after the version
pub record ClosingMissing (kind : Kind) (text here : List ℕ) : Type 0 where
  pub versioned : List ℕ
  pub name : List ℕ
  pub qualifier : Qualifier
  pub bound : Bound
  pub is_versioned : Versioned kind versioned name qualifier bound
  pub parts : text ≡ versioned ++ here
  pub whole_version : Stops is_word_byte (is_versioned.space ++ here)
  pub skipped : Stops is_white here
  pub missing : Stops is_closing here

-- a name without a qualifier can't go on, nor with a colon
abbrev pub EndsHead : Qualifier → List ℕ → Type 0
EndsHead Plain after = Stops is_name_byte after × Stops is_colon after
EndsHead (Named name) after = Stops is_name_byte after

-- the text begins with an atom without a bound, and `here` follows
pub record AfterBare (text here : List ℕ) : Type 0 where
  pub head : List ℕ
  pub space : List ℕ
  pub name : List ℕ
  pub qualifier : Qualifier
  pub is_head : Head head name qualifier
  pub blank : IsBlank space
  pub parts : text ≡ head ++ (space ++ here)
  pub whole_head : EndsHead qualifier (space ++ here)
  pub skipped : Stops is_white here
  pub not_opened : Stops is_opening here

-- the text begins with an atom with a bound, and `here` follows
pub record AfterClosed (kind : Kind) (text here : List ℕ) : Type 0 where
  pub versioned : List ℕ
  pub space : List ℕ
  pub name : List ℕ
  pub qualifier : Qualifier
  pub bound : Bound
  pub is_versioned : Versioned kind versioned name qualifier bound
  pub blank : IsBlank space
  pub parts : text ≡ versioned ++ (closing ∷ (space ++ here))
  pub skipped : Stops is_white here

abbrev pub AfterAtom : Kind → List ℕ → List ℕ → Type 0
AfterAtom kind text here = AfterBare text here ⊎ AfterClosed kind text here

-- alternatives stand in dependencies alone
abbrev pub allows_bar : Kind → Bool
allows_bar kinds.Depends = true
allows_bar kinds.Conflicts = false
allows_bar kinds.Provides = false

-- a bar, where there are no alternatives
pub record BarForbidden (kind : Kind) (text here : List ℕ) : Type 0 where
  pub after_atom : AfterAtom kind text here
  pub rest : List ℕ
  pub stands : here ≡ bar ∷ rest
  pub forbidden : allows_bar kind ≡ false

-- something other than a comma, a bar or the end
pub record Leftover (kind : Kind) (text here : List ℕ) : Type 0 where
  pub after_atom : AfterAtom kind text here
  pub first : ℕ
  pub rest : List ℕ
  pub stands : here ≡ first ∷ rest
  pub other : (first == comma || first == bar) ≡ false

-- the text has this problem where `here` begins
abbrev pub Has : Kind → List ℕ → List ℕ → Problem → Type 0
Has kind text here BadName = NameMissing text here ⊎ QualifierMissing text here
Has kind text here BadOp = OperatorMissing text here
Has kind text here (BadVersion fault) = VersionMissing kind text here fault
Has kind text here Unclosed = ClosingMissing kind text here
Has kind text here BarNotAllowed = BarForbidden kind text here
Has kind text here Trailing = Leftover kind text here
Has kind text here OpInProvides = OperatorForbidden kind text here

-- ---- where the atom stands in the value

-- white space up to the end or a comma, which gives no item
pub record PassedOver (text : List ℕ) : Type 0 where
  pub space : List ℕ
  pub rest : List ℕ
  pub blank : IsBlank space
  pub parts : text ≡ space ++ rest
  pub ends : Meets is_comma rest

-- the error of a fault at a place
abbrev pub error_at : Problem → ℕ → RelationError
error_at BadName place = errors.BadName place
error_at BadOp place = errors.BadOp place
error_at (BadVersion fault) place = errors.BadVersion place fault
error_at Unclosed place = errors.Unclosed place
error_at BarNotAllowed place = errors.BarNotAllowed place
error_at Trailing place = errors.Trailing place
error_at OpInProvides place = errors.OpInProvides place

-- The value begins with pieces, each with its comma. The next piece isn't passed over: it begins with atoms, each with
-- its bar, and then an atom has the problem.
pub record FirstFault {X : Type 0} (kind : Kind) (Spells : List ℕ → X → Type 0) (value : List ℕ)
    (error : RelationError) : Type 0 where
  -- what stands before the last comma, and after it before the last bar
  pub before : List ℕ
  pub pieces : List (Option X)
  pub alternatives : List ℕ
  pub atoms : List Atom
  -- the value from the atom on, and from the fault on
  pub text : List ℕ
  pub here : List ℕ
  pub problem : Problem
  pub parts : value ≡ before ++ (alternatives ++ text)
  pub is_before : Ended comma (SpellsPiece Spells) before pieces
  pub not_passed_over : ¬ PassedOver (alternatives ++ text)
  pub is_alternatives : Ended bar (SpellsAtom kind) alternatives atoms
  pub barred : allows_bar kind ≡ false → atoms ≡ []
  pub has : Has kind text here problem
  pub is_error : error ≡ error_at problem (length value - length here)

abbrev pub FirstDependsFault : List ℕ → RelationError → Type 0
FirstDependsFault value error = FirstFault kinds.Depends SpellsAlternatives value error

abbrev pub FirstAtomsFault : List ℕ → RelationError → Type 0
FirstAtomsFault value error = FirstFault kinds.Conflicts (SpellsAtom kinds.Conflicts) value error

abbrev pub FirstProvidesFault : List ℕ → RelationError → Type 0
FirstProvidesFault value error = FirstFault kinds.Provides SpellsProvide value error

-- Which errors a value of a kind may have: a bar is allowed in dependencies, and every operator but in Provides. Want
-- of memory is no fault, neither of the value nor of a version in it.
abbrev pub Comes : Kind → RelationError → Type 0
Comes kind (errors.BadVersion place fault) = fault ≢ versions.NoMemory
Comes kind (errors.BarNotAllowed place) = kind ≢ kinds.Depends
Comes kind (errors.OpInProvides place) = kind ≡ kinds.Provides
Comes kind (errors.BadName place) = Unit {0}
Comes kind (errors.BadOp place) = Unit {0}
Comes kind (errors.Unclosed place) = Unit {0}
Comes kind (errors.Trailing place) = Unit {0}
Comes kind errors.NoMemory = ⊥

-- The only fault of bytes that are to be a name.
abbrev pub IsNoName : List ℕ → RelationError → Type 0
IsNoName bytes error = (error ≡ errors.BadName 0) × (¬ IsName bytes)
