-- Relation text, by Debian Policy 7.1: which value spells which items. A value is spellings joined by commas.
-- A spelling is white space alone, which gives no item, or one item; alternatives are atoms joined by bars.
use Rattle.std.specs.Prelude.{◌≡◌, ◌⊎◌, ℕ, Bool, true, false, List, [], ◌∷◌, ◌++◌, Option, None, Some, IsTrue}
use Rattle.std.specs.Prelude.{option_map, filter_map, codes}
use Rattle.dist_base.specs.Ascii.{bar, closing, colon, comma, opening}
use Rattle.dist_version.specs.Spelling.{IsVersion}
use Rattle.dist_relation.specs.declared.atom.Atom.{Atom}
use Rattle.dist_relation.specs.declared.atom.Bound.{Bound}
use Rattle.dist_relation.specs.declared.atom.Kind.{Kind}
use Rattle.dist_relation.specs.declared.atom.Kind.TheVariants as kinds
use Rattle.dist_relation.specs.declared.atom.Op.{Op}
use Rattle.dist_relation.specs.declared.atom.Op.TheVariants.{Lt, Le, Eq, Ge, Gt}
use Rattle.dist_relation.specs.declared.atom.Provide.{Provide}
use Rattle.dist_relation.specs.declared.atom.Qualifier.{Qualifier}
use Rattle.dist_relation.specs.declared.atom.Qualifier.TheVariants.{Plain, Named}
use Rattle.dist_relation.specs.Bytes.{IsBlank, IsName}

-- ---- the parts of an atom

-- a qualifier stands behind a colon, and is a name
abbrev pub qualifier_text : Qualifier → List ℕ
qualifier_text Plain = []
qualifier_text (Named name) = colon ∷ name

-- a qualifier, where there is one, is a name
abbrev pub IsQualifier : Qualifier → Type 0
IsQualifier Plain = Unit {0}
IsQualifier (Named name) = IsName name

-- how an operator is written
abbrev pub operator_text : Op → List ℕ
operator_text Lt = codes "<<"
operator_text Le = codes "<="
operator_text Eq = codes "="
operator_text Ge = codes ">="
operator_text Gt = codes ">>"

-- the obsolete `<` and `>` stand for `<=` and `>=`
abbrev pub SpellsOperator : List ℕ → Op → Type 0
SpellsOperator text Lt = text ≡ operator_text Lt
SpellsOperator text Le = (text ≡ operator_text Le) ⊎ (text ≡ codes "<")
SpellsOperator text Eq = text ≡ operator_text Eq
SpellsOperator text Ge = (text ≡ operator_text Ge) ⊎ (text ≡ codes ">")
SpellsOperator text Gt = text ≡ operator_text Gt

-- in Provides the operator is `=`
abbrev pub allows_operator : Kind → Op → Bool
allows_operator kinds.Depends op = true
allows_operator kinds.Conflicts op = true
allows_operator kinds.Provides Lt = false
allows_operator kinds.Provides Le = false
allows_operator kinds.Provides Eq = true
allows_operator kinds.Provides Ge = false
allows_operator kinds.Provides Gt = false

-- ---- an atom

-- a bound: in parentheses an operator and a version, with white space round each
pub record SpellsBound (kind : Kind) (text : List ℕ) (bound : Bound) : Type 0 where
  pub before : List ℕ
  pub operator : List ℕ
  pub between : List ℕ
  pub after : List ℕ
  pub whole : text ≡ opening ∷ (before ++ (operator ++ (between ++ (bound.version ++ (after ++ closing ∷ [])))))
  pub blank_before : IsBlank before
  pub blank_between : IsBlank between
  pub blank_after : IsBlank after
  pub is_operator : SpellsOperator operator bound.op
  pub allowed : IsTrue (allows_operator kind bound.op)
  pub is_version : IsVersion bound.version

-- no text, where there is no bound
abbrev pub SpellsBoundOf : Kind → List ℕ → Option Bound → Type 0
SpellsBoundOf kind text None = text ≡ []
SpellsBoundOf kind text (Some bound) = SpellsBound kind text bound

-- The text spells the atom, in a value of this kind: a name, perhaps a qualifier, and perhaps a bound, with white space
-- round them.
pub record SpellsAtom (kind : Kind) (text : List ℕ) (atom : Atom) : Type 0 where
  pub before : List ℕ
  pub between : List ℕ
  pub bound : List ℕ
  pub after : List ℕ
  pub whole : text ≡ before ++ (atom.name ++ (qualifier_text atom.qualifier ++ (between ++ (bound ++ after))))
  pub blank_before : IsBlank before
  pub blank_between : IsBlank between
  pub blank_after : IsBlank after
  pub is_name : IsName atom.name
  pub is_qualifier : IsQualifier atom.qualifier
  pub is_bound : SpellsBoundOf kind bound atom.bound

-- ---- items and values

-- spellings with a byte between each two of them, and at least one
abbrev pub Joined : {X : Type 0} → ℕ → (List ℕ → X → Type 0) → List ℕ → List X → Type 0
Joined between Spells text [] = IsTrue false
Joined between Spells text (x ∷ []) = Spells text x
Joined between Spells text (x ∷ y ∷ ys) = (first : List ℕ) × (rest : List ℕ) × Spells first x
    × Joined between Spells rest (y ∷ ys) × (text ≡ first ++ (between ∷ rest))

-- the same, with the byte behind each of them, and perhaps none
abbrev pub Ended : {X : Type 0} → ℕ → (List ℕ → X → Type 0) → List ℕ → List X → Type 0
Ended behind Spells text [] = text ≡ []
Ended behind Spells text (x ∷ xs) = (first : List ℕ) × (rest : List ℕ) × Spells first x × Ended behind Spells rest xs
    × (text ≡ first ++ (behind ∷ rest))

-- white space alone gives no item
abbrev pub SpellsPiece : {X : Type 0} → (List ℕ → X → Type 0) → List ℕ → Option X → Type 0
SpellsPiece Spells text None = IsBlank text
SpellsPiece Spells text (Some x) = Spells text x

-- The value is pieces joined by commas, and these are the items that they give.
pub record ReadsValue {X : Type 0} (Spells : List ℕ → X → Type 0) (value : List ℕ) (items : List X) : Type 0 where
  pub pieces : List (Option X)
  pub joined : Joined comma (SpellsPiece Spells) value pieces
  pub given : items ≡ filter_map (λ piece. piece) pieces

-- in dependencies an item is one or more atoms joined by bars
abbrev pub SpellsAlternatives : List ℕ → List Atom → Type 0
SpellsAlternatives text atoms = Joined bar (SpellsAtom kinds.Depends) text atoms

-- a provided version is one behind `=`
abbrev pub atom_of : Provide → Atom
atom_of provide = record {
  name = provide.name;
  qualifier = provide.qualifier;
  bound = option_map (λ version. record { op = Eq; version = version }) provide.version;
}

abbrev pub SpellsProvide : List ℕ → Provide → Type 0
SpellsProvide text provide = SpellsAtom kinds.Provides text (atom_of provide)

-- The value of a Depends or Pre-Depends field spells these items.
abbrev pub ReadsDepends : List ℕ → List (List Atom) → Type 0
ReadsDepends value items = ReadsValue SpellsAlternatives value items

-- The value of a Conflicts or Breaks field spells these atoms.
abbrev pub ReadsAtoms : List ℕ → List Atom → Type 0
ReadsAtoms value atoms = ReadsValue (SpellsAtom kinds.Conflicts) value atoms

-- The value of a Provides field spells these entries.
abbrev pub ReadsProvides : List ℕ → List Provide → Type 0
ReadsProvides value provides = ReadsValue SpellsProvide value provides
