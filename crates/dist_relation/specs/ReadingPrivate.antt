-- How the private readers go from left to right, as functions on lists. No public clause cites them: proofs/ shows that
-- they give what Grammar and Faults say.
use Rattle.std.specs.Prelude.{◌≡◌, ◌≤◌, ◌-◌, ℕ, zero, suc, Bool, true, ◌&&◌, ◌==◌, List, [], ◌∷◌, ◌++◌, length}
use Rattle.std.specs.Prelude.{take_while, filter_map, Option, None, Some, Result, Ok, Err, if◌then◌else◌}
use Rattle.std.specs.Char.{is_ascii_alphanumeric}
use Rattle.dist_base.specs.Ascii.{bar, closing, colon, comma, equals, greater, is_white, less, opening}
use Rattle.dist_version.specs.Faults.{fault_of}
use Rattle.dist_version.specs.declared.error.VersionError.{VersionError}
use Rattle.dist_relation.specs.declared.atom.Atom.{Atom}
use Rattle.dist_relation.specs.declared.atom.Bound.{Bound}
use Rattle.dist_relation.specs.declared.atom.Kind.{Kind}
use Rattle.dist_relation.specs.declared.atom.Kind.TheVariants as kinds
use Rattle.dist_relation.specs.declared.atom.Op.{Op}
use Rattle.dist_relation.specs.declared.atom.Op.TheVariants.{Lt, Le, Eq, Ge, Gt}
use Rattle.dist_relation.specs.declared.atom.Provide.{Provide}
use Rattle.dist_relation.specs.declared.atom.Qualifier.{Qualifier}
use Rattle.dist_relation.specs.declared.atom.Qualifier.TheVariants.{Plain, Named}
use Rattle.dist_relation.specs.declared.error.Fault.{Fault}
use Rattle.dist_relation.specs.declared.error.Problem.{Problem}
use Rattle.dist_relation.specs.declared.error.Problem.TheVariants.{BadName, BadOp, BadVersion, Unclosed, BarNotAllowed}
use Rattle.dist_relation.specs.declared.error.Problem.TheVariants.{Trailing, OpInProvides}
use Rattle.dist_relation.specs.declared.error.ReadError.{ReadError}
use Rattle.dist_relation.specs.declared.error.ReadError.TheVariants as stops
use Rattle.dist_relation.specs.declared.error.RelationError.{RelationError}
use Rattle.dist_relation.specs.declared.error.RelationError.TheVariants as errors
use Rattle.dist_relation.specs.Bytes.{is_name_byte, is_operator_byte, is_word_byte}
use Rattle.dist_relation.specs.Grammar.{allows_operator}
use Rattle.dist_relation.specs.Faults.{allows_bar, error_at}

infixl 10 ◌>>=◌
abbrev pub ◌>>=◌ : {A B : Type 0} → Result A Fault → (A → Result B Fault) → Result B Fault
(Ok x) >>= f = f x
(Err e) >>= f = Err e

-- what a reader of the code returned, seen by view, is what reading gives, unless memory ran out
abbrev pub Fails : {Y : Type 0} → ReadError → Result Y Fault → Type 0
Fails stops.NoMemory read = Unit {0}
Fails (stops.Fault f) read = read ≡ Err f

abbrev pub Gives : {X Y : Type 0} → (X → Y) → Result X ReadError → Result Y Fault → Type 0
Gives view (Ok x) read = read ≡ Ok (view x)
Gives view (Err e) read = Fails e read

-- the same where what was read was put behind the others, of which nothing is said at an error
abbrev pub GivesOnto : {X Y R : Type 0} → (Y → List X) → (R → List ℕ) → List X → List X → Result R ReadError
    → Result (Y × List ℕ) Fault → Type 0
GivesOnto {X} {Y} items left old new (Ok rest) read = (y : Y) × (read ≡ Ok (y, left rest)) × (new ≡ old ++ items y)
GivesOnto items left old new (Err e) read = Fails e read

-- what is left is no more than there was
abbrev pub Shortens : {X : Type 0} → (List ℕ → Result (X × List ℕ) Fault) → Type 0
Shortens {X} reading = (text : List ℕ) (x : X) (rest : List ℕ) → reading text ≡ Ok (x, rest) → length rest ≤ length text

abbrev pub refuse : {Y : Type 0} → Problem → List ℕ → Result Y Fault
refuse problem text = Err (record { problem = problem; left = length text })

-- what follows the longest start of bytes that pass
unfoldable pub past : (ℕ → Bool) → List ℕ → List ℕ
past test [] = []
past test (b ∷ bs) = if test b then past test bs else b ∷ bs

abbrev pub skip : List ℕ → List ℕ
skip text = past is_white text

-- ---- the parts of an atom, each with what follows it

unfoldable pub name_at : List ℕ → Result (List ℕ × List ℕ) Fault
name_at [] = refuse BadName []
name_at (b ∷ bs) = if is_ascii_alphanumeric b then Ok (take_while is_name_byte (b ∷ bs), past is_name_byte (b ∷ bs))
    else refuse BadName (b ∷ bs)

unfoldable pub qualifier_at : List ℕ → Result (Qualifier × List ℕ) Fault
qualifier_at [] = Ok (Plain, [])
qualifier_at (b ∷ bs) = if b == colon then (name_at bs >>= λ x. Ok (Named x.0, x.1)) else Ok (Plain, b ∷ bs)

-- white space, a name and perhaps a qualifier
unfoldable pub head_at : List ℕ → Result (List ℕ × Qualifier × List ℕ) Fault
head_at text = do
  name ← name_at (skip text)
  qualifier ← qualifier_at name.1
  Ok (name.0, qualifier.0, qualifier.1)

abbrev pub operator_of : List ℕ → Option Op
operator_of [] = None
operator_of (a ∷ []) = if a == less then Some Le else if a == equals then Some Eq else if a == greater then Some Ge
    else None
operator_of (a ∷ b ∷ []) =
    if a == less && b == less then Some Lt
    else if a == less && b == equals then Some Le
    else if a == greater && b == equals then Some Ge
    else if a == greater && b == greater then Some Gt
    else None
operator_of (a ∷ b ∷ c ∷ bs) = None

abbrev pub operator_found : Kind → List ℕ → Option Op → Result (Op × List ℕ) Fault
operator_found kind text None = refuse BadOp text
operator_found kind text (Some op) = if allows_operator kind op then Ok (op, past is_operator_byte text) else refuse
    OpInProvides text

unfoldable pub operator_at : Kind → List ℕ → Result (Op × List ℕ) Fault
operator_at kind text = operator_found kind text (operator_of (take_while is_operator_byte text))

abbrev pub version_found : List ℕ → Option VersionError → Result (List ℕ × List ℕ) Fault
version_found text None = Ok (take_while is_word_byte text, past is_word_byte text)
version_found text (Some fault) = refuse (BadVersion fault) text

unfoldable pub version_at : List ℕ → Result (List ℕ × List ℕ) Fault
version_at text = version_found text (fault_of (take_while is_word_byte text))

-- the closing parenthesis and the white space after it
unfoldable pub closing_at : List ℕ → Result (List ℕ) Fault
closing_at [] = refuse Unclosed []
closing_at (b ∷ bs) = if b == closing then Ok (skip bs) else refuse Unclosed (b ∷ bs)

-- a bound, behind its opening parenthesis
unfoldable pub bound_at : Kind → List ℕ → Result (Bound × List ℕ) Fault
bound_at kind text = do
  op ← operator_at kind (skip text)
  version ← version_at (skip op.1)
  rest ← closing_at (skip version.1)
  Ok (record { op = op.0; version = version.0 }, rest)

unfoldable pub maybe_bound_at : Kind → List ℕ → Result (Option Bound × List ℕ) Fault
maybe_bound_at kind [] = Ok (None, [])
maybe_bound_at kind (b ∷ bs) = if b == opening then (bound_at kind bs >>= λ x. Ok (Some x.0, x.1)) else Ok
    (None, b ∷ bs)

-- what follows an atom
unfoldable pub end_at : Kind → List ℕ → Result (List ℕ) Fault
end_at kind [] = Ok []
end_at kind (b ∷ bs) =
    if b == comma then Ok (b ∷ bs)
    else if b == bar then (if allows_bar kind then Ok (b ∷ bs) else refuse BarNotAllowed (b ∷ bs))
    else refuse Trailing (b ∷ bs)

unfoldable pub atom_at : Kind → List ℕ → Result (Atom × List ℕ) Fault
atom_at kind text = do
  head ← head_at text
  bound ← maybe_bound_at kind (skip head.2)
  rest ← end_at kind bound.1
  Ok (record { name = head.0; qualifier = head.1; bound = bound.0 }, rest)

-- ---- several of them

-- one was read, and more are read where the byte between them follows
abbrev pub then_more : {X : Type 0} → ℕ → X → List ℕ → (List ℕ → Result (List X × List ℕ) Fault)
    → Result (List X × List ℕ) Fault
then_more between x [] more = Ok (x ∷ [], [])
then_more between x (b ∷ bs) more = if b == between then (more bs >>= λ y. Ok (x ∷ y.0, y.1)) else Ok (x ∷ [], b ∷ bs)

-- those that more are, behind the byte between them, if it follows
abbrev pub others_at : {X : Type 0} → ℕ → (List ℕ → Result (List X × List ℕ) Fault) → List ℕ
    → Result (List X × List ℕ) Fault
others_at between more [] = Ok ([], [])
others_at between more (b ∷ bs) = if b == between then more bs else Ok ([], b ∷ bs)

-- at most so many, with a byte between each two
unfoldable pub joined_at : {X : Type 0} → ℕ → (List ℕ → Result (X × List ℕ) Fault) → ℕ → List ℕ
    → Result (List X × List ℕ) Fault
joined_at between one zero text = Ok ([], text)
joined_at between one (suc n) text = one text >>= λ x. then_more between x.0 x.1 (joined_at between one n)

unfoldable pub alternatives_at : List ℕ → Result (List Atom × List ℕ) Fault
alternatives_at text = joined_at bar (atom_at kinds.Depends) (suc (length text)) text

abbrev pub version_of : Option Bound → Option (List ℕ)
version_of None = None
version_of (Some bound) = Some bound.version

abbrev pub provide_of : Atom → Provide
provide_of atom = record { name = atom.name; qualifier = atom.qualifier; version = version_of atom.bound }

unfoldable pub provide_at : List ℕ → Result (Provide × List ℕ) Fault
provide_at text = atom_at kinds.Provides text >>= λ x. Ok (provide_of x.0, x.1)

abbrev pub ends_piece : List ℕ → Bool
ends_piece [] = true
ends_piece (b ∷ bs) = b == comma

-- white space alone, or one item
unfoldable pub piece_at : {X : Type 0} → (List ℕ → Result (X × List ℕ) Fault) → List ℕ
    → Result (Option X × List ℕ) Fault
piece_at one text = if ends_piece (skip text) then Ok (None, skip text) else (one text >>= λ x. Ok (Some x.0, x.1))

-- the items of a whole value
unfoldable pub items_of : {X : Type 0} → (List ℕ → Result (X × List ℕ) Fault) → List ℕ → Result (List X) Fault
items_of one value = joined_at comma (piece_at one) (suc (length value)) value >>= λ x. Ok
    (filter_map (λ piece. piece) x.0)

-- ---- errors, with their places counted from the start of a value of so many bytes

abbrev pub FitsIn : ℕ → ReadError → Type 0
FitsIn size stops.NoMemory = Unit {0}
FitsIn size (stops.Fault fault) = fault.left ≤ size

abbrev pub error_in : ℕ → ReadError → RelationError
error_in size stops.NoMemory = errors.NoMemory
error_in size (stops.Fault fault) = error_at fault.problem (size - fault.left)
