-- What stands in a value takes at least so many bytes of it.
use Rattle.std.proofs.Common.{◌≡◌, ℕ, ◌<◌, ◌≤◌, List, [], ◌∷◌, ◌++◌, Option, None, Some, length, refl, sym, ap, arith, length-append, subst}
use Rattle.std.specs.Prelude.{sum_by, All, filter_map}
use Rattle.std.specs.List.{AllByRecursion}
use Rattle.std.proofs.lemmas.Bool.{false≢true}
use Rattle.std.proofs.lemmas.List.Elements.{All-from_recursion}
use Rattle.std.proofs.lemmas.List.Sums.{sum_by-cons}
use Rattle.dist_base.specs.Ascii.{bar, comma}
use Rattle.dist_relation.specs.declared.atom.Atom.{Atom}
use Rattle.dist_relation.specs.declared.atom.Kind.{Kind}
use Rattle.dist_relation.specs.declared.atom.Kind.TheVariants as kinds
use Rattle.dist_relation.specs.Bytes.{IsName}
use Rattle.dist_relation.specs.Grammar.{qualifier_text, SpellsAtom, Joined, SpellsPiece, ReadsValue, SpellsAlternatives, SpellsProvide, ReadsDepends}

-- each text has at least as many bytes as what it spells weighs
abbrev pub TakesBytes : {X : Type 0} → (X → ℕ) → (List ℕ → X → Type 0) → Type 0
TakesBytes {X} weight Spells = (text : List ℕ) (x : X) → Spells text x → weight x ≤ length text

name-some : (name : List ℕ) → IsName name → 0 < length name
name-some [] is = absurd (false≢true is)
name-some (b ∷ bs) is = omega arith

count-is : {X : Type 0} (xs : List X) → sum_by (λ x. 1) xs ≡ length xs
count-is [] = refl
count-is (x ∷ xs) = omega (arith, sum_by-cons (λ x. 1) x xs, count-is xs)

pub atom-takes : (kind : Kind) → TakesBytes (λ atom. 1) (SpellsAtom kind)
atom-takes kind text atom spells =
    let rest : List ℕ = qualifier_text atom.qualifier ++ (spells.between ++ (spells.bound ++ spells.after)) in
    omega (arith, name-some atom.name spells.is_name, ap length spells.whole, length-append spells.before (atom.name ++ rest), length-append atom.name rest)

pub joined-takes : {X : Type 0} (weight : X → ℕ) (between : ℕ) (Spells : List ℕ → X → Type 0) → TakesBytes weight Spells
    → TakesBytes (sum_by weight) (Joined between Spells)
joined-takes weight between Spells takes text [] joined = absurd (false≢true joined)
joined-takes weight between Spells takes text (x ∷ []) joined = omega (arith, sum_by-cons weight x [], takes text x joined)
joined-takes weight between Spells takes text (x ∷ y ∷ ys) joined =
    omega (
      arith,
      sum_by-cons weight x (y ∷ ys),
      takes joined.0 x joined.2,
      joined-takes weight between Spells takes joined.1 (y ∷ ys) joined.3,
      ap length joined.4,
      length-append joined.0 (between ∷ joined.1),
    )

joined-some : {X : Type 0} (between : ℕ) (Spells : List ℕ → X → Type 0) (text : List ℕ) (xs : List X) → Joined between Spells text xs → 0 < length xs
joined-some between Spells text [] joined = absurd (false≢true joined)
joined-some between Spells text (x ∷ xs) joined = omega arith

-- white space alone weighs nothing
abbrev piece_weight : {X : Type 0} → (X → ℕ) → Option X → ℕ
piece_weight weight None = 0
piece_weight weight (Some x) = weight x

piece-takes : {X : Type 0} (weight : X → ℕ) (Spells : List ℕ → X → Type 0) → TakesBytes weight Spells → TakesBytes (piece_weight weight) (SpellsPiece Spells)
piece-takes weight Spells takes text None spells = omega arith
piece-takes weight Spells takes text (Some x) spells = takes text x spells

pieces-weight : {X : Type 0} (weight : X → ℕ) (pieces : List (Option X))
    → sum_by weight (filter_map (λ piece. piece) pieces) ≡ sum_by (piece_weight weight) pieces
pieces-weight weight [] = refl
pieces-weight weight (None ∷ pieces) = omega (arith, sum_by-cons (piece_weight weight) None pieces, pieces-weight weight pieces)
pieces-weight weight (Some x ∷ pieces) =
    omega (arith, sum_by-cons (piece_weight weight) (Some x) pieces, sum_by-cons weight x (filter_map (λ piece. piece) pieces), pieces-weight weight pieces)

pub reads-takes : {X : Type 0} (weight : X → ℕ) (Spells : List ℕ → X → Type 0) → TakesBytes weight Spells → TakesBytes (sum_by weight) (ReadsValue Spells)
reads-takes weight Spells takes value items reads =
    omega (
      arith,
      joined-takes (piece_weight weight) comma (SpellsPiece Spells) (piece-takes weight Spells takes) value reads.pieces reads.joined,
      pieces-weight weight reads.pieces,
      ap (sum_by weight) reads.given,
    )

pub alternatives-take : TakesBytes (λ atoms. length atoms) SpellsAlternatives
alternatives-take text atoms spells =
    omega (arith, count-is atoms, joined-takes (λ atom. 1) bar (SpellsAtom kinds.Depends) (atom-takes kinds.Depends) text atoms spells)

pub provide-takes : TakesBytes (λ provide. 1) SpellsProvide
provide-takes text provide spells = atom-takes kinds.Provides text _ spells

pub counted : {X : Type 0} (Spells : List ℕ → X → Type 0) → TakesBytes (λ x. 1) Spells → (value : List ℕ) (items : List X) → ReadsValue Spells value items
    → length items ≤ length value
counted Spells takes value items reads = omega (arith, count-is items, reads-takes (λ x. 1) Spells takes value items reads)

-- ---- each item has an atom

pieces-all : {X : Type 0} (P : X → Type 0) (between : ℕ) (Spells : List ℕ → X → Type 0) → ((text : List ℕ) (x : X) → Spells text x → P x)
    → (text : List ℕ) (pieces : List (Option X)) → Joined between (SpellsPiece Spells) text pieces → AllByRecursion P (filter_map (λ piece. piece) pieces)
pieces-all P between Spells has text [] joined = absurd (false≢true joined)
pieces-all P between Spells has text (None ∷ []) joined = tt
pieces-all P between Spells has text (Some x ∷ []) joined = (has text x joined, tt)
pieces-all P between Spells has text (None ∷ y ∷ ys) joined = pieces-all P between Spells has joined.1 (y ∷ ys) joined.3
pieces-all P between Spells has text (Some x ∷ y ∷ ys) joined = (has joined.0 x joined.2, pieces-all P between Spells has joined.1 (y ∷ ys) joined.3)

pub items-some : (value : List ℕ) (items : List (List Atom)) → ReadsDepends value items → All (λ item. 0 < length item) items
items-some value items reads =
    let Some : List Atom → Type 0 = λ item. 0 < length item in
    let all = All-from_recursion Some _ (pieces-all Some comma SpellsAlternatives (joined-some bar (SpellsAtom kinds.Depends)) value reads.pieces reads.joined)
    in
    subst (All Some) (sym reads.given) all
