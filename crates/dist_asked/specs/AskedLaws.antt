-- What the places that are asked give is what all give. No public clause cites these laws; proofs above do.
use Rattle.std.proofs.Common.{ℕ, ◌<◌, Bool, List, length, slice_get}
use Rattle.std.specs.Prelude.{IsSomeAnd}
use Rattle.std.proofs.lemmas.Option.{slice_get_within}
use Rattle.dist_base.specs.ListLaws.{at-has, contains-at, here-at}
use Rattle.dist_relation.specs.declared.atom.Atom.{Atom}
use Rattle.dist_asked.specs.AskedPlaces.{AreEnough, IsPlaceAsked}
use Rattle.dist_asked.specs.Within.{IsWithin}

-- what the atom at a place gives
abbrev pub GivesAt : {X : Type 0} → (Atom → X → Type 0) → List Atom → ℕ → X → Type 0
GivesAt Gives atoms place x = IsSomeAnd (slice_get atoms place) (λ atom. Gives atom x)

-- the place is asked, and has a property
pub record IsAskedAnd {X : Type 0} (marks : List Bool) (P : ℕ → X → Type 0) (place : ℕ) (x : X) : Type 0 where
  pub is_asked : IsPlaceAsked marks place
  pub has : P place x

-- a wider atom gives no less
abbrev pub IsByWidth : {X : Type 0} → (Atom → X → Type 0) → Type 0
IsByWidth {X} Gives = (atom other : Atom) (x : X) → IsWithin atom other → Gives atom x → Gives other x

-- a place of the list that is asked gives it
pub record IsGivenBy {X : Type 0} (Gives : Atom → X → Type 0) (atoms : List Atom) (marks : List Bool) (x : X) : Type 0
  where
    pub place : ℕ
    pub short : place < length atoms
    pub given : IsAskedAnd marks (GivesAt Gives atoms) place x

pub given-by : {X : Type 0} (Gives : Atom → X → Type 0) (atoms : List Atom) (marks : List Bool) → IsByWidth Gives
    → AreEnough atoms marks → (place : ℕ) (x : X) → GivesAt Gives atoms place x → IsGivenBy Gives atoms marks x
given-by {X} Gives atoms marks by enough place x here =
    let Of : Atom → Type 0 = λ atom. Gives atom x in
    let at = here-at Of atoms place here in
    let wide = enough at.element (contains-at atoms place at.element at.is) in
    record {
      place = wide.place;
      short = slice_get_within atoms wide.place wide.wider wide.is_wider;
      given = record {
        is_asked = wide.is_asked;
        has = at-has Of atoms wide.place wide.wider wide.is_wider (by at.element wide.wider x wide.within at.holds);
      };
    }
