-- A frame with its meanings is a space.
use Rattle.std.proofs.Common.{◌≡◌, ℕ, ◌-◌, ◌≤◌, Bool, List, length, Some, Result, Ok, Err, refl, sym, ap, subst, ◌∙◌, arith, slice_get}
use Rattle.dist_base.specs.declared.TheConstants.{MAX_VARIABLES}
use Rattle.dist_base.specs.Answers.{IsExactly}
use Rattle.dist_base.specs.ListLaws.{contains-at}
use Rattle.dist_repo.specs.PackageList.{PackageList}
use Rattle.dist_space.specs.Kept.{IsFrameOf, IsFull}
use Rattle.dist_space.specs.NumberingPrivate.{meanings_of}
use Rattle.dist_space.specs.Space.{AreMeaningsOf, IsFrame, IsSpace, SpaceView, IsMeaningOf}
use Rattle.dist_space.specs.SpaceOf.{HasMoreVariables, IsSpaceOf}
use Rattle.dist_space.specs.declared.errors.SpaceError.{SpaceError}
use Rattle.dist_space.specs.declared.errors.SpaceError.TheVariants.{TooManyVariables, NoMemory}
use Rattle.dist_space.specs.declared.meaning.Meaning.{Meaning}
use Rattle.dist_space.proofs.NumberingLemmas.{numbered}
use Rattle.dist_space.specs.VariableLaws.{variable-back}

abbrev pub with_meanings : SpaceView → List Meaning → SpaceView
with_meanings s ms = record s { meanings = ms }

framed-with : (s : SpaceView) (ms : List Meaning) → IsFrame s → IsFrame (with_meanings s ms)
framed-with s ms frame = record {
  flat = frame.flat;
  clusters = frame.clusters;
  placed = frame.placed;
  classes_beside = frame.classes_beside;
  classes = frame.classes;
  examples = frame.examples;
  names = frame.names;
  name_classes_beside = frame.name_classes_beside;
  name_classes = frame.name_classes;
  name_examples = frame.name_examples;
}

pub whole : (s : SpaceView) (ms : List Meaning) → IsFrame s → ms ≡ meanings_of s → IsSpace (with_meanings s ms)
whole s ms frame is =
    let own = numbered s frame in
    let at : AreMeaningsOf s (λ m. Unit {0}) ms = subst (AreMeaningsOf s (λ m. Unit {0})) (sym is) own in
    record { frame = framed-with s ms frame; meanings = record { rising = at.rising; exact = at.exact } }

pub whole-of : (r : PackageList) (essential : Bool) (s : SpaceView) (ms : List Meaning) → IsFrameOf r essential s → ms ≡ meanings_of s
    → IsSpaceOf r essential (with_meanings s ms)
whole-of r essential s ms of is = record { space = whole s ms of.frame is; repository = of.repository; essential_is = of.essential_is }

-- exactly where there are too many
pub exactly-none : {X : Type 0} (r : PackageList) (essential : Bool) (s : SpaceView) (variables : ℕ) (e : SpaceError) (result : Result X SpaceError)
    → result ≡ Err e → IsFrameOf r essential s → IsFull variables (length (meanings_of s)) e
    → IsExactly NoMemory result TooManyVariables (HasMoreVariables r essential variables)
exactly-none r essential s variables TooManyVariables result is of full =
    λ some. (λ err. (with_meanings s (meanings_of s), whole-of r essential s (meanings_of s) of refl, full), λ more. is)
exactly-none r essential s variables NoMemory result is of full = λ some. absurd (some is)

pub exactly-some : {X : Type 0} (r : PackageList) (essential : Bool) (s : SpaceView) (variables : ℕ) (result : Result X SpaceError) (space : X)
    → result ≡ Ok space → IsSpaceOf r essential s → length s.meanings ≤ variables
    → ((a b : SpaceView) → IsSpaceOf r essential a → IsSpaceOf r essential b → b ≡ a)
    → IsExactly NoMemory result TooManyVariables (HasMoreVariables r essential variables)
exactly-some r essential s variables result space is of within one = λ some. (
  λ err. absurd (let no : Ok space ≡ Err TooManyVariables = sym is ∙ err in cc),
  λ more. absurd (let same = ap (λ (x : SpaceView). length x.meanings) (one s more.0 of more.1) in let past = more.2 in omega (arith, within, same, past)),
)

pub meaning-of : (s : SpaceView) (m : Meaning) (variable : ℕ) → IsSpace s → 1 ≤ variable → variable ≤ MAX_VARIABLES
    → slice_get s.meanings (variable - 1) ≡ Some m → IsMeaningOf s variable m
meaning-of s m variable space from stated is = record {
  space = space;
  is_meaning = ((space.meanings.exact m).0 (contains-at s.meanings (variable - 1) m is)).0;
  variable_is = variable-back s m variable space from is;
  stated = stated;
}
