-- What is drawn: packages of small numbers, numbered from 0.
use Rattle.std.proofs.Common.{◌≡◌, ℕ, zero, suc, ◌+◌, ◌%◌, ◌/◌, ◌<◌, ◌≤◌, Bool, true, false, ◌==◌, List, [], ◌∷◌, ◌++◌, length, Some, None, refl, ap, ◌∙◌}
use Rattle.std.proofs.Common.{arith, length-append}
use Rattle.std.specs.Prelude.{if◌then◌else◌}
use Rattle.std.specs.List.{AllByRecursion}
use Rattle.dist_generate.specs.Draws.{Drawing, next_state, draw, give, ◌>>=◌, many}
use Rattle.dist_generate.specs.Generator.{Alternative, Drawn, alternative, item, items, conflict, drawn, generated_packages}
use Rattle.dist_generate.proofs.Small.{IsItem, AreItems, IsTarget, IsSmall}

-- ---- many draws

pub all-push : {X : Type 0} (P : X → Type 0) (xs : List X) (x : X) → AllByRecursion P xs → P x → AllByRecursion P (xs ++ x ∷ [])
all-push P [] x all here = (here, tt)
all-push P (y ∷ xs) x all here = (all.0, all-push P xs x all.1 here)

pub length-many : {X : Type 0} (each : ℕ → Drawing X) (count state : ℕ) → length (many each count state).0 ≡ count
length-many each zero state = refl
length-many each (suc count) state =
    length-append (many each count state).0 ((each count (many each count state).1).0 ∷ [])
    ∙ ap (λ n. n + 1) (length-many each count state) ∙ (omega arith)

all-many : {X : Type 0} (P : X → Type 0) (each : ℕ → Drawing X) → ((k state : ℕ) → P (each k state).0) → (count state : ℕ)
    → AllByRecursion P (many each count state).0
all-many P each holds zero state = tt
all-many P each holds (suc count) state =
    all-push P (many each count state).0 (each count (many each count state).1).0 (all-many P each holds count state) (holds count (many each count state).1)

-- ---- one package

module _ (number : ℕ) (some : 0 < number) (few : number < 10000) where
  alternative-small : (k state : ℕ) → (alternative number state).0.target < 10000
  alternative-small k state = omega arith

  item-small : (k state : ℕ) → IsItem (item number state).0
  item-small k state =
      let long = length-many (λ _. alternative number) (suc (next_state state / 65536 % 2)) (next_state state) in (
        omega (arith, long),
        omega (arith, long),
        all-many (λ (c : Alternative). c.target < 10000) (λ _. alternative number) alternative-small
            (suc (next_state state / 65536 % 2)) (next_state state),
      )

  items-few : (state : ℕ) → length (items number state).0 ≤ 2
  items-few state = omega (arith, length-many (λ _. item number) (next_state state / 65536 % 3) (next_state state))

  items-small : (state : ℕ) → AreItems (items number state).0
  items-small state = all-many IsItem (λ _. item number) item-small (next_state state / 65536 % 3) (next_state state)

  conflict-case : (b : Bool) (state : ℕ) → IsTarget ((if b then (draw number >>= λ other. give (Some other)) else give None) (next_state state)).0
  conflict-case true state = omega arith
  conflict-case false state = tt

  conflict-small : (state : ℕ) → IsTarget (conflict number state).0
  conflict-small state = conflict-case (next_state state / 65536 % 8 == 0) state

few-case : (b : Bool) (number state : ℕ) → (b ≡ false → 0 < number) → number < 10000 → length ((if b then give [] else items number) state).0 ≤ 2
few-case true number state some few = omega arith
few-case false number state some few = items-few number (some refl) few state

items-case : (b : Bool) (number state : ℕ) → (b ≡ false → 0 < number) → number < 10000 → AreItems ((if b then give [] else items number) state).0
items-case true number state some few = tt
items-case false number state some few = items-small number (some refl) few state

conflict-of : (b : Bool) (number state : ℕ) → (b ≡ false → 0 < number) → number < 10000 → IsTarget ((if b then give None else conflict number) state).0
conflict-of true number state some few = tt
conflict-of false number state some few = conflict-small number (some refl) few state

some-number : (number : ℕ) → (number == 0) ≡ false → 0 < number
some-number zero e = cc
some-number (suc n) e = omega arith

drawn-small : (number state : ℕ) → number < 10000 → IsSmall (drawn number state).0
drawn-small number state few = record {
  number = few;
  digit = omega arith;
  few = few-case (number == 0) number _ (some-number number) few;
  items = items-case (number == 0) number _ (some-number number) few;
  conflict = conflict-of (number == 0) number _ (some-number number) few;
}

-- ---- all packages

abbrev pub AreSmall : List Drawn → Type 0
AreSmall all = AllByRecursion IsSmall all

-- their numbers count up
abbrev pub AreNumbered : ℕ → List Drawn → Type 0
AreNumbered number [] = Unit {0}
AreNumbered number (d ∷ all) = (d.number ≡ number) × AreNumbered (number + 1) all

numbered-push : (number : ℕ) (all : List Drawn) (d : Drawn) → AreNumbered number all → d.number ≡ number + length all → AreNumbered number (all ++ d ∷ [])
numbered-push number [] d numbered is = (omega arith, tt)
numbered-push number (first ∷ all) d numbered is = (numbered.0, numbered-push (number + 1) all d numbered.1 (omega arith))

pub packages-small : (size seed : ℕ) → size ≤ 10000 → AreSmall (generated_packages size seed)
packages-small zero seed few = tt
packages-small (suc size) seed few =
    all-push IsSmall (many drawn size seed).0 (drawn size (many drawn size seed).1).0 (packages-small size seed (omega arith))
    (drawn-small size (many drawn size seed).1 (omega arith))

pub packages-numbered : (size seed : ℕ) → AreNumbered 0 (generated_packages size seed)
packages-numbered zero seed = tt
packages-numbered (suc size) seed =
    numbered-push 0 (many drawn size seed).0 (drawn size (many drawn size seed).1).0 (packages-numbered size seed) (omega (arith, length-many drawn size seed))
