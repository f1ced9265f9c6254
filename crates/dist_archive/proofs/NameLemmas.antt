-- Names in use.
use Rattle.std.proofs.Common.{◌≡◌, ◌⊎◌, ◌↔◌, ℕ, ◌≤◌, Bool, false, true, List, [], ◌∷◌, Option, Some, None, Bor, length, refl, sym, ap, subst, ◌∙◌, inl, inr}
use Rattle.std.proofs.Common.{arith, slice_get}
use Rattle.std.specs.Prelude.{Any, IsTrue, MatchResult, Result, Ok, Err, is_some}
use Rattle.std.specs.Bool.{OnFalse, OnTrue}
use Rattle.std.specs.Option.{option_copied}
use Rattle.std.proofs.lemmas.Bool.{false≢true}
use Rattle.dist_base.specs.ListLaws.{any-at, any-contained, at-has, contains-at, found-at, here-at}
use Rattle.dist_repo.specs.PackageList.{PackageList}
use Rattle.dist_repo.specs.Providers.{AreProviders, IsEntryOf, IsProvider}
use Rattle.dist_repo.specs.declared.package.Package.{Package}
use Rattle.dist_future.specs.Future.{IsProvided, IsTaken}
use Rattle.dist_archive.specs.Archive.{IsHeldAs}
use Rattle.dist_archive.specs.BringingPrivate.{IsFree, IsFreeBlock}
use Rattle.dist_archive.specs.Refusals.{IsNameFault, IsOfOtherArchitecture, RefusesName}
use Rattle.dist_archive.specs.Steps.{IsHeld}
use Rattle.dist_archive.specs.declared.step.StepError.{StepError}
use Rattle.dist_archive.specs.declared.step.StepError.TheVariants.{OtherArchitecture, NotAbove, NotMember, NotAtVersion, WrongProvides, NotHeld}
use Rattle.dist_archive.specs.declared.step.StepError.TheVariants.{NotOne, NameTaken, NameVirtual, HasProvides, NoMemory}

pub held-some : (packages : List Package) (name : List ℕ) (answer : Option (Bor Package))
    → ((p : Package) → (option_copied answer ≡ Some p) ↔ IsHeldAs packages name p) → IsTrue (is_some answer) ↔ IsHeld packages name
held-some packages name None here = (
  (λ no. absurd (false≢true no)),
  λ held.
      let at = found-at (λ (n : Package). n.name ≡ name) packages held in
      let no-one : None ≡ Some at.element = (here at.element).1 (contains-at packages at.place at.element at.is, at.holds) in cc,
)
held-some packages name (Some p) here = (
  (λ yes. let there = (here p.now).0 refl in any-contained (λ (n : Package). n.name ≡ name) packages p.now there.0 there.1),
  λ held. refl,
)

pub provided-some : (r : PackageList) (name numbers : List ℕ) (first : Option (Bor ℕ)) → AreProviders r name numbers → ¬ IsTaken r name
    → option_copied first ≡ slice_get numbers 0 → IsTrue (is_some first) ↔ IsProvided r name
provided-some r name [] (Some n) are free is = absurd (let no-one : Some n.now ≡ None = is in cc)
provided-some r name [] None are free is = (
  (λ yes. absurd (false≢true yes)),
  λ provided.
      let at = found-at (λ (q : Package). Any (IsEntryOf r.architecture name) q.provides) r.packages provided in
      let there = (are.exact at.place).1 (at-has (IsProvider r.architecture name) r.packages at.place at.element at.is (inr at.holds)) in
      absurd (omega (arith, there.1)),
)
provided-some r name (k ∷ numbers) None are free is = absurd (let no-one : None ≡ Some k = is in cc)
provided-some r name (k ∷ numbers) (Some n) are free is = (
  (λ yes.
      let at = here-at (IsProvider r.architecture name) r.packages k ((are.exact k).0 (0, omega arith, refl)) in
      elim at.holds [
        | inl own ↦ absurd (free (any-at (λ (q : Package). q.name ≡ name) r.packages k at.element at.is own))
        | inr entry ↦ any-at (λ (q : Package). Any (IsEntryOf r.architecture name) q.provides) r.packages k at.element at.is entry
      ]),
  λ provided. refl,
)

-- neither of two
pub neither : {P Q : Type 0} (b : Bool) → (IsTrue b ↔ (P ⊎ Q)) → b ≡ false → (¬ P) × (¬ Q)
neither b both is = ((λ p. false≢true (sym is ∙ both.1 (inl p))), λ q. false≢true (sym is ∙ both.1 (inr q)))

pub not-so : {P : Type 0} (b : Bool) → (IsTrue b ↔ P) → b ≡ false → ¬ P
not-so b both is p = false≢true (sym is ∙ both.1 p)

pub on-true : (b : Bool) (P : Type 0) → (IsTrue b → P) → OnTrue b P
on-true true P holds = holds refl
on-true false P holds = tt

pub on-false : (b : Bool) (P : Type 0) → (b ≡ false → P) → OnFalse b P
on-false true P holds = tt
on-false false P holds = holds refl

pub no-elements : {X : Type 0} (xs : List X) → length xs ≤ 0 → xs ≡ []
no-elements [] short = refl
no-elements (x ∷ xs) short = absurd (omega (arith, short))

pub one-element : {X : Type 0} (xs : List X) (x : X) → length xs ≡ 1 → slice_get xs 0 ≡ Some x → xs ≡ x ∷ []
one-element [] x one is = absurd (omega (arith, one))
one-element (y ∷ []) x one is = let same : y ≡ x = cc in ap (λ z. z ∷ []) same
one-element (y ∷ z ∷ xs) x one is = absurd (omega (arith, one))

pub match-weaker : {E : Type 0} (result : Result (Unit {0}) E) (P P' : Type 0) (Q Q' : E → Type 0) → (P → P') → ((e : E) → Q e → Q' e)
    → MatchResult result (λ x. P) Q → MatchResult result (λ x. P') Q'
match-weaker (Ok x) P P' Q Q' first second holds = first holds
match-weaker (Err e) P P' Q Q' first second holds = second e holds

pub name-refused : (r : PackageList) (archive : List Package) (block : PackageList) (p : Package) → (¬ IsOfOtherArchitecture r block)
    → block.packages ≡ p ∷ [] → (e : StepError) → IsNameFault r archive p e → RefusesName r archive block e
name-refused r archive block p own one OtherArchitecture fault = absurd fault
name-refused r archive block p own one NotAbove fault = absurd fault
name-refused r archive block p own one (NotMember k) fault = absurd fault
name-refused r archive block p own one (NotAtVersion k) fault = absurd fault
name-refused r archive block p own one (WrongProvides k) fault = absurd fault
name-refused r archive block p own one NotHeld fault = absurd fault
name-refused r archive block p own one NotOne fault = absurd fault
name-refused r archive block p own one NameTaken fault = (own, (p, one, fault))
name-refused r archive block p own one NameVirtual fault = (own, (p, one, fault))
name-refused r archive block p own one HasProvides fault = (own, (p, one, fault))
name-refused r archive block p own one NoMemory fault = absurd fault

pub brought-one : (r : PackageList) (archive : List Package) (block : PackageList) (p : Package) → IsFreeBlock r archive block
    → slice_get block.packages 0 ≡ Some p → IsFree r archive p
brought-one r archive block p free is =
    let first : Some free.fresh ≡ Some p = sym (ap (λ (l : List Package). slice_get l 0) free.one) ∙ is in
    let same : free.fresh ≡ p = cc in
    subst (λ (x : Package). IsFree r archive x) same free.free
