-- What is answered: a plan, or the first misfit.
use Rattle.std.proofs.Common.{◌≡◌, ◌≢◌, ◌↔◌, ℕ, List, length, refl, ap, subst}
use Rattle.std.specs.Prelude.{Err, IfOk, IsOk, MatchResult, Ok, Result}
use Rattle.std.proofs.lemmas.Bool.{false≢true}
use Rattle.dist_base.specs.Answers.{IsExactly}
use Rattle.dist_repo.specs.Order.{IsFlat}
use Rattle.dist_repo.specs.declared.package.Package.{Package}
use Rattle.dist_space.specs.Space.{IsFrame, SpaceView}
use Rattle.dist_future.specs.Future.{IsFuture}
use Rattle.dist_archive.specs.FoundPrivate.{AllFit, IsReason}
use Rattle.dist_archive.specs.Reach.{AreTaken, IsFirstMisfit, IsPlan}
use Rattle.dist_archive.specs.Steps.{Lead}
use Rattle.dist_archive.specs.declared.plan.ReachError.{ReachError}
use Rattle.dist_archive.specs.declared.plan.ReachError.TheVariants.{NotAFuture, NoMemory}
use Rattle.dist_archive.specs.declared.step.Step.{Step}
use Rattle.dist_archive.proofs.FitLemmas.{fits-future, misfit-no_future, one-misfit}
use Rattle.dist_archive.proofs.StageLemmas.{plan-leads}
use Rattle.dist_archive.proofs.TakenLemmas.{plan-taken}

pub match-ok : {X E : Type 0} (result : Result X E) (P S : X → Type 0) (Q : E → Type 0) → ((x : X) → P x → S x) → MatchResult result P Q → IfOk result S
match-ok (Ok x) P S Q more holds = more x holds
match-ok (Err e) P S Q more holds = tt

module _ (s : SpaceView) (frame : IsFrame s) (later : List Package) where
  -- ---- where all fits

  module _ (one : IsFlat later) (fits : AllFit s.repository later (length later)) (result : Result (List Step) ReachError)
      (answer : MatchResult result (IsPlan s later) (λ e. e ≡ NoMemory)) where
    is-future : IsFuture s.repository later
    is-future = fits-future s.repository frame.flat later fits one

    pub planned-plan : IfOk result (IsPlan s later)
    planned-plan = match-ok result (IsPlan s later) (IsPlan s later) (λ e. e ≡ NoMemory) (λ plan is. is) answer

    pub planned-leads : IfOk result (λ plan. Lead s plan s.repository.packages later)
    planned-leads = match-ok result (IsPlan s later) (λ plan. Lead s plan s.repository.packages later) (λ e. e ≡ NoMemory)
        (λ plan is. plan-leads s frame later is-future plan is) answer

    pub planned-taken : IfOk result (λ plan. AreTaken s plan s.repository.packages later)
    planned-taken = match-ok result (IsPlan s later) (λ plan. AreTaken s plan s.repository.packages later) (λ e. e ≡ NoMemory)
        (λ plan is. plan-taken s frame later is-future plan is) answer

    pub planned-future : result ≢ Err NoMemory → IsOk result ↔ IsFuture s.repository later
    planned-future = by result answer
      where
        by : (r : Result (List Step) ReachError) → MatchResult r (IsPlan s later) (λ e. e ≡ NoMemory) → r ≢ Err NoMemory
            → IsOk r ↔ IsFuture s.repository later
        by (Ok plan) is ample = ((λ yes. is-future), λ future. refl)
        by (Err e) is ample = absurd (ample (ap (λ (x : ReachError). Err x) is))

    pub planned-misfit : (number : ℕ) → IsExactly NoMemory result (NotAFuture number) (IsFirstMisfit s.repository later number)
    planned-misfit number = by result answer
      where
        by : (r : Result (List Step) ReachError) → MatchResult r (IsPlan s later) (λ e. e ≡ NoMemory)
            → IsExactly NoMemory r (NotAFuture number) (IsFirstMisfit s.repository later number)
        by (Ok plan) is ample = (
          (λ no. absurd (other plan no)),
          λ misfit. absurd (misfit-no_future s.repository frame.flat later number misfit is-future),
        )
          where
            other : (plan : List Step) → (let r : Result (List Step) ReachError = Ok plan in r ≡ Err (NotAFuture number)) → ⊥
            other plan is = cc
        by (Err e) is ample = absurd (ample (ap (λ (x : ReachError). Err x) is))

  -- ---- where something does not fit

  pub refused-future : (error : ReachError) → IsReason s.repository later error
      → (let result : Result (List Step) ReachError = Err error in result ≢ Err NoMemory → IsOk result ↔ IsFuture s.repository later)
  refused-future (NotAFuture k) misfit ample = (
    (λ no. absurd (false≢true no)),
    λ future. absurd (misfit-no_future s.repository frame.flat later k misfit future),
  )
  refused-future NoMemory misfit ample = absurd (ample refl)

  pub refused-misfit : (error : ReachError) → IsReason s.repository later error → (number : ℕ)
      → (let result : Result (List Step) ReachError = Err error in IsExactly NoMemory result (NotAFuture number) (IsFirstMisfit s.repository later number))
  refused-misfit (NotAFuture k) misfit number ample = (
    (λ is. let same : k ≡ number = same-number k number is in subst (λ (n : ℕ). IsFirstMisfit s.repository later n) same misfit),
    λ other. ap (λ (n : ℕ). Err (NotAFuture n)) (one-misfit s.repository frame.flat later k number misfit other),
  )
    where
      same-number : (a b : ℕ) → (let r : Result (List Step) ReachError = Err (NotAFuture a) in r ≡ Err (NotAFuture b)) → a ≡ b
      same-number a b is = cc
  refused-misfit NoMemory misfit number ample = absurd (ample refl)
