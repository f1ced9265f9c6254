-- What holds of the space of a file.
use Rattle.std.proofs.Common.{◌≡◌, ℕ, List, Result, Ok, Err, inl, inr, subst, sym}
use Rattle.dist_base.specs.Answers.{Answers}
use Rattle.dist_space.specs.Space.{SpaceView}
use Rattle.dist_bench.specs.FutureClauses.{HasNoFutureClauses, HaveFutureCounts, HaveSpaceCounts, PassesFutureLimits}
use Rattle.dist_bench.specs.Futures.{OfSpace}
use Rattle.dist_bench.specs.declared.error.JobError.{JobError}
use Rattle.dist_bench.specs.declared.error.JobError.TheVariants.{NoMemory, TooManyClauses}
use Rattle.dist_bench.specs.declared.future_clauses.SetCounts.{SetCounts}

pub of-space : (text : List ℕ) (P Q : SpaceView → Type 0) → ((space : SpaceView) → P space → Q space) → OfSpace text P → OfSpace text Q
of-space text P Q goes (newest, is_newest, (space, is_space, has)) = (newest, is_newest, (space, is_space, goes space has))

-- what is answered of the space is answered of the file
pub counts-of : (text : List ℕ) (space : SpaceView) (r : Result SetCounts JobError) → OfSpace text (λ other. other ≡ space)
    → Answers (HaveSpaceCounts space) (λ error. (error ≡ TooManyClauses) × PassesFutureLimits space) NoMemory r
    → Answers (HaveFutureCounts text) (HasNoFutureClauses text) NoMemory r
counts-of text space (Ok counts) is has =
    of-space text (λ other. other ≡ space) (λ other. HaveSpaceCounts other counts)
    (λ other same. subst (λ (s : SpaceView). HaveSpaceCounts s counts) (sym same) has) is
counts-of text space (Err error) is (inl memory) = inl memory
counts-of text space (Err error) is (inr (told, passed)) =
    inr (inr (told, of-space text (λ other. other ≡ space) PassesFutureLimits (λ other same. subst PassesFutureLimits (sym same) passed) is))
