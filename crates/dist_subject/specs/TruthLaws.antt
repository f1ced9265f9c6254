-- Laws of the truth values of listed variables. No public clause cites them; proofs do, those of the crate above too.
use Rattle.std.proofs.Common.{◌≡◌, ℕ, ◌+◌, ◌<◌, ◌==◌, false, List, length, get_or, ◌∙◌, arith}
use Rattle.std.specs.List.{list_any, range_with_len}
use Rattle.std.proofs.lemmas.List.{length-map}
use Rattle.std.proofs.lemmas.List.FromFn.{get_or-map-range_with_len, length-range_with_len}
use Rattle.dist_subject.specs.Present.{truth_of}

pub truth-length : (n : ℕ) (variables : List ℕ) → length (truth_of n variables) ≡ n
truth-length n variables = length-map (range_with_len 1 n) (λ variable. list_any (λ v. variable == v) variables)
    ∙ length-range_with_len 1 n

pub truth-at : (n k : ℕ) (variables : List ℕ) → k < n
    → get_or (truth_of n variables) k false ≡ list_any (λ v. k + 1 == v) variables
truth-at n k variables within = get_or-map-range_with_len (λ variable. list_any (λ v. variable == v) variables) 1 n k
    (k + 1) false within (omega arith)
